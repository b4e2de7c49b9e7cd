-- What a call leaves of the fact that is kept of a slot.
use Rattle.std.proofs.Common.{◌≡◌, ℕ, ◌+◌, false, List, [], Option, Some, None, refl, ap, sym, ◌∙◌, subst, arith}
use Rattle.phase_modes.specs.Lists.{is_empty}
use Rattle.phase_model.specs.declared.call.Call.{Call}
use Rattle.phase_model.specs.declared.history.Event.{Event}
use Rattle.phase_model.specs.declared.terms.Terms.{Terms}
use Rattle.phase_model.specs.Laws.{IsLegal}
use Rattle.phase_model.specs.Replies.{Reply, refused, not_yet, done, reply, after}
use Rattle.phase_model.specs.Rules.{Story}
use Rattle.told_history.specs.declared.wide.LongEvent.{LongEvent}
use Rattle.phaser_core.specs.LongLife.{long_limits}
use Rattle.long_locks.specs.Events.{with_one}
use Rattle.told_history.specs.Stories.{GoesOn}
use Rattle.told_history.specs.Stories.{IsAnswered}
use Rattle.live_tables.specs.declared.noted.SlotNoted.{SlotNoted}
use Rattle.live_tables.specs.Slots.{past_of, terms_of, told_of, noted, IsHere, IsNext}
use Rattle.live_tables.proofs.Projects.{past_here, terms_here, terms_first, legal_by, none_later, none_apart}

-- a reply leaves the limits and the terms
same_terms : (s : Story) (r : Reply) → after s r ≡ record { limits = s.limits; terms = s.terms; past = (after s r).past }
same_terms s (refused e) = refl
same_terms s not_yet = refl
same_terms s (done e) = refl

some_more : (o : Option LongEvent) (h : List Event) → is_empty h ≡ false → is_empty (with_one o h) ≡ false
some_more (Some e) h some = refl
some_more None h some = some

-- the log with the event that the reply adds tells the phaser's story
pub told_after : (n : ℕ) (terms : Terms) (o : Option LongEvent) (xs : List SlotNoted) (s s' : Story) (r : Reply)
    → IsHere n xs s → s' ≡ after s r → (after s r).past ≡ with_one o s.past → told_of n (noted n terms o xs) ≡ s'
told_after n terms o xs s s' r here is adds =
    ap (λ (h : List Event). record { limits = long_limits; terms = terms_of n (noted n terms o xs); past = h }) (past_here n terms o xs)
    ∙ (ap (λ (t : Terms). record { limits = long_limits; terms = t; past = with_one o (past_of n xs) }) (terms_here n terms o xs here.made)
    ∙ (ap (λ (v : Story). record { limits = v.limits; terms = v.terms; past = with_one o v.past }) here.told
    ∙ (ap (λ (h : List Event). record { limits = s.limits; terms = s.terms; past = h }) (sym adds) ∙ (sym (same_terms s r) ∙ sym is))))

-- so it is kept
pub here_after : (n : ℕ) (terms : Terms) (o : Option LongEvent) (xs : List SlotNoted) (s s' : Story) (r : Reply)
    → IsHere n xs s → s' ≡ after s r → (after s r).past ≡ with_one o s.past → IsLegal s' → IsHere n (noted n terms o xs) s'
here_after n terms o xs s s' r here is adds legal =
    let told = told_after n terms o xs s s' r here is adds in
    record {
      told = told;
      made = ap (λ (h : List Event). is_empty h) (past_here n terms o xs) ∙ some_more o (past_of n xs) here.made;
      legal = legal_by n terms o xs here.legal (subst (λ (v : Story). IsLegal v) (sym told) legal);
      later = λ k less. none_later n k terms o xs less (here.later k less);
      gone = λ k other. none_apart n k terms o xs other (here.gone k other);
    }

-- and the call has its receipt
pub receipt : (Is : List Event → Reply → Type 0) (c : Call) (n : ℕ) (seen xs ys : List SlotNoted) (s s' : Story)
    → told_of n xs ≡ s → GoesOn (told_of n seen) (told_of n xs) → Is s.past (reply s c) → s' ≡ after s (reply s c) → told_of n ys ≡ s'
    → IsAnswered Is c (told_of n seen) (told_of n ys)
receipt Is c n seen xs ys s s' same goes is now all = (s, subst (λ (v : Story). GoesOn (told_of n seen) v) same goes, is, all ∙ now)

-- a phaser that is made now
pub here_first : (n : ℕ) (terms : Terms) (e : LongEvent) (xs : List SlotNoted) (s' : Story)
    → IsNext n xs → told_of n (noted n terms (Some e) xs) ≡ s' → IsLegal s' → IsHere n (noted n terms (Some e) xs) s'
here_first n terms e xs s' next told legal =
    record {
      told = told;
      made = ap (λ (h : List Event). is_empty h) (past_here n terms (Some e) xs);
      legal = legal_by n terms (Some e) xs next.legal (subst (λ (v : Story). IsLegal v) (sym told) legal);
      later = λ k less. none_later n k terms (Some e) xs less (next.later k (omega (arith, less)));
      gone = λ k other. none_apart n k terms (Some e) xs other (next.gone k);
    }

pub told_first : (n : ℕ) (terms : Terms) (e : LongEvent) (xs : List SlotNoted) (h : List Event)
    → IsNext n xs → with_one (Some e) [] ≡ h → told_of n (noted n terms (Some e) xs) ≡ record { limits = long_limits; terms = terms; past = h }
told_first n terms e xs h next is =
    let none : past_of n xs ≡ [] = next.later n (omega arith) in
    ap (λ (l : List Event). record { limits = long_limits; terms = terms_of n (noted n terms (Some e) xs); past = l }) (past_here n terms (Some e) xs ∙ (ap (λ (l : List Event). with_one (Some e) l) none ∙ is))
    ∙ ap (λ (t : Terms). record { limits = long_limits; terms = t; past = h }) (terms_first n terms e xs none)
