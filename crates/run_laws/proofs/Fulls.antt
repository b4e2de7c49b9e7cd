-- What a phaser refuses by 15 is allowed but for room; and by 14 it refuses a registration where there is none for
-- it.
use Rattle.std.proofs.Common.{◌≡◌, ℕ, Bool, true, false, ◌&&◌, ◌||◌, ◌==◌, not, nat_lt, cond, List, [], ◌∷◌, Option, Some, None, refl, sym, subst, ◌∙◌, inl, inr, ℤ}
use Rattle.std.specs.List.{list_all}
use Rattle.std.proofs.lemmas.Bool.Decides.{Decides-int_eq}
use Rattle.std.proofs.lemmas.Bool.{and_from, cases_Bool, not-true, true≢false, false≢true, not-false}
use Rattle.phase_modes.specs.Mode.{can_wait}
use Rattle.phase_modes.specs.Refusal.{are_met, first_refusal, number_of}
use Rattle.phase_modes.specs.declared.limits.Limits.{Limits}
use Rattle.phase_modes.specs.declared.phased.Pair.{Pair}
use Rattle.phase_modes.specs.declared.reg.Mode.{Mode}
use Rattle.phase_modes.specs.declared.refusal.Refusal.{Refusal}
use Rattle.phase_modes.specs.declared.refusal.Refusal.TheVariants.{NotRegistered, MoreThanParent, TasksFull, RegisteredTwice, RegsFull}
use Rattle.phase_modes.proofs.FirstRefusal.{met_where_none}
use Rattle.phase_model.specs.declared.call.Call.{Call}
use Rattle.phase_model.specs.declared.call.Call.TheVariants as calls
use Rattle.phase_model.specs.declared.history.Event.{Event}
use Rattle.phase_model.specs.declared.history.Event.TheVariants as events
use Rattle.phase_model.specs.declared.op.Look.{Look as Seen}
use Rattle.phase_model.specs.declared.op.Look.TheVariants.{Value, Nothing}
use Rattle.phase_model.specs.declared.terms.Terms.{Terms}
use Rattle.phase_model.specs.Conditions.{conditions, is_within_task}
use Rattle.phase_model.specs.Phases.{waits, signals, is_closed, is_within_bound}
use Rattle.phase_model.specs.Replies as phaser
use Rattle.phase_model.specs.Rules.{is_permitted, has_room, same_look, look_of}
use Rattle.phase_model.specs.Singles.{is_settled}
use Rattle.phase_model.specs.Tasks.{has_mode, is_live, is_registered, live_count}
use Rattle.world_model.specs.declared.event.Step.TheVariants.{Reg}
use Rattle.world_model.specs.declared.event.Begun.TheVariants.{Async, Signal, Wait, Next, NextSingle, Shut, End}
use Rattle.world_model.specs.declared.event.Tried.{Tried}
use Rattle.world_model.specs.declared.event.Tried.TheVariants.{Begun as Beginning, New, Open, Send as Sending, Look as Looking}
use Rattle.world_model.specs.declared.event.WorldEvent.{WorldEvent}
use Rattle.world_model.specs.ActConditions.{own_conditions, pair_conditions}
use Rattle.world_model.specs.Acts.{facts, act_conditions, act_done, act_reply, unless}
use Rattle.world_model.specs.GivingUp.{is_refused_by}
use Rattle.world_model.specs.PartReplies.{returned, phaser_reply}
use Rattle.world_model.specs.Parts.{phaser_past, terms_of, story_of}
use Rattle.run_laws.proofs.Failures.{refused_in}

-- ---- by 15

-- none of these refuses by 15
abbrev pub keep_room : List (Refusal × Bool) → Bool
keep_room cs = list_all (λ (c : Refusal × Bool). not (number_of c.0 == 15)) cs

not_full : (cs : List (Refusal × Bool)) (r : Refusal) → keep_room cs ≡ true → first_refusal cs ≡ Some r
    → (number_of r == 15) ≡ false
not_full cs r a k = not-true (number_of r == 15) (refused_in (λ x. not (number_of x == 15)) cs r a k)

done_is_no_refusal : (k : ℕ) (h : List Event) (e : Event)
    → is_refused_by k (returned h (phaser.done e)) ≡ false
done_is_no_refusal k h (events.Pass t) = refl
done_is_no_refusal k h (events.Look t a x) = refl
done_is_no_refusal k h e = refl

-- what is decided so is decided by room alone
record IsByRoom (o : Option Refusal) (waiting room : Bool) : Type 0 where
  met : o ≡ None
  free : waiting ≡ false
  full : room ≡ false

by_room : (h : List Event) (o : Option Refusal) (waiting room : Bool) (e : Event)
    → ((r : Refusal) → o ≡ Some r → (number_of r == 15) ≡ false)
    → is_refused_by 15 (returned h (phaser.decided o waiting room e)) ≡ true → IsByRoom o waiting room
by_room h (Some r) waiting room e never k = absurd (false≢true (sym (never r refl) ∙ k))
by_room h None true room e never k = absurd (false≢true k)
by_room h None false true e never k = absurd (false≢true (sym (done_is_no_refusal 15 h e) ∙ k))
by_room h None false false e never k = record { met = refl; free = refl; full = refl }

same_as_itself : (x : Seen ℤ) → same_look x x ≡ true
same_as_itself (Value v) = (Decides-int_eq v v).1 refl
same_as_itself Nothing = refl

goes_on : (m w x c : Bool) → m ≡ true → (w && not (m && (not w || x)) && not c) ≡ false → c ≡ false
    → (m && (not w || x)) ≡ true
goes_on true false x c k n e = refl
goes_on true true true c k n e = refl
goes_on true true false true k n e = absurd (true≢false e)
goes_on true true false false k n e = absurd (true≢false n)
goes_on false w x c k n e = absurd (false≢true k)

-- a call whose conditions are met, and that need not wait, is permitted
permitted : (l : Limits) (terms : Terms) (h : List Event) (c : Call) → are_met (conditions l terms h c) ≡ true
    → phaser.must_wait l terms h c ≡ false → is_permitted l terms h (phaser.event_for l terms h c) ≡ true
permitted l terms h (calls.Make t m) k w = k
permitted l terms h (calls.Register q t m) k w = k
permitted l terms h (calls.Signal t x) k w =
    and_from (are_met (conditions l terms h (calls.Signal t x)))
    (is_within_bound terms.bound (signals t h) h) k
    (not-false (is_within_bound terms.bound (signals t h) h) w)
permitted l terms h (calls.Pass t) k w =
    elim (cases_Bool (is_permitted l terms h (events.Claim t))) [
      | inl e ↦ subst (λ b. is_permitted l terms h (cond b (events.Claim t) (events.Pass t)) ≡ true) (sym e) e
      | inr e ↦
          subst (λ b. is_permitted l terms h (cond b (events.Claim t) (events.Pass t)) ≡ true) (sym e)
          (goes_on (are_met (conditions l terms h (calls.Pass t))) (has_mode can_wait t h)
          (is_closed (waits t h) h && is_settled (waits t h) h) (is_permitted l terms h (events.Claim t))
          k w e)
    ]
permitted l terms h (calls.SingleDone t) k w = k
permitted l terms h (calls.Send t a v) k w = k
permitted l terms h (calls.Look t a) k w =
    let x = look_of terms.ops a (waits t h) h in
    and_from (are_met (conditions l terms h (calls.Look t a))) (same_look x x) k (same_as_itself x)
permitted l terms h (calls.Drop t) k w = k

-- the event of a call is allowed but for room
pub record IsFull (l : Limits) (terms : Terms) (h : List Event) (e : Event) : Type 0 where
  pub permitted : is_permitted l terms h e ≡ true
  pub full : has_room l (e ∷ h) ≡ false

pub phaser_full : (l : Limits) (n : ℕ) (w : List WorldEvent) (c : Call)
    → keep_room (conditions l (terms_of n w) (phaser_past n w) c) ≡ true
    → is_refused_by 15 (returned (phaser_past n w) (phaser.reply (story_of l n w) c)) ≡ true
    → IsFull l (terms_of n w) (phaser_past n w) (phaser.event_for l (terms_of n w) (phaser_past n w) c)
phaser_full l n w c a k =
    let terms = terms_of n w in
    let h = phaser_past n w in
    let e = phaser.event_for l terms h c in
    let r =
    by_room h (first_refusal (conditions l terms h c)) (phaser.must_wait l terms h c) (has_room l (e ∷ h)) e
    (λ r is. not_full (conditions l terms h c) r a is) k in
    record {
      permitted = permitted l terms h c (met_where_none (conditions l terms h c) r.met) r.free;
      full = r.full;
    }

-- ---- an act that is refused by 15

pairs_keep : (w : List WorldEvent) (t : ℕ) (named : List ℕ) (ps : List Pair)
    → keep_room (pair_conditions (facts w t) named ps) ≡ true
pairs_keep w t named [] = refl
pairs_keep w t named (p ∷ ps) = pairs_keep w t (p.phaser ∷ named) ps

own_keep : (l : Limits) (w : List WorldEvent) (t : ℕ) (a : Tried) → keep_room (own_conditions l (facts w t) a) ≡ true
own_keep l w t (New n m terms) = refl
own_keep l w t (Open f) = refl
own_keep l w t (Sending n a v) = refl
own_keep l w t (Looking n a) = refl
own_keep l w t (Beginning (Async c ps)) = pairs_keep w t [] ps
own_keep l w t (Beginning Signal) = refl
own_keep l w t (Beginning Wait) = refl
own_keep l w t (Beginning Next) = refl
own_keep l w t (Beginning (NextSingle x)) = refl
own_keep l w t (Beginning Shut) = refl
own_keep l w t (Beginning End) = refl

-- is so by its phaser or its finish
pub act_full : (l : Limits) (w : List WorldEvent) (t : ℕ) (a : Tried)
    → is_refused_by 15 (act_reply l w t a) ≡ true
    → is_refused_by 15 (act_done l w t a) ≡ true
act_full l w t a k = by_first (first_refusal (act_conditions l w t a)) refl k
  where
    by_first : (o : Option Refusal) → first_refusal (act_conditions l w t a) ≡ o
        → is_refused_by 15 (unless o (act_done l w t a)) ≡ true → is_refused_by 15 (act_done l w t a) ≡ true
    by_first None e h = h
    by_first (Some r) e h =
        absurd (false≢true (sym (not_full (act_conditions l w t a) r (own_keep l w t a) e) ∙ h))

-- ---- by 14

abbrev by_fourteen : Option Refusal → Bool
by_fourteen (Some r) = number_of r == 14
by_fourteen None = false

five : (a b c d e : Bool)
    → by_fourteen (first_refusal ((NotRegistered, a) ∷ (MoreThanParent, b) ∷ (TasksFull, c)
    ∷ (RegisteredTwice, d) ∷ (RegsFull, e) ∷ [])) ≡ true
    → e ≡ false
five false b c d e k = absurd (false≢true k)
five true false c d e k = absurd (false≢true k)
five true true false d e k = absurd (false≢true k)
five true true true false e k = absurd (false≢true k)
five true true true true false k = refl
five true true true true true k = absurd (false≢true k)

pub regs_full : (l : Limits) (w : List WorldEvent) (n q c : ℕ) (m : Mode)
    → is_refused_by 14 (phaser_reply l w n (Reg q c m)) ≡ true
    → nat_lt (live_count (phaser_past n w)) l.regs ≡ false
regs_full l w n q c m k =
    let h = phaser_past n w in
    let cs = conditions l (terms_of n w) h (calls.Register q c m) in
    five (is_live q h) (is_within_task m q h) (nat_lt c l.tasks) (not (is_registered c h))
    (nat_lt (live_count h) l.regs)
    (by_first (first_refusal cs) (has_room l (events.Reg q c m ∷ h)) k)
  where
    by_first : (o : Option Refusal) (room : Bool)
        → is_refused_by 14 (returned (phaser_past n w) (phaser.decided o false room (events.Reg q c m))) ≡ true
        → by_fourteen o ≡ true
    by_first (Some r) room h = h
    by_first None true h = absurd (false≢true h)
    by_first None false h = absurd (false≢true h)
