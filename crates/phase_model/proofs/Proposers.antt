-- Who proposed for a phase whose single is open stands before that phase's end,
-- and somebody may claim it or report it done.
use Rattle.std.proofs.Common.{◌≡◌, ◌⊎◌, ℕ, ◌+◌, Bool, true, false, ◌&&◌, ◌||◌, ◌==◌, not, nat_lt, List, [], ◌∷◌, Option, Some, None, refl, sym, subst, ap, ◌∙◌, inl, inr, arith}
use Rattle.std.specs.List.{list_any}
use Rattle.std.specs.Option.{option_map_or}
use Rattle.std.proofs.lemmas.Bool.{and_parts, and_from, or_cases, or_parts, or_right, or_left, cases_Bool, eqb-true, eq-eqb, true≢false, false_from_ne_true}
use Rattle.phase_modes.specs.declared.reg.Mode.{Mode}
use Rattle.phase_modes.specs.declared.reg.Mode.TheVariants.{Sig as OnlySig, Wait as OnlyWait, SigWait, Single}
use Rattle.phase_modes.specs.declared.limits.Limits.{Limits}
use Rattle.phase_modes.specs.Lists.{is_empty}
use Rattle.phase_modes.specs.Mode.{can_wait, can_single}
use Rattle.phase_model.specs.declared.history.Event.{Event}
use Rattle.phase_model.specs.declared.history.Event.TheVariants.{Make, Reg, Sig, Claim, Did, Pass, Drop}
use Rattle.phase_model.specs.declared.terms.Terms.{Terms}
use Rattle.phase_model.specs.Tasks.{is_registered, is_dropped, is_live, has_mode, mode_of}
use Rattle.phase_model.specs.Phases.{waits, signals, is_closed}
use Rattle.phase_model.specs.Singles.{Proposal, proposals, is_proposed, has_proposed, has_claimed, is_claimed, is_done, is_settled, owes_none_of, owes_nothing}
use Rattle.phase_model.specs.Rules.{is_permitted, is_legal}
use Rattle.phase_model.proofs.Legal.{last_follows, reg_follows, sig_follows, pass_follows, implied}
use Rattle.phase_model.proofs.Closing.{some_live}
use Rattle.phase_model.proofs.SingleRules.{proposal_follows, claim_follows}

-- t is live, is a single's, and has signalled phase p and not passed it
pub record IsBefore (t p : ℕ) (h : List Event) : Type 0 where
  pub live : is_live t h ≡ true
  pub single : has_mode can_single t h ≡ true
  pub at : waits t h ≡ p
  pub ahead : signals t h ≡ p + 1

abbrev pub Owes : ℕ → ℕ → List Event → Type 0
Owes t p h = has_proposed t p h ≡ true → is_done p h ≡ false → IsBefore t p h

not_twice : (w s p : ℕ) → s ≡ w → w ≡ p → s ≡ p + 1 → ⊥
not_twice w s p a b c = omega arith

waits_single : (m : Mode) → can_single m ≡ true → can_wait m ≡ true
waits_single Single k = refl
waits_single OnlySig k = absurd cc
waits_single OnlyWait k = absurd cc
waits_single SigWait k = absurd cc

-- a single's task waits
pub single_waits : (t : ℕ) (h : List Event) → has_mode can_single t h ≡ true → has_mode can_wait t h ≡ true
single_waits t h =
    elim (mode_of t h)
    as (λ o. option_map_or can_single o false ≡ true → option_map_or can_wait o false ≡ true) [
      | None ↦ λ k. absurd cc
      | Some m ↦ λ k. waits_single m k
    ]

-- a proposal by t is one by somebody
somebody : (t p : ℕ) (xs : List Proposal) → list_any (λ x. x.task == t && x.phase == p) xs ≡ true
    → list_any (λ x. x.phase == p) xs ≡ true
somebody t p [] k = absurd cc
somebody t p (x ∷ xs) k =
    elim (or_cases (x.task == t && x.phase == p) (list_any (λ y. y.task == t && y.phase == p) xs) k) [
      | inl a ↦
          or_left (x.phase == p) (list_any (λ y. y.phase == p) xs)
          (and_parts (x.task == t) (x.phase == p) a).1
      | inr a ↦ or_right (x.phase == p) (list_any (λ y. y.phase == p) xs) (somebody t p xs a)
    ]

-- what t proposed was proposed
pub proposer_proposes : (t p : ℕ) (h : List Event) → has_proposed t p h ≡ true → is_proposed p h ≡ true
proposer_proposes t p h k = somebody t p (proposals h) k

unsettled : (t p : ℕ) (h : List Event) → has_proposed t p h ≡ true → is_done p h ≡ false
    → is_settled p h ≡ false
unsettled t p h k d = ap (λ b. not b || is_done p h) (proposer_proposes t p h k) ∙ d

owing : (t p : ℕ) (h : List Event) (xs : List Proposal) → list_any (λ x. x.task == t && x.phase == p) xs
    ≡ true → owes_none_of t h xs ≡ true → is_settled p h ≡ true
owing t p h [] k a = absurd cc
owing t p h (x ∷ xs) k a =
    let b = and_parts (not (x.task == t) || is_settled x.phase h) (owes_none_of t h xs) a in
    elim (or_cases (x.task == t && x.phase == p) (list_any (λ y. y.task == t && y.phase == p) xs) k) [
      | inl c ↦
          let d = and_parts (x.task == t) (x.phase == p) c in
          subst (λ v. is_settled v h ≡ true) (eqb-true x.phase p d.1)
          (implied (x.task == t) (is_settled x.phase h) b.0 d.0)
      | inr c ↦ owing t p h xs c b.1
    ]

-- who owes nothing proposed for settled phases only
pub owes_nothing_settled : (t p : ℕ) (h : List Event) → owes_nothing t h ≡ true → has_proposed t p h ≡ true
    → is_settled p h ≡ true
owes_nothing_settled t p h a k = owing t p h (proposals h) k a

-- who is live is registered
pub registered_live : (t : ℕ) (h : List Event) → is_live t h ≡ true → is_registered t h ≡ true
registered_live t h k = (and_parts (is_registered t h) (not (is_dropped t h)) k).0

-- another's signal, and a signal of its own, which can't be
later_sig : (l : Limits) (terms : Terms) (h : List Event) (u t p : ℕ) (x : Option ℕ)
    → is_permitted l terms h (Sig u x) ≡ true → IsBefore t p h → IsBefore t p (Sig u x ∷ h)
later_sig l terms h u t p x k g =
    elim (cases_Bool (u == t)) [
      | inl e ↦
          absurd (not_twice (waits t h) (signals t h) p (subst (λ v. signals v h ≡ waits v h) (eqb-true u t e)
          (sig_follows l terms h u x k).behind) g.at g.ahead)
      | inr e ↦ record { live = g.live; single = g.single; at = g.at; ahead = rw e g.ahead }
    ]

-- who proposed for a phase that isn't done stands before its end
pub owes : (l : Limits) (terms : Terms) (h : List Event) → is_legal l terms h ≡ true → (t p : ℕ) → Owes t p h
owes l terms [] k t p = λ a b. absurd cc
owes l terms (Make u m ∷ h) k t p = λ a b.
    let f = last_follows l terms h (Make u m) k in
    absurd (true≢false (sym (and_parts (is_empty h) (nat_lt u l.tasks) f.permitted).0
    ∙ some_live t h (owes l terms h f.before t p a b).live))
owes l terms (Reg q u m ∷ h) k t p = λ a b.
    let f = last_follows l terms h (Reg q u m) k in
    let g = owes l terms h f.before t p a b in
    let e : (u == t) ≡ false = false_from_ne_true (u == t) (λ y.
    true≢false (sym (registered_live t h g.live) ∙ subst (λ v. is_registered v h ≡ false) (eqb-true u t y)
    (reg_follows l terms h q u m f.permitted).unknown)) in
    record { live = rw e g.live; single = rw e g.single; at = rw e g.at; ahead = rw e g.ahead }
owes l terms (Sig u None ∷ h) k t p = λ a b.
    let f = last_follows l terms h (Sig u None) k in
    later_sig l terms h u t p None f.permitted (owes l terms h f.before t p a b)
owes l terms (Sig u (Some n) ∷ h) k t p = λ a b.
    let f = last_follows l terms h (Sig u (Some n)) k in
    let s = sig_follows l terms h u (Some n) f.permitted in
    elim (or_cases (u == t && signals u h == p) (has_proposed t p h) a) [
      | inl c ↦
          let d = and_parts (u == t) (signals u h == p) c in
          let phase : signals u h ≡ p = eqb-true (signals u h) p d.1 in
          subst (λ v. IsBefore v p (Sig u (Some n) ∷ h)) (eqb-true u t d.0)
          (record {
            live = s.live;
            single = (proposal_follows l terms h u n f.permitted).single;
            at = sym s.behind ∙ phase;
            ahead = rw (eq-eqb u u refl) (ap (λ y. y + 1) phase);
          })
      | inr c ↦ later_sig l terms h u t p (Some n) f.permitted (owes l terms h f.before t p c b)
    ]
owes l terms (Did u ∷ h) k t p = λ a b.
    let g =
    owes l terms h (last_follows l terms h (Did u) k).before t p a
    (or_parts (waits u h == p) (is_done p h) b).1 in
    record { live = g.live; single = g.single; at = g.at; ahead = g.ahead }
owes l terms (Pass u ∷ h) k t p = λ a b.
    let f = last_follows l terms h (Pass u) k in
    let g = owes l terms h f.before t p a b in
    elim (cases_Bool (u == t)) [
      | inl e ↦
          let settled : is_settled (waits t h) h ≡ true =
          subst (λ v. has_mode can_wait v h ≡ true → is_settled (waits v h) h ≡ true) (eqb-true u t e)
          (pass_follows l terms h u f.permitted).settled (single_waits t h g.single) in
          absurd (true≢false (sym (subst (λ v. is_settled v h ≡ true) g.at settled) ∙ unsettled t p h a b))
      | inr e ↦ record { live = g.live; single = g.single; at = rw e g.at; ahead = g.ahead }
    ]
owes l terms (Drop u ∷ h) k t p = λ a b.
    let f = last_follows l terms h (Drop u) k in
    let g = owes l terms h f.before t p a b in
    elim (cases_Bool (u == t)) [
      | inl e ↦
          let nothing : owes_nothing t h ≡ true =
          subst (λ v. owes_nothing v h ≡ true) (eqb-true u t e)
          (and_parts (is_live u h) (owes_nothing u h) f.permitted).1 in
          absurd (true≢false (sym (owes_nothing_settled t p h nothing a) ∙ unsettled t p h a b))
      | inr e ↦ record { live = rw e g.live; single = g.single; at = g.at; ahead = g.ahead }
    ]
owes l terms (e ∷ h) k t p = λ a b.
    let g = owes l terms h (last_follows l terms h e k).before t p a b in
    record { live = g.live; single = g.single; at = g.at; ahead = g.ahead }

-- some claimer
pub claimer : (p : ℕ) (h : List Event) → is_claimed p h ≡ true → (u : ℕ) × (has_claimed u p h ≡ true)
claimer p [] k = absurd cc
claimer p (Claim u ∷ h) k =
    elim (or_cases (waits u h == p) (is_claimed p h) k) [
      | inl e ↦ (
        u,
        or_left (u == u && waits u h == p) (has_claimed u p h)
            (and_from (u == u) (waits u h == p) (eq-eqb u u refl) e),
      )
      | inr e ↦
          let c = claimer p h e in (c.0, or_right (u == c.0 && waits u h == p) (has_claimed c.0 p h) c.1)
    ]
claimer p (e ∷ h) k = claimer p h k

proposer_of : (p : ℕ) (xs : List Proposal) → list_any (λ x. x.phase == p) xs ≡ true
    → (u : ℕ) × (list_any (λ x. x.task == u && x.phase == p) xs ≡ true)
proposer_of p [] k = absurd cc
proposer_of p (x ∷ xs) k =
    elim (or_cases (x.phase == p) (list_any (λ y. y.phase == p) xs) k) [
      | inl e ↦ (
        x.task,
        or_left (x.task == x.task && x.phase == p)
            (list_any (λ y. y.task == x.task && y.phase == p) xs)
            (and_from (x.task == x.task) (x.phase == p) (eq-eqb x.task x.task refl) e),
      )
      | inr e ↦
          let c = proposer_of p xs e in (
            c.0,
            or_right (x.task == c.0 && x.phase == p)
                (list_any (λ y. y.task == c.0 && y.phase == p) xs) c.1,
          )
    ]

-- some proposer
pub proposer : (p : ℕ) (h : List Event) → is_proposed p h ≡ true → (u : ℕ) × (has_proposed u p h ≡ true)
proposer p h k = proposer_of p (proposals h) k

-- a proposal is never taken back
pub still_proposed : (t p : ℕ) (e : Event) (h : List Event) → has_proposed t p h ≡ true
    → has_proposed t p (e ∷ h) ≡ true
still_proposed t p (Sig u (Some n)) h k = or_right (u == t && signals u h == p) (has_proposed t p h) k
still_proposed t p e h k = k

-- who claimed had proposed
pub claimed_proposed : (l : Limits) (terms : Terms) (h : List Event) → is_legal l terms h ≡ true → (t p : ℕ)
    → has_claimed t p h ≡ true → has_proposed t p h ≡ true
claimed_proposed l terms [] k t p c = absurd cc
claimed_proposed l terms (Claim u ∷ h) k t p c =
    let f = last_follows l terms h (Claim u) k in
    elim (or_cases (u == t && waits u h == p) (has_claimed t p h) c) [
      | inl e ↦
          let d = and_parts (u == t) (waits u h == p) e in
          subst (λ v. has_proposed v p h ≡ true) (eqb-true u t d.0)
          (subst (λ q. has_proposed u q h ≡ true) (eqb-true (waits u h) p d.1)
          (claim_follows l terms h u f.permitted).proposed)
      | inr e ↦ claimed_proposed l terms h f.before t p e
    ]
claimed_proposed l terms (e ∷ h) k t p c =
    still_proposed t p e h (claimed_proposed l terms h (last_follows l terms h e k).before t p c)

-- where a closed phase's single is open, somebody may claim it or report it done
pub record Settles (l : Limits) (terms : Terms) (h : List Event) (p : ℕ) : Type 0 where
  pub task : ℕ
  pub stands : IsBefore task p h
  pub may : (is_permitted l terms h (Claim task) ≡ true) ⊎ (is_permitted l terms h (Did task) ≡ true)

open_single : (a b : Bool) → (not a || b) ≡ false → (a ≡ true) × (b ≡ false)
open_single true b k = (refl, k)
open_single false b k = absurd cc

pub somebody_settles : (l : Limits) (terms : Terms) (h : List Event) → is_legal l terms h ≡ true → (p : ℕ)
    → is_closed p h ≡ true → is_settled p h ≡ false → Settles l terms h p
somebody_settles l terms h k p c s =
    let o = open_single (is_proposed p h) (is_done p h) s in
    elim (cases_Bool (is_claimed p h)) [
      | inl e ↦
          let u = claimer p h e in
          let g = owes l terms h k u.0 p (claimed_proposed l terms h k u.0 p u.1) o.1 in
          record {
            task = u.0;
            stands = g;
            may =
                inr (subst (λ q. (is_live u.0 h && has_claimed u.0 q h && not (is_done q h)) ≡ true)
                (sym g.at)
                (and_from (is_live u.0 h && has_claimed u.0 p h) (not (is_done p h))
                (and_from (is_live u.0 h) (has_claimed u.0 p h) g.live u.1) (ap (λ b. not b) o.1)));
          }
      | inr e ↦
          let u = proposer p h o.0 in
          let g = owes l terms h k u.0 p u.1 o.1 in
          record {
            task = u.0;
            stands = g;
            may =
                inl (subst (λ q. (is_live u.0 h && has_proposed u.0 q h && is_closed q h
                && not (is_claimed q h)) ≡ true) (sym g.at)
                (and_from (is_live u.0 h && has_proposed u.0 p h && is_closed p h) (not (is_claimed p h))
                (and_from (is_live u.0 h && has_proposed u.0 p h) (is_closed p h)
                (and_from (is_live u.0 h) (has_proposed u.0 p h) g.live u.1) c)
                (ap (λ b. not b) e)));
          }
    ]
