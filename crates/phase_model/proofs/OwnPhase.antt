-- A proposer of a legal history has come to the phase that it proposed for;
-- what it owes is that phase's single alone.
use Rattle.std.proofs.Common.{◌≡◌, ℕ, ◌<◌, ◌≤◌, nat_lt, Bool, true, false, ◌||◌, ◌&&◌, ◌==◌, not, List, [], ◌∷◌, Some, refl, sym, ◌∙◌, inl, inr, subst, arith}
use Rattle.std.specs.List.{list_any}
use Rattle.std.proofs.lemmas.Bool.{cases_Bool, cases_lt, eqb-true, eq-eqb, and_parts, and_from, or_cases, or_left, or_right, false_from_ne_true, false≢true}
use Rattle.phase_modes.specs.declared.limits.Limits.{Limits}
use Rattle.phase_modes.specs.Lists.{is_empty}
use Rattle.phase_modes.specs.Mode.{can_single}
use Rattle.phase_model.specs.declared.history.Event.{Event}
use Rattle.phase_model.specs.declared.history.Event.TheVariants.{Make, Reg, Sig, Pass}
use Rattle.phase_model.specs.declared.terms.Terms.{Terms}
use Rattle.phase_model.specs.Tasks.{is_registered, has_mode}
use Rattle.phase_model.specs.Phases.{waits, signals}
use Rattle.phase_model.specs.Singles.{Proposal, proposals, has_proposed, is_settled, owes_none_of, owes_nothing}
use Rattle.phase_model.specs.Rules.{is_legal}
use Rattle.phase_model.proofs.Legal.{last_follows, reg_follows, sig_follows, implied}
use Rattle.phase_model.proofs.Closing.{settled_behind, implies}
use Rattle.phase_model.proofs.SingleRules.{proposal_follows}
use Rattle.phase_model.proofs.Proposers.{proposer_proposes, single_waits, owes_nothing_settled}
use Rattle.phase_model.proofs.Proposals.{some_proposal, unknown_proposed_nothing}

-- t is a single's, and has come to phase p
pub record HasCome (t p : ℕ) (h : List Event) : Type 0 where
  pub single : has_mode can_single t h ≡ true
  pub come : p ≤ waits t h

-- each proposer has come to the phase that it proposed for
pub proposer_has_come : (l : Limits) (terms : Terms) (h : List Event) → is_legal l terms h ≡ true → (t p : ℕ)
    → has_proposed t p h ≡ true → HasCome t p h
proposer_has_come l terms [] k t p s = absurd cc
proposer_has_come l terms (Make u m ∷ h) k t p s =
    let empty = (and_parts (is_empty h) (nat_lt u l.tasks) (last_follows l terms h (Make u m) k).permitted).0 in
    absurd (false≢true (sym (some_proposal p h (proposer_proposes t p h s)) ∙ empty))
proposer_has_come l terms (Reg q u m ∷ h) k t p s =
    let f = last_follows l terms h (Reg q u m) k in
    let g = proposer_has_come l terms h f.before t p s in
    let unknown = (reg_follows l terms h q u m f.permitted).unknown in
    let other : (u == t) ≡ false =
    false_from_ne_true (u == t) (λ e. false≢true (sym (unknown_proposed_nothing l terms h f.before t p
    (subst (λ v. is_registered v h ≡ false) (eqb-true u t e) unknown)) ∙ s)) in
    record { single = rw other g.single; come = rw other g.come }
proposer_has_come l terms (Sig u (Some n) ∷ h) k t p s =
    let f = last_follows l terms h (Sig u (Some n)) k in
    elim (or_cases (u == t && signals u h == p) (has_proposed t p h) s) [
      | inl e ↦
          let d = and_parts (u == t) (signals u h == p) e in
          subst (λ v. HasCome v p (Sig u (Some n) ∷ h)) (eqb-true u t d.0)
          (record {
            single = (proposal_follows l terms h u n f.permitted).single;
            come = omega (
              arith,
              (sig_follows l terms h u (Some n) f.permitted).behind,
              eqb-true (signals u h) p d.1,
            );
          })
      | inr e ↦
          let g = proposer_has_come l terms h f.before t p e in record { single = g.single; come = g.come }
    ]
proposer_has_come l terms (Pass u ∷ h) k t p s =
    let g = proposer_has_come l terms h (last_follows l terms h (Pass u) k).before t p s in
    elim (cases_Bool (u == t)) [
      | inl e ↦ record { single = g.single; come = rw e (omega (arith, g.come)) }
      | inr e ↦ record { single = g.single; come = rw e g.come }
    ]
proposer_has_come l terms (e ∷ h) k t p s =
    let g = proposer_has_come l terms h (last_follows l terms h e k).before t p s in
    record { single = g.single; come = g.come }

-- a proposer has come to the phase, and where it has passed it, the single is done
pub own_phase : (l : Limits) (terms : Terms) (h : List Event) → is_legal l terms h ≡ true → (t p : ℕ)
    → has_proposed t p h ≡ true
    → (p ≤ waits t h) × (p < waits t h → is_settled p h ≡ true)
own_phase l terms h k t p s =
    let g = proposer_has_come l terms h k t p s in
    (g.come, λ less. settled_behind l terms h k t p (single_waits t h g.single) less)

-- who proposed for settled phases only owes nothing
owes_none_from : (t : ℕ) (h : List Event) (xs : List Proposal)
    → ((p : ℕ) → list_any (λ x. x.task == t && x.phase == p) xs ≡ true → is_settled p h ≡ true)
    → owes_none_of t h xs ≡ true
owes_none_from t h [] each = refl
owes_none_from t h (x ∷ xs) each =
    and_from (not (x.task == t) || is_settled x.phase h) (owes_none_of t h xs)
    (implies (x.task == t) (is_settled x.phase h) (λ e.
    each x.phase
    (or_left (x.task == t && x.phase == x.phase) (list_any (λ y. y.task == t && y.phase == x.phase) xs)
    (and_from (x.task == t) (x.phase == x.phase) e (eq-eqb x.phase x.phase refl)))))
    (owes_none_from t h xs (λ p k. each p
    (or_right (x.task == t && x.phase == p) (list_any (λ y. y.task == t && y.phase == p) xs) k)))

same_tests : (a b : Bool) → (a ≡ true → b ≡ true) → (b ≡ true → a ≡ true) → a ≡ b
same_tests true b f g = sym (f refl)
same_tests false true f g = g refl
same_tests false false f g = refl

-- a task owes nothing where it did not propose for the phase it stands at, or that phase is settled
pub owes_nothing_is : (l : Limits) (terms : Terms) (h : List Event) → is_legal l terms h ≡ true → (t : ℕ)
    → owes_nothing t h ≡ (not (has_proposed t (waits t h) h) || is_settled (waits t h) h)
owes_nothing_is l terms h k t =
    let w = waits t h in
    same_tests (owes_nothing t h) (not (has_proposed t w h) || is_settled w h)
    (λ e. implies (has_proposed t w h) (is_settled w h) (λ s. owes_nothing_settled t w h e s))
    (λ e. owes_none_from t h (proposals h) (λ p s.
    let g = own_phase l terms h k t p s in
    elim (cases_lt p (waits t h)) [
      | inl less ↦ g.1 less
      | inr most ↦
          let same : waits t h ≡ p = omega (arith, g.0, most) in
          let here : has_proposed t w h ≡ true = rw same s in
          subst (λ q. is_settled q h ≡ true) same (implied (has_proposed t w h) (is_settled w h) e here)
    ]))
