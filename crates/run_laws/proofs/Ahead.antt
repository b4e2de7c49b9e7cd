-- A history, and the event that one of its tasks is about to make in a whole run, are told in that run: so what is
-- added up over them is no more there than in the run, and each phase with a single has one in the run.
use Rattle.std.proofs.Common.{◌≡◌, ℕ, suc, ◌+◌, ◌≤◌, Bool, true, false, ◌==◌, not, cond, List, [], ◌∷◌, ◌++◌, refl, sym, subst, ap, ◌∙◌, inl, inr, arith}
use Rattle.std.specs.List.{list_any}
use Rattle.std.proofs.lemmas.Bool.{and_parts, or_left, or_right, cases_Bool, eqb-true, eq-eqb, false≢true, or_cases, false_from_ne_true}
use Rattle.phase_modes.specs.declared.limits.Limits.{Limits}
use Rattle.phase_model.specs.Singles.{Proposal, proposals, is_proposed, is_mismatch}
use Rattle.phase_model.proofs.Proposals.{has_number, numbers_agree}
use Rattle.job_script.specs.declared.act.Answer.{Answer}
use Rattle.world_model.specs.declared.event.WorldEvent.{WorldEvent}
use Rattle.world_model.specs.Actors.{actor}
use Rattle.world_model.specs.Parts.{phaser_past, terms_of}
use Rattle.world_model.specs.Tasks.{is_ended}
use Rattle.world_model.proofs.PhasersLegal.{phasers_legal}
use Rattle.trace_walk.specs.Walking.{Does}
use Rattle.trace_walk.specs.Scripts.{Numbers}
use Rattle.run_laws.specs.Telling.{Told, told, told_of}
use Rattle.run_laws.specs.Determinacy.{IsBeginning}
use Rattle.run_laws.proofs.Failures.{other, other_told, to_told, from_told, any_front}
use Rattle.run_laws.proofs.Lengths.{HaveMore, at_most}
use Rattle.run_laws.proofs.Main.{IsNextOf, beginning_of, told_part}
use Rattle.run_laws.proofs.NextEvents.{IsGoing}
use Rattle.run_laws.proofs.Plain.{swapped}
use Rattle.run_laws.proofs.Sums.{all_told, teller, with_teller, told_by, weigh}
use Rattle.run_laws.proofs.Shuffles.{of_key}

pub with_both : (u : ℕ) (xs ys : List Told) → with_teller u (xs ++ ys) ≡ with_teller u xs ++ with_teller u ys
with_both u [] ys = refl
with_both u (x ∷ xs) ys = ap (λ zs. (u, x) ∷ zs) (with_both u xs ys)

some_proposed : (p k : ℕ) (xs : List Proposal) → list_any (other p k) xs ≡ true
    → list_any (λ x. x.phase == p) xs ≡ true
some_proposed p k [] h = absurd (false≢true h)
some_proposed p k (x ∷ xs) h =
    elim (or_cases (other p k x) (list_any (other p k) xs) h) [
      | inl e ↦
          or_left (x.phase == p) (list_any (λ y. y.phase == p) xs)
          (and_parts (x.phase == p) (not (x.number == k)) e).0
      | inr e ↦ or_right (x.phase == p) (list_any (λ y. y.phase == p) xs) (some_proposed p k xs e)
    ]

module _ {B : Type 0} (next : Answer → B → Does B) (root : B) (names : ℕ → List Told → Numbers) (l : Limits)
    (v : List WorldEvent) (going_v : IsGoing next root names l v) (over : is_ended 0 v ≡ true)
    (w : List WorldEvent) (going_w : IsGoing next root names l w) where
  -- what is proposed in the history is so in the run
  pub proposed_there : (n p : ℕ) → is_proposed p (phaser_past n w) ≡ true
      → is_proposed p (phaser_past n v) ≡ true
  proposed_there n p k =
      let h = phaser_past n w in
      let j = has_number h p k in
      let apart : is_mismatch (suc j.0) p h ≡ true =
      numbers_agree l (terms_of n w) h (phasers_legal l w going_w.legal n) j.0 (suc j.0) p j.1
      ∙ ap (λ b. not b) (false_from_ne_true (j.0 == suc j.0) (λ e. never j.0 (eqb-true j.0 (suc j.0) e))) in
      let here = to_told n p (suc j.0) w apart in
      let first = beginning_of next root names l v w going_v over going_w here.0 in
      let there : list_any (other_told n p (suc j.0)) (told here.0 v) ≡ true =
      subst (λ xs. list_any (other_told n p (suc j.0)) xs ≡ true) (sym first.1)
      (any_front (other_told n p (suc j.0)) first.0 (told here.0 w) here.1) in
      some_proposed p (suc j.0) (proposals (phaser_past n v)) (from_told n p (suc j.0) here.0 v there)
    where
      never : (i : ℕ) → i ≡ suc i → ⊥
      never i e = omega (arith, e)

  module _ (t : ℕ) (f : IsNextOf next root names l t w v) where
    -- what a task tells, with the event to come where it is its own
    abbrev told_with : ℕ → List Told
    told_with u = cond (t == u) (told_of f.before f.event ∷ told u w) (told u w)

    first_with : (u : ℕ) → IsBeginning (told_with u) (told u v)
    first_with u =
        elim (cases_Bool (t == u)) [
          | inl e ↦
              rw e (subst (λ x. IsBeginning (told_of f.before f.event ∷ told x w) (told x v)) (eqb-true t u e) own)
          | inr e ↦ rw e (beginning_of next root names l v w going_v over going_w u)
        ]
      where
        own : IsBeginning (told_of f.before f.event ∷ told t w) (told t v)
        own =
            let part = told_part t f.after (f.event ∷ f.before) in
            let mine : (actor f.before f.event == t) ≡ true = eq-eqb (actor f.before f.event) t f.mine in
            let last : told t (f.event ∷ f.before) ≡ told_of f.before f.event ∷ told t f.before =
            rw (mine, f.plain) refl in (
              part.0,
              ap (λ x. told t x) f.is
                  ∙ (part.1 ∙ ap (λ xs. part.0 ++ xs)
                  (last ∙ ap (λ xs. told_of f.before f.event ∷ xs) (sym f.twin.own.said))),
            )

    have_more : HaveMore teller ((t, told_of f.before f.event) ∷ all_told w) (all_told v)
    have_more u =
        let first = first_with u in
        let here : of_key teller u ((t, told_of f.before f.event) ∷ all_told w)
        ≡ with_teller u (told_with u) =
        by_test (t == u) refl in (
          with_teller u first.0,
          told_by u v
              ∙ (ap (λ xs. with_teller u xs) first.1
              ∙ (with_both u first.0 (told_with u) ∙ ap (λ zs. with_teller u first.0 ++ zs) (sym here))),
        )
      where
        by_test : (b : Bool) → (t == u) ≡ b
            → cond b ((t, told_of f.before f.event) ∷ of_key teller u (all_told w))
            (of_key teller u (all_told w))
            ≡ with_teller u (cond b (told_of f.before f.event ∷ told u w) (told u w))
        by_test true e =
            ap (λ zs. (t, told_of f.before f.event) ∷ zs) (told_by u w)
            ∙ ap (λ x. (x, told_of f.before f.event) ∷ with_teller u (told u w)) (eqb-true t u e)
        by_test false e = told_by u w

    pub weighs_less : (g : WorldEvent → ℕ) → g f.event + weigh g (all_told w) ≤ weigh g (all_told v)
    weighs_less g =
        at_most teller (λ x. g x.1.event) (λ x y r. swapped (g x.1.event) (g y.1.event) r)
        ((t, told_of f.before f.event) ∷ all_told w) (all_told v) have_more
