-- How far each task has come, with one event more.
use Rattle.std.proofs.Common.{◌≡◌, ℕ, ◌+◌, ◌<◌, ◌==◌, nat_lt, true, cond, List, ◌∷◌, length, set, refl, ap, sym, ◌∙◌, arith, inl, inr}
use Rattle.std.proofs.lemmas.Bool.{cases_Bool, eqb-true, eq-eqb, ltb-true, and_parts, false≢true}
use Rattle.std.proofs.lemmas.List.{length-set, get_or-set_same, get_or-set_other}
use Rattle.phase_model.specs.declared.history.Event.{Event}
use Rattle.phase_model.specs.declared.history.Event.TheVariants.{Make, Reg, Sig, Claim, Did, Pass, Send, Look, Drop}
use Rattle.phase_model.specs.Phases.{signals, waits}
use Rattle.world_model.specs.declared.progress.Progress.{Progress}
use Rattle.world_model.specs.inner.Tallied.{start, progress_at, fits, progress_noted}

-- how far a task has come in a history
abbrev pub progress_of : ℕ → List Event → Progress
progress_of t h = record { signals = signals t h; waits = waits t h }

abbrev pub IsProgress : List Progress → List Event → Type 0
IsProgress ts h = (t : ℕ) → t < length ts → progress_at ts t ≡ progress_of t h

read_written : (ts : List Progress) (u t : ℕ) (x : Progress) → u < length ts → progress_at (set ts u x) t ≡ cond (u == t) x (progress_at ts t)
read_written ts u t x within =
    elim (cases_Bool (u == t)) [
      | inl e ↦ rw e (ap (λ v. progress_at (set ts u x) v) (sym (eqb-true u t e)) ∙ get_or-set_same ts u x start within)
      | inr e ↦ rw e (get_or-set_other ts u t x start (λ same. false≢true (sym e ∙ eq-eqb u t (sym same))))
    ]

still : (ts : List Progress) (u t : ℕ) (x : Progress) → t < length (set ts u x) → t < length ts
still ts u t x within = omega (arith, within, length-set ts u x)

pub progress_stands : (e : Event) (ts : List Progress) (h : List Event) → fits (length ts) e ≡ true → IsProgress ts h → IsProgress (progress_noted e ts) (e ∷ h)
progress_stands (Make u m) ts h fit is t within =
    let rest = is t (still ts u t start within) in
    read_written ts u t start (ltb-true u (length ts) fit)
    ∙ (elim (cases_Bool (u == t)) [
      | inl e ↦ rw e refl
      | inr e ↦ rw e rest
    ])
progress_stands (Reg q u m) ts h fit is t within =
    let parts = and_parts (nat_lt q (length ts)) (nat_lt u (length ts)) fit in
    let rest = is t (still ts u t (progress_at ts q) within) in
    let parent = is q (ltb-true q (length ts) parts.0) in
    read_written ts u t (progress_at ts q) (ltb-true u (length ts) parts.1)
    ∙ (elim (cases_Bool (u == t)) [
      | inl e ↦ rw e parent
      | inr e ↦ rw e rest
    ])
progress_stands (Sig u x) ts h fit is t within =
    let here : u < length ts = ltb-true u (length ts) fit in
    let rest = is t (still ts u t (record (progress_at ts u) { signals = (progress_at ts u).signals + 1 }) within) in
    read_written ts u t (record (progress_at ts u) { signals = (progress_at ts u).signals + 1 }) here
    ∙ (elim (cases_Bool (u == t)) [
      | inl e ↦
          rw e
          (ap (λ (p : Progress). record p { signals = p.signals + 1 }) (is u here)
          ∙ ap (λ v. record { signals = signals v h + 1; waits = waits v h }) (eqb-true u t e))
      | inr e ↦ rw e rest
    ])
progress_stands (Pass u) ts h fit is t within =
    let here : u < length ts = ltb-true u (length ts) fit in
    let rest = is t (still ts u t (record (progress_at ts u) { waits = (progress_at ts u).waits + 1 }) within) in
    read_written ts u t (record (progress_at ts u) { waits = (progress_at ts u).waits + 1 }) here
    ∙ (elim (cases_Bool (u == t)) [
      | inl e ↦
          rw e
          (ap (λ (p : Progress). record p { waits = p.waits + 1 }) (is u here)
          ∙ ap (λ v. record { signals = signals v h; waits = waits v h + 1 }) (eqb-true u t e))
      | inr e ↦ rw e rest
    ])
progress_stands (Send u a v) ts h fit is t within = is t within
progress_stands (Claim u) ts h fit is t within = is t within
progress_stands (Did u) ts h fit is t within = is t within
progress_stands (Look u a x) ts h fit is t within = is t within
progress_stands (Drop u) ts h fit is t within = is t within
