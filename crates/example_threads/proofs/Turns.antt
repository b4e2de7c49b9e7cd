-- What a turn came to, and what the whole history says of it.
use Rattle.std.proofs.Common.{◌≡◌, ℕ, ℤ, true, List, ◌∷◌, ◌++◌, ap, ◌∙◌}
use Rattle.phase_modes.specs.Mode.{can_wait}
use Rattle.phase_model.specs.declared.history.Event.{Event}
use Rattle.phase_model.specs.declared.history.Event.TheVariants.{Look as Looked}
use Rattle.phase_model.specs.declared.op.Look.{Look}
use Rattle.phase_model.specs.declared.op.Op.{Op}
use Rattle.phase_model.specs.Phases.{IsClosed}
use Rattle.phase_model.specs.Tasks.{has_mode}
use Rattle.phaser_core.specs.declared.answer.PassAnswer.{PassAnswer}
use Rattle.phaser_core.specs.declared.answer.PassAnswer.TheVariants.{Passed, Claimed, Parked as Waits, Refused}
use Rattle.world_model.specs.Laws.{IsFolded}
use Rattle.told_history.specs.Tails.{IsTail}
use Rattle.long_locks.specs.Told.{IfPassed}
use Rattle.example_threads.specs.Turns.{IsGood, IsFoldOfAll}

-- what was seen is still the fold
pub sees_all : (ops : List Op) (p : ℕ) (front later whole : List Event) (x : Look ℤ)
    → IsGood ops p front later x → IsTail later whole → IsFolded ops whole → IsFoldOfAll ops whole x
sees_all ops p front later whole x good tail folded =
    let t = good.seen.0 in
    let before = good.seen.1.0 in
    let all : whole ≡ tail.0 ++ (Looked t 0 x ∷ before) = tail.1 ∙ ap (λ (h : List Event). tail.0 ++ h) good.seen.1.1 in
    let r = folded.seen tail.0 before t 0 x all in
    (t, tail.0, before, all, r.1, r.0)

-- a task that can wait has passed a closed phase
pub passed_where : {T : Type 0} (a : PassAnswer T ℕ) (now : List Event) (t : ℕ)
    → IfPassed a (λ p. has_mode can_wait t now ≡ true → IsClosed p now) → has_mode can_wait t now ≡ true
    → IfPassed a (λ p. IsClosed p now)
passed_where (Passed y p) now t closed k = closed k
passed_where (Claimed y n) now t closed k = tt
passed_where Waits now t closed k = tt
passed_where (Refused y r) now t closed k = tt

-- a beginning is one of the same history
pub within : (front past whole : List Event) → IsTail front past → whole ≡ past → IsTail front whole
within front past whole tail is = (tail.0, is ∙ tail.1)
