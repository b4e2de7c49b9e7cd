-- A call that gives out a number.
use Rattle.std.proofs.Common.{◌≡◌, ℕ, Result, Ok, Err, IfOk, IfErr, sym, ap, ◌∙◌}
use Rattle.phase_modes.specs.declared.refusal.Refusal.{Refusal}
use Rattle.long_locks.specs.Told.{numbered}

pub numbered_is : (n : ℕ) (a : Result (Unit {0}) Refusal) (answer : Result ℕ Refusal)
    → IfOk answer (λ t. t ≡ n) → IfOk answer (λ _. a ≡ Ok tt) → IfErr answer (λ e. a ≡ Err e) → answer ≡ numbered n a
numbered_is n a (Ok t) is done refused = ap (λ (k : ℕ). Ok k) is ∙ ap (numbered n) (sym done)
numbered_is n a (Err e) is done refused = ap (numbered n) (sym refused)
