-- How large the numbers that a history counts may be.
use Rattle.std.proofs.Common.{ℕ, suc, ◌+◌, ◌≤◌, ◌==◌, cond, true, false, List, [], ◌∷◌, length, arith}
use Rattle.phase_model.specs.declared.history.Event.{Event}
use Rattle.phase_model.specs.declared.history.Event.TheVariants.{Make, Reg, Sig, Claim, Did, Pass, Send, Look as Looked, Drop}
use Rattle.phase_model.specs.Phases.{signals}

-- nobody has signalled more phases than there are events
pub signals_within : (t : ℕ) (h : List Event) → signals t h ≤ length h
signals_within t [] = omega arith
signals_within t (Make u m ∷ h) = elim (u == t) as (λ b. cond b 0 (signals t h) ≤ suc (length h)) [
  | true ↦ omega arith
  | false ↦ omega (arith, signals_within t h)
]
signals_within t (Reg q u m ∷ h) = omega (arith, signals_within (cond (u == t) q t) h)
signals_within t (Sig u x ∷ h) =
    elim (u == t) as (λ b. cond b (signals t h + 1) (signals t h) ≤ suc (length h)) [
      | true ↦ omega (arith, signals_within t h)
      | false ↦ omega (arith, signals_within t h)
    ]
signals_within t (Pass u ∷ h) = omega (arith, signals_within t h)
signals_within t (Claim u ∷ h) = omega (arith, signals_within t h)
signals_within t (Did u ∷ h) = omega (arith, signals_within t h)
signals_within t (Send u a v ∷ h) = omega (arith, signals_within t h)
signals_within t (Looked u a x ∷ h) = omega (arith, signals_within t h)
signals_within t (Drop u ∷ h) = omega (arith, signals_within t h)
