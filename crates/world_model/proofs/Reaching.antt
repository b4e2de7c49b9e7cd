-- How far a history came: no task is past its phases, and it has no more phases than events.
use Rattle.std.proofs.Common.{◌≡◌, ℕ, ◌≤◌, ◌==◌, ◌&&◌, true, false, if◌then◌else◌, List, [], ◌∷◌, length, ap, arith, inl, inr, refl}
use Rattle.std.proofs.lemmas.Bool.{cases_Bool, eqb-true, ne_eqb}
use Rattle.phase_model.specs.declared.history.Event.{Event}
use Rattle.phase_model.specs.declared.history.Event.TheVariants.{Make, Reg, Sig, Claim, Did, Pass, Send, Look, Drop}
use Rattle.phase_model.specs.Phases.{signals, waits}
use Rattle.phase_model.specs.Values.{sent}
use Rattle.world_model.specs.Report.{phase_count}

pub signals_within : (t : ℕ) (h : List Event) → signals t h ≤ phase_count h
signals_within t [] = omega arith
signals_within t (Make u m ∷ h) =
    elim (u == t) as (λ b. (if b then 0 else signals t h) ≤ phase_count h) [
      | true ↦ omega arith
      | false ↦ signals_within t h
    ]
signals_within t (Reg q u m ∷ h) = signals_within (if u == t then q else t) h
signals_within t (Sig u x ∷ h) =
    elim (cases_Bool (u == t)) [
      | inl e ↦ rw e (omega (arith, ap (λ v. signals v h) (eqb-true u t e)))
      | inr e ↦ rw e (omega (arith, signals_within t h))
    ]
signals_within t (Claim u ∷ h) = signals_within t h
signals_within t (Did u ∷ h) = signals_within t h
signals_within t (Pass u ∷ h) = omega (arith, signals_within t h)
signals_within t (Send u a v ∷ h) = omega (arith, signals_within t h)
signals_within t (Look u a x ∷ h) = signals_within t h
signals_within t (Drop u ∷ h) = signals_within t h

pub waits_within : (t : ℕ) (h : List Event) → waits t h ≤ phase_count h
waits_within t [] = omega arith
waits_within t (Make u m ∷ h) =
    elim (u == t) as (λ b. (if b then 0 else waits t h) ≤ phase_count h) [
      | true ↦ omega arith
      | false ↦ waits_within t h
    ]
waits_within t (Reg q u m ∷ h) = waits_within (if u == t then q else t) h
waits_within t (Pass u ∷ h) =
    elim (cases_Bool (u == t)) [
      | inl e ↦ rw e (omega (arith, ap (λ v. waits v h) (eqb-true u t e)))
      | inr e ↦ rw e (omega (arith, waits_within t h))
    ]
waits_within t (Claim u ∷ h) = waits_within t h
waits_within t (Did u ∷ h) = waits_within t h
waits_within t (Sig u x ∷ h) = omega (arith, waits_within t h)
waits_within t (Send u a v ∷ h) = omega (arith, waits_within t h)
waits_within t (Look u a x ∷ h) = waits_within t h
waits_within t (Drop u ∷ h) = waits_within t h

-- no more phases than events
pub phases_few : (h : List Event) → phase_count h ≤ length h
phases_few [] = omega arith
phases_few (Sig t x ∷ h) = omega (arith, phases_few h, signals_within t h)
phases_few (Pass t ∷ h) = omega (arith, phases_few h, waits_within t h)
phases_few (Send t a v ∷ h) = omega (arith, phases_few h, signals_within t h)
phases_few (Make t m ∷ h) = omega (arith, phases_few h)
phases_few (Reg q t m ∷ h) = omega (arith, phases_few h)
phases_few (Claim t ∷ h) = omega (arith, phases_few h)
phases_few (Did t ∷ h) = omega (arith, phases_few h)
phases_few (Look t a x ∷ h) = omega (arith, phases_few h)
phases_few (Drop t ∷ h) = omega (arith, phases_few h)

-- nothing was sent for a phase past them all
pub none_sent : (a p : ℕ) (h : List Event) → phase_count h ≤ p → sent a p h ≡ []
none_sent a p [] past = refl
none_sent a p (Send t b v ∷ h) past =
    let other : (signals t h == p) ≡ false = ne_eqb (signals t h) p (λ same. omega (arith, same, past)) in
    let rest : sent a p h ≡ [] = none_sent a p h (omega (arith, past)) in
    elim (b == a) as (λ c. (if c && signals t h == p then v ∷ sent a p h else sent a p h) ≡ []) [
      | true ↦ rw other rest
      | false ↦ rest
    ]
none_sent a p (Sig t x ∷ h) past = none_sent a p h (omega (arith, past))
none_sent a p (Pass t ∷ h) past = none_sent a p h (omega (arith, past))
none_sent a p (Make t m ∷ h) past = none_sent a p h past
none_sent a p (Reg q t m ∷ h) past = none_sent a p h past
none_sent a p (Claim t ∷ h) past = none_sent a p h past
none_sent a p (Did t ∷ h) past = none_sent a p h past
none_sent a p (Look t b x ∷ h) past = none_sent a p h past
none_sent a p (Drop t ∷ h) past = none_sent a p h past
