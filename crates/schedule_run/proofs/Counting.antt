-- Rounds of a run, pick by pick.
use Rattle.std.proofs.Common.{ℕ, zero, suc, ◌+◌, ◌<◌, ◌≤◌, ◌≡◌, true, false, List, length, refl, sym, ap, ◌∙◌, inl, inr, arith}
use Rattle.std.proofs.lemmas.Bool.{cases_Bool, false_from_ne_true, true≢false}
use Rattle.job_script.specs.Program.{Program}
use Rattle.world_model.specs.declared.event.WorldEvent.{WorldEvent}
use Rattle.world_model.specs.Numbers.{is_named}
use Rattle.world_model.specs.Replies.{is_legal_world}
use Rattle.world_model.specs.Tasks.{is_born, is_ended}
use Rattle.world_model.proofs.BornWhereNamed.{born_named}
use Rattle.trace_walk.specs.Picks.{pick, round_from, rounds}
use Rattle.trace_walk.proofs.Rounds.{rounds_move}
use Rattle.schedule_run.specs.declared.runner.Runner.{Runner}
use Rattle.schedule_run.specs.inner.Running.{RunStands}
use Rattle.schedule_run.proofs.Noted.{long_as}
use Rattle.schedule_run.proofs.Picking.{legal_of, picked_none}

-- a round ends at the first number that isn't in use
pub round_ends : (left t : ℕ) (p : Program) (v : List WorldEvent) → is_named t v ≡ false → round_from left t p v ≡ v
round_ends zero t p v h = refl
round_ends (suc left) t p v h = rw h refl

-- picking a number that isn't in use changes nothing
unnamed_stays : (p : Program) (v : List WorldEvent) (t : ℕ) → is_legal_world p.limits v ≡ true → is_named t v ≡ false → pick p v t ≡ v
unnamed_stays p v t k h =
    let unborn : is_born t v ≡ false = false_from_ne_true (is_born t v) (λ b. true≢false (sym (born_named p.limits t v k b) ∙ h)) in
    picked_none p v t (rw unborn refl) (rw unborn refl)

-- one pick of a round
pub round_step : (p : Program) (v : List WorldEvent) (r : Runner) (t left : ℕ) → RunStands p v r → round_from (suc left) t p v ≡ round_from left (t + 1) p (pick p v t)
round_step p v r t left st =
    elim (cases_Bool (is_named t v)) [
      | inl h ↦ rw h refl
      | inr h ↦
          let next : is_named (t + 1) v ≡ false = false_from_ne_true (is_named (t + 1) v) (λ n. true≢false (sym (st.gapless t (t + 1) (omega arith) n) ∙ h)) in
          let here : round_from (suc left) t p v ≡ v = rw h refl in
          here ∙ sym (ap (λ (u : List WorldEvent). round_from left (t + 1) p u) (unnamed_stays p v t (legal_of p v r st) h) ∙ round_ends left (t + 1) p v next)
    ]

-- one round, while the root hasn't ended
pub one_round : (p : Program) (v : List WorldEvent) (m : ℕ) → is_ended 0 v ≡ false → rounds (suc m) p v ≡ rounds m p (round_from p.limits.tasks 0 p v)
one_round p v m h = rw h refl

-- it makes the history longer
pub round_grows : (p : Program) (v : List WorldEvent) (r : Runner) → RunStands p v r → is_ended 0 v ≡ false → length v < length (round_from p.limits.tasks 0 p v)
round_grows p v r st h = rounds_move p v st.fit (legal_of p v r st) st.gapless h

-- the trace is as long as the history
pub as_long : (p : Program) (w : List WorldEvent) (r : Runner) → RunStands p w r → length r.recorded.trace.events ≡ length w
as_long p w r st = long_as p.limits w r.recorded st.recorded
