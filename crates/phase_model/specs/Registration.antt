-- How a task is registered now, by the history.
use Rattle.std.specs.Prelude.{ℕ, ◌&&◌, ◌==◌, not, List, Option, Some, None, if◌then◌else◌, unwrap_or}
use Rattle.phase_modes.specs.declared.reg.Mode.TheVariants.{Wait}
use Rattle.phase_modes.specs.declared.reg.Reg.{Reg}
use Rattle.phase_modes.specs.Mode.{can_signal}
use Rattle.phase_model.specs.declared.history.Event.{Event}
use Rattle.phase_model.specs.Tasks.{has_mode, mode_of, is_live}
use Rattle.phase_model.specs.Phases.{waits, signals}

-- the registration of a live task
abbrev pub reg_of : ℕ → List Event → Reg ℕ
reg_of t h = record {
  mode = unwrap_or (mode_of t h) Wait;
  phase = waits t h;
  ahead = has_mode can_signal t h && not (signals t h == waits t h);
}

-- how t is registered now, if it is
abbrev pub registration : ℕ → List Event → Option (Reg ℕ)
registration t h = if is_live t h then Some (reg_of t h) else None
