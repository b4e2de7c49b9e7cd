-- The report of the world to which a whole trace was handed.
use Rattle.std.proofs.Common.{◌≡◌, List, reverse, Result, Ok, Err, IfOk, IfErr, sym, ap, subst, ◌∙◌}
use Rattle.phase_modes.specs.declared.refusal.Refusal.{Refusal}
use Rattle.phase_modes.specs.declared.refusal.Refusal.TheVariants.{Memory}
use Rattle.world_model.specs.declared.event.WorldEvent.{WorldEvent}
use Rattle.world_model.specs.Report.{Report, report_of}
use Rattle.world_records.specs.WorldState.{WorldState}
use Rattle.world_records.specs.StandsFor.{StandsFor}
use Rattle.trace_model.specs.Run.{Run}
use Rattle.trace_model.specs.Explained.{past}
use Rattle.trace_replay.specs.Replaying.{IsRefused, Replays}
use Rattle.trace_replay.specs.inner.HandedOver.{Plays}

pub out_of_memory : (r : Run) (e : Refusal) → e ≡ Memory → IsRefused r e
out_of_memory r e is = subst (λ x. IsRefused r x) (sym is) tt

pub reported : (r : Run) (s : WorldState) (answer : Result Report Refusal) → Plays r (Ok s)
    → ((w : List WorldEvent) → StandsFor w s → IfOk answer (λ x. x ≡ report_of s.limits w))
    → IfErr answer (λ e. e ≡ Memory) → Replays r answer
reported r s (Ok x) played is memory = (
  played.0,
  is (past (reverse r.events)) played.2 ∙ ap (λ l. report_of l (past (reverse r.events))) played.1,
)
reported r s (Err e) played is memory = out_of_memory r e memory
