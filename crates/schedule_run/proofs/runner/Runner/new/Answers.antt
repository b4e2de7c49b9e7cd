use Rattle.std.proofs.Common.{◌≡◌, true, [], subst}
use Rattle.phase_modes.specs.declared.limits.Limits.{Limits}
use Rattle.phase_modes.specs.Limits.{limits_fit}
use Rattle.trace_walk.proofs.Rounds.{gapless_first}
use Rattle.schedule_run.specs.inner.Records.{Records}
use Rattle.schedule_run.proofs.runner.Runner.new.Goals as goal

pub returns-clause-stands : goal.returns-clause-stands
returns-clause-stands c = record {
  fit = subst (λ (l : Limits). limits_fit l ≡ true) c.limits.ensures.limits c.limits.ensures.fit;
  recorded =
      subst (λ (l : Limits). Records l [] c.in_ok-recorded.recorded.world c.in_ok-recorded.recorded.trace) c.limits.ensures.limits
      c.in_ok-recorded.ensures.stands;
  noted = c.in_ok-notes.ensures.stand c.args.program.now.limits;
  bodies = c.in_ok-bodies.ensures.stand;
  places = c.in_ok-bodies.ensures.places;
  gapless = gapless_first;
}
