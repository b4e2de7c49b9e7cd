use Rattle.std.proofs.Common.{◌≡◌, subst, ap, ◌∙◌}
use Rattle.phase_modes.specs.Refusal.{number_of}
use Rattle.world_model.specs.declared.event.Tried.{Tried}
use Rattle.world_model.specs.declared.event.WorldEvent.{WorldEvent}
use Rattle.world_model.specs.declared.event.WorldEvent.TheVariants.{Refuse}
use Rattle.world_model.specs.Actors.{actor}
use Rattle.world_model.specs.Drawing.{own_pairs}
use Rattle.world_model.specs.Replies.{after, reply}
use Rattle.trace_walk.specs.Given.{numbers_view, tried_of}
use Rattle.schedule_run.specs.inner.Running.{Kept}
use Rattle.schedule_run.proofs.runner.Runner.report.Goals as goal

pub returns-clause-kept : goal.returns-clause-kept
returns-clause-kept c l w kept =
    let t = c.args.task in
    let n = number_of c.args.refusal in
    let is : c.refused-entry.result ≡ Refuse t (tried_of (own_pairs t w) (numbers_view c.args.new) c.args.act.now) n =
    c.refused-entry.ensures ∙ ap (λ (x : Tried). Refuse t x n) (c.tried_by-tried.ensures w kept.recorded.stands) in
    subst (λ (e : WorldEvent). Kept l (after w e (reply l w e)) c.try_event.new.recorded c.try_event.new.notes) is
    (c.in_ok-try_event.ensures.kept l w kept (ap (λ (e : WorldEvent). actor w e) is))
