use Rattle.std.proofs.Common.{Some, sym, ap, subst}
use Rattle.finish_core.specs.declared.event.FinishEvent.TheVariants.{Spawned}
use Rattle.world_model.specs.declared.event.WorldEvent.TheVariants.{Finish}
use Rattle.task_standing.specs.Known.{Known}
use Rattle.tasks_in_flight.specs.inner.Ready.{IsDue}
use Rattle.task_worker.proofs.worker.Shared.bear.Goals as goal

pub bore-requires : goal.bore-requires
bore-requires g c = record {
  due = (
    c.args.finish,
    c.args.child,
    subst (λ (k : Known). IsDue (Some (Finish c.args.finish (Spawned c.args.child))) k) (sym (ap (λ t. t.standing) c.deref_mut.ensures.value)) c.requires,
  );
}
