use Rattle.std.proofs.Common.{ℕ, Some, subst, sym}
use Rattle.finish_core.specs.declared.event.FinishEvent.TheVariants.{Spawned}
use Rattle.world_model.specs.declared.event.WorldEvent.TheVariants.{Finish}
use Rattle.tasks_in_flight.specs.inner.Ready.{IsDue}
use Rattle.live_rt.proofs.driver.Team.bear.Goals as goal

pub bore-requires : goal.bore-requires
bore-requires g c = record {
  due = subst (λ t. (f : ℕ) × (n : ℕ) × IsDue (Some (Finish f (Spawned n))) t.standing) (sym c.deref_mut.ensures.value)
      (c.args.finish, c.args.child, c.requires);
}
