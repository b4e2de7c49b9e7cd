use Rattle.trace_model.specs.Explained.{event_of}
use Rattle.trace_model.specs.Views.{viewed}
use Rattle.world_records.proofs.Worlds.{still_a_world}
use Rattle.world_core.proofs.world.World.step_traced.Goals as goal

pub invariant_of-self : goal.invariant_of-self
invariant_of-self c =
    still_a_world (event_of (viewed c.args.event)) c.self.inside.tables c.step_traced.new.self c.step_traced.result
    c.step_traced.ensures c.self.invariant
