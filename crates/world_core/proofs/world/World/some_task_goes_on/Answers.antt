use Rattle.std.proofs.Common.{◌≡◌, false, List, subst}
use Rattle.world_model.specs.declared.event.WorldEvent.{WorldEvent}
use Rattle.world_model.specs.Able.{is_stuck}
use Rattle.world_records.specs.WorldState.{WorldState}
use Rattle.world_records.specs.StandsFor.{StandsFor}
use Rattle.world_model.proofs.NeverStuck.{nobody_is_stuck}
use Rattle.world_records.proofs.Worlds.{goes_on}
use Rattle.world_core.proofs.world.World.some_task_goes_on.Goals as goal

pub returns-clause-world : goal.returns-clause-world
returns-clause-world c =
    subst (λ (s : WorldState). (w : List WorldEvent) × StandsFor w s × (is_stuck s.limits w ≡ false)) c.self.view_is (goes_on c.self.inside.tables c.self.invariant)

pub returns-clause-able : goal.returns-clause-able
returns-clause-able c = λ w stands. nobody_is_stuck c.args.self.now.limits w stands.legal
