use Rattle.live_world.proofs.SpawnRefused.{spawn_is, spawn_answers}
use Rattle.live_world.proofs.world.LiveWorld.spawn.Goals as goal

pub returns-clause-stands : goal.returns-clause-stands
returns-clause-stands c =
    let e = c.spawn_now.ensures in
    spawn_is c.args.self.now c.args.task c.spawn_now.new.self c.spawn_now.result e.may e.spawned e.named e.vacant e.within e.below e.home

pub returns-clause-answer : goal.returns-clause-answer
returns-clause-answer c = spawn_answers c.args.self.now c.args.task c.spawn_now.result c.spawn_now.ensures.refused
