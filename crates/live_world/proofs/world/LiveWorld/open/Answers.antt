use Rattle.live_world.proofs.Refused.{open_is, open_answers, open_gone}
use Rattle.live_world.proofs.world.LiveWorld.open.Goals as goal

pub returns-clause-stands : goal.returns-clause-stands
returns-clause-stands c =
    let e = c.open_now.ensures in
    open_is c.args.self.now c.args.task c.open_now.new.self c.open_now.result e.may e.opened e.named e.vacant e.within e.below

pub returns-clause-answer : goal.returns-clause-answer
returns-clause-answer c = open_answers c.args.self.now c.args.task c.open_now.result c.open_now.ensures.refused

pub returns-clause-gone : goal.returns-clause-gone
returns-clause-gone c = open_gone c.args.self.now c.args.task c.open_now.result c.open_now.ensures.may c.open_now.ensures.refused
