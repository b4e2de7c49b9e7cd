use Rattle.live_world.proofs.EndRefused.{end_is, end_answers}
use Rattle.live_world.proofs.world.LiveWorld.end.Goals as goal

pub returns-clause-stands : goal.returns-clause-stands
returns-clause-stands c =
    end_is c.args.self.now c.args.task c.end_now.new.self c.end_now.result c.end_now.ensures.may c.end_now.ensures.left

pub returns-clause-answer : goal.returns-clause-answer
returns-clause-answer c = end_answers c.args.self.now c.args.task c.end_now.result c.end_now.ensures.refused
