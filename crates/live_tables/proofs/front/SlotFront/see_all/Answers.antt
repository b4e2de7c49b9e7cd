use Rattle.live_tables.proofs.Projects.{tells_on}
use Rattle.live_tables.proofs.front.SlotFront.see_all.Goals as goal

pub returns-clause-on : goal.returns-clause-on
returns-clause-on c =
    rw (c.of_log.ensures.all.1, c.begins.ensures.same) (tells_on c.args.self.now.items c.args.log.now.items c.begins.ensures.begins)
