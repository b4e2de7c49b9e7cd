use Rattle.world_model.proofs.Handing.{pair_met, pair_unmet}
use Rattle.world_records.specs.inner.Facts.{facts}
use Rattle.world_core.proofs.tables.Tables.may_hand_on.Goals as goal

pub loop-i-preserved : goal.loop-i-preserved
loop-i-preserved c =
    pair_met (facts c.args.self.now c.args.task) c.args.pairs.now c.loop-i.i _ c.loop-i-test.true c.loop-i.invariant
    c.in_default.ensures

pub returns-in-Err : goal.returns-in-Err
returns-in-Err c = pair_unmet (facts c.args.self.now c.args.task) c.args.pairs.now c.loop-i.i _ c.in-Err.refusal c.loop-i-test.true c.loop-i.invariant c.in-Err.ensures
