use Rattle.world_records.proofs.SingleMade.{claim_is_step}
use Rattle.world_core.proofs.tables.Tables.step_claim.Goals as goal

pub returns : goal.returns
returns c = rw (c.claim_due.ensures.answer, c.claim_due.ensures.state) (claim_is_step c.args.self.now c.args.phaser c.args.task)
