-- Where nobody may leave all wait, so all are kept and none is freed.
use Rattle.std.proofs.Common.{sym, ◌∙◌}
use Rattle.phaser_core.proofs.Parks.{all_kept, none_freed}
use Rattle.phaser_core.proofs.parked.release_if.Goals as goal

pub returns-else-may_leave-clause-parked : goal.returns-else-may_leave-clause-parked
returns-else-may_leave-clause-parked g c = sym (all_kept (g.S.Asked.story c.args.state.now) c.args.parked.now.items (c.requires.nobody c.if-may_leave.false))

pub returns-else-may_leave-clause-out : goal.returns-else-may_leave-clause-out
returns-else-may_leave-clause-out g c = c.requires.empty ∙ sym (none_freed (g.S.Asked.story c.args.state.now) c.args.parked.now.items (c.requires.nobody c.if-may_leave.false))
