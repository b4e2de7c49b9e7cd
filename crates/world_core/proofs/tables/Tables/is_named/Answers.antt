use Rattle.std.proofs.Common.{◌≡◌, ◌∙◌}
use Rattle.world_core.proofs.tables.Tables.is_named.Goals as goal

pub returns : goal.returns
returns c w st = c.kept_named.ensures ∙ (st.tasks c.args.task).named
