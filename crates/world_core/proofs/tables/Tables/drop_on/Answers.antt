use Rattle.std.proofs.Common.{◌≡◌, set, ◌∙◌}
use Rattle.world_core.specs.contracts.tables.Tables.{the_view}
use Rattle.world_records.proofs.PhasersKept.{if_err, same_phasers}
use Rattle.world_records.proofs.Calls.{kept}
use Rattle.world_core.proofs.tables.Tables.drop_on.Goals as goal

pub returns-in_err-drop_task-clause-kept : goal.returns-in_err-drop_task-clause-kept
returns-in_err-drop_task-clause-kept c =
    let same : set c.self.inside.phasers.items c.place-2.result c.drop_task.new.self ≡ c.self.inside.phasers.items =
    kept _ c.place-2.result _ c.drop_task.new.self _ _ c.in_err-drop_task.ensures.reply c.drop_task.ensures.history c.index_mut-state.ensures.value in
    if_err c.from_residual.result _ (same_phasers (the_view c.self.inside) _ same ∙ c.self.view_is)
