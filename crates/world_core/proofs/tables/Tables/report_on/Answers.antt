use Rattle.std.proofs.Common.{◌≡◌, set, ◌∙◌}
use Rattle.world_core.specs.contracts.tables.Tables.{the_view}
use Rattle.world_records.proofs.PhasersKept.{if_err, same_phasers}
use Rattle.world_records.proofs.Calls.{kept}
use Rattle.world_core.proofs.tables.Tables.report_on.Goals as goal

pub returns-in_err-single_done-clause-kept : goal.returns-in_err-single_done-clause-kept
returns-in_err-single_done-clause-kept c =
    let same : set c.self.inside.phasers.items c.place-2.result c.single_done.new.self ≡ c.self.inside.phasers.items =
    kept _ c.place-2.result _ c.single_done.new.self _ _ c.in_err-single_done.ensures.reply c.single_done.ensures.history c.index_mut-state.ensures.value in
    if_err c.from_residual.result _ (same_phasers (the_view c.self.inside) _ same ∙ c.self.view_is)
