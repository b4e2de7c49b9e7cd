use Rattle.std.proofs.Common.{◌≡◌, set, ◌∙◌}
use Rattle.world_core.specs.contracts.tables.Tables.{the_view}
use Rattle.world_records.proofs.PhasersKept.{if_err, same_phasers}
use Rattle.world_records.proofs.Calls.{pass_kept}
use Rattle.world_core.proofs.tables.Tables.pass_on.Goals as goal

pub returns-in_err-passing-clause-kept : goal.returns-in_err-passing-clause-kept
returns-in_err-passing-clause-kept c =
    let same : set c.self.inside.phasers.items c.place-2.result c.pass.new.self ≡ c.self.inside.phasers.items =
    pass_kept _ c.place-2.result _ c.pass.new.self c.args.task _ c.in_err-passing.ensures.reply c.pass.ensures.history c.index_mut-state.ensures.value in
    if_err c.from_residual.result _ (same_phasers (the_view c.self.inside) _ same ∙ c.self.view_is)
