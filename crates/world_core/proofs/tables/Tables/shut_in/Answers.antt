use Rattle.std.proofs.Common.{◌≡◌, set, ◌∙◌}
use Rattle.world_core.specs.contracts.tables.Tables.{the_view}
use Rattle.world_records.proofs.PhasersKept.{if_err}
use Rattle.world_records.proofs.FinishCalls.{finish_kept, same_finishes}
use Rattle.world_core.proofs.tables.Tables.shut_in.Goals as goal

pub returns-in_err-shut-clause-kept : goal.returns-in_err-shut-clause-kept
returns-in_err-shut-clause-kept c =
    let same : set c.self.inside.finishes.items c.place-2.result c.shut.new.self ≡ c.self.inside.finishes.items =
    finish_kept _ c.place-2.result _ c.shut.new.self c.in_err-shut.ensures.history c.index_mut-state.ensures.value in
    if_err c.from_residual.result _ (same_finishes (the_view c.self.inside) _ same ∙ c.self.view_is)
