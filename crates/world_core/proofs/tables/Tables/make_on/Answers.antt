use Rattle.std.proofs.Common.{◌≡◌, set, ◌∙◌}
use Rattle.world_core.specs.contracts.tables.Tables.{the_view}
use Rattle.world_records.proofs.PhasersKept.{make_kept, if_err, same_phasers}
use Rattle.world_core.proofs.tables.Tables.make_on.Goals as goal

pub returns-in_err-make_with-clause-kept : goal.returns-in_err-make_with-clause-kept
returns-in_err-make_with-clause-kept c =
    let same : set c.self.inside.phasers.items c.place.result c.make_with.new.self ≡ c.self.inside.phasers.items =
    make_kept _ c.place.result _ c.make_with.new.self _ _ _ c.in_err-make_with.ensures.reply c.make_with.ensures.history c.index_mut-state.ensures.value in
    if_err c.from_residual.result _ (same_phasers (the_view c.self.inside) _ same ∙ c.self.view_is)
