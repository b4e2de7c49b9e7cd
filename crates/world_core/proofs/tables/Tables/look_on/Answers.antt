use Rattle.std.proofs.Common.{◌≡◌, set, ◌∙◌}
use Rattle.world_core.specs.contracts.tables.Tables.{the_view}
use Rattle.world_records.proofs.PhasersKept.{look_kept, if_err, same_phasers}
use Rattle.world_core.proofs.tables.Tables.look_on.Goals as goal

pub returns-in_err-seen-clause-kept : goal.returns-in_err-seen-clause-kept
returns-in_err-seen-clause-kept c =
    let same : set c.self.inside.phasers.items c.place-2.result c.look.new.self ≡ c.self.inside.phasers.items =
    look_kept _ c.place-2.result _ c.look.new.self c.args.task c.args.accumulator _ c.in_err-seen.ensures.reply c.look.ensures.history c.index_mut-state.ensures.value in
    if_err c.from_residual.result _ (same_phasers (the_view c.self.inside) _ same ∙ c.self.view_is)
