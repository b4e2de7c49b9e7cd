use Rattle.std.proofs.Common.{◌≡◌, set, ◌∙◌}
use Rattle.world_core.specs.contracts.tables.Tables.{the_view}
use Rattle.world_records.proofs.PhasersKept.{send_kept, if_err, same_phasers}
use Rattle.world_core.proofs.tables.Tables.send_on.Goals as goal

pub returns-in_err-send-clause-kept : goal.returns-in_err-send-clause-kept
returns-in_err-send-clause-kept c =
    let same : set c.self.inside.phasers.items c.place-2.result c.send.new.self ≡ c.self.inside.phasers.items = send_kept _ c.place-2.result _ c.send.new.self c.args.task c.args.accumulator _ _ c.in_err-send.ensures.reply c.send.ensures.history c.index_mut-state.ensures.value in
    if_err c.from_residual.result _ (same_phasers (the_view c.self.inside) _ same ∙ c.self.view_is)
