use Rattle.std.proofs.Common.{◌≡◌, set, ◌∙◌}
use Rattle.world_core.specs.contracts.tables.Tables.{the_view}
use Rattle.world_records.proofs.PhasersKept.{register_kept, if_err, same_phasers}
use Rattle.world_core.proofs.tables.Tables.register_on.Goals as goal

pub returns-in_err-register-clause-kept : goal.returns-in_err-register-clause-kept
returns-in_err-register-clause-kept c =
    let same : set c.self.inside.phasers.items c.place-2.result c.register.new.self ≡ c.self.inside.phasers.items =
    register_kept _ c.place-2.result _ c.register.new.self c.args.parent c.args.child c.args.mode _ c.in_err-register.ensures.reply c.register.ensures.history c.index_mut-state.ensures.value
    in
    if_err c.from_residual.result _ (same_phasers (the_view c.self.inside) _ same ∙ c.self.view_is)
