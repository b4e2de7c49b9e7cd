use Rattle.std.proofs.Common.{◌≡◌, rules}
use Rattle.phase_modes.specs.Refusal.{first_refusal}
use Rattle.world_model.specs.ActConditions.{free_unless}
use Rattle.world_records.specs.inner.Registering.{make_conditions}
use Rattle.world_records.proofs.MakeRefused.{refused_is}
use Rattle.world_core.proofs.tables.Tables.may_make.Goals as goal

pub returns-in_err-may_act-clause-refused : goal.returns-in_err-may_act-clause-refused
returns-in_err-may_act-clause-refused c =
    let answered : c.from_residual.result ≡ free_unless (first_refusal (make_conditions c.args.self.now c.args.phaser c.args.task)) = search rules in
    refused_is _ _ answered
