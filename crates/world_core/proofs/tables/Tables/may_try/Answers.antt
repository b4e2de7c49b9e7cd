-- What is tried is asked of the phaser by its number and the task's.
use Rattle.std.proofs.Common.{ap, rules, sym, w32, ◌≡◌, ◌∙◌}
use mir.Val.{of_z, to_z}
use Rattle.phase_model.specs.declared.call.Call.TheVariants.{Send, Look}
use Rattle.world_model.specs.ActConditions.{free_unless}
use Rattle.world_records.specs.inner.Refusals.{act_refusal, call_refusal}
use Rattle.world_core.proofs.tables.Tables.may_try.Goals as goal

pub returns-in-Send : goal.returns-in-Send
returns-in-Send c =
    let value = to_z w32 (of_z w32 c.in-Send.value) in
    let asked : c.may_try_call.result ≡ free_unless (call_refusal c.args.self.now c.args.task c.in-Send.phaser (Send c.args.task c.in-Send.accumulator value)) =
    c.may_try_call.ensures
    ∙ ap (λ n. free_unless (call_refusal c.args.self.now c.args.task n (Send c.get.result c.in-Send.accumulator value))) c.of-in-Send.ensures
    ∙ ap (λ t. free_unless (call_refusal c.args.self.now c.args.task c.in-Send.phaser (Send t c.in-Send.accumulator value))) c.get.ensures in
    search (rules, asked)

pub returns-in-Look : goal.returns-in-Look
returns-in-Look c =
    c.may_try_call-in-Look.ensures
    ∙ ap (λ n. free_unless (call_refusal c.args.self.now c.args.task n (Look c.get-in-Look.result c.in-Look.accumulator))) c.of-in-Look.ensures
    ∙ ap (λ t. free_unless (call_refusal c.args.self.now c.args.task c.in-Look.phaser (Look t c.in-Look.accumulator))) c.get-in-Look.ensures
    ∙ sym (ap (λ a. free_unless (act_refusal c.args.self.now c.args.task a)) c.in-Look.is)
