use Rattle.std.proofs.Common.{Some, w32, sym, ap, ◌∙◌}
use Rattle.std.proofs.lemmas.Int.{to_z-of_z}
use Rattle.phase_model.specs.declared.call.Call.TheVariants.{Send as send}
use Rattle.phaser_c.specs.declared.waiting.Waiting.{Waiting}
use Rattle.phaser_c.specs.Waiting.{IsCalled}
use Rattle.phaser_c.proofs.GoneOn.{held_after}
use Rattle.phaser_c.proofs.waiting_values.phaser_c_waiting_send.Goals as goal

-- src/waiting_values.rt
pub returns-clause-made : goal.returns-clause-made
returns-clause-made c =
    let made = c.send-outcome.ensures in
    let round = to_z-of_z w32 c.args.value c.ranges.value in
    held_after (IsCalled (send c.args.task c.args.accumulator c.args.value)) c.args.phaser.now.state c.put.new.self.state c.deref_mut.result.now _
    (c.in-Some.ensures.taken ∙ ap (λ (v : Waiting). Some v) (sym c.deref_mut.ensures.value)) c.put.ensures
    (rw round at made.history, made.next, made.parked)
