use Rattle.std.proofs.Common.{Some, sym, ap, ◌∙◌}
use Rattle.phase_model.specs.declared.call.Call.TheVariants.{Look as look}
use Rattle.phaser_c.specs.declared.waiting.Waiting.{Waiting}
use Rattle.phaser_c.specs.Waiting.{IsCalled}
use Rattle.phaser_c.proofs.GoneOn.{held_after}
use Rattle.phaser_c.proofs.waiting_values.phaser_c_waiting_look.Goals as goal

-- src/waiting_values.rt
pub returns-clause-made : goal.returns-clause-made
returns-clause-made c =
    let made = c.look-outcome.ensures in
    held_after (IsCalled (look c.args.task c.args.accumulator)) c.args.phaser.now.state c.put.new.self.state c.deref_mut.result.now _
    (c.in-Some.ensures.taken ∙ ap (λ (v : Waiting). Some v) (sym c.deref_mut.ensures.value)) c.put.ensures
    (made.history, made.next, made.parked)
