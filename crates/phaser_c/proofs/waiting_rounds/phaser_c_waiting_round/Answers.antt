use Rattle.std.proofs.Common.{Some, sym, ap, ◌∙◌}
use Rattle.phaser_c.specs.declared.waiting.Waiting.{Waiting}
use Rattle.phaser_c.specs.Rounds.{IsRound}
use Rattle.phaser_c.proofs.GoneOn.{held_after}
use Rattle.phaser_c.proofs.waiting_rounds.phaser_c_waiting_round.Goals as goal

-- src/waiting_rounds.rt
pub returns-clause-calls : goal.returns-clause-calls
returns-clause-calls c =
    held_after (IsRound c.args.phase c.args.sends.now c.args.tasks.now) c.args.phaser.now.state c.put.new.self.state c.deref_mut.result.now _
    (c.in-Some.ensures.taken ∙ ap (λ (v : Waiting). Some v) (sym c.deref_mut.ensures.value)) c.put.ensures
    c.round-course.ensures.made
