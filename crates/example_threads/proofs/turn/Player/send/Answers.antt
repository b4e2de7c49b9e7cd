use Rattle.std.proofs.Common.{◌∙◌}
use Rattle.example_threads.proofs.Modes.{waits_on}
use Rattle.example_threads.proofs.turn.Player.send.Goals as goal

pub invariant_of-self-clause-waiter : goal.invariant_of-self-clause-waiter
invariant_of-self-clause-waiter g c =
    waits_on g.J.Naming.terms _ _ _ _ c.args.self.now.task c.send-answer.ensures.begins (c.send-answer.ensures.now ∙ c.send-answer.ensures.added) c.is_legal.ensures.legal c.args.self.now.waiter
