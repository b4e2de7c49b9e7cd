use Rattle.std.proofs.Common.{◌∙◌}
use Rattle.example_threads.proofs.Modes.{waits_on}
use Rattle.example_threads.proofs.Turns.{passed_where}
use Rattle.example_threads.proofs.turn.Player.ask.Goals as goal

pub invariant_of-self-clause-waiter : goal.invariant_of-self-clause-waiter
invariant_of-self-clause-waiter g c =
    waits_on g.J.Naming.terms _ _ _ _ c.args.self.now.task c.pass-answer.ensures.begins (c.pass-answer.ensures.now ∙ c.pass-answer.ensures.added) c.is_legal.ensures.legal c.args.self.now.waiter

pub returns : goal.returns
returns g c = record {
  closed = passed_where c.pass-answer.result c.pass-answer.new.me c.args.self.now.task c.pass-answer.ensures.closed
      (waits_on g.J.Naming.terms _ _ _ _ c.args.self.now.task c.pass-answer.ensures.begins (c.pass-answer.ensures.now ∙ c.pass-answer.ensures.added) c.is_legal.ensures.legal c.args.self.now.waiter);
}
