use Rattle.std.proofs.Common.{◌∙◌}
use Rattle.example_threads.proofs.Modes.{waits_on}
use Rattle.example_threads.proofs.pair.register.Goals as goal

pub returns-clause-parent : goal.returns-clause-parent
returns-clause-parent g c = λ k. waits_on g.J.Naming.terms _ _ _ _ c.args.parent c.register-answer.ensures.begins (c.register-answer.ensures.now ∙ c.register-answer.ensures.added) c.is_legal.ensures.legal k
