use Rattle.phase_model.proofs.Replied.{all_legal}
use Rattle.phase_model.proofs.OrderingLaw.{legal_is_ordered}
use Rattle.phase_model.specs.Laws.{after_calls}
use Rattle.phase_model.proofs.laws.calls_keep_legal.Goals as goal

pub returns : goal.returns
returns c = λ s cs k.
    let legal = all_legal s cs k in
    let end = after_calls s cs in
    (legal, legal_is_ordered end.limits end.terms end.past legal)
