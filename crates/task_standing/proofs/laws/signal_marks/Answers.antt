use Rattle.task_standing.proofs.Signals.{signal_marks}
use Rattle.task_standing.proofs.laws.signal_marks.Goals as goal

pub returns : goal.returns
returns c = signal_marks
