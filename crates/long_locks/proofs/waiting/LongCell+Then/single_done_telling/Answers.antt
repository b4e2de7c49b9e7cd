use Rattle.phase_model.specs.declared.call.Call.TheVariants.{SingleDone as single_done}
use Rattle.long_locks.proofs.Calling.{sound_after}
use Rattle.long_locks.proofs.waiting.LongCell+Then.single_done_telling.Goals as goal

pub settle_if-requires-clause-sound : goal.settle_if-requires-clause-sound
settle_if-requires-clause-sound c =
    let cell = c.args.self.now in
    sound_after cell.state.story _ (single_done c.args.task) cell.parked.items cell.kept
    c.single_done-answer.ensures.history
