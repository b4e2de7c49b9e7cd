use Rattle.std.proofs.Common.{w32, refl}
use Rattle.std.proofs.lemmas.Int.{to_z-of_z}
use Rattle.phase_model.specs.declared.call.Call.TheVariants.{Send as send}
use Rattle.phaser_core.proofs.Steps.{settled_quiet}
use Rattle.long_locks.proofs.cell.LongCell.send.Goals as goal

pub invariant_of-self : goal.invariant_of-self
invariant_of-self g c =
    let cell = c.args.self.now in
    let round = to_z-of_z w32 c.args.value c.ranges.value in
    record {
      kept = settled_quiet cell.state.story _ cell.parked.items (send c.args.task c.args.accumulator c.args.value) cell.kept (rw round at c.send.ensures.history) refl refl;
      seats = cell.seats;
      seated = cell.seated;
    }
