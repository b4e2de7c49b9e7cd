use Rattle.std.proofs.Common.{refl}
use Rattle.phase_model.specs.declared.call.Call.TheVariants.{Look as look}
use Rattle.phaser_core.proofs.Steps.{settled_quiet}
use Rattle.long_locks.proofs.cell.LongCell.look.Goals as goal

pub invariant_of-self : goal.invariant_of-self
invariant_of-self g c =
    let cell = c.args.self.now in
    record {
      kept = settled_quiet cell.state.story _ cell.parked.items (look c.args.task c.args.accumulator) cell.kept c.look.ensures.history refl refl;
      seats = cell.seats;
      seated = cell.seated;
    }
