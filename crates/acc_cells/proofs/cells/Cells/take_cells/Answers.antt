use Rattle.std.proofs.Common.{◌≡◌, ◌+◌, refl, ap, ◌∙◌, arith}
use Rattle.acc_cells.specs.declared.sums.Sums.{Sums}
use Rattle.acc_cells.specs.Cells.{Kept, StandsFor, held}
use Rattle.acc_cells.proofs.Taking.{taken_values, count_within}
use Rattle.acc_cells.proofs.Standing.{cell_among, kept_folded, kept_more, stands_taken}
use Rattle.acc_cells.proofs.cells.Cells.take_cells.Goals as goal

pub invariant_of-self : goal.invariant_of-self
invariant_of-self c =
    let s = c.self.inside in
    let k : Kept = record { ops = s.ops; room = s.ring.room; from = s.from; rows = s.ring.rows; sums = s.sums } in
    let more : c.taken-self-inside.result.values ≡ s.sums.values + held c.args.cells.now =
    ap (λ (x : Sums). x.values) c.taken-self-inside.ensures.sums ∙ taken_values c.args.cells.now s.sums in
    kept_more k c.taken-self-inside.result c.self.invariant (omega (arith, more))
    c.taken-self-inside.ensures.in_range

pub fold-requires-clause-few : goal.fold-requires-clause-few
fold-requires-clause-few c = λ a near.
    let s = c.self.inside in
    let k : Kept = record { ops = s.ops; room = s.ring.room; from = s.from; rows = s.ring.rows; sums = s.sums } in
    let room = rw (← c.self.view_is) at c.requires.room in
    omega (
      arith,
      (cell_among k a c.args.phase near c.self.invariant).0,
      count_within c.args.cells.now a,
      room,
    )

pub invariant_of-self-2 : goal.invariant_of-self-2
invariant_of-self-2 c =
    let s = c.self.inside in
    let k : Kept = record { ops = s.ops; room = s.ring.room; from = s.from; rows = s.ring.rows; sums = s.sums } in
    let n : Kept = record {
      ops = s.ops;
      room = c.fold.new.self.room;
      from = c.max-self-inside.result;
      rows = c.fold.new.self.rows;
      sums = c.taken-self-inside.result;
    } in
    let more : c.taken-self-inside.result.values ≡ s.sums.values + held c.args.cells.now =
    ap (λ (x : Sums). x.values) c.taken-self-inside.ensures.sums ∙ taken_values c.args.cells.now s.sums in
    kept_folded k n c.args.phase c.args.cells.now c.self.invariant (record {
      ops = refl;
      room = c.fold.ensures.room;
      no_less = omega (arith, c.max-self-inside.ensures);
      near = omega (arith, c.max-self-inside.ensures, c.saturating_sub.ensures, c.room.ensures.room);
      kept = omega (arith, c.if-phase-self.false);
      phase = c.fold.ensures.phase;
      here = c.fold.ensures.here;
      others = c.fold.ensures.others;
    }) c.requires.in_range more c.taken-self-inside.ensures.in_range

pub returns-clause-cells : goal.returns-clause-cells
returns-clause-cells c = λ values mine stands holds.
    let s = c.self.inside in
    let k : Kept = record { ops = s.ops; room = s.ring.room; from = s.from; rows = s.ring.rows; sums = s.sums } in
    let n : Kept = record {
      ops = s.ops;
      room = c.fold.new.self.room;
      from = c.max-self-inside.result;
      rows = c.fold.new.self.rows;
      sums = c.taken-self-inside.result;
    } in
    let stood : StandsFor k values = rw (← c.self.view_is) at stands in
    stands_taken k n c.args.phase c.args.cells.now values mine c.self.invariant (record {
      ops = refl;
      room = c.fold.ensures.room;
      no_less = omega (arith, c.max-self-inside.ensures);
      near = omega (arith, c.max-self-inside.ensures, c.saturating_sub.ensures, c.room.ensures.room);
      kept = omega (arith, c.if-phase-self.false);
      phase = c.fold.ensures.phase;
      here = c.fold.ensures.here;
      others = c.fold.ensures.others;
    }) stood holds
