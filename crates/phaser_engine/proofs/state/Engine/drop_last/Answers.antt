use Rattle.std.proofs.Common.{◌≡◌, ◌-◌, ◌<◌, ◌≤◌, List, ◌∷◌, length, map, get_or, refl, ap, sym, ◌∙◌, arith}
use Rattle.std.proofs.lemmas.List.{length-map}
use Rattle.std.proofs.lemmas.Option.{slice_get_within}
use Rattle.phase_model.specs.declared.history.Event.TheVariants.{Drop}
use Rattle.phase_model.specs.declared.call.Call.TheVariants.{Drop as drop_task}
use Rattle.phase_model.specs.declared.op.Op.{Op}
use Rattle.acc_cells.specs.declared.cell.Cell.{Cell}
use Rattle.acc_cells.specs.Cells.{no_partial}
use Rattle.reg_table.specs.declared.table.Entry.{Entry}
use Rattle.phaser_engine.specs.Lazy.{partial_of}
use Rattle.phaser_engine.specs.Table.{tasks_of}
use Rattle.phaser_engine.proofs.Dropping.{folds_dropped}
use Rattle.phaser_engine.proofs.Drops.{stands_drop}
use Rattle.phaser_engine.proofs.Holding.{partial_read, same_partial, remove_set}
use Rattle.phaser_engine.proofs.Partials.{partials_remove}
use Rattle.phaser_engine.proofs.Window.{window_stays}
use Rattle.phaser_engine.proofs.Writing.{still_legal, place_of, apart}
use Rattle.phaser_engine.proofs.state.Engine.drop_last.Goals as goal

pub invariant_of-self-2 : goal.invariant_of-self-2
invariant_of-self-2 c =
    let p = c.self.inside in
    let s = p.history in
    let t = c.args.task in
    let i = c.self.invariant in
    let e = Drop t in
    let table = p.table.lines in
    let ts = tasks_of table in
    let ps : List (List Cell) = p.table.partials in
    let k = length table - 1 in
    let is = c.if-not-leaves.ensures.done refl in
    let at = c.if-not-leaves.ensures.line refl in
    let went = c.if-not-pop.ensures in
    let place = place_of table s.past t k at in
    let mine : get_or ps k no_partial ≡ partial_of s.past t =
    ap (λ (qs : List (List Cell)). get_or qs k no_partial) i.partials ∙ partial_read s.past ts t k place in
    let inside : k < length ps =
    omega (
      arith,
      ap (λ (qs : List (List Cell)). length qs) i.partials,
      length-map ts (partial_of s.past),
      slice_get_within ts k t place,
    ) in
    let few : length s.terms.ops ≤ 4 =
    omega (arith, c.len.ensures.few, c.len.ensures.length, ap (λ (os : List Op). length os) c.ops.ensures) in
    rw c.add.ensures (record {
      stands = rw (went.lines refl) (stands_drop s table p.single t k i.stands is at);
      folds = rw (went.partials refl)
          (folds_dropped s ps p.cells t k i.folds inside few
          (sym (went.empty refl) ∙ mine));
      window = window_stays s.limits s.terms p.cells.from e s.past
          (still_legal s (drop_task t) e i.stands.legal is) i.window;
      partials = went.partials refl
          ∙ (sym (remove_set ps k no_partial)
          ∙ (partials_remove s.past (e ∷ s.past) table t k ps i.partials i.stands.rows i.stands.apart place
          (λ u away. same_partial s.past (e ∷ s.past) u (λ b. rw (apart t u away) refl))
          ∙ ap (λ (xs : List Entry). map (partial_of (e ∷ s.past)) (tasks_of xs)) (sym (went.lines refl))));
    })
