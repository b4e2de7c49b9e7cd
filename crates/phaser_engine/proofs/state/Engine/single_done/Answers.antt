use Rattle.phase_model.specs.declared.call.Call.TheVariants.{SingleDone as single_done}
use Rattle.phaser_engine.proofs.Window.{window_stays}
use Rattle.std.proofs.Common.{refl}
use Rattle.phase_model.specs.declared.history.Event.TheVariants.{Did}
use Rattle.phaser_engine.proofs.Folding.{folds_same}
use Rattle.phaser_engine.proofs.Writing.{still_legal, stands_report}
use Rattle.phaser_engine.proofs.state.Engine.single_done.Goals as goal

pub invariant_of-self-2 : goal.invariant_of-self-2
invariant_of-self-2 c =
    let p = c.self.inside in
    let s = p.history in
    let t = c.args.task in
    let i = c.self.invariant in
    rw c.add.ensures (record {
      stands = stands_report s p.table.lines p.single c.in_ok-single.single t i.stands
          c.in_ok-single.ensures.done c.in_ok-single.ensures.single;
      folds = folds_same s p.table.partials p.table.partials p.cells (Did t) (λ a q. refl) refl i.folds;
      window = window_stays s.limits s.terms p.cells.from (Did t) s.past
          (still_legal s (single_done t) (Did t) i.stands.legal c.in_ok-single.ensures.done) i.window;
      partials = i.partials;
    })
