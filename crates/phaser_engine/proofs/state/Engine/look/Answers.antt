use Rattle.phase_model.specs.declared.call.Call.TheVariants.{Look as look}
use Rattle.phaser_engine.proofs.Window.{window_stays}
use Rattle.std.proofs.Common.{refl}
use Rattle.phase_model.specs.declared.history.Event.TheVariants.{Look as Looked}
use Rattle.phaser_engine.proofs.Folding.{folds_same}
use Rattle.phaser_engine.proofs.Writing.{still_legal, stands_look}
use Rattle.phaser_engine.proofs.state.Engine.look.Goals as goal

pub invariant_of-self-2 : goal.invariant_of-self-2
invariant_of-self-2 c =
    let p = c.self.inside in
    let s = p.history in
    let t = c.args.task in
    let a = c.args.accumulator in
    let x = c.in_ok-seen.seen in
    let i = c.self.invariant in
    rw c.add.ensures (record {
      stands = stands_look s p.table.lines p.single t a x i.stands c.in_ok-seen.ensures.done;
      folds = folds_same s p.table.partials p.table.partials p.cells (Looked t a x) (λ b q. refl) refl
          i.folds;
      window = window_stays s.limits s.terms p.cells.from (Looked t a x) s.past
          (still_legal s (look t a) (Looked t a x) i.stands.legal c.in_ok-seen.ensures.done) i.window;
      partials = i.partials;
    })
