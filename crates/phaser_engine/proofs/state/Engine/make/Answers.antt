use Rattle.phase_model.specs.declared.call.Call.TheVariants.{Make as make}
use Rattle.phaser_engine.proofs.Window.{window_stays}
use Rattle.std.proofs.Common.{◌≡◌, false, List, ◌∷◌, map, refl, ap, sym, ◌∙◌}
use Rattle.phase_model.specs.declared.history.Event.TheVariants.{Make}
use Rattle.std.proofs.lemmas.Bool.{eq-eqb}
use Rattle.phase_model.specs.Tasks.{is_live}
use Rattle.reg_table.specs.declared.table.Entry.{Entry}
use Rattle.acc_cells.specs.declared.cell.Cell.{Cell}
use Rattle.phaser_engine.specs.Lazy.{partial_of}
use Rattle.phaser_engine.specs.Table.{has, tasks_of}
use Rattle.phaser_engine.proofs.Folding.{folds_same}
use Rattle.phaser_engine.proofs.Holding.{all_held, held_insert, same_partial, partial_gone}
use Rattle.phaser_engine.proofs.Partials.{partials_insert}
use Rattle.phaser_engine.proofs.Writing.{still_legal, stands_make, apart}
use Rattle.phaser_engine.proofs.state.Engine.make.Goals as goal

pub invariant_of-self-2 : goal.invariant_of-self-2
invariant_of-self-2 c =
    let p = c.self.inside in
    let s = p.history in
    let t = c.args.task in
    let m = c.args.mode in
    let i = c.self.invariant in
    let gone : has t (tasks_of p.table.lines) ≡ false =
    i.stands.who t ∙ ap (λ h. is_live t h) c.in_ok-may_make.ensures.new in
    rw c.add.ensures (record {
      stands = rw (c.insert.ensures.lines, c.maker.ensures)
          (stands_make s p.table.lines p.single t m i.stands c.in_ok-may_make.ensures.new
          c.in_ok-may_make.ensures.done);
      folds = folds_same s p.table.partials c.insert.new.self.partials p.cells (Make t m) (λ a q. refl)
          (ap (λ (qs : List (List Cell)). all_held qs) c.insert.ensures.partials
          ∙ held_insert p.table.partials 0) i.folds;
      window = window_stays s.limits s.terms p.cells.from (Make t m) s.past
          (still_legal s (make t m) (Make t m) i.stands.legal c.in_ok-may_make.ensures.done) i.window;
      partials = c.insert.ensures.partials
          ∙ (partials_insert s.past (Make t m ∷ s.past) p.table.lines t 0 c.maker.result p.table.partials
          i.partials gone (ap (λ (x : Entry). x.task) c.maker.ensures)
          (λ u away. same_partial s.past (Make t m ∷ s.past) u (λ b. rw (apart t u away) refl))
          (partial_gone (Make t m ∷ s.past) t (λ a. rw (eq-eqb t t refl) refl))
          ∙ ap (λ (xs : List Entry). map (partial_of (Make t m ∷ s.past)) (tasks_of xs))
          (sym c.insert.ensures.lines));
    })
