use Rattle.phaser_engine.proofs.Window.{window_stays}
use Rattle.std.proofs.Common.{◌≡◌, ◌==◌, false, List, ◌∷◌, map, refl, ap, sym, ◌∙◌}
use Rattle.phase_model.specs.declared.history.Event.TheVariants.{Reg as Joined}
use Rattle.phase_model.specs.declared.call.Call.TheVariants.{Register as register}
use Rattle.std.proofs.lemmas.Bool.{eq-eqb}
use Rattle.reg_table.specs.declared.table.Entry.{Entry}
use Rattle.acc_cells.specs.declared.cell.Cell.{Cell}
use Rattle.phaser_engine.specs.Lazy.{partial_of}
use Rattle.phaser_engine.specs.Table.{has, tasks_of}
use Rattle.phaser_engine.proofs.Folding.{folds_same}
use Rattle.phaser_engine.proofs.Holding.{all_held, held_insert, same_partial, partial_gone}
use Rattle.phaser_engine.proofs.Partials.{partials_insert}
use Rattle.phaser_engine.proofs.Reading.{list_any-map}
use Rattle.phaser_engine.proofs.Writing.{still_legal, stands_register, apart}
use Rattle.phaser_engine.proofs.state.Engine.register_anywhere.Goals as goal

pub invariant_of-self-2 : goal.invariant_of-self-2
invariant_of-self-2 c =
    let p = c.self.inside in
    let s = p.history in
    let q = c.args.parent in
    let t = c.args.child in
    let m = c.args.mode in
    let i = c.self.invariant in
    let gone : has t (tasks_of p.table.lines) ≡ false =
    list_any-map (λ u. u == t) (λ (x : Entry). x.task) p.table.lines ∙ c.in_ok-reg.ensures.absent in
    rw c.add.ensures (record {
      stands =
          rw (c.insert.ensures.lines, c.of.ensures)
          (stands_register s p.table.lines p.single q t c.place_for-place.result m
          (record { task = t; reg = c.in_ok-reg.reg; proposed = false }) i.stands c.in_ok-reg.ensures.done
          c.in_ok-reg.ensures.entry c.place_for-place.ensures.place.within);
      folds = folds_same s p.table.partials c.insert.new.self.partials p.cells (Joined q t m) (λ a r. refl)
          (ap (λ (qs : List (List Cell)). all_held qs) c.insert.ensures.partials
          ∙ held_insert p.table.partials c.place_for-place.result) i.folds;
      window = window_stays s.limits s.terms p.cells.from (Joined q t m) s.past
          (still_legal s (register q t m) (Joined q t m) i.stands.legal c.in_ok-reg.ensures.done) i.window;
      partials = c.insert.ensures.partials
          ∙ (partials_insert s.past (Joined q t m ∷ s.past) p.table.lines t c.place_for-place.result
          (record { task = t; reg = c.in_ok-reg.reg; proposed = false }) p.table.partials i.partials gone refl
          (λ u away. same_partial s.past (Joined q t m ∷ s.past) u (λ b. rw (apart t u away) refl))
          (partial_gone (Joined q t m ∷ s.past) t (λ a. rw (eq-eqb t t refl) refl))
          ∙ ap (λ (xs : List Entry). map (partial_of (Joined q t m ∷ s.past)) (tasks_of xs))
          (sym (rw c.of.ensures at c.insert.ensures.lines)));
    })
