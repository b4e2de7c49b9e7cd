-- A phaser without a past: its parts stand for the empty history.
use Rattle.phaser_engine.proofs.Folding.{folds_new}
use Rattle.phaser_engine.proofs.Window.{window_new}
use Rattle.phaser_engine.proofs.Writing.{stands_new}
use Rattle.phaser_engine.proofs.state.Engine.new.Goals as goal
use Rattle.std.proofs.Common.{[], List, map, ap, sym, ◌∙◌}
use Rattle.phase_model.specs.declared.terms.Terms.{Terms}
use Rattle.phase_model.specs.Rules.{Story}
use Rattle.reg_table.specs.declared.table.Entry.{Entry}
use Rattle.phaser_engine.specs.Lazy.{partial_of}
use Rattle.phaser_engine.specs.Table.{tasks_of}
use Rattle.told_history.specs.Wide.{limits_of}

pub invariant_of-result : goal.invariant_of-result
invariant_of-result c =
    let l = limits_of c.args.limits in
    let terms : Terms = record { ops = c.args.ops; bound = c.args.bound } in
    rw (c.new-history.ensures, c.new-3.ensures) (record {
      stands = rw c.in_ok-table.ensures.lines (stands_new l terms c.requires.counts);
      folds = rw c.in_ok-table.ensures.partials
          (folds_new l terms c.in_ok-cells.cells
          (c.in_ok-cells.ensures.ops ∙ (c.ops.ensures ∙ ap (λ (s : Story). s.terms.ops) c.new-history.ensures)) (rw c.in_ok-cells.ensures.room c.requires.wide)
          c.in_ok-cells.ensures.sums c.in_ok-cells.ensures.cells);
      window = rw c.in_ok-cells.ensures.from window_new;
      partials = c.in_ok-table.ensures.partials
          ∙ ap (λ (xs : List Entry). map (partial_of []) (tasks_of xs)) (sym c.in_ok-table.ensures.lines);
    })
