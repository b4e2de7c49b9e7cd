use Rattle.std.proofs.lemmas.Bool.{and_from, ne_eqb}
use Rattle.std.proofs.lemmas.Option.{same_Some}
use Rattle.phase_modes.specs.Mode.{can_signal}
use Rattle.phase_model.specs.Tasks.{has_mode}
use Rattle.phase_model.specs.Rules.{with_event}
use Rattle.phase_model.proofs.Legal.{last_follows, pass_follows}
use Rattle.reg_table.specs.Lines.{line_passed}
use Rattle.phaser_engine.proofs.Reading.{history_fits, found_in}
use Rattle.std.proofs.Common.{◌≡◌, ◌==◌, ◌<◌, ◌≤◌, ◌∷◌, true, not, set, List, map, refl, ap, sym, ◌∙◌, subst, arith}
use Rattle.phase_model.specs.declared.history.Event.TheVariants.{Pass, Claim}
use Rattle.phase_model.specs.Phases.{waits, signals}
use Rattle.phase_model.specs.declared.call.Call.TheVariants.{Pass as pass}
use Rattle.phase_model.proofs.LiveTasks.{waits_within}
use Rattle.reg_table.specs.declared.table.Entry.{Entry}
use Rattle.phaser_engine.specs.Table.{entry_of, tasks_of, Stands, Folds, IsState}
use Rattle.phaser_engine.specs.Window.{IsWindow}
use Rattle.phaser_engine.specs.Line.{has_passed, is_waiter_past}
use Rattle.std.specs.List.{list_all, list_any}
use Rattle.acc_cells.specs.Cells.{Kept}
use Rattle.phaser_engine.proofs.Folding.{folds_same, folds_released}
use Rattle.phaser_engine.proofs.Rooms.{room_of_done}
use Rattle.phaser_engine.proofs.Window.{window_stays, window_released}
use Rattle.phaser_engine.proofs.Writing.{stands_claim, stands_pass, still_legal, tasks_set, place_of}
use Rattle.acc_cells.specs.declared.cell.Cell.{Cell}
use Rattle.phaser_engine.specs.Lazy.{partial_of}
use Rattle.phaser_engine.specs.Phaser.{Working}
use Rattle.phaser_engine.proofs.Holding.{all_held}
use Rattle.phaser_engine.proofs.state.Engine.pass.Goals as goal
use Rattle.phaser_engine.proofs.state.Engine.pass.Goals.{After-pass}

pub add-requires : goal.add-requires
add-requires c =
    let turn = rw c.in-Claims.is at c.in_ok-answer.ensures.turn in
    room_of_done c.self.inside.history (pass c.args.task) (Claim c.args.task) turn.0

pub invariant_of-self-in-Claims : goal.invariant_of-self-in-Claims
invariant_of-self-in-Claims c =
    let p = c.self.inside in
    let s = p.history in
    let t = c.args.task in
    let i = c.self.invariant in
    let turn = rw c.in-Claims.is at c.in_ok-answer.ensures.turn in
    rw c.add.ensures (record {
      stands = stands_claim s p.table.lines p.single c.in-Claims.single t i.stands turn.0 turn.1;
      folds = folds_same s p.table.partials p.table.partials p.cells (Claim t) (λ a q. refl) refl i.folds;
      window = window_stays s.limits s.terms p.cells.from (Claim t) s.past
          (still_legal s (pass t) (Claim t) i.stands.legal turn.0) i.window;
      partials = i.partials;
    })

pub pass-requires-clause-line : goal.pass-requires-clause-line
pass-requires-clause-line c = λ x here.
    let p = c.self.inside in
    let s = p.history in
    let t = c.args.task in
    let i = c.self.invariant in
    let turn = rw c.in-Passes.is at c.in_ok-answer.ensures.turn in
    let is : x ≡ entry_of s.past t = same_Some x (entry_of s.past t) (sym here ∙ turn.1) in
    let f = pass_follows s.limits s.terms s.past t
    (last_follows s.limits s.terms s.past (Pass t)
    (still_legal s (pass t) (Pass t) i.stands.legal turn.0)).permitted in
    let phase : x.reg.phase ≡ waits t s.past = ap (λ (e : Entry). e.reg.phase) is in
    record {
      ahead = λ able.
          let mine =
          found_in s p.table.lines p.single i.stands t c.in-Passes.place x here
          (ap (λ (e : Entry). e.task) is) in
          let signalled = f.signalled (mine.mode can_signal ∙ able) in
          rw is (and_from (has_mode can_signal t s.past) (not (signals t s.past == waits t s.past))
          (mine.mode can_signal ∙ able)
          (rw (ne_eqb (signals t s.past) (waits t s.past) (λ e. omega (arith, e, signalled))) refl));
      low = omega (
        arith,
        phase,
        waits_within t s.past,
        room_of_done s (pass t) (Pass t) turn.0,
        history_fits s.limits i.stands.fit,
      );
    }

-- the last step's lines stand for the history with the pass
the_stands : (c : After-pass)
    → Stands (with_event c.self.inside.history (Pass c.args.task)) c.pass.new.self.lines c.self.inside.single
the_stands c =
    let p = c.self.inside in
    let s = p.history in
    let t = c.args.task in
    let k = c.in-Passes.place in
    let turn = rw c.in-Passes.is at c.in_ok-answer.ensures.turn in
    rw (c.pass.ensures.lines (entry_of s.past t) turn.1)
    (stands_pass s p.table.lines p.single t k c.self.invariant.stands turn.0 turn.1)

-- what is written with the pass, whatever is given up
the_state : (c : After-pass) (cells : Kept)
    → (Folds (with_event c.self.inside.history (Pass c.args.task)) c.pass.new.self.partials
    c.self.inside.cells
    → Folds (with_event c.self.inside.history (Pass c.args.task)) c.pass.new.self.partials cells)
    → (IsWindow c.self.inside.cells.from (Pass c.args.task ∷ c.self.inside.history.past)
    → IsWindow cells.from (Pass c.args.task ∷ c.self.inside.history.past))
    → IsState (with_event c.self.inside.history (Pass c.args.task)) c.pass.new.self
    c.self.inside.single cells
the_state c cells folds window =
    let p = c.self.inside in
    let s = p.history in
    let t = c.args.task in
    let i = c.self.invariant in
    let k = c.in-Passes.place in
    let turn = rw c.in-Passes.is at c.in_ok-answer.ensures.turn in
    let line = line_passed (entry_of s.past t) in
    let lines : c.pass.new.self.lines ≡ set p.table.lines k line =
    c.pass.ensures.lines (entry_of s.past t) turn.1 in
    let tasks : tasks_of c.pass.new.self.lines ≡ tasks_of p.table.lines =
    ap (λ (xs : List Entry). tasks_of xs) lines
    ∙ tasks_set p.table.lines k t line (place_of p.table.lines s.past t k turn.1) refl
    in
    record {
      stands = the_stands c;
      folds = folds
          (folds_same s p.table.partials c.pass.new.self.partials p.cells (Pass t) (λ a q. refl)
          (ap (λ (qs : List (List Cell)). all_held qs) c.pass.ensures.partials) i.folds);
      window = window
          (window_stays s.limits s.terms p.cells.from (Pass t) s.past
          (still_legal s (pass t) (Pass t) i.stands.legal turn.0) i.window);
      partials = c.pass.ensures.partials ∙ (i.partials ∙ ap (λ us. map (partial_of s.past) us) (sym tasks));
    }

pub invariant_of-self-then-pass : goal.invariant_of-self-then-pass
invariant_of-self-then-pass c =
    let a = (goal.at.invariant_of-self-then-pass c).After-pass in
    let p = c.self.inside in
    let s = p.history in
    let t = c.args.task in
    let turn = rw c.in-Passes.is at c.in_ok-answer.ensures.turn in
    let r = c.release_below.ensures in
    let each : 0 < c.in-Passes.phase
    → list_all (λ e. has_passed c.in-Passes.phase e.reg) c.pass.new.self.lines ≡ true =
    λ later. rw turn.2 (c.pass.ensures.each (entry_of s.past t) turn.1 c.if-pass.true)
    in
    let some : 0 < c.in-Passes.phase
    → list_any (λ e. is_waiter_past c.in-Passes.phase e.reg) c.pass.new.self.lines ≡ true =
    λ later. rw turn.2 (c.pass.ensures.some (entry_of s.past t) turn.1 c.if-pass.true)
    in
    rw c.add-in-Passes.ensures
    (the_state a c.release_below.new.self
    (λ folds. folds_released (with_event s (Pass t)) c.pass.new.self.partials p.cells c.release_below.new.self
    folds r.ops r.room r.sums r.cells)
    (λ window.
    rw r.from
    (window_released (with_event s (Pass t)) c.pass.new.self.lines p.single (the_stands a) p.cells.from
    c.in-Passes.phase window each some)))

pub invariant_of-self-else-pass : goal.invariant_of-self-else-pass
invariant_of-self-else-pass c =
    let a = (goal.at.invariant_of-self-else-pass c).After-pass in
    rw c.add-in-Passes.ensures (the_state a c.self.inside.cells (λ folds. folds) (λ window. window))

-- the phase that is passed is no later than there may be events
early : (c : After-pass) → c.in-Passes.phase ≤ c.args.self.now.story.limits.history
early c =
    let s = c.self.inside.history in
    let t = c.args.task in
    let turn = rw c.in-Passes.is at c.in_ok-answer.ensures.turn in
    subst (λ (v : Working). c.in-Passes.phase ≤ v.story.limits.history) c.self.view_is
    (omega (arith, turn.2, waits_within t s.past, room_of_done s (pass t) (Pass t) turn.0))

pub returns-then-pass-clause-early : goal.returns-then-pass-clause-early
returns-then-pass-clause-early c = early ((goal.at.returns-then-pass-clause-early c).After-pass)

pub returns-else-pass-clause-early : goal.returns-else-pass-clause-early
returns-else-pass-clause-early c = early ((goal.at.returns-else-pass-clause-early c).After-pass)
