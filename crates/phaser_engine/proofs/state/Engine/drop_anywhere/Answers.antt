use Rattle.phaser_engine.proofs.Window.{window_stays, window_released}
use Rattle.phaser_engine.proofs.Writing.{still_legal}
use Rattle.phaser_engine.specs.Table.{Stands, Folds, IsState}
use Rattle.phaser_engine.specs.Window.{IsWindow}
use Rattle.phaser_engine.proofs.Folding.{folds_released}
use Rattle.std.proofs.Common.{◌≡◌, ℕ, ◌+◌, ◌<◌, ◌≤◌, ◌==◌, Bool, true, false, ◌&&◌, not, cond, List, ◌∷◌, length, map, set, get_or, refl, ap, sym, ◌∙◌, arith, inl, inr}
use Rattle.std.specs.List.{remove}
use Rattle.std.proofs.lemmas.Bool.{cases_Bool}
use Rattle.std.proofs.lemmas.List.{length-map, get_or-set_same}
use Rattle.std.proofs.lemmas.Option.{same_Some, slice_get_within}
use Rattle.phase_modes.specs.Mode.{can_signal}
use Rattle.phase_modes.specs.Reg.{signals_of}
use Rattle.phase_model.specs.declared.history.Event.TheVariants.{Drop}
use Rattle.phase_model.specs.Rules.{with_event}
use Rattle.phase_model.specs.Tasks.{has_mode}
use Rattle.phase_model.specs.Phases.{waits, signals}
use Rattle.phase_model.specs.declared.call.Call.TheVariants.{Drop as drop_task}
use Rattle.phase_model.proofs.LiveTasks.{waits_within}
use Rattle.acc_cells.specs.declared.cell.Cell.{Cell}
use Rattle.acc_cells.specs.Cells.{no_partial, held, Kept, from_after}
use Rattle.reg_table.specs.declared.table.Entry.{Entry}
use Rattle.phaser_engine.specs.Lazy.{partial_of}
use Rattle.phaser_engine.specs.Table.{entry_of, tasks_of}
use Rattle.phaser_engine.proofs.Counts.{signals_within}
use Rattle.phaser_engine.proofs.Dropping.{after_drop}
use Rattle.phaser_engine.proofs.Drops.{stands_drop}
use Rattle.phaser_engine.proofs.Folding.{folds_taken, folds_removed}
use Rattle.phaser_engine.proofs.Holding.{partial_read, same_partial, holds_only, held_one}
use Rattle.phaser_engine.proofs.Partials.{partials_remove}
use Rattle.phaser_engine.proofs.Reading.{Found, found_in, counted, history_fits}
use Rattle.phaser_engine.proofs.Rooms.{room_of_done}
use Rattle.phaser_engine.proofs.Wide.{window_folded, holds_no_value}
use Rattle.phaser_engine.proofs.Writing.{place_of, apart}
use Rattle.phaser_engine.proofs.state.Engine.drop_anywhere.Goals as goal
use Rattle.phaser_engine.proofs.state.Engine.drop_anywhere.Goals.{After-signals, After-remove}

-- what the task holds, where, and how far it has come
record IsLeaver (c : After-signals) : Type 0 where
  mine : get_or c.self.inside.table.partials c.in_ok-i.i no_partial
      ≡ partial_of c.self.inside.history.past c.args.task
  inside : c.in_ok-i.i < length c.self.inside.table.partials
  signalled : has_mode can_signal c.args.task c.self.inside.history.past ≡ true
      → c.signals.result ≡ signals c.args.task c.self.inside.history.past
  low : c.signals.result ≤ length c.self.inside.history.past

no_ahead : (b x : Bool) (n : ℕ) → b ≡ false → cond (b && x) (n + 1) n ≡ n
no_ahead true x n e = absurd cc
no_ahead false x n e = refl

the_leaver : (c : After-signals) → IsLeaver c
the_leaver c =
    let p = c.self.inside in
    let s = p.history in
    let t = c.args.task in
    let i = c.self.invariant in
    let k = c.in_ok-i.i in
    let ts = tasks_of p.table.lines in
    let mine = entry_of s.past t in
    let place = place_of p.table.lines s.past t k c.in_ok-i.ensures.place in
    let read : c.get.result ≡ mine =
    same_Some c.get.result mine (sym c.get.ensures.line ∙ c.in_ok-i.ensures.place) in
    let f : Found s.past t mine =
    found_in s p.table.lines p.single i.stands t k mine c.in_ok-i.ensures.place refl in
    let reg : c.signals.result ≡ signals_of mine.reg =
    c.signals.ensures ∙ ap (λ (e : Entry). signals_of e.reg) read in
    let shown : has_mode can_signal t s.past ≡ true → c.signals.result ≡ signals t s.past =
    λ able. reg ∙ counted s p.table.lines p.single i.stands t mine f (sym (f.mode can_signal) ∙ able)
    in
    record {
      mine = ap (λ (ps : List (List Cell)). get_or ps k no_partial) i.partials
          ∙ partial_read s.past ts t k place;
      inside = omega (
        arith,
        ap (λ (ps : List (List Cell)). length ps) i.partials,
        length-map ts (partial_of s.past),
        slice_get_within ts k t place,
      );
      signalled = shown;
      low = elim (cases_Bool (has_mode can_signal t s.past)) [
        | inl able ↦ omega (arith, shown able, signals_within t s.past)
        | inr none ↦
            omega (
              arith,
              reg,
              no_ahead (has_mode can_signal t s.past) (not (signals t s.past == waits t s.past))
                  (waits t s.past) none,
              waits_within t s.past,
            )
      ];
    }

pub fold-requires-clause-place : goal.fold-requires-clause-place
fold-requires-clause-place c =
    slice_get_within c.self.inside.table.lines c.in_ok-i.i (entry_of c.self.inside.history.past c.args.task)
    c.in_ok-i.ensures.place

pub fold-requires-clause-known : goal.fold-requires-clause-known
fold-requires-clause-known c =
    let s = c.self.inside.history in
    let h = the_leaver (goal.at.fold-requires-clause-known c).After-signals in
    rw (c.self.invariant.folds.ops, h.mine)
    (holds_only s.limits s.terms s.past c.self.invariant.stands.legal c.args.task)

pub fold-requires-clause-room : goal.fold-requires-clause-room
fold-requires-clause-room c =
    let s = c.self.inside.history in
    let h = the_leaver (goal.at.fold-requires-clause-room c).After-signals in
    omega (
      arith,
      held_one c.self.inside.table.partials c.in_ok-i.i h.inside,
      c.self.invariant.folds.few,
      room_of_done s (drop_task c.args.task) (Drop c.args.task) c.in_ok-i.ensures.done,
      history_fits s.limits c.self.invariant.stands.fit,
    )

pub remove-requires-clause-place : goal.remove-requires-clause-place
remove-requires-clause-place c =
    omega (
      arith,
      slice_get_within c.self.inside.table.lines c.in_ok-i.i
          (entry_of c.self.inside.history.past c.args.task) c.in_ok-i.ensures.place,
      ap (λ (xs : List Entry). length xs) c.fold.ensures.lines,
    )

pub remove-requires-clause-empty : goal.remove-requires-clause-empty
remove-requires-clause-empty c =
    let ps : List (List Cell) = c.self.inside.table.partials in
    let k = c.in_ok-i.i in
    let h = the_leaver (goal.at.remove-requires-clause-empty c).After-signals in
    ap (λ (qs : List (List Cell)). get_or qs k no_partial) c.fold.ensures.partials
    ∙ get_or-set_same ps k no_partial no_partial h.inside

-- the lines that are left stand for the history with the drop
the_stands : (c : After-remove)
    → Stands (with_event c.self.inside.history (Drop c.args.task)) c.remove.new.self.lines
    c.self.inside.single
the_stands c =
    let p = c.self.inside in
    let k = c.in_ok-i.i in
    let lines : c.remove.new.self.lines ≡ remove p.table.lines k =
    c.remove.ensures.lines ∙ ap (λ (xs : List Entry). remove xs k) c.fold.ensures.lines in
    rw lines (stands_drop p.history p.table.lines p.single c.args.task k c.self.invariant.stands
    c.in_ok-i.ensures.done c.in_ok-i.ensures.place)

-- what is written with the drop, whatever is given up
the_state : (c : After-remove) (cells : Kept)
    → get_or c.self.inside.table.partials c.in_ok-i.i no_partial
    ≡ partial_of c.self.inside.history.past c.args.task
    → c.in_ok-i.i < length c.self.inside.table.partials
    → (has_mode can_signal c.args.task c.self.inside.history.past ≡ true
    → c.signals.result ≡ signals c.args.task c.self.inside.history.past)
    → c.signals.result ≤ length c.self.inside.history.past
    → (Folds (with_event c.self.inside.history (Drop c.args.task)) c.remove.new.self.partials c.fold.new.cells
    → Folds (with_event c.self.inside.history (Drop c.args.task)) c.remove.new.self.partials cells)
    → (IsWindow c.fold.new.cells.from (Drop c.args.task ∷ c.self.inside.history.past)
    → IsWindow cells.from (Drop c.args.task ∷ c.self.inside.history.past))
    → IsState (with_event c.self.inside.history (Drop c.args.task)) c.remove.new.self
    c.self.inside.single cells
the_state c cells mine inside signalled low released moved =
    let p = c.self.inside in
    let s = p.history in
    let t = c.args.task in
    let i = c.self.invariant in
    let k = c.in_ok-i.i in
    let e = Drop t in
    let table = p.table.lines in
    let n = c.signals.result in
    let lines : c.remove.new.self.lines ≡ remove table k =
    c.remove.ensures.lines ∙ ap (λ (xs : List Entry). remove xs k) c.fold.ensures.lines in
    let written : c.remove.new.self.partials ≡ remove (set p.table.partials k no_partial) k =
    c.remove.ensures.partials ∙ ap (λ (qs : List (List Cell)). remove qs k) c.fold.ensures.partials in
    let place = place_of table s.past t k c.in_ok-i.ensures.place in
    let after = λ (a q : ℕ). after_drop s.limits s.terms s.past i.stands.legal t a q n signalled in
    let legal = still_legal s (drop_task t) e i.stands.legal c.in_ok-i.ensures.done in
    let early : n < s.limits.history =
    omega (arith, low, room_of_done s (drop_task t) e c.in_ok-i.ensures.done) in
    let f : Found s.past t (entry_of s.past t) =
    found_in s table p.single i.stands t k (entry_of s.past t) c.in_ok-i.ensures.place refl in
    let kept : IsWindow (from_after (held (get_or p.table.partials k no_partial)) n p.cells) s.past =
    elim (cases_Bool (has_mode can_signal t s.past)) [
      | inl able ↦
          window_folded s.limits s.terms s.past i.stands.legal t n p.cells.room p.cells.from f.live able
          (signalled able) early i.window p.cells (held (get_or p.table.partials k no_partial)) refl refl
          i.folds.room
      | inr none ↦
          rw (mine, holds_no_value s.limits s.terms s.past i.stands.legal t none) i.window
    ] in
    let window : IsWindow c.fold.new.cells.from (e ∷ s.past) =
    rw c.fold.ensures.from
    (window_stays s.limits s.terms (from_after (held (get_or p.table.partials k no_partial)) n p.cells) e s.past
    legal kept) in
    let folds =
    folds_removed (with_event s e) p.table.partials c.fold.new.cells k inside
    (folds_taken s p.table.partials p.cells c.fold.new.cells e t n k i.folds inside mine c.fold.ensures.ops
    c.fold.ensures.cell_room c.fold.ensures.sums c.fold.ensures.cells after)
    in
    record {
      stands = the_stands c;
      folds = released (rw written folds);
      window = moved window;
      partials = written
          ∙ (partials_remove s.past (e ∷ s.past) table t k p.table.partials i.partials i.stands.rows
          i.stands.apart place
          (λ u away. same_partial s.past (e ∷ s.past) u (λ b. rw (apart t u away) refl))
          ∙ ap (λ (xs : List Entry). map (partial_of (e ∷ s.past)) (tasks_of xs)) (sym lines));
    }

pub invariant_of-self-then-remove : goal.invariant_of-self-then-remove
invariant_of-self-then-remove c =
    let a = (goal.at.invariant_of-self-then-remove c).After-remove in
    let h = the_leaver (goal.at.invariant_of-self-then-remove c).After-signals in
    let p = c.self.inside in
    let e = Drop c.args.task in
    let r = c.release_below.ensures in
    rw c.add.ensures
    (the_state a c.release_below.new.self h.mine h.inside h.signalled h.low
    (λ folds. folds_released (with_event p.history e) c.remove.new.self.partials c.fold.new.cells
    c.release_below.new.self folds r.ops r.room r.sums r.cells)
    (λ window.
    rw r.from
    (window_released (with_event p.history e) c.remove.new.self.lines p.single (the_stands a)
    c.fold.new.cells.from c.needed_from.result window c.needed_from.ensures.each c.needed_from.ensures.some)))

pub invariant_of-self-else-remove : goal.invariant_of-self-else-remove
invariant_of-self-else-remove c =
    let a = (goal.at.invariant_of-self-else-remove c).After-remove in
    let h = the_leaver (goal.at.invariant_of-self-else-remove c).After-signals in
    rw c.add.ensures
    (the_state a c.fold.new.cells h.mine h.inside h.signalled h.low (λ folds. folds) (λ window. window))
