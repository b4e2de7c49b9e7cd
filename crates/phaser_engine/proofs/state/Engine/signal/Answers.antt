use Rattle.std.proofs.Common.{◌≡◌, ℕ, ◌<◌, ◌==◌, not, cond, is_some, Option, Some, slice_get, List, ◌∷◌, ◌++◌, length, map, set, get_or, refl, ap, sym, ◌∙◌, arith}
use Rattle.std.proofs.lemmas.Bool.{eq-eqb, and_right}
use Rattle.std.proofs.lemmas.List.{length-map}
use Rattle.std.proofs.lemmas.Option.{same_Some, slice_get_within}
use Rattle.phase_model.specs.declared.history.Event.TheVariants.{Sig}
use Rattle.phase_model.specs.Phases.{waits, signals}
use Rattle.phase_model.specs.Rules.{with_event}
use Rattle.single_state.specs.declared.statement.Statement.{Statement}
use Rattle.phase_model.specs.declared.call.Call.TheVariants.{Signal as signal}
use Rattle.phase_model.proofs.Legal.{last_follows, sig_follows}
use Rattle.phase_model.proofs.LiveTasks.{waits_within}
use Rattle.acc_cells.specs.declared.cell.Cell.{Cell}
use Rattle.acc_cells.specs.Cells.{no_partial, held}
use Rattle.phase_modes.specs.Mode.{can_signal}
use Rattle.phase_model.specs.declared.history.Event.{Event}
use Rattle.phase_model.specs.Tasks.{has_mode}
use Rattle.reg_table.specs.declared.table.Entry.{Entry}
use Rattle.reg_table.specs.Lines.{line_signalled}
use Rattle.phaser_engine.specs.Lazy.{partial_of, folded, unfolded}
use Rattle.phaser_engine.specs.Table.{entry_of, tasks_of, IsLastSingle, IsState}
use Rattle.phaser_engine.specs.Window.{IsWindow}
use Rattle.phaser_engine.proofs.Folding.{folds_taken}
use Rattle.phaser_engine.proofs.Holding.{partial_read, partial_gone, same_partial, holds_only, held_one}
use Rattle.phaser_engine.proofs.Partials.{partials_set}
use Rattle.phaser_engine.proofs.Reading.{history_fits, found_in}
use Rattle.phaser_engine.proofs.Rooms.{room_of_done}
use Rattle.phaser_engine.proofs.Writing.{stands_signal, still_legal, place_of, apart}
use Rattle.phaser_engine.proofs.Wide.{window_folded}
use Rattle.phaser_engine.proofs.Window.{window_stays}
use Rattle.phaser_engine.proofs.state.Engine.signal.Goals as goal
use Rattle.phaser_engine.proofs.state.Engine.signal.Goals.{After-signal}

-- what the task holds, and where
record IsHolder (h : List Event) (ps : List (List Cell)) (t k : ℕ) : Type 0 where
  mine : get_or ps k no_partial ≡ partial_of h t
  inside : k < length ps

the_holder : (h : List Event) (table : List Entry) (ps : List (List Cell)) (t k : ℕ)
    → ps ≡ map (partial_of h) (tasks_of table) → slice_get table k ≡ Some (entry_of h t) → IsHolder h ps t k
the_holder h table ps t k are here =
    let ts = tasks_of table in
    let place = place_of table h t k here in
    record {
      mine = ap (λ (qs : List (List Cell)). get_or qs k no_partial) are ∙ partial_read h ts t k place;
      inside = omega (
        arith,
        ap (λ (qs : List (List Cell)). length qs) are,
        length-map ts (partial_of h),
        slice_get_within ts k t place,
      );
    }

pub fold-requires-clause-known : goal.fold-requires-clause-known
fold-requires-clause-known c =
    let p = c.self.inside in
    let s = p.history in
    let h = the_holder s.past p.table.lines p.table.partials c.args.task c.in-Ok.signal.place
    c.self.invariant.partials c.in-Ok.ensures.place in
    rw (c.self.invariant.folds.ops, h.mine)
    (holds_only s.limits s.terms s.past c.self.invariant.stands.legal c.args.task)

pub fold-requires-clause-room : goal.fold-requires-clause-room
fold-requires-clause-room c =
    let p = c.self.inside in
    let s = p.history in
    let t = c.args.task in
    let x = c.args.number in
    let k = c.in-Ok.signal.place in
    let h = the_holder s.past p.table.lines p.table.partials t k c.self.invariant.partials
    c.in-Ok.ensures.place in
    omega (
      arith,
      held_one p.table.partials k h.inside,
      c.self.invariant.folds.few,
      room_of_done s (signal t x) (Sig t x) c.in-Ok.ensures.done,
      history_fits s.limits c.self.invariant.stands.fit,
    )

pub signal-requires-clause-place : goal.signal-requires-clause-place
signal-requires-clause-place c =
    let p = c.self.inside in
    omega (
      arith,
      slice_get_within p.table.lines c.in-Ok.signal.place (entry_of p.history.past c.args.task)
          c.in-Ok.ensures.place,
      ap (λ (xs : List Entry). length xs) c.fold.ensures.lines,
    )

pub signal-requires-clause-line : goal.signal-requires-clause-line
signal-requires-clause-line c = λ y here.
    let p = c.self.inside in
    let s = p.history in
    let t = c.args.task in
    let x = c.args.number in
    let i = c.self.invariant in
    let k = c.in-Ok.signal.place in
    let f = sig_follows s.limits s.terms s.past t x
    (last_follows s.limits s.terms s.past (Sig t x)
    (still_legal s (signal t x) (Sig t x) i.stands.legal c.in-Ok.ensures.done)).permitted in
    let line : slice_get p.table.lines k ≡ Some y =
    ap (λ (xs : List Entry). slice_get xs k) (sym c.fold.ensures.lines) ∙ here in
    let is : y ≡ entry_of s.past t =
    same_Some y (entry_of s.past t) (sym line ∙ c.in-Ok.ensures.place) in
    let mine = found_in s p.table.lines p.single i.stands t k y line (ap (λ (e : Entry). e.task) is) in
    record {
      signaller = sym (mine.mode can_signal) ∙ f.signaller;
      behind = ap (λ (e : Entry). e.reg.ahead) is
          ∙ and_right (has_mode can_signal t s.past) (not (signals t s.past == waits t s.past))
          (ap not (eq-eqb (signals t s.past) (waits t s.past) f.behind));
      phase_is = ap (λ (e : Entry). e.reg.phase) is ∙ sym c.in-Ok.ensures.phase;
    }

-- what is written with the signal, beside the last single
the_state : (c : After-signal) (single : Option Statement)
    → IsLastSingle single (Sig c.args.task c.args.number ∷ c.self.inside.history.past)
    → IsState (with_event c.self.inside.history (Sig c.args.task c.args.number)) c.signal.new.self
    single c.fold.new.cells
the_state c single last =
    let p = c.self.inside in
    let s = p.history in
    let t = c.args.task in
    let x = c.args.number in
    let i = c.self.invariant in
    let is = c.in-Ok.ensures in
    let k = c.in-Ok.signal.place in
    let n = c.in-Ok.signal.phase in
    let e = Sig t x in
    let table = p.table.lines in
    let old = entry_of s.past t in
    let new = line_signalled old (is_some x) in
    let legal = still_legal s (signal t x) e i.stands.legal is.done in
    let h = the_holder s.past table p.table.partials t k i.partials is.place in
    let f = sig_follows s.limits s.terms s.past t x (last_follows s.limits s.terms s.past e legal).permitted in
    let phase : n ≡ signals t s.past = is.phase ∙ sym f.behind in
    let early : n < s.limits.history =
    omega (arith, is.phase, waits_within t s.past, room_of_done s (signal t x) e is.done) in
    let window : IsWindow c.fold.new.cells.from s.past =
    rw c.fold.ensures.from
    (window_folded s.limits s.terms s.past i.stands.legal t n p.cells.room p.cells.from f.live f.signaller phase
    early i.window p.cells (held (get_or p.table.partials k no_partial)) refl refl i.folds.room) in
    let lines : c.signal.new.self.lines ≡ set table k new =
    c.signal.ensures.lines old (ap (λ (xs : List Entry). slice_get xs k) c.fold.ensures.lines ∙ is.place)
    ∙ (ap (λ (xs : List Entry). set xs k (line_signalled old c.is_some-proposes.result)) c.fold.ensures.lines
    ∙ ap (λ b. set table k (line_signalled old b)) c.is_some-proposes.ensures)
    in
    let written : c.signal.new.self.partials ≡ set p.table.partials k no_partial =
    c.signal.ensures.partials ∙ c.fold.ensures.partials in
    let place = place_of table s.past t k is.place in
    record {
      stands = rw lines (stands_signal s table p.single single t x k i.stands is.done last is.place);
      folds =
          rw written
          (folds_taken s p.table.partials p.cells c.fold.new.cells e t n k i.folds h.inside h.mine
          c.fold.ensures.ops c.fold.ensures.cell_room c.fold.ensures.sums c.fold.ensures.cells
          (λ a q. ap (λ m. cond (m == q) (unfolded t a s.past ++ folded a q s.past) (folded a q s.past))
          phase));
      window = window_stays s.limits s.terms c.fold.new.cells.from e s.past legal window;
      partials = written
          ∙ (partials_set s.past (e ∷ s.past) table t k new no_partial p.table.partials i.partials
          i.stands.apart place refl
          (λ u away. same_partial s.past (e ∷ s.past) u (λ b. rw (apart t u away) refl))
          (partial_gone (e ∷ s.past) t (λ a. rw (eq-eqb t t refl) refl))
          ∙ ap (λ (xs : List Entry). map (partial_of (e ∷ s.past)) (tasks_of xs)) (sym lines));
    }

pub invariant_of-self-then-proposes : goal.invariant_of-self-then-proposes
invariant_of-self-then-proposes c =
    rw c.add.ensures
    (the_state (goal.at.invariant_of-self-then-proposes c).After-signal c.in-Ok.signal.single
    c.in-Ok.ensures.single)

pub invariant_of-self-else-proposes : goal.invariant_of-self-else-proposes
invariant_of-self-else-proposes c =
    let p = c.self.inside in
    let same : c.in-Ok.signal.single ≡ p.single =
    c.in-Ok.ensures.same (sym c.is_some-proposes.ensures ∙ c.if-proposes.false) in
    let last : IsLastSingle p.single (Sig c.args.task c.args.number ∷ p.history.past) =
    rw same at c.in-Ok.ensures.single in
    rw c.add.ensures (the_state (goal.at.invariant_of-self-else-proposes c).After-signal p.single last)
