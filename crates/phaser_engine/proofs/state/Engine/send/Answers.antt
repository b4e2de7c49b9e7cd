use Rattle.phase_model.specs.Rules.{Story}
use Rattle.phaser_engine.proofs.Reading.{history_fits}
use Rattle.phaser_engine.proofs.Rooms.{room_of_done}
use Rattle.phase_model.specs.declared.call.Call.TheVariants.{Send as send}
use Rattle.phase_model.specs.Replies.{reply, done}
use Rattle.phaser_engine.proofs.Window.{window_stays}
use Rattle.std.proofs.Common.{◌≡◌, ◌<◌, List, ◌∷◌, length, set, get_or, w32, refl, ap, ◌∙◌, arith, ℕ, ℤ}
use Rattle.std.proofs.lemmas.Int.{to_z-of_z}
use Rattle.std.proofs.lemmas.List.{length-map}
use Rattle.std.proofs.lemmas.Option.{slice_get_within}
use Rattle.phase_model.specs.declared.history.Event.TheVariants.{Send}
use Rattle.acc_cells.specs.declared.cell.Cell.{Cell}
use Rattle.acc_cells.specs.Cells.{no_partial}
use Rattle.phaser_engine.specs.Lazy.{partial_of, partial_with}
use Rattle.phaser_engine.specs.Table.{tasks_of}
use Rattle.phaser_engine.proofs.Folding.{folds_send}
use Rattle.phaser_engine.proofs.Holding.{held_one, partial_read, partial_sent, same_partial}
use Rattle.phaser_engine.proofs.Partials.{partials_at}
use Rattle.phaser_engine.proofs.Writing.{still_legal, stands_send, place_of, apart}
use Rattle.phaser_engine.proofs.state.Engine.send.Goals as goal

pub invariant_of-self-2 : goal.invariant_of-self-2
invariant_of-self-2 c =
    let p = c.self.inside in
    let s = p.history in
    let t = c.args.task in
    let a = c.args.accumulator in
    let v = c.args.value in
    let i = c.self.invariant in
    let k = c.in_ok-i.i in
    let round = to_z-of_z w32 v c.ranges.value in
    let ts = tasks_of p.table.lines in
    let place = place_of p.table.lines s.past t k c.in_ok-i.ensures.place in
    let mine : get_or p.table.partials k no_partial ≡ partial_of s.past t =
    ap (λ (ps : List (List Cell)). get_or ps k no_partial) i.partials
    ∙ partial_read s.past ts t k place in
    let inside : k < length p.table.partials =
    omega (
      arith,
      ap (λ (ps : List (List Cell)). length ps) i.partials,
      length-map ts (partial_of s.past),
      slice_get_within ts k t place,
    ) in
    let written : c.send.new.self.partials
    ≡ set p.table.partials k (partial_with a v (get_or p.table.partials k no_partial)) =
    rw round at c.send.ensures.partials in
    let is : partial_with a v (get_or p.table.partials k no_partial) ≡ partial_of (Send t a v ∷ s.past) t =
    ap (λ (q : List Cell). partial_with a v q) mine
    ∙ partial_sent s.past t a v c.in_ok-i.ensures.accumulator in
    rw (c.add.ensures, c.send.ensures.lines, round) (record {
      stands = stands_send s p.table.lines p.single t a v i.stands (rw round at c.in_ok-i.ensures.done);
      folds = rw written
          (folds_send s p.table.partials p.cells t a k v i.folds inside mine c.in_ok-i.ensures.accumulator);
      window = window_stays s.limits s.terms p.cells.from (Send t a v) s.past
          (still_legal s (send t a v) (Send t a v) i.stands.legal (rw round at c.in_ok-i.ensures.done))
          i.window;
      partials =
          written ∙ partials_at s.past (Send t a v ∷ s.past) ts t k
          (partial_with a v (get_or p.table.partials k no_partial)) p.table.partials i.partials
          i.stands.apart place
          (λ u away. same_partial s.past (Send t a v ∷ s.past) u (λ b. rw (apart t u away) refl)) is;
    })

-- there is room for the send
send_room : (s : Story) (t a : ℕ) {v : ℤ} → reply s (send t a v) ≡ done (Send t a v)
    → length s.past < s.limits.history
send_room s t a {v} is = room_of_done s (send t a v) (Send t a v) is

pub send-requires-clause-room : goal.send-requires-clause-room
send-requires-clause-room c =
    let p = c.self.inside in
    let s = p.history in
    let t = c.args.task in
    let done = c.in_ok-i.ensures.done in
    let i = c.self.invariant in
    let k = c.in_ok-i.i in
    let ts = tasks_of p.table.lines in
    let place = place_of p.table.lines s.past t k c.in_ok-i.ensures.place in
    let inside : k < length p.table.partials =
    omega (
      arith,
      ap (λ (ps : List (List Cell)). length ps) i.partials,
      length-map ts (partial_of s.past),
      slice_get_within ts k t place,
    ) in
    omega (
      arith,
      held_one p.table.partials k inside,
      i.folds.few,
      send_room s t c.args.accumulator done,
      history_fits s.limits i.stands.fit,
    )
