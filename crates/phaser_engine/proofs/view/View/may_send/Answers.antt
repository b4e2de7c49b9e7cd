use Rattle.std.proofs.Common.{false, None, length, refl, arith, ap, sym, ◌∙◌}
use Rattle.std.proofs.lemmas.Bool.{lt-ltb, le-ltb}
use Rattle.phase_modes.specs.Mode.{can_signal}
use Rattle.phase_model.specs.declared.history.Event.TheVariants.{Send}
use Rattle.phase_model.specs.Replies.{decided}
use Rattle.phaser_engine.proofs.Reading.{Found, not_live, found_in, place_in, room_now}
use Rattle.phaser_engine.proofs.Sends as sends
use Rattle.phaser_engine.proofs.view.View.may_send.Goals as goal
use Rattle.phaser_engine.proofs.view.View.may_send.Goals.{In-Some}

the_found : (c : In-Some) → Found c.args.self.now.history.now.past c.args.task c.in-Some.entry
the_found c =
    found_in c.args.self.now.history.now c.args.self.now.table.now.lines c.args.self.now.single
    c.args.self.now.stands c.args.task c.in-Some.i c.in-Some.entry c.in-Some.ensures.some
    c.in-Some.ensures.task

pub returns-in_default-clause-refused : goal.returns-in_default-clause-refused
returns-in_default-clause-refused c =
    let s = c.args.self.now.history.now in
    sends.unknown s c.args.task c.args.accumulator c.args.value
    (not_live s c.args.self.now.table.now.lines c.args.self.now.single c.args.self.now.stands c.args.task
    c.in_default.ensures.none)

pub returns-then-not-can_signal-clause-refused : goal.returns-then-not-can_signal-clause-refused
returns-then-not-can_signal-clause-refused c =
    let f = the_found (goal.at.returns-then-not-can_signal-clause-refused c).In-Some in
    sends.no_signal c.args.self.now.history.now c.args.task c.args.accumulator c.args.value f.live
    (f.mode can_signal ∙ (sym c.can_signal.ensures ∙ c.if-not-can_signal.true))

pub returns-then-accumulator-len-clause-refused : goal.returns-then-accumulator-len-clause-refused
returns-then-accumulator-len-clause-refused c =
    let s = c.args.self.now.history.now in
    let f = the_found (goal.at.returns-then-accumulator-len-clause-refused c).In-Some in
    sends.no_accumulator s c.args.task c.args.accumulator c.args.value f.live
    (f.mode can_signal ∙ (sym c.can_signal.ensures ∙ c.if-not-can_signal.false))
    (le-ltb c.args.accumulator (length s.terms.ops)
    (omega (arith, c.if-accumulator-len.true, c.len.ensures.length, ap (λ xs. length xs) c.ops.ensures)))

pub returns-then-not-has_room-clause-refused : goal.returns-then-not-has_room-clause-refused
returns-then-not-has_room-clause-refused c =
    let s = c.args.self.now.history.now in
    let t = c.args.task in
    let f = the_found (goal.at.returns-then-not-has_room-clause-refused c).In-Some in
    sends.free s t c.args.accumulator c.args.value f.live
    (f.mode can_signal ∙ (sym c.can_signal.ensures ∙ c.if-not-can_signal.false))
    (lt-ltb c.args.accumulator (length s.terms.ops)
    (omega (arith, c.if-accumulator-len.false, c.len.ensures.length, ap (λ xs. length xs) c.ops.ensures)))
    ∙ ap (λ b. decided None false b (Send t c.args.accumulator c.args.value))
    (room_now s c.args.self.now.table.now.lines c.args.self.now.single c.args.self.now.stands
    (Send t c.args.accumulator c.args.value) refl refl
    ∙ ((rw (c.reserve.ensures, c.len-2.ensures) at (sym c.has_room.ensures)) ∙ c.if-not-has_room.true))

pub returns-clause-done : goal.returns-clause-done
returns-clause-done c =
    let s = c.args.self.now.history.now in
    let t = c.args.task in
    let f = the_found (goal.at.returns-clause-done c).In-Some in
    sends.free s t c.args.accumulator c.args.value f.live
    (f.mode can_signal ∙ (sym c.can_signal.ensures ∙ c.if-not-can_signal.false))
    (lt-ltb c.args.accumulator (length s.terms.ops)
    (omega (arith, c.if-accumulator-len.false, c.len.ensures.length, ap (λ xs. length xs) c.ops.ensures)))
    ∙ ap (λ b. decided None false b (Send t c.args.accumulator c.args.value))
    (room_now s c.args.self.now.table.now.lines c.args.self.now.single c.args.self.now.stands
    (Send t c.args.accumulator c.args.value) refl refl
    ∙ ((rw (c.reserve.ensures, c.len-2.ensures) at (sym c.has_room.ensures)) ∙ c.if-not-has_room.false))

pub returns-clause-place : goal.returns-clause-place
returns-clause-place c =
    let s = c.args.self.now.history.now in
    place_in s c.args.self.now.table.now.lines c.args.self.now.single c.args.self.now.stands c.args.task
    c.in-Some.i c.in-Some.entry c.in-Some.ensures.some c.in-Some.ensures.task
