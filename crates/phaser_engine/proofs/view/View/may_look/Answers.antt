use Rattle.std.proofs.Common.{◌≡◌, ◌-◌, false, None, Some, Option, length, slice_get, unwrap_or, refl, arith, ap, sym, ◌∙◌, inl, inr, ℤ}
use Rattle.std.specs.Option.{option_map, option_map_or}
use Rattle.std.proofs.lemmas.Bool.{lt-ltb, le-ltb, cases_lt}
use Rattle.phase_modes.specs.Mode.{can_wait}
use Rattle.phase_model.specs.declared.history.Event.TheVariants.{Look as Looked}
use Rattle.phase_model.specs.declared.op.Op.{Op}
use Rattle.phase_model.specs.declared.op.Look.{Look}
use Rattle.phase_model.specs.declared.op.Look.TheVariants.{Nothing}
use Rattle.phase_model.specs.Phases.{waits}
use Rattle.phase_model.specs.Rules.{look_of}
use Rattle.phase_model.specs.Replies.{done, decided}
use Rattle.phase_model.specs.Values.{sent, fold}
use Rattle.phase_model.proofs.Closing.{over_behind}
use Rattle.acc_cells.proofs.Standing.{reach_more}
use Rattle.phaser_engine.specs.Lazy.{folded}
use Rattle.phaser_engine.proofs.Lazy.{same_folds, folds_as_sent}
use Rattle.phaser_engine.proofs.Reading.{Found, not_live, found_in, found_phase, room_now}
use Rattle.phaser_engine.proofs.Rooms.{past_within}
use Rattle.phaser_engine.proofs.Sends as sends
use Rattle.phaser_engine.proofs.view.View.may_look.Goals as goal
use Rattle.phaser_engine.proofs.view.View.may_look.Goals.{In-Some}

the_found : (c : In-Some) → Found c.args.self.now.history.now.past c.args.task c.in-Some.entry
the_found c =
    found_in c.args.self.now.history.now c.args.self.now.table.now.lines c.args.self.now.single
    c.args.self.now.stands c.args.task c.in-Some.field-0-0 c.in-Some.entry c.in-Some.ensures.some
    c.in-Some.ensures.task

unwrap_some : (x : Look ℤ) {o : Option (Look ℤ)} → Some x ≡ o → x ≡ unwrap_or o Nothing
unwrap_some x e = ap (λ o. unwrap_or o Nothing) e

unwrap_map : (f : Op → Look ℤ) (o : Option Op) → unwrap_or (option_map f o) Nothing ≡ option_map_or f o Nothing
unwrap_map f None = refl
unwrap_map f (Some op) = refl

pub returns-in_default-clause-refused : goal.returns-in_default-clause-refused
returns-in_default-clause-refused c =
    let s = c.args.self.now.history.now in
    sends.unknown_look s c.args.task c.args.accumulator
    (not_live s c.args.self.now.table.now.lines c.args.self.now.single c.args.self.now.stands c.args.task
    c.in_default.ensures.none)

pub returns-then-not-can_wait-clause-refused : goal.returns-then-not-can_wait-clause-refused
returns-then-not-can_wait-clause-refused c =
    let f = the_found (goal.at.returns-then-not-can_wait-clause-refused c).In-Some in
    sends.no_wait c.args.self.now.history.now c.args.task c.args.accumulator f.live
    (f.mode can_wait ∙ (sym c.can_wait.ensures ∙ c.if-not-can_wait.true))

pub returns-then-accumulator-len-clause-refused : goal.returns-then-accumulator-len-clause-refused
returns-then-accumulator-len-clause-refused c =
    let s = c.args.self.now.history.now in
    let f = the_found (goal.at.returns-then-accumulator-len-clause-refused c).In-Some in
    sends.no_accumulator_look s c.args.task c.args.accumulator f.live
    (f.mode can_wait ∙ (sym c.can_wait.ensures ∙ c.if-not-can_wait.false))
    (le-ltb c.args.accumulator (length s.terms.ops)
    (omega (arith, c.if-accumulator-len.true, c.len.ensures.length, ap (λ xs. length xs) c.ops.ensures)))

pub returns-then-entry-eq0-clause-refused : goal.returns-then-entry-eq0-clause-refused
returns-then-entry-eq0-clause-refused c =
    let s = c.args.self.now.history.now in
    let f = the_found (goal.at.returns-then-entry-eq0-clause-refused c).In-Some in
    sends.no_phase_yet s c.args.task c.args.accumulator f.live
    (f.mode can_wait ∙ (sym c.can_wait.ensures ∙ c.if-not-can_wait.false))
    (lt-ltb c.args.accumulator (length s.terms.ops)
    (omega (arith, c.if-accumulator-len.false, c.len.ensures.length, ap (λ xs. length xs) c.ops.ensures)))
    (le-ltb 0 (waits c.args.task s.past)
    (omega (arith, found_phase s.past c.args.task c.in-Some.entry f, c.if-entry-eq0.true)))

pub returns-then-not-has_room-clause-refused : goal.returns-then-not-has_room-clause-refused
returns-then-not-has_room-clause-refused c =
    let s = c.args.self.now.history.now in
    let t = c.args.task in
    let a = c.args.accumulator in
    let f = the_found (goal.at.returns-then-not-has_room-clause-refused c).In-Some in
    let event = Looked t a (look_of s.terms.ops a (waits t s.past) s.past) in
    sends.free_look s t a f.live (f.mode can_wait ∙ (sym c.can_wait.ensures ∙ c.if-not-can_wait.false))
    (lt-ltb a (length s.terms.ops)
    (omega (arith, c.if-accumulator-len.false, c.len.ensures.length, ap (λ xs. length xs) c.ops.ensures)))
    (lt-ltb 0 (waits t s.past) (omega (arith, found_phase s.past t c.in-Some.entry f, c.if-entry-eq0.false)))
    ∙ ap (λ b. decided None false b event)
    (room_now s c.args.self.now.table.now.lines c.args.self.now.single c.args.self.now.stands event refl refl
    ∙ ((rw (c.reserve.ensures, c.len-2.ensures) at (sym c.has_room.ensures)) ∙ c.if-not-has_room.true))

pub returns-clause-done : goal.returns-clause-done
returns-clause-done c =
    let s = c.args.self.now.history.now in
    let t = c.args.task in
    let a = c.args.accumulator in
    let kept = c.args.cells.now in
    let f = the_found (goal.at.returns-clause-done c).In-Some in
    let phase = found_phase s.past t c.in-Some.entry f in
    let n = c.in-Some.entry.reg.phase - 1 in
    let over =
    over_behind s.limits s.terms s.past c.args.self.now.stands.legal t n
    (f.mode can_wait ∙ (sym c.can_wait.ensures ∙ c.if-not-can_wait.false))
    (omega (arith, phase, c.if-entry-eq0.false)) in
    let seen : c.look.result ≡ look_of s.terms.ops a (waits t s.past) s.past =
    unwrap_some (c.look.result)
    (c.look.ensures.value (λ b q. folded b q s.past) c.requires.folds.cells
    ∙ same_folds (λ op. fold op (folded a n s.past)) (λ op. fold op (sent a n s.past)) (slice_get kept.ops a)
    (folds_as_sent s.limits s.terms s.past c.args.self.now.stands.legal n over.closed a))
    ∙ (unwrap_map (λ op. fold op (sent a (c.in-Some.entry.reg.phase - 1) s.past)) (slice_get kept.ops a)
    ∙ (ap (λ n. look_of kept.ops a n s.past) phase
    ∙ ap (λ terms. look_of terms a (waits t s.past) s.past) c.requires.folds.ops))
    in
    let event = Looked t a (look_of s.terms.ops a (waits t s.past) s.past) in
    sends.free_look s t a f.live (f.mode can_wait ∙ (sym c.can_wait.ensures ∙ c.if-not-can_wait.false))
    (lt-ltb a (length s.terms.ops)
    (omega (arith, c.if-accumulator-len.false, c.len.ensures.length, ap (λ xs. length xs) c.ops.ensures)))
    (lt-ltb 0 (waits t s.past) (omega (arith, phase, c.if-entry-eq0.false)))
    ∙ (ap (λ b. decided None false b event)
    (room_now s c.args.self.now.table.now.lines c.args.self.now.single c.args.self.now.stands event refl refl
    ∙ ((rw (c.reserve.ensures, c.len-2.ensures) at (sym c.has_room.ensures)) ∙ c.if-not-has_room.false))
    ∙ ap (λ x. done (Looked t a x)) (sym seen))

pub look-requires-clause-kept : goal.look-requires-clause-kept
look-requires-clause-kept c =
    let s = c.args.self.now.history.now in
    let t = c.args.task in
    let f = the_found (goal.at.look-requires-clause-kept c).In-Some in
    let able = f.mode can_wait ∙ (sym c.can_wait.ensures ∙ c.if-not-can_wait.false) in
    let from = c.args.cells.now.from in
    elim (cases_lt (c.in-Some.entry.reg.phase - 1) from) [
      | inl given_up ↦
          absurd (omega (
            arith,
            found_phase s.past t c.in-Some.entry f,
            given_up,
            c.requires.window.read t (from - 1) f.live able (omega (arith, given_up)),
            c.if-entry-eq0.false,
          ))
      | inr kept ↦ kept
    ]

pub returns-clause-reach : goal.returns-clause-reach
returns-clause-reach c =
    let s = c.args.self.now.history.now in
    let k = c.args.cells.now in
    reach_more k.sums.values s.limits.history c.look.result
    (omega (arith, c.requires.folds.few, past_within s.limits s.terms s.past c.args.self.now.stands.legal))
    c.look.ensures.near
