use Rattle.std.proofs.Common.{◌≡◌, ℕ, nat_lt, true, false, List, Option, Some, None, slice_get, refl, ap, sym, ◌∙◌, arith}
use Rattle.std.proofs.lemmas.Bool.{lt-ltb, le-ltb}
use Rattle.phase_modes.specs.declared.reg.Reg.{Reg}
use Rattle.phase_modes.specs.Mode.{is_within}
use Rattle.phase_model.specs.declared.history.Event.TheVariants.{Reg as Joined}
use Rattle.phase_model.specs.Tasks.{is_registered, live_count}
use Rattle.phase_model.specs.Replies.{decided}
use Rattle.phase_model.specs.Rules.{Story}
use Rattle.phase_model.proofs.LiveTasks.{waits_within}
use Rattle.single_state.specs.declared.statement.Statement.{Statement}
use Rattle.reg_table.specs.declared.table.Entry.{Entry}
use Rattle.phaser_engine.specs.Table.{Stands}
use Rattle.phaser_engine.proofs.Reading.{Found, found_in, found_phase, count_is, absent_is, history_fits}
use Rattle.phaser_engine.proofs.Registers.{child_ok, child_err, child_is, too_much, tasks_full, twice, regs_full, free}
use Rattle.phaser_engine.proofs.Rooms.{room_reg, past_within}
use Rattle.phaser_engine.proofs.view.View.may_join.Goals as goal

-- what a line of the table says of its task
line_found : (s : Story) (lines : List Entry) (single : Option Statement) → Stands s lines single
    → (e : Entry) → ((i : ℕ) × (slice_get lines i ≡ Some e)) → Found s.past e.task e
line_found s lines single stands e at = found_in s lines single stands e.task at.0 e at.1 refl

pub returns-in_default-clause-refused : goal.returns-in_default-clause-refused
returns-in_default-clause-refused c =
    let f = line_found c.args.self.now.history.now c.args.self.now.table.now.lines c.args.self.now.single
    c.args.self.now.stands c.args.parent c.requires.line in
    let k = child_err c.args.parent.reg c.args.mode c.in_default.field-0
    (sym c.child_of.ensures ∙ c.in_default.is) in
    too_much c.args.self.now.history.now c.args.parent.task c.args.child c.args.mode f.live
    (f.mode (λ n. is_within c.args.mode n) ∙ k.0)

pub returns-then-child-limits-clause-refused : goal.returns-then-child-limits-clause-refused
returns-then-child-limits-clause-refused c =
    let s = c.args.self.now.history.now in
    let q = c.args.parent.task in
    let t = c.args.child in
    let m = c.args.mode in
    let f = line_found c.args.self.now.history.now c.args.self.now.table.now.lines c.args.self.now.single
    c.args.self.now.stands c.args.parent c.requires.line in
    let k = child_ok c.args.parent.reg m c.in-Ok.joined (sym c.in-Ok.ensures) in
    let within = f.mode (λ n. is_within m n) ∙ k.within in
    let far : nat_lt t s.limits.tasks ≡ false =
    le-ltb t s.limits.tasks
    (omega (arith, c.limits-limits.ensures.tasks, c.if-child-limits.true)) in
    tasks_full s q t m f.live within far

pub returns-then-is_known-clause-refused : goal.returns-then-is_known-clause-refused
returns-then-is_known-clause-refused c =
    let s = c.args.self.now.history.now in
    let q = c.args.parent.task in
    let t = c.args.child in
    let m = c.args.mode in
    let f = line_found c.args.self.now.history.now c.args.self.now.table.now.lines c.args.self.now.single
    c.args.self.now.stands c.args.parent c.requires.line in
    let k = child_ok c.args.parent.reg m c.in-Ok.joined (sym c.in-Ok.ensures) in
    let within = f.mode (λ n. is_within m n) ∙ k.within in
    let fits : nat_lt t s.limits.tasks ≡ true =
    lt-ltb t s.limits.tasks
    (omega (arith, c.limits-limits.ensures.tasks, c.if-child-limits.false)) in
    twice s q t m f.live within fits (sym c.requires.known ∙ c.if-is_known.true)

pub returns-then-len-limits-clause-refused : goal.returns-then-len-limits-clause-refused
returns-then-len-limits-clause-refused c =
    let s = c.args.self.now.history.now in
    let q = c.args.parent.task in
    let t = c.args.child in
    let m = c.args.mode in
    let f = line_found c.args.self.now.history.now c.args.self.now.table.now.lines c.args.self.now.single
    c.args.self.now.stands c.args.parent c.requires.line in
    let k = child_ok c.args.parent.reg m c.in-Ok.joined (sym c.in-Ok.ensures) in
    let within = f.mode (λ n. is_within m n) ∙ k.within in
    let fits : nat_lt t s.limits.tasks ≡ true =
    lt-ltb t s.limits.tasks
    (omega (arith, c.limits-limits.ensures.tasks, c.if-child-limits.false)) in
    let fresh : is_registered t s.past ≡ false =
    sym c.requires.known ∙ c.if-is_known.false in
    let many : nat_lt (live_count s.past) s.limits.regs ≡ false =
    le-ltb (live_count s.past) s.limits.regs
    (omega (
      arith,
      count_is s c.args.self.now.table.now.lines c.args.self.now.single c.args.self.now.stands,
      c.limits-limits.ensures.regs,
      c.if-len-limits.true,
      c.len.ensures,
    ))
    in
    regs_full s q t m f.live within fits fresh many

pub returns-then-not-has_room-clause-refused : goal.returns-then-not-has_room-clause-refused
returns-then-not-has_room-clause-refused c =
    let s = c.args.self.now.history.now in
    let q = c.args.parent.task in
    let t = c.args.child in
    let m = c.args.mode in
    let f = line_found c.args.self.now.history.now c.args.self.now.table.now.lines c.args.self.now.single
    c.args.self.now.stands c.args.parent c.requires.line in
    let k = child_ok c.args.parent.reg m c.in-Ok.joined (sym c.in-Ok.ensures) in
    let within = f.mode (λ n. is_within m n) ∙ k.within in
    let fits : nat_lt t s.limits.tasks ≡ true =
    lt-ltb t s.limits.tasks
    (omega (arith, c.limits-limits.ensures.tasks, c.if-child-limits.false)) in
    let fresh : is_registered t s.past ≡ false =
    sym c.requires.known ∙ c.if-is_known.false in
    let few : nat_lt (live_count s.past) s.limits.regs ≡ true =
    lt-ltb (live_count s.past) s.limits.regs
    (omega (
      arith,
      count_is s c.args.self.now.table.now.lines c.args.self.now.single c.args.self.now.stands,
      c.limits-limits.ensures.regs,
      c.if-len-limits.false,
      c.len.ensures,
    ))
    in
    free s q t m f.live within fits fresh few
    ∙ ap (λ b. decided None false b (Joined q t m))
    (room_reg s c.args.self.now.table.now.lines c.args.self.now.single q t m c.args.self.now.stands fresh
    ∙ ((rw (c.reserve.ensures, c.len-2.ensures) at (sym c.has_room.ensures)) ∙ c.if-not-has_room.true))

pub returns-clause-done : goal.returns-clause-done
returns-clause-done c =
    let s = c.args.self.now.history.now in
    let q = c.args.parent.task in
    let t = c.args.child in
    let m = c.args.mode in
    let f = line_found c.args.self.now.history.now c.args.self.now.table.now.lines c.args.self.now.single
    c.args.self.now.stands c.args.parent c.requires.line in
    let k = child_ok c.args.parent.reg m c.in-Ok.joined (sym c.in-Ok.ensures) in
    let within = f.mode (λ n. is_within m n) ∙ k.within in
    let fits : nat_lt t s.limits.tasks ≡ true =
    lt-ltb t s.limits.tasks
    (omega (arith, c.limits-limits.ensures.tasks, c.if-child-limits.false)) in
    let fresh : is_registered t s.past ≡ false =
    sym c.requires.known ∙ c.if-is_known.false in
    let few : nat_lt (live_count s.past) s.limits.regs ≡ true =
    lt-ltb (live_count s.past) s.limits.regs
    (omega (
      arith,
      count_is s c.args.self.now.table.now.lines c.args.self.now.single c.args.self.now.stands,
      c.limits-limits.ensures.regs,
      c.if-len-limits.false,
      c.len.ensures,
    ))
    in
    free s q t m f.live within fits fresh few
    ∙ ap (λ b. decided None false b (Joined q t m))
    (room_reg s c.args.self.now.table.now.lines c.args.self.now.single q t m c.args.self.now.stands fresh
    ∙ ((rw (c.reserve.ensures, c.len-2.ensures) at (sym c.has_room.ensures)) ∙ c.if-not-has_room.false))

pub returns-clause-entry : goal.returns-clause-entry
returns-clause-entry c =
    let s = c.args.self.now.history.now in
    let q = c.args.parent.task in
    let t = c.args.child in
    let m = c.args.mode in
    let f = line_found c.args.self.now.history.now c.args.self.now.table.now.lines c.args.self.now.single
    c.args.self.now.stands c.args.parent c.requires.line in
    let fits : nat_lt t s.limits.tasks ≡ true =
    lt-ltb t s.limits.tasks
    (omega (arith, c.limits-limits.ensures.tasks, c.if-child-limits.false)) in
    let fresh : is_registered t s.past ≡ false =
    sym c.requires.known ∙ c.if-is_known.false in
    child_is s.limits s.terms s.past c.args.self.now.stands.legal q t m c.args.parent c.in-Ok.joined fresh f
    (child_ok c.args.parent.reg m c.in-Ok.joined (sym c.in-Ok.ensures))

pub returns-clause-absent : goal.returns-clause-absent
returns-clause-absent c =
    let s = c.args.self.now.history.now in
    let t = c.args.child in
    let fits : nat_lt t s.limits.tasks ≡ true =
    lt-ltb t s.limits.tasks
    (omega (arith, c.limits-limits.ensures.tasks, c.if-child-limits.false)) in
    let fresh : is_registered t s.past ≡ false =
    sym c.requires.known ∙ c.if-is_known.false in
    absent_is s c.args.self.now.table.now.lines c.args.self.now.single c.args.self.now.stands t fresh

pub returns-clause-next : goal.returns-clause-next
returns-clause-next c =
    let s = c.args.self.now.history.now in
    let stands = c.args.self.now.stands in
    let q = c.args.parent.task in
    let f =
    line_found s c.args.self.now.table.now.lines c.args.self.now.single stands c.args.parent c.requires.line in
    let joined = child_ok c.args.parent.reg c.args.mode c.in-Ok.joined (sym c.in-Ok.ensures) in
    omega (
      arith,
      ap (λ (r : Reg ℕ). r.phase) joined.is_reg,
      found_phase s.past q c.args.parent f,
      waits_within q s.past,
      past_within s.limits s.terms s.past stands.legal,
      history_fits s.limits stands.fit,
    )
