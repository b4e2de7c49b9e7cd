use Rattle.std.proofs.Common.{◌≡◌, ℕ, ◌==◌, Bool, true, false, ◌&&◌, not, List, Option, Some, None, is_some, Ok, Err, IfSome, refl, ap, sym, ◌∙◌, subst}
use Rattle.std.specs.Result.{is_err}
use Rattle.std.proofs.lemmas.Bool.{eqb-true}
use Rattle.phase_modes.specs.Mode.{can_signal, can_single}
use Rattle.phase_model.specs.declared.history.Event.TheVariants.{Sig}
use Rattle.phase_model.specs.Tasks.{has_mode}
use Rattle.phase_model.specs.Phases.{waits, signals, is_within_bound}
use Rattle.phase_model.specs.Rules.{Story}
use Rattle.phase_model.specs.Replies.{decided}
use Rattle.single_state.specs.declared.statement.Statement.{Statement}
use Rattle.single_state.specs.Single.{MayPropose}
use Rattle.reg_table.specs.declared.table.Entry.{Entry}
use Rattle.phaser_engine.specs.Line.{is_within}
use Rattle.phaser_engine.specs.Table.{Stands}
use Rattle.phaser_engine.specs.Turns.{proposing}
use Rattle.phaser_engine.proofs.Reading.{Found, not_live, found_in, place_in, behind_is, found_phase, within_is}
use Rattle.phaser_engine.proofs.Rooms.{room_signal}
use Rattle.phaser_engine.proofs.Signals.{unknown, no_signal, no_single, ahead, mismatch, held, free}
use Rattle.phaser_engine.proofs.SinglesKept.{may_propose}
use Rattle.phaser_engine.proofs.SinglesMoved.{other_is, signal_is_last}
use Rattle.phaser_engine.proofs.view.View.may_signal.Goals as goal
use Rattle.phaser_engine.proofs.view.View.may_signal.Goals.{In-Some, Else-reg}

the_found : (c : In-Some) → Found c.args.self.now.history.now.past c.args.task c.in-Some.entry
the_found c =
    found_in c.args.self.now.history.now c.args.self.now.table.now.lines c.args.self.now.single
    c.args.self.now.stands c.args.task c.in-Some.place c.in-Some.entry c.in-Some.ensures.some
    c.in-Some.ensures.task

if_some : (o : Option ℕ) (P : Type 0) → (is_some o ≡ true → P) → IfSome o (λ n. P)
if_some None P k = tt
if_some (Some n) P k = k refl

allowed : (a b : Bool) → (a && not b) ≡ false → a ≡ true → b ≡ true
allowed true true k e = refl
allowed true false k e = absurd cc
allowed false b k e = absurd cc

pub returns-in_default-clause-refused : goal.returns-in_default-clause-refused
returns-in_default-clause-refused c =
    let s = c.args.self.now.history.now in
    unknown s c.args.task c.args.number
    (not_live s c.args.self.now.table.now.lines c.args.self.now.single c.args.self.now.stands c.args.task
    c.in_default.ensures.none)

pub returns-then-not-can_signal-clause-refused : goal.returns-then-not-can_signal-clause-refused
returns-then-not-can_signal-clause-refused c =
    let f = the_found (goal.at.returns-then-not-can_signal-clause-refused c).In-Some in
    no_signal c.args.self.now.history.now c.args.task c.args.number f.live
    (f.mode can_signal ∙ (sym c.can_signal.ensures ∙ c.if-not-can_signal.true))

pub returns-then-is_no_single-clause-refused : goal.returns-then-is_no_single-clause-refused
returns-then-is_no_single-clause-refused c =
    let f = the_found (goal.at.returns-then-is_no_single-clause-refused c).In-Some in
    no_single c.args.self.now.history.now c.args.task c.args.number f.live
    (f.mode can_signal ∙ (sym c.can_signal.ensures ∙ c.if-not-can_signal.false))
    (rw (f.mode can_single) (sym c.is_no_single.ensures ∙ c.if-is_no_single.true))

pub returns-then-reg-clause-refused : goal.returns-then-reg-clause-refused
returns-then-reg-clause-refused c =
    let s = c.args.self.now.history.now in
    let f = the_found (goal.at.returns-then-reg-clause-refused c).In-Some in
    let able = sym c.can_signal.ensures ∙ c.if-not-can_signal.false in
    ahead s c.args.task c.args.number f.live (f.mode can_signal ∙ able)
    (rw (f.mode can_single) (sym c.is_no_single.ensures ∙ c.if-is_no_single.false))
    (behind_is s.past c.args.task c.in-Some.entry f able ∙ ap (λ b. not b) c.if-reg.true)

-- what holds of the task once the first refusals are past
record IsNext (c : Else-reg) : Type 0 where
  found : Found c.args.self.now.history.now.past c.args.task c.in-Some.entry
  signaller : has_mode can_signal c.args.task c.args.self.now.history.now.past ≡ true
  may : (is_some c.args.number && not (has_mode can_single c.args.task c.args.self.now.history.now.past))
      ≡ false
  behind : (signals c.args.task c.args.self.now.history.now.past == waits c.args.task
      c.args.self.now.history.now.past) ≡ true
  phase : c.in-Some.entry.reg.phase ≡ signals c.args.task c.args.self.now.history.now.past

the_next : (c : Else-reg) → IsNext c
the_next c =
    let s = c.args.self.now.history.now in
    let t = c.args.task in
    let f = found_in s c.args.self.now.table.now.lines c.args.self.now.single c.args.self.now.stands t
    c.in-Some.place c.in-Some.entry c.in-Some.ensures.some c.in-Some.ensures.task in
    let able = sym c.can_signal.ensures ∙ c.if-not-can_signal.false in
    let behind : (signals t s.past == waits t s.past) ≡ true =
    behind_is s.past t c.in-Some.entry f able ∙ ap (λ b. not b) c.if-reg.false in
    record {
      found = f;
      signaller = f.mode can_signal ∙ able;
      may = rw (f.mode can_single) (sym c.is_no_single.ensures ∙ c.if-is_no_single.false);
      behind = behind;
      phase = found_phase s.past t c.in-Some.entry f
          ∙ sym (eqb-true (signals t s.past) (waits t s.past) behind);
    }

pub with_proposal-requires : goal.with_proposal-requires
with_proposal-requires c =
    let s = c.args.self.now.history.now in
    let t = c.args.task in
    let n = the_next (goal.at.with_proposal-requires c).Else-reg in
    if_some c.args.number (MayPropose c.args.self.now.single c.in-Some.entry.reg.phase)
    (λ some. subst (λ p. MayPropose c.args.self.now.single p) (sym n.phase)
    (may_propose s.limits s.terms s.past c.args.self.now.stands.legal c.args.self.now.single t
    c.args.self.now.stands.last n.found.live n.signaller
    (allowed (is_some c.args.number) (has_mode can_single t s.past) n.may some)
    (eqb-true (signals t s.past) (waits t s.past) n.behind)))

pub returns-in_default-with_proposal-clause-refused : goal.returns-in_default-with_proposal-clause-refused
returns-in_default-with_proposal-clause-refused c =
    let s = c.args.self.now.history.now in
    let t = c.args.task in
    let n = the_next (goal.at.returns-in_default-with_proposal-clause-refused c).Else-reg in
    let same : proposing c.args.self.now.single (signals t s.past) c.args.number
    ≡ Err c.in_default-with_proposal.field-0 =
    ap (λ p. proposing c.args.self.now.single p c.args.number) (sym n.phase)
    ∙ (sym c.with_proposal.ensures ∙ c.in_default-with_proposal.is)
    in
    mismatch s t c.args.number n.found.live n.signaller n.may n.behind
    (other_is s.limits s.terms s.past c.args.self.now.stands.legal t n.found.live n.signaller
    c.args.self.now.single c.args.number c.args.self.now.stands.last ∙ ap (λ r. is_err r) same)

-- what the test of the bound says
bounded : (s : Story) (lines : List Entry) (single : Option Statement) → Stands s lines single
    → (o : Option ℕ) (p n : ℕ) (b : Bool) → b ≡ is_within o p lines → o ≡ s.terms.bound → p ≡ n
    → is_within_bound s.terms.bound n s.past ≡ b
bounded s lines single stands o p n b shown bound phase =
    ap (λ q. is_within_bound s.terms.bound q s.past) (sym phase)
    ∙ (sym (within_is s lines single stands s.terms.bound p)
    ∙ (ap (λ k. is_within k p lines) (sym bound) ∙ sym shown))

pub returns-then-not-keeps_within-clause-refused : goal.returns-then-not-keeps_within-clause-refused
returns-then-not-keeps_within-clause-refused c =
    let s = c.args.self.now.history.now in
    let t = c.args.task in
    let n = the_next (goal.at.returns-then-not-keeps_within-clause-refused c).Else-reg in
    let ok : proposing c.args.self.now.single (signals t s.past) c.args.number ≡ Ok c.in-Ok.after =
    ap (λ p. proposing c.args.self.now.single p c.args.number) (sym n.phase)
    ∙ (sym c.with_proposal.ensures ∙ c.in-Ok.is)
    in
    held s t c.args.number n.found.live n.signaller n.may n.behind
    (other_is s.limits s.terms s.past c.args.self.now.stands.legal t n.found.live n.signaller
    c.args.self.now.single c.args.number c.args.self.now.stands.last ∙ ap (λ r. is_err r) ok)
    (bounded s c.args.self.now.table.now.lines c.args.self.now.single c.args.self.now.stands c.bound.result
    c.in-Some.entry.reg.phase (signals t s.past) c.keeps_within.result c.keeps_within.ensures c.bound.ensures
    n.phase ∙ c.if-not-keeps_within.true)

pub returns-then-not-has_room-clause-refused : goal.returns-then-not-has_room-clause-refused
returns-then-not-has_room-clause-refused c =
    let s = c.args.self.now.history.now in
    let t = c.args.task in
    let n = the_next (goal.at.returns-then-not-has_room-clause-refused c).Else-reg in
    let ok : proposing c.args.self.now.single (signals t s.past) c.args.number ≡ Ok c.in-Ok.after =
    ap (λ p. proposing c.args.self.now.single p c.args.number) (sym n.phase)
    ∙ (sym c.with_proposal.ensures ∙ c.in-Ok.is)
    in
    free s t c.args.number n.found.live n.signaller n.may n.behind
    (other_is s.limits s.terms s.past c.args.self.now.stands.legal t n.found.live n.signaller
    c.args.self.now.single c.args.number c.args.self.now.stands.last ∙ ap (λ r. is_err r) ok)
    (bounded s c.args.self.now.table.now.lines c.args.self.now.single c.args.self.now.stands c.bound.result
    c.in-Some.entry.reg.phase (signals t s.past) c.keeps_within.result c.keeps_within.ensures c.bound.ensures
    n.phase ∙ c.if-not-keeps_within.false)
    ∙ ap (λ b. decided None false b (Sig t c.args.number))
    (room_signal s c.args.self.now.table.now.lines c.args.self.now.single c.in-Ok.after t c.args.number
    c.args.self.now.stands n.found.live n.signaller ok
    ∙ ((rw (c.reserve.ensures, c.len.ensures) at (sym c.has_room.ensures)) ∙ c.if-not-has_room.true))

pub returns-clause-done : goal.returns-clause-done
returns-clause-done c =
    let s = c.args.self.now.history.now in
    let t = c.args.task in
    let n = the_next (goal.at.returns-clause-done c).Else-reg in
    let ok : proposing c.args.self.now.single (signals t s.past) c.args.number ≡ Ok c.in-Ok.after =
    ap (λ p. proposing c.args.self.now.single p c.args.number) (sym n.phase)
    ∙ (sym c.with_proposal.ensures ∙ c.in-Ok.is)
    in
    free s t c.args.number n.found.live n.signaller n.may n.behind
    (other_is s.limits s.terms s.past c.args.self.now.stands.legal t n.found.live n.signaller
    c.args.self.now.single c.args.number c.args.self.now.stands.last ∙ ap (λ r. is_err r) ok)
    (bounded s c.args.self.now.table.now.lines c.args.self.now.single c.args.self.now.stands c.bound.result
    c.in-Some.entry.reg.phase (signals t s.past) c.keeps_within.result c.keeps_within.ensures c.bound.ensures
    n.phase ∙ c.if-not-keeps_within.false)
    ∙ ap (λ b. decided None false b (Sig t c.args.number))
    (room_signal s c.args.self.now.table.now.lines c.args.self.now.single c.in-Ok.after t c.args.number
    c.args.self.now.stands n.found.live n.signaller ok
    ∙ ((rw (c.reserve.ensures, c.len.ensures) at (sym c.has_room.ensures)) ∙ c.if-not-has_room.false))

pub returns-clause-place : goal.returns-clause-place
returns-clause-place c =
    place_in c.args.self.now.history.now c.args.self.now.table.now.lines c.args.self.now.single
    c.args.self.now.stands c.args.task c.in-Some.place c.in-Some.entry c.in-Some.ensures.some
    c.in-Some.ensures.task

pub returns-clause-single : goal.returns-clause-single
returns-clause-single c =
    let s = c.args.self.now.history.now in
    let t = c.args.task in
    let n = the_next (goal.at.returns-clause-single c).Else-reg in
    signal_is_last s.limits s.terms s.past c.args.self.now.stands.legal t n.found.live n.signaller
    c.args.self.now.single c.in-Ok.after c.args.number c.args.self.now.stands.last
    (ap (λ p. proposing c.args.self.now.single p c.args.number) (sym n.phase)
    ∙ (sym c.with_proposal.ensures ∙ c.in-Ok.is))

pub returns-clause-phase : goal.returns-clause-phase
returns-clause-phase c =
    let f = the_found (goal.at.returns-clause-phase c).In-Some in
    found_phase c.args.self.now.history.now.past c.args.task c.in-Some.entry f

-- without a number nothing is proposed
none_proposed : (o : Option Statement) (p : ℕ) (x : Option ℕ) (after : Option Statement)
    → proposing o p x ≡ Ok after → is_some x ≡ false → after ≡ o
none_proposed o p None after e none = cc
none_proposed o p (Some n) after e none = absurd cc

pub returns-clause-same : goal.returns-clause-same
returns-clause-same c =
    none_proposed c.args.self.now.single c.in-Some.entry.reg.phase c.args.number c.in-Ok.after
    (sym c.with_proposal.ensures ∙ c.in-Ok.is)
