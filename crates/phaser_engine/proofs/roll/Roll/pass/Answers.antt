use Rattle.std.proofs.Common.{◌≡◌, ℕ, ◌+◌, Option, Some, None, is_some, not, false, List, length, set, slice_get, ap, sym, ◌∙◌, arith}
use Rattle.std.specs.Option.{IfNone}
use Rattle.std.proofs.lemmas.Bool.{false≢true}
use Rattle.std.proofs.lemmas.List.{length-set}
use Rattle.std.proofs.lemmas.Option.{IfSome_then, same_Some}
use Rattle.reg_table.specs.declared.table.Entry.{Entry}
use Rattle.reg_table.specs.Lines.{line_passed}
use Rattle.phaser_engine.specs.Line.{signallers_at, waiters_at, IsToPass}
use Rattle.phaser_engine.specs.declared.rear.Rear.{Rear}
use Rattle.phaser_engine.specs.Rears.{IsRear, HasLeft, NobodyUpTo}
use Rattle.phaser_engine.proofs.Counting.{pass_leaves, pass_enters, pass_keeps, pass_keeps_waiters, rear_same, all_passed, one_passed}
use Rattle.phaser_engine.proofs.roll.Roll.pass.Goals as goal
use Rattle.phaser_engine.proofs.roll.Roll.pass.Goals.{After-without-known}

pub pass-requires-clause-phase : goal.pass-requires-clause-phase
pass-requires-clause-phase c = λ x here.
    let known : (y : Entry) → slice_get c.self.inside.table c.args.place ≡ Some y → IsToPass y.reg =
    rw (← c.self.view_is) at c.requires.line in
    (known x here).low

pub invariant_of-self : goal.invariant_of-self
invariant_of-self c =
    let r = c.self.inside in
    let i = c.self.invariant.0 in
    let k = c.args.place in
    let e : Entry = c.get.result in
    let known : (x : Entry) → slice_get r.table k ≡ Some x → IsToPass x.reg =
    rw (← c.self.view_is) at c.requires.line in
    let after = set r.table k (line_passed e) in
    let lines : c.pass.new.self ≡ after = c.pass.ensures e c.get.ensures.line in
    let size : length after ≡ length r.table = length-set r.table k (line_passed e) in (
      rw lines
          (record {
            few = omega (arith, i.few, size);
            signalled = rear_same (signallers_at r.table) (signallers_at after) r.signallers
                (pass_keeps r.table k e c.get.ensures.line (known e c.get.ensures.line)) i.signalled;
            passed = rear_same (waiters_at r.table) (waiters_at after) r.waiters
                (pass_keeps_waiters r.table k e c.get.ensures.line (sym c.can_wait.ensures ∙ c.if-not-can_wait.true)) i.passed;
          }),
      omega (arith, c.self.invariant.1, ap (λ (xs : List Entry). length xs) lines, size),
    )

-- a waiter has left its phase
waiter_left : (c : After-without-known)
    → HasLeft c.get.result.reg.phase (waiters_at c.self.inside.table)
    (waiters_at (set c.self.inside.table c.args.place (line_passed c.get.result)))
waiter_left c =
    pass_leaves c.self.inside.table c.args.place c.get.result c.get.ensures.line
    (sym c.can_wait.ensures ∙ c.if-not-can_wait.false)

pub hindmost_waiters-self-inside-requires : goal.hindmost_waiters-self-inside-requires
hindmost_waiters-self-inside-requires c =
    let r = c.self.inside in
    let i = c.self.invariant.0 in
    let k = c.args.place in
    let e : Entry = c.get.result in
    let after = set r.table k (line_passed e) in
    let lines : c.lines.result.now ≡ after = c.lines.ensures.lines ∙ c.pass.ensures e c.get.ensures.line in
    let leaves = waiter_left (goal.at.hindmost_waiters-self-inside-requires c).After-without-known in
    record {
      few = omega (
        arith,
        i.few,
        ap (λ (xs : List Entry). length xs) lines,
        length-set r.table k (line_passed e),
      );
      known = rw lines
          (IfSome_then c.without-known.result c.without-known.ensures.some
          (λ rear left. left (waiters_at r.table) (waiters_at after) i.passed leaves));
    }

pub invariant_of-self-2 : goal.invariant_of-self-2
invariant_of-self-2 c =
    let r = c.self.inside in
    let i = c.self.invariant.0 in
    let k = c.args.place in
    let e : Entry = c.get.result in
    let known : (x : Entry) → slice_get r.table k ≡ Some x → IsToPass x.reg =
    rw (← c.self.view_is) at c.requires.line in
    let after = set r.table k (line_passed e) in
    let written : c.pass.new.self ≡ after = c.pass.ensures e c.get.ensures.line in
    let lines : c.lines.result.now ≡ after = c.lines.ensures.lines ∙ written in
    let size : length after ≡ length r.table = length-set r.table k (line_passed e) in (
      rw written
          (record {
            few = omega (arith, i.few, size);
            signalled = rear_same (signallers_at r.table) (signallers_at after) r.signallers
                (pass_keeps r.table k e c.get.ensures.line (known e c.get.ensures.line)) i.signalled;
            passed = rw lines at c.hindmost_waiters-self-inside.ensures;
          }),
      omega (arith, c.self.invariant.1, ap (λ (xs : List Entry). length xs) written, size),
    )

-- what is said of no value, where there is none
none_then : (o : Option Rear) (P : Type 0) → is_some o ≡ false → IfNone o P → P
none_then None P none said = said
none_then (Some x) P none said = absurd (false≢true (sym none))

pub returns-clause-each : goal.returns-clause-each
returns-clause-each c = λ line here moves.
    let r = c.self.inside in
    let e : Entry = c.get.result in
    let is : line ≡ e = same_Some line e (sym (rw (← c.self.view_is) at here) ∙ c.get.ensures.line) in
    let after = set r.table c.args.place (line_passed e) in
    let written : c.pass.new.self ≡ after = c.pass.ensures e c.get.ensures.line in
    let gone =
    none_then c.without-known.result
    ((before next : ℕ → ℕ) → IsRear before r.waiters → HasLeft c.get.result.reg.phase before next
    → NobodyUpTo c.get.result.reg.phase next) (c.is_none.ensures ∙ ap not moves) c.without-known.ensures.none in
    let nobody : NobodyUpTo c.get.result.reg.phase (waiters_at after) =
    gone (waiters_at r.table) (waiters_at after) c.self.invariant.0.passed
    (waiter_left (goal.at.returns-clause-each c).After-without-known) in
    rw (is, written) (all_passed after e.reg.phase (λ k near. nobody k (omega (arith, near))))

pub returns-clause-some : goal.returns-clause-some
returns-clause-some c = λ line here moves.
    let r = c.self.inside in
    let e : Entry = c.get.result in
    let is : line ≡ e = same_Some line e (sym (rw (← c.self.view_is) at here) ∙ c.get.ensures.line) in
    let after = set r.table c.args.place (line_passed e) in
    let written : c.pass.new.self ≡ after = c.pass.ensures e c.get.ensures.line in
    rw (is, written)
    (one_passed after e.reg.phase (e.reg.phase + 1) (omega arith)
    (pass_enters r.table c.args.place e c.get.ensures.line (sym c.can_wait.ensures ∙ c.if-not-can_wait.false)))
