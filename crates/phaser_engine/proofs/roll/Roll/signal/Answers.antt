use Rattle.std.proofs.Common.{◌≡◌, Some, List, length, set, slice_get, ap, sym, subst, ◌∙◌, arith}
use Rattle.std.proofs.lemmas.List.{length-set}
use Rattle.std.proofs.lemmas.Option.{IfSome_then}
use Rattle.reg_table.specs.declared.table.Entry.{Entry}
use Rattle.reg_table.specs.Lines.{HaveNext, line_signalled}
use Rattle.phaser_engine.specs.Line.{signallers_at, waiters_at, IsToSignal}
use Rattle.phaser_engine.specs.Rears.{HasLeft}
use Rattle.phaser_engine.proofs.Counting.{signal_leaves, signal_keeps, rear_same, at_place}
use Rattle.phaser_engine.proofs.roll.Roll.signal.Goals as goal
use Rattle.phaser_engine.proofs.roll.Roll.signal.Goals.{After-signal}

-- the line of the task that signals, before and after
record HasSignalled (c : After-signal) : Type 0 where
  line : Entry
  here : slice_get c.self.inside.table c.args.place ≡ Some line
  is : IsToSignal c.args.phase line.reg
  lines : c.signal.new.self ≡ set c.self.inside.table c.args.place (line_signalled line c.args.proposes)

has_signalled : (c : After-signal) → HasSignalled c
has_signalled c =
    let table = c.self.inside.table in
    let known : (x : Entry) → slice_get table c.args.place ≡ Some x → IsToSignal c.args.phase x.reg =
    rw (← c.self.view_is) at c.requires.line in
    let found = at_place table c.args.place (rw (← c.self.view_is) at c.requires.place) in
    record { line = found.0; here = found.1; is = known found.0 found.1; lines = c.signal.ensures found.0 found.1 }

pub hindmost_signallers-self-inside-requires : goal.hindmost_signallers-self-inside-requires
hindmost_signallers-self-inside-requires c =
    let r = c.self.inside in
    let i = c.self.invariant.0 in
    let k = c.args.place in
    let b = c.args.proposes in
    let h = has_signalled (goal.at.hindmost_signallers-self-inside-requires c).After-signal in
    let after = set r.table k (line_signalled h.line b) in
    let lines : c.lines.result.now ≡ after = c.lines.ensures.lines ∙ h.lines in
    let leaves : HasLeft c.args.phase (signallers_at r.table) (signallers_at after) =
    signal_leaves r.table k c.args.phase h.line b h.here h.is in
    record {
      few = omega (
        arith,
        i.few,
        ap (λ (xs : List Entry). length xs) lines,
        length-set r.table k (line_signalled h.line b),
      );
      next = subst (λ (xs : List Entry). HaveNext xs) (sym c.lines.ensures.lines) c.lines.ensures.next;
      known = rw lines
          (IfSome_then c.without-known.result c.without-known.ensures.some
          (λ rear left. left (signallers_at r.table) (signallers_at after) i.signalled leaves));
    }

pub invariant_of-self : goal.invariant_of-self
invariant_of-self c =
    let r = c.self.inside in
    let i = c.self.invariant.0 in
    let k = c.args.place in
    let b = c.args.proposes in
    let h = has_signalled (goal.at.invariant_of-self c).After-signal in
    let after = set r.table k (line_signalled h.line b) in
    let lines : c.lines.result.now ≡ after = c.lines.ensures.lines ∙ h.lines in
    let size : length after ≡ length r.table = length-set r.table k (line_signalled h.line b) in (
      rw h.lines
          (record {
            few = omega (arith, i.few, size);
            signalled = rw lines at c.hindmost_signallers-self-inside.ensures;
            passed = rear_same (waiters_at r.table) (waiters_at after) r.waiters
                (signal_keeps r.table k h.line b h.here) i.passed;
          }),
      omega (arith, c.self.invariant.1, ap (λ (xs : List Entry). length xs) h.lines, size),
    )
