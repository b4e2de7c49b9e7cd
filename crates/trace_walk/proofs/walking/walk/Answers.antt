use Rattle.std.proofs.Common.{◌+◌, ◌<◌, ◌≤◌, ◌≡◌, ◌∷◌, Bool, true, false, List, Some, length, reverse, slice_get, take, sym, ap, subst, arith, ◌∙◌}
use Rattle.trace_model.specs.Run.{Entry}
use Rattle.trace_model.specs.Views.{viewed}
use Rattle.trace_walk.specs.inner.Seats.{seat_of, AreTold, IsTaken}
use Rattle.trace_walk.proofs.Histories.{entry_at}
use Rattle.trace_walk.proofs.Places.{newest, goes_on, ends_here, no_place}
use Rattle.trace_walk.proofs.walking.walk.Goals as goal

pub returns-then-not-branch : goal.returns-then-not-branch
returns-then-not-branch g c =
    let next = g.B.Goes.next in
    let root = c.args.root in
    let xs : List Entry = c.args.trace.now.events in
    let i = c.loop-i.i in
    let d : Entry = (c.entry.result.0, viewed c.entry.result.1) in
    let at : slice_get xs i ≡ Some d = c.entry.ensures in
    let less : i < length xs = omega (arith, c.loop-i-test.true, c.len-i-end.ensures.length) in
    let taken : IsTaken next root (reverse (take i xs)) d.1 (seat_of c.takes.new.seats.seats) false =
    subst (λ (b : Bool). IsTaken next root (reverse (take i xs)) d.1 (seat_of c.takes.new.seats.seats) b)
    c.if-not-branch.true
    (c.in_ok-takes.ensures.taken root c.loop-i.invariant.told) in
    sym c.loop-i.invariant.so_far
    ∙ ends_here next root xs i d d.1 less (ap (λ (x : Entry). x.1) (entry_at xs i d at)) taken

pub loop-i-preserved : goal.loop-i-preserved
loop-i-preserved g c =
    let next = g.B.Goes.next in
    let root = c.args.root in
    let xs : List Entry = c.args.trace.now.events in
    let i = c.loop-i.i in
    let d : Entry = (c.entry.result.0, viewed c.entry.result.1) in
    let at : slice_get xs i ≡ Some d = c.entry.ensures in
    let less : i < length xs = omega (arith, c.loop-i-test.true, c.len-i-end.ensures.length) in
    let taken : IsTaken next root (reverse (take i xs)) d.1 (seat_of c.takes.new.seats.seats) true =
    subst (λ (b : Bool). IsTaken next root (reverse (take i xs)) d.1 (seat_of c.takes.new.seats.seats) b)
    c.if-not-branch.false
    (c.in_ok-takes.ensures.taken root c.loop-i.invariant.told) in
    let more : reverse (take (i + 1) xs) ≡ d ∷ reverse (take i xs) =
    newest xs i d less ∙ ap (λ (x : Entry). x ∷ reverse (take i xs)) (sym (entry_at xs i d at)) in
    record {
      told = subst (λ (es : List Entry). AreTold next root es (seat_of c.takes.new.seats.seats)) (sym more) taken.1;
      so_far = sym (goes_on next root xs i d d.1 less (ap (λ (x : Entry). x.1) (entry_at xs i d at)) taken.0)
          ∙ c.loop-i.invariant.so_far;
    }

pub returns : goal.returns
returns g c =
    let xs : List Entry = c.args.trace.now.events in
    let over : length xs ≤ c.loop-i.i = omega (arith, c.loop-i-test.false, c.len-i-end.ensures.length) in
    sym c.loop-i.invariant.so_far ∙ no_place g.B.Goes.next c.args.root xs c.loop-i.i over
