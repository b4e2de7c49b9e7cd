use Rattle.std.proofs.Common.{◌≡◌, ◌+◌, ◌<◌, ◌≤◌, ◌-◌, length, sym, ◌∙◌, subst, arith}
use Rattle.long_locks.specs.Turns.{standing}
use Rattle.long_locks.proofs.Steps.{weight}
use Rattle.long_locks.proofs.Going.{IsGoing, on_moved, on_still, settled_where, lighter_on, no_heavier_on}
use Rattle.long_locks.proofs.settle.settle.Goals as goal

pub loop-ahead-smaller-then-moved : goal.loop-ahead-smaller-then-moved
loop-ahead-smaller-then-moved c =
    let w = standing c.loop-ahead.state.story c.loop-ahead.parked.items c.loop-ahead.freed in
    let w' = standing c.turn-moved.new.state.story c.turn-moved.new.parked.items c.turn-moved.new.freed in
    let within = c.loop-ahead.invariant.going.within in
    let some : 0 < length c.loop-ahead.parked.items = omega (arith, within) in
    let less : weight c.turn-moved.new.parked.items + 1 ≤ weight c.loop-ahead.parked.items =
    lighter_on w w' some (sym c.turn-moved.ensures.moved ∙ c.if-moved.true) c.turn-moved.ensures.turned in
    let room : length c.turn-moved.new.parked.items + length c.turn-moved.new.freed ≤ 256 =
    (on_moved _ w w' _ some c.loop-ahead.invariant.going c.turn-moved.ensures.turned).room in
    omega (arith, less, room)

pub loop-ahead-preserved-then-moved : goal.loop-ahead-preserved-then-moved
loop-ahead-preserved-then-moved c =
    let w = standing c.loop-ahead.state.story c.loop-ahead.parked.items c.loop-ahead.freed in
    let w' = standing c.turn-moved.new.state.story c.turn-moved.new.parked.items c.turn-moved.new.freed in
    let within = c.loop-ahead.invariant.going.within in
    let some : 0 < length c.loop-ahead.parked.items = omega (arith, within) in
    let v = standing c.args.state.now.story c.args.parked.now.items c.args.freed.now in
    let all : length c.turn-moved.new.parked.items ≡ c.len-ahead-then-moved.result =
    omega (arith, c.len-ahead-then-moved.ensures) in
    record {
      going = subst (λ n. IsGoing v w' n) all
          (on_moved v w w' _ some c.loop-ahead.invariant.going c.turn-moved.ensures.turned);
      next = c.turn-moved.ensures.next ∙ c.loop-ahead.invariant.next;
      seats = c.turn-moved.ensures.seats;
    }

pub loop-ahead-smaller : goal.loop-ahead-smaller
loop-ahead-smaller c =
    let w = standing c.loop-ahead.state.story c.loop-ahead.parked.items c.loop-ahead.freed in
    let w' = standing c.turn-moved.new.state.story c.turn-moved.new.parked.items c.turn-moved.new.freed in
    let within = c.loop-ahead.invariant.going.within in
    let some : 0 < length c.loop-ahead.parked.items = omega (arith, within) in
    let less : weight c.turn-moved.new.parked.items ≤ weight c.loop-ahead.parked.items =
    no_heavier_on w w' some c.turn-moved.ensures.turned in
    omega (arith, less)

pub loop-ahead-preserved : goal.loop-ahead-preserved
loop-ahead-preserved c =
    let w = standing c.loop-ahead.state.story c.loop-ahead.parked.items c.loop-ahead.freed in
    let w' = standing c.turn-moved.new.state.story c.turn-moved.new.parked.items c.turn-moved.new.freed in
    let within = c.loop-ahead.invariant.going.within in
    let some : 0 < length c.loop-ahead.parked.items = omega (arith, within) in
    record {
      going = on_still _ w w' c.loop-ahead.ahead (c.loop-ahead.ahead - 1) some c.loop-ahead.invariant.going
          (omega arith)
          (sym c.turn-moved.ensures.moved ∙ c.if-moved.false) c.turn-moved.ensures.turned;
      next = c.turn-moved.ensures.next ∙ c.loop-ahead.invariant.next;
      seats = c.turn-moved.ensures.seats;
    }

pub returns-clause-kept : goal.returns-clause-kept
returns-clause-kept c =
    let w = standing c.loop-ahead.state.story c.loop-ahead.parked.items c.loop-ahead.freed in
    settled_where _ w c.loop-ahead.ahead c.loop-ahead.invariant.going c.loop-ahead-test.false

pub returns-clause-few : goal.returns-clause-few
returns-clause-few c =
    let room : length c.loop-ahead.parked.items + length c.loop-ahead.freed ≤ 256 =
    c.loop-ahead.invariant.going.room in
    omega (arith, room)
