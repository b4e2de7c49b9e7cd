use Rattle.std.proofs.Common.{◌<◌, ap, sym, ◌∙◌, arith, rules, length, length-append, deque_len, deque_capacity}
use Rattle.phaser_core.proofs.Turns.{turned_on, turned_off}
use Rattle.phaser_core.proofs.parked.release.Goals as goal
use Rattle.phaser_core.proofs.parked.release.Goals.{then-would_park, else-would_park}

pub loop-turn-preserved : goal.loop-turn-preserved
loop-turn-preserved g c =
    let lt : c.loop-turn._turn < length c.args.parked.now.items = search rules in
    elim c.if-would_park.branch [
      | then-would_park w ↦ record {
        turned = turned_on _ _ _ _ c.in-Some.next _ _ _ _ _ lt c.loop-turn.invariant.turned (c.in-Some.ensures.items) (sym w.if-would_park.ensures) (ap (λ q. q.items) w.parked-is ∙ w.push_back_reserved.ensures.items) w.out-is;
        all = omega (arith, c.loop-turn.invariant.all, c.in-Some.ensures.len, w.push_back_reserved.ensures.len, ap (λ q. deque_len q) w.parked-is, ap (λ (o : _). length o) w.out-is);
        turns = omega arith;
        seats = omega (arith, ap (λ q. deque_capacity q) w.parked-is);
      }
      | else-would_park w ↦ record {
        turned = turned_off _ _ _ _ c.in-Some.next _ _ _ _ _ lt c.loop-turn.invariant.turned (c.in-Some.ensures.items) (sym w.if-would_park.ensures) (ap (λ q. q.items) w.parked-is) (w.out-is ∙ w.put.ensures);
        all = omega (arith, c.loop-turn.invariant.all, c.in-Some.ensures.len, ap (λ q. deque_len q) w.parked-is, ap (λ (o : _). length o) (w.out-is ∙ w.put.ensures), length-append c.loop-turn.out);
        turns = omega arith;
        seats = omega (arith, ap (λ q. deque_capacity q) w.parked-is);
      }
    ]
