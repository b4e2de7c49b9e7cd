use Rattle.std.proofs.Common.{◌≡◌, ◌∷◌, [], ℕ, All, Some, map, length, sym, ap, ◌∙◌, subst, arith}
use Rattle.std.proofs.lemmas.List.Elements.{All-pop, All-cons}
use Rattle.std.specs.declared.vec.Vec.{Vec}
use Rattle.std.specs.declared.alloc.Global.{Global}
use Rattle.crossbeam_deque.specs.Handles.{worker_deque}
use Rattle.task_queue.specs.Account.{Account}
use Rattle.task_queue.specs.declared.reach.Reach.{Reach}
use Rattle.task_queue.specs.Fair.{weigh, each_from}
use Rattle.task_queue.specs.Reaches.{reach_deque, IsReach, row_weight}
use Rattle.task_queue.specs.inner.Emptied.{IsWholeBut, own_put, own_taken}
use Rattle.task_queue.proofs.Fairs.{weigh-append}
use Rattle.task_queue.proofs.Emptying.{joined, one_less, same_length}
use Rattle.task_queue.proofs.closing.apart.Goals as goal

pub loop-seat-preserved : goal.loop-seat-preserved
loop-seat-preserved g c =
    let i = c.loop-seat.invariant in
    let all = c.args.seats.items in
    let seats = c.loop-seat.seats.items in
    let left = c.pop.new.self.items in
    let seat = c.in-Some.seat in
    let is = c.in-Some.ensures.items in
    let own = c.open_seat-own.result.0 in
    let reaches = c.open_seat-own.result.1 in
    let e = c.open_seat-own.ensures in
    let owns = c.loop-seat.owns.items in
    let owns' = c.add_first.new.list.items in
    let more = c.in_ok-add_first.ensures.items in
    let rows = c.loop-seat.rows.items in
    let more_rows = c.in_ok-add_first-2.ensures.items in
    let together = All-pop (λ (s : Account g.row.T.Denot). s.deques ≡ map (λ (t : Account g.row.T.Denot). t.own) all) seats left (Some seat) is i.together in
    let deques : map reach_deque reaches.items ≡ map (λ (s : Account g.row.T.Denot). s.own) all = ap (λ (s : Account g.row.T.Denot). s.deques) e.account ∙ together.1 in
    let many = same_length reach_deque (λ (s : Account g.row.T.Denot). s.own) reaches.items all deques in
    record {
      together = together.0;
      whole = subst (λ l. All (IsWholeBut (length all)) l) (sym more) (All-cons (IsWholeBut (length all)) own owns (subst (λ (n : ℕ). IsWholeBut n own) many e.whole) i.whole);
      rows = subst (λ l. All (λ (r : Vec (Reach g.row.T.Denot) Global). (map reach_deque r.items ≡ map (λ (s : Account g.row.T.Denot). s.own) all) × All IsReach r.items) l) (sym more_rows)
          (All-cons (λ (r : Vec (Reach g.row.T.Denot) Global). (map reach_deque r.items ≡ map (λ (s : Account g.row.T.Denot). s.own) all) × All IsReach r.items) reaches rows (deques, e.ready) i.rows);
      lengths = omega (arith, i.lengths, one_less seats left seat is, ap (λ l. length l) more_rows);
      own = joined (λ (s : Account g.row.T.Denot). s.own) worker_deque all seats left seat owns owns' own i.own is more (ap (λ (s : Account g.row.T.Denot). s.own) e.account);
      put = joined (λ (s : Account g.row.T.Denot). s.put) own_put all seats left seat owns owns' own i.put is more (ap (λ (s : Account g.row.T.Denot). s.put) e.account);
      taken = joined (λ (s : Account g.row.T.Denot). s.popped) own_taken all seats left seat owns owns' own i.taken is more (ap (λ (s : Account g.row.T.Denot). s.popped) e.account);
      stolen = λ h.
          let f : Account g.row.T.Denot → ℕ = λ s. each_from 0 h s.stolen in
          omega (arith, i.stolen h, ap (λ l. weigh f l) is, weigh-append f left (seat ∷ []), ap (λ l. weigh (row_weight h) l) more_rows, ap f e.account);
    }
