use Rattle.std.proofs.Common.{◌≡◌, ◌-◌, ℕ, All, Some, [], map, length, sym, ap, ◌∙◌, subst, arith}
use Rattle.std.proofs.lemmas.List.Elements.{All-pop, All-cons}
use Rattle.std.specs.declared.vec.Vec.{Vec}
use Rattle.std.specs.declared.alloc.Global.{Global}
use Rattle.crossbeam_deque.specs.Handles.{worker_deque}
use Rattle.task_queue.specs.Account.{Account}
use Rattle.task_queue.specs.declared.reach.Reach.{Reach}
use Rattle.task_queue.specs.Reaches.{reach_deque, IsSpare, IsUnused}
use Rattle.task_queue.proofs.Emptying.{joined, one_less, same_length}
use Rattle.task_queue.proofs.Ordering.{place_in, numbered_more, have_all}
use Rattle.std.proofs.lemmas.List.{length-map}
use Rattle.task_queue.specs.Accounts.{IsSeatAt}
use Rattle.task_queue.proofs.opening.seat_each.Goals as goal

pub seat_one-requires-clause-worker : goal.seat_one-requires-clause-worker
seat_one-requires-clause-worker g c =
    let i = c.loop-own.invariant in
    let reaches = c.in-Some-pop.reaches in
    let row = All-pop (λ (r : Vec (Reach g.row.T.Denot) Global). (map reach_deque r.items ≡ map worker_deque c.args.deques.items) × All IsUnused r.items) c.loop-own.rows.items c.pop-in-Some.new.self.items (Some reaches) c.in-Some-pop.ensures.items i.rows in
    let many = same_length reach_deque worker_deque reaches.items c.args.deques.items row.1.0 in
    let less = one_less c.loop-own.deques.items c.pop.new.self.items c.in-Some.own c.in-Some.ensures.items in
    (omega (arith, i.seats_made, less, many, c.len-worker.ensures, c.pop.new.self.ok.0), omega (arith, many, c.requires.length.0))

pub seat_one-requires-clause-spare : goal.seat_one-requires-clause-spare
seat_one-requires-clause-spare g c =
    let i = c.loop-own.invariant in
    let reaches = c.in-Some-pop.reaches in
    let row = All-pop (λ (r : Vec (Reach g.row.T.Denot) Global). (map reach_deque r.items ≡ map worker_deque c.args.deques.items) × All IsUnused r.items) c.loop-own.rows.items c.pop-in-Some.new.self.items (Some reaches) c.in-Some-pop.ensures.items i.rows in
    let many = same_length reach_deque worker_deque reaches.items c.args.deques.items row.1.0 in
    let spare = All-pop (IsSpare (17 - length c.args.deques.items)) c.loop-own.deques.items c.pop.new.self.items (Some c.in-Some.own) c.in-Some.ensures.items i.spare in
    subst (λ (n : ℕ). IsSpare (17 - n) c.in-Some.own) (sym many) spare.1

pub seat_one-requires-clause-unused : goal.seat_one-requires-clause-unused
seat_one-requires-clause-unused g c =
    (All-pop (λ (r : Vec (Reach g.row.T.Denot) Global). (map reach_deque r.items ≡ map worker_deque c.args.deques.items) × All IsUnused r.items) c.loop-own.rows.items c.pop-in-Some.new.self.items (Some c.in-Some-pop.reaches) c.in-Some-pop.ensures.items c.loop-own.invariant.rows).1.1

pub loop-own-preserved : goal.loop-own-preserved
loop-own-preserved g c =
    let i = c.loop-own.invariant in
    let reaches = c.in-Some-pop.reaches in
    let seat = c.seat_one.result in
    let seats = c.loop-own.seats.items in
    let all = c.args.deques.items in
    let added = c.in_ok-add_first.ensures.items in
    let left = c.pop.new.self.items in
    let at = place_in worker_deque (λ (s : Account g.row.T.Denot). s.own) all c.loop-own.deques.items left c.in-Some.own seats seat.worker seat.own i.same c.in-Some.ensures.items (omega (arith, c.seat_one.ensures.own.0, c.len-worker.ensures, c.pop.new.self.ok.0)) in
    let rows = All-pop (λ (r : Vec (Reach g.row.T.Denot) Global). (map reach_deque r.items ≡ map worker_deque all) × All IsUnused r.items) c.loop-own.rows.items c.pop-in-Some.new.self.items (Some reaches) c.in-Some-pop.ensures.items i.rows in
    let spare = All-pop (IsSpare (17 - length all)) c.loop-own.deques.items c.pop.new.self.items (Some c.in-Some.own) c.in-Some.ensures.items i.spare in
    let fewer = one_less c.loop-own.deques.items c.pop.new.self.items c.in-Some.own c.in-Some.ensures.items in
    let fewer_rows = one_less c.loop-own.rows.items c.pop-in-Some.new.self.items reaches c.in-Some-pop.ensures.items in
    record {
      rows_left = omega (arith, i.rows_left, fewer, fewer_rows);
      seats_made = omega (arith, i.seats_made, fewer, ap (λ l. length l) added);
      spare = spare.0;
      rows = rows.0;
      same = joined worker_deque (λ (s : Account g.row.T.Denot). s.own) all c.loop-own.deques.items left c.in-Some.own seats c.add_first.new.list.items seat i.same c.in-Some.ensures.items added c.seat_one.ensures.own.1;
      together = subst (λ l. All (IsSeatAt (map worker_deque all)) l) (sym added) (All-cons (IsSeatAt (map worker_deque all)) seat seats (c.seat_one.ensures.deques ∙ rows.1.0, c.seat_one.ensures.own.1 ∙ at) i.together);
      numbers = numbered_more (length left) (length c.loop-own.deques.items) seats c.add_first.new.list.items seat i.numbers fewer added (omega (arith, c.seat_one.ensures.own.0, c.len-worker.ensures, c.pop.new.self.ok.0));
      fresh = subst (λ l. All (λ (s : Account g.row.T.Denot). (s.put ≡ []) × (s.popped ≡ []) × All (λ l'. l' ≡ []) s.stolen) l) (sym added) (All-cons (λ (s : Account g.row.T.Denot). (s.put ≡ []) × (s.popped ≡ []) × All (λ l'. l' ≡ []) s.stolen) seat seats c.seat_one.ensures.fresh i.fresh);
    }

pub returns-clause-together : goal.returns-clause-together
returns-clause-together g c =
    let i = c.loop-own.invariant in
    let seats = c.loop-own.seats.items in
    let none : length c.loop-own.deques.items ≡ 0 = omega (arith, c.in_default.ensures.cases.0, c.loop-own.deques.ok.0) in
    (map worker_deque c.args.deques.items, length-map c.args.deques.items worker_deque ∙ sym (omega (arith, i.seats_made, none)), i.together, have_all (length c.loop-own.deques.items) seats none i.numbers)
