use Rattle.std.proofs.Common.{◌≡◌, ◌∷◌, [], All, map, length, ap, arith, length-append}
use Rattle.std.specs.declared.vec.Vec.{Vec}
use Rattle.std.specs.declared.alloc.Global.{Global}
use Rattle.crossbeam_deque.specs.Handles.{Pass, worker_deque, IsPassOf}
use Rattle.task_queue.specs.declared.rule.Hand.{Hand}
use Rattle.task_queue.specs.declared.reach.Reach.{Reach}
use Rattle.task_queue.specs.Fair.{weigh}
use Rattle.task_queue.specs.inner.Passes.{parts_of, put_of, taken_weight}
use Rattle.task_queue.specs.Reaches.{reach_deque, IsReach, row_weight}
use Rattle.task_queue.proofs.Fairs.{all_more, weigh-append}
use Rattle.task_queue.proofs.closing.column.Goals as goal

pub loop-row-preserved : goal.loop-row-preserved
loop-row-preserved g c =
    let i = c.loop-row.invariant in
    let row = c.in-Some.row in
    let rest = c.last_of-rest.result.0 in
    let pass = c.last_of-rest.result.1 in
    let e = c.last_of-rest.ensures in
    let more_kept = c.in_ok-add-2.ensures.items in
    let more_passes = c.in_ok-add.ensures.items in
    let fits : (map reach_deque rest.items ≡ map worker_deque c.args.owns.now.items) × All IsReach rest.items = (e.fits, e.ready) in
    record {
      kept = all_more (λ (r : Vec (Reach g.row.T.Denot) Global). (map reach_deque r.items ≡ map worker_deque c.args.owns.now.items) × All IsReach r.items) c.loop-row.kept.items c.add-in-loop-row.new.list.items rest i.kept fits more_kept;
      passes = all_more (λ (p : Pass g.row.T.Denot (Hand g.row.T.Denot) Global). IsPassOf (worker_deque c.args.own.now) p × (parts_of p ≡ 1) × (put_of p ≡ [])) c.loop-row.passes.items c.add.new.list.items pass i.passes e.pass more_passes;
      lengths = (omega (arith, i.lengths.0, ap (λ l. length l) more_kept, length-append c.loop-row.kept.items (rest ∷ []), length-append c.loop-row.yielded (row ∷ [])), omega (arith, i.lengths.1, ap (λ l. length l) more_passes, length-append c.loop-row.passes.items (pass ∷ []), length-append c.loop-row.yielded (row ∷ [])));
      taken = λ h.
          let weight = taken_weight (h (length c.args.owns.now.items)) in
          omega (arith, i.taken h, e.taken h, weigh-append (row_weight h) c.loop-row.yielded (row ∷ []), ap (λ l. weigh (row_weight h) l) more_kept, weigh-append (row_weight h) c.loop-row.kept.items (rest ∷ []), ap (λ l. weigh weight l) more_passes, weigh-append weight c.loop-row.passes.items (pass ∷ []));
    }
