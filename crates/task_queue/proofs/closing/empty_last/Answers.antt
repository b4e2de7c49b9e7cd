use Rattle.std.proofs.Common.{length, ap, ◌∙◌, arith}
use Rattle.crossbeam_deque.specs.Handles.{worker_view}
use Rattle.std.specs.List.{flat_map}
use Rattle.task_queue.specs.Fair.{weigh}
use Rattle.task_queue.specs.inner.Passes.{parts_of, put_of, taken_of}
use Rattle.task_queue.proofs.Fairs.{weigh-append}
use Rattle.task_queue.proofs.Emptying.{all_one, all_weigh, flat_weighs}
use Rattle.task_queue.proofs.closing.empty_last.Goals as goal

pub drain-requires-clause-whole : goal.drain-requires-clause-whole
drain-requires-clause-whole g c =
    let passes = c.in_ok-kept.passes.items in
    let e = c.in_ok-kept.ensures in
    omega (arith, c.join_passes.ensures.parts, c.requires.own.0, e.length.1, all_one parts_of passes (λ k d lt. (e.passes k d lt).1))

pub returns-clause-rest : goal.returns-clause-rest
returns-clause-rest g c =
    let passes = c.in_ok-kept.passes.items in
    let e = c.in_ok-kept.ensures in
    let own = worker_view c.args.own in
    let join = c.join_passes.ensures in (
      c.in_ok-all.all.items,
      c.in_ok-append.ensures.items,
      λ h.
          let w = h (length c.args.owns.now.items) in
          let put = ap (λ l. weigh w l) join.put ∙ weigh-append w own.put (flat_map put_of passes) in
          let taken = ap (λ l. weigh w l) join.taken ∙ weigh-append w own.taken (flat_map taken_of passes) in
          let none = all_weigh (λ p. weigh w (put_of p)) passes (λ k d lt. ap (λ l. weigh w l) (e.passes k d lt).2) in
          omega (arith, e.taken h, c.in_ok-all.ensures w, put, taken, none, flat_weighs w put_of passes, flat_weighs w taken_of passes),
    )
