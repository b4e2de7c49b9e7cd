-- There is room for the end, the task has a bit, some task is counted,
-- and the fields stand for the history afterwards.
use Rattle.std.proofs.Common.{reverse, arith}
use Rattle.std.proofs.lemmas.List.{length-reverse}
use Rattle.finish_core.specs.declared.event.FinishEvent.TheVariants.{Ended}
use Rattle.finish_core.proofs.Past.{reverse_push}
use Rattle.finish_core.proofs.Legal.{allowed_in, end_follows}
use Rattle.finish_core.proofs.Standing.{room, end_within, some_running, stands_ended}
use Rattle.finish_core.proofs.state.FinishState.ended.Goals as goal

pub push_reserved-requires : goal.push_reserved-requires
push_reserved-requires c =
    let f = c.self.inside in
    let h = reverse f.events.items in
    let allowed = allowed_in (Ended c.args.child) c.self.view_is c.in_ok-may_end.ensures in
    let left = room c.self.invariant.0 (end_follows f.tasks h c.args.child allowed).open_now in
    omega (arith, left, length-reverse f.events.items, f.events.ok.0, c.self.invariant.1)

pub index_mut-requires : goal.index_mut-requires
index_mut-requires c =
    let f = c.self.inside in
    let h = reverse f.events.items in
    let allowed = allowed_in (Ended c.args.child) c.self.view_is c.in_ok-may_end.ensures in
    let within = end_within c.self.invariant.0 c.args.child allowed in
    omega (arith, within, f.ended.ok.0)

pub overflow_sub-self : goal.overflow_sub-self
overflow_sub-self c =
    let f = c.self.inside in
    let h = reverse f.events.items in
    let allowed = allowed_in (Ended c.args.child) c.self.view_is c.in_ok-may_end.ensures in
    let some = some_running c.self.invariant.0 c.args.child allowed in
    omega (arith, some)

pub invariant_of-self : goal.invariant_of-self
invariant_of-self c =
    let f = c.self.inside in
    let h = reverse f.events.items in
    let allowed = allowed_in (Ended c.args.child) c.self.view_is c.in_ok-may_end.ensures in
    rw (c.push_reserved.ensures.items, reverse_push f.events.items (Ended c.args.child)) (
      stands_ended c.self.invariant.0 c.args.child allowed,
      omega (arith, c.push_reserved.ensures.capacity, c.self.invariant.1),
    )
