-- There is room for the spawn, the task has a bit, and the fields stand for the history afterwards.
use Rattle.std.proofs.Common.{reverse, arith}
use Rattle.std.proofs.lemmas.List.{length-reverse}
use Rattle.finish_core.specs.declared.event.FinishEvent.TheVariants.{Spawned}
use Rattle.finish_core.proofs.Past.{reverse_push}
use Rattle.finish_core.proofs.Legal.{allowed_in, spawn_follows}
use Rattle.finish_core.proofs.Standing.{room, spawn_within, stands_spawned}
use Rattle.finish_core.proofs.state.FinishState.spawned.Goals as goal

pub push_reserved-requires : goal.push_reserved-requires
push_reserved-requires c =
    let f = c.self.inside in
    let h = reverse f.events.items in
    let allowed = allowed_in (Spawned c.args.child) c.self.view_is c.in_ok-may_spawn.ensures in
    let left = room c.self.invariant.0 (spawn_follows f.tasks h c.args.child allowed).open_now in
    omega (arith, left, length-reverse f.events.items, f.events.ok.0, c.self.invariant.1)

pub index_mut-requires : goal.index_mut-requires
index_mut-requires c =
    let f = c.self.inside in
    let h = reverse f.events.items in
    let allowed = allowed_in (Spawned c.args.child) c.self.view_is c.in_ok-may_spawn.ensures in
    let within = spawn_within c.self.invariant.0 c.args.child allowed in
    omega (arith, within, f.spawned.ok.0)

pub invariant_of-self : goal.invariant_of-self
invariant_of-self c =
    let f = c.self.inside in
    let h = reverse f.events.items in
    let allowed = allowed_in (Spawned c.args.child) c.self.view_is c.in_ok-may_spawn.ensures in
    rw (c.push_reserved.ensures.items, reverse_push f.events.items (Spawned c.args.child)) (
      stands_spawned c.self.invariant.0 c.args.child allowed,
      omega (arith, c.push_reserved.ensures.capacity, c.self.invariant.1),
    )
