use Rattle.std.proofs.Common.{◌≡◌, All, length, vec_len}
use Rattle.long_locks.specs.Crews.{HasSeen}
use Rattle.long_locks.proofs.entry.given_of.Given as goal

abbrev pub invariant-loop-one : goal.invariant-loop-one
invariant-loop-one g l = record {
  given : vec_len l.all_given ≡ length l.yielded;
  kept : l.cell.cell ≡ l.initial.cell.cell;
  shown : All (λ x. ∥ HasSeen g.C.Crew.shows g.J.Naming.terms l.initial.cell.cell.state.story.past x ∥₁) l.all_given.items;
}
