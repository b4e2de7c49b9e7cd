use Rattle.world_model.proofs.PhasersFolded.{legal_is_folded}
use Rattle.phase_model.proofs.OrderingLaw.{legal_is_ordered}
use Rattle.live_tables.specs.Slots.{told_of}
use Rattle.live_tables.proofs.front.SlotFront.is_legal.Goals as goal

pub returns-clause-legal : goal.returns-clause-legal
returns-clause-legal c = rw (← c.self.view_is) c.self.invariant

pub returns-clause-ordered : goal.returns-clause-ordered
returns-clause-ordered c = rw (← c.self.view_is) (λ k.
    let s = told_of k c.self.inside.seen.items in
    legal_is_ordered s.limits s.terms s.past (c.self.invariant k))

pub returns-clause-folded : goal.returns-clause-folded
returns-clause-folded c = rw (← c.self.view_is) (λ k.
    let s = told_of k c.self.inside.seen.items in
    legal_is_folded s.limits s.terms s.past (c.self.invariant k))
