use Rattle.world_model.proofs.PhasersFolded.{legal_is_folded}
use Rattle.table_receipts.specs.Logs.{story_of}
use Rattle.table_receipts.proofs.front.Front.is_legal.Goals as goal

pub returns-clause-folded : goal.returns-clause-folded
returns-clause-folded g c =
    let s = story_of g.K.Logs.limits c.self.inside.seen.items in
    rw (← c.self.view_is) (legal_is_folded s.limits s.terms s.past c.self.invariant.1)
