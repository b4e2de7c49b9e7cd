use Rattle.std.proofs.Common.{subst}
use Rattle.phase_model.specs.Ordering.{IsOrdered}
use Rattle.phaser_engine.specs.Phaser.{Working}
use Rattle.phase_model.proofs.OrderingLaw.{legal_is_ordered}
use Rattle.phaser_engine.proofs.state.Engine.history.Goals as goal

pub returns-clause-ordered : goal.returns-clause-ordered
returns-clause-ordered c =
    let s = c.self.inside.history in
    subst (λ (v : Working). IsOrdered v.story.past) c.self.view_is
    (legal_is_ordered s.limits s.terms s.past c.self.invariant.stands.legal)
