use Rattle.std.proofs.Common.{◌≡◌, true, All, IfOk, subst}
use Rattle.std.proofs.result.Match.{if_ok_then}
use Rattle.phase_model.specs.Rules.{is_legal}
use Rattle.phaser_core.specs.LongLife.{long_limits}
use Rattle.long_locks.specs.Crews.{AreSeen, HasSeen}
use Rattle.long_locks.proofs.entry.gathered.Goals as goal

-- the cell's history is what its front has seen, which is legal
pub returns-clause-shown : goal.returns-clause-shown
returns-clause-shown g c =
    let past = c.into_cell-cell.result.cell.state.story.past in
    let legal : is_legal long_limits g.J.Naming.terms past ≡ true = subst (λ h. is_legal long_limits g.J.Naming.terms h ≡ true) c.front-whole.ensures.all c.is_legal.ensures.legal in
    if_ok_then c.given_of.result
    (λ v. All (λ x. ∥ HasSeen g.C.Crew.shows g.J.Naming.terms past x ∥₁) v.items)
    (λ v. AreSeen g.C.Crew.shows g.J.Naming.terms v.items)
    (λ v shown. record { history = past; legal = legal; shown = shown })
    (subst (λ k. IfOk c.given_of.result (λ v. All (λ x. ∥ HasSeen g.C.Crew.shows g.J.Naming.terms k.state.story.past x ∥₁) v.items)) c.front-whole.ensures.same c.given_of.ensures.shown)
