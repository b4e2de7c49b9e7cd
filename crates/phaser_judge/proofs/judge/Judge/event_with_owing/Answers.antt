use Rattle.std.proofs.Common.{◌≡◌, true, false, subst}
use Rattle.phaser_judge.specs.Standings.{may_come}
use Rattle.phaser_judge.proofs.Lives.{next_legal, refused_illegal}
use Rattle.phaser_judge.proofs.judge.Judge.event_with_owing.Goals as goal

pub returns-in-Ok-clause-legal : goal.returns-in-Ok-clause-legal
returns-in-Ok-clause-legal c =
    let e = c.args.event.now in
    next_legal c.self.inside.accepted.items c.add.new.self.items e c.self.invariant.come
    (subst (λ o. may_come o e.event ≡ true) (c.self.invariant.standings c.if-self.false e.phaser)
    c.in-Ok.ensures.accepted) c.add.ensures.1

pub returns-in-Err-clause-illegal : goal.returns-in-Err-clause-illegal
returns-in-Err-clause-illegal c =
    let e = c.args.event.now in
    λ _ apart.
    refused_illegal _ c.args.self.now c.self.view_is e
    (subst (λ o. may_come o e.event ≡ false) (c.self.invariant.standings c.if-self.false e.phaser)
    (c.in-Err.ensures.refused apart))
