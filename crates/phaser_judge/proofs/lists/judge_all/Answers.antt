use Rattle.std.proofs.Common.{◌≡◌, Err, rules}
use Rattle.phaser_judge.proofs.InOrder.{refuted, first_refused, all_legal}
use Rattle.phaser_judge.proofs.lists.judge_all.Goals as goal

pub returns-in_err-event-clause-illegal : goal.returns-in_err-event-clause-illegal
returns-in_err-event-clause-illegal c =
    let never =
    refuted c.args.events.now c.loop-event.event-index c.event-item.result c.loop-event.judge c.in_err-event.field-0.0
    c.loop-event-test.true c.event-item.is c.loop-event.invariant.accepted c.in_err-event.ensures.refused in
    search (rules, never)

pub returns-in_err-event-clause-reason : goal.returns-in_err-event-clause-reason
returns-in_err-event-clause-reason c =
    let first =
    first_refused c.args.events.now c.loop-event.event-index c.event-item.result c.loop-event.judge c.in_err-event.field-0.0
    c.loop-event-test.true c.event-item.is c.loop-event.invariant.accepted c.loop-event.invariant.come
    c.in_err-event.ensures.illegal c.in_err-event.ensures.reason in
    let is : c.from_residual.result ≡ Err c.in_err-event.field-0.0 = search rules in
    rw is first

pub returns-clause-legal : goal.returns-clause-legal
returns-clause-legal c =
    all_legal c.args.events.now c.loop-event.event-index c.loop-event-test.false c.loop-event.invariant.come
