use Rattle.std.proofs.Common.{◌≡◌, option_map}
use Rattle.task_standing.specs.declared.plan.Due.TheVariants as due
use Rattle.tasks_in_flight.specs.inner.GoingOn.{HasGoneOn}
use Rattle.task_worker.specs.inner.Driven.{Replies}
use Rattle.tasks_in_flight.proofs.GoingOn.{due_now, goes_by, goes_nowhere}
use Rattle.task_worker.proofs.worker.Shared.go_on.Goals as goal

pub signal-requires : goal.signal-requires
signal-requires g c =
    due_now c.args.item.task.value.standing (option_map (λ t. t.value.standing) c.args.item.unborn) c.due.result (due.Signal c.in-Signal.phaser c.in-Signal.number) c.due.ensures c.in-Signal.is

pub pass-requires : goal.pass-requires
pass-requires g c =
    due_now c.args.item.task.value.standing (option_map (λ t. t.value.standing) c.args.item.unborn) c.due.result (due.Pass c.in-Pass.phaser) c.due.ensures c.in-Pass.is

pub leave-requires : goal.leave-requires
leave-requires g c =
    due_now c.args.item.task.value.standing (option_map (λ t. t.value.standing) c.args.item.unborn) c.due.result (due.Leave c.in-Leave.phaser) c.due.ensures c.in-Leave.is

pub bear-requires : goal.bear-requires
bear-requires g c =
    due_now c.args.item.task.value.standing (option_map (λ t. t.value.standing) c.args.item.unborn) c.due.result (due.Spawn c.of.result c.of-in-Spawn.result) c.due.ensures cc

pub step-requires : goal.step-requires
step-requires g c =
    due_now c.args.item.task.value.standing (option_map (λ t. t.value.standing) c.args.item.unborn) c.due.result (due.Step) c.due.ensures c.in-Step.is

pub returns-in-Signal-clause-goes : goal.returns-in-Signal-clause-goes
returns-in-Signal-clause-goes g c =
    let task = c.args.item.task.value in
    goes_by c.signal.result (λ i. i.task.value.standing) (Replies task.fronts) (option_map (λ t. t.value.standing) c.args.item.unborn)
    task.standing c.due.result (due.Signal c.in-Signal.phaser c.in-Signal.number) c.due.ensures c.in-Signal.is c.signal.ensures.made

pub returns-in-Pass-clause-goes : goal.returns-in-Pass-clause-goes
returns-in-Pass-clause-goes g c =
    let task = c.args.item.task.value in
    goes_by c.pass.result (λ i. i.task.value.standing) (Replies task.fronts) (option_map (λ t. t.value.standing) c.args.item.unborn)
    task.standing c.due.result (due.Pass c.in-Pass.phaser) c.due.ensures c.in-Pass.is c.pass.ensures.made

pub returns-in-Register-clause-goes : goal.returns-in-Register-clause-goes
returns-in-Register-clause-goes g c =
    let task = c.args.item.task.value in
    goes_by c.register.result (λ i. i.task.value.standing) (Replies task.fronts) (option_map (λ t. t.value.standing) c.args.item.unborn)
    task.standing c.due.result (due.Register c.in-Register.child c.in-Register.pair) c.due.ensures c.in-Register.is c.register.ensures.made

pub returns-in-Leave-clause-goes : goal.returns-in-Leave-clause-goes
returns-in-Leave-clause-goes g c =
    let task = c.args.item.task.value in
    goes_by c.leave.result (λ i. i.task.value.standing) (Replies task.fronts) (option_map (λ t. t.value.standing) c.args.item.unborn)
    task.standing c.due.result (due.Leave c.in-Leave.phaser) c.due.ensures c.in-Leave.is c.leave.ensures.made

pub returns-in-Shut-clause-goes : goal.returns-in-Shut-clause-goes
returns-in-Shut-clause-goes g c =
    let task = c.args.item.task.value in
    goes_by c.shut.result (λ i. i.task.value.standing) (Replies task.fronts) (option_map (λ t. t.value.standing) c.args.item.unborn)
    task.standing c.due.result (due.Shut c.in-Shut.finish) c.due.ensures c.in-Shut.is c.shut.ensures.made

pub returns-in-Spawn-clause-goes : goal.returns-in-Spawn-clause-goes
returns-in-Spawn-clause-goes g c =
    let task = c.args.item.task.value in
    let named : c.due.result ≡ due.Spawn c.of.result c.of-in-Spawn.result = cc in
    goes_by c.bear.result (λ i. i.task.value.standing) (Replies task.fronts) (option_map (λ t. t.value.standing) c.args.item.unborn)
    task.standing c.due.result (due.Spawn c.of.result c.of-in-Spawn.result) c.due.ensures named c.bear.ensures.made

pub returns-in-DropChild-clause-goes : goal.returns-in-DropChild-clause-goes
returns-in-DropChild-clause-goes g c =
    let task = c.args.item.task.value in
    let named : c.due.result ≡ due.DropChild c.of-in-DropChild.result c.of-in-DropChild-2.result = cc in
    goes_by c.drop_child.result (λ i. i.task.value.standing) (Replies task.fronts) (option_map (λ t. t.value.standing) c.args.item.unborn)
    task.standing c.due.result (due.DropChild c.of-in-DropChild.result c.of-in-DropChild-2.result) c.due.ensures named c.drop_child.ensures.made

pub returns-in-End-clause-goes : goal.returns-in-End-clause-goes
returns-in-End-clause-goes g c =
    let task = c.args.item.task.value in
    goes_nowhere c.end.result (λ i. HasGoneOn (Replies task.fronts) (option_map (λ t. t.value.standing) c.args.item.unborn) task.standing i.task.value.standing) c.end.ensures.over

pub returns-in-Close-clause-goes : goal.returns-in-Close-clause-goes
returns-in-Close-clause-goes g c =
    let task = c.args.item.task.value in
    goes_nowhere c.close.result (λ i. HasGoneOn (Replies task.fronts) (option_map (λ t. t.value.standing) c.args.item.unborn) task.standing i.task.value.standing) c.close.ensures.over
