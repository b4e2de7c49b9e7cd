use Rattle.std.proofs.Common.{ap, ◌∙◌, ℕ, subst}
use Rattle.std.proofs.Math.Logic.{∥∥₁_map}
use Rattle.table_receipts.specs.Seen.{story_at}
use Rattle.tasks_in_flight.specs.Heard.{nothing, at_start}
use Rattle.tasks_in_flight.specs.inner.Ready.{seen_by}
use Rattle.tasks_in_flight.proofs.Saying.{says_now, asks_kept, asks_to_spawn}
use Rattle.world_model.specs.declared.event.Begun.TheVariants.{Async}
use Rattle.task_standing.specs.Known.{Known}
use Rattle.tasks_in_flight.specs.inner.GoingOn.{HasActed, given_up}
use Rattle.task_worker.specs.inner.Driven.{Replies}
use Rattle.tasks_in_flight.proofs.GoingOn.{acts_no_more, begins}
use Rattle.task_worker.proofs.worker.Shared.spawn.Goals as goal

pub child-requires : goal.child-requires
child-requires g c = record {
  says = says_now g.B.Body.shows c.args.body c.of-its.result nothing (at_start (λ n. c.of-its.result) (λ n. story_at c.args.task.now.fronts n))
      (∥∥₁_map (c.requires.child c.of-its.result) (λ f q. f q (λ n. c.of-its.result)));
}

pub begin-requires : goal.begin-requires
begin-requires g c =
    let old = c.args.task.now in
    let new = c.child.new.self in
    let child = c.task-number.result in
    asks_kept g.B.Body.shows old.body new.body old.log.task new.log.task (Async child c.args.pairs) old.fronts new.fronts old.standing new.standing old.log.log new.log.log
    c.child.ensures.body c.child.ensures.task c.child.ensures.fronts c.child.ensures.standing (ap (λ d. d.log) c.child.ensures.log)
    (asks_to_spawn g.B.Body.shows old.body old.log.task child c.args.pairs (seen_by old.fronts old.standing old.log.log) c.requires.says)

pub returns-in_default-clause-acted : goal.returns-in_default-clause-acted
returns-in_default-clause-acted g c =
    let old = c.args.task.now in
    acts_no_more (Replies old.fronts) old.standing c.fail.new.task.standing
    (c.in_ok-fail.ensures ∙ ap given_up c.child.ensures.standing)

pub returns-clause-acted : goal.returns-clause-acted
returns-clause-acted g c =
    let old = c.args.task.now in
    let seen = Replies old.fronts in
    subst (λ (k : Known). HasActed seen k c.begin.new.task.standing) c.child.ensures.standing
    (begins seen (Async c.task-number.result c.args.pairs) c.in_ok-has_begun.has_begun c.child.new.self.standing c.begin.new.task.standing c.in_ok-has_begun.ensures.begun)
