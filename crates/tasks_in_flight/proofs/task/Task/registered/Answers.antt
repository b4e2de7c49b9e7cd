use Rattle.std.proofs.Common.{ℕ, refl, sym, subst, ◌∙◌}
use Rattle.phase_model.specs.Rules.{Story}
use Rattle.table_receipts.specs.Seen.{story_at}
use Rattle.table_receipts.proofs.Stories.{seen_more}
use Rattle.tasks_in_flight.specs.Heard.{IsOwn, ends}
use Rattle.tasks_in_flight.specs.inner.Ready.{seen_by}
use Rattle.tasks_in_flight.proofs.OnTheWay.{pending_more}
use Rattle.tasks_in_flight.proofs.Saying.{ready_moves, more_stories, says_more}
use Rattle.tasks_in_flight.proofs.task.Task.registered.Goals as goal

pub invariant_of-self-clause-ready : goal.invariant_of-self-clause-ready
invariant_of-self-clause-ready g c =
    let old = c.args.self.now in
    let ys = c.set.new.self in
    let n = c.args.phaser in
    let more = seen_more old.fronts old.fronts ys n n (story_at old.fronts n) c.args.seen.story refl refl refl c.set.ensures.here c.set.ensures.others c.requires.more in
    let k = old.standing in
    let now = seen_by old.fronts k old.log.log in
    ready_moves g.B.Body.shows old.body old.log.task k.plan k.plan old.answer now (seen_by ys k old.log.log)
    (more_stories now (λ m. story_at ys m) k.holding more.0)
    (λ asked seen goes is. pending_more old.log.task n seen now (λ m. story_at ys m) more
    (subst (λ (t : ℕ). IsOwn t (story_at ys n).past) (sym old.own)
    (subst (λ (s : Story). IsOwn old.log.task s.past) (sym c.set.ensures.here) c.requires.own)) k.plan asked old.answer
    (sym c.hears_of_each.ensures ∙ c.if-hears_of_each.true) is)
    old.ready

pub invariant_of-self-clause-end : goal.invariant_of-self-clause-end
invariant_of-self-clause-end g c = λ ended.
    let old = c.args.self.now in
    let ys = c.set.new.self in
    let n = c.args.phaser in
    let more = seen_more old.fronts old.fronts ys n n (story_at old.fronts n) c.args.seen.story refl refl refl c.set.ensures.here c.set.ensures.others c.requires.more in
    says_more g.B.Body.shows old.body old.log.task ends (seen_by old.fronts old.standing old.log.log) (seen_by ys old.standing old.log.log)
    (more_stories (seen_by old.fronts old.standing old.log.log) (λ m. story_at ys m) old.standing.holding more.0) (old.end ended)
