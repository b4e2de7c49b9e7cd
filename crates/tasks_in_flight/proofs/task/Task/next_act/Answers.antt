use Rattle.std.proofs.Common.{ℕ, Option, sym, subst, ◌∙◌}
use Rattle.std.proofs.lemmas.Bool.{true≢false}
use Rattle.job_script.specs.declared.act.Answer.{Answer}
use Rattle.std.proofs.Common.{None}
use Rattle.tasks_in_flight.specs.Heard.{nothing, at_start, asked_by}
use Rattle.tasks_in_flight.specs.inner.Ready.{IsReady, seen_by}
use Rattle.tasks_in_flight.proofs.OnTheWay.{is_answered, sees_itself}
use Rattle.tasks_in_flight.proofs.Saying.{ready_since, after_step}
use Rattle.tasks_in_flight.proofs.task.Task.next_act.Goals as goal

pub returns-clause-says : goal.returns-clause-says
returns-clause-says g c =
    let old = c.args.self.now in
    let k = old.standing in
    let now = seen_by old.fronts k old.log.log in
    after_step g.B.Body.shows (g.B.Body.shows c.step.new.self old.log.task (asked_by c.step.result) now) old.body old.log.task k.plan c.in-Some.answer now
    (λ asked seen goes is. is_answered old.log.task None seen k now.own now.stories now.log asked c.in-Some.answer c.requires.due is)
    (λ asked seen shows heard. c.step.ensures.shows old.log.task asked seen now shows heard)
    (subst (λ (a : Option Answer). ∥ (g.K.Supposing.supposed → IsReady g.B.Body.shows None old.body old.log.task k.plan a now) ∥₁) c.in-Some.is old.ready)

pub invariant_of-self-clause-ready : goal.invariant_of-self-clause-ready
invariant_of-self-clause-ready g c =
    let old = c.args.self.now in
    let k = old.standing in
    let now = seen_by old.fronts k old.log.log in
    ready_since g.B.Body.shows c.step.new.self old.log.task k.plan (asked_by c.step.result) None now now (sees_itself now) tt
    (after_step g.B.Body.shows (g.B.Body.shows c.step.new.self old.log.task (asked_by c.step.result) now) old.body old.log.task k.plan c.in-Some.answer now
    (λ asked seen goes is. is_answered old.log.task None seen k now.own now.stories now.log asked c.in-Some.answer c.requires.due is)
    (λ asked seen shows heard. c.step.ensures.shows old.log.task asked seen now shows heard)
    (subst (λ (a : Option Answer). ∥ (g.K.Supposing.supposed → IsReady g.B.Body.shows None old.body old.log.task k.plan a now) ∥₁) c.in-Some.is old.ready))

pub returns-clause-child : goal.returns-clause-child
returns-clause-child g c = λ child its spawned.
    let old = c.args.self.now in
    let k = old.standing in
    let now = seen_by old.fronts k old.log.log in
    after_step g.B.Body.shows ((own : ℕ → ℕ) → g.B.Body.shows child its nothing (at_start own now.stories)) old.body old.log.task k.plan c.in-Some.answer now
    (λ asked seen goes is. is_answered old.log.task None seen k now.own now.stories now.log asked c.in-Some.answer c.requires.due is)
    (λ asked seen shows heard own. c.step.ensures.child old.log.task asked seen now shows heard child its own spawned)
    (subst (λ (a : Option Answer). ∥ (g.K.Supposing.supposed → IsReady g.B.Body.shows None old.body old.log.task k.plan a now) ∥₁) c.in-Some.is old.ready)

pub invariant_of-self-clause-end : goal.invariant_of-self-clause-end
invariant_of-self-clause-end g c = λ ended. absurd (true≢false (sym ended ∙ c.requires.goes_on))
