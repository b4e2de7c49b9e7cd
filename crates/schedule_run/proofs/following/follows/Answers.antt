use Rattle.std.proofs.Common.{[], subst}
use Rattle.job_script.specs.Steps.{Script}
use Rattle.trace_walk.specs.Walking.{first_astray, script_next, AnswersPlace}
use Rattle.schedule_run.proofs.Scripted.{answers_place, follows_there, leaves_there}
use Rattle.schedule_run.proofs.following.follows.Goals as goal

pub returns-clause-place : goal.returns-clause-place
returns-clause-place c =
    answers_place c.args.program.now c.args.trace.now c.walk.result
    (subst (λ (s : Script). AnswersPlace (first_astray script_next s [] 0 c.args.trace.now.events) c.walk.result)
    c.root.ensures c.walk.ensures)

pub returns-clause-follows : goal.returns-clause-follows
returns-clause-follows c =
    follows_there c.args.program.now c.args.trace.now c.walk.result (returns-clause-place c)

pub returns-clause-leaves : goal.returns-clause-leaves
returns-clause-leaves c =
    leaves_there c.args.program.now c.args.trace.now c.walk.result (returns-clause-place c)
