use Rattle.std.proofs.Common.{refl, sym, ap, ◌∙◌, option_map, Ok}
use Rattle.job_script.specs.Acts.{flat}
use Rattle.job_script.specs.inner.Views.{act_view}
use Rattle.job_script.specs.Steps.{given, next_for, act_for, named}
use Rattle.job_script.proofs.Stepping.{first_left, goes_past, one_less}
use Rattle.job_script.proofs.script_body.ScriptBody.step.Goals as goal

pub invariant_of-self-2 : goal.invariant_of-self-2
invariant_of-self-2 c =
    let at = sym c.at.ensures.act ∙ ap (option_map (λ i. act_view i.now)) c.in-Some.is in
    (c.self.invariant.0, goes_past c.self.inside.body.now c.self.inside.done (act_view c.in-Some.item.now) at)

pub returns-clause-gives : goal.returns-clause-gives
returns-clause-gives c =
    let at = sym c.at.ensures.act ∙ ap (option_map (λ i. act_view i.now)) c.in-Some.is in
    let first = first_left (flat c.self.inside.body.now) c.self.inside.done ∙ at in
    ap Ok (c.act_for.ensures ∙ ap (λ ms. act_for ms c.in-Some.item.now.head c.in-Some.item.now.body) c.answered.ensures
    ∙ sym (ap (next_for (named c.args.answer c.self.inside.naming c.self.inside.meanings)) first)
    ∙ ap (given c.args.answer) c.self.view_is)

pub returns-clause-goes_on : goal.returns-clause-goes_on
returns-clause-goes_on c =
    let at = sym c.at.ensures.act ∙ ap (option_map (λ i. act_view i.now)) c.in-Some.is in
    let first = first_left (flat c.self.inside.body.now) c.self.inside.done ∙ at in
    rw (← c.self.view_is, one_less (flat c.self.inside.body.now) c.self.inside.done, first, c.answered.ensures, c.given_name-self-inside.ensures) refl
