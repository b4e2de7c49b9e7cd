use Rattle.std.proofs.Common.{List, ap, sym, ◌∙◌, subst}
use Rattle.phase_model.specs.declared.history.Event.{Event}
use Rattle.phase_model.specs.Phases.{IsClosed}
use Rattle.example_threads.proofs.Turns.{sees_all, within}
use Rattle.example_threads.proofs.pair.both.Goals as goal

pub returns-clause-closed : goal.returns-clause-closed
returns-clause-closed g c = (
  subst (λ (h : List Event). IsClosed c.in_ok-one.one.phase h) (sym c.includes.ensures.same.1) c.in_ok-one.ensures.good.0.closed,
  subst (λ (h : List Event). IsClosed c.in_ok-one.other.phase h) (sym c.includes-3.ensures.same.1) c.in_ok-one.ensures.good.1.closed,
)

pub returns-clause-saw : goal.returns-clause-saw
returns-clause-saw g c =
    let ops = g.J.Naming.terms.ops in
    let whole = c.front-whole.ensures.all in
    let at_4 = ap (λ w. w.state.story.past) c.includes-4.ensures.same.0 in
    let at_3 = ap (λ w. w.state.story.past) c.includes-3.ensures.same.0 in
    let at_2 = ap (λ w. w.state.story.past) c.includes-2.ensures.same.0 in (
      sees_all ops c.in_ok-one.one.phase _ _ _ _ c.in_ok-one.ensures.good.0
          (within _ _ _ c.includes-2.ensures.begins (whole ∙ (at_4 ∙ (at_3 ∙ at_2)))) c.is_legal.ensures.folded,
      sees_all ops c.in_ok-one.other.phase _ _ _ _ c.in_ok-one.ensures.good.1
          (within _ _ _ c.includes-4.ensures.begins (whole ∙ at_4)) c.is_legal.ensures.folded,
    )
