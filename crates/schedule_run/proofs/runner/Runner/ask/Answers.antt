use Rattle.std.proofs.Common.{Some, sym, ap, ◌∙◌}
use Rattle.world_model.specs.declared.condition.Condition.{Condition}
use Rattle.world_model.specs.declared.condition.Condition.TheVariants as conditions
use Rattle.schedule_run.proofs.Picking.{answer_describes, describes_busy, where_ok, run_stays, picked_none}
use Rattle.schedule_run.proofs.runner.Runner.ask.Goals as goal

pub returns-in-Idle-clause-stands : goal.returns-in-Idle-clause-stands
returns-in-Idle-clause-stands c =
    where_ok c.begin.result
    (λ h p w st. h p w st
    (answer_describes c.args.task w (Some conditions.Idle) (ap (λ (x : Condition). Some x) (sym c.in-Idle.is) ∙ (sym c.in-Some.is ∙ c.condition.ensures w st.recorded.stands))))
    c.begin.ensures.stands

pub returns-in-Ended-clause-stands : goal.returns-in-Ended-clause-stands
returns-in-Ended-clause-stands c p w st =
    let known = answer_describes c.args.task w (Some conditions.Ended) (ap (λ (x : Condition). Some x) (sym c.in-Ended.is) ∙ (sym c.in-Some.is ∙ c.condition.ensures w st.recorded.stands)) in
    run_stays p w c.args.task c.args.self.now st (picked_none p w c.args.task known.0 known.1)

pub returns-in_default-condition : goal.returns-in_default-condition
returns-in_default-condition c = record {
  stands = where_ok c.go_on.result
      (λ h p w st.
      let known = describes_busy c.in-Some.condition c.args.task w (answer_describes c.args.task w (Some c.in-Some.condition) (sym c.in-Some.is ∙ c.condition.ensures w st.recorded.stands)) c.in_default-condition.not-Idle c.in_default-condition.not-Ended in
      h p w st known.0 known.1 known.2)
      c.go_on.ensures.stands;
  memory = c.go_on.ensures.memory;
}
