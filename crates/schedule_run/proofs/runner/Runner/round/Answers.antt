use Rattle.std.proofs.Common.{ℕ, suc, ◌+◌, ◌-◌, ◌≡◌, false, List, sym, ap, subst, ◌∙◌, arith}
use Rattle.phase_modes.specs.declared.limits.Limits.{Limits}
use Rattle.world_model.specs.declared.event.WorldEvent.{WorldEvent}
use Rattle.world_model.specs.Numbers.{is_named}
use Rattle.trace_walk.specs.Picks.{pick, round_from}
use Rattle.schedule_run.specs.inner.Running.{RoundStands, RunStands}
use Rattle.schedule_run.proofs.Counting.{round_ends, round_step}
use Rattle.schedule_run.proofs.Noted.{waits_unmoved}
use Rattle.schedule_run.proofs.PassedOver.{ended_later, passed_to}
use Rattle.schedule_run.proofs.Picking.{legal_of, run_stays}
use Rattle.schedule_run.proofs.runner.Runner.round.Goals as goal
use Rattle.schedule_run.proofs.runner.Runner.round.Goals.{then-not-holds+else-not-is_named+in_ok-ask_or_note, else-not-holds}

pub loop-step-init : goal.loop-step-init
loop-step-init c = record {
  within = omega arith;
  steps = omega arith;
  runs = λ p w st have. (w, record { run = st; ended_are = have }, λ left same. let here : left ≡ c.limits-tasks.result.tasks = omega (arith, same) in ap (λ n. round_from n 0 p w) here);
}

pub loop-step-preserved : goal.loop-step-preserved
loop-step-preserved c = record {
  within = omega (arith, c.if-task-tasks.false);
  steps = omega (arith, c.loop-step.invariant.steps);
  runs = λ p w st have.
      let b = c.loop-step.invariant.runs p w st have in
      let t = c.loop-step.task in
      elim c.if-not-holds.branch [
        | then-not-holds+else-not-is_named+in_ok-ask_or_note x ↦ (
          pick p b.0 t,
          rw (x.self-is, x.ended-is) (x.in_ok-ask_or_note.ensures.stands p b.0 b.1.run (c.first_left-next.ensures.known b.0 b.1.ended_are)),
          λ left same. sym (round_step p b.0 c.loop-step.self t left b.1.run) ∙ b.2 (suc left) (omega (arith, same)),
        )
        | else-not-holds x ↦
            let here : pick p b.0 t ≡ b.0 =
            waits_unmoved p b.0 t (legal_of p b.0 c.loop-step.self b.1.run) (c.holds.ensures x.if-not-holds.false p.limits b.0 b.1.run.noted) in (
              pick p b.0 t,
              rw (x.self-is, x.ended-is) (record {
                run = run_stays p b.0 t c.loop-step.self b.1.run here;
                ended_are = ended_later p b.0 t c.first_left-next.new.self.runs.items (c.first_left-next.ensures.known b.0 b.1.ended_are);
              }),
              λ left same. sym (round_step p b.0 c.loop-step.self t left b.1.run) ∙ b.2 (suc left) (omega (arith, same)),
            )
      ];
}

pub loop-step-preserved-then-next-task : goal.loop-step-preserved-then-next-task
loop-step-preserved-then-next-task c =
    let t = c.loop-step.task in
    let next = c.first_left-next.result in
    let from = c.first_left-next.ensures.from in
    record {
      within = c.first_left-next.ensures.below;
      steps = omega (arith, c.loop-step.invariant.steps, c.if-next-task.true);
      runs = λ p w st have.
          let b = c.loop-step.invariant.runs p w st have in (
            b.0,
            record { run = b.1.run; ended_are = c.first_left-next.ensures.known b.0 b.1.ended_are },
            λ left same. passed_to next left t p b.0 c.loop-step.self b.1.run from (c.first_left-next.ensures.over b.0 b.1.ended_are)
                ∙ b.2 (next - t + left) (omega (arith, same, from)),
          );
    }

pub returns-then-task-tasks-clause-stands : goal.returns-then-task-tasks-clause-stands
returns-then-task-tasks-clause-stands c p w st have =
    let b = c.loop-step.invariant.runs p w st have in
    let tasks : c.limits-tasks.result.tasks ≡ p.limits.tasks = ap (λ (l : Limits). l.tasks) (c.limits-tasks.ensures.limits ∙ st.recorded.kept) in
    let last : c.loop-step.task + 0 ≡ c.limits-tasks.result.tasks = omega (arith, c.loop-step.invariant.within, c.if-task-tasks.true) in
    subst (λ (u : List WorldEvent). RoundStands p u c.loop-step.self c.loop-step.ended) (b.2 0 last ∙ ap (λ n. round_from n 0 p w) tasks) b.1

pub returns-clause-stands : goal.returns-clause-stands
returns-clause-stands c p w st have =
    let b = c.loop-step.invariant.runs p w st have in
    let tasks : c.limits-tasks.result.tasks ≡ p.limits.tasks = ap (λ (l : Limits). l.tasks) (c.limits-tasks.ensures.limits ∙ st.recorded.kept) in
    let last : c.loop-step.task + 0 ≡ c.limits-tasks.result.tasks = omega (arith, c.loop-step.invariant.within, c.loop-step.invariant.steps, c.loop-step-test.false) in
    subst (λ (u : List WorldEvent). RoundStands p u c.loop-step.self c.loop-step.ended) (b.2 0 last ∙ ap (λ n. round_from n 0 p w) tasks) b.1

pub returns-then-not-is_named-clause-stands : goal.returns-then-not-is_named-clause-stands
returns-then-not-is_named-clause-stands c p w st have =
    let b = c.loop-step.invariant.runs p w st have in
    let t = c.loop-step.task in
    let tasks : c.limits-tasks.result.tasks ≡ p.limits.tasks = ap (λ (l : Limits). l.tasks) (c.limits-tasks.ensures.limits ∙ st.recorded.kept) in
    let none : is_named t b.0 ≡ false = sym (c.is_named.ensures b.0 b.1.run.recorded.stands) ∙ c.if-not-is_named.true in
    let left : ℕ = c.limits-tasks.result.tasks - t in
    let rest : round_from left t p b.0 ≡ round_from c.limits-tasks.result.tasks 0 p w =
    b.2 left (omega (arith, c.loop-step.invariant.within)) in
    subst (λ (u : List WorldEvent). RoundStands p u c.loop-step.self c.first_left-next.new.self)
    (sym (round_ends left t p b.0 none) ∙ (rest ∙ ap (λ n. round_from n 0 p w) tasks))
    (record { run = b.1.run; ended_are = c.first_left-next.ensures.known b.0 b.1.ended_are })
