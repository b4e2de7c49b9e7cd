use Rattle.std.proofs.Common.{◌≡◌, true, List, sym, ◌∙◌}
use Rattle.std.proofs.lemmas.Result.{IfOk-weaker}
use Rattle.job_script.specs.Program.{Program}
use Rattle.world_model.specs.declared.event.WorldEvent.{WorldEvent}
use Rattle.world_model.specs.Tasks.{is_ended}
use Rattle.trace_walk.specs.Picks.{pick}
use Rattle.schedule_run.specs.inner.Ended.{HaveEnded}
use Rattle.schedule_run.specs.inner.Running.{RoundStands, RunStands}
use Rattle.schedule_run.proofs.PassedOver.{ended_unmoved, ended_later}
use Rattle.schedule_run.proofs.Picking.{run_stays}
use Rattle.schedule_run.proofs.runner.Runner.ask_or_note.Goals as goal

pub returns-then-has_ended-clause-stands : goal.returns-then-has_ended-clause-stands
returns-then-has_ended-clause-stands c = λ p w st have.
    let t = c.args.task in
    let is : is_ended t w ≡ true = sym (c.has_ended.ensures w st.recorded.stands) ∙ c.if-has_ended.true in
    record {
      run = run_stays p w t c.args.self.now st (ended_unmoved p w t is);
      ended_are = ended_later p w t c.note_one.new.self.runs.items (c.note_one.ensures w have is);
    }

pub returns-clause-stands : goal.returns-clause-stands
returns-clause-stands c =
    let t = c.args.task in
    IfOk-weaker c.ask.result
    (λ x. (p : Program) (w : List WorldEvent) → RunStands p w c.args.self.now → RunStands p (pick p w t) c.ask.new.self)
    (λ x. (p : Program) (w : List WorldEvent) → RunStands p w c.args.self.now → HaveEnded w c.args.ended.now.runs.items
    → RoundStands p (pick p w t) c.ask.new.self c.args.ended.now)
    (λ x runs p w st have. record { run = runs p w st; ended_are = ended_later p w t c.args.ended.now.runs.items have })
    c.ask.ensures.stands
