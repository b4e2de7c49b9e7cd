-- The run of a kernel in which no task was refused is whole: so the laws of whole runs hold of it.
use Rattle.std.proofs.Common.{◌≡◌, true, List, None, Ok, reverse, refl, sym, ap, subst, arith, ◌∙◌, inl, inr}
use Rattle.std.proofs.lemmas.Bool.{and_parts}
use Rattle.phase_modes.specs.Limits.{default_limits}
use Rattle.phase_modes.specs.declared.refusal.Refusal.{Refusal}
use Rattle.phase_modes.specs.declared.refusal.Refusal.TheVariants.{Memory, NotExplained}
use Rattle.tasks_in_flight.specs.Refused.{IsRunRefused}
use Rattle.job_script.specs.declared.act.Answer.{Answer}
use Rattle.world_model.specs.declared.event.WorldEvent.{WorldEvent}
use Rattle.world_model.specs.Replies.{is_legal_world}
use Rattle.world_model.specs.Report.{Report, report_of}
use Rattle.trace_model.specs.Explained.{all_follow, is_over, past}
use Rattle.trace_model.specs.Run.{Entry}
use Rattle.trace_model.proofs.Legal.{explained_legal}
use Rattle.phased_rt.proofs.Emptied.{over_ended}
use Rattle.trace_walk.specs.Going.{IsRefusedAt}
use Rattle.trace_walk.specs.Walking.{Does}
use Rattle.job_kernels.specs.Results.{refusal_of}
use Rattle.trace_walk.specs.Whole.{IsWhole}
use Rattle.run_jobs.specs.KernelsWorked.{IsKernelRun}
use Rattle.run_jobs.proofs.Unrefused.{unrefused}

-- a whole history, and its report
pub record IsReported {B : Type 0} (next : Answer → B → Does B) (root : B) (r : Report) : Type 0 where
  pub history : List WorldEvent
  pub whole : IsWhole next root default_limits history
  pub is : r ≡ report_of default_limits history

pub reported : {B : Type 0} (next : Answer → B → Does B) (root : B) (r : Report) → IsKernelRun next root (Ok r)
    → refusal_of r ≡ None → IsReported next root r
reported next root r (t, limits, explained, goes, is) none =
    let es = reverse t.events in
    let w : List WorldEvent = past es in
    let legal : is_legal_world default_limits w ≡ true =
    subst (λ l. is_legal_world l w ≡ true) limits (explained_legal t explained) in
    let over = (and_parts (all_follow t.limits es) (is_over es) explained).1 in
    record {
      history = w;
      whole = record {
        smooth = record {
          legal = legal;
          goes = goes;
          unrefused = unrefused default_limits w legal (omega arith) (sym (ap (λ x. refusal_of x) is) ∙ none);
        };
        ended = over_ended es over;
      };
      is = is;
    }

-- a run whose trace doesn't go by the body is refused
pub refused_so : {B : Type 0} (next : Answer → B → Does B) (root : B) (es : List Entry) (e : Refusal)
    → IsRefusedAt next root es e → IsRunRefused e
refused_so next root es Memory h = inl refl
refused_so next root es (NotExplained k) h = inr (k, refl)
refused_so next root es e h = absurd h
