-- What a judge and the last ticket say of what was judged, and what is reported of it.
use Rattle.std.specs.Prelude.{◌≡◌, ◌⊎◌, ◌++◌, ℕ, List, codes, decimal, Result}
use Rattle.phase_modes.specs.declared.refusal.Refusal.TheVariants.{Memory}
use Rattle.job_ends.specs.declared.failure.Failure.{Failure}
use Rattle.job_ends.specs.declared.failure.Failure.TheVariants.{Refused as refused, Write}
use Rattle.phaser_judge.specs.declared.event.NamedEvent.{NamedEvent}
use Rattle.phaser_judge.specs.declared.owing.Owing.{Owing}
use Rattle.phaser_judge.specs.declared.refused.Refused.TheVariants.{HadToWait}
use Rattle.phaser_judge.specs.declared.totals.Totals.{Totals}
use Rattle.phaser_judge.specs.Courses.{totals_of, AreThere}
use Rattle.phaser_judge.specs.Owing.{IsOwingTo}
use Rattle.phaser_judge.specs.Standings.{standing}
use Rattle.judge_job.specs.declared.judging.Judging.{Judging}
use Rattle.judge_job.specs.declared.report.Report.{Report}
use Rattle.judge_job.specs.declared.stop.Reason.TheVariants.{Event}
use Rattle.judge_job.specs.declared.stop.Stop.{Stop}
use Rattle.judge_job.specs.declared.stop.Stop.TheVariants.{Line, Failed}
use Rattle.judge_job.specs.Logs.{Judged, Refusing, refusing}

-- what was judged
abbrev pub judged_of : Judging → Judged
judged_of j = record { events = j.judge.events; last = j.last }

-- judging stopped at a line that isn't accepted after what was judged, or for want of memory
abbrev pub IsOfLine : Result Judged Refusing → Judged → Stop → Type 0
IsOfLine verdict j (Line n why) = verdict ≡ refusing n j why
IsOfLine verdict j (Failed f) = f ≡ refused Memory

-- if judging stopped at an event that had to wait, it waited for these tasks
abbrev pub IsOwed : Judged → Stop → Owing → Type 0
IsOwed j s o = (n : ℕ) (e : NamedEvent) → s ≡ Line n (Event e HadToWait) → IsOwingTo (standing e.phaser j.events) e.event o

-- what is reported of these totals, if so many phasers are there
abbrev pub report_of : Totals → ℕ → Report
report_of n there = record {
  events = n.events;
  made = n.made;
  there = there;
  registrations = n.registrations;
  signals = n.signals;
  passes = n.passes;
  drops = n.drops;
  sends = n.sends;
}

-- the lines of events and of phasers
abbrev pub phasers_text : Report → List ℕ
phasers_text r =
    codes "events " ++ decimal r.events ++ codes "\nphasers made " ++ decimal r.made
    ++ codes " there " ++ decimal r.there ++ codes "\n"

-- how the line of totals begins
abbrev pub registrations_text : Report → List ℕ
registrations_text r = codes "totals registered " ++ decimal r.registrations ++ codes " signals " ++ decimal r.signals

-- how it ends
abbrev pub turns_text : Report → List ℕ
turns_text r =
    codes " passes " ++ decimal r.passes ++ codes " drops " ++ decimal r.drops
    ++ codes " sends " ++ decimal r.sends ++ codes "\n"

-- the lines of a report
abbrev pub text_of : Report → List ℕ
text_of r = (phasers_text r ++ registrations_text r) ++ turns_text r

-- what is reported of these events: their counts, and how many phasers are there
pub record IsReportOf (events : List NamedEvent) (r : Report) : Type 0 where
  pub counts : r ≡ report_of (totals_of events) r.there
  pub there : AreThere (λ p. standing p events) r.there

-- writing a report fails by a write, or for want of memory
abbrev pub IsOfReport : Failure → Type 0
IsOfReport f = (f ≡ Write) ⊎ (f ≡ refused Memory)
