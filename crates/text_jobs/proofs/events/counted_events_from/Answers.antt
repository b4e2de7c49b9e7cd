use Rattle.std.proofs.Common.{rules, inl, inr}
use Rattle.job_ends.specs.Ends.{IsOfJob}
use Rattle.text_jobs.specs.EventsEnds.{IsOfAnswer}
use Rattle.text_jobs.specs.declared.events.TheConstants.{MOST_EVENTS_BYTES}
use Rattle.job_ends.proofs.Reported.{reports_more, reports_of}
use Rattle.text_jobs.proofs.events.counted_events_from.Goals as goal

pub returns-in-Ok-clause-reported : goal.returns-in-Ok-clause-reported
returns-in-Ok-clause-reported g c = λ ended.
    let told = c.events_on.ensures.reported ended in (
      told.0,
      reports_more _ _ _ _ _
          (λ f answered. inr (c.in-Ok.bytes.items, c.in-Ok.ensures.bytes, search (rules, answered)))
          told.1,
    )

pub returns-in-Err-clause-reported : goal.returns-in-Err-clause-reported
returns-in-Err-clause-reported g c = λ _. (
  c.end.result.reported,
  reports_of (IsOfJob MOST_EVENTS_BYTES IsOfAnswer (g.R.Read.remaining c.args.reader.now)) _ _ _ _ (inl c.in-Err.ensures.failure)
      (inl tt) c.end.ensures.reported,
)
