-- What is told and reported.
use Rattle.std.proofs.Common.{◌≡◌, ◌⊎◌, ℕ, List, [], ◌∷◌, Bool, true, false, Option, inl, inr, refl, sym, ap, subst, ◌∙◌}
use Rattle.std.proofs.lemmas.Bool.{false≢true}
use Rattle.phase_modes.specs.declared.refusal.Refusal.TheVariants.{Memory}
use Rattle.job_ends.specs.declared.failure.Ending.{Ending}
use Rattle.job_ends.specs.declared.failure.Failure.{Failure}
use Rattle.job_ends.specs.declared.failure.Failure.TheVariants.{Refused}
use Rattle.job_ends.specs.declared.failure.Status.TheVariants as statuses
use Rattle.job_ends.specs.Ends.{AppendsFront, Reports, failure_line, status_of}
use Rattle.phaser_judge.specs.declared.event.NamedEvent.{NamedEvent}
use Rattle.phaser_judge.specs.declared.owing.Owing.{Owing}
use Rattle.phaser_judge.specs.declared.refused.Refused.{Refused as Why}
use Rattle.phaser_judge.specs.declared.refused.Refused.TheVariants.{HadToWait}
use Rattle.phaser_judge.specs.declared.totals.Totals.{Totals}
use Rattle.phaser_judge.specs.Owing.{IsOwingTo}
use Rattle.phaser_judge.specs.Courses.{AreThere, totals_of}
use Rattle.phaser_judge.specs.Standings.{standing}
use Rattle.judge_job.specs.declared.report.Every.{Every}
use Rattle.judge_job.specs.declared.report.Report.{Report}
use Rattle.judge_job.specs.declared.stop.Reason.TheVariants.{NoHeader, NoEvent, TooLong, Ticket, Event}
use Rattle.judge_job.specs.declared.stop.Stop.{Stop}
use Rattle.judge_job.specs.declared.stop.Stop.TheVariants.{Line, Failed}
use Rattle.judge_job.specs.Standing.{IsOfReport, IsOwed, IsReportOf, report_of}
use Rattle.judge_job.specs.Endings.{IsOfFailing, IsReported, IsReportedIf, Tells, TellsAfter}
use Rattle.judge_job.specs.Logs.{Judged, nothing}
use Rattle.judge_job.specs.inner.Steps.{TellsAdded}

-- ---- a report

pub report_is : (es : List NamedEvent) (r : Report) (n : Totals) (there : ℕ) → r ≡ report_of n there → n ≡ totals_of es
    → AreThere (λ p. standing p es) there → IsReportOf es r
report_is es r n there is counted h =
    subst (IsReportOf es) (sym is) (record { counts = ap (λ m. report_of m there) counted; there = h })

-- what may be less whole
pub front_on : (a b : Bool) (old new : Option (List ℕ)) (text : List ℕ) → (b ≡ true → a ≡ true) → AppendsFront a old new text
    → AppendsFront b old new text
front_on a b old new text less h = (h.0, λ is. h.1 (less is))

pub never : (a : Bool) → false ≡ true → a ≡ true
never a is = absurd (false≢true is)

pub reported_on : (a b : Bool) (es : List NamedEvent) (old new : Option (List ℕ)) → (b ≡ true → a ≡ true) → IsReported a es old new
    → IsReported b es old new
reported_on a b es old new less h = (h.0, h.1, front_on a b old new _ less h.2)

-- ---- what is told after events

module _ (every : Option Every) (a b : Bool) (less : b ≡ true → a ≡ true) where
  if_on : (told : Bool) (es : List NamedEvent) (old new : Option (List ℕ)) → IsReportedIf told a es old new → IsReportedIf told b es old new
  if_on true es old new h = reported_on a b es old new less h
  if_on false es old new h = h

  pub tells_on : (es : List NamedEvent) (old new : Option (List ℕ)) → Tells every a es old new → Tells every b es old new
  tells_on [] old new h = h
  tells_on (e ∷ es) old new h =
      (h.0, tells_on es old h.0 h.1, (h.2.0, h.2.1, if_on h.2.0 (e ∷ es) h.0 new h.2.2))

  pub tells_added : (other : Option Every) (is : Bool) (es fs : List NamedEvent) (old mid new : Option (List ℕ)) → other ≡ every
      → Tells every a es old mid → TellsAdded other b is es fs mid new → Tells every b fs old new
  tells_added other true es fs old mid new same h t =
      let added = t.0.1 in
      subst (λ gs. Tells every b gs old new) (sym added) (
        mid,
        tells_on es old mid h,
        subst (λ o. TellsAfter o b (t.0.0 ∷ es) mid new) same (subst (λ gs. TellsAfter other b gs mid new) added t.1),
      )
  tells_added other false es fs old mid new same h t =
      subst (λ gs. Tells every b gs old new) (sym t.0) (subst (λ x. Tells every b es old x) (sym t.1) (tells_on es old mid h))

pub tells_kept : (every : Option Every) (a b : Bool) (es fs : List NamedEvent) (old mid new : Option (List ℕ)) → (b ≡ true → a ≡ true)
    → fs ≡ es → new ≡ mid → Tells every a es old mid → Tells every b fs old new
tells_kept every a b es fs old mid new less same quiet h =
    subst (λ gs. Tells every b gs old new) (sym same)
    (subst (λ x. Tells every b es old x) (sym quiet) (tells_on every a b less es old mid h))

pub tells_nothing : (every : Option Every) (whole : Bool) (j : Judged) (a : Option (List ℕ)) → j ≡ nothing → Tells every whole j.events a a
tells_nothing every whole j a is = subst (λ k. Tells every whole k.events a a) (sym is) refl

-- ---- an event that had to wait

event_in : NamedEvent → Stop → NamedEvent
event_in e (Line n NoHeader) = e
event_in e (Line n NoEvent) = e
event_in e (Line n TooLong) = e
event_in e (Line n (Ticket t)) = e
event_in e (Line n (Event f w)) = f
event_in e (Failed f) = e

why_in : Why → Stop → Why
why_in w (Line n NoHeader) = w
why_in w (Line n NoEvent) = w
why_in w (Line n TooLong) = w
why_in w (Line n (Ticket t)) = w
why_in w (Line n (Event f v)) = v
why_in w (Failed f) = w

pub owed_of : (j : Judged) (n : ℕ) (e : NamedEvent) (w : Why) (o : Owing)
    → (w ≡ HadToWait → IsOwingTo (standing e.phaser j.events) e.event o) → IsOwed j (Line n (Event e w)) o
unfolding event_in why_in
owed_of j n e w o h m f is =
    subst (λ (x : NamedEvent). IsOwingTo (standing x.phaser j.events) x.event o) (ap (event_in e) is) (h (ap (why_in w) is))

-- ---- a failure

-- a failure to write a report is one of the job
pub of_report : (f : Failure) → IsOfReport f → IsOfFailing f
of_report f (inl write) = inr write
of_report f (inr memory) = inl (inr memory)

-- a failure other than a refusal of a line is reported by its own line
pub own_line : (f : Failure) (e : Ending) (old new : Option (List ℕ)) → IsOfFailing f → e.status ≡ status_of f
    → Reports (λ g. (g ≡ f) ⊎ (g ≡ Refused Memory)) e old new → (all : Bool) × AppendsFront all old new (failure_line f)
own_line f e old new is own t = (e.reported, at t.2 is)
  where
    said : (g : Failure) → t.0 ≡ g → AppendsFront e.reported old new (failure_line g)
    said g same = subst (λ h. AppendsFront e.reported old new (failure_line h)) same t.3

    fault : t.0 ≡ Refused Memory → status_of f ≡ statuses.Fault → ⊥
    fault memory at_fault =
        let wrong : statuses.Refused ≡ statuses.Fault = sym (ap status_of memory) ∙ t.1 ∙ own ∙ at_fault in absurd cc

    at : (t.0 ≡ f) ⊎ (t.0 ≡ Refused Memory) → IsOfFailing f → AppendsFront e.reported old new (failure_line f)
    at (inl same) is = said f same
    at (inr memory) (inl (inl read)) = absurd (fault memory (ap status_of read))
    at (inr memory) (inl (inr lacks)) = said f (memory ∙ sym lacks)
    at (inr memory) (inr write) = absurd (fault memory (ap status_of write))
