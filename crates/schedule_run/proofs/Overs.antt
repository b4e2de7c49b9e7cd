-- A run whose root has ended is a whole one: its trace is explained.
use Rattle.std.proofs.Common.{ℕ, ◌≡◌, Bool, true, false, ◌&&◌, ◌==◌, not, List, [], ◌∷◌, reverse, Result, Ok, Err, IfOk, sym, subst, ap, ◌∙◌, inl, inr}
use Rattle.std.proofs.lemmas.Bool.{and_parts, and_from, or_cases, or_left, or_right, eqb-true, true≢false, false≢true}
use Rattle.phase_modes.specs.declared.limits.Limits.{Limits}
use Rattle.phase_modes.specs.declared.refusal.Refusal.{Refusal}
use Rattle.phase_modes.specs.declared.refusal.Refusal.TheVariants.{NotNow}
use Rattle.phase_modes.specs.Refusal.{first_refusal}
use Rattle.finish_core.specs.Finish.{is_open, is_spawned, has_ended}
use Rattle.finish_core.specs.Replies.{done_unless}
use Rattle.finish_core.specs.declared.event.FinishEvent.TheVariants.{Opened, Spawned, Ended, Shut as Shutting}
use Rattle.job_script.specs.Program.{Program}
use Rattle.world_model.specs.declared.event.WorldEvent.{WorldEvent}
use Rattle.world_model.specs.declared.event.WorldEvent.TheVariants as world
use Rattle.world_model.specs.PartReplies.{finish_returned}
use Rattle.world_model.specs.Parts.{finish_past}
use Rattle.world_model.specs.Replies.{is_made, is_accepted, is_legal_world}
use Rattle.world_model.specs.Report.{Report, report_of}
use Rattle.world_records.specs.StandsFor.{StandsFor}
use Rattle.world_model.specs.Tasks.{ends, is_ended}
use Rattle.world_model.proofs.EndedInside.{root_unspawned}
use Rattle.world_model.proofs.MadeMeans.{last_accepted, part_made}
use Rattle.trace_model.specs.declared.event.TracedEvent.{TracedEvent}
use Rattle.trace_model.specs.declared.event.TracedEvent.TheVariants.{Phaser, Finish, Begin, Refuse, Fail}
use Rattle.trace_model.specs.Run.{Entry}
use Rattle.trace_model.specs.Explained.{event_of, past, all_follow, ends_run, is_over, is_explained}
use Rattle.trace_walk.specs.Follows.{follows}
use Rattle.trace_walk.specs.Laws.{AllGiveUp}
use Rattle.trace_walk.specs.Picks.{run_within}
use Rattle.trace_walk.proofs.Failures.{runs_give_up}
use Rattle.trace_walk.proofs.Follow.{runs-follow}
use Rattle.schedule_run.specs.declared.runner.Runner.{Runner}
use Rattle.schedule_run.specs.inner.Records.{IsTraced}
use Rattle.schedule_run.specs.inner.Running.{RunStands}
use Rattle.schedule_run.proofs.Picking.{legal_of}

-- the root ends with the shut of finish 0 alone
root_never_ended : (l : Limits) (w : List WorldEvent) (f : ℕ) → is_legal_world l w ≡ true → is_accepted l w (world.Finish f (Ended 0)) ≡ true → ⊥
root_never_ended l w f k a = by (is_open (finish_past f w)) (is_spawned 0 (finish_past f w)) (has_ended 0 (finish_past f w)) (root_unspawned l w k f) (part_made l w (world.Finish f (Ended 0)) a).1
  where
    by : (a b c : Bool) → b ≡ false → is_made (finish_returned (done_unless (first_refusal ((NotNow, a) ∷ (NotNow, b) ∷ (NotNow, not c) ∷ [])))) ≡ true → ⊥
    by true true c h k = absurd (true≢false h)
    by true false c h k = false≢true k
    by false b c h k = false≢true k

by_event : (l : Limits) (w : List WorldEvent) (e : TracedEvent) → is_legal_world l w ≡ true → is_accepted l w (event_of e) ≡ true → ends 0 (event_of e) ≡ true → ends_run e ≡ true
by_event l w (Finish f (Ended u)) k a h = absurd (root_never_ended l w f k (subst (λ v. is_accepted l w (world.Finish f (Ended v)) ≡ true) (eqb-true u 0 h) a))
by_event l w (Finish f Shutting) k a h = (and_parts (f == 0) true h).0
by_event l w (Finish f (Opened u)) k a h = absurd (false≢true h)
by_event l w (Finish f (Spawned u)) k a h = absurd (false≢true h)
by_event l w (Phaser n s) k a h = absurd (false≢true h)
by_event l w (Begin t b) k a h = absurd (false≢true h)
by_event l w (Refuse t b n) k a h = absurd (false≢true h)
by_event l w (Fail t n) k a h = absurd (false≢true h)

over : (l : Limits) (es : List Entry) → is_legal_world l (past es) ≡ true → is_ended 0 (past es) ≡ true → is_over es ≡ true
over l [] k h = absurd (false≢true h)
over l (e ∷ es) k h =
    let a = last_accepted l (event_of e.1) (past es) k in
    elim (or_cases (ends 0 (event_of e.1)) (is_ended 0 (past es)) h) [
      | inl now ↦ or_left (ends_run e.1) (is_over es) (by_event l (past es) e.1 a.1 a.0 now)
      | inr before ↦ or_right (ends_run e.1) (is_over es) (over l es a.1 before)
    ]

-- the trace of a record whose root has ended
pub whole : (l : Limits) (w : List WorldEvent) (es : List Entry) → IsTraced l w es → is_legal_world l w ≡ true → is_ended 0 w ≡ true → (all_follow l es && is_over es) ≡ true
whole l w es t k h =
    and_from (all_follow l es) (is_over es) t.follow
    (over l es (subst (λ v. is_legal_world l v ≡ true) (sym t.is) k) (subst (λ v. is_ended 0 v ≡ true) (sym t.is) h))

-- ---- what is said of a run's trace

pub said_limits : (p : Program) (w : List WorldEvent) (r : Runner) → RunStands p w r → r.recorded.trace.limits ≡ p.limits
said_limits p w r st = st.recorded.kept

pub said_explained : (p : Program) (w : List WorldEvent) (r : Runner) → RunStands p w r → is_ended 0 w ≡ true → is_explained r.recorded.trace ≡ true
said_explained p w r st h =
    subst (λ (l : Limits). (all_follow l (reverse r.recorded.trace.events) && is_over (reverse r.recorded.trace.events)) ≡ true) (sym st.recorded.kept)
    (whole p.limits w (reverse r.recorded.trace.events) st.recorded.traced (legal_of p w r st) h)

pub said_events : (p : Program) (w : List WorldEvent) (r : Runner) → RunStands p w r → past (reverse r.recorded.trace.events) ≡ w
said_events p w r st = st.recorded.traced.is

pub said_follows : (p : Program) (picks : List ℕ) (n : ℕ) (r : Runner) → RunStands p (run_within n p picks) r → follows p (past (reverse r.recorded.trace.events)) ≡ true
said_follows p picks n r st = subst (λ (w : List WorldEvent). follows p w ≡ true) (sym st.recorded.traced.is) (runs-follow p picks n)

pub said_give_up : (p : Program) (picks : List ℕ) (n : ℕ) (r : Runner) → RunStands p (run_within n p picks) r → AllGiveUp p.limits (past (reverse r.recorded.trace.events))
said_give_up p picks n r st = subst (λ (w : List WorldEvent). AllGiveUp p.limits w) (sym st.recorded.traced.is) (runs_give_up p picks n)

pub said_report : (p : Program) (w : List WorldEvent) (r : Runner) (o : Result Report Refusal) (x : Report) → RunStands p w r
    → ((v : List WorldEvent) → StandsFor v r.recorded.world → IfOk o (λ y. y ≡ report_of r.recorded.world.limits v)) → o ≡ Ok x → x ≡ report_of p.limits (past (reverse r.recorded.trace.events))
said_report p w r o x st known is =
    by o x is (known w st.recorded.stands)
    ∙ (ap (λ (l : Limits). report_of l w) st.recorded.limits ∙ ap (λ (v : List WorldEvent). report_of p.limits v) (sym st.recorded.traced.is))
  where
    by : (o : Result Report Refusal) (x : Report) → o ≡ Ok x → IfOk o (λ y. y ≡ report_of r.recorded.world.limits w) → x ≡ report_of r.recorded.world.limits w
    by (Ok y) x is h = subst (λ (z : Report). z ≡ report_of r.recorded.world.limits w) (got y x is) h
      where
        got : (a b : Report) → ◌≡◌ {A = Result Report Refusal} (Ok a) (Ok b) → a ≡ b
        got a b h = cc
    by (Err e) x is h = absurd cc
