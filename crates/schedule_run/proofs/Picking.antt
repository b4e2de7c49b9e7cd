-- What a pick comes to, by the reply to what is asked for; and what is kept then.
use Rattle.std.proofs.Common.{ℕ, ◌≡◌, Bool, true, false, ◌&&◌, not, List, [], ◌∷◌, length, Option, Some, None, Result, Ok, Err, refl, sym, subst, ap, ◌∙◌, inl, inr, if◌then◌else◌, IfOk}
use Rattle.std.proofs.lemmas.Bool.{false≢true, true≢false}
use Rattle.phase_modes.specs.Lists.{is_empty}
use Rattle.phase_modes.specs.declared.limits.Limits.{Limits}
use Rattle.phase_modes.specs.declared.refusal.Refusal.{Refusal}
use Rattle.phase_modes.specs.Refusal.{number_of}
use Rattle.phase_modes.specs.declared.phased.Pair.{Pair}
use Rattle.job_script.specs.declared.act.Act as tasks
use Rattle.job_script.specs.Program.{Program}
use Rattle.job_script.specs.Steps.{Script, next_for}
use Rattle.world_model.specs.declared.condition.Condition.{Condition}
use Rattle.world_model.specs.declared.condition.Condition.TheVariants as conditions
use Rattle.world_model.specs.declared.event.Begun.TheVariants.{Async, Signal, Wait, Next, NextSingle, Shut}
use Rattle.world_model.specs.declared.event.Step.TheVariants.{Sig}
use Rattle.world_model.specs.declared.event.Tried.{Tried}
use Rattle.world_model.specs.declared.event.Tried.TheVariants.{Begun as Beginning, New, Open, Send as Sending, Look as Looking}
use Rattle.world_model.specs.declared.event.WorldEvent.{WorldEvent}
use Rattle.world_model.specs.declared.event.WorldEvent.TheVariants.{Phaser, Begin, Refuse, Fail}
use Rattle.world_model.specs.declared.reply.Reply.{Reply}
use Rattle.world_model.specs.declared.reply.Reply.TheVariants.{NotYet}
use Rattle.world_model.specs.Actors.{actor}
use Rattle.world_model.specs.Due.{is_idle, due, next_event}
use Rattle.world_model.specs.Continuing.{next_done}
use Rattle.world_model.specs.Drawing.{own_pairs}
use Rattle.world_model.specs.GivingUp.{done_where}
use Rattle.world_model.specs.Replies.{after, is_made, is_accepted, is_legal_world, reply}
use Rattle.world_model.specs.TaskConditions.{last_entry, condition_in_turn, condition_in, condition_by, condition_of}
use Rattle.world_model.specs.Tasks.{is_born, is_ended}
use Rattle.world_model.proofs.NextsExpected.{nexts_are_expected}
use Rattle.trace_walk.specs.Picks.{Asked, unused, event_of, asked, reported_or, made, pick}
use Rattle.trace_walk.specs.Scripts.{Numbers, meanings, next_act, tried}
use Rattle.trace_walk.proofs.Begins.{Goes, is_reported, may_report, event_reply, next_goes}
use Rattle.trace_walk.proofs.GoesOn.{asked_idle, asked_busy, next_replied}
use Rattle.trace_walk.proofs.Rounds.{gapless_pick}
use Rattle.trace_walk.specs.Given.{tried_of}
use Rattle.schedule_run.specs.declared.bodies.Bodies.{Bodies}
use Rattle.schedule_run.specs.declared.record.Outcome.TheVariants.{Made, Waits, Refused}
use Rattle.schedule_run.specs.declared.runner.Runner.{Runner}
use Rattle.schedule_run.specs.inner.Bodies.{BodiesStand, IsAsked, seat_at}
use Rattle.schedule_run.specs.inner.Records.{outcome_of}
use Rattle.schedule_run.specs.inner.Running.{Kept, RunStands}
use Rattle.trace_walk.proofs.Giving.{given-is-tried}
use Rattle.schedule_run.proofs.Seats.{quiet_stands, refused_stands, next_stands}

-- ---- the reply, by its outcome

pub is_refused : (r : Result Reply Refusal) (x : Refusal) → Refused x ≡ outcome_of r → r ≡ Err x
is_refused (Err y) x h = cc
is_refused (Ok NotYet) x h = absurd cc
is_refused (Ok y) x h = absurd cc

pub is_kept : (r : Result Reply Refusal) → Made ≡ outcome_of r → is_made r ≡ true
is_kept (Err y) h = absurd cc
is_kept (Ok NotYet) h = absurd cc
is_kept (Ok y) h = refl

pub is_unmade : (r : Result Reply Refusal) → (Made ≡ outcome_of r → ⊥) → is_made r ≡ false
is_unmade (Err y) h = refl
is_unmade (Ok NotYet) h = refl
is_unmade (Ok y) h = absurd (h refl)

pub is_waiting : (r : Result Reply Refusal) → Waits ≡ outcome_of r → r ≡ Ok NotYet
is_waiting (Err y) h = absurd cc
is_waiting (Ok NotYet) h = refl
is_waiting (Ok y) h = absurd cc

-- the act that was tried is the task's next one
pub next_tried : (p : Program) (w : List WorldEvent) (t : ℕ) (own : List Pair) (new : Numbers) (act : tasks.Act Script) (a : Tried) → a ≡ tried_of own new act → own ≡ own_pairs t w → act ≡ next_for (meanings p w t) (next_act p w t) → a ≡ tried p w t new
next_tried p w t own new act a is own_is act_is = is ∙ (rw (own_is, act_is) refl ∙ given-is-tried p w t new)

-- ---- the history after a pick, by the reply

module _ (p : Program) (w : List WorldEvent) (t : ℕ) (a : Asked) (asks : asked p w t ≡ Some a) where
  as_asked : pick p w t ≡ reported_or p.limits w a (reply p.limits w a.event)
  as_asked = ap (λ o. made p.limits w o) asks

  pub picked_made : is_made (reply p.limits w a.event) ≡ true → pick p w t ≡ a.event ∷ w
  picked_made h = as_asked ∙ by (reply p.limits w a.event) h
    where
      by : (r : Result Reply Refusal) → is_made r ≡ true → reported_or p.limits w a r ≡ a.event ∷ w
      by (Ok x) h = rw h refl
      by (Err x) h = absurd (false≢true h)

  pub picked_refused : (x : Refusal) → reply p.limits w a.event ≡ Err x → pick p w t ≡ after w (a.reporting (number_of x)) (reply p.limits w (a.reporting (number_of x)))
  picked_refused x h = as_asked ∙ ap (λ r. reported_or p.limits w a r) h

  pub picked_waits : reply p.limits w a.event ≡ Ok NotYet → pick p w t ≡ w
  picked_waits h = as_asked ∙ ap (λ r. reported_or p.limits w a r) h

-- who isn't under way is left
pub picked_none : (p : Program) (w : List WorldEvent) (t : ℕ) → is_idle t w ≡ false → (is_born t w && not (is_ended t w)) ≡ false → pick p w t ≡ w
picked_none p w t h k = rw (h, k) refl

-- ---- what is kept

-- of the bodies and the record
pub run_stands : (p : Program) (w v : List WorldEvent) (t : ℕ) (old new : Runner) → RunStands p w old → v ≡ pick p w t
    → Kept p.limits v new.recorded new.notes → BodiesStand p v new.bodies.seats.items → length new.bodies.seats.items ≡ length old.bodies.seats.items → RunStands p (pick p w t) new
run_stands p w v t old new st is kept bodies places = record {
  fit = st.fit;
  recorded = (subst (λ (u : List WorldEvent). Kept p.limits u new.recorded new.notes) is kept).recorded;
  noted = (subst (λ (u : List WorldEvent). Kept p.limits u new.recorded new.notes) is kept).noted;
  bodies = subst (λ (u : List WorldEvent). BodiesStand p u new.bodies.seats.items) is bodies;
  places = places ∙ st.places;
  gapless = gapless_pick p w t st.gapless;
}

-- its history is legal
pub legal_of : (p : Program) (w : List WorldEvent) (r : Runner) → RunStands p w r → is_legal_world p.limits w ≡ true
legal_of p w r st = subst (λ (l : Limits). is_legal_world l w ≡ true) st.recorded.limits st.recorded.stands.legal

-- of its record and its notes
pub kept_of : (p : Program) (w : List WorldEvent) (r : Runner) → RunStands p w r → Kept p.limits w r.recorded r.notes
kept_of p w r st = record { recorded = st.recorded; noted = st.noted }

-- where nothing changes
pub run_stays : (p : Program) (w : List WorldEvent) (t : ℕ) (r : Runner) → RunStands p w r → pick p w t ≡ w → RunStands p (pick p w t) r
run_stays p w t r st is = subst (λ (u : List WorldEvent). RunStands p u r) (sym is) st

-- the event of an act is of the task that makes it
pub act_is_own : (w : List WorldEvent) (t : ℕ) (a : Tried) → actor w (event_of t a) ≡ t
act_is_own w t (New n m terms) = refl
act_is_own w t (Open f) = refl
act_is_own w t (Sending n a v) = refl
act_is_own w t (Looking n a) = refl
act_is_own w t (Beginning b) = refl

-- what a task asks for that begins an act
abbrev pub beginning : ℕ → Tried → Asked
beginning t a = record { event = event_of t a; reporting = λ n. Refuse t a n }

-- what one asks for that goes on
abbrev pub going : ℕ → WorldEvent → Asked
going t e = record { event = e; reporting = λ n. Fail t n }

module _ (p : Program) (w : List WorldEvent) (t : ℕ) (old : Runner) (st : RunStands p w old) where
  module _ (idle : is_idle t w ≡ true) (a : Tried) (is : a ≡ tried p w t (unused p.limits w)) where
    asks : asked p w t ≡ Some (beginning t a)
    asks = subst (λ (x : Tried). asked p w t ≡ Some (beginning t x)) (sym is) (asked_idle p w t idle)

    goes : Goes (reply p.limits w (event_of t a))
    goes = subst (λ (x : Tried). Goes (reply p.limits w (event_of t x))) (sym is)
        (subst (λ (r : Result Reply Refusal). Goes r) (sym (event_reply p.limits w t (tried p w t (unused p.limits w))))
        (next_goes p w t st.fit (subst (λ (l : Limits). is_legal_world l w ≡ true) st.recorded.limits st.recorded.stands.legal) idle))

    -- it is made
    pub begun_accepted : Made ≡ outcome_of (reply p.limits w (event_of t a)) → is_accepted p.limits w (event_of t (tried p w t (unused p.limits w))) ≡ true
    begun_accepted h = subst (λ (x : Tried). is_accepted p.limits w (event_of t x) ≡ true) is (is_kept (reply p.limits w (event_of t a)) h)

    pub begun_made : (new : Runner) → Made ≡ outcome_of (reply p.limits w (event_of t a)) → Kept p.limits (after w (event_of t a) (reply p.limits w (event_of t a))) new.recorded new.notes
        → BodiesStand p (event_of t (tried p w t (unused p.limits w)) ∷ w) new.bodies.seats.items → length new.bodies.seats.items ≡ length old.bodies.seats.items → RunStands p (pick p w t) new
    begun_made new h rec bodies places =
        let kept = is_kept (reply p.limits w (event_of t a)) h in
        run_stands p w (event_of t a ∷ w) t old new st (sym (picked_made p w t (beginning t a) asks kept))
        (subst (λ b. Kept p.limits (if b then event_of t a ∷ w else w) new.recorded new.notes) kept rec)
        (subst (λ (x : Tried). BodiesStand p (event_of t x ∷ w) new.bodies.seats.items) (sym is) bodies) places

    -- it never has to wait
    pub begun_waits_not : Waits ≡ outcome_of (reply p.limits w (event_of t a)) → ⊥
    begun_waits_not h = by (reply p.limits w (event_of t a)) (is_waiting (reply p.limits w (event_of t a)) h) goes
      where
        by : (r : Result Reply Refusal) → r ≡ Ok NotYet → Goes r → ⊥
        by r same (inl done) = true≢false (sym done ∙ ap (λ z. is_made z) same)
        by r same (inr (x, refused, known)) = absurd cc

    -- it is refused, and its refusal reported
    pub begun_refused : (new : Runner) (x : Refusal) (v : List WorldEvent) → Refused x ≡ outcome_of (reply p.limits w (event_of t a)) → v ≡ after w (event_of t a) (reply p.limits w (event_of t a))
        → Kept p.limits (after v (Refuse t a (number_of x)) (reply p.limits v (Refuse t a (number_of x)))) new.recorded new.notes
        → IsAsked p w t new.bodies.seats.items → length new.bodies.seats.items ≡ length old.bodies.seats.items → RunStands p (pick p w t) new
    begun_refused new x v h same rec given places =
        let refused = is_refused (reply p.limits w (event_of t a)) x h in
        let left : v ≡ w = same ∙ ap (λ (r : Result Reply Refusal). after w (event_of t a) r) refused in
        let reporting = Refuse t a (number_of x) in
        let known : reply p.limits w reporting ≡ done_where true =
        ap (λ b. done_where b) (may_report p.limits w t a x (sym (event_reply p.limits w t a) ∙ refused) (is_reporting (reply p.limits w (event_of t a)) x refused goes)) in
        let now : after w reporting (reply p.limits w reporting) ≡ reporting ∷ w = ap (λ (r : Result Reply Refusal). after w reporting r) known in
        run_stands p w (reporting ∷ w) t old new st (sym (picked_refused p w t (beginning t a) asks x refused ∙ now))
        (subst (λ (u : List WorldEvent). Kept p.limits u new.recorded new.notes) (ap (λ (u : List WorldEvent). after u reporting (reply p.limits u reporting)) left ∙ now) rec)
        (refused_stands p w t (seat_at new.bodies.seats.items) a (number_of x) given) places
      where
        is_reporting : (r : Result Reply Refusal) (x : Refusal) → r ≡ Err x → Goes r → is_reported x ≡ true
        is_reporting r x same (inl done) = absurd (true≢false (sym done ∙ ap (λ z. is_made z) same))
        is_reporting r x same (inr (y, refused, known)) = subst (λ (z : Refusal). is_reported z ≡ true) (got y x (sym refused ∙ same)) known
          where
            got : (a b : Refusal) → ◌≡◌ {A = Result Reply Refusal} (Err a) (Err b) → a ≡ b
            got a b h = cc

  module _ (busy : is_idle t w ≡ false) (born : is_born t w ≡ true) (under : is_ended t w ≡ false) (e : WorldEvent) (next : next_event p.limits t w ≡ Some e) where
    on : asked p w t ≡ Some (going t e)
    on = asked_busy p w t e busy born under next

    bodies_after : (r : Result Reply Refusal) → BodiesStand p (after w e r) old.bodies.seats.items
    bodies_after r = by (is_made r)
      where
        by : (b : Bool) → BodiesStand p (if b then e ∷ w else w) old.bodies.seats.items
        by true = next_stands p p.limits w t (seat_at old.bodies.seats.items) e next st.bodies
        by false = st.bodies

    -- it is the task's own, and has the reply of what continues its act
    pub next_is_own : actor w e ≡ t
    next_is_own = (nexts_are_expected p.limits w (legal_of p w old st) t e under next).0

    pub next_waits : Waits ≡ outcome_of (reply p.limits w e) → next_done p.limits w e ≡ Ok NotYet
    next_waits h = sym (next_replied p.limits w t e (legal_of p w old st) under next) ∙ is_waiting (reply p.limits w e) h

    -- it is made, or has to wait
    pub gone_on : (new : Runner) → ((x : Refusal) → Refused x ≡ outcome_of (reply p.limits w e) → ⊥) → Kept p.limits (after w e (reply p.limits w e)) new.recorded new.notes
        → new.bodies ≡ old.bodies → RunStands p (pick p w t) new
    gone_on new other rec same =
        run_stands p w (after w e (reply p.limits w e)) t old new st (sym (as_asked p w t (going t e) on ∙ by (reply p.limits w e) other)) rec
        (subst (λ (b : Bodies). BodiesStand p (after w e (reply p.limits w e)) b.seats.items) (sym same) (bodies_after (reply p.limits w e)))
        (ap (λ (b : Bodies). length b.seats.items) same)
      where
        by : (r : Result Reply Refusal) → ((x : Refusal) → Refused x ≡ outcome_of r → ⊥) → reported_or p.limits w (going t e) r ≡ after w e r
        by (Ok x) h = refl
        by (Err x) h = absurd (h x refl)

    -- it is given up
    pub given_up : (new : Runner) (x : Refusal) (v : List WorldEvent) → Refused x ≡ outcome_of (reply p.limits w e) → v ≡ after w e (reply p.limits w e)
        → Kept p.limits (after v (Fail t (number_of x)) (reply p.limits v (Fail t (number_of x)))) new.recorded new.notes
        → new.bodies ≡ old.bodies → RunStands p (pick p w t) new
    given_up new x v h same rec bodies =
        let refused = is_refused (reply p.limits w e) x h in
        let left : v ≡ w = same ∙ ap (λ (r : Result Reply Refusal). after w e r) refused in
        let failing = Fail t (number_of x) in
        run_stands p w (after w failing (reply p.limits w failing)) t old new st (sym (picked_refused p w t (going t e) on x refused))
        (subst (λ (u : List WorldEvent). Kept p.limits (after u failing (reply p.limits u failing)) new.recorded new.notes) left rec)
        (subst (λ (b : Bodies). BodiesStand p (after w failing (reply p.limits w failing)) b.seats.items) (sym bodies) (by (is_made (reply p.limits w failing))))
        (ap (λ (b : Bodies). length b.seats.items) bodies)
      where
        by : (b : Bool) → BodiesStand p (if b then Fail t (number_of x) ∷ w else w) old.bodies.seats.items
        by true = quiet_stands p w (seat_at old.bodies.seats.items) (Fail t (number_of x)) st.bodies refl
        by false = st.bodies

    -- there is such an event
    pub none_due : next_event p.limits t w ≡ None → ⊥
    none_due h = some_none (sym next ∙ h)
      where
        some_none : Some e ≡ None → ⊥
        some_none h = absurd cc

-- ---- the condition of a task

-- what it says of the task
abbrev pub Describes : Option Condition → ℕ → List WorldEvent → Type 0
Describes None t w = (is_idle t w ≡ false) × ((is_born t w && not (is_ended t w)) ≡ false)
Describes (Some conditions.Idle) t w = is_idle t w ≡ true
Describes (Some conditions.Ended) t w = (is_idle t w ≡ false) × ((is_born t w && not (is_ended t w)) ≡ false)
Describes (Some _) t w = (is_idle t w ≡ false) × (is_born t w ≡ true) × (is_ended t w ≡ false)

pub and_false : (b : Bool) → (b && false) ≡ false
and_false true = refl
and_false false = refl

pub and_none : (b c : Bool) → ((b && false) && c) ≡ false
and_none true c = refl
and_none false c = refl

-- a task in the middle of an act isn't said to be idle, nor to have ended
in_turn : (d : WorldEvent) (t : ℕ) (w : List WorldEvent) → is_idle t w ≡ false → is_born t w ≡ true → is_ended t w ≡ false → Describes (Some (condition_in_turn d)) t w
in_turn (Phaser n (Sig u x)) t w i b g = (i, b, g)
in_turn d t w i b g = (i, b, g)

in_act : (o : Option WorldEvent) (d : WorldEvent) (t : ℕ) (w : List WorldEvent) → is_idle t w ≡ false → is_born t w ≡ true → is_ended t w ≡ false → Describes (Some (condition_in o d)) t w
in_act (Some (Begin u (Async c pairs))) d t w i b g = (i, b, g)
in_act (Some (Begin u Signal)) d t w i b g = (i, b, g)
in_act (Some (Begin u Wait)) d t w i b g = in_turn d t w i b g
in_act (Some (Begin u Next)) d t w i b g = in_turn d t w i b g
in_act (Some (Begin u (NextSingle n))) d t w i b g = in_turn d t w i b g
in_act (Some (Begin u Shut)) d t w i b g = (i, b, g)
in_act o d t w i b g = (i, b, g)

pub condition_describes : (t : ℕ) (w : List WorldEvent) → Describes (condition_of t w) t w
condition_describes t w = by (is_ended t w) refl (is_born t w) refl (due t w) refl
  where
    by : (ended : Bool) → is_ended t w ≡ ended → (born : Bool) → is_born t w ≡ born → (ds : List WorldEvent) → due t w ≡ ds
        → Describes (if ended then Some conditions.Ended else (if born then Some (condition_by (last_entry t w) ds) else None)) t w
    by true e born b ds h = (rw e (and_none (is_born t w) (is_empty (due t w))), rw e (and_false (is_born t w)))
    by false e true b [] h = rw (e, b, h) refl
    by false e true b (d ∷ ds) h = in_act (last_entry t w) d t w (rw (e, b, h) refl) b e
    by false e false b ds h = (rw b refl, rw b refl)

-- what a world says comes next, under its own limits
pub next_due : (p : Program) (w : List WorldEvent) (t : ℕ) (r : Runner) (o : Option WorldEvent) → RunStands p w r → o ≡ next_event r.recorded.world.limits t w → next_event p.limits t w ≡ o
next_due p w t r o st is = sym (subst (λ (l : Limits). o ≡ next_event l t w) st.recorded.limits is)

-- ---- a pick, by the task's condition

pub answer_describes : (t : ℕ) (w : List WorldEvent) (o : Option Condition) → o ≡ condition_of t w → Describes o t w
answer_describes t w o is = subst (λ (x : Option Condition). Describes x t w) (sym is) (condition_describes t w)

-- one that is neither idle nor ended is in the middle of an act
pub describes_busy : (c : Condition) (t : ℕ) (w : List WorldEvent) → Describes (Some c) t w → (c ≡ conditions.Idle → ⊥) → (c ≡ conditions.Ended → ⊥) → (is_idle t w ≡ false) × (is_born t w ≡ true) × (is_ended t w ≡ false)
describes_busy conditions.Idle t w h i e = absurd (i refl)
describes_busy conditions.Ended t w h i e = absurd (e refl)
describes_busy conditions.Signalling t w h i e = h
describes_busy conditions.Turning t w h i e = h
describes_busy conditions.Spawning t w h i e = h
describes_busy conditions.Shutting t w h i e = h
describes_busy conditions.Ending t w h i e = h

-- what follows where a call wasn't refused
pub where_ok : {P Q : Type 0} (r : Result (Unit {0}) Refusal) → (P → Q) → IfOk r (λ u. P) → IfOk r (λ u. Q)
where_ok (Ok u) f h = f h
where_ok (Err x) f h = tt
