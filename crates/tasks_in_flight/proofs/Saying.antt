-- What a body in flight says, from its task's start to the run's end.
use Rattle.std.proofs.Common.{ℕ, ◌≡◌, ◌<◌, List, length, Option, Some, None, Result, Ok, Err, inr, refl, sym, ap, subst, ◌∙◌, arith, [], ◌∷◌, ◌++◌, map, append-nil}
use Rattle.std.specs.Prelude.{slice_get}
use Rattle.std.proofs.lemmas.List.{map-append}
use Rattle.std.proofs.Math.Logic.{∥∥₁_map, ∥∥₁_map₂}
use Rattle.std.proofs.Math.Path.{fun_ext}
use Rattle.phase_modes.specs.declared.limits.Limits.{Limits}
use Rattle.phase_modes.specs.declared.phased.Pair.{Pair}
use Rattle.phase_modes.specs.declared.refusal.Refusal.{Refusal}
use Rattle.phase_model.specs.Rules.{Story}
use Rattle.world_model.specs.declared.event.Begun.{Begun}
use Rattle.world_model.specs.declared.event.Begun.TheVariants.{Async, End}
use Rattle.trace_model.specs.declared.event.TracedEvent.{TracedEvent}
use Rattle.trace_model.specs.declared.event.TracedEvent.TheVariants.{Begin}
use Rattle.trace_model.specs.Projections.{log, AreOf}
use Rattle.trace_model.specs.Run.{Entry}
use Rattle.trace_model.specs.TaskLog.{TaskLog}
use Rattle.job_script.specs.declared.act.Answer.{Answer}
use Rattle.job_script.specs.declared.act.Answer.TheVariants.{Started}
use Rattle.table_receipts.specs.Logs.{Sight}
use Rattle.told_history.specs.Stories.{GoesOn}
use Rattle.table_receipts.specs.Parts.{AreLogged}
use Rattle.table_receipts.specs.Seen.{story_at}
use Rattle.told_history.proofs.Goes.{goes_itself, goes_far}
use Rattle.table_receipts.proofs.Logged.{told_at_each}
use Rattle.task_standing.specs.declared.held.Held.{Held}
use Rattle.task_standing.specs.declared.plan.Plan.{Plan}
use Rattle.task_standing.specs.declared.plan.Plan.TheVariants.{Idle, Signalling, Turning, Spawning, Shutting, Ending}
use Rattle.task_standing.specs.Known.{Known}
use Rattle.task_standing.specs.Noted.{plan_of}
use Rattle.task_standing.specs.Standing.{begun}
use Rattle.tasks_in_flight.specs.Heard.{Asked, Seen, nothing, spawn, at_start, ends, IsHeard, IsAnswerTo}
use Rattle.tasks_in_flight.specs.Noted.{IsNoted}
use Rattle.tasks_in_flight.specs.Said.{Saying, IsSaid, IsSaidOfRoot}
use Rattle.tasks_in_flight.specs.inner.Ready.{SeesMore, Says, IsPending, IsReady, IsAskedFor, HasAskedFor, HasAskedToSpawn, HasSaid, answer_of, Tells, IsTold, seen_by, seen_at_end}
use Rattle.tasks_in_flight.proofs.OnTheWay.{pending_begun, pending_newborn, sees_itself, sees_of, sees_far}

-- a log that was added to, or refused to be, has no fewer entries
pub log_grows : (entry : Entry) (old new : TaskLog) (result : Result (Unit {0}) Refusal) → IsNoted entry old new result
    → (more : List TracedEvent) × (map (λ (e : Entry). e.1) new.entries ≡ map (λ (e : Entry). e.1) old.entries ++ more)
log_grows entry old new (Ok done) is =
    (entry.1 ∷ [], ap (λ (l : TaskLog). map (λ (e : Entry). e.1) l.entries) is.1 ∙ map-append (λ (e : Entry). e.1) old.entries (entry ∷ []))
log_grows entry old new (Err refusal) is =
    ([], ap (λ (l : TaskLog). map (λ (e : Entry). e.1) l.entries) is.2 ∙ sym (append-nil (map (λ (e : Entry). e.1) old.entries)))

-- where it was refused to be, it stays
pub log_stays : (entry : Entry) (old new : TaskLog) (result : Result (Unit {0}) Refusal) (e : Refusal) → result ≡ Err e
    → IsNoted entry old new result → new ≡ old
log_stays entry old new (Ok done) e is noted = absurd (cc is)
log_stays entry old new (Err refusal) e is noted = noted.2

-- and where it was, it has this one more
pub log_has : (entry : Entry) (old new : TaskLog) → IsNoted entry old new (Ok tt)
    → map (λ (e : Entry). e.1) new.entries ≡ map (λ (e : Entry). e.1) old.entries ++ entry.1 ∷ []
log_has entry old new is = ap (λ (l : TaskLog). map (λ (e : Entry). e.1) l.entries) is.1 ∙ map-append (λ (e : Entry). e.1) old.entries (entry ∷ [])

-- with more seen of phasers alone, and with a longer log alone
pub more_stories : (now : Seen) (new : ℕ → Story) (holding : List Held) → ((n : ℕ) → GoesOn (now.stories n) (new n))
    → SeesMore now (record { own = now.own; stories = new; holding = holding; log = now.log })
more_stories now new holding goes = ((λ n. inr (goes n, refl)), ([], sym (append-nil now.log)))

pub more_noted : (fronts : List Sight) (k k' : Known) (entry : Entry) (old new : TaskLog) (result : Result (Unit {0}) Refusal)
    → k'.number ≡ k.number → IsNoted entry old new result → SeesMore (seen_by fronts k old) (seen_by fronts k' new)
more_noted fronts k k' entry old new result number is =
    ((λ n. inr (goes_itself (story_at fronts n), number)), log_grows entry old new result is)

-- what is said of what was seen once is said of it under the numbers that the task has now
pub own_now : (Q : Seen → Type 0) (seen now : Seen) → SeesMore seen now → Q seen
    → Q (record { own = now.own; stories = seen.stories; holding = seen.holding; log = seen.log })
own_now Q seen now sees is =
    subst (λ (own : ℕ → ℕ). Q (record { own = own; stories = seen.stories; holding = seen.holding; log = seen.log }))
    (fun_ext (λ n. sym (sees_of seen now n sees).1)) is

-- an act that is begun changes no number
pub begun_number : (p : Plan) (k : Known) → (begun p k).number ≡ k.number
begun_number Idle k = refl
begun_number (Signalling x turns) k = refl
begun_number (Turning next) k = refl
begun_number (Spawning c ps made) k = refl
begun_number Shutting k = refl
begun_number Ending k = refl

-- what it has seen is no less where it knows something else of itself, under the same number
sees_known : (fronts : List Sight) (k k' : Known) (own : TaskLog) → k'.number ≡ k.number
    → SeesMore (seen_by fronts k own) (seen_by fronts k' own)
sees_known fronts k k' own number =
    ((λ n. inr (goes_itself (story_at fronts n), number)), ([], sym (append-nil (map (λ (e : Entry). e.1) own.entries))))

-- what it has seen in the end is no less, under its number
pub sees_end : (fronts : List Sight) (k : Known) (own : TaskLog) (task : ℕ) → task ≡ k.number
    → SeesMore (seen_by fronts k own) (seen_at_end task fronts own)
sees_end fronts k own task number =
    ((λ n. inr (goes_itself (story_at fronts n), number)), ([], sym (append-nil (map (λ (e : Entry). e.1) own.entries))))

module _ {B : Type 0} {P : Type 0} (Shows : Saying B) where
  -- before its first act it has asked for nothing, and hears that it starts
  pub ready_at_first : (b : B) (task : ℕ) (now : Seen) → now.log ≡ []
      → ∥ (P → Says Shows b task nothing (at_start now.own now.stories)) ∥₁
      → ∥ (P → IsReady Shows None b task Idle (Some Started) now) ∥₁
  ready_at_first b task now blank says =
      ∥∥₁_map says (λ f p. let s = f p in record {
        asked = nothing;
        seen = s.0;
        says = s.1;
        more = ((λ n. inr (sees_of s.0 (at_start now.own now.stories) n s.2)), ([], blank_log s.0 s.2.1));
        pending = λ lives. (started s.0 s.2.1, refl);
      })
    where
      nothing_more : (xs ys : List TracedEvent) → [] ≡ xs ++ ys → xs ≡ []
      nothing_more [] ys e = refl
      nothing_more (x ∷ xs) ys e = absurd (cc e)

      started : (seen : Seen) → ((more : List TracedEvent) × ([] ≡ seen.log ++ more)) → now.log ≡ seen.log
      started seen more = blank ∙ sym (nothing_more seen.log more.0 more.1)

      blank_log : (seen : Seen) → ((more : List TracedEvent) × ([] ≡ seen.log ++ more)) → now.log ≡ seen.log ++ []
      blank_log seen more = started seen more ∙ sym (append-nil seen.log)

  -- it asked for this just now, and no less is seen since, and it hears this of it
  pub ready_since : (b : B) (task : ℕ) (p : Plan) (asked : Asked) (answer : Option Answer) (now new : Seen)
      → SeesMore now new → IsPending task p asked answer now new
      → ∥ (P → Shows b task asked now) ∥₁ → ∥ (P → IsReady Shows None b task p answer new) ∥₁
  ready_since b task p asked answer now new goes is shows =
      ∥∥₁_map shows (λ f q. record { asked = asked; seen = now; says = f q; more = goes; pending = is })

  -- the same of an act that is begun, which is noted and nothing else
  pub ready_begun : (b : B) (task : ℕ) (act : Begun) (fronts : List Sight) (k : Known) (own own' : TaskLog)
      → map (λ (e : Entry). e.1) own'.entries ≡ map (λ (e : Entry). e.1) own.entries ++ Begin task act ∷ []
      → ∥ (P → HasAskedFor Shows b task act (seen_by fronts k own)) ∥₁
      → ∥ (P → IsReady Shows None b task (begun (plan_of act) k).plan (answer_of act) (seen_by fronts (begun (plan_of act) k) own')) ∥₁
  ready_begun b task act fronts k own own' longer asks =
      let now = seen_by fronts k own in
      with_plan (plan_of act)
      (subst (λ (l : List TracedEvent). ∥ (P → IsReady Shows None b task (plan_of act) (answer_of act) (noted l)) ∥₁) (sym longer)
      (∥∥₁_map asks (λ f q. let a = f q in record {
        asked = a.0;
        seen = now;
        says = a.2;
        more = ((λ n. inr (goes_itself (now.stories n), refl)), (Begin task act ∷ [], refl));
        pending = pending_begun task k now.own now.stories now.log act a.0 a.1;
      })))
    where
      noted : List TracedEvent → Seen
      noted l = record { own = λ n. k.number; stories = λ n. story_at fronts n; holding = k.holding; log = l }

      with_plan : (p : Plan) → ∥ (P → IsReady Shows None b task p (answer_of act) (seen_by fronts k own')) ∥₁
          → ∥ (P → IsReady Shows None b task (begun p k).plan (answer_of act) (seen_by fronts (begun p k) own')) ∥₁
      with_plan Idle ready = ready
      with_plan (Signalling x turns) ready = ready
      with_plan (Turning next) ready = ready
      with_plan (Spawning c ps made) ready = ready
      with_plan Shutting ready = ready
      with_plan Ending ready = ready

  -- from one event to the next
  pub ready_moves : (b : B) (task : ℕ) (p p' : Plan) (answer : Option Answer) (now new : Seen) → SeesMore now new
      → ((asked : Asked) (seen : Seen) → SeesMore seen now → IsPending task p asked answer seen now
      → IsPending task p' asked answer seen new)
      → ∥ (P → IsReady Shows None b task p answer now) ∥₁ → ∥ (P → IsReady Shows None b task p' answer new) ∥₁
  ready_moves b task p p' answer now new goes is ready =
      ∥∥₁_map ready (λ f q. let r = f q in record {
        asked = r.asked;
        seen = r.seen;
        says = r.says;
        more = sees_far None r.seen now new r.more goes;
        pending = is r.asked r.seen r.more r.pending;
      })

  -- it is so where the task knows the same of itself
  pub ready_at : (b : B) (task : ℕ) (answer : Option Answer) (fronts : List Sight) (k k' : Known) (own : TaskLog) → k' ≡ k
      → ∥ (P → IsReady Shows None b task k.plan answer (seen_by fronts k own)) ∥₁
      → ∥ (P → IsReady Shows None b task k'.plan answer (seen_by fronts k' own)) ∥₁
  ready_at b task answer fronts k k' own same ready =
      subst (λ (x : Known). ∥ (P → IsReady Shows None b task x.plan answer (seen_by fronts x own)) ∥₁) (sym same) ready

  -- a task that was never born may be handed phasers, and taken off them
  pub ready_newborn : (b : B) (task : ℕ) (answer : Option Answer) (fronts : List Sight) (k k' : Known) (own : TaskLog)
      → k'.plan ≡ k.plan → k'.number ≡ k.number → ∥ answer ≡ Some Started ∥₁
      → ∥ (P → IsReady Shows None b task k.plan answer (seen_by fronts k own)) ∥₁
      → ∥ (P → IsReady Shows None b task k'.plan answer (seen_by fronts k' own)) ∥₁
  ready_newborn b task answer fronts k k' own same number newborn ready =
      let now = seen_by fronts k own in
      let new = seen_by fronts k' own in
      subst (λ (p : Plan). ∥ (P → IsReady Shows None b task p answer new) ∥₁) (sym same)
      (∥∥₁_map₂ newborn ready (λ is f q. let r = f q in record {
        asked = r.asked;
        seen = r.seen;
        says = r.says;
        more = sees_far None r.seen now new r.more (sees_known fronts k k' own number);
        pending = subst (λ (a : Option Answer). IsPending task k.plan r.asked a r.seen new) (sym is)
            (pending_newborn task r.seen now new k.plan r.asked refl
            (subst (λ (a : Option Answer). IsPending task k.plan r.asked a r.seen now) is r.pending));
      }))

  -- and where its number and its log stayed
  pub ready_kept : (b : B) (task task' : ℕ) (p : Plan) (answer : Option Answer) (fronts : List Sight) (k : Known) (own own' : TaskLog)
      → task' ≡ task → own' ≡ own → ∥ (P → IsReady Shows None b task p answer (seen_by fronts k own)) ∥₁
      → ∥ (P → IsReady Shows None b task' p answer (seen_by fronts k own')) ∥₁
  ready_kept b task task' p answer fronts k own own' number stays ready =
      subst (λ (t : ℕ). ∥ (P → IsReady Shows None b t p answer (seen_by fronts k own')) ∥₁) (sym number)
      (subst (λ (l : TaskLog). ∥ (P → IsReady Shows None b task p answer (seen_by fronts k l)) ∥₁) (sym stays) ready)

  -- what it says, it says of what is seen where nothing has changed
  pub shows_kept : (b b' : B) (task task' : ℕ) (asked : Asked) (fronts fronts' : List Sight) (k k' : Known) (own own' : TaskLog)
      → b' ≡ b → task' ≡ task → fronts' ≡ fronts → k' ≡ k → own' ≡ own
      → ∥ (P → Shows b task asked (seen_by fronts k own)) ∥₁ → ∥ (P → Shows b' task' asked (seen_by fronts' k' own')) ∥₁
  shows_kept b b' task task' asked fronts fronts' k k' own own' body number sights standing stays says =
      subst (λ (x : B). ∥ (P → Shows x task' asked (seen_by fronts' k' own')) ∥₁) (sym body)
      (subst (λ (t : ℕ). ∥ (P → Shows b t asked (seen_by fronts' k' own')) ∥₁) (sym number)
      (subst (λ (xs : List Sight). ∥ (P → Shows b task asked (seen_by xs k' own')) ∥₁) (sym sights)
      (subst (λ (x : Known). ∥ (P → Shows b task asked (seen_by fronts x own')) ∥₁) (sym standing)
      (subst (λ (l : TaskLog). ∥ (P → Shows b task asked (seen_by fronts k l)) ∥₁) (sym stays) says))))

  -- and so does what was asked for to be begun
  pub asks_kept : (b b' : B) (task task' : ℕ) (act : Begun) (fronts fronts' : List Sight) (k k' : Known) (own own' : TaskLog)
      → b' ≡ b → task' ≡ task → fronts' ≡ fronts → k' ≡ k → own' ≡ own
      → ∥ (P → HasAskedFor Shows b task act (seen_by fronts k own)) ∥₁ → ∥ (P → HasAskedFor Shows b' task' act (seen_by fronts' k' own')) ∥₁
  asks_kept b b' task task' act fronts fronts' k k' own own' body number sights standing stays says =
      subst (λ (x : B). ∥ (P → HasAskedFor Shows x task' act (seen_by fronts' k' own')) ∥₁) (sym body)
      (subst (λ (t : ℕ). ∥ (P → HasAskedFor Shows b t act (seen_by fronts' k' own')) ∥₁) (sym number)
      (subst (λ (xs : List Sight). ∥ (P → HasAskedFor Shows b task act (seen_by xs k' own')) ∥₁) (sym sights)
      (subst (λ (x : Known). ∥ (P → HasAskedFor Shows b task act (seen_by fronts x own')) ∥₁) (sym standing)
      (subst (λ (l : TaskLog). ∥ (P → HasAskedFor Shows b task act (seen_by fronts k l)) ∥₁) (sym stays) says))))

  -- who asks for a child asks for the spawn that is begun
  pub asks_to_spawn : (b : B) (task child : ℕ) (pairs : List Pair) (now : Seen)
      → ∥ (P → HasAskedToSpawn Shows b task pairs now) ∥₁ → ∥ (P → HasAskedFor Shows b task (Async child pairs) now) ∥₁
  asks_to_spawn b task child pairs now asks = ∥∥₁_map asks (λ f q. let a = f q in (spawn a.0, a.1, a.2))

  -- what it says stays where its number stays
  pub says_kept : (b : B) (task task' : ℕ) (asked : Asked) (now : Seen) → task' ≡ task
      → ∥ (P → Says Shows b task asked now) ∥₁ → ∥ (P → Says Shows b task' asked now) ∥₁
  says_kept b task task' asked now number says =
      subst (λ (t : ℕ). ∥ (P → Says Shows b t asked now) ∥₁) (sym number) says

  -- what the body is after a statement of its own says no less
  pub ready_single : (b b' : B) (task : ℕ) (p : Plan) (answer : Option Answer) (now : Seen)
      → ((task : ℕ) (asked : Asked) (seen : Seen) → Shows b task asked seen → Shows b' task asked seen)
      → ∥ (P → IsReady Shows None b task p answer now) ∥₁ → ∥ (P → IsReady Shows None b' task p answer now) ∥₁
  ready_single b b' task p answer now stays ready =
      ∥∥₁_map ready (λ f q. let r = f q in record {
        asked = r.asked;
        seen = r.seen;
        says = stays task r.asked r.seen r.says;
        more = r.more;
        pending = r.pending;
      })

  -- what follows of a step
  pub after_step : (Q : Type 0) (b : B) (task : ℕ) (p : Plan) (answer : Answer) (now : Seen)
      → ((asked : Asked) (seen : Seen) → SeesMore seen now → IsPending task p asked (Some answer) seen now
      → IsAnswerTo task asked answer seen now)
      → ((asked : Asked) (seen : Seen) → Shows b task asked seen → IsHeard task asked answer seen now → Q)
      → ∥ (P → IsReady Shows None b task p (Some answer) now) ∥₁ → ∥ (P → Q) ∥₁
  after_step Q b task p answer now hears step ready =
      ∥∥₁_map ready (λ f q. let r = f q in step r.asked r.seen r.says
      (((λ n. inr (sees_of r.seen now n r.more)), r.more.1), hears r.asked r.seen r.more r.pending))

  -- what it has said when it is over, where this is its number
  pub has_said : (b : B) (task number : ℕ) (p : Plan) (answer : Option Answer) (now : Seen) (held : Seen) → task ≡ number
      → SeesMore now held
      → ∥ (P → IsReady Shows None b task p answer now) ∥₁ → ∥ (P → HasSaid Shows b number held) ∥₁
  has_said b task number p answer now held is goes ready =
      subst (λ (t : ℕ). ∥ (P → HasSaid Shows b t held) ∥₁) is
      (∥∥₁_map ready (λ f q. let r = f q in (r.asked, (r.seen, r.says, sees_far None r.seen now held r.more goes))))

  -- it says it of just what it has seen
  pub says_now : (b : B) (task : ℕ) (asked : Asked) (now : Seen)
      → ∥ (P → Shows b task asked now) ∥₁ → ∥ (P → Says Shows b task asked now) ∥₁
  says_now b task asked now shows = ∥∥₁_map shows (λ f p. (now, f p, sees_itself now))

  -- and where more is seen
  pub says_more : (b : B) (task : ℕ) (asked : Asked) (now new : Seen) → SeesMore now new
      → ∥ (P → Says Shows b task asked now) ∥₁ → ∥ (P → Says Shows b task asked new) ∥₁
  says_more b task asked now new more says =
      ∥∥₁_map says (λ f p. let s = f p in (s.0, s.1, sees_far None s.0 now new s.2 more))

  -- and where the task knows something else of itself, under the same number
  pub says_known : (b : B) (task : ℕ) (asked : Asked) (fronts : List Sight) (k k' : Known) (own : TaskLog) → k'.number ≡ k.number
      → ∥ (P → Says Shows b task asked (seen_by fronts k own)) ∥₁ → ∥ (P → Says Shows b task asked (seen_by fronts k' own)) ∥₁
  says_known b task asked fronts k k' own number says =
      says_more b task asked (seen_by fronts k own) (seen_by fronts k' own) (sees_known fronts k k' own number) says

  -- and of what is seen elsewhere, if that is the same
  pub says_seen : (b : B) (task : ℕ) (asked : Asked) (now there : Seen) → ((n : ℕ) → there.stories n ≡ now.stories n)
      → ((n : ℕ) → there.own n ≡ now.own n) → there.log ≡ now.log
      → ∥ (P → Says Shows b task asked now) ∥₁ → ∥ (P → Says Shows b task asked there) ∥₁
  says_seen b task asked now there same number noted says =
      ∥∥₁_map says (λ f p. let s = f p in (
        s.0,
        s.1,
        (
          (λ n. let there = sees_of s.0 now n s.2 in
              inr (subst (λ (v : Story). GoesOn (s.0.stories n) v) (sym (same n)) there.0, number n ∙ there.1)),
          (s.2.1.0, noted ∙ s.2.1.1),
        ),
      ))

  -- and after a statement of its own
  pub says_single : (b b' : B) (task : ℕ) (asked : Asked) (now : Seen)
      → ((task : ℕ) (asked : Asked) (seen : Seen) → Shows b task asked seen → Shows b' task asked seen)
      → ∥ (P → Says Shows b task asked now) ∥₁ → ∥ (P → Says Shows b' task asked now) ∥₁
  says_single b b' task asked now stays says =
      ∥∥₁_map says (λ f p. let s = f p in (s.0, stays task asked s.0 s.1, s.2))

  -- who asks for what begins its end says so
  pub says_end : (b : B) (task : ℕ) (begun : Begun) (now : Seen) → begun ≡ End
      → ∥ (P → HasAskedFor Shows b task begun now) ∥₁ → ∥ (P → Says Shows b task ends now) ∥₁
  says_end b task begun now is asks =
      ∥∥₁_map (subst (λ (x : Begun). ∥ (P → HasAskedFor Shows b task x now) ∥₁) is asks)
      (λ f q. let a = f q in (now, by_asked a.0 a.1 a.2, sees_itself now))
    where
      by_asked : (asked : Asked) → IsAskedFor End now.holding asked → Shows b task asked now → Shows b task ends now
      by_asked ends is shows = shows
      by_asked asked is shows = absurd is

  -- the root's body says this of what the logs tell, of which each front is a beginning
  pub is_said : (l : Limits) (names : ℕ → ℕ) (parts logs : List (List Entry)) (told fronts : List Sight) (own : TaskLog) (i : ℕ) (root : B)
      → AreLogged names 0 parts told → length fronts ≡ length parts
      → ((n : ℕ) → n < length fronts → GoesOn (story_at fronts n) (story_at told n))
      → ((n : ℕ) → n < length fronts → (story_at told n).limits ≡ l)
      → slice_get logs i ≡ Some own.entries → AreOf (log 0) own.entries
      → ∥ (P → HasSaid Shows root 0 (seen_at_end 0 fronts own)) ∥₁ → P → IsSaid Shows l parts logs root
  is_said l names parts logs told fronts own i root logged many begin limits there its said p =
      let within : (n : ℕ) → n < length parts → n < length fronts = λ n lt. omega (arith, lt, many) in (
        (λ n. story_at told n),
        (λ n lt. (told_at_each names parts told logged n lt, limits n (within n lt))),
        (
          i,
          own.entries,
          there,
          its,
          ∥∥₁_map said (λ f. let s = f p in let now = seen_at_end 0 fronts own in (
            s.1.0.stories,
            (
              s.1.0.holding,
              s.1.0.log,
              s.1.2.1.0,
              own_now (λ (seen : Seen). IsSaidOfRoot Shows root seen) s.1.0 now s.1.2 (s.0, s.1.1),
              s.1.2.1.1,
            ),
            λ n lt. goes_far (s.1.0.stories n) (story_at fronts n) (story_at told n) (sees_of s.1.0 now n s.1.2).0 (begin n (within n lt)),
          )),
        ),
      )

  -- what is said by a body that has asked for its task's end is told of the task
  pub told_at_end : (Told : ℕ → Seen → Type 0) (b : B) (task : ℕ) (now held : Seen) → SeesMore now held
      → ∥ Tells Shows Told ∥₁ → ∥ (P → Says Shows b task ends now) ∥₁ → ∥ (P → IsTold Told task held) ∥₁
  told_at_end Told b task now held goes tells says =
      ∥∥₁_map₂ tells says (λ told f p. let s = f p in (s.0, told b task s.0 s.1, sees_far None s.0 now held s.2 goes))
