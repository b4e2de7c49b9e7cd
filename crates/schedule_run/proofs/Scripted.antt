-- A walk over a trace by a program's bodies finds the place at which the trace leaves the program.
use Rattle.std.proofs.Common.{ℕ, ◌+◌, ◌≡◌, ◌==◌, Bool, true, false, if◌then◌else◌, List, [], ◌∷◌, drop, slice_get, Option, Some, None, Result, Ok, Err, IfOk, refl, sym, ap, subst, ◌∙◌}
use Rattle.std.proofs.lemmas.Bool.{and_from, and_parts, false≢true}
use Rattle.phase_modes.specs.declared.phased.Pair.{Pair}
use Rattle.phase_modes.specs.declared.refusal.Refusal.{Refusal}
use Rattle.phase_modes.specs.declared.refusal.Refusal.TheVariants.{NotExplained}
use Rattle.finish_core.specs.declared.event.FinishEvent.TheVariants.{Opened}
use Rattle.job_script.specs.Acts.{Act, Acts, flat}
use Rattle.job_script.specs.Program.{Program}
use Rattle.job_script.specs.Steps.{Script, begun, given_name, named, next_for, act_for, no_meanings}
use Rattle.job_script.specs.declared.act.Act as tasks
use Rattle.job_script.specs.declared.act.Answer.{Answer}
use Rattle.job_script.specs.declared.act.Answer.TheVariants as answers
use Rattle.job_script.specs.declared.head.Head.{Head}
use Rattle.job_script.specs.declared.head.Head.TheVariants as heads
use Rattle.world_model.specs.Drawing.{own_pairs}
use Rattle.world_model.specs.declared.event.Begun.TheVariants.{Async}
use Rattle.world_model.specs.declared.event.Tried.{Tried}
use Rattle.world_model.specs.declared.event.Tried.TheVariants.{Begun as Beginning}
use Rattle.world_model.specs.declared.event.WorldEvent.{WorldEvent}
use Rattle.trace_walk.specs.Follows.{drawn, same_act, is_next, follows}
use Rattle.trace_walk.specs.Laws.{first_wrong}
use Rattle.trace_walk.specs.Scripts.{Made, Numbers, act_of, is_of, parent_by, body_of, meant_after, acts_left, meanings, next_act, tried_as, tried_next}
use Rattle.trace_model.specs.Explained.{event_of, past}
use Rattle.trace_model.specs.Run.{Entry, Run}
use Rattle.trace_model.specs.declared.event.TracedEvent.{TracedEvent}
use Rattle.trace_model.specs.declared.event.TracedEvent.TheVariants.{Phaser, Finish, Begin, Refuse}
use Rattle.trace_model.specs.declared.event.TracedStep.TheVariants.{Make, Send, Look}
use Rattle.trace_walk.specs.Given.{tried_of}
use Rattle.trace_walk.specs.History.{history}
use Rattle.trace_walk.specs.Walking.{act_due, child_seat, gone_on, is_due, seat_after, seat_told, first_astray, script_next, told_by, AnswersPlace}
use Rattle.trace_walk.specs.declared.seats.Seat.{Seat}
use Rattle.trace_walk.proofs.Events.{spawned_by}
use Rattle.trace_walk.proofs.Giving.{next_given}
use Rattle.schedule_run.specs.Following.{first_not_next}
use Rattle.schedule_run.specs.inner.Bodies.{Standing, standing, standing_of, SeatsStand}
use Rattle.schedule_run.proofs.Leaving.{leaves, stays}
use Rattle.schedule_run.proofs.Standing.{naming}

-- ---- one seat

-- the act that is due is the first that is left
due_by : (o : Option (Seat Script))
    → act_due script_next o ≡ next_for (standing_of o).meanings (slice_get (standing_of o).left 0)
due_by None = refl
due_by (Some s) = refl

-- where a task stands past its act, of which it hears this
abbrev past_act : Answer → Standing → Standing
past_act told s = record { left = drop 1 s.left; meanings = named told (given_name (slice_get s.left 0)) s.meanings }

unnamed : (told : Answer) (ms : List ℕ) → ms ≡ named told None ms
unnamed answers.Started ms = refl
unnamed answers.Done ms = refl
unnamed (answers.Made ph) ms = refl
unnamed (answers.Spawned c) ms = refl
unnamed (answers.Saw v) ms = refl

past_it : (told : Answer) (o : Option (Seat Script)) → standing_of (gone_on script_next told o) ≡ past_act told (standing_of o)
past_it told None = rw (sym (unnamed told no_meanings)) refl
past_it told (Some s) = refl

-- a child has the body of its spawn, and its parent's names
spawned : (w : List WorldEvent) (u c : ℕ) (ps : List Pair) (ms : List ℕ) (new : Numbers) (h : Head) (body : Acts)
    (before : Option (Seat Script)) → same_act (Beginning (Async c ps)) (tried_as w u ms new h) ≡ true
    → ◌≡◌ {A = Standing} (standing_of (child_seat (act_for ms h body) before)) (record { left = flat body; meanings = ms })
spawned w u c ps ms new (heads.Async xs) body before k = refl
spawned w u c ps ms new heads.AsyncAll body before k = refl
spawned w u c ps ms new (heads.New name m terms) body before k = absurd (false≢true k)
spawned w u c ps ms new heads.OpenFinish body before k = absurd (false≢true k)
spawned w u c ps ms new heads.ShutFinish body before k = absurd (false≢true k)
spawned w u c ps ms new heads.Signal body before k = absurd (false≢true k)
spawned w u c ps ms new heads.Wait body before k = absurd (false≢true k)
spawned w u c ps ms new heads.Next body before k = absurd (false≢true k)
spawned w u c ps ms new (heads.NextSingle n) body before k = absurd (false≢true k)
spawned w u c ps ms new (heads.Send name a v) body before k = absurd (false≢true k)
spawned w u c ps ms new (heads.Look name a) body before k = absurd (false≢true k)
spawned w u c ps ms new (heads.Repeat n) body before k = absurd (false≢true k)

spawned_next : (w : List WorldEvent) (u c : ℕ) (ps : List Pair) (ms : List ℕ) (new : Numbers) (o : Option Act)
    (before : Option (Seat Script)) → same_act (Beginning (Async c ps)) (tried_next w u ms new o) ≡ true
    → ◌≡◌ {A = Standing} (standing_of (child_seat (next_for ms o) before))
    (record { left = flat (body_of o); meanings = ms })
spawned_next w u c ps ms new None before k = absurd (false≢true k)
spawned_next w u c ps ms new (Some a) before k = spawned w u c ps ms new a.head a.body before k

same_meant : (b : Bool) (ms : List ℕ) → ms ≡ (if b then ms else ms)
same_meant true ms = refl
same_meant false ms = refl

module _ (p : Program) where
  abbrev root : Script
  root = begun p.main no_meanings

  -- what names mean to a task after an event by which nobody spawns it
  meant : (w : List WorldEvent) (t : ℕ) (e : TracedEvent)
      → meant_after p w t (event_of e) None (meanings p w)
      ≡ (if is_of t (act_of (event_of e)) then named (told_by e) (given_name (next_act p w t)) (meanings p w t)
      else meanings p w t)
  meant w t (Phaser n (Make u m terms)) = refl
  meant w t (Phaser n (Send u a v)) = same_meant (u == t) (meanings p w t)
  meant w t (Phaser n (Look u a x)) = same_meant (u == t) (meanings p w t)
  meant w t (Finish f (Opened u)) = same_meant (u == t) (meanings p w t)
  meant w t (Begin u (Async c ps)) = same_meant (u == t) (meanings p w t)
  meant w t (Begin u b) = same_meant (u == t) (meanings p w t)
  meant w t (Refuse u b x) = same_meant (u == t) (meanings p w t)
  meant w t e = refl

  -- ---- one event

  -- whom nobody spawns by it
  unspawned : (w : List WorldEvent) (t : ℕ) (e : TracedEvent) (before : ℕ → Option (Seat Script)) → SeatsStand p w before
      → parent_by t (event_of e) ≡ None
      → standing_of (seat_after script_next e t None before) ≡ standing p (event_of e ∷ w) t
  unspawned w t e before stand none =
      rw none
      (by (is_of t (act_of (event_of e)))
      ∙ ap (λ (ms : List ℕ). where_it (if is_of t (act_of (event_of e)) then drop 1 (acts_left p w t) else acts_left p w t) ms)
      (sym (meant w t e)))
    where
      where_it : List Act → List ℕ → Standing
      where_it left ms = record { left = left; meanings = ms }

      by : (b : Bool) → standing_of (if b then gone_on script_next (told_by e) (before t) else before t)
          ≡ where_it (if b then drop 1 (acts_left p w t) else acts_left p w t)
          (if b then named (told_by e) (given_name (next_act p w t)) (meanings p w t) else meanings p w t)
      by true = past_it (told_by e) (before t) ∙ ap (λ (s : Standing). past_act (told_by e) s) (stand t)
      by false = stand t

  -- whom u spawns by it
  child : (w : List WorldEvent) (t u : ℕ) (e : TracedEvent) (before : ℕ → Option (Seat Script)) → SeatsStand p w before
      → parent_by t (event_of e) ≡ Some u → is_next p w (act_of (event_of e)) ≡ true
      → standing_of (seat_after script_next e t (Some u) before) ≡ standing p (event_of e ∷ w) t
  child w t u e before stand some next =
      let spawn = spawned_by t u e some in
      ap (λ (a : tasks.Act Script). standing_of (child_seat a (before t)))
      (due_by (before u) ∙ ap (λ (s : Standing). next_for s.meanings (slice_get s.left 0)) (stand u))
      ∙ (spawned_next w u t spawn.pairs (meanings p w u) (drawn (Beginning (Async t spawn.pairs))) (next_act p w u) (before t)
      (subst (λ (x : TracedEvent). is_next p w (act_of (event_of x)) ≡ true) spawn.is next)
      ∙ (sym (naming p w u t spawn.pairs)
      ∙ ap (λ (x : TracedEvent). standing p (event_of x ∷ w) t) (sym spawn.is)))

  -- ---- all entries

  -- each task stands where it does by the program, as long as the trace follows it
  told_stand : (es : List Entry) → follows p (past es) ≡ true → SeatsStand p (past es) (seat_told script_next root es)
  told_stand [] f t = by (t == 0)
    where
      by : (b : Bool) → ◌≡◌ {A = Standing}
          (standing_of (if b then Some (record { body = root; heard = answers.Started }) else None))
          (record { left = if b then flat p.main else []; meanings = no_meanings })
      by true = refl
      by false = refl
  told_stand (x ∷ es) f t =
      let so = and_parts (is_next p (past es) (act_of (event_of x.1))) (follows p (past es)) f in
      by (told_stand es so.1) so.0 (parent_by t (event_of x.1)) refl
    where
      by : SeatsStand p (past es) (seat_told script_next root es) → is_next p (past es) (act_of (event_of x.1)) ≡ true
          → (o : Option ℕ) → parent_by t (event_of x.1) ≡ o
          → standing_of (seat_after script_next x.1 t o (seat_told script_next root es))
          ≡ standing p (event_of x.1 ∷ past es) t
      by stand next None none = unspawned (past es) t x.1 (seat_told script_next root es) stand none
      by stand next (Some u) some = child (past es) t u x.1 (seat_told script_next root es) stand some next

  -- the act that is due is the next one by the program
  due_next : (es : List Entry) → follows p (past es) ≡ true → (o : Option Made)
      → is_due script_next root es o ≡ is_next p (past es) o
  due_next es f None = refl
  due_next es f (Some m) =
      ap (λ (a : tasks.Act Script). same_act m.act (tried_of (own_pairs m.task (past es)) (drawn m.act) a))
      (due_by (seat_told script_next root es m.task)
      ∙ ap (λ (s : Standing). next_for s.meanings (slice_get s.left 0)) (told_stand es f m.task))
      ∙ ap (λ (a : Tried). same_act m.act a)
      (next_given (past es) m.task (meanings p (past es) m.task) (drawn m.act) (next_act p (past es) m.task))

  -- both find the same place
  places : (es xs : List Entry) (k : ℕ) → follows p (past es) ≡ true
      → first_astray script_next root es k xs ≡ first_wrong p (past es) k (past xs)
  places es [] k f = refl
  places es (x ∷ xs) k f =
      ap (λ (b : Bool). if b then first_astray script_next root (x ∷ es) (k + 1) xs else Some (k + 1))
      (due_next es f (act_of (event_of x.1)))
      ∙ by (is_next p (past es) (act_of (event_of x.1))) refl
      (λ next. places (x ∷ es) xs (k + 1)
      (and_from (is_next p (past es) (act_of (event_of x.1))) (follows p (past es)) next f))
    where
      by : (b : Bool) → is_next p (past es) (act_of (event_of x.1)) ≡ b
          → (is_next p (past es) (act_of (event_of x.1)) ≡ true
          → first_astray script_next root (x ∷ es) (k + 1) xs
          ≡ first_wrong p (event_of x.1 ∷ past es) (k + 1) (past xs))
          → (if b then first_astray script_next root (x ∷ es) (k + 1) xs else Some (k + 1))
          ≡ (if b then first_wrong p (event_of x.1 ∷ past es) (k + 1) (past xs) else Some (k + 1))
      by true next rest = rest next
      by false next rest = refl

  -- ---- what the walk answers

  pub answers_place : (r : Run) (result : Result (Unit {0}) Refusal)
      → AnswersPlace (first_astray script_next root [] 0 r.events) result → AnswersPlace (first_not_next p r) result
  answers_place r result is = subst (λ (o : Option ℕ). AnswersPlace o result) (places [] r.events 0 refl) is

  pub follows_there : (r : Run) (result : Result (Unit {0}) Refusal) → AnswersPlace (first_not_next p r) result
      → IfOk result (λ _. follows p (history r.events) ≡ true)
  follows_there r (Ok u) is = stays p (past r.events) is
  follows_there r (Err e) is = tt

  pub leaves_there : (r : Run) (result : Result (Unit {0}) Refusal) → AnswersPlace (first_not_next p r) result
      → (k : ℕ) → result ≡ Err (NotExplained k) → follows p (history r.events) ≡ false
  leaves_there r result is k refused =
      leaves p (past r.events) k (subst (λ (x : Result (Unit {0}) Refusal). AnswersPlace (first_not_next p r) x) refused is)
