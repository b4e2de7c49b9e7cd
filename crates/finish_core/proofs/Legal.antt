-- What holds of each legal history of a finish, and that replies keep it legal.
use Rattle.std.proofs.Common.{◌≡◌, ℕ, ◌<◌, ◌==◌, nat_lt, true, false, ◌&&◌, not, List, [], ◌∷◌, ◌++◌, Option, Some, None, Ok, Err, refl, ap, sym, inl, inr, subst}
use Rattle.std.proofs.lemmas.Bool.{and_parts, and_from, or_cases, or_right, eqb-true, ltb-true, not-true}
use Rattle.phase_modes.specs.declared.refusal.Refusal.{Refusal}
use Rattle.phase_modes.specs.Refusal.{first_refusal}
use Rattle.finish_core.specs.declared.event.FinishEvent.{FinishEvent}
use Rattle.finish_core.specs.declared.event.FinishEvent.TheVariants.{Opened, Spawned, Ended, Shut}
use Rattle.finish_core.specs.Finish.{FinishStory, is_open, is_spawned, has_ended, conditions, is_allowed, is_legal_finish}
use Rattle.finish_core.specs.Replies.{done_unless, reply, after}
use Rattle.finish_core.specs.Laws.{RepliesKeepLegal, DoneWhereAllowed, after_all}
use Rattle.phase_modes.proofs.FirstRefusal.{met_where_none, none_where_met}

-- what the newest event of a legal history says
pub record Follows (tasks : ℕ) (h : List FinishEvent) (e : FinishEvent) : Type 0 where
  pub allowed : is_allowed tasks h e ≡ true
  pub before : is_legal_finish tasks h ≡ true

pub last_follows : (tasks : ℕ) (h : List FinishEvent) (e : FinishEvent) → is_legal_finish tasks (e ∷ h) ≡ true
    → Follows tasks h e
last_follows tasks h e k =
    let parts = and_parts (is_allowed tasks h e) (is_legal_finish tasks h) k in
    record { allowed = parts.0; before = parts.1 }

-- what a spawn says of what was there
pub record SpawnFollows (tasks : ℕ) (h : List FinishEvent) (t : ℕ) : Type 0 where
  pub open_now : is_open h ≡ true
  pub new : is_spawned t h ≡ false
  pub fits : t < tasks

pub spawn_follows : (tasks : ℕ) (h : List FinishEvent) (t : ℕ) → is_allowed tasks h (Spawned t) ≡ true
    → SpawnFollows tasks h t
spawn_follows tasks h t k =
    let k2 = and_parts (is_open h && not (is_spawned t h)) (nat_lt t tasks) k in
    let k1 = and_parts (is_open h) (not (is_spawned t h)) k2.0 in
    record { open_now = k1.0; new = not-true (is_spawned t h) k1.1; fits = ltb-true t tasks k2.1 }

-- what a task's end says of what was there
pub record EndFollows (h : List FinishEvent) (t : ℕ) : Type 0 where
  pub open_now : is_open h ≡ true
  pub spawned : is_spawned t h ≡ true
  pub running : has_ended t h ≡ false

pub end_follows : (tasks : ℕ) (h : List FinishEvent) (t : ℕ)
    → is_allowed tasks h (Ended t) ≡ true → EndFollows h t
end_follows tasks h t k =
    let k2 = and_parts (is_open h && is_spawned t h) (not (has_ended t h)) k in
    let k1 = and_parts (is_open h) (is_spawned t h) k2.0 in
    record { open_now = k1.0; spawned = k1.1; running = not-true (has_ended t h) k2.1 }

-- a task that has ended was spawned
pub ended_was_spawned : (tasks : ℕ) (h : List FinishEvent) → is_legal_finish tasks h ≡ true → (t : ℕ)
    → has_ended t h ≡ true → is_spawned t h ≡ true
ended_was_spawned tasks [] k t is = absurd cc
ended_was_spawned tasks (Opened u ∷ h) k t is =
    ended_was_spawned tasks h (last_follows tasks h (Opened u) k).before t is
ended_was_spawned tasks (Spawned u ∷ h) k t is =
    or_right (u == t) (is_spawned t h)
    (ended_was_spawned tasks h (last_follows tasks h (Spawned u) k).before t is)
ended_was_spawned tasks (Ended u ∷ h) k t is =
    let f = last_follows tasks h (Ended u) k in
    elim (or_cases (u == t) (has_ended t h) is) [
      | inl e ↦ subst (λ v. is_spawned v h ≡ true) (eqb-true u t e) (end_follows tasks h u f.allowed).spawned
      | inr e ↦ ended_was_spawned tasks h f.before t e
    ]
ended_was_spawned tasks (Shut ∷ h) k t is =
    ended_was_spawned tasks h (last_follows tasks h Shut k).before t is

-- the rest of a legal history is legal
pub is_legal_finish-rest : (tasks : ℕ) (later h : List FinishEvent)
    → is_legal_finish tasks (later ++ h) ≡ true → is_legal_finish tasks h ≡ true
is_legal_finish-rest tasks [] h k = k
is_legal_finish-rest tasks (e ∷ later) h k =
    is_legal_finish-rest tasks later h (last_follows tasks (later ++ h) e k).before

-- no refusal was given
none_given : (o : Option Refusal) → done_unless o ≡ Ok tt → o ≡ None
none_given None k = refl
none_given (Some r) k = absurd cc

-- a call that is done adds an allowed event
pub done_is_allowed : (tasks : ℕ) (h : List FinishEvent) (e : FinishEvent) → reply tasks h e ≡ Ok tt
    → is_allowed tasks h e ≡ true
done_is_allowed tasks h e k =
    let cs = conditions tasks h e in
    met_where_none cs (none_given (first_refusal cs) k)

-- and a call whose event is allowed is done
pub done_where_allowed : DoneWhereAllowed
done_where_allowed tasks h e =
    (done_is_allowed tasks h e, λ k. ap done_unless (none_where_met (conditions tasks h e) k))

-- the same, where the reply speaks of what a contract sees
pub allowed_in : {s v : FinishStory} (e : FinishEvent) → s ≡ v → Ok tt ≡ reply v.tasks v.past e
    → is_allowed s.tasks s.past e ≡ true
allowed_in {s} {v} e same done = rw same (done_is_allowed v.tasks v.past e (sym done))

-- whatever calls follow a legal history, it stays legal
pub calls_keep_legal : (tasks : ℕ) (h calls : List FinishEvent) → is_legal_finish tasks h ≡ true
    → is_legal_finish tasks (after_all (record { tasks = tasks; past = h }) calls).past ≡ true
calls_keep_legal tasks h [] k = k
calls_keep_legal tasks h (e ∷ es) k =
    (elim (reply tasks h e) as (λ r. reply tasks h e ≡ r → is_legal_finish tasks
    (after_all (after (record { tasks = tasks; past = h }) e r) es).past ≡ true) [
      | Ok u ↦
          λ a. calls_keep_legal tasks (e ∷ h) es
          (and_from (is_allowed tasks h e) (is_legal_finish tasks h) (done_is_allowed tasks h e a) k)
      | Err r ↦ λ a. calls_keep_legal tasks h es k
    ]) refl

pub replies_keep_legal : RepliesKeepLegal
replies_keep_legal tasks calls = calls_keep_legal tasks [] calls refl
