-- What is due first tells the plan.
use Rattle.std.proofs.Common.{ℕ, zero, suc, ◌≡◌, ◌⊎◌, Bool, true, false, inl, inr, List, [], ◌∷◌, ◌++◌, Option, Some, None, refl, sym, ap, ◌∙◌, filter, drop}
use Rattle.std.specs.Prelude.{slice_get}
use Rattle.std.proofs.lemmas.Bool.{true≢false}
use Rattle.finish_core.specs.declared.event.FinishEvent.TheVariants.{Spawned as Born}
use Rattle.world_model.specs.declared.event.Step.TheVariants.{Sig, Pass, Drop}
use Rattle.world_model.specs.declared.event.WorldEvent.{WorldEvent}
use Rattle.world_model.specs.declared.event.WorldEvent.TheVariants.{Phaser, Finish}
use Rattle.task_standing.specs.declared.held.Held.{Held}
use Rattle.task_standing.specs.declared.plan.Plan.{Plan}
use Rattle.task_standing.specs.declared.plan.Plan.TheVariants.{Idle, Signalling, Turning, Spawning, Shutting, Ending}
use Rattle.task_standing.specs.Known.{Known}
use Rattle.task_standing.specs.Standing.{owes}
use Rattle.task_standing.specs.StillToMake.{planned, planned_with, signals_of, passes_of, drops_of, shuts_of, end_of}
use Rattle.task_standing.proofs.Starts.{starts, turning_not, signalling_not, spawning_not, shutting_not, ending_not}
use Rattle.tasks_in_flight.specs.inner.Due.{still_of}
use Rattle.tasks_in_flight.specs.inner.Ready.{IsDue}

-- a list that begins with an event which passes a test passes it
first_not : (p : WorldEvent → Bool) (ds : List WorldEvent) (e : WorldEvent) → slice_get ds 0 ≡ Some e → p e ≡ true
    → starts p ds ≡ false → ⊥
first_not p [] e first has hasnt = absurd (cc first)
first_not p (d ∷ ds) e first has hasnt =
    let same : d ≡ e = cc first in
    true≢false (sym has ∙ (sym (ap (λ x. p x) same) ∙ hasnt))

abbrev is_signal : WorldEvent → Bool
is_signal (Phaser n (Sig t x)) = true
is_signal _ = false

abbrev is_pass : WorldEvent → Bool
is_pass (Phaser n (Pass t)) = true
is_pass _ = false

abbrev is_drop : WorldEvent → Bool
is_drop (Phaser n (Drop t)) = true
is_drop _ = false

abbrev is_birth : WorldEvent → Bool
is_birth (Finish f (Born c)) = true
is_birth _ = false

-- of a task that doesn't come to its end the plan alone tells what is due
plan_is : (e : Option WorldEvent) (k : Known) → IsDue e k → (k.plan ≡ Ending → ⊥) → slice_get (planned k k.plan) 0 ≡ e
plan_is e k due lives = by_child due.0 due.1
  where
    by_plan : (child : Known) (p : Plan) → (p ≡ Ending → ⊥) → slice_get (planned_with child k p) 0 ≡ e → slice_get (planned k p) 0 ≡ e
    by_plan child Idle lived first = first
    by_plan child (Signalling x b) lived first = first
    by_plan child (Turning i) lived first = first
    by_plan child (Spawning c ps made) lived first = first
    by_plan child Shutting lived first = first
    by_plan child Ending lived first = absurd (lived refl)

    by_child : (child : Option Known) → slice_get (still_of k child) 0 ≡ e → slice_get (planned k k.plan) 0 ≡ e
    by_child None first = first
    by_child (Some c) first = by_plan c k.plan lives first

-- ---- a signal

signals_first : (k : Known) (n : ℕ) (x : Option ℕ) (p : Plan) → (p ≡ Ending → ⊥)
    → slice_get (planned k p) 0 ≡ Some (Phaser n (Sig k.number x)) → (turns : Bool) × (p ≡ Signalling x turns)
signals_first k n x Idle lives first = absurd (cc first)
signals_first k n x (Signalling y true) lives first = (true, ap (λ z. Signalling z true) (number (filter owes k.holding) first))
  where
    passes : (hs : List Held) → slice_get (passes_of k.number hs) 0 ≡ Some (Phaser n (Sig k.number x)) → y ≡ x
    passes [] e = absurd (cc e)
    passes (h ∷ hs) e = absurd (cc e)

    number : (fs : List Held) → slice_get (signals_of k.number y fs ++ passes_of k.number k.holding) 0 ≡ Some (Phaser n (Sig k.number x)) → y ≡ x
    number [] e = passes k.holding e
    number (f ∷ fs) e = cc e
signals_first k n x (Signalling y false) lives first = (false, ap (λ z. Signalling z false) (number (filter owes k.holding) first))
  where
    number : (fs : List Held) → slice_get (signals_of k.number y fs ++ []) 0 ≡ Some (Phaser n (Sig k.number x)) → y ≡ x
    number [] e = absurd (cc e)
    number (f ∷ fs) e = cc e
signals_first k n x (Turning i) lives first =
    absurd (first_not is_signal (planned k (Turning i)) (Phaser n (Sig k.number x)) first refl (turning_not is_signal k i (λ m. refl)))
signals_first k n x (Spawning c ps made) lives first =
    absurd (first_not is_signal (planned k (Spawning c ps made)) (Phaser n (Sig k.number x)) first refl
    (spawning_not is_signal k c ps made (λ q. refl) (λ f. refl)))
signals_first k n x Shutting lives first =
    absurd (first_not is_signal (planned k Shutting) (Phaser n (Sig k.number x)) first refl (shutting_not is_signal k (λ m. refl) (λ f. refl)))
signals_first k n x Ending lives first = absurd (lives refl)

-- where a signal is due of a task that doesn't come to its end it has a plan to signal with that number
pub signals_with : (k : Known) (n : ℕ) (x : Option ℕ) → IsDue (Some (Phaser n (Sig k.number x))) k → (k.plan ≡ Ending → ⊥)
    → (turns : Bool) × (k.plan ≡ Signalling x turns)
signals_with k n x due lives = signals_first k n x k.plan lives (plan_is (Some (Phaser n (Sig k.number x))) k due lives)

-- ---- a pass

-- it owes no signal more
abbrev pub OwesNone : List Held → Type 0
OwesNone hs = filter owes hs ≡ []

-- the phaser stands at this place of those that it holds
abbrev pub StandsAt : ℕ → ℕ → List Held → Type 0
StandsAt n i hs = (h : Held) × (slice_get hs i ≡ Some h) × (h.phaser ≡ n)

-- a pass is the first of a turn, once no signal is owed, or the next one
abbrev pub IsNextPass : ℕ → Known → Plan → Type 0
IsNextPass n k p =
    ((y : Option ℕ) × (p ≡ Signalling y true) × OwesNone k.holding × StandsAt n 0 k.holding)
    ⊎ ((i : ℕ) × (p ≡ Turning i) × StandsAt n i k.holding)

at_first : (t n : ℕ) (hs : List Held) → slice_get (passes_of t hs) 0 ≡ Some (Phaser n (Pass t)) → StandsAt n 0 hs
at_first t n [] e = absurd (cc e)
at_first t n (h ∷ hs) e = (h, refl, cc e)

at_place : (t n i : ℕ) (hs : List Held) → slice_get (passes_of t (drop i hs)) 0 ≡ Some (Phaser n (Pass t)) → StandsAt n i hs
at_place t n zero hs e = at_first t n hs e
at_place t n (suc i) [] e = absurd (cc e)
at_place t n (suc i) (h ∷ hs) e = at_place t n i hs e

pass_first : (k : Known) (n : ℕ) (p : Plan) → (p ≡ Ending → ⊥)
    → slice_get (planned k p) 0 ≡ Some (Phaser n (Pass k.number)) → IsNextPass n k p
pass_first k n Idle lives first = absurd (cc first)
pass_first k n (Signalling y true) lives first =
    let both = owed (filter owes k.holding) first in inl (y, refl, both.0, both.1)
  where
    owed : (fs : List Held) → slice_get (signals_of k.number y fs ++ passes_of k.number k.holding) 0 ≡ Some (Phaser n (Pass k.number))
        → (fs ≡ []) × StandsAt n 0 k.holding
    owed [] e = (refl, at_first k.number n k.holding e)
    owed (f ∷ fs) e = absurd (cc e)
pass_first k n (Signalling y false) lives first = absurd (none (filter owes k.holding) first)
  where
    none : (fs : List Held) → slice_get (signals_of k.number y fs ++ []) 0 ≡ Some (Phaser n (Pass k.number)) → ⊥
    none [] e = absurd (cc e)
    none (f ∷ fs) e = absurd (cc e)
pass_first k n (Turning i) lives first = inr (i, refl, at_place k.number n i k.holding first)
pass_first k n (Spawning c ps made) lives first =
    absurd (first_not is_pass (planned k (Spawning c ps made)) (Phaser n (Pass k.number)) first refl
    (spawning_not is_pass k c ps made (λ q. refl) (λ f. refl)))
pass_first k n Shutting lives first =
    absurd (first_not is_pass (planned k Shutting) (Phaser n (Pass k.number)) first refl (shutting_not is_pass k (λ m. refl) (λ f. refl)))
pass_first k n Ending lives first = absurd (lives refl)

pub passes_next : (k : Known) (n : ℕ) → IsDue (Some (Phaser n (Pass k.number))) k → (k.plan ≡ Ending → ⊥) → IsNextPass n k k.plan
passes_next k n due lives = pass_first k n k.plan lives (plan_is (Some (Phaser n (Pass k.number))) k due lives)

-- ---- a birth, and a leaving

birth_first : (k : Known) (f c : ℕ) (p : Plan) → (p ≡ Ending → ⊥) → slice_get (planned k p) 0 ≡ Some (Finish f (Born c))
    → (d : ℕ) × (ps : List _) × (made : ℕ) × (p ≡ Spawning d ps made)
birth_first k f c Idle lives first = absurd (cc first)
birth_first k f c (Signalling y b) lives first =
    absurd (first_not is_birth (planned k (Signalling y b)) (Finish f (Born c)) first refl (signalling_not is_birth k y b (λ m. refl) (λ m. refl)))
birth_first k f c (Turning i) lives first =
    absurd (first_not is_birth (planned k (Turning i)) (Finish f (Born c)) first refl (turning_not is_birth k i (λ m. refl)))
birth_first k f c (Spawning d ps made) lives first = (d, ps, made, refl)
birth_first k f c Shutting lives first =
    absurd (first_not is_birth (planned k Shutting) (Finish f (Born c)) first refl (shutting_not is_birth k (λ m. refl) (λ g. refl)))
birth_first k f c Ending lives first = absurd (lives refl)

pub spawns_at_birth : (k : Known) (f c : ℕ) → IsDue (Some (Finish f (Born c))) k → (k.plan ≡ Ending → ⊥)
    → (d : ℕ) × (ps : List _) × (made : ℕ) × (k.plan ≡ Spawning d ps made)
spawns_at_birth k f c due lives = birth_first k f c k.plan lives (plan_is (Some (Finish f (Born c))) k due lives)

-- a task that comes to its end bears nobody
pub birth_lives : (k : Known) (f c : ℕ) → IsDue (Some (Finish f (Born c))) k → k.plan ≡ Ending → ⊥
birth_lives k f c due = by_child due.0 due.1
  where
    alone : slice_get (planned k Ending) 0 ≡ Some (Finish f (Born c)) → ⊥
    alone first = first_not is_birth (planned k Ending) (Finish f (Born c)) first refl (ending_not is_birth k (λ m. refl) (λ g. refl) (λ g u. refl))

    after : (ds : List Held) (t : ℕ) → slice_get (drops_of t ds ++ planned k Ending) 0 ≡ Some (Finish f (Born c)) → ⊥
    after [] t first = alone first
    after (d ∷ ds) t first = absurd (cc first)

    by_child : (child : Option Known) → slice_get (still_of k child) 0 ≡ Some (Finish f (Born c)) → k.plan ≡ Ending → ⊥
    by_child None first is = alone (sym (ap (λ p. slice_get (planned k p) 0) is) ∙ first)
    by_child (Some u) first is = after u.holding u.number (sym (ap (λ p. slice_get (planned_with u k p) 0) is) ∙ first)

drop_first : (k : Known) (n t : ℕ) (p : Plan) → (p ≡ Ending → ⊥) → slice_get (planned k p) 0 ≡ Some (Phaser n (Drop t)) → p ≡ Shutting
drop_first k n t Idle lives first = absurd (cc first)
drop_first k n t (Signalling y b) lives first =
    absurd (first_not is_drop (planned k (Signalling y b)) (Phaser n (Drop t)) first refl (signalling_not is_drop k y b (λ m. refl) (λ m. refl)))
drop_first k n t (Turning i) lives first =
    absurd (first_not is_drop (planned k (Turning i)) (Phaser n (Drop t)) first refl (turning_not is_drop k i (λ m. refl)))
drop_first k n t (Spawning d ps made) lives first =
    absurd (first_not is_drop (planned k (Spawning d ps made)) (Phaser n (Drop t)) first refl
    (spawning_not is_drop k d ps made (λ q. refl) (λ g. refl)))
drop_first k n t Shutting lives first = refl
drop_first k n t Ending lives first = absurd (lives refl)

pub shuts_at_leaving : (k : Known) (n t : ℕ) → IsDue (Some (Phaser n (Drop t))) k → (k.plan ≡ Ending → ⊥) → k.plan ≡ Shutting
shuts_at_leaving k n t due lives = drop_first k n t k.plan lives (plan_is (Some (Phaser n (Drop t))) k due lives)

-- ---- nothing

some_left : (ds es : List WorldEvent) (e : WorldEvent) → slice_get (ds ++ (es ++ e ∷ [])) 0 ≡ None → ⊥
some_left [] [] e none = cc none
some_left [] (x ∷ xs) e none = cc none
some_left (d ∷ ds) es e none = cc none

-- a task that comes to its end has something to make
pub idle_lives : (k : Known) → IsDue None k → k.plan ≡ Ending → ⊥
idle_lives k due = by_child due.0 due.1
  where
    by_plan : (p : Plan) → slice_get (planned k p) 0 ≡ None → p ≡ Ending → ⊥
    by_plan Ending none is = some_left (drops_of k.number k.holding) (shuts_of k.finishes) (end_of k) none
    by_plan Idle none is = absurd (cc is)
    by_plan (Signalling y b) none is = absurd (cc is)
    by_plan (Turning i) none is = absurd (cc is)
    by_plan (Spawning d ps made) none is = absurd (cc is)
    by_plan Shutting none is = absurd (cc is)

    with_child : (c : Known) (p : Plan) → slice_get (planned_with c k p) 0 ≡ None → p ≡ Ending → ⊥
    with_child c Ending none is = more (drops_of c.number c.holding) none
      where
        more : (ds : List WorldEvent) → slice_get (ds ++ planned k Ending) 0 ≡ None → ⊥
        more [] e = some_left (drops_of k.number k.holding) (shuts_of k.finishes) (end_of k) e
        more (d ∷ ds) e = absurd (cc e)
    with_child c Idle none is = absurd (cc is)
    with_child c (Signalling y b) none is = absurd (cc is)
    with_child c (Turning i) none is = absurd (cc is)
    with_child c (Spawning d ps made) none is = absurd (cc is)
    with_child c Shutting none is = absurd (cc is)

    by_child : (child : Option Known) → slice_get (still_of k child) 0 ≡ None → k.plan ≡ Ending → ⊥
    by_child None none = by_plan k.plan none
    by_child (Some c) none = with_child c k.plan none

-- what a plan has come to of which nothing is left
abbrev pub IsOver : List Held → Plan → Type 0
IsOver hs (Signalling y true) = OwesNone hs × (hs ≡ [])
IsOver hs (Signalling y false) = OwesNone hs
IsOver hs (Turning i) = drop i hs ≡ []
IsOver hs _ = Unit {0}

passes_none : (t : ℕ) (hs : List Held) → slice_get (passes_of t hs) 0 ≡ None → hs ≡ []
passes_none t [] e = refl
passes_none t (h ∷ hs) e = absurd (cc e)

over_first : (k : Known) (p : Plan) → slice_get (planned k p) 0 ≡ None → IsOver k.holding p
over_first k Idle none = tt
over_first k (Signalling y true) none = both (filter owes k.holding) none
  where
    both : (fs : List Held) → slice_get (signals_of k.number y fs ++ passes_of k.number k.holding) 0 ≡ None → (fs ≡ []) × (k.holding ≡ [])
    both [] e = (refl, passes_none k.number k.holding e)
    both (f ∷ fs) e = absurd (cc e)
over_first k (Signalling y false) none = only (filter owes k.holding) none
  where
    only : (fs : List Held) → slice_get (signals_of k.number y fs ++ []) 0 ≡ None → fs ≡ []
    only [] e = refl
    only (f ∷ fs) e = absurd (cc e)
over_first k (Turning i) none = passes_none k.number (drop i k.holding) none
over_first k (Spawning d ps made) none = tt
over_first k Shutting none = tt
over_first k Ending none = tt

pub is_over : (k : Known) → IsDue None k → IsOver k.holding k.plan
is_over k due = over_first k k.plan (plan_is None k due (idle_lives k due))
