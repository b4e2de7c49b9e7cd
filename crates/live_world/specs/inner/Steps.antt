-- What each call makes of the slots.
use Rattle.std.specs.Prelude.{ℕ, ◌≡◌, ◌<◌, ◌≤◌, ◌+◌, ◌-◌, ◌==◌, ◌⊎◌, nat_lt, if◌then◌else◌, true, false, List, [], ◌∷◌, ◌++◌, length, get_or, set, Option, Some, None}
use Rattle.phase_modes.specs.Lists.{is_empty}
use Rattle.phase_modes.specs.declared.refusal.Refusal.{Refusal}
use Rattle.phase_modes.specs.declared.refusal.Refusal.TheVariants.{NotNow, ActsFull, TasksFull, FinishesFull, FinishOpen, Memory}
use Rattle.live_world.specs.Live.{TaskLine, FinishLine, LiveState, blank_task, task_at, finish_at, inner_at, is_there, is_free}
use Rattle.live_world.specs.declared.at.FinishAt.{FinishAt}
use Rattle.live_world.specs.declared.at.TaskAt.{TaskAt}

-- the task may begin an act
abbrev pub MayAct : LiveState → TaskAt → Type 0
MayAct s t =
    (is_there s t ≡ true)
    × (is_free (task_at s t.slot) ≡ true)
    × ((task_at s t.slot).acts < 4611686018427387904)
    × (t.slot < length s.tasks)

-- it may not, because of this
abbrev pub MayNotAct : LiveState → TaskAt → Refusal → Type 0
MayNotAct s t r =
    ((r ≡ NotNow) × (is_there s t ≡ false))
    ⊎ ((r ≡ NotNow) × (is_there s t ≡ true) × (is_free (task_at s t.slot) ≡ false))
    ⊎ ((r ≡ ActsFull) × (is_there s t ≡ true) × (is_free (task_at s t.slot) ≡ true)
    × (4611686018427387904 ≤ (task_at s t.slot).acts))

-- a slot of the list is written, or the next one is added
abbrev pub put_at : {X : Type 0} → List X → ℕ → X → List X
put_at xs i x = if nat_lt i (length xs) then set xs i x else xs ++ x ∷ []

-- the world before the first event: the root runs, in finish 0
abbrev pub first_state : LiveState
first_state = record {
  tasks = record blank_task { taken = true } ∷ [];
  finishes = record { number = 0; taken = true; alive = 0; waiter = None } ∷ [];
  next_task = 1;
  next_finish = 1;
}

-- the task in slot i has opened the next finish, in slot j
abbrev pub opening : LiveState → ℕ → FinishAt
opening s j = record { slot = j; number = s.next_finish }

abbrev pub opened : LiveState → ℕ → ℕ → LiveState
opened s i j = record s {
  tasks = set s.tasks i (record (task_at s i) {
    finishes = opening s j ∷ (task_at s i).finishes;
    acts = (task_at s i).acts + 1;
  });
  finishes = put_at s.finishes j (record { number = s.next_finish; taken = true; alive = 0; waiter = None });
  next_finish = s.next_finish + 1;
}

-- the task in slot i has born the next one in its innermost finish, in slot j
abbrev pub spawned : LiveState → ℕ → ℕ → LiveState
spawned s i j = record s {
  tasks = put_at (set s.tasks i (record (task_at s i) { acts = (task_at s i).acts + 1 })) j
      (record blank_task { number = s.next_task; taken = true; home = inner_at (task_at s i) });
  finishes = set s.finishes (inner_at (task_at s i)).slot
      (record (finish_at s (inner_at (task_at s i)).slot) { alive = (finish_at s (inner_at (task_at s i)).slot).alive + 1 });
  next_task = s.next_task + 1;
}

-- an opening is refused because of this
abbrev pub OpenRefused : LiveState → TaskAt → Refusal → Type 0
OpenRefused s t r =
    MayNotAct s t r
    ⊎ (MayAct s t × ((r ≡ Memory) ⊎ ((r ≡ FinishesFull) × (4611686018427387904 ≤ s.next_finish))))

-- a spawn is refused because of this
abbrev pub SpawnRefused : LiveState → TaskAt → Refusal → Type 0
SpawnRefused s t r =
    MayNotAct s t r
    ⊎ (MayAct s t × ((r ≡ Memory)
    ⊎ ((r ≡ NotNow) × (length s.finishes ≤ (inner_at (task_at s t.slot)).slot))
    ⊎ ((r ≡ TasksFull) × (4611686018427387904 ≤ s.next_task))))

-- one task of a finish has ended; if it was the last one, nobody waits for the finish any more
abbrev pub emptier : FinishLine → FinishLine
emptier l = record l { alive = l.alive - 1; waiter = if (l.alive - 1) == 0 then None else l.waiter }

-- the slot of the task that need not wait any more
abbrev pub freed_by : FinishLine → Option ℕ
freed_by l = if (l.alive - 1) == 0 then l.waiter else None

-- the task of this slot isn't parked any more
abbrev pub unparked : Option ℕ → List TaskLine → List TaskLine
unparked None ks = ks
unparked (Some i) ks = set ks i (record (get_or ks i blank_task) { parked = false })

-- the task in slot i has ended
abbrev pub left : LiveState → ℕ → LiveState
left s i = record s {
  tasks = unparked (freed_by (finish_at s (task_at s i).home.slot)) (set s.tasks i (record (task_at s i) { taken = false }));
  finishes = set s.finishes (task_at s i).home.slot (emptier (finish_at s (task_at s i).home.slot));
}

-- a task other than the root may end
abbrev pub MayEnd : LiveState → TaskAt → Type 0
MayEnd s t =
    (is_there s t ≡ true)
    × (is_free (task_at s t.slot) ≡ true)
    × (is_empty (task_at s t.slot).finishes ≡ true)
    × ((t.number == 0) ≡ false)
    × (t.slot < length s.tasks)
    × ((task_at s t.slot).home.slot < length s.finishes)

-- it may not, because of this
abbrev pub EndRefused : LiveState → TaskAt → Refusal → Type 0
EndRefused s t r =
    ((r ≡ NotNow) × (is_there s t ≡ false))
    ⊎ ((r ≡ NotNow) × ((t.number == 0) ≡ true))
    ⊎ ((r ≡ NotNow) × (is_there s t ≡ true) × (is_free (task_at s t.slot) ≡ false))
    ⊎ ((r ≡ FinishOpen) × (is_there s t ≡ true) × (is_free (task_at s t.slot) ≡ true)
    × (is_empty (task_at s t.slot).finishes ≡ false))
    ⊎ ((r ≡ NotNow) × (length s.finishes ≤ (task_at s t.slot).home.slot))
