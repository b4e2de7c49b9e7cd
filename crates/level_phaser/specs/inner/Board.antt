-- The rule of the table: what holds between any two steps, whichever threads make them.
-- Word 0 counts the tasks that haven't come in the phase in which all stand, and is greater by `busy` while
-- somebody holds what is shared. Word 16 is the number of rounds whose tasks may go on. Word 17 is 0, or 1 more than the
-- phase in which the table was closed. From word 24 on each accumulator
-- has a word, which `Folds` tells of. From word 32 on each task below
-- 256 has a row of eight words. In the first of them it shows a value that it sends.
use Rattle.std.specs.Prelude.{◌*◌, ◌/◌, ◌%◌, zero, suc, ◌≡◌, ◌⊎◌, ℕ, ◌+◌, ◌<◌, ◌≤◌, ◌==◌, if◌then◌else◌, Bool, true, List, [], ◌∷◌, length, slice_index}
use Rattle.std.specs.Int.{cast_signed, w32}
use mathlib.Core.Option.{Option, some, none}
use lib.ListN.{get_elem?}
use Rattle.atomic_table.specs.Table.{State}
use Rattle.told_history.specs.Tails.{IsTail}
use Rattle.phase_model.specs.declared.history.Event.{Event}
use Rattle.phase_model.specs.declared.history.Event.TheVariants.{Send}
use Rattle.level_phaser.specs.declared.view.SeatedTask.{SeatedTask}
use Rattle.level_phaser.specs.declared.view.Role.{Role}
use Rattle.level_phaser.specs.declared.view.Role.TheVariants.{Stands, Came, Last, Holder, Gone}
use Rattle.level_phaser.specs.declared.view.SeatView.{SeatView}
use Rattle.phase_model.specs.declared.call.Call.{Call}
use Rattle.phase_model.specs.Replies.{Reply}
use Rattle.level_phaser.specs.inner.Folds.{Begins}
use Rattle.level_phaser.specs.Deeds.{deeds_of, with_signal, with_sends}
use Rattle.level_phaser.specs.Views.{signalled, view_of, idle_view, opening_view}

-- while somebody holds what is shared, word 0 is greater by this
abbrev pub busy : ℕ
busy = 4611686018427387904

-- the value that a word of a row stands for, if it does for any. The word is 1 more than the accumulator and, in 32 bits,
-- the value
abbrev pub sent_in : ℕ → ℕ → List Event
sent_in task zero = []
sent_in task (suc n) = Send task (n / 4294967296) (cast_signed w32 (n % 4294967296)) ∷ []

-- the accumulator that it names
abbrev pub accumulator_in : ℕ → ℕ
accumulator_in zero = 0
accumulator_in (suc n) = n / 4294967296

-- a word of a row stands for no value, or names an accumulator of so many
abbrev pub IsSound : ℕ → ℕ → Type 0
IsSound width zero = Unit {0}
IsSound width (suc n) = n / 4294967296 < width

-- f of each, added up
abbrev pub total : {A : Type 0} → (A → ℕ) → List A → ℕ
total f [] = 0
total f (x ∷ xs) = f x + total f xs

-- what the rows of these tasks show
abbrev pub Shown : List ℕ → List SeatedTask → Type 0
Shown words [] = Unit {0}
Shown words (c ∷ cs) = (sent_in c.task (slice_index words (32 + 8 * c.task)) ≡ c.pending) × Shown words cs

module _ {S : Type 0} where
  -- of other tasks
  abbrev pub with_tasks : SeatView S → List SeatedTask → SeatView S
  with_tasks v tasks = view_of tasks v.phase v.role v.seen v.heard v.width

  -- a note that was read
  abbrev pub spent : SeatView S
  spent = view_of [] 0 Gone [] 0 0

  -- how many tasks a seat has
  abbrev pub parts_of : SeatView S → ℕ
  parts_of v = length v.tasks

  -- how many of its tasks are to come in this phase: those that haven't, and those that came in the one before
  abbrev pub missing_in : Role S → ℕ → ℕ → ℕ → ℕ
  missing_in Stands parts at phase = parts
  missing_in Came parts at phase = if at == phase then 0 else parts
  missing_in (Last x ws) parts at phase = 0
  missing_in (Holder x) parts at phase = parts
  missing_in Gone parts at phase = 0

  -- the same of a view
  abbrev pub missing : ℕ → SeatView S → ℕ
  missing phase v = missing_in v.role (length v.tasks) v.phase phase

  -- the last to come has found the rows as they are
  abbrev pub IsFound : List ℕ → Role S → Type 0
  IsFound words Stands = Unit {0}
  IsFound words Came = Unit {0}
  IsFound words (Last x ws) = (t : ℕ) → slice_index words (32 + 8 * t) ≡ slice_index ws (32 + 8 * t)
  IsFound words (Holder x) = Unit {0}
  IsFound words Gone = Unit {0}

  -- what a seat's thread knows of the rows, if there are so many accumulators
  abbrev pub Knows : ℕ → List ℕ → SeatView S → Type 0
  Knows width words v = Shown words v.tasks × IsFound words v.role × (v.width ≤ width)

  -- each row stands for a value that can be told, or for none, and each seat's thread knows its own
  pub record Rows (width : ℕ) (words : List ℕ) (views : List (SeatView S)) : Type 0 where
    pub sound : (t : ℕ) → IsSound width (slice_index words (32 + 8 * t))
    pub each : (i : ℕ) (v : SeatView S) → get_elem? views i ≡ some v → Knows width words v

  module _ (events : S → List Event) (registered : ℕ → S → Bool) (count : S → ℕ) (width : S → ℕ)
      (ready : ℕ → S → Type 0) where
    -- each task is registered and is of this seat, and did just this
    abbrev pub Each : (ℕ → ℕ) → S → ℕ → List SeatedTask → Type 0
    Each seat value i [] = Unit {0}
    Each seat value i (c ∷ cs) =
        (registered c.task value ≡ true)
        × (seat c.task ≡ i)
        × (deeds_of c.task (events value) ≡ c.deeds)
        × Each seat value i cs

    -- each task has told what its row shows by these words, and then signalled once more
    abbrev pub Told : List ℕ → S → S → Type 0
    Told words x y =
        (task : ℕ) → registered task x ≡ true → (registered task y ≡ true)
        × (deeds_of task (events y)
        ≡ with_signal (with_sends (sent_in task (slice_index words (32 + 8 * task))) (deeds_of task (events x))))

    -- the same, in a history that goes on, with as many tasks and accumulators
    abbrev pub AllTold : List ℕ → S → S → Type 0
    AllTold words x y = IsTail (events x) (events y) × (count y ≡ count x) × (width y ≡ width x) × Told words x y

    -- a seat in this role fits the phase, the word, the value and who holds it: its tasks stand, or came in this
    -- phase, or came in the one before and don't know yet that its round is over
    abbrev pub FitsIn : (ℕ → ℕ) → Role S → List SeatedTask → ℕ → ℕ → ℕ → S → ℕ → ℕ → Type 0
    FitsIn seat Stands tasks at phase word value holder i =
        (0 < length tasks) × (at ≡ phase) × Each seat value i tasks
    FitsIn seat Came tasks at phase word value holder i =
        (0 < length tasks)
        × (((at ≡ phase) × Each seat value i tasks)
        ⊎ ((at + 1 ≡ phase) × Each seat value i (signalled tasks)))
    FitsIn seat (Last x ws) tasks at phase word value holder i =
        (at ≡ phase) × (word ≡ 0) × (x ≡ value) × (i ≡ holder) × Each seat value i tasks
    FitsIn seat (Holder x) tasks at phase word value holder i =
        (at ≡ phase) × (busy ≤ word) × (x ≡ value) × (i ≡ holder) × Each seat value i tasks
    FitsIn seat Gone tasks at phase word value holder i = (at ≤ phase) × (tasks ≡ [])

    -- what a seat has seen begins the history, and what it has heard of was reached
    abbrev pub Fits : (ℕ → ℕ) → ℕ → ℕ → S → ℕ → ℕ → SeatView S → Type 0
    Fits seat phase word value holder i v =
        (IsTail v.seen (events value) × (v.heard ≤ phase))
        × FitsIn seat v.role v.tasks v.phase phase word value holder i

    -- the value is at home, or all have come, or somebody holds it
    abbrev pub Homes : ℕ → S → List (Option S) → Type 0
    Homes word value homes =
        ((homes ≡ some value ∷ []) × (word < busy)) ⊎ ((homes ≡ none ∷ []) × ((word ≡ 0) ⊎ (busy ≤ word)))

  -- nobody has closed the table, or it was closed in this phase: then a seat without tasks holds the value, and never gives
  -- it back
  abbrev pub IsShut : ℕ → ℕ → List (SeatView S) → Type 0
  IsShut word phase views =
      (word ≡ 0)
      ⊎ ((word ≡ phase + 1) × (i : ℕ) × (v : SeatView S) × (x : S)
      × (get_elem? views i ≡ some v) × (v.role ≡ Holder x) × (v.tasks ≡ []))

  -- the table isn't open yet: only who made it has a seat, all words are 0, and the value is at home or with that seat
  abbrev pub IsUnopened : State S (SeatView S) → Type 0
  IsUnopened s =
      (length s.words ≡ 2080) × ((i : ℕ) → slice_index s.words i ≡ 0)
      × (((x : S) × (s.homes ≡ some x ∷ []) × (s.views ≡ idle_view ∷ []))
      ⊎ ((s.homes ≡ none ∷ []) × (s.views ≡ opening_view ∷ [])))

  module _ (events : S → List Event) (registered : ℕ → S → Bool) (count : S → ℕ) (width : S → ℕ)
      (replies : S → Call → Reply) (ready : ℕ → S → Type 0) where
    -- there are a phase and a value that all seats fit, and the words are as above
    pub record IsLevel (s : State S (SeatView S)) : Type 0 where
      pub phase : ℕ
      pub value : S
      pub holder : ℕ
      pub seat : ℕ → ℕ
      pub held : Bool
      pub wide : length s.words ≡ 2080
      pub parts : total parts_of s.views ≡ count value
      pub small : count value < 4294967296
      pub word : slice_index s.words 0 ≡ total (missing phase) s.views + (if held then busy else 0)
      pub over : slice_index s.words 16 ≤ phase
      pub shut : IsShut (slice_index s.words 17) phase s.views
      pub home : Homes events registered count width ready (slice_index s.words 0) value s.homes
      pub each : (i : ℕ) (v : SeatView S) → get_elem? s.views i ≡ some v
          → Fits events registered count width ready seat phase (slice_index s.words 0) value holder i v
      pub rows : Rows (width value) s.words s.views
      pub begins : Begins events registered replies ready width phase s.words s.views value
      pub stands : ready phase value

    -- the table isn't open yet, or it is as above
    abbrev pub IsBoard : State S (SeatView S) → Type 0
    IsBoard s = IsUnopened s ⊎ IsLevel s
