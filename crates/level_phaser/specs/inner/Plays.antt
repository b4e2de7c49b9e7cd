-- What each step on the table tells the thread that makes it.
use Rattle.std.specs.Prelude.{ℤ, true, Some, Ok, set, ◌*◌, length, slice_index, ◌≡◌, ◌≢◌, ℕ, ◌+◌, ◌<◌, ◌≤◌, Bool, List, [], ◌∷◌}
use Rattle.atomic_table.specs.Table.{Me, Step}
use Rattle.told_history.specs.Tails.{IsTail}
use Rattle.phase_model.specs.declared.history.Event.{Event}
use Rattle.level_phaser.specs.declared.view.SeatView.{SeatView}
use Rattle.level_phaser.specs.declared.view.Role.TheVariants.{Stands, Came, Last, Holder, Gone}
use Rattle.level_phaser.specs.Deeds.{deeds}
use Rattle.level_phaser.specs.Views.{seats_in, opening_view, seated, seated_as, view_of, with_role, with_pending, with_seen, without_tasks}
use Rattle.level_phaser.specs.inner.Board.{busy, sent_in, IsSound}
use Rattle.level_phaser.specs.inner.Keeping.{HasSeized}
use Rattle.level_phaser.specs.Seen.{AreSeated, GoneOn, IsClosed, IsReplied}
use Rattle.level_phaser.specs.declared.view.Deeds.{Deeds}
use Rattle.level_phaser.specs.inner.Folds.{fold_in}
use Rattle.phase_model.specs.declared.call.Call.{Call}
use Rattle.phase_model.specs.declared.call.Call.TheVariants.{Look as look}
use Rattle.phase_model.specs.declared.op.Look.{Look as LookOf}
use Rattle.phase_model.specs.Replies.{Reply}
use Rattle.phase_model.specs.Answers.{look_result}

-- a seat's view, and what it holds
abbrev M : Type 0 → Type 0
M S = Me S (SeatView S)

module _ {S : Type 0} (events : S → List Event) (registered : ℕ → S → Bool) (ready : ℕ → S → Type 0) where
  -- the seat holds what is shared; its tasks are registered, and did just what it knows
  abbrev pub Claimed : M S → M S → Type 0
  Claimed m m' =
      (x : S)
      × (m' ≡ (with_role m.0 (Holder x), (0, x) ∷ []))
      × ready m.0.phase x
      × AreSeated events registered ready m.0.tasks x
      × IsTail m.0.seen (events x)

-- the seat came last in this phase, and has what is shared
abbrev pub IsLast : {S : Type 0} → (S → List Event) → (ℕ → S → Type 0) → ℕ → M S → Type 0
IsLast {S} events ready phase m =
    (took : S × List ℕ)
    × (m.0.role ≡ Last took.0 took.1)
    × (m.1 ≡ (0, took.0) ∷ [])
    × (m.0.phase ≡ phase)
    × ready phase took.0
    × IsTail m.0.seen (events took.0)
    × (length took.1 ≡ 2080)

-- who made the table has the value that nobody uses
abbrev pub taken : {S : Type 0} → Step S → M S → ℕ → M S → Type 0
taken {S} st m n m' = (x : S) × (m' ≡ (opening_view, (0, x) ∷ []))

-- it has given back another value, all of whose tasks stand in the seat, and has seen the history
abbrev pub opened : {S : Type 0} → (S → List Event) → (S → ℕ) → (S → List ℕ) → (ℕ → S → Type 0)
    → Step S → M S → ℕ → M S → Type 0
opened {S} events width tasks ready st m n m' =
    (y : S) → m.1 ≡ (0, y) ∷ []
    → (p : ℕ) × ready p y × (m' ≡ (view_of (seats_in (events y) (tasks y)) p Stands (events y) 0 (width y), []))

-- if the word was as expected the keeper has what is shared
abbrev pub seized : {S : Type 0} → (S → List Event) → (S → ℕ) → (ℕ → S → Type 0) → Step S → M S → ℕ → M S → Type 0
seized {S} events count ready st m n m' =
    (n ≡ st.first → HasSeized events count ready m m') × (n ≢ st.first → m' ≡ m)

module _ {S : Type 0} (events : S → List Event) (registered : ℕ → S → Bool) (width : S → ℕ) (newest : S → ℕ)
    (replies : S → Call → Reply) (ready : ℕ → S → Type 0) where
  -- who comes last has what is shared
  abbrev pub came : Step S → M S → ℕ → M S → Type 0
  came st m n m' =
      (n ≡ 1
      → (took : S × List ℕ) × (m' ≡ (with_role m.0 (Last took.0 took.1), (0, took.0) ∷ []))
      × ready m.0.phase took.0 × IsTail m.0.seen (events took.0)
      × (length took.1 ≡ 2080))
      × (n ≢ 1 → m' ≡ (with_role m.0 Came, []))

  -- the round of the seat's phase is over if the word has risen above that
  abbrev pub looked : Step S → M S → ℕ → M S → Type 0
  looked st m n m' =
      (m.0.phase < n → GoneOn events registered ready m.0 m'.0 × (m'.1 ≡ m.1)) × (n ≤ m.0.phase → m' ≡ m)

  -- the table isn't closed if the word is 0. If it is, the word is 1 more than the phase: then the round of the seat's
  -- phase is over, or the seat's tasks haven't signalled in it
  abbrev pub looked_shut : Step S → M S → ℕ → M S → Type 0
  looked_shut st m n m' =
      (m.0.phase + 1 < n → GoneOn events registered ready m.0 m'.0 × (m'.1 ≡ m.1))
      × (n ≤ m.0.phase + 1 → (m' ≡ m) × (0 < n → IsClosed events registered ready m.0))

  -- the last has made the round, and given back what is shared
  abbrev pub ended : Step S → M S → ℕ → M S → Type 0
  ended st m n m' =
      GoneOn events registered ready m.0 m'.0 × (m'.1 ≡ [])

  -- the last knows that the word of a fold is this
  abbrev pub folded : Step S → M S → ℕ → M S → Type 0
  folded st m n m' =
      (x : S) (ws : List ℕ) → m.0.role ≡ Last x ws → m' ≡ (with_role m.0 (Last x (set ws st.word st.first)), m.1)

  -- what the word of a fold stands for is what a fresh task is answered, with a history that goes on from what it
  -- has seen
  abbrev pub fetched : Step S → M S → ℕ → M S → Type 0
  fetched st m n m' =
      (m' ≡ m)
      × ((a t : ℕ) (d : Deeds) (es : List Event) (l : LookOf ℤ) → st.word ≡ 24 + a → a < m.0.width
      → m.0.role ≡ Stands → m.0.tasks ≡ seated_as t d es true ∷ [] → fold_in n ≡ Some l
      → IsReplied events replies (λ reply. look_result reply ≡ Ok l) (look t a) m.0)

  -- if the word was as expected the seat holds what is shared
  abbrev pub claimed : Step S → M S → ℕ → M S → Type 0
  claimed st m n m' = (n ≡ st.first → Claimed events registered ready m m') × (n ≢ st.first → m' ≡ m)

  -- the holder has given back what is shared
  abbrev pub released : Step S → M S → ℕ → M S → Type 0
  released st m n m' = m' ≡ (with_role m.0 Stands, [])

  -- the same, and it has seen all of the history
  abbrev pub shown : Step S → M S → ℕ → M S → Type 0
  shown st m n m' = (y : S) → m.1 ≡ (0, y) ∷ [] → m' ≡ (with_seen m.0 (events y), [])

  -- the holder has given back what is shared, with a task more
  abbrev pub joined : Step S → M S → ℕ → M S → Type 0
  joined st m n m' =
      (y : S) → m.1 ≡ (0, y) ∷ []
      → (es : List Event)
      × (m' ≡ (
        view_of (seated (newest y) (deeds m.0.phase []) es ∷ m.0.tasks) m.0.phase Stands m.0.seen
            m.0.heard m.0.width,
        [],
      ))
      × (256 ≤ newest y → es ≡ [])

  -- the holder's task has left: if nobody was missing but that one, the holder is the last; else it has given back
  -- what is shared
  abbrev pub left : Step S → M S → ℕ → M S → Type 0
  left st m n m' =
      (y : S) → m.1 ≡ (0, y) ∷ []
      → (n ≡ busy + 1 → (ws : List ℕ) × (m' ≡ (without_tasks m.0 (Last y ws) (events y), (0, y) ∷ [])) × (length ws ≡ 2080))
      × (n ≢ busy + 1 → m' ≡ (without_tasks m.0 Gone (events y), []))

  -- no phase that was heard of lies beyond that of a task which hasn't come
  abbrev pub heeded : Step S → M S → ℕ → M S → Type 0
  heeded st m n m' = (m' ≡ m) × (m.0.role ≡ Stands → m.0.heard ≤ m.0.phase)

  -- the row of the seat's task shows what the word stands for
  abbrev pub showed : Step S → M S → ℕ → M S → Type 0
  showed st m n m' = (task : ℕ) → st.word ≡ 32 + 8 * task → m' ≡ (with_pending m.0 (sent_in task st.first), m.1)

  -- the last has found this word, and if it stands for a value that can be told
  abbrev pub found : Step S → M S → ℕ → M S → Type 0
  found st m n m' =
      (m' ≡ m)
      × ((x : S) (ws : List ℕ) → m.0.role ≡ Last x ws → (n ≡ slice_index ws st.word) × IsSound (width x) n)

  -- nothing changes but the word
  abbrev pub raised : Step S → M S → ℕ → M S → Type 0
  raised st m n m' = m' ≡ m
