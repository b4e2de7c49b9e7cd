-- The rule of one deque: what was put is what all passes took together with what it holds.
use Rattle.std.specs.Prelude.{◌≡◌, ℕ, ◌+◌, List, [], ◌∷◌}
use mathlib.Core.Option.{some}
use lib.ListN.{get_elem?}
use Rattle.task_queue.specs.declared.rule.Hand.{Hand}

-- the weights of the items, added up
abbrev pub weigh : {X : Type 0} → (X → ℕ) → List X → ℕ
weigh h [] = 0
weigh h (x ∷ xs) = h x + weigh h xs

-- lists of items, weighed in turn: the list at place k of all by h k, from place k on
abbrev pub each_from : {X : Type 0} → ℕ → (ℕ → X → ℕ) → List (List X) → ℕ
each_from k h [] = 0
each_from k h (xs ∷ rest) = weigh (h k) xs + each_from (k + 1) h rest

module _ {T : Type 0} where
  abbrev pub hand : ℕ → List T → List T → Hand T
  hand parts put taken = record { parts = parts; put = put; taken = taken }

  -- a pass with no part has put and taken nothing
  abbrev pub IdleIsEmpty : List (Hand T) → Type 0
  IdleIsEmpty views =
      (port : ℕ) (v : Hand T) → get_elem? views port ≡ some v → v.parts ≡ 0 → (v.put ≡ []) × (v.taken ≡ [])

  -- the passes have 17 parts. However the items are weighed, what was put weighs what was taken and what the
  -- deque holds
  abbrev pub Balanced : List T → List (Hand T) → Type 0
  Balanced items views =
      (weigh (λ v. v.parts) views ≡ 17)
      × ((h : T → ℕ) → weigh (λ v. weigh h v.put) views ≡ weigh (λ v. weigh h v.taken) views + weigh h items)
      × IdleIsEmpty views
