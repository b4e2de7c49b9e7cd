-- The numbers of a phaser's tasks: the runtime's, and those of the story.
use Rattle.std.specs.Prelude.{ℕ, ◌+◌, if◌then◌else◌, List, [], ◌∷◌, ◌++◌, nat_eq, Option, is_some, Result, Ok, Err}
use Rattle.std.specs.Option.{option_map_or}
use Rattle.std.specs.Map.{lookup, remove_entry}
use Rattle.phase_model.specs.declared.history.Event.{Event}
use Rattle.phase_model.specs.declared.history.Event.TheVariants.{Reg, Sig, Claim, Did, Pass, Send, Look as Looked, Drop}
use Rattle.phaser_judge.specs.declared.event.Named.{Named}
use Rattle.phaser_judge.specs.declared.event.Named.TheVariants as named
use Rattle.phaser_judge.specs.declared.refused.Refused.{Refused}
use Rattle.phaser_judge.specs.declared.refused.Refused.TheVariants.{MadeAlready, NotRegistered, RegisteredAlready}

-- the story's number of the task that the runtime calls t
abbrev pub number_of : List (ℕ × ℕ) → ℕ → Option ℕ
number_of names t = lookup (nat_eq t) names

-- the event of that number, if the task is registered
abbrev pub by_number : List (ℕ × ℕ) → ℕ → (ℕ → Event) → Result Event Refused
by_number names t event = option_map_or (λ n. Ok (event n)) (number_of names t) (Err NotRegistered)

-- the event with the story's numbers, or why it has none, where these tasks are registered, and n is the number that
-- comes next
abbrev pub numbered : List (ℕ × ℕ) → ℕ → Named → Result Event Refused
numbered names n (named.Make t m ops b) = Err MadeAlready
numbered names n (named.Reg q t m) =
    if is_some (number_of names t)
    then Err RegisteredAlready
    else by_number names q (λ k. Reg k n m)
numbered names n (named.Sig t x) = by_number names t (λ k. Sig k x)
numbered names n (named.Claim t) = by_number names t (λ k. Claim k)
numbered names n (named.Did t) = by_number names t (λ k. Did k)
numbered names n (named.Pass t) = by_number names t (λ k. Pass k)
numbered names n (named.Send t a v) = by_number names t (λ k. Send k a v)
numbered names n (named.Look t a x) = by_number names t (λ k. Looked k a x)
numbered names n (named.Drop t) = by_number names t (λ k. Drop k)

-- the tasks after the event
abbrev pub names_with : List (ℕ × ℕ) → ℕ → Named → List (ℕ × ℕ)
names_with names n (named.Reg q t m) = names ++ (t, n) ∷ []
names_with names n (named.Drop t) = remove_entry (nat_eq t) names
names_with names n _ = names

-- the number that comes next after the event
abbrev pub next_after : ℕ → Named → ℕ
next_after n (named.Reg q t m) = n + 1
next_after n _ = n
