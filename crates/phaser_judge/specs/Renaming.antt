-- The history of each phaser in the events of a runtime, with the tasks' numbers replaced by fresh ones in the order of
-- their registration: 0 for the maker, and so on.
use Rattle.std.specs.Prelude.{ℕ, ◌≡◌, ◌↔◌, Bool, true, false, ◌&&◌, ◌==◌, if◌then◌else◌, List, [], ◌∷◌, ◌++◌, Option, Some, None, unwrap_or, Result, Ok, Err}
use Rattle.std.specs.Option.{option_map_or}
use Rattle.phase_modes.specs.Lists.{is_empty}
use Rattle.phase_model.specs.declared.history.Event.{Event}
use Rattle.phase_model.specs.declared.history.Event.TheVariants.{Make}
use Rattle.phase_model.specs.declared.terms.Terms.{Terms}
use Rattle.phase_model.specs.Rules.{no_terms, is_legal}
use Rattle.phaser_core.specs.LongLife.{long_limits}
use Rattle.phaser_judge.specs.declared.event.Named.{Named}
use Rattle.phaser_judge.specs.declared.event.Named.TheVariants as named
use Rattle.phaser_judge.specs.declared.event.NamedEvent.{NamedEvent}
use Rattle.phaser_judge.specs.declared.refused.Refused.{Refused}
use Rattle.phaser_judge.specs.Numbers.{numbered, names_with, next_after}
use Rattle.phaser_judge.specs.Standings.{standing, may_come}

-- how many numbers were given out in these events of one phaser, the newest first
abbrev pub next : List Named → ℕ
next [] = 0
next (named.Make t m ops b ∷ h) = 1
next (e ∷ h) = next_after (next h) e

-- the tasks that are registered after them, each with its fresh number
abbrev pub who : List Named → List (ℕ × ℕ)
who [] = []
who (named.Make t m ops b ∷ h) = (t, 0) ∷ []
who (e ∷ h) = names_with (who h) (next h) e

-- what the phaser was made with
abbrev pub terms_of : List Named → Terms
terms_of [] = no_terms
terms_of (named.Make t m ops b ∷ h) = record { ops = ops; bound = Some (unwrap_or b 65536) }
terms_of (e ∷ h) = terms_of h

-- a history with an event that has its numbers
abbrev pub history_with : Option (List Event) → Result Event Refused → Option (List Event)
history_with (Some past) (Ok x) = Some (x ∷ past)
history_with (Some past) (Err r) = None
history_with None x = None

-- the history with the fresh numbers; none if the phaser is made again, or a task is named that isn't registered, or
-- one is registered that is
abbrev pub renamed : List Named → Option (List Event)
renamed [] = Some []
renamed (named.Make t m ops b ∷ []) = Some (Make 0 m ∷ [])
renamed (e ∷ h) = history_with (renamed h) (numbered (who h) (next h) e)

-- these events of one phaser, with the fresh numbers, are a legal history
abbrev pub is_legal_life : List Named → Bool
is_legal_life h = option_map_or (λ past. is_legal long_limits (terms_of h) past) (renamed h) false

-- one event more of a phaser: once all tasks have left, it begins anew
abbrev pub life_with : List Named → Named → List Named
life_with h e = if is_empty (who h) then e ∷ [] else e ∷ h

-- the events of phaser p since it was last made, the newest first
abbrev pub since_made : ℕ → List NamedEvent → List Named
since_made p [] = []
since_made p (e ∷ es) = if e.phaser == p then life_with (since_made p es) e.event else since_made p es

-- at every moment of these events each phaser's history since it was last made is legal
abbrev pub AreLegal : List NamedEvent → Type 0
AreLegal es = (later before : List NamedEvent) (p : ℕ) → es ≡ later ++ before
    → is_legal_life (since_made p before) ≡ true

-- each event may come after those before it
abbrev pub all_come : List NamedEvent → Bool
all_come [] = true
all_come (e ∷ es) = may_come (standing e.phaser es) e.event && all_come es

-- a judge accepts all events of a list exactly if at every moment each phaser's history is legal
abbrev pub AcceptedAreLegal : Type 0
AcceptedAreLegal = (es : List NamedEvent) → (all_come es ≡ true) ↔ AreLegal es
