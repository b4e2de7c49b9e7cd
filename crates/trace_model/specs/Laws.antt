-- What it means that a trace is explained, and that it is one of given parts.
use Rattle.std.specs.Prelude.{◌≡◌, ◌≢◌, ℕ, ◌+◌, true, false, List, [], ◌∷◌, ◌++◌, length, map, drop, reverse, Some, is_none}
use Rattle.std.specs.List.{All}
use Rattle.phase_modes.specs.declared.limits.Limits.{Limits}
use Rattle.finish_core.specs.declared.event.FinishEvent.{FinishEvent}
use Rattle.phase_model.specs.Rules.{Story}
use Rattle.world_model.specs.Replies.{is_legal_world}
use Rattle.trace_model.specs.Run.{Entry, Run}
use Rattle.trace_model.specs.Explained.{past, may_follow, all_follow, is_over, is_explained, first_fault}
use Rattle.trace_model.specs.Parts.{IsTraceOf}
use Rattle.trace_model.specs.Projections.{Whose, phaser, finish, projection, AreOf, AreNotOf, HaveOwners}
use Rattle.trace_model.specs.Told.{phaser_told, finish_told}

-- a trace is explained exactly if it has no fault
abbrev pub FaultlessIsExplained : Type 0
FaultlessIsExplained = (r : Run) → is_explained r ≡ is_none (first_fault r)

-- the first of these entries may not follow those before, the newest of these first; if there is none, the
-- run hasn't ended
abbrev pub IsAtFault : Limits → List Entry → List Entry → Type 0
IsAtFault l before [] = is_over before ≡ false
IsAtFault l before (e ∷ es) = may_follow l before e ≡ false

-- each entry before this place may follow those before it, and the one there may not; past the last, the run
-- hasn't ended
pub record IsFirstFault (r : Run) (place : ℕ) : Type 0 where
  pub before : List Entry
  pub after : List Entry
  pub all : before ++ after ≡ r.events
  pub here : place ≡ length before + 1
  pub follow : all_follow r.limits (reverse before) ≡ true
  pub fault : IsAtFault r.limits (reverse before) after

-- what is called the first fault of a trace is the first
abbrev pub FirstFaultIsFirst : Type 0
FirstFaultIsFirst = (r : Run) (place : ℕ) → first_fault r ≡ Some place → IsFirstFault r place

-- the events of an explained trace are a legal history of the world: so each law of such a history holds of it
abbrev pub ExplainedIsLegal : Type 0
ExplainedIsLegal =
    (r : Run) → is_explained r ≡ true → is_legal_world r.limits (past (reverse r.events)) ≡ true

-- what a trace has of each owner is exactly its part, entry by entry, if no two parts have the same owner
abbrev pub ProjectionsAreParts : Type 0
ProjectionsAreParts =
    (owners : List Whose) (parts : List (List Entry)) (es : List Entry)
    → IsTraceOf parts es → HaveOwners owners parts
    → map (λ w. projection w es) owners ≡ parts

-- of who owns none of the parts it has nothing
abbrev pub OthersHaveNone : Type 0
OthersHaveNone =
    (w : Whose) (owners : List Whose) (parts : List (List Entry)) (es : List Entry)
    → IsTraceOf parts es → HaveOwners owners parts → All (λ v. w ≢ v) owners
    → projection w es ≡ []

-- for one owner it is enough that no other part has an entry of that owner
abbrev pub ProjectionIsPart : Type 0
ProjectionIsPart =
    (w : Whose) (part : List Entry) (before after : List (List Entry)) (es : List Entry)
    → IsTraceOf (before ++ part ∷ after) es → AreOf w part → All (AreNotOf w) (before ++ after)
    → projection w es ≡ part

-- what a phaser's history tells is of that phaser
abbrev pub PhasersTellTheirOwn : Type 0
PhasersTellTheirOwn =
    (n : ℕ) (s : Story) (tickets : List ℕ) → AreOf (phaser n) (phaser_told n s tickets)

-- what a finish's history tells is of that finish, also without its first few
abbrev pub FinishesTellTheirOwn : Type 0
FinishesTellTheirOwn =
    (f : ℕ) (h : List FinishEvent) (tickets : List ℕ) (first : ℕ)
    → AreOf (finish f) (drop first (finish_told f h tickets))
