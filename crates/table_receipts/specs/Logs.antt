-- What a phaser's log tells: its story.
use Rattle.std.specs.Prelude.{ℕ, List, [], ◌∷◌, map}
use Rattle.phase_modes.specs.declared.limits.Limits.{Limits}
use Rattle.phase_model.specs.declared.history.Event.{Event}
use Rattle.phase_model.specs.declared.terms.Terms.{Terms}
use Rattle.phase_model.specs.Rules.{Story, no_terms}
use Rattle.table_receipts.specs.declared.noted.Noted.{Noted}

-- what was seen of a phaser: the name of its log, and its story up to then
pub record Sight : Type 0 where
  pub log : ℕ
  pub story : Story

-- what the phaser was made with, as its newest event tells it; neither operators nor a bound before it was made
abbrev pub terms_in : List Noted → Terms
terms_in [] = no_terms
terms_in (n ∷ ns) = n.terms

-- the story that a log tells, newest first
abbrev pub story_of : Limits → List Noted → Story
story_of l log = record { limits = l; terms = terms_in log; past = map (λ n. n.event) log }

-- the log that tells this story
abbrev pub notes_of : Story → List Noted
notes_of s = map (λ e. record { terms = s.terms; event = e }) s.past

-- a phaser that nobody has made yet
abbrev pub blank : Limits → Story
blank l = record { limits = l; terms = no_terms; past = [] }

-- the log with the story's newest event, if it has one
abbrev pub with_newest : Story → List Noted → List Noted
with_newest s log = go s.past
  where
    go : List Event → List Noted
    go [] = log
    go (e ∷ h) = record { terms = s.terms; event = e } ∷ log
