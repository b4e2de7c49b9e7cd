-- A phaser whose accumulators are known from the start, and one that learns of them as it is made.
use Rattle.std.specs.Prelude.{ℕ, ◌≡◌, []}
use Rattle.phase_modes.specs.declared.limits.Limits.{Limits}
use Rattle.phase_modes.specs.declared.reg.Mode.{Mode}
use Rattle.phase_model.specs.declared.history.Event.{Event}
use Rattle.phase_model.specs.declared.terms.Terms.{Terms}
use Rattle.phase_model.specs.declared.call.Call.TheVariants.{Make as make}
use Rattle.phase_model.specs.Rules.{Story, no_terms}
use Rattle.phase_model.specs.Replies.{reply, after, done}
use Rattle.phase_model.specs.Answers.{made_with}

-- nobody has made it yet
abbrev pub unmade : Limits → Terms → Story
unmade l terms = record { limits = l; terms = terms; past = [] }

-- both ways of making a phaser are answered alike, and if it is made, both leave the same limits,
-- operators and history
abbrev pub BothMakeAlike : Type 0
BothMakeAlike = (l : Limits) (terms : Terms) (t : ℕ) (m : Mode)
    → (reply (unmade l terms) (make t m) ≡ reply (unmade l no_terms) (make t m))
    × ((e : Event) → reply (unmade l terms) (make t m) ≡ done e
    → after (unmade l terms) (reply (unmade l terms) (make t m))
    ≡ made_with (unmade l no_terms) terms (reply (unmade l no_terms) (make t m)))
