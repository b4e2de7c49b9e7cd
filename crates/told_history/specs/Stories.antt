-- How a phaser's story goes on, and where in it a call came.
use Rattle.std.specs.Prelude.{◌≡◌, ◌⊎◌, false, List, ◌∷◌, Result}
use Rattle.phase_modes.specs.declared.refusal.Refusal.{Refusal}
use Rattle.phase_modes.specs.Lists.{is_empty}
use Rattle.phase_model.specs.declared.call.Call.{Call}
use Rattle.phase_model.specs.declared.history.Event.{Event}
use Rattle.phase_model.specs.declared.terms.Terms.{Terms}
use Rattle.phase_model.specs.Replies.{Reply, reply, after, done_result}
use Rattle.phase_model.specs.Rules.{Story}
use Rattle.phase_model.specs.Answers.{made_with}
use Rattle.told_history.specs.Tails.{IsTail}

-- the story goes on from one that was seen: under the same limits, with the same events first; and what the phaser was
-- made with stays, once it was made
abbrev pub GoesOn : Story → Story → Type 0
GoesOn seen s = (s.limits ≡ seen.limits) × IsTail seen.past s.past × (is_empty seen.past ≡ false → s.terms ≡ seen.terms)

-- it is the same, or has one event more
abbrev pub Follows : Story → Story → Type 0
Follows s s' = (s' ≡ s) ⊎ ((e : Event) × (s'.past ≡ e ∷ s.past) × (s'.limits ≡ s.limits) × (is_empty s.past ≡ false → s'.terms ≡ s.terms))

-- The call came at a place of the one history, no earlier than what its caller had seen. What the phaser replied there
-- was answered, and the caller has now seen the history up to that call, and with it.
abbrev pub IsAnswered : (List Event → Reply → Type 0) → Call → Story → Story → Type 0
IsAnswered Is c seen now =
    (before : Story) × GoesOn seen before × Is before.past (reply before c) × (now ≡ after before (reply before c))

-- the same of the call that makes the phaser, with these terms
abbrev pub IsMade : Result (Unit {0}) Refusal → Call → Terms → Story → Story → Type 0
IsMade answer c terms seen now =
    (before : Story)
    × GoesOn seen before
    × (answer ≡ done_result (reply before c))
    × (now ≡ made_with before terms (reply before c))
