-- A phaser that lives long, and gives its task numbers out.
use Rattle.std.specs.Prelude.{ℕ, ◌≡◌, ◌≢◌, ◌+◌, ◌<◌, ◌≤◌, true, List, length}
use Rattle.phase_modes.specs.declared.limits.Limits.{Limits}
use Rattle.phase_modes.specs.declared.refusal.Refusal.TheVariants.{HistoryFull}
use Rattle.phase_model.specs.declared.history.Event.{Event}
use Rattle.phase_model.specs.declared.terms.Terms.{Terms}
use Rattle.phase_model.specs.declared.call.Call.{Call}
use Rattle.phase_model.specs.Replies.{reply, refused}
use Rattle.phase_model.specs.Rules.{Story, is_legal}
use Rattle.phase_model.specs.Tasks.{is_registered}

-- room for 2 ^ 62 events and one task number more, and for 256 registrations at once
abbrev pub long_limits : Limits
long_limits = record {
  acts = 1;
  finishes = 1;
  history = 4611686018427387904;
  phasers = 1;
  regs = 256;
  tasks = 4611686018427387905;
}

-- its story, and the number that it gives out next
pub record Numbered : Type 0 where
  pub story : Story
  pub next : ℕ

-- each number that was ever registered is below the next one
abbrev pub AreBelow : ℕ → List Event → Type 0
AreBelow n h = (t : ℕ) → is_registered t h ≡ true → t < n

-- the limits are those of a long life, no number is given out twice, and as there is an event for each, none is too
-- great
pub record IsNumbered (next : ℕ) (s : Story) : Type 0 where
  pub limits : s.limits ≡ long_limits
  pub below : AreBelow next s.past
  pub few : next ≤ length s.past

-- while there is room for 260 events more, no call is refused for want of room in the history
abbrev pub LongHasRoom : Type 0
LongHasRoom = (terms : Terms) (h : List Event) (c : Call) → is_legal long_limits terms h ≡ true
    → length h + 260 ≤ long_limits.history
    → reply (record { limits = long_limits; terms = terms; past = h }) c ≢ refused HistoryFull
