-- What a call does to what a handle holds.
use Rattle.std.specs.Prelude.{◌≡◌, ◌⊎◌, Option, None, Some, Result, Ok, Err}
use Rattle.std.specs.Option.{option_map}
use Rattle.phase_model.specs.Rules.{Story}
use Rattle.phase_model.specs.declared.call.Call.{Call}
use Rattle.phase_model.specs.declared.call.Reply.{Reply}
use Rattle.phase_model.specs.Replies.{reply, returned, after}
use Rattle.phase_modes.specs.declared.refusal.Refusal.TheVariants.{Memory}
use Rattle.phaser_engine.specs.Phaser.{Phaser}
use Rattle.phaser_c.specs.declared.answer.ExportAnswer.{ExportAnswer}
use Rattle.phaser_c.specs.declared.answer.ExportAnswer.TheVariants.{Done, Open, Refused}

-- the story of the phaser, if there is one
abbrev pub story : Option Phaser → Option Story
story held = option_map (λ p. p.story) held

-- what the phaser answers to the call; none if there is no phaser
abbrev pub answered : Option Story → Call → Option Reply
answered held call = option_map (λ s. returned s.past (reply s call)) held

-- the story after the call
abbrev pub gone_on : Option Story → Call → Option Story
gone_on held call = option_map (λ s. after s (reply s call)) held

-- how a phaser is made for a handle: one that holds a phaser keeps it; if what was given is bad, the answer says
-- why, and the handle holds none; else it holds the phaser that was given, unless memory is refused
abbrev pub MadeFrom : Option Story → Option Story → Result Story ExportAnswer → ExportAnswer → Type 0
MadeFrom (Some s) new given a = (a ≡ Open) × (new ≡ Some s)
MadeFrom None new (Err why) a = (a ≡ why) × (new ≡ None)
MadeFrom None new (Ok s) a = ((a ≡ Done) × (new ≡ Some s)) ⊎ ((a ≡ Refused Memory) × (new ≡ None))
