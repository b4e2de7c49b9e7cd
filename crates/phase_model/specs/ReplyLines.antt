-- The line that a reply is printed as.
use Rattle.std.specs.Prelude.{ℕ, List, ◌++◌, codes, decimal, ℤ}
use Rattle.std.specs.Fmt.{signed_decimal}
use Rattle.phase_modes.specs.Refusal.{refusal_text}
use Rattle.phase_model.specs.declared.op.Look.{Look}
use Rattle.phase_model.specs.declared.op.Look.TheVariants.{Value, Nothing}
use Rattle.phase_model.specs.declared.call.Reply.{Reply}
use Rattle.phase_model.specs.declared.call.Reply.TheVariants.{Done, Phase, Claim, Saw, NotYet, Refused}

-- what was seen of an accumulator
abbrev pub look_text : Look ℤ → List ℕ
look_text (Value v) = codes "value " ++ signed_decimal v
look_text Nothing = codes "none"

-- the line of a reply, without the newline
abbrev pub line_text : Reply → List ℕ
line_text Done = codes "ok"
line_text (Phase p) = codes "ok phase " ++ decimal p
line_text (Claim n) = codes "claim " ++ decimal n
line_text (Saw x) = look_text x
line_text NotYet = codes "not yet"
line_text (Refused r) = refusal_text r
