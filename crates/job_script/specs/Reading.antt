-- The JSON value that bytes are, and what a reader's answer says of a text.
use Rattle.std.specs.Prelude.{◌≡◌, ℕ, List, Option, Some, None, Result, Ok, Err, if◌then◌else◌}
use Rattle.std.specs.Str.{is_utf8}
use Rattle.serde_json.specs.Data.{Data}
use Rattle.serde_json.specs.Read.{read}
use Rattle.phase_modes.specs.declared.refusal.Refusal.{Refusal}
use Rattle.phase_modes.specs.declared.refusal.Refusal.TheVariants.{Memory, BadText}

-- the JSON value that the bytes are, if they are one
abbrev pub reading : List ℕ → Option Data
reading bytes = if is_utf8 bytes then read bytes else None

-- the JSON value of a text; what is no JSON is at fault at 0
abbrev pub json_read : Option Data → Result Data ℕ
json_read None = Err 0
json_read (Some d) = Ok d

-- memory ran out, or the text has its first fault at that place; nothing else is refused
abbrev pub Fails : {Y : Type 0} → Refusal → Result Y ℕ → Type 0
Fails Memory r = Unit {0}
Fails (BadText p) r = r ≡ Err p
Fails _ r = ⊥

-- what was read, as view sees it, is what the form gives, unless memory ran out
abbrev pub Gives : {X Y : Type 0} → (X → Y) → Result X Refusal → Result Y ℕ → Type 0
Gives view (Ok x) r = r ≡ Ok (view x)
Gives view (Err e) r = Fails e r
