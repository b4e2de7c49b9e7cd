-- The text of a trace as it is read entry by entry: what is known where the reader stands.
use Rattle.std.specs.Prelude.{ℕ, ◌≡◌, ◌≤◌, ◌<◌, List, [], ◌∷◌, length, Option, Some, None, Ok, codes}
use Rattle.json.specs.Token.{Token, begin_object, key}
use Rattle.json.specs.Lex.{tokens}
use Rattle.json.specs.Json.{read_key, value, members, items, skip_value}
use Rattle.serde_json.specs.Data.{Data, Items, Members, array, object, no_items, no_members, put}
use Rattle.serde_json.specs.Read.{of_json, of_items, of_members, converted}
use Rattle.phase_modes.specs.declared.limits.Limits.{Limits}
use Rattle.job_script.specs.Words.{numbered_in}
use Rattle.trace_model.specs.Run.{Entry, Run}
use Rattle.trace_text.specs.declared.version.Version.{Version}
use Rattle.trace_text.specs.Form.{entry_in, with_limits, outer_in}

-- how deep a member of the outer object may nest: a text may nest 127 deep, and the object is one
abbrev pub member_depth : ℕ
member_depth = 126

-- how deep an entry of the list of events may nest: the list is one more
abbrev pub entry_depth : ℕ
entry_depth = 125

-- the text is an object whose first key is that of the events, and these tokens come after it
abbrev pub AtEvents : List ℕ → List Token → Type 0
AtEvents text ts = tokens text ≡ begin_object ∷ key (codes "events") ∷ ts

-- the tokens are a value, the brace that closes the outer object, and the end of the text
abbrev pub IsLast : List Token → Data → Type 0
IsLast ts d = (r : List Token) × (converted of_json (value member_depth ts) ≡ Some (d, r)) × (length r < length ts) × (read_key r ≡ Some (None, []))

-- the members with the limits, if they are named, and the version
abbrev pub after : Option Data → Data → Members → Members
after None version before = put (codes "version") version before
after (Some limits) version before = put (codes "version") version (put (codes "limits") limits before)

-- these are what the tokens up to the end of the text put after any members
abbrev pub IsRest : List Token → Option Data → Data → Type 0
IsRest ts limits version = (before : Members) (n : ℕ) → length ts ≤ n
    → converted (λ ms. of_members ms before) (members (value member_depth) n ts) ≡ Some (after limits version before, [])

-- the outer object with these events before what comes after them
abbrev pub file : Option Data → Data → Items → Data
file limits version events = object (after limits version (put (codes "events") (array events) no_members))

-- beside its events the text has these limits and this version
abbrev pub HasOuter : List ℕ → Limits → Version → Type 0
HasOuter text l v =
    (ts rest : List Token) × AtEvents text ts × (skip_value member_depth ts ≡ Some rest)
    × (limits : Option Data) × (version : Data) × IsRest rest limits version
    × (none : Items) × (outer_in (file limits version no_items) ≡ Some (l, v, none))

-- first of the tokens is this entry, and these come after it
abbrev pub IsEntry : Version → List Token → List Token → Entry → Type 0
IsEntry v ts rest e =
    (d : Data) × (converted of_json (value entry_depth ts) ≡ Some (d, rest)) × (entry_in v d ≡ Some e) × (length rest < length ts)

-- up to the bracket that closes them the tokens are entries, of which the trace with these limits is
abbrev pub AreEntries : Limits → Version → List Token → List Token → Run → Type 0
AreEntries l v ts rest t =
    (es : Items) × (converted of_items (items (value entry_depth) (length ts) ts) ≡ Some (es, rest)) × (length rest ≤ length ts)
    × (with_limits l (numbered_in (entry_in v) 1 es) ≡ Ok t)
