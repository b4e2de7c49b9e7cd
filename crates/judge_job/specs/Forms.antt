-- What a line of a log spells: the header, or an event with its ticket.
use Rattle.std.specs.Prelude.{ℕ, ℤ, zero, suc, ◌++◌, ◌==◌, ◌&&◌, ◌||◌, nat_le, Bool, false, if◌then◌else◌, List, [], ◌∷◌, length, Option, Some, None, option_map, is_some, is_none, codes}
use Rattle.std.specs.Str.{bytes_eq, is_utf8}
use Rattle.json.specs.Token.{Token}
use Rattle.json.specs.Token as token
use Rattle.json.specs.Lex.{tokens}
use Rattle.json.specs.Json.{Parse, after_end_array, read_key, document}
use Rattle.phase_modes.specs.Lists.{is_empty}
use Rattle.phase_model.specs.declared.op.Op.{Op}
use Rattle.phase_model.specs.declared.op.Look.{Look}
use Rattle.phase_model.specs.declared.op.Look.TheVariants.{Value, Nothing}
use Rattle.phaser_judge.specs.declared.event.Named.{Named}
use Rattle.phaser_judge.specs.declared.event.Named.TheVariants as named
use Rattle.phaser_judge.specs.declared.event.NamedEvent.{NamedEvent}
use Rattle.judge_job.specs.declared.line.Line.{Line}
use Rattle.judge_job.specs.Fronts.{◌>>=◌, whole_in, signed_in, number_front, number_within, value_front, word_front, mode_front, op_front, after_begin_array, is_last}

-- ---- items of several tokens, or of several kinds

-- the operators, or one more and those after it
abbrev pub ops_step : List Op → (List Op → Parse (List Op)) → List Token → Option (List Token) → Option (List Op × List Token)
ops_step ops more ts (Some rest) = Some (ops, rest)
ops_step ops more ts None = op_front ts >>= λ o. more (ops ++ o.0 ∷ []) o.1

-- these operators, and at most n more up to the bracket that closes their list
unfoldable pub ops_from : ℕ → List Op → Parse (List Op)
ops_from zero ops ts = option_map (λ rest. (ops, rest)) (after_end_array ts)
ops_from (suc n) ops ts = ops_step ops (ops_from n) ts (after_end_array ts)

-- a list of at most four operators
unfoldable pub ops_front : Parse (List Op)
ops_front ts = after_begin_array ts >>= ops_from 4 []

-- a phaser's bound
abbrev pub bound_in : List ℕ → Option ℕ
bound_in s = whole_in s >>= λ n. if nat_le 1 n && nat_le n 65536 then Some n else None

-- a bound, or null for none
abbrev pub bound_front : Parse (Option ℕ)
bound_front [] = None
bound_front (token.null ∷ ts) = Some (None, ts)
bound_front (token.number s ∷ ts) = bound_in s >>= λ b. Some (Some b, ts)
bound_front (token.begin_object ∷ ts) = None
bound_front (token.end_object ∷ ts) = None
bound_front (token.begin_array ∷ ts) = None
bound_front (token.end_array ∷ ts) = None
bound_front (token.key s ∷ ts) = None
bound_front (token.string s ∷ ts) = None
bound_front (token.boolean b ∷ ts) = None
bound_front (token.bad ∷ ts) = None

-- what was seen: a number, or null for nothing
abbrev pub seen_front : Parse (Look ℤ)
seen_front [] = None
seen_front (token.null ∷ ts) = Some (Nothing, ts)
seen_front (token.number s ∷ ts) = signed_in s >>= λ z. Some (Value z, ts)
seen_front (token.begin_object ∷ ts) = None
seen_front (token.end_object ∷ ts) = None
seen_front (token.begin_array ∷ ts) = None
seen_front (token.end_array ∷ ts) = None
seen_front (token.key s ∷ ts) = None
seen_front (token.string s ∷ ts) = None
seen_front (token.boolean b ∷ ts) = None
seen_front (token.bad ∷ ts) = None

-- ---- what happened at a phaser; its name is passed

-- t, mode, [ops], bound
unfoldable pub make_in : List Token → Option Named
make_in ts = number_front ts >>= λ t. mode_front t.1 >>= λ m. ops_front m.1 >>= λ o. bound_front o.1 >>= λ b.
    if is_last b.1 then Some (named.Make t.0 m.0 o.0 b.0) else None

-- q, t, mode
unfoldable pub reg_in : List Token → Option Named
reg_in ts = number_front ts >>= λ q. number_front q.1 >>= λ t. mode_front t.1 >>= λ m.
    if is_last m.1 then Some (named.Reg q.0 t.0 m.0) else None

-- the end of the list after the task of a signal, or the number of a single and then the end
abbrev pub sig_end : ℕ → List Token → Option (List Token) → Option Named
sig_end t ts (Some rest) = if is_empty rest then Some (named.Sig t None) else None
sig_end t ts None = number_within 4294967295 ts >>= λ n. if is_last n.1 then Some (named.Sig t (Some n.0)) else None

-- t, or t, n
unfoldable pub sig_in : List Token → Option Named
sig_in ts = number_front ts >>= λ t. sig_end t.0 t.1 (after_end_array t.1)

-- t alone
unfoldable pub only_task_in : List Token → Option ℕ
only_task_in ts = number_front ts >>= λ t. if is_last t.1 then Some t.0 else None

-- t, a, v
unfoldable pub send_in : List Token → Option Named
send_in ts = number_front ts >>= λ t. number_within 255 t.1 >>= λ a. value_front a.1 >>= λ v.
    if is_last v.1 then Some (named.Send t.0 a.0 v.0) else None

-- t, a, what was seen
unfoldable pub look_in : List Token → Option Named
look_in ts = number_front ts >>= λ t. number_within 255 t.1 >>= λ a. seen_front a.1 >>= λ x.
    if is_last x.1 then Some (named.Look t.0 a.0 x.0) else None

-- what happened, by its name
unfoldable pub named_in : List ℕ → List Token → Option Named
named_in name ts =
    if bytes_eq name (codes "make") then make_in ts
    else (if bytes_eq name (codes "reg") then reg_in ts
    else (if bytes_eq name (codes "sig") then sig_in ts
    else (if bytes_eq name (codes "claim") then option_map named.Claim (only_task_in ts)
    else (if bytes_eq name (codes "did") then option_map named.Did (only_task_in ts)
    else (if bytes_eq name (codes "pass") then option_map named.Pass (only_task_in ts)
    else (if bytes_eq name (codes "send") then send_in ts
    else (if bytes_eq name (codes "look") then look_in ts
    else (if bytes_eq name (codes "drop") then option_map named.Drop (only_task_in ts)
    else None))))))))

-- ---- a line

-- the number of a phaser, and what happened there
unfoldable pub event_in : List Token → Option NamedEvent
event_in ts = number_front ts >>= λ p. word_front p.1 >>= λ w. named_in w.0 w.1 >>= λ e.
    Some (record { phaser = p.0; event = e })

-- the event of a phaser, or none of one: what is said of tasks and of finishes isn't read
unfoldable pub kind_in : List ℕ → List Token → Option (Option NamedEvent)
kind_in kind ts =
    if bytes_eq kind (codes "p") then option_map Some (event_in ts)
    else (if bytes_eq kind (codes "t") then Some None
    else (if bytes_eq kind (codes "f") then Some None
    else None))

-- a list that begins with a ticket, and says what it is about
unfoldable pub list_in : List Token → Option Line
list_in ts = after_begin_array ts >>= λ rest. number_front rest >>= λ n. word_front n.1 >>= λ w. kind_in w.0 w.1 >>= λ e.
    Some (record { ticket = n.0; event = e })

-- the event with its ticket that a text spells; of what isn't read it is JSON
unfoldable pub text_in : List ℕ → Option Line
text_in text = list_in (tokens text) >>= λ l. if is_some l.event || is_some (document text) then Some l else None

-- how many bytes a line has at most
abbrev pub most_bytes : ℕ
most_bytes = 65536

-- the event with its ticket that a line spells
unfoldable pub line_in : List ℕ → Option Line
line_in bytes = if nat_le (length bytes) most_bytes && is_utf8 bytes then text_in bytes else None

-- ---- the header

-- what follows the brace that opens an object, if one stands there
abbrev pub after_begin_object : List Token → Option (List Token)
after_begin_object [] = None
after_begin_object (token.begin_object ∷ ts) = Some ts
after_begin_object (token.begin_array ∷ ts) = None
after_begin_object (token.null ∷ ts) = None
after_begin_object (token.end_object ∷ ts) = None
after_begin_object (token.end_array ∷ ts) = None
after_begin_object (token.key s ∷ ts) = None
after_begin_object (token.string s ∷ ts) = None
after_begin_object (token.number s ∷ ts) = None
after_begin_object (token.boolean b ∷ ts) = None
after_begin_object (token.bad ∷ ts) = None

-- the key of the version
abbrev pub is_version_key : Option (List ℕ) → Bool
is_version_key None = false
is_version_key (Some k) = bytes_eq k (codes "version")

-- the object ends here, and the text with it
abbrev pub is_object_end : Option (Option (List ℕ) × List Token) → Bool
is_object_end None = false
is_object_end (Some k) = is_none k.0 && is_empty k.1

-- the number is that of the version, and nothing follows but the brace that closes the object
abbrev pub is_version_end : Option (ℕ × List Token) → Bool
is_version_end None = false
is_version_end (Some n) = (n.0 == 2) && is_object_end (read_key n.1)

-- the object of the version and nothing else
abbrev pub is_version : Option (Option (List ℕ) × List Token) → Bool
is_version None = false
is_version (Some k) = is_version_key k.0 && is_version_end (number_front k.1)

-- the tokens of {"version":2}
abbrev pub is_header_of : Option (List Token) → Bool
is_header_of None = false
is_header_of (Some ts) = is_version (read_key ts)

-- the header
unfoldable pub is_header : List ℕ → Bool
is_header bytes = nat_le (length bytes) most_bytes && is_utf8 bytes && is_header_of (after_begin_object (tokens bytes))
