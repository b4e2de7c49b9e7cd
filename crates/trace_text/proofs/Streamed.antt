-- A text that is read entry by entry is the trace that comes of it.
use Rattle.std.proofs.Common.{◌≡◌, ℕ, ◌+◌, ◌-◌, ◌<◌, ◌≤◌, List, [], ◌∷◌, ◌++◌, length, drop, Option, Some, None, Result, Ok, Err, codes, refl, sym, ap, subst, ◌∙◌, append-nil, append_assoc, arith}
use Rattle.std.specs.Prelude.{option_map}
use Rattle.std.proofs.lemmas.Option.{none-some, same_Some}
use Rattle.json.specs.Token.{Token, begin_object, begin_array, key}
use Rattle.json.specs.Lex.{tokens}
use Rattle.json.specs.Json.{read_key, after_end_array, value, members, items, skip_value, parse_map}
use Rattle.json.proofs.Grammar.{read_key-shorter, value-begin_array, value-begin_object}
use Rattle.serde_json.specs.Data.{Data, Items, Members, array, object, item, no_items, no_members, put}
use Rattle.serde_json.specs.Read.{of_json, of_items, of_members, converted, read}
use Rattle.trace_text.proofs.StreamReading.{converted_some, converted-array, converted-object, item_read, items_over, member_read, members_over, whole_read}
use Rattle.phase_modes.specs.Limits.{default_limits}
use Rattle.phase_modes.specs.declared.limits.Limits.{Limits}
use Rattle.job_script.specs.Words.{◌>>=◌, numbered_then, numbered_in, only_keys, limits_in}
use Rattle.job_script.proofs.Loops.{front_then}
use Rattle.trace_model.specs.Run.{Entry, Run}
use Rattle.trace_text.specs.declared.version.Version.{Version}
use Rattle.trace_text.specs.Form.{entry_in, with_limits, outer_in, form_of, form_of_outer, version_in}
use Rattle.trace_text.specs.inner.Streamed.{AtEvents, IsLast, IsRest, HasOuter, IsEntry, AreEntries, after, file}

-- ---- the members after the events

-- one member, with which the text ends
pub one_left : (before : Members) (n : ℕ) (k : List ℕ) (ts s : List Token) (d : Data) → length ts ≤ n
    → read_key ts ≡ Some (Some k, s) → IsLast s d
    → converted (λ ms. of_members ms before) (members (value 126) n ts) ≡ Some (put k d before, [])
one_left before n k ts s d enough named last =
    let shorter : length s < length ts = read_key-shorter ts (Some k) s named in
    member_read (value 126) before n k ts s last.0 d (omega (arith, enough, shorter)) named last.1
    ∙ members_over (value 126) (put k d before) (n - 1) last.0 [] (omega (arith, enough, shorter, last.2)) last.3

-- two
pub two_left : (before : Members) (n : ℕ) (k k' : List ℕ) (ts s r s' : List Token) (d d' : Data) → length ts ≤ n
    → read_key ts ≡ Some (Some k, s) → converted of_json (value 126 s) ≡ Some (d, r) → length r < length s
    → read_key r ≡ Some (Some k', s') → IsLast s' d'
    → converted (λ ms. of_members ms before) (members (value 126) n ts) ≡ Some (put k' d' (put k d before), [])
two_left before n k k' ts s r s' d d' enough named is less named' last =
    let shorter : length s < length ts = read_key-shorter ts (Some k) s named in
    member_read (value 126) before n k ts s r d (omega (arith, enough, shorter)) named is
    ∙ one_left (put k d before) (n - 1) k' r s' d' (omega (arith, enough, shorter, less)) named' last

-- ---- the entries

front_of_none : {A : Type 0} (r : Result (List A) ℕ) → front_then [] r ≡ r
front_of_none (Ok xs) = refl
front_of_none (Err p) = refl

renumber : {A : Type 0} (front : List A) (n : ℕ) (x : A) (r : Result (List A) ℕ)
    → front_then (front ++ x ∷ []) r ≡ front_then front (numbered_then n (Some x) r)
renumber front n x (Ok xs) = ap Ok (simp append_assoc)
renumber front n x (Err p) = refl

-- these entries were read, of the tokens from the first on
pub record AreSoFar (v : Version) (first now : List Token) (events : List Entry) : Type 0 where
  pub turns : ℕ
  pub number : ℕ
  pub enough : length now ≤ turns
  pub within : length now ≤ length first
  pub goes : (es : Items) (r : List Token) → converted of_items (items (value 125) turns now) ≡ Some (es, r)
      → (all : Items) × (converted of_items (items (value 125) (length first) first) ≡ Some (all, r))
      × (front_then events (numbered_in (entry_in v) number es) ≡ numbered_in (entry_in v) 1 all)

pub none_so_far : (v : Version) (first : List Token) → AreSoFar v first first []
none_so_far v first = record {
  turns = length first;
  number = 1;
  enough = omega arith;
  within = omega arith;
  goes = λ es r is. (es, is, front_of_none (numbered_in (entry_in v) 1 es));
}

first_of : (v : Version) (n : ℕ) (d : Data) (es : Items) (x : Entry) (events : List Entry) → entry_in v d ≡ Some x
    → front_then (events ++ x ∷ []) (numbered_in (entry_in v) (n + 1) es)
    ≡ front_then events (numbered_in (entry_in v) n (item d es))
unfolding numbered_in
first_of v n d es x events is =
    renumber events n x (numbered_in (entry_in v) (n + 1) es)
    ∙ ap (λ o. front_then events (numbered_then n o (numbered_in (entry_in v) (n + 1) es))) (sym is)

-- one more
pub one_more : (v : Version) (first now next : List Token) (events : List Entry) (x : Entry)
    → AreSoFar v first now events → after_end_array now ≡ None → IsEntry v now next x
    → AreSoFar v first next (events ++ x ∷ [])
one_more v first now next events x so_far going entry =
    let n = so_far.turns in
    let d = entry.0 in
    let some : 0 < n = omega (arith, so_far.enough, entry.3) in
    record {
      turns = n - 1;
      number = so_far.number + 1;
      enough = omega (arith, so_far.enough, entry.3);
      within = omega (arith, so_far.within, entry.3);
      goes = λ es r rest.
          let here : converted of_items (items (value 125) n now) ≡ Some (item d es, r) =
          item_read (value 125) n now next d some going entry.1 ∙ ap (parse_map (item d)) rest in
          let all = so_far.goes (item d es) r here in
          (all.0, all.1, first_of v so_far.number d es x events entry.2 ∙ all.2);
    }

-- all, where the bracket comes
pub all_read : (l : Limits) (v : Version) (first now rest : List Token) (t : Run) → t.limits ≡ l
    → AreSoFar v first now t.events → after_end_array now ≡ Some rest → length rest ≤ length now → AreEntries l v first rest t
unfolding numbered_in
all_read l v first now rest t limits so_far closed less =
    let all = so_far.goes no_items rest (items_over (value 125) so_far.turns now rest so_far.enough closed) in (
      all.0,
      all.1,
      omega (arith, so_far.within, less),
      ap (with_limits l) (sym all.2 ∙ ap Ok (append-nil t.events))
          ∙ ap (λ (k : Limits). Ok (record { limits = k; events = t.events })) (sym limits),
    )

-- ---- the outer object

-- with these events, where both are there
abbrev of_both : Option Limits → Option Version → Items → Option (Limits × Version × Items)
of_both ol ov es = ol >>= λ x. ov >>= λ y. Some (x, y, es)

swapped : (ol : Option Limits) (ov : Option Version) (l : Limits) (v : Version) (none some es : Items)
    → of_both ol ov none ≡ Some (l, v, es) → of_both ol ov some ≡ Some (l, v, some)
swapped None ov l v none some es is = absurd (none-some (l, v, es) is)
swapped (Some x) None l v none some es is = absurd (none-some (l, v, es) is)
swapped (Some x) (Some y) l v none some es is =
    let same : ◌≡◌ {A = Limits × Version × Items} (x, y, none) (l, v, es) = same_Some {A = Limits × Version × Items} (x, y, none) (l, v, es) is in
    ap (λ (o : Limits × Version × Items). Some (o.0, o.1, some)) same

-- what stands outside the events doesn't hang on them
pub with_events : (limits : Option Data) (version : Data) (l : Limits) (v : Version) (events none : Items)
    → outer_in (file limits version no_items) ≡ Some (l, v, none) → outer_in (file limits version events) ≡ Some (l, v, events)
unfolding outer_in only_keys
with_events None version l v events none is = swapped (Some default_limits) (version_in version) l v no_items events none is
with_events (Some limits) version l v events none is = swapped (limits_in limits) (version_in version) l v no_items events none is

-- ---- the text

pub whole_text : (text : List ℕ) (l : Limits) (v : Version) (ts rest : List Token) (t : Run) → HasOuter text l v
    → AtEvents text (begin_array ∷ ts) → AreEntries l v ts rest t → form_of (read text) ≡ Ok t
whole_text text l v ts rest t outer at entries =
    let events : Items = entries.0 in
    let limits = outer.4 in
    let version = outer.5 in
    let same : outer.0 ≡ begin_array ∷ ts = ap (λ xs. drop 2 xs) (sym outer.2 ∙ at) in
    let list_read : converted of_json (value 126 (begin_array ∷ ts)) ≡ Some (array events, rest) =
    ap (converted of_json) (value-begin_array 126 ts (omega arith))
    ∙ (converted-array (items (value 125) (length ts) ts) ∙ ap (parse_map array) entries.1) in
    let skipped : skip_value 126 (begin_array ∷ ts) ≡ Some outer.1 = subst (λ xs. skip_value 126 xs ≡ Some outer.1) same outer.3 in
    let list = converted_some of_json (value 126 (begin_array ∷ ts)) (array events) rest list_read in
    let left : outer.1 ≡ rest = same_Some outer.1 rest (sym skipped ∙ ap (λ o. option_map (λ p. p.1) o) list.1) in
    let named : List Token = key (codes "events") ∷ begin_array ∷ ts in
    let before : Members = put (codes "events") (array events) no_members in
    let members_read : converted (λ ms. of_members ms no_members) (members (value 126) (length named) named)
    ≡ Some (after limits version before, []) =
    member_read (value 126) no_members (length named) (codes "events") named (begin_array ∷ ts) rest (array events)
    (omega arith) refl list_read
    ∙ subst (λ r. IsRest r limits version) left outer.6 before (length named - 1) (omega (arith, entries.2)) in
    let object_read : converted of_json (value 127 (begin_object ∷ named)) ≡ Some (file limits version events, []) =
    ap (converted of_json) (value-begin_object 127 named (omega arith))
    ∙ (converted-object (members (value 126) (length named) named) ∙ ap (parse_map object) members_read) in
    let is : read text ≡ Some (file limits version events) =
    whole_read (value 127 (tokens text)) (file limits version events)
    (ap (λ xs. converted of_json (value 127 xs)) at ∙ object_read) in
    ap form_of is
    ∙ (ap form_of_outer (with_events limits version l v events outer.7 outer.8) ∙ entries.3)
