-- What the items of a JSON text say, whichever text it is: numbers, modes, operators, limits, lists of things of
-- one kind, and objects with known keys.
use Rattle.std.specs.Prelude.{ℕ, ℤ, pos, negsuc, int_lt, ◌+◌, ◌^◌, ◌-◌, ◌&&◌, ◌||◌, List, [], ◌∷◌, length, Bool, true, false, nat_le, if◌then◌else◌, Option, Some, None, option_and_then, is_none, Result, Ok, Err, codes}
use Rattle.std.specs.List.{list_any}
use Rattle.std.specs.Option.{option_map_or}
use Rattle.std.specs.Str.{bytes_eq}
use Rattle.serde_json.specs.Data.{Data, Items, no_items, item, Members, no_members, member}
use Rattle.serde_json.specs.Find.{get, at, as_number, as_u64, as_i64, as_str, as_array, as_object}
use Rattle.phase_modes.specs.declared.reg.Mode.{Mode}
use Rattle.phase_modes.specs.Mode as modes
use Rattle.phase_modes.specs.declared.limits.Limits.{Limits}
use Rattle.phase_modes.specs.Limits.{limits_fit, default_limits}
use Rattle.phase_model.specs.declared.op.Op.{Op}
use Rattle.phase_model.specs.Ops as operators

-- the first step's value goes into the second step, if there is one
infixl 10 ◌>>=◌
abbrev pub ◌>>=◌ : {A B : Type 0} → Option A → (A → Option B) → Option B
None >>= f = None
(Some x) >>= f = f x

-- ---- numbers and names

-- a whole number of 64 bits
abbrev pub whole_in : Data → Option ℕ
whole_in d = option_and_then as_u64 (as_number d)

-- a whole number of 64 bits with a sign
abbrev pub signed_in : Data → Option ℤ
signed_in d = option_and_then as_i64 (as_number d)

-- a whole number that is at most this
abbrev pub number_in : ℕ → Data → Option ℕ
number_in most d = whole_in d >>= λ n. if nat_le n most then Some n else None

-- a phaser's bound: 1 to 65,536
abbrev pub bound_in : Data → Option ℕ
bound_in d = number_in 65536 d >>= λ n. if nat_le 1 n then Some n else None

-- a value that is sent: a whole number of 32 bits with a sign
abbrev pub value_in : Data → Option ℤ
value_in d = signed_in d >>= λ z.
    if int_lt z (negsuc (2 ^ 31 - 1)) || int_lt (pos (2 ^ 31 - 1)) z then None else Some z

-- the mode of that name
unfoldable pub mode_in : Data → Option Mode
mode_in d = as_str d >>= modes.named

-- the operator of that name
unfoldable pub op_in : Data → Option Op
op_in d = as_str d >>= operators.named

-- ---- the items of a list

-- the list has at most n items
abbrev pub ends_at : ℕ → Data → Bool
ends_at n d = is_none (at n d)

-- the word at an index of a list
abbrev pub word_at : ℕ → Data → Option (List ℕ)
word_at i d = at i d >>= as_str

-- the number of a task, a phaser, a finish or a single at an index of a list
abbrev pub number_at : ℕ → Data → Option ℕ
number_at i d = at i d >>= number_in (2 ^ 32 - 1)

-- the accumulator's index at an index of a list
abbrev pub accumulator_at : ℕ → Data → Option ℕ
accumulator_at i d = at i d >>= number_in 255

-- the bound at an index of a list
abbrev pub bound_at : ℕ → Data → Option ℕ
bound_at i d = at i d >>= bound_in

-- the value at an index of a list
abbrev pub value_at : ℕ → Data → Option ℤ
value_at i d = at i d >>= value_in

-- the mode at an index of a list
abbrev pub mode_at : ℕ → Data → Option Mode
mode_at i d = at i d >>= mode_in

-- ---- lists of things of one kind

-- a thing, and those after it
abbrev pub and_rest : {A : Type 0} → Option A → Option (List A) → Option (List A)
and_rest None rest = None
and_rest (Some x) None = None
and_rest (Some x) (Some xs) = Some (x ∷ xs)

-- the things, if each item is one
unfoldable pub all_in : {A : Type 0} → (Data → Option A) → Items → Option (List A)
all_in one no_items = Some []
all_in one (item d ds) = and_rest (one d) (all_in one ds)

-- there are at most so many
abbrev pub at_most : {A : Type 0} → ℕ → Option (List A) → Option (List A)
at_most most None = None
at_most most (Some xs) = if nat_le (length xs) most then Some xs else None

-- a thing with this number, and those after it
abbrev pub numbered_then : {A : Type 0} → ℕ → Option A → Result (List A) ℕ → Result (List A) ℕ
numbered_then n None rest = Err n
numbered_then n (Some x) (Ok xs) = Ok (x ∷ xs)
numbered_then n (Some x) (Err p) = Err p

-- the things, the first of which has this number; or the number of the first item that is none
unfoldable pub numbered_in : {A : Type 0} → (Data → Option A) → ℕ → Items → Result (List A) ℕ
numbered_in one n no_items = Ok []
numbered_in one n (item d ds) = numbered_then n (one d) (numbered_in one (n + 1) ds)

-- ---- the operators

-- a list of at most four operators
abbrev pub ops_in : Data → Option (List Op)
ops_in d = as_array d >>= λ items. at_most 4 (all_in op_in items)

-- the operators at an index of a list
abbrev pub ops_at : ℕ → Data → Option (List Op)
ops_at i d = at i d >>= ops_in

-- ---- objects

-- each key of the members is one of these
unfoldable pub only_keys : List (List ℕ) → Members → Bool
only_keys names no_members = true
only_keys names (member k d ms) = list_any (bytes_eq k) names && only_keys names ms

-- it is an object, and each of its keys is one of these
abbrev pub has_only : List (List ℕ) → Data → Bool
has_only names d = option_map_or (only_keys names) (as_object d) false

-- ---- the limits

-- the number, or the default if there is no value
abbrev pub limit_or : ℕ → Option Data → Option ℕ
limit_or default None = Some default
limit_or default (Some d) = number_in (2 ^ 32 - 1) d

-- the number at a key, or the default if there is no such key
abbrev pub limit_at : List ℕ → ℕ → Data → Option ℕ
limit_at key default d = limit_or default (get key d)

-- the limits, if each is between its least and its greatest
abbrev pub if_fit : Limits → Option Limits
if_fit l = if limits_fit l then Some l else None

-- the limits that an object names, with the defaults for those that it doesn't
unfoldable pub named_limits_in : Data → Option Limits
named_limits_in d =
    limit_at (codes "acts") default_limits.acts d >>= λ acts.
    limit_at (codes "finishes") default_limits.finishes d >>= λ finishes.
    limit_at (codes "history") default_limits.history d >>= λ history.
    limit_at (codes "phasers") default_limits.phasers d >>= λ phasers.
    limit_at (codes "regs") default_limits.regs d >>= λ regs.
    limit_at (codes "tasks") default_limits.tasks d >>= λ tasks.
    if_fit (record
    { acts = acts; finishes = finishes; history = history; phasers = phasers; regs = regs; tasks = tasks })

-- the keys of the limits
abbrev pub limit_keys : List (List ℕ)
limit_keys = codes "acts" ∷ codes "finishes" ∷ codes "history" ∷ codes "phasers" ∷ codes "regs"
    ∷ codes "tasks" ∷ []

-- the limits, in an object that has no other keys
unfoldable pub limits_in : Data → Option Limits
limits_in d = if has_only limit_keys d then named_limits_in d else None

-- the limits, or the defaults if the key is absent
abbrev pub limits_or : Option Data → Option Limits
limits_or None = Some default_limits
limits_or (Some d) = limits_in d

-- the limits of a text, which stand at its key `limits`
abbrev pub limits_of : Data → Option Limits
limits_of d = limits_or (get (codes "limits") d)
