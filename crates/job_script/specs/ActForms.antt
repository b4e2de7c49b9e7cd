-- What an act says by itself: its names aren't numbered yet, and the acts inside it aren't read.
use Rattle.std.specs.Prelude.{ℕ, ◌+◌, not, List, if◌then◌else◌, Option, Some, None, codes}
use Rattle.std.specs.Str.{bytes_eq}
use Rattle.serde_json.specs.Data.{Data, Items, no_items}
use Rattle.serde_json.specs.Find.{at, as_array}
use Rattle.phase_modes.specs.declared.reg.Mode.{Mode}
use Rattle.phase_model.specs.declared.terms.Terms.{Terms}
use Rattle.job_script.specs.Words.{◌>>=◌, number_in, ends_at, word_at, number_at, accumulator_at, bound_at, value_at, mode_at, ops_at, all_in, at_most}
use Rattle.job_script.specs.declared.head.Head.{Head}
use Rattle.job_script.specs.declared.head.Head.TheVariants as heads
use Rattle.job_script.specs.Names.{Seen, NameMode, name_at, number_of, numbered}

-- An act as it is written. `send` is a send or a look at the phaser of the name; the items are the acts inside.
pub data Said : Type 0 where
  plain : Head → Said
  new : List ℕ → Mode → Terms → Said
  send : Head → List ℕ → Said
  async : List NameMode → Items → Said
  async_all : Items → Said
  repeat : ℕ → Items → Said

-- the list at an index of a list
abbrev pub items_at : ℕ → Data → Option Items
items_at i d = at i d >>= as_array

-- an act that is its name alone, as ["next"]
unfoldable pub plain_in : Head → Data → Option Said
plain_in h d = if ends_at 1 d then Some (plain h) else None

-- what follows so many items: nothing, or a bound alone
abbrev pub bound_after : ℕ → Data → Option (Option ℕ)
bound_after n d =
    if ends_at n d then Some None
    else (if ends_at (n + 1) d then (bound_at n d >>= λ b. Some (Some b))
    else None)

-- ["new", name, mode, [ops]] or ["new", name, mode, [ops], bound]
unfoldable pub new_in : Data → Option Said
new_in d =
    bound_after 4 d >>= λ bound. name_at 1 d >>= λ name. mode_at 2 d >>= λ m.
    ops_at 3 d >>= λ ops. Some (new name m (record { ops = ops; bound = bound }))

-- ["single", n]
unfoldable pub single_in : Data → Option Said
single_in d = if not (ends_at 2 d) then None else (number_at 1 d >>= λ n. Some (plain (heads.NextSingle n)))

-- ["send", name, a, v]
unfoldable pub send_in : Data → Option Said
send_in d =
    if not (ends_at 4 d) then None
    else (name_at 1 d >>= λ name. accumulator_at 2 d >>= λ a.
    value_at 3 d >>= λ v. Some (send (heads.Send 0 a v) name))

-- ["look", name, a]
unfoldable pub look_in : Data → Option Said
look_in d =
    if not (ends_at 3 d) then None
    else (name_at 1 d >>= λ name. accumulator_at 2 d >>= λ a. Some (send (heads.Look 0 a) name))

-- [name, mode]
unfoldable pub pair_in : Data → Option NameMode
pair_in d =
    if not (ends_at 2 d) then None
    else (name_at 0 d >>= λ name. mode_at 1 d >>= λ m. Some (record { name = name; mode = m }))

-- ["async", [[name, mode], ..], [acts]], at most sixteen pairs
unfoldable pub async_in : Data → Option Said
async_in d =
    if not (ends_at 3 d) then None
    else (items_at 1 d >>= λ pairs. at_most 16 (all_in pair_in pairs) >>= λ xs.
    items_at 2 d >>= λ body. Some (async xs body))

-- ["async_all", [acts]]
unfoldable pub async_all_in : Data → Option Said
async_all_in d = if not (ends_at 2 d) then None else (items_at 1 d >>= λ body. Some (async_all body))

-- ["repeat", k, [acts]], k at most a thousand
unfoldable pub repeat_in : Data → Option Said
repeat_in d =
    if not (ends_at 3 d) then None
    else (at 1 d >>= number_in 1000 >>= λ k. items_at 2 d >>= λ inner. Some (repeat k inner))

-- an act, by its name, which is its first item
unfoldable pub said_in : Data → Option Said
said_in d = word_at 0 d >>= λ name.
    if bytes_eq name (codes "new") then new_in d
    else (if bytes_eq name (codes "async") then async_in d
    else (if bytes_eq name (codes "async_all") then async_all_in d
    else (if bytes_eq name (codes "open") then plain_in heads.OpenFinish d
    else (if bytes_eq name (codes "shut") then plain_in heads.ShutFinish d
    else (if bytes_eq name (codes "signal") then plain_in heads.Signal d
    else (if bytes_eq name (codes "wait") then plain_in heads.Wait d
    else (if bytes_eq name (codes "next") then plain_in heads.Next d
    else (if bytes_eq name (codes "single") then single_in d
    else (if bytes_eq name (codes "send") then send_in d
    else (if bytes_eq name (codes "look") then look_in d
    else (if bytes_eq name (codes "repeat") then repeat_in d
    else None)))))))))))

-- ---- the act with its names numbered

-- a send or a look at the phaser of the name of this number
abbrev pub with_name : ℕ → Head → Head
with_name n (heads.Send m a v) = heads.Send n a v
with_name n (heads.Look m a) = heads.Look n a
with_name n h = h

-- what the act at place p is, and what is seen with its names
abbrev pub head_of : Seen → ℕ → Said → Head × Seen
head_of s p (plain h) = (h, s)
head_of s p (new name m terms) = let one = number_of s p name in (heads.New one.0 m terms, one.1)
head_of s p (send h name) = let one = number_of s p name in (with_name one.0 h, one.1)
head_of s p (async xs body) = let all = numbered s p xs in (heads.Async all.0, all.1)
head_of s p (async_all body) = (heads.AsyncAll, s)
head_of s p (repeat k inner) = (heads.Repeat k, s)

-- the acts inside it
abbrev pub inner_of : Said → Items
inner_of (async xs body) = body
inner_of (async_all body) = body
inner_of (repeat k inner) = inner
inner_of s = no_items
