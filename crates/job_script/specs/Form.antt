-- The program that a JSON value spells, or the place of its first fault.
--
-- Acts are counted from 1 in the order of the text, an act before those inside it. A fault of an act's own form ends
-- the reading. A name past the sixty-fourth and a list that is too long are noted, since an act that stands before
-- them, which holds them, may be at fault too.
use Rattle.std.specs.Prelude.{ℕ, zero, suc, ◌+◌, ◌*◌, not, [], ◌∷◌, Bool, nat_lt, if◌then◌else◌, Option, Some, None, Result, Ok, Err, codes}
use Rattle.serde_json.specs.Data.{Data, Items, no_items, item}
use Rattle.serde_json.specs.Find.{get, as_array}
use Rattle.phase_modes.specs.declared.limits.Limits.{Limits}
use Rattle.job_script.specs.Words.{◌>>=◌, has_only, limits_of}
use Rattle.job_script.specs.declared.head.Head.{Head}
use Rattle.job_script.specs.declared.head.Head.TheVariants as heads
use Rattle.job_script.specs.Acts.{Acts, no_acts, with_act, flat_length}
use Rattle.job_script.specs.Names.{Seen, none_seen, noted_where, noted_at, fails_at}
use Rattle.job_script.specs.ActForms.{Said, said_in, head_of, inner_of}
use Rattle.job_script.specs.Program.{Program}

-- ---- lists of acts

-- the acts, the place after them, what was seen, and the place of the act with which their number first passes ten thousand
pub record Read : Type 0 where
  pub acts : Acts
  pub next : ℕ
  pub seen : Seen
  pub passing : Option ℕ

-- one act
pub record One : Type 0 where
  pub head : Head
  pub body : Acts
  pub next : ℕ
  pub seen : Seen

-- a child's body, which isn't kept if it is too long
abbrev pub kept : Option ℕ → Acts → Acts
kept None body = body
kept (Some p) body = no_acts

-- so many times the acts are more than ten thousand
abbrev pub is_too_long : ℕ → Acts → Bool
is_too_long k inner = nat_lt 10000 (k * flat_length inner)

-- An act at place p, the acts inside which were read. A repeat that is too long is at fault at its own place;
-- a child's body that is too long is at fault at the act with which it is.
abbrev pub one_of : ℕ → Head → Read → One
one_of p (heads.Repeat k) r = record {
  head = heads.Repeat k;
  body = r.acts;
  next = r.next;
  seen = noted_where (is_too_long k r.acts) r.seen p;
}
one_of p h r =
    record { head = h; body = kept r.passing r.acts; next = r.next; seen = noted_at r.passing r.seen }

-- the place of the act with which a list of n acts first passed ten thousand, if its last act stands at p
abbrev pub passing_now : Option ℕ → ℕ → ℕ → Option ℕ
passing_now (Some q) p n = Some q
passing_now None p n = if nat_lt 10000 n then Some p else None

-- the list with one act more
abbrev pub added : Read → One → Read
added r o = record {
  acts = with_act r.acts o.head o.body;
  next = o.next;
  seen = o.seen;
  passing = passing_now r.passing r.next (flat_length (with_act r.acts o.head o.body));
}

-- the list with one act more, and what follows it
abbrev pub and_then : Read → Result One ℕ → (Read → Result Read ℕ) → Result Read ℕ
and_then r (Err p) f = Err p
and_then r (Ok o) f = f (added r o)

-- the acts of a list, after those that were read before
abbrev pub acts_by : (ℕ → Seen → Data → Result One ℕ) → Read → Items → Result Read ℕ
acts_by one r no_items = Ok r
acts_by one r (item d ds) = and_then r (one r.next r.seen d) (λ s. acts_by one s ds)

-- before the first
abbrev pub nothing_read : ℕ → Seen → Read
nothing_read p s = record { acts = no_acts; next = p; seen = s; passing = None }

-- an act, once the acts inside it are read
abbrev pub one_then : ℕ → Head → Result Read ℕ → Result One ℕ
one_then p h (Err q) = Err q
one_then p h (Ok r) = Ok (one_of p h r)

-- an act of which this is known by itself
abbrev pub act_then : ℕ → Seen → Option Said → (Read → Items → Result Read ℕ) → Result One ℕ
act_then p s None inner = Err (fails_at s p)
act_then p s (Some x) inner =
    let h = head_of s p x in
    one_then p h.0 (inner (nothing_read (p + 1) h.1) (inner_of x))

-- an act at a place; acts nest at most so deep
abbrev pub act_in : ℕ → ℕ → Seen → Data → Result One ℕ
act_in zero p s d = Err (fails_at s p)
act_in (suc deep) p s d = act_then p s (said_in d) (acts_by (act_in deep))

-- a list of acts, which nest at most so deep, after those that were read before
abbrev pub acts_in : ℕ → Read → Items → Result Read ℕ
acts_in deep = acts_by (act_in deep)

-- ---- the program

-- the limits and the list of the acts, if nothing is wrong outside the acts
unfoldable pub outer_in : Data → Option (Limits × Items)
outer_in d =
    if not (has_only (codes "limits" ∷ codes "main" ∷ []) d) then None
    else (limits_of d >>= λ limits.
    get (codes "main") d >>= as_array >>= λ main. Some (limits, main))

-- the program, unless a fault was noted
abbrev pub without_fault : Limits → Acts → Option ℕ → Result Program ℕ
without_fault l main None = Ok (record { limits = l; main = main })
without_fault l main (Some p) = Err p

-- the program of these acts; the root's own list may be too long too
abbrev pub program_of : Limits → Result Read ℕ → Result Program ℕ
program_of l (Err p) = Err p
program_of l (Ok r) = without_fault l r.acts (noted_at r.passing r.seen).fault

-- the program that the parts of the outer object spell; acts nest as deep as JSON goes
abbrev pub form_of_outer : Option (Limits × Items) → Result Program ℕ
form_of_outer None = Err 0
form_of_outer (Some o) = program_of o.0 (acts_in 127 (nothing_read 1 none_seen) o.1)

-- the program that a JSON value spells, or the place of its first fault
abbrev pub form : Data → Result Program ℕ
form d = form_of_outer (outer_in d)

-- the program that a text spells; what is no JSON is at fault at 0
abbrev pub form_of : Option Data → Result Program ℕ
form_of None = Err 0
form_of (Some d) = form d
