-- The names of phasers in a program: how they are written, and how they are numbered while the text is read.
use Rattle.std.specs.Prelude.{ℕ, ◌&&◌, ◌||◌, ◌==◌, List, [], ◌∷◌, ◌++◌, length, min, Bool, true, false, nat_lt, nat_le, if◌then◌else◌, Option, Some, None}
use Rattle.std.specs.Char.{is_ascii_alphanumeric}
use Rattle.std.specs.List.{list_all, position}
use Rattle.std.specs.Str.{bytes_eq}
use Rattle.serde_json.specs.Data.{Data}
use Rattle.serde_json.specs.Find.{at, as_str}
use Rattle.phase_modes.specs.declared.reg.Mode.{Mode}
use Rattle.job_script.specs.Words.{◌>>=◌}
use Rattle.job_script.specs.declared.head.Named.{Named}

-- ---- how a name is written

-- a letter, a digit or an underscore
abbrev pub is_name_byte : ℕ → Bool
is_name_byte b = is_ascii_alphanumeric b || (b == 95)

-- 1 to 32 of them
abbrev pub is_name : List ℕ → Bool
is_name name = nat_le 1 (length name) && nat_le (length name) 32 && list_all is_name_byte name

-- the name that an item is
abbrev pub name_in : Data → Option (List ℕ)
name_in d = as_str d >>= λ name. if is_name name then Some name else None

-- the name at an index of a list
abbrev pub name_at : ℕ → Data → Option (List ℕ)
name_at i d = at i d >>= name_in

-- a name as it is written, and the mode in which a child is to be registered on its phaser
pub record NameMode : Type 0 where
  pub name : List ℕ
  pub mode : Mode

-- ---- what a reader has seen

-- the names so far, in the order in which they first stood, and the least place of a fault that was noted
pub record Seen : Type 0 where
  pub names : List (List ℕ)
  pub fault : Option ℕ

-- before the first act
abbrev pub none_seen : Seen
none_seen = record { names = []; fault = None }

-- the lesser of a noted fault and a new one
abbrev pub least_fault : Option ℕ → ℕ → ℕ
least_fault None p = p
least_fault (Some q) p = min q p

-- a fault at this place is noted
abbrev pub noted : Seen → ℕ → Seen
noted s p = record { names = s.names; fault = Some (least_fault s.fault p) }

-- the same, if the test says so
abbrev pub noted_where : Bool → Seen → ℕ → Seen
noted_where true s p = noted s p
noted_where false s p = s

-- the same, if there is such a place
abbrev pub noted_at : Option ℕ → Seen → Seen
noted_at None s = s
noted_at (Some p) s = noted s p

-- the place of a fault of form, or of a lesser one that was noted
abbrev pub fails_at : Seen → ℕ → ℕ
fails_at s p = least_fault s.fault p

-- ---- how names are numbered

-- the number of a name that stood before, or else the next one; at most 64 names are numbered
abbrev pub number_by : Option ℕ → Seen → ℕ → List ℕ → ℕ × Seen
number_by (Some i) s p name = (i, s)
number_by None s p name =
    if nat_lt (length s.names) 64
    then (length s.names, record { names = s.names ++ name ∷ []; fault = s.fault })
    else (0, noted s p)

-- the number of a name in the act at place p, and what is seen with it
abbrev pub number_of : Seen → ℕ → List ℕ → ℕ × Seen
number_of s p name = number_by (position (bytes_eq name) s.names) s p name

-- the names of a spawn, numbered one after the other
abbrev pub numbered : Seen → ℕ → List NameMode → List Named × Seen
numbered s p [] = ([], s)
numbered s p (x ∷ xs) =
    let one = number_of s p x.name in
    let rest = numbered one.1 p xs in
    (record { name = one.0; mode = x.mode } ∷ rest.0, rest.1)
