-- JSON values whose text is read as the value again.
use Rattle.std.specs.Prelude.{◌≡◌, pos, negsuc, ◌^◌, ◌<◌, ◌≤◌, Some, ⊤, IsUtf8}
use Rattle.serde_json.specs.Data.{Num, unsigned, negative, float, Data, null, boolean, number, string, array, object, Items, no_items, item, Members, no_members, member, put, depth}
use Rattle.serde_json.specs.Read.{max_depth}
use Rattle.serde_json.specs.Written.{compact_text}
use Rattle.job_script.specs.Reading.{reading}

-- a whole number of 64 bits
abbrev pub IsWhole : Num → Type 0
IsWhole (unsigned n) = n < 2 ^ 64
IsWhole (negative (pos n)) = ⊥
IsWhole (negative (negsuc n)) = n < 2 ^ 63
IsWhole (float x) = ⊥

-- the members, put one after the other into an object that has these already
abbrev pub put_all : Members → Members → Members
put_all no_members found = found
put_all (member k d ms) found = put_all ms (put k d found)

-- its numbers are whole, its strings are UTF-8, and each object has its keys in order
abbrev mutual
  pub IsPlain : Data → Type 0
  IsPlain null = ⊤
  IsPlain (boolean b) = ⊤
  IsPlain (number n) = IsWhole n
  IsPlain (string s) = IsUtf8 s
  IsPlain (array ds) = ArePlain ds
  IsPlain (object ms) = MembersArePlain ms × (put_all ms no_members ≡ ms)

  pub ArePlain : Items → Type 0
  ArePlain no_items = ⊤
  ArePlain (item d ds) = IsPlain d × ArePlain ds

  pub MembersArePlain : Members → Type 0
  MembersArePlain no_members = ⊤
  MembersArePlain (member k d ms) = IsUtf8 k × IsPlain d × MembersArePlain ms

-- the text of such a value is read as that value
abbrev pub TextsAreReadBack : Type 0
TextsAreReadBack = (d : Data) → IsPlain d → depth d ≤ max_depth → reading (compact_text d) ≡ Some d
