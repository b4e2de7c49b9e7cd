-- Where the acts of a stored list end in the flat one.
use Rattle.std.specs.Prelude.{ℕ, zero, suc, ◌+◌, List, [], ◌∷◌, min, slice_index_or}
use Rattle.job_script.specs.Acts.{Acts, no_acts, act, written_length, flat_length, too_many}

-- where each act of the list ends in the flat list, counted on from s, as far as numbers go that are not too large
abbrev pub ends_from : ℕ → Acts → List ℕ
ends_from s no_acts = []
ends_from s (act h body rest) =
    min (s + written_length h (flat_length body)) too_many
    ∷ ends_from (s + written_length h (flat_length body)) rest

-- where the act of that number begins
abbrev pub start_of : ℕ → ℕ → List ℕ → ℕ
start_of s zero ends = s
start_of s (suc i) ends = slice_index_or ends i 0
