-- The pipeline: items 1, 2 and so on go through stages, of which each adds its own number.
use Rattle.std.specs.Prelude.{ℕ, zero, suc, ◌+◌, ◌*◌, ◌/◌, ◌≡◌, List, map}
use Rattle.std.specs.List.{range_with_len}

-- what item i is behind so many stages
abbrev pub pipeline_item : ℕ → ℕ → ℕ
pipeline_item zero i = i
pipeline_item (suc stages) i = pipeline_item stages i + (stages + 1)

-- so many items in order, behind so many stages
abbrev pub pipeline : ℕ → ℕ → List ℕ
pipeline stages items = map (pipeline_item stages) (range_with_len 1 items)

-- a law: the stages add up to a triangle
abbrev pub AddsTriangle : Type 0
AddsTriangle = (stages i : ℕ) → pipeline_item stages i ≡ i + stages * (stages + 1) / 2
