-- Traces of given parts.
use Rattle.std.specs.Prelude.{◌≡◌, ◌⊎◌, Bool, true, ◌&&◌, nat_lt, List, [], ◌∷◌, flat_map, ⊤}
use Rattle.std.specs.List.{All}
use Rattle.std.specs.List.Sorted.{IsPermutation}
use Rattle.trace_model.specs.Run.{Entry}

-- the tickets strictly rise
abbrev pub rises : List Entry → Bool
rises [] = true
rises (a ∷ []) = true
rises (a ∷ b ∷ es) = nat_lt a.0 b.0 && rises (b ∷ es)

-- the first entries stand among the others, in their order
abbrev pub StandIn : List Entry → List Entry → Type 0
StandIn [] es = ⊤
StandIn (x ∷ xs) [] = ⊥
StandIn (x ∷ xs) (e ∷ es) = ((x ≡ e) × StandIn xs es) ⊎ StandIn (x ∷ xs) es

-- the entries are those of all parts together, each as often, and each part's stand in that part's order
pub record IsTraceOf (parts : List (List Entry)) (es : List Entry) : Type 0 where
  pub as_often : IsPermutation (flat_map (λ part. part) parts) es
  pub in_order : All (λ part. StandIn part es) parts
