-- A row in pieces: what each becomes between its neighbours, and that together they are the stencil.
use Rattle.std.specs.Prelude.{ℕ, zero, suc, ◌≡◌, List, [], ◌∷◌}
use Rattle.std.specs.List.{concat}
use Rattle.job_kernels.specs.Stencil.{weighed, stencil}

-- the first cell of a piece, the last cell; of an empty one the cell that is named
abbrev pub first_or : ℕ → List ℕ → ℕ
first_or other [] = other
first_or other (cell ∷ cells) = cell

abbrev pub last_or : ℕ → List ℕ → ℕ
last_or other [] = other
last_or other (cell ∷ cells) = last_or cell cells

-- a piece after a step, between the cell on its left and the cell on its right
abbrev pub piece_step : ℕ → List ℕ → ℕ → List ℕ
piece_step left [] right = []
piece_step left (cell ∷ cells) right = weighed left cell (first_or right cells) ∷ piece_step cell cells right

-- pieces after a step, behind the cell on the left of all: each between the last cell of those before it and the first
-- cell of those behind it; behind the last piece a cell is 0
abbrev pub pieces_step : ℕ → List (List ℕ) → List (List ℕ)
pieces_step left [] = []
pieces_step left (piece ∷ pieces) =
    piece_step left piece (first_or 0 (concat pieces)) ∷ pieces_step (last_or left piece) pieces

-- the pieces of a row after so many steps
abbrev pub pieces_after : ℕ → List (List ℕ) → List (List ℕ)
pieces_after zero pieces = pieces
pieces_after (suc steps) pieces = pieces_step 0 (pieces_after steps pieces)

-- a law: whatever pieces a row is split into, put together they are the stencil of the row after as many steps
abbrev pub PiecesComeToStencil : Type 0
PiecesComeToStencil = (steps : ℕ) (pieces : List (List ℕ))
    → concat (pieces_after steps pieces) ≡ stencil steps (concat pieces)

-- an example: eight cells in three pieces, of which one is hot, after two steps
abbrev pub ThreePiecesGoTwoSteps : Type 0
ThreePiecesGoTwoSteps =
    pieces_after 2 ((0 ∷ 0 ∷ 0 ∷ []) ∷ (256 ∷ 0 ∷ []) ∷ (0 ∷ 0 ∷ 0 ∷ []) ∷ [])
    ≡ (0 ∷ 16 ∷ 64 ∷ []) ∷ (96 ∷ 64 ∷ []) ∷ (16 ∷ 0 ∷ 0 ∷ []) ∷ []
