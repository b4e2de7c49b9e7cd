-- That a row's pieces, each after a step between its neighbours, are the row after a step.
use Rattle.std.proofs.Common.{ℕ, zero, suc, ◌+◌, ◌≡◌, List, [], ◌∷◌, ◌++◌, length, map, get_or, refl, ap, sym, subst}
use Rattle.std.proofs.lemmas.List.{get_or-append-add, length-append}
use Rattle.std.specs.List.{concat, range_with_len}
use Rattle.job_kernels.specs.Stencil.{cell_before, cell_after, stencil_step, stencil}
use Rattle.chunked_stencil.specs.Pieces.{first_or, last_or, piece_step, pieces_step, pieces_after, PiecesComeToStencil}

-- ---- pieces beside one another

first_of_joined : (other : ℕ) (xs ys : List ℕ) → first_or other (xs ++ ys) ≡ first_or (first_or other ys) xs
first_of_joined other [] ys = refl
first_of_joined other (x ∷ xs) ys = refl

step_of_joined : (left : ℕ) (xs ys : List ℕ) (right : ℕ)
    → piece_step left (xs ++ ys) right
    ≡ piece_step left xs (first_or right ys) ++ piece_step (last_or left xs) ys right
step_of_joined left [] ys right = refl
step_of_joined left (x ∷ xs) ys right =
    rw (first_of_joined right xs ys, step_of_joined x xs ys right)

step_of_pieces : (left : ℕ) (pieces : List (List ℕ))
    → concat (pieces_step left pieces) ≡ piece_step left (concat pieces) 0
step_of_pieces left [] = refl
step_of_pieces left (piece ∷ pieces) =
    rw (step_of_joined left piece (concat pieces) 0, step_of_pieces (last_or left piece) pieces)

-- ---- the whole row as one piece

last_at : (x : ℕ) (xs rest : List ℕ) → get_or (x ∷ (xs ++ rest)) (length xs) 0 ≡ last_or x xs
last_at x [] rest = refl
last_at x (y ∷ xs) rest = last_at y xs rest

before_at : (done rest : List ℕ) → cell_before (done ++ rest) (length done) ≡ last_or 0 done
before_at [] rest = refl
before_at (x ∷ xs) rest = last_at x xs rest

at_seam : (done rest : List ℕ) → get_or (done ++ rest) (length done) 0 ≡ first_or 0 rest
at_seam [] [] = refl
at_seam [] (x ∷ rest) = refl
at_seam (x ∷ done) rest = at_seam done rest

last_of_more : (other : ℕ) (done : List ℕ) (cell : ℕ) → last_or other (done ++ cell ∷ []) ≡ cell
last_of_more other [] cell = refl
last_of_more other (x ∷ done) cell = last_of_more x done cell

one_more : (done : List ℕ) (cell : ℕ) (rest : List ℕ) → (done ++ cell ∷ []) ++ rest ≡ done ++ cell ∷ rest
one_more [] cell rest = refl
one_more (x ∷ done) cell rest = ap (λ row. x ∷ row) (one_more done cell rest)

length_of_more : (done : List ℕ) (cell : ℕ) → length (done ++ cell ∷ []) ≡ length done + 1
length_of_more done cell = length-append done (cell ∷ [])

behind_seam : (done : List ℕ) (cell : ℕ) (rest : List ℕ)
    → get_or (done ++ cell ∷ rest) (length done + 1) 0 ≡ first_or 0 rest
behind_seam done cell rest = rw (get_or-append-add done (cell ∷ rest) 1 0) (at_seam [] rest)

-- the rest of a row, from a place on, behind this cell
abbrev RestIs : List ℕ → ℕ → ℕ → List ℕ → Type 0
RestIs row place before rest = map (cell_after row) (range_with_len place (length rest))
    ≡ piece_step before rest 0

rest_is : (done rest : List ℕ) → RestIs (done ++ rest) (length done) (last_or 0 done) rest
rest_is done [] = refl
rest_is done (cell ∷ rest) =
    let more = done ++ cell ∷ [] in
    let row = done ++ cell ∷ rest in
    let one = subst (λ all. RestIs all (length more) (last_or 0 more) rest) (one_more done cell rest)
    (rest_is more rest) in
    let two = subst (λ place. RestIs row place (last_or 0 more) rest) (length_of_more done cell) one in
    let three = subst (λ before. RestIs row (length done + 1) before rest) (last_of_more 0 done cell) two in
    rw (before_at done (cell ∷ rest), at_seam done (cell ∷ rest), behind_seam done cell rest, three)

pub row_is_piece : (cells : List ℕ) → piece_step 0 cells 0 ≡ stencil_step cells
row_is_piece cells = sym (rest_is [] cells)

pub pieces_come_to_stencil : PiecesComeToStencil
pieces_come_to_stencil zero pieces = refl
pieces_come_to_stencil (suc steps) pieces =
    rw (step_of_pieces 0 (pieces_after steps pieces), pieces_come_to_stencil steps pieces)
    (row_is_piece (stencil steps (concat pieces)))
