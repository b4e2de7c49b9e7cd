-- A line is taken off the known bytes.
use Rattle.std.proofs.Common.{◌≡◌, ◌≢◌, ℕ, ◌+◌, ◌<◌, Bool, true, false, eqb, List, [], ◌∷◌, ◌++◌, All, Option, None, Some, IfSome, OnSome, cond, length, refl, sym, ap, subst, ◌∙◌, arith, length-append, unwrap_or}
use Rattle.std.specs.Io.{StopsAt, IsEmptyOrEndsWith}
use Rattle.std.specs.Io.KnownBytes.{Consumes, IsAtEnd}
use Rattle.std.specs.Io.BufRead.{take_through, drop_through, DropsThrough}
use Rattle.std.proofs.BufReadLemmas.{Consumes_through, take_through-append, take_through-nil}
use Rattle.judge_job.specs.Lines.{before_first, lines, IsTaken, TakesLine, IsOfLongLine}

-- the first line goes up to the first newline, and the others come after it
pub lines_through : (xs : List ℕ) → 0 < length xs → lines xs ≡ take_through 10 xs ∷ lines (drop_through 10 xs)
lines_through [] some = absurd (omega (arith, some))
lines_through (x ∷ []) some = at (eqb x 10)
  where
    at : (b : Bool) → cond b ((x ∷ []) ∷ []) ((x ∷ []) ∷ []) ≡ cond b (x ∷ []) (x ∷ []) ∷ lines (cond b [] [])
    at true = refl
    at false = refl
lines_through (x ∷ y ∷ ys) some = at (eqb x 10) (lines_through (y ∷ ys) (omega arith))
  where
    at : (b : Bool) → lines (y ∷ ys) ≡ take_through 10 (y ∷ ys) ∷ lines (drop_through 10 (y ∷ ys))
        → cond b ((x ∷ []) ∷ lines (y ∷ ys)) (before_first x (lines (y ∷ ys)))
        ≡ cond b (x ∷ []) (x ∷ take_through 10 (y ∷ ys)) ∷ lines (cond b (y ∷ ys) (drop_through 10 (y ∷ ys)))
    at true h = refl
    at false h = ap (before_first x) h

-- a part with no newline is in the first line
pub long_line : (most : ℕ) (xs p ys : List ℕ) → xs ≡ p ++ ys → All (λ x. x ≢ 10) p → most + 1 < length p → IsOfLongLine most xs
long_line most xs p ys split none long = record {
  line = take_through 10 xs;
  rest = lines (drop_through 10 xs);
  first = lines_through xs (omega (arith, ap length split, length-append p ys, long));
  long = omega (arith, ap length (ap (take_through 10) split ∙ take_through-append 10 p ys none), length-append p (take_through 10 ys), long);
}

pub long_line_known : (most : ℕ) (a b : Option (List ℕ)) (p : List ℕ) → Consumes a b p → All (λ x. x ≢ 10) p → most + 1 < length p
    → IfSome a (IsOfLongLine most)
long_line_known most None b p split none long = tt
long_line_known most (Some xs) None p split none long = absurd split
long_line_known most (Some xs) (Some ys) p split none long = long_line most xs p ys split none long

-- what a line is, of known bytes
taken : (xs ys line : List ℕ) → line ≡ take_through 10 xs → ys ≡ drop_through 10 xs → IsTaken xs ys line
taken [] ys [] is left = (refl, ap lines left)
taken [] ys (b ∷ bs) is left = absurd (omega (arith, ap length is))
taken (x ∷ xs) ys [] is left = absurd (omega (arith, ap length (take_through-nil 10 (x ∷ xs) (sym (ap length is)))))
taken (x ∷ xs) ys (b ∷ bs) is left =
    lines_through (x ∷ xs) (omega arith) ∙ ap (λ l. l ∷ lines (drop_through 10 (x ∷ xs))) (sym is) ∙ ap (λ r. (b ∷ bs) ∷ lines r) (sym left)

abbrev IsNothing : Option (List ℕ) → Type 0
IsNothing None = Unit {0}
IsNothing (Some x) = ⊥

takes : (a c : Option (List ℕ)) (line : List ℕ) → IfSome a (λ xs. line ≡ take_through 10 xs) → DropsThrough a c 10 → TakesLine a c line
takes None c line is left = tt
takes (Some xs) None line is left = absurd (subst IsNothing left tt)
takes (Some xs) (Some ys) line is left = taken xs ys line is (ap (λ o. unwrap_or o []) left)

same_line : (a : Option (List ℕ)) (line parts : List ℕ) → line ≡ parts → IfSome a (λ xs. parts ≡ take_through 10 xs) → IfSome a (λ xs. line ≡ take_through 10 xs)
same_line None line parts e h = tt
same_line (Some xs) line parts e h = e ∙ h

-- parts that met no newline, and then one that met it or the end, are a line
pub takes_parts : (a b c : Option (List ℕ)) (done part line : List ℕ) → Consumes a b done → All (λ x. x ≢ 10) done
    → Consumes b c part → StopsAt part 10 → IsEmptyOrEndsWith part 10 → (length part ≡ 0 → OnSome b (IsAtEnd c))
    → line ≡ done ++ part → TakesLine a c line
takes_parts a b c done part line p all q stops ends none is =
    let read = Consumes_through 10 a b c done part p all q stops ends none in
    takes a c line (same_line a line (done ++ part) is read.0) read.1
