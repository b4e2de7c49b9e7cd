-- A number that is written by digits.
use Rattle.std.specs.Cmp.Lexicographic.{pointwise}
use Rattle.std.proofs.lemmas.Bool.Decides.{Decides-eqb}
use Rattle.std.proofs.lemmas.Slice.Eq.{strip_prefix_is}
use Rattle.std.proofs.Common.{eqb, true, false, Bor, Option, None, Some, MatchOption, IfSome, ◌-◌, take_all, ◌≡◌, ℕ, suc, ◌+◌, ◌*◌, ◌/◌, ◌%◌, ◌^◌, ◌<◌, List, [], ◌∷◌, ◌++◌, length, get_or, take, drop, decimal, ap, sym, ◌∙◌, arith}
use Rattle.std.proofs.Math.Seq.{take-suc}
use Rattle.std.proofs.lemmas.Fmt.{decimal_digit, decimal_step}

-- a zero in front is the number 0
pub zero_first : (bs : List ℕ) → 0 < length bs → get_or bs 0 0 ≡ 48 → bs ≡ decimal 0 ++ take (length bs - 1) (drop 1 bs)
zero_first [] some is = absurd (omega arith)
zero_first (x ∷ xs) some is =
    ap (λ y. y ∷ xs) is ∙ ap (λ l. l ++ xs) (sym (decimal_digit 0 (omega arith)))
    ∙ ap (λ l. decimal 0 ++ l) (sym (take_all (length (x ∷ xs) - 1) xs (omega arith)))

-- another first digit is a number
pub first_digit : (bs : List ℕ) (d : ℕ) → 0 < length bs → d < 10 → get_or bs 0 0 ≡ 48 + d → decimal d ≡ take 1 bs
first_digit [] d some small is = absurd (omega arith)
first_digit (x ∷ xs) d some small is = decimal_digit d small ∙ ap (λ y. y ∷ []) (sym is)

-- a digit more
pub next_digit : (bs : List ℕ) (len n d : ℕ) → len < length bs → 0 < n → d < 10 → n * 10 + d < 2 ^ 64 → get_or bs len 0 ≡ 48 + d
    → decimal n ≡ take len bs → decimal (n * 10 + d) ≡ take (len + 1) bs
next_digit bs len n d within some small fits is so_far =
    let m = n * 10 + d in
    let front : m / 10 ≡ n = omega arith in
    let last : 48 + m % 10 ≡ get_or bs len 0 = omega arith in
    let more : suc len ≡ len + 1 = omega arith in
    decimal_step m (omega arith) fits
    ∙ (λ i. decimal (front i) ++ (last i ∷ []))
    ∙ ap (λ l. l ++ (get_or bs len 0 ∷ [])) so_far
    ∙ sym (take-suc bs len 0 within)
    ∙ ap (λ k. take k bs) more

-- what `strip_prefix` says of bytes
pub after_front : (bytes front : List ℕ) (r : Option (Bor (List ℕ)))
    → MatchOption r (pointwise eqb (take (length front) bytes) front ≡ false)
    (λ x. (pointwise eqb (take (length front) bytes) front ≡ true) × (x.now ≡ drop (length front) bytes) × (length x.now + length front ≡ length bytes))
    → IfSome r (λ x. bytes ≡ front ++ x.now)
after_front bytes front None m = tt
after_front bytes front (Some x) m = strip_prefix_is Decides-eqb bytes front (Some x) m
