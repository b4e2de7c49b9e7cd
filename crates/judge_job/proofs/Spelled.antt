-- What is printed of an event is read as that event.
use Rattle.std.proofs.Common.{◌≡◌, ℕ, ◌^◌, ◌<◌, ◌≤◌, ◌||◌, nat_le, if◌then◌else◌, true, false, List, [], ◌∷◌, ◌++◌, length, get_or, Option, None, Some, option_map, is_some, codes, decimal, refl, sym, ap, ◌∙◌, arith, append-nil, lt-ltb, le-leb, ne_eqb}
use Rattle.std.proofs.lemmas.Bool.{false≢true}
use Rattle.std.proofs.lemmas.Fmt.{decimal_is_IsNumeral, decimal_nonempty}
use Rattle.std.specs.Char.{digit_value}
use Rattle.std.specs.Str.Parse.{AllDigits}
use Rattle.fast_float.specs.Text.{Parts, scan, digits_of, IsWellFormed}
use Rattle.fast_float.proofs.Writing.{scan-text_of}
use Rattle.json.specs.Token.{Token, begin_array, end_array, string, number}
use Rattle.json.specs.Lex.{tokens}
use Rattle.json.specs.Json.{after_end_array, document}
use Rattle.json.specs.Print.{escape_byte, print_from, print, ArePrintable}
use Rattle.json.proofs.Printed.Tokens.{tokens-print}
use Rattle.json.proofs.Printed.Decimals.{IsNumber-decimal}
use Rattle.phaser_judge.specs.declared.event.Named.{Named}
use Rattle.phaser_judge.specs.declared.event.Named.TheVariants.{Sig, Claim, Did, Pass, Drop}
use Rattle.phaser_judge.specs.declared.event.NamedEvent.{NamedEvent}
use Rattle.judge_job.specs.declared.line.Line.{Line}
use Rattle.judge_job.specs.Fronts.{◌>>=◌, digits_in, whole_in, number_front, number_within, word_front, is_last}
use Rattle.judge_job.specs.Forms.{only_task_in, sig_end, sig_in, named_in, event_in, kind_in, list_in, text_in}
use Rattle.judge_job.specs.inner.Compact.{happened_in, Spells}

-- ---- numbers

no_minus : (ds : List ℕ) → AllDigits 10 ds → 0 < length ds → get_or ds 0 0 ≡ 45 → ⊥
no_minus [] h some is = omega arith
no_minus (d ∷ ds) h some is = let digit : digit_value d < 10 = h.0 in let same : d ≡ 45 = is in grind arith

abbrev digits : List ℕ → Parts
digits ds = record { whole = ds; point = false; fraction = []; exponent_negative = false; exponent = []; len = length (ds ++ []) }

scanned : (n : ℕ) → n < 2 ^ 64 → scan (decimal n) ≡ digits (decimal n)
scanned n h =
    let numeral = decimal_is_IsNumeral n h in
    let formed : IsWellFormed (digits (decimal n)) = record { whole_digits = numeral.0.1; fraction_digits = tt; exponent_digits = tt; no_point = λ _. refl; no_exponent = λ _. refl; len_is = refl } in
    ap scan (sym (append-nil (decimal n))) ∙ scan-text_of (digits (decimal n)) formed

-- what `{}` writes is read as the number
whole_decimal : (n : ℕ) → n < 2 ^ 64 → whole_in (decimal n) ≡ Some n
whole_decimal n h =
    let numeral = decimal_is_IsNumeral n h in
    let some = decimal_nonempty n h in
    let same : digits_of (digits (decimal n)) ≡ n = rw append-nil numeral.1 in
    rw (ne_eqb (get_or (decimal n) 0 0) 45 (no_minus _ numeral.0.1 some))
    (ap digits_in (scanned n h) ∙ rw (lt-ltb _ _ some, same) (rw (lt-ltb _ _ h)))

number_read : (n : ℕ) (ts : List Token) → n < 2 ^ 64 → number_front (number (decimal n) ∷ ts) ≡ Some (n, ts)
unfolding number_front
number_read n ts h = ap (λ o. o >>= λ k. Some (k, ts)) (whole_decimal n h)

within_read : (most n : ℕ) (ts : List Token) → n < 2 ^ 64 → n ≤ most → number_within most (number (decimal n) ∷ ts) ≡ Some (n, ts)
unfolding number_within
within_read most n ts h fits = ap (λ o. o >>= λ k. if nat_le k.0 most then Some k else None) (number_read n ts h) ∙ rw (le-leb _ _ fits) refl

-- ---- what happened

abbrev alone : List ℕ → ℕ → List Token
alone name t = string name ∷ number (decimal t) ∷ end_array ∷ []

alone_printed : (name : List ℕ) (t : ℕ) → t < 2 ^ 64 → ArePrintable (alone name t)
unfolding ArePrintable
alone_printed name t h = (tt, (IsNumber-decimal t h, (tt, tt)))

only_read : (t : ℕ) → t < 2 ^ 64 → only_task_in (number (decimal t) ∷ end_array ∷ []) ≡ Some t
unfolding only_task_in
only_read t h = ap (λ o. o >>= λ k. if is_last k.1 then Some k.0 else None) (number_read t (end_array ∷ []) h)

module _ (t : ℕ) (bytes rest : List ℕ) (h : t < 2 ^ 64) (last : rest ≡ decimal t ++ 93 ∷ []) where
  pub pass_spelled : bytes ≡ codes ",\"pass\"," ++ rest → Spells (Pass t) bytes
  unfolding named_in print_from escape_byte
  pass_spelled is = (alone (codes "pass") t, is ∙ ap (λ l. codes ",\"pass\"," ++ l) last, alone_printed _ t h, ap (option_map Pass) (only_read t h))

  pub drop_spelled : bytes ≡ codes ",\"drop\"," ++ rest → Spells (Drop t) bytes
  unfolding named_in print_from escape_byte
  drop_spelled is = (alone (codes "drop") t, is ∙ ap (λ l. codes ",\"drop\"," ++ l) last, alone_printed _ t h, ap (option_map Drop) (only_read t h))

  pub claim_spelled : bytes ≡ codes ",\"claim\"," ++ rest → Spells (Claim t) bytes
  unfolding named_in print_from escape_byte
  claim_spelled is = (alone (codes "claim") t, is ∙ ap (λ l. codes ",\"claim\"," ++ l) last, alone_printed _ t h, ap (option_map Claim) (only_read t h))

  pub did_spelled : bytes ≡ codes ",\"did\"," ++ rest → Spells (Did t) bytes
  unfolding named_in print_from escape_byte
  did_spelled is = (alone (codes "did") t, is ∙ ap (λ l. codes ",\"did\"," ++ l) last, alone_printed _ t h, ap (option_map Did) (only_read t h))

module _ (t : ℕ) (bytes rest : List ℕ) (h : t < 2 ^ 64) (first : bytes ≡ decimal t ++ rest) where
  pub sig_spelled : rest ≡ 93 ∷ [] → Spells (Sig t None) (codes ",\"sig\"," ++ bytes)
  unfolding named_in sig_in print_from escape_byte
  sig_spelled last = (
    alone (codes "sig") t,
    ap (λ l. codes ",\"sig\"," ++ l) (first ∙ ap (λ l. decimal t ++ l) last),
    alone_printed _ t h,
    ap (λ o. o >>= λ k. sig_end k.0 k.1 (after_end_array k.1)) (number_read t (end_array ∷ []) h),
  )

  pub single_spelled : (n : ℕ) (single : List ℕ) → n ≤ 4294967295 → rest ≡ codes "," ++ single → single ≡ decimal n ++ 93 ∷ []
      → Spells (Sig t (Some n)) (codes ",\"sig\"," ++ bytes)
  unfolding named_in sig_in print_from ArePrintable escape_byte
  single_spelled n single fits comma last =
      let small : n < 2 ^ 64 = omega arith in (
        string (codes "sig") ∷ number (decimal t) ∷ number (decimal n) ∷ end_array ∷ [],
        ap (λ l. codes ",\"sig\"," ++ l) (first ∙ ap (λ l. decimal t ++ l) (comma ∙ ap (λ l. codes "," ++ l) last)),
        (tt, (IsNumber-decimal t h, (IsNumber-decimal n small, (tt, tt)))),
        ap (λ o. o >>= λ k. sig_end k.0 k.1 (after_end_array k.1)) (number_read t (number (decimal n) ∷ end_array ∷ []) h)
            ∙ ap (λ o. o >>= λ k. if is_last k.1 then Some (Sig t (Some k.0)) else None) (within_read 4294967295 n (end_array ∷ []) small fits),
      )

-- ---- the line

abbrev at_phaser : ℕ → Named → NamedEvent
at_phaser p e = record { phaser = p; event = e }

abbrev with_ticket : ℕ → Option NamedEvent → Line
with_ticket k e = record { ticket = k; event = e }

event_read : (p : ℕ) (e : Named) (ts : List Token) → p < 2 ^ 64 → happened_in ts ≡ Some e → event_in (number (decimal p) ∷ ts) ≡ Some (at_phaser p e)
unfolding event_in
event_read p e ts h is =
    ap (λ o. o >>= λ k. word_front k.1 >>= λ w. named_in w.0 w.1 >>= λ x. Some (at_phaser k.0 x)) (number_read p ts h) ∙ next (word_front ts) is
  where
    next : (o : Option (List ℕ × List Token)) → (o >>= λ w. named_in w.0 w.1) ≡ Some e
        → (o >>= λ w. named_in w.0 w.1 >>= λ x. Some (at_phaser p x)) ≡ Some (at_phaser p e)
    next None is = absurd (false≢true (ap is_some is))
    next (Some w) is = ap (λ o. o >>= λ x. Some (at_phaser p x)) is

line_read : (k p : ℕ) (e : Named) (ts : List Token) → k < 2 ^ 64 → p < 2 ^ 64 → happened_in ts ≡ Some e
    → list_in (begin_array ∷ number (decimal k) ∷ string (codes "p") ∷ number (decimal p) ∷ ts) ≡ Some (with_ticket k (Some (at_phaser p e)))
unfolding list_in kind_in
line_read k p e ts ticket phaser is =
    ap (λ o. o >>= λ n. word_front n.1 >>= λ w. kind_in w.0 w.1 >>= λ x. Some (with_ticket n.0 x))
    (number_read k (string (codes "p") ∷ number (decimal p) ∷ ts) ticket)
    ∙ ap (λ o. option_map Some o >>= λ x. Some (with_ticket k x)) (event_read p e ts phaser is)

pub line_spelled : (bytes after_bracket after_ticket after_kind after_phaser : List ℕ) (k p : ℕ) (e : Named) → k < 2 ^ 64 → p < 2 ^ 64
    → bytes ≡ codes "[" ++ after_bracket → after_bracket ≡ decimal k ++ after_ticket → after_ticket ≡ codes ",\"p\"," ++ after_kind
    → after_kind ≡ decimal p ++ after_phaser → Spells e after_phaser
    → text_in bytes ≡ Some (with_ticket k (Some (at_phaser p e)))
unfolding text_in print_from ArePrintable escape_byte
line_spelled bytes after_bracket after_ticket after_kind after_phaser k p e ticket phaser first second third fourth spells =
    let ts = begin_array ∷ number (decimal k) ∷ string (codes "p") ∷ number (decimal p) ∷ spells.0 in
    let text : bytes ≡ print ts =
    first ∙ ap (λ l. codes "[" ++ l) (second ∙ ap (λ l. decimal k ++ l) (third ∙ ap (λ l. codes ",\"p\"," ++ l) (fourth ∙ ap (λ l. decimal p ++ l) spells.1))) in
    let printable : ArePrintable ts = (tt, (IsNumber-decimal k ticket, (tt, (IsNumber-decimal p phaser, spells.2)))) in
    ap (λ o. o >>= λ l. if is_some l.event || is_some (document bytes) then Some l else None)
    (ap (λ b. list_in (tokens b)) text ∙ ap list_in (tokens-print ts printable) ∙ line_read k p e spells.0 ticket phaser spells.3)
