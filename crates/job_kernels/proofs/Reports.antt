-- What is read off a report whose phasers come by rising number.
use Rattle.std.proofs.Common.{ℕ, ℤ, zero, suc, ◌+◌, ◌≡◌, ◌≤◌, ◌<◌, ◌∙◌, Bool, true, false, ◌==◌, ◌&&◌, cond, max, List, [], ◌∷◌, ◌++◌, length, map, flat_map, get_or, refl, sym, ap, inl, inr, arith}
use Rattle.std.specs.Prelude.{filter}
use Rattle.std.specs.List.{range_with_len}
use Rattle.std.proofs.lemmas.Bool.{cases_Bool, eqb-true, eq-eqb, ne_eqb, true≢false}
use Rattle.std.proofs.lemmas.List.{append-nil}
use Rattle.std.proofs.lemmas.List.FromFn.{fill_by_all}
use Rattle.phase_model.specs.declared.history.Event.{Event}
use Rattle.phase_model.specs.declared.history.Event.TheVariants.{Make, Reg, Sig, Claim, Did, Pass, Send, Look, Drop}
use Rattle.phase_model.specs.declared.op.Op.TheVariants.{Sum}
use Rattle.phase_model.specs.Phases.{signals, waits}
use Rattle.phase_model.specs.Values.{sent, sum_of}
use Rattle.world_model.specs.declared.report.FoldLine.{FoldLine}
use Rattle.world_model.specs.Report.{folds_from, phase_count}
use Rattle.job_kernels.specs.Results.{value_in}
use Rattle.job_kernels.proofs.Numbers.{le_apart_next_le, le_not_lt, le_without_one, lt_next, lt_not_same, next_on, next_on_lt, no_next_le_zero, same_lt_next}

-- ---- the values of one phase

-- the folds of the one sum, phase by phase
abbrev pub sums_from : List Event → ℕ → ℕ → List FoldLine
sums_from h a m = flat_map (λ p. folds_from p 0 (Sum ∷ []) h) (range_with_len a m)

none_of : (h : List Event) (s a m : ℕ) → s < a → flat_map (value_in s) (sums_from h a m) ≡ []
none_of h s a zero lt = refl
none_of h s a (suc m) lt =
    rw (ne_eqb a s (λ e. apart s a e lt)) (none_of h s (a + 1) m (lt_next s a lt))
  where
    apart : (s a : ℕ) → a ≡ s → s < a → ⊥
    apart s a e h = omega arith

pub sum_in : (h : List Event) (s a m : ℕ) → a ≤ s → s < a + m
    → flat_map (value_in s) (sums_from h a m) ≡ sum_of (sent 0 s h) ∷ []
sum_in h s a zero le lt = absurd (le_not_lt s a le lt)
sum_in h s a (suc m) le lt =
    elim (cases_Bool (a == s)) [
      | inl e ↦
          let same : a ≡ s = eqb-true a s e in
          rw e (ap (λ xs. sum_of (sent 0 a h) ∷ xs) (none_of h s (a + 1) m (same_lt_next s a same))
          ∙ ap (λ p. sum_of (sent 0 p h) ∷ []) same)
      | inr e ↦
          rw e (sum_in h s (a + 1) m (le_apart_next_le s a le (λ x. true≢false (sym (eq-eqb a s x) ∙ e)))
          (next_on_lt s a m lt))
    ]

-- a phase for which a value was sent is one of the history's
right_of_max : (p a b : ℕ) → p < b → p < max a b
right_of_max p a b x = omega arith

left_of_max : (p a b : ℕ) → a ≡ p → p < max (a + 1) b
left_of_max p a b x = omega arith

send_counts : (p a c : ℕ) (x : ℤ) (xs : List ℤ) (b d : Bool) → (a == p) ≡ d → ((xs ≡ [] → ⊥) → p < c)
    → (cond (b && d) (x ∷ xs) xs ≡ [] → ⊥) → p < max (a + 1) c
send_counts p a c x xs true true s before n = left_of_max p a c (eqb-true a p s)
send_counts p a c x xs true false s before n = right_of_max p (a + 1) c (before n)
send_counts p a c x xs false d s before n = right_of_max p (a + 1) c (before n)

some_counts : (p : ℕ) (h : List Event) → (sent 0 p h ≡ [] → ⊥) → p < phase_count h
some_counts p [] n = absurd (n refl)
some_counts p (Make t m ∷ h) n = some_counts p h n
some_counts p (Reg q t m ∷ h) n = some_counts p h n
some_counts p (Sig t x ∷ h) n = right_of_max p (signals t h + 1) (phase_count h) (some_counts p h n)
some_counts p (Claim t ∷ h) n = some_counts p h n
some_counts p (Did t ∷ h) n = some_counts p h n
some_counts p (Pass t ∷ h) n = right_of_max p (waits t h + 1) (phase_count h) (some_counts p h n)
some_counts p (Look t a x ∷ h) n = some_counts p h n
some_counts p (Drop t ∷ h) n = some_counts p h n
some_counts p (Send t a x ∷ h) n =
    send_counts p (signals t h) (phase_count h) x (sent 0 p h) (a == 0) (signals t h == p) refl
    (some_counts p h) n

pub sent_counts : (p : ℕ) (v : ℤ) (h : List Event) → sent 0 p h ≡ v ∷ [] → p < phase_count h
sent_counts p v h e = some_counts p h (λ n. some_none (sym e ∙ n))
  where
    some_none : v ∷ [] ≡ [] → ⊥
    some_none x = cc

-- ---- phaser by phaser

module _ {X Y : Type 0} (line : ℕ → X) (read : X → List Y) (is : ℕ → Bool) (value : ℕ → Y) (n : ℕ)
    (there : (j : ℕ) → j < n → (is j ≡ true) × (read (line j) ≡ value j ∷ []))
    (nothing : (j : ℕ) → n ≤ j → is j ≡ false) where
  abbrev reads : ℕ → ℕ → List Y
  reads a m = flat_map read (map line (filter is (range_with_len a m)))

  nothing_read : (a m : ℕ) → n ≤ a → reads a m ≡ []
  nothing_read a zero le = refl
  nothing_read a (suc m) le = rw (nothing a le) (nothing_read (a + 1) m (more le))
    where
      more : n ≤ a → n ≤ a + 1
      more h = omega arith

  -- the values of those below the bound, in order
  pub all_read : (a r m : ℕ) → a + r ≡ n → r ≤ m → reads a m ≡ map value (range_with_len a r)
  all_read a zero m e le = nothing_read a m (at_bound a n e)
    where
      at_bound : (a n : ℕ) → a + 0 ≡ n → n ≤ a
      at_bound a n e = omega arith
  all_read a (suc r) zero e le = absurd (no_next_le_zero r le)
  all_read a (suc r) (suc m) e le =
      let t = there a (below a r n e) in
      rw t.0 (ap (λ xs. xs ++ reads (a + 1) m) t.1
      ∙ ap (λ xs. value a ∷ xs) (all_read (a + 1) r m (next_on a r n e) (le_without_one r m le)))
    where
      below : (a r n : ℕ) → a + suc r ≡ n → a < n
      below a r n e = omega arith

-- a list, number by number
pub map_twice : {X Y : Type 0} (f : X → Y) (g : ℕ → X) (ns : List ℕ)
    → map f (map g ns) ≡ map (λ n. f (g n)) ns
map_twice f g [] = refl
map_twice f g (n ∷ ns) = ap (λ xs. f (g n) ∷ xs) (map_twice f g ns)

pub by_number : {Y : Type 0} (f : ℕ → Y) (xs : List ℕ) (n : ℕ) → length xs ≡ n
    → map (λ j. f (get_or xs j 0)) (range_with_len 0 n) ≡ map f xs
by_number f xs n e =
    sym (ap (λ ys. map f ys) (fill_by_all (λ j. get_or xs j 0) xs n 0 e (λ k lt. refl))
    ∙ map_twice f (λ j. get_or xs j 0) (range_with_len 0 n))

-- ---- one phaser alone

module _ {X Y : Type 0} (line : ℕ → X) (read : X → List Y) (is : ℕ → Bool) (n : ℕ) (value : List Y)
    (there : is n ≡ true) (at : read (line n) ≡ value)
    (nothing : (j : ℕ) → (j == n) ≡ false → read (line j) ≡ []) where
  abbrev read_from : ℕ → ℕ → List Y
  read_from a m = flat_map read (map line (filter is (range_with_len a m)))

  read_behind : (a m : ℕ) → n < a → read_from a m ≡ []
  read_behind a zero lt = refl
  read_behind a (suc m) lt =
      elim (is a) as (λ b. flat_map read (map line (cond b (a ∷ filter is (range_with_len (a + 1) m))
      (filter is (range_with_len (a + 1) m)))) ≡ []) [
        | true ↦ ap (λ xs. xs ++ read_from (a + 1) m) (nothing a (ne_eqb a n (λ e. lt_not_same n a lt e)))
            ∙ read_behind (a + 1) m (lt_next n a lt)
        | false ↦ read_behind (a + 1) m (lt_next n a lt)
      ]

  pub one_read : (a m : ℕ) → a ≤ n → n < a + m → read_from a m ≡ value
  one_read a zero le lt = absurd (le_not_lt n a le lt)
  one_read a (suc m) le lt =
      elim (cases_Bool (a == n)) [
        | inl e ↦
            let same : a ≡ n = eqb-true a n e in
            ap (λ b. flat_map read (map line (cond b (a ∷ filter is (range_with_len (a + 1) m))
            (filter is (range_with_len (a + 1) m))))) (ap is same ∙ there)
            ∙ (ap (λ xs. xs ++ read_from (a + 1) m) (ap (λ j. read (line j)) same ∙ at)
            ∙ (ap (λ xs. value ++ xs) (read_behind (a + 1) m (same_lt_next n a same)) ∙ append-nil value))
        | inr e ↦
            by_test (is a) (nothing a e)
            (one_read (a + 1) m (le_apart_next_le n a le (λ x. true≢false (sym (eq-eqb a n x) ∙ e))) (next_on_lt n a m lt))
      ]
    where
      by_test : (b : Bool) → read (line a) ≡ [] → read_from (a + 1) m ≡ value
          → flat_map read (map line (cond b (a ∷ filter is (range_with_len (a + 1) m))
          (filter is (range_with_len (a + 1) m)))) ≡ value
      by_test true e rest = ap (λ xs. xs ++ read_from (a + 1) m) e ∙ rest
      by_test false e rest = rest
