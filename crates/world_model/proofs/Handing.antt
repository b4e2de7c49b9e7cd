-- What handing on phasers is refused by, pair by pair: for a loop over the pairs.
use Rattle.std.proofs.Common.{◌≡◌, ℕ, zero, suc, ◌+◌, ◌<◌, ◌==◌, Bool, true, false, ◌||◌, cond, List, [], ◌∷◌, ◌++◌, take, drop, get_or, length, Some, Ok, Err, refl, sym, ap, subst, ◌∙◌, arith}
use Rattle.std.specs.List.{list_any}
use Rattle.phase_modes.specs.declared.phased.Pair.{Pair}
use Rattle.phase_modes.specs.declared.refusal.Refusal.{Refusal}
use Rattle.phase_modes.specs.Refusal.{first_refusal}
use Rattle.world_model.specs.ActConditions.{Facts, free_unless, pair_names, hand_conditions, pair_conditions}

-- where the first conditions are met, the rest decides
met_first : (cs ds : List (Refusal × Bool)) → Ok tt ≡ free_unless (first_refusal cs)
    → first_refusal (cs ++ ds) ≡ first_refusal ds
met_first [] ds e = refl
met_first (c ∷ cs) ds e =
    (elim c.1 as (λ b. Ok tt ≡ free_unless (cond b (first_refusal cs) (Some c.0))
    → cond b (first_refusal (cs ++ ds)) (Some c.0) ≡ first_refusal ds)
    [ true ↦ λ k. met_first cs ds k | false ↦ λ k. absurd cc ]) e

unmet_first : (cs ds : List (Refusal × Bool)) (r : Refusal) → Err r ≡ free_unless (first_refusal cs)
    → first_refusal (cs ++ ds) ≡ Some r
unmet_first [] ds r e = absurd cc
unmet_first (c ∷ cs) ds r e =
    (elim c.1 as (λ b. Err r ≡ free_unless (cond b (first_refusal cs) (Some c.0))
    → cond b (first_refusal (cs ++ ds)) (Some c.0) ≡ Some r)
    [ true ↦ λ k. unmet_first cs ds r k | false ↦ λ k. cc ]) e

drop_next : (xs : List Pair) (i : ℕ) (d : Pair) → i < length xs → drop i xs ≡ get_or xs i d ∷ drop (suc i) xs
drop_next [] i d h = absurd (omega (arith, h))
drop_next (x ∷ xs) zero d h = refl
drop_next (x ∷ xs) (suc i) d h = drop_next xs i d (omega (arith, h))

take_next : (xs : List Pair) (i : ℕ) (d : Pair) → i < length xs
    → take (suc i) xs ≡ take i xs ++ get_or xs i d ∷ []
take_next [] i d h = absurd (omega (arith, h))
take_next (x ∷ xs) zero d h = refl
take_next (x ∷ xs) (suc i) d h = ap (λ ys. x ∷ ys) (take_next xs i d (omega (arith, h)))

-- the phasers that these pairs name, the last first, before those that were named
abbrev pub named_after : List ℕ → List Pair → List ℕ
named_after named [] = named
named_after named (p ∷ ps) = named_after (p.phaser ∷ named) ps

named_next : (named : List ℕ) (ps : List Pair) (p : Pair)
    → named_after named (ps ++ p ∷ []) ≡ p.phaser ∷ named_after named ps
named_next named [] p = refl
named_next named (x ∷ ps) p = named_next (x.phaser ∷ named) ps p

any_named : (n : ℕ) (named : List ℕ) (ps : List Pair)
    → list_any (λ m. m == n) (named_after named ps)
    ≡ (list_any (pair_names n) ps || list_any (λ m. m == n) named)
any_named n named [] = refl
any_named n named (p ∷ ps) =
    any_named n (p.phaser ∷ named) ps
    ∙ swapped (list_any (pair_names n) ps) (p.phaser == n) (list_any (λ m. m == n) named)
  where
    swapped : (a b c : Bool) → (a || (b || c)) ≡ ((b || a) || c)
    swapped true true c = refl
    swapped true false c = refl
    swapped false true c = refl
    swapped false false c = refl

is_named : (n : ℕ) (ps : List Pair) → list_any (λ m. m == n) (named_after [] ps) ≡ list_any (pair_names n) ps
is_named n ps = any_named n [] ps ∙ no_more (list_any (pair_names n) ps)
  where
    no_more : (a : Bool) → (a || false) ≡ a
    no_more true = refl
    no_more false = refl

module _ (k : Facts) (ps : List Pair) (i : ℕ) (d : Pair) (within : i < length ps) where
  -- the pair that is come to, and the conditions of those after it
  abbrev here : Pair
  here = get_or ps i d

  abbrev twice : Bool
  twice = list_any (pair_names here.phaser) (take i ps)

  abbrev later : List (Refusal × Bool)
  later = pair_conditions k (named_after [] (take (suc i) ps)) (drop (suc i) ps)

  -- one pair further
  at_pair : first_refusal (pair_conditions k (named_after [] (take i ps)) (drop i ps))
      ≡ first_refusal (hand_conditions k twice here ++ later)
  at_pair =
      ap (λ xs. first_refusal (pair_conditions k (named_after [] (take i ps)) xs)) (drop_next ps i d within)
      ∙ (ap (λ b. first_refusal (hand_conditions k b here
      ++ pair_conditions k (here.phaser ∷ named_after [] (take i ps)) (drop (suc i) ps)))
      (is_named here.phaser (take i ps))
      ∙ ap (λ ns. first_refusal (hand_conditions k twice here ++ pair_conditions k ns (drop (suc i) ps)))
      (sym (named_next [] (take i ps) here) ∙ ap (λ xs. named_after [] xs) (sym (take_next ps i d within))))

pub pair_met : (k : Facts) (ps : List Pair) (i : ℕ) (d : Pair) → i < length ps
    → first_refusal (pair_conditions k [] ps)
    ≡ first_refusal (pair_conditions k (named_after [] (take i ps)) (drop i ps))
    → Ok tt ≡ free_unless (first_refusal
    (hand_conditions k (list_any (pair_names (get_or ps i d).phaser) (take i ps)) (get_or ps i d)))
    → first_refusal (pair_conditions k [] ps)
    ≡ first_refusal (pair_conditions k (named_after [] (take (i + 1) ps)) (drop (i + 1) ps))
pair_met k ps i d h so_far met =
    let next : suc i ≡ i + 1 = omega arith in
    subst (λ j. first_refusal (pair_conditions k [] ps)
    ≡ first_refusal (pair_conditions k (named_after [] (take j ps)) (drop j ps))) next
    (so_far ∙ (at_pair k ps i d h ∙ met_first (hand_conditions k (twice k ps i d h) (get_or ps i d)) (later k ps i d h) met))

pub pair_unmet : (k : Facts) (ps : List Pair) (i : ℕ) (d : Pair) (r : Refusal) → i < length ps
    → first_refusal (pair_conditions k [] ps)
    ≡ first_refusal (pair_conditions k (named_after [] (take i ps)) (drop i ps))
    → Err r ≡ free_unless (first_refusal
    (hand_conditions k (list_any (pair_names (get_or ps i d).phaser) (take i ps)) (get_or ps i d)))
    → Err r ≡ free_unless (first_refusal (pair_conditions k [] ps))
pair_unmet k ps i d r h so_far unmet =
    ap (λ o. free_unless o)
    (sym (so_far ∙ (at_pair k ps i d h ∙ unmet_first (hand_conditions k (twice k ps i d h) (get_or ps i d)) (later k ps i d h) r unmet)))
