-- The lines of one phase: their number, one of them, and how a value changes them.
use Rattle.std.proofs.Common.{◌≡◌, ℕ, zero, suc, ◌+◌, ◌<◌, ◌≤◌, ◌==◌, ◌&&◌, true, false, if◌then◌else◌, List, [], ◌∷◌, ◌++◌, length, get_or, set, take, refl, ap, sym, ◌∙◌, arith, append_assoc, ℤ}
use Rattle.std.proofs.lemmas.Bool.{eq-eqb, ne_eqb}
use Rattle.phase_model.specs.declared.history.Event.{Event}
use Rattle.phase_model.specs.declared.history.Event.TheVariants.{Send}
use Rattle.phase_model.specs.declared.op.Op.{Op}
use Rattle.phase_model.specs.declared.op.Op.TheVariants.{Sum, Least, Greatest}
use Rattle.phase_model.specs.Phases.{signals}
use Rattle.phase_model.specs.Values.{sent, fold}
use Rattle.world_model.specs.declared.report.FoldLine.{FoldLine}
use Rattle.world_model.specs.Report.{folds_from}
use Rattle.world_model.specs.inner.Folds.{fold_with}

-- one value more
pub folds_more : (op : Op) (v : ℤ) (vs : List ℤ) → fold_with op v (fold op vs) ≡ fold op (v ∷ vs)
folds_more Sum v vs = refl
folds_more Least v vs = refl
folds_more Greatest v vs = refl

pub row_length : (p a : ℕ) (ops : List Op) (h : List Event) → length (folds_from p a ops h) ≡ length ops
row_length p a [] h = refl
row_length p a (op ∷ ops) h = ap (λ n. suc n) (row_length p (a + 1) ops h)

-- two histories whose values for the phase are the same
pub row_agrees : (p a : ℕ) (ops : List Op) (h g : List Event) → ((b : ℕ) → a ≤ b → sent b p h ≡ sent b p g) → folds_from p a ops h ≡ folds_from p a ops g
row_agrees p a [] h g same = refl
row_agrees p a (op ∷ ops) h g same =
    rw (same a (omega arith), row_agrees p (a + 1) ops h g (λ b past. same b (omega (arith, past)))) refl

pub row_read : (p a : ℕ) (ops : List Op) (h : List Event) (i : ℕ) (d : FoldLine) → i < length ops
    → get_or (folds_from p a ops h) i d ≡ record { phase = p; acc = a + i; value = fold (get_or ops i Sum) (sent (a + i) p h) }
row_read p a [] h i d within = absurd (omega (arith, within))
row_read p a (op ∷ ops) h zero d within =
    let same : a ≡ a + 0 = omega arith in
    ap (λ b. record { phase = p; acc = b; value = fold op (sent b p h) }) same
row_read p a (op ∷ ops) h (suc i) d within =
    let same : a + 1 + i ≡ a + suc i = omega arith in
    row_read p (a + 1) ops h i d (omega (arith, within))
    ∙ ap (λ b. record { phase = p; acc = b; value = fold (get_or ops i Sum) (sent b p h) }) same

-- a value sent for the phase is there for its own accumulator, and for no other one
sent_here : (t a p : ℕ) (v : ℤ) (h : List Event) → signals t h ≡ p → sent a p (Send t a v ∷ h) ≡ v ∷ sent a p h
sent_here t a p v h at = rw (eq-eqb a a refl, eq-eqb (signals t h) p at) refl

sent_elsewhere : (t a b p : ℕ) (v : ℤ) (h : List Event) → (a ≡ b → ⊥) → sent b p (Send t a v ∷ h) ≡ sent b p h
sent_elsewhere t a b p v h other = rw (ne_eqb a b other) refl

-- a value changes one line of its own phase
pub row_written : (t p a : ℕ) (ops : List Op) (v : ℤ) (h : List Event) (i b : ℕ) → i < length ops → a + i ≡ b → signals t h ≡ p
    → set (folds_from p a ops h) i (record { phase = p; acc = b; value = fold_with (get_or ops i Sum) v (fold (get_or ops i Sum) (sent b p h)) })
    ≡ folds_from p a ops (Send t b v ∷ h)
row_written t p a [] v h i b within is at = absurd (omega (arith, within))
row_written t p a (op ∷ ops) v h zero b within is at =
    let same : b ≡ a = omega (arith, is) in
    let value : fold_with op v (fold op (sent a p h)) ≡ fold op (sent a p (Send t a v ∷ h)) =
    folds_more op v (sent a p h) ∙ ap (λ vs. fold op vs) (sym (sent_here t a p v h at))
    in
    let rest : folds_from p (a + 1) ops h ≡ folds_from p (a + 1) ops (Send t a v ∷ h) =
    row_agrees p (a + 1) ops h (Send t a v ∷ h) (λ c past. sym (sent_elsewhere t a c p v h (λ e. omega (arith, e, past))))
    in
    rw same
    (ap (λ x. record { phase = p; acc = a; value = x } ∷ folds_from p (a + 1) ops h) value
    ∙ ap (λ ls. record { phase = p; acc = a; value = fold op (sent a p (Send t a v ∷ h)) } ∷ ls) rest)
row_written t p a (op ∷ ops) v h (suc i) b within is at =
    rw (sent_elsewhere t b a p v h (λ e. omega (arith, e, is)))
    (ap (λ ls. record { phase = p; acc = a; value = fold op (sent a p h) } ∷ ls)
    (row_written t p (a + 1) ops v h i b (omega (arith, within)) (omega (arith, is)) at))

-- and no line of another phase
pub row_kept : (t q a : ℕ) (ops : List Op) (b : ℕ) (v : ℤ) (h : List Event) → (signals t h ≡ q → ⊥) → folds_from q a ops (Send t b v ∷ h) ≡ folds_from q a ops h
row_kept t q a ops b v h other = row_agrees q a ops (Send t b v ∷ h) h (λ c past. none c)
  where
    none : (c : ℕ) → sent c q (Send t b v ∷ h) ≡ sent c q h
    none c = elim (b == c) as (λ x. (if x && signals t h == q then v ∷ sent c q h else sent c q h) ≡ sent c q h) [
      | true ↦ rw (ne_eqb (signals t h) q other) refl
      | false ↦ refl
    ]

-- the row of one accumulator more
row_more : (p a : ℕ) (ops : List Op) (h : List Event) (i : ℕ) (d : Op) → i < length ops
    → folds_from p a (take (i + 1) ops) h ≡ folds_from p a (take i ops) h ++ record { phase = p; acc = a + i; value = fold (get_or ops i d) (sent (a + i) p h) } ∷ []
row_more p a [] h i d within = absurd (omega (arith, within))
row_more p a (op ∷ ops) h zero d within =
    let same : a ≡ a + 0 = omega arith in
    ap (λ b. record { phase = p; acc = b; value = fold op (sent b p h) } ∷ []) same
row_more p a (op ∷ ops) h (suc i) d within =
    let next : suc i + 1 ≡ suc (i + 1) = omega arith in
    let same : a + 1 + i ≡ a + suc i = omega arith in
    rw next
    (ap (λ ls. record { phase = p; acc = a; value = fold op (sent a p h) } ∷ ls)
    (row_more p (a + 1) ops h i d (omega (arith, within))
    ∙ ap (λ b. folds_from p (a + 1) (take i ops) h ++ record { phase = p; acc = b; value = fold (get_or ops i d) (sent b p h) } ∷ []) same))

-- the line of one accumulator more, pushed on
pub row_pushed : (lines : List FoldLine) (p : ℕ) (ops : List Op) (i : ℕ) (op : Op) → i < length ops
    → (lines ++ folds_from p 0 (take i ops) []) ++ record { phase = p; acc = i; value = fold (get_or ops i op) [] } ∷ [] ≡ lines ++ folds_from p 0 (take (i + 1) ops) []
row_pushed lines p ops i op within =
    let first : 0 + i ≡ i = omega arith in
    append_assoc lines (folds_from p 0 (take i ops) []) (record { phase = p; acc = i; value = fold (get_or ops i op) [] } ∷ [])
    ∙ ap (λ ls. lines ++ ls)
    (sym (row_more p 0 ops [] i op within
    ∙ ap (λ b. folds_from p 0 (take i ops) [] ++ record { phase = p; acc = b; value = fold (get_or ops i op) [] } ∷ []) first))
