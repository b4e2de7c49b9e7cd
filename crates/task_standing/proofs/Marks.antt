-- The phasers that a task holds, one of which is marked.
use Rattle.std.proofs.Common.{◌≡◌, ℕ, zero, suc, ◌+◌, ◌≤◌, ◌==◌, Bool, true, false, cond, List, [], ◌∷◌, ◌++◌, map, drop, filter, Option, refl, sym, ap, subst, ◌∙◌, inl, inr, arith}
use Rattle.std.proofs.lemmas.Bool.{cases_Bool, eq-eqb, and_right}
use Rattle.phase_modes.specs.Mode.{can_signal}
use Rattle.world_model.specs.declared.event.WorldEvent.{WorldEvent}
use Rattle.world_model.specs.declared.event.WorldEvent.TheVariants.{Phaser}
use Rattle.world_model.specs.declared.event.Step.TheVariants.{Sig, Pass}
use Rattle.world_model.proofs.PhasersOnce.{times}
use Rattle.world_model.proofs.SmallWords.{cons_parts}
use Rattle.task_standing.specs.declared.held.Held.{Held}
use Rattle.task_standing.specs.Standing.{owes, marked}
use Rattle.task_standing.specs.StillToMake.{signals_of, passes_of}
use Rattle.task_standing.specs.Histories.{held_in}
use Rattle.task_standing.proofs.Plain.{next_not_zero}

-- the phasers of what is held
abbrev pub numbers : List Held → List ℕ
numbers hs = map (λ h. h.phaser) hs

pub numbers_held : (w : List WorldEvent) (t : ℕ) (ns : List ℕ) → numbers (map (held_in w t) ns) ≡ ns
numbers_held w t [] = refl
numbers_held w t (n ∷ ns) = ap (λ ms. n ∷ ms) (numbers_held w t ns)

pub map_after : {X : Type 0} (g : X → X) (f : ℕ → X) (xs : List ℕ) → map g (map f xs) ≡ map (λ x. g (f x)) xs
map_after g f [] = refl
map_after g f (x ∷ xs) = ap (λ ys. g (f x) ∷ ys) (map_after g f xs)

pub none_more : (m n : ℕ) (ms : List ℕ) → (m == n) ≡ true → times n (m ∷ ms) ≤ 1 → times n ms ≡ 0
none_more m n ms e h = less (times n ms) (subst (λ b. cond b (times n ms + 1) (times n ms) ≤ 1) e h)
  where
    less : (x : ℕ) → x + 1 ≤ 1 → x ≡ 0
    less x h = omega (arith, h)

pub fewer : (m n x : ℕ) (ms : List ℕ) → times n (m ∷ ms) ≤ x → times n ms ≤ x
fewer m n x ms h = by (m == n) h
  where
    by : (b : Bool) → cond b (times n ms + 1) (times n ms) ≤ x → times n ms ≤ x
    by true h = omega (arith, h)
    by false h = h

-- what isn't held is not marked
pub unmarked : (n : ℕ) (b : Bool) (hs : List Held) → times n (numbers hs) ≡ 0 → map (marked n b) hs ≡ hs
unmarked n b [] e = refl
unmarked n b (h ∷ hs) e =
    elim (cases_Bool (h.phaser == n)) [
      | inl s ↦ absurd (next_not_zero (times n (numbers hs)) (ap (λ c. cond c (times n (numbers hs) + 1) (times n (numbers hs))) (sym s) ∙ e))
      | inr s ↦
          let rest : times n (numbers hs) ≡ 0 = ap (λ c. cond c (times n (numbers hs) + 1) (times n (numbers hs))) (sym s) ∙ e in
          rw s (ap (λ gs. h ∷ gs) (unmarked n b hs rest))
    ]

mark_keeps : (n : ℕ) (b : Bool) (h : Held) → (marked n b h).phaser ≡ h.phaser
mark_keeps n b h = elim (h.phaser == n) as (λ c. (cond c (record h { ahead = b }) h).phaser ≡ h.phaser) [ true ↦ refl | false ↦ refl ]

-- a mark changes no passes
pub passes_kept : (t n : ℕ) (b : Bool) (hs : List Held) → passes_of t (map (marked n b) hs) ≡ passes_of t hs
passes_kept t n b [] = refl
passes_kept t n b (h ∷ hs) =
    ap (λ m. Phaser m (Pass t) ∷ passes_of t (map (marked n b) hs)) (mark_keeps n b h)
    ∙ ap (λ es. Phaser h.phaser (Pass t) ∷ es) (passes_kept t n b hs)

pub drop_map : {X : Type 0} (f : X → X) (n : ℕ) (xs : List X) → drop n (map f xs) ≡ map f (drop n xs)
drop_map f zero xs = refl
drop_map f (suc n) [] = refl
drop_map f (suc n) (x ∷ xs) = drop_map f n xs

-- one that is ahead owes nothing
ahead_free : (n : ℕ) (h : Held) → owes h ≡ false → owes (marked n true h) ≡ false
ahead_free n h o =
    elim (h.phaser == n) as (λ c. owes (cond c (record h { ahead = true }) h) ≡ false) [
      | true ↦ and_right (can_signal h.mode) false refl
      | false ↦ o
    ]

here_free : (n : ℕ) (h : Held) → (h.phaser == n) ≡ true → owes (marked n true h) ≡ false
here_free n h e = rw e (and_right (can_signal h.mode) false refl)

sig_place : (m n t u : ℕ) (x y : Option ℕ) → Phaser m (Sig t x) ≡ Phaser n (Sig u y) → m ≡ n
sig_place m n t u x y e = cc

-- the first signal that is owed is made: it is owed no more, and all others are
pub owed_less : (t n u : ℕ) (x y : Option ℕ) (hs : List Held) (tail rest : List WorldEvent) → times n (numbers hs) ≤ 1
    → ((es : List WorldEvent) → tail ≡ Phaser n (Sig u x) ∷ es → ⊥)
    → signals_of t y (filter owes hs) ++ tail ≡ Phaser n (Sig u x) ∷ rest
    → signals_of t y (filter owes (map (marked n true) hs)) ++ tail ≡ rest
owed_less t n u x y [] tail rest once none e = absurd (none rest e)
owed_less t n u x y (h ∷ hs) tail rest once none e =
    elim (cases_Bool (owes h)) [
      | inl o ↦
          let parts =
          cons_parts (Phaser h.phaser (Sig t y)) (Phaser n (Sig u x)) (signals_of t y (filter owes hs) ++ tail) rest (sym (rw o refl) ∙ e) in
          let here : h.phaser ≡ n = sig_place h.phaser n t u y x parts.0 in
          let same : (h.phaser == n) ≡ true = eq-eqb h.phaser n here in
          let others : map (marked n true) hs ≡ hs = unmarked n true hs (none_more h.phaser n (numbers hs) same once) in
          ap (λ b. signals_of t y (cond b (marked n true h ∷ filter owes (map (marked n true) hs)) (filter owes (map (marked n true) hs))) ++ tail) (here_free n h same)
          ∙ (ap (λ gs. signals_of t y (filter owes gs) ++ tail) others ∙ parts.1)
      | inr o ↦
          ap (λ b. signals_of t y (cond b (marked n true h ∷ filter owes (map (marked n true) hs)) (filter owes (map (marked n true) hs))) ++ tail) (ahead_free n h o)
          ∙ owed_less t n u x y hs tail rest (fewer h.phaser n 1 (numbers hs) once) none (sym (rw o refl) ∙ e)
    ]
