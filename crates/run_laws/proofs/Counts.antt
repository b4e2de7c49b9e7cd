-- How many numbers of a kind a task has drawn, after one event more.
use Rattle.std.proofs.Common.{ℕ, ◌+◌, ◌≡◌, ◌≢◌, Bool, true, false, ◌&&◌, ◌==◌, cond, List, ◌∷◌, Option, Some, None, sym, ap, ◌∙◌, inl, inr, arith}
use Rattle.std.specs.List.{count_by}
use Rattle.std.proofs.lemmas.Bool.{and_parts, cases_Bool, eqb-true, eqb-false, false≢true}
use Rattle.std.proofs.lemmas.List.Sums.{sum_by-cons}
use Rattle.world_model.specs.declared.event.WorldEvent.{WorldEvent}
use Rattle.run_laws.specs.Telling.{Told, told, told_of, tells}
use Rattle.run_laws.proofs.Plain.{plus_none}
use Rattle.run_laws.specs.inner.Watched.{count_of, is_alone, KindStands}

-- ---- counts

count_more : (kind : WorldEvent → Bool) (t : ℕ) (e : WorldEvent) (w : List WorldEvent)
    → count_of kind t (e ∷ w) ≡ cond (tells t w e) (cond (kind e) 1 0) 0 + count_of kind t w
count_more kind t e w =
    elim (tells t w e) as (λ b. count_by (λ (x : Told). kind x.event) (cond b (told_of w e ∷ told t w) (told t w)) ≡ cond b (cond (kind e) 1 0) 0 + count_of kind t w) [
      | true ↦ sum_by-cons (λ (x : Told). cond (kind x.event) 1 0) (told_of w e) (told t w)
      | false ↦ plus_none (count_of kind t w)
    ]

-- an event of another kind isn't counted
pub not_counted : (kind : WorldEvent → Bool) (t : ℕ) (e : WorldEvent) (w : List WorldEvent) → kind e ≡ false
    → count_of kind t (e ∷ w) ≡ count_of kind t w
not_counted kind t e w h =
    count_more kind t e w ∙ (ap (λ b. cond (tells t w e) (cond b 1 0) 0 + count_of kind t w) h
    ∙ either (tells t w e) (count_of kind t w))
  where
    either : (b : Bool) (x : ℕ) → cond b 0 0 + x ≡ x
    either true x = sym (plus_none x)
    either false x = sym (plus_none x)

-- one of this kind is counted by who tells it
counted : (kind : WorldEvent → Bool) (t : ℕ) (e : WorldEvent) (w : List WorldEvent) → kind e ≡ true
    → tells t w e ≡ true → count_of kind t (e ∷ w) ≡ 1 + count_of kind t w
counted kind t e w h m =
    count_more kind t e w ∙ (ap (λ b. cond b (cond (kind e) 1 0) 0 + count_of kind t w) m
    ∙ ap (λ b. cond b 1 0 + count_of kind t w) h)

-- and by nobody else
not_told : (kind : WorldEvent → Bool) (t : ℕ) (e : WorldEvent) (w : List WorldEvent) → tells t w e ≡ false
    → count_of kind t (e ∷ w) ≡ count_of kind t w
not_told kind t e w m =
    count_more kind t e w ∙ (ap (λ b. cond b (cond (kind e) 1 0) 0 + count_of kind t w) m
    ∙ sym (plus_none (count_of kind t w)))

-- ---- the draws of a kind

-- an event of another kind leaves them
pub kind_stays : (kind : WorldEvent → Bool) (used after : ℕ → Bool) (first : ℕ) (e : WorldEvent) (w : List WorldEvent)
    → kind e ≡ false → (used first ≡ true → after first ≡ true) → (o : Option ℕ) (next : ℕ)
    → KindStands kind used first w o next → KindStands kind after first (e ∷ w) o next
kind_stays kind used after first e w h grows None next k = (λ t. not_counted kind t e w h ∙ k.0 t, k.1)
kind_stays kind used after first e w h grows (Some u) next k = (
  k.0 ∙ ap (λ x. x + first) (sym (not_counted kind u e w h)),
  λ t apart. not_counted kind t e w h ∙ k.1 t apart,
  grows k.2,
)

-- a number that is free is what t draws next exactly where it comes next
pub next_is : (kind : WorldEvent → Bool) (used : ℕ → Bool) (first : ℕ) (w : List WorldEvent) (t n : ℕ)
    (o : Option ℕ) (next : ℕ) → KindStands kind used first w o next → used n ≡ false
    → (is_alone o t && n == next) ≡ (n == count_of kind t w + first)
next_is kind used first w t n None next k free =
    ap (λ x. n == x) (k.1 ∙ (plus_none first ∙ ap (λ x. x + first) (sym (k.0 t))))
next_is kind used first w t n (Some u) next k free =
    elim (cases_Bool (u == t)) [
      | inl e ↦
          rw e (ap (λ x. n == x) (k.0 ∙ ap (λ x. count_of kind x w + first) (eqb-true u t e)))
      | inr e ↦ rw e (sym (not_first (eqb-false u t e)))
    ]
  where
    not_first : u ≢ t → (n == count_of kind t w + first) ≡ false
    not_first apart =
        elim (cases_Bool (n == count_of kind t w + first)) [
          | inr e ↦ e
          | inl e ↦
              let is : n ≡ first =
              eqb-true n (count_of kind t w + first) e
              ∙ (ap (λ x. x + first) (k.1 t (λ z. apart (sym z))) ∙ sym (plus_none first)) in
              absurd (false≢true (sym free ∙ (ap used is ∙ k.2)))
        ]

-- once t has drawn the number that comes next, it alone has drawn any
pub kind_drawn : (kind : WorldEvent → Bool) (used after : ℕ → Bool) (first : ℕ) (e : WorldEvent) (w : List WorldEvent)
    (t n : ℕ) (o : Option ℕ) (next : ℕ) → KindStands kind used first w o next
    → kind e ≡ true → tells t w e ≡ true → ((u : ℕ) → u ≢ t → tells u w e ≡ false)
    → (used first ≡ true → after first ≡ true) → after n ≡ true
    → (is_alone o t && n == next) ≡ true → KindStands kind after first (e ∷ w) (Some t) (n + 1)
kind_drawn kind used after first e w t n None next k h own others grows there d =
    let is : n ≡ first = eqb-true n next d ∙ k.1 in (
      added n first (count_of kind t w) (count_of kind t (e ∷ w)) is (k.0 t) (counted kind t e w h own),
      λ u apart. not_told kind u e w (others u apart) ∙ k.0 u,
      sym (ap after is) ∙ there,
    )
  where
    added : (n first c d : ℕ) → n ≡ first → c ≡ 0 → d ≡ 1 + c → n + 1 ≡ d + first
    added n first c d a b e = omega (arith, a, b, e)
kind_drawn kind used after first e w t n (Some v) next k h own others grows there d =
    let parts = and_parts (v == t) (n == next) d in
    let one : v ≡ t = eqb-true v t parts.0 in
    let is : n ≡ count_of kind t w + first = eqb-true n next parts.1 ∙ (k.0 ∙ ap (λ x. count_of kind x w + first) one) in (
      added n first (count_of kind t w) (count_of kind t (e ∷ w)) is (counted kind t e w h own),
      λ u apart. not_told kind u e w (others u apart) ∙ k.1 u (λ z. apart (z ∙ one)),
      grows k.2,
    )
  where
    added : (n first c d : ℕ) → n ≡ c + first → d ≡ 1 + c → n + 1 ≡ d + first
    added n first c d a e = omega (arith, a, e)
