-- The rows of the tasks: a step that doesn't touch them keeps what is known of them.
use Rattle.std.proofs.Common.{◌*◌, replicate, ◌++◌, length, zero, suc, inl, inr, ◌≡◌, ◌≢◌, ◌⊎◌, ⊎_elim, ℕ, ◌+◌, ◌<◌, ◌≤◌, List, [], ◌∷◌, get_or, set, sym, refl, ap, ◌∙◌, subst, arith, get_or-set_other}
use Rattle.std.proofs.lemmas.List.{get_or-replicate, length-replicate}
use mathlib.Core.Logic.{dite}
use native.Mathlib.Decide.{dec_le}
use mathlib.Core.Option.{some, some-ne-none, some-injective}
use lib.ListN.{get_elem?}
use Rattle.atomic_table.proofs.Lists.{at_set}
use Rattle.phase_model.specs.declared.history.Event.{Event}
use Rattle.level_phaser.specs.declared.view.SeatView.{SeatView}
use Rattle.level_phaser.specs.declared.view.SeatedTask.{SeatedTask}
use Rattle.level_phaser.specs.declared.view.Role.{Role}
use Rattle.level_phaser.specs.declared.view.Role.TheVariants.{Stands, Came, Last, Holder, Gone}
use Rattle.level_phaser.specs.Views.{signalled, known_by, role_after}
use Rattle.level_phaser.specs.inner.Board.{sent_in, IsSound, Shown, IsFound, Knows, Rows}
use Rattle.level_phaser.specs.inner.Steps.{head_of, tail_of}

-- the rows are as they were
abbrev pub Same : List ℕ → List ℕ → Type 0
Same words words' = (t : ℕ) → get_or words' (32 + 8 * t) 0 ≡ get_or words (32 + 8 * t) 0

-- a word before the rows changes none of them
pub beside : (words : List ℕ) (i n : ℕ) → i < 32 → Same words (set words i n)
beside words i n low t = get_or-set_other words i (32 + 8 * t) n 0 (λ e. absurd (omega arith))

pub unchanged : (words : List ℕ) → Same words words
unchanged words t = refl

pub shown_moves : (words words' : List ℕ) → Same words words' → (cs : List SeatedTask) → Shown words cs
    → Shown words' cs
shown_moves words words' same [] k = tt
shown_moves words words' same (c ∷ cs) k =
    (ap (sent_in c.task) (same c.task) ∙ k.0, shown_moves words words' same cs k.1)

pub shown_signalled : (words : List ℕ) (cs : List SeatedTask) → Shown words cs → Shown words (signalled cs)
shown_signalled words [] k = tt
shown_signalled words (c ∷ cs) k = (k.0, shown_signalled words cs k.1)

pub shown_known : (h : List Event) (words : List ℕ) (cs : List SeatedTask) → Shown words cs
    → Shown words (known_by h cs)
shown_known h words [] k = tt
shown_known h words (c ∷ cs) k = (k.0, shown_known h words cs k.1)

pub shown_head : (words : List ℕ) (cs : List SeatedTask) → Shown words cs → Shown words (head_of cs)
shown_head words [] k = tt
shown_head words (c ∷ cs) k = (k.0, tt)

pub shown_tail : (words : List ℕ) (cs : List SeatedTask) → Shown words cs → Shown words (tail_of cs)
shown_tail words [] k = tt
shown_tail words (c ∷ cs) k = k.1

-- a word that there isn't
pub beyond_last : (l : List ℕ) (i : ℕ) → length l ≤ i → get_or l i 0 ≡ 0
beyond_last [] i far = refl
beyond_last (x ∷ xs) zero far = absurd (omega arith)
beyond_last (x ∷ xs) (suc i) far = beyond_last xs i (omega arith)

-- a table that has only its first count has no row that shows anything
pub rows_clear : (words items : List ℕ) (n : ℕ) → words ≡ set items 0 1 → items ≡ replicate n 0 → (t : ℕ)
    → get_or words (32 + 8 * t) 0 ≡ 0
rows_clear words items n is begun t =
    ap (λ (ws : List ℕ). get_or ws (32 + 8 * t) 0) (is ∙ ap (λ (ws : List ℕ). set ws 0 1) begun)
    ∙ get_or-set_other (replicate n 0) 0 (32 + 8 * t) 1 0 (λ e. absurd (omega arith))
    ∙ dite (dec_le n (32 + 8 * t))
    (λ beyond. beyond_last (replicate n 0) (32 + 8 * t) (subst (λ (k : ℕ). k ≤ 32 + 8 * t) (sym (length-replicate n 0)) beyond))
    (λ inside. get_or-replicate n (32 + 8 * t) 0 0 (omega arith))

-- nor any other word that is set
pub others_clear : (words items : List ℕ) (n : ℕ) → words ≡ set items 0 1 → items ≡ replicate n 0 → (i : ℕ) → 0 < i
    → i < n → get_or words i 0 ≡ 0
others_clear words items n is begun i above inside =
    ap (λ (ws : List ℕ). get_or ws i 0) (is ∙ ap (λ (ws : List ℕ). set ws 0 1) begun)
    ∙ get_or-set_other (replicate n 0) 0 i 1 0 (λ e. absurd (omega arith))
    ∙ get_or-replicate n i 0 0 inside

pub at_snoc : {A : Type 0} (l : List A) (a b : A) (j : ℕ) → get_elem? (l ++ a ∷ []) j ≡ some b
    → (get_elem? l j ≡ some b) ⊎ ((j ≡ length l) × (a ≡ b))
at_snoc [] a b zero e = inr (refl, some-injective a b e)
at_snoc [] a b (suc j) e = absurd (some-ne-none b (sym e))
at_snoc (x ∷ xs) a b zero e = inl e
at_snoc (x ∷ xs) a b (suc j) e = ⊎_elim (λ (t : get_elem? xs j ≡ some b). inl t)
    (λ (t : (j ≡ length xs) × (a ≡ b)). inr (ap suc t.0, t.1)) (at_snoc xs a b j e)

pub found_after : (S : Type 0) (words : List ℕ) (cs : List SeatedTask) → IsFound {S = S} words (role_after cs)
found_after S words [] = tt
found_after S words (c ∷ cs) = tt

module _ {S : Type 0} where
  pub found_moves : (words words' : List ℕ) → Same words words' → (role : Role S) → IsFound words role
      → IsFound words' role
  found_moves words words' same Stands k = tt
  found_moves words words' same Came k = tt
  found_moves words words' same (Last x ws) k = λ t. same t ∙ k t
  found_moves words words' same (Holder x) k = tt
  found_moves words words' same Gone k = tt

  pub knows_moves : (width : ℕ) (words words' : List ℕ) → Same words words' → (v : SeatView S)
      → Knows width words v → Knows width words' v
  knows_moves width words words' same v k = (
    shown_moves words words' same v.tasks k.0,
    found_moves words words' same v.role k.1,
    k.2,
  )

  -- the rows stay, and one seat's view changes
  pub rows_after : (width : ℕ) (words words' : List ℕ) (views : List (SeatView S)) (id : ℕ) (w : SeatView S)
      → Same words words' → Rows width words views → Knows width words' w
      → Rows width words' (set views id w)
  rows_after width words words' views id w same r mine = record {
    sound = λ t. subst (λ (n : ℕ). IsSound width n) (sym (same t)) (r.sound t);
    each = λ i h e. ⊎_elim
        (λ (t : (i ≡ id) × (w ≡ h)). subst (λ (z : SeatView S). Knows width words' z) t.1 mine)
        (λ (t : (i ≢ id) × (get_elem? views i ≡ some h)). knows_moves width words words' same h (r.each i h t.1))
        (at_set views id i w h e);
  }

  -- the same of a seat whose tasks and role tell of no row that it hadn't told of
  pub rows_on : (width : ℕ) (words : List ℕ) (i n : ℕ) (views : List (SeatView S)) (id : ℕ) (w : SeatView S)
      → i < 32 → Rows width words views → Shown words w.tasks → IsFound (set words i n) w.role → w.width ≤ width
      → Rows width (set words i n) (set views id w)
  rows_on width words i n views id w low r shown found wide =
      rows_after width words (set words i n) views id w (beside words i n low) r
      (shown_moves words (set words i n) (beside words i n low) w.tasks shown, found, wide)

  -- one seat more
  pub rows_snoc : (width : ℕ) (words : List ℕ) (views : List (SeatView S)) (n : SeatView S)
      → Rows width words views → Knows width words n → Rows width words (views ++ n ∷ [])
  rows_snoc width words views n r mine = record {
    sound = r.sound;
    each = λ i h e. ⊎_elim (λ (old : get_elem? views i ≡ some h). r.each i h old)
        (λ (t : (i ≡ length views) × (n ≡ h)). subst (λ (z : SeatView S). Knows width words z) t.1 mine)
        (at_snoc views n h i e);
  }

-- a table of zeros has no other word
pub all_clear : (words items : List ℕ) (n : ℕ) → words ≡ items → items ≡ replicate n 0 → (i : ℕ) → get_or words i 0 ≡ 0
all_clear words items n is begun i =
    ap (λ (ws : List ℕ). get_or ws i 0) (is ∙ begun)
    ∙ dite (dec_le n i)
    (λ beyond. beyond_last (replicate n 0) i (subst (λ (k : ℕ). k ≤ i) (sym (length-replicate n 0)) beyond))
    (λ inside. get_or-replicate n i 0 0 (omega arith))
