-- How the phase began: a step that doesn't write the folds keeps what is known of them.
use Rattle.std.proofs.Common.{◌≡◌, ◌≢◌, ⊎_elim, ℕ, ◌+◌, ◌<◌, ◌≤◌, Bool, List, [], ◌∷◌, ◌++◌, length, get_or, set, sym, refl, ap, ◌∙◌, subst, arith, append_assoc, get_or-set_other}
use Rattle.std.proofs.lemmas.Bool.{false≢true}
use mathlib.Core.Option.{some}
use lib.ListN.{get_elem?}
use Rattle.atomic_table.proofs.Lists.{at_set}
use Rattle.told_history.specs.Tails.{IsTail}
use Rattle.phase_model.specs.declared.history.Event.{Event}
use Rattle.phase_model.specs.declared.call.Call.{Call}
use Rattle.phase_model.specs.Replies.{Reply}
use Rattle.level_phaser.specs.declared.view.SeatView.{SeatView}
use Rattle.level_phaser.specs.declared.view.SeatedTask.{SeatedTask}
use Rattle.level_phaser.specs.declared.view.Role.{Role}
use Rattle.level_phaser.specs.declared.view.Role.TheVariants.{Stands, Came, Last, Holder, Gone}
use Rattle.level_phaser.specs.Seen.{AreSeated}
use Rattle.level_phaser.specs.Views.{known_by, showing}
use Rattle.level_phaser.specs.inner.Folds.{fold_in, IsNoted, AreFolds, AreFresh, IsBehind, Began, Begins}
use Rattle.level_phaser.specs.inner.Steps.{head_of, tail_of}
use Rattle.level_phaser.proofs.Rows.{at_snoc}

-- the words of the folds are as they were
abbrev pub SameFolds : List ℕ → List ℕ → Type 0
SameFolds words words' = (a : ℕ) → a < 4 → get_or words' (24 + a) 0 ≡ get_or words (24 + a) 0

pub below_folds : (words : List ℕ) (i n : ℕ) → i < 24 → SameFolds words (set words i n)
below_folds words i n low a few = get_or-set_other words i (24 + a) n 0 (λ e. absurd (omega arith))

pub above_folds : (words : List ℕ) (i n : ℕ) → 28 ≤ i → SameFolds words (set words i n)
above_folds words i n high a few = get_or-set_other words i (24 + a) n 0 (λ e. absurd (omega arith))

pub same_folds : (words : List ℕ) → SameFolds words words
same_folds words a few = refl

pub tail_over : (a b c : List Event) → IsTail a b → IsTail b c → IsTail a c
tail_over a b c p q = (q.0 ++ p.0, q.1 ∙ ap (λ (z : List Event). q.0 ++ z) p.1 ∙ sym (append_assoc q.0 p.0 a))

module _ {S : Type 0} where
  pub noted_moves : (words words' : List ℕ) → SameFolds words words' → (role : Role S) → IsNoted words role
      → IsNoted words' role
  noted_moves words words' same Stands k = tt
  noted_moves words words' same Came k = tt
  noted_moves words words' same (Last x ws) k = λ a few. same a few ∙ k a few
  noted_moves words words' same (Holder x) k = tt
  noted_moves words words' same Gone k = tt

module _ {S : Type 0} (events : S → List Event) (registered : ℕ → S → Bool) (replies : S → Call → Reply)
    (ready : ℕ → S → Type 0) where
  abbrev Began_as : S → ℕ → List ℕ → SeatView S → Type 0
  Began_as = Began events registered replies ready

  abbrev Start : (S → ℕ) → ℕ → List ℕ → List (SeatView S) → S → Type 0
  Start = Begins events registered replies ready

  pub began_moves : (b : S) (phase : ℕ) (words words' : List ℕ) → SameFolds words words' → (v : SeatView S)
      → Began_as b phase words v → Began_as b phase words' v
  began_moves b phase words words' same v k = (k.0, k.1, noted_moves words words' same v.role k.2)

  folds_move : (n : ℕ) (b : S) (words words' : List ℕ) → n ≤ 4 → SameFolds words words'
      → AreFolds events registered replies ready n words b → AreFolds events registered replies ready n words' b
  folds_move n b words words' few same k = λ a l low is. k a l low (ap fold_in (sym (same a (omega arith))) ∙ is)

  -- one seat's view changes
  pub begins_on : (width : S → ℕ) (phase : ℕ) (words words' : List ℕ) (views : List (SeatView S)) (id : ℕ)
      (w : SeatView S) (x y : S) → SameFolds words words' → (0 < get_or words' 0 0 → 0 < get_or words 0 0)
      → IsTail (events x) (events y) → width y ≡ width x → (b : Start width phase words views x)
      → Began_as b.begun phase words' w → Start width phase words' (set views id w) y
  begins_on width phase words words' views id w x y same opens longer widths b mine = record {
    begun = b.begun;
    stood = b.stood;
    longer = tail_over (events b.begun) (events x) (events y) b.longer longer;
    wide = widths ∙ b.wide;
    narrow = b.narrow;
    folds = λ some_missing. folds_move (width b.begun) b.begun words words' b.narrow same (b.folds (opens some_missing));
    each = λ i h e. ⊎_elim
        (λ (t : (i ≡ id) × (w ≡ h)). subst (λ (z : SeatView S). Began_as b.begun phase words' z) t.1 mine)
        (λ (t : (i ≢ id) × (get_elem? views i ≡ some h)). began_moves b.begun phase words words' same h (b.each i h t.1))
        (at_set views id i w h e);
  }

  -- one seat more
  pub begins_snoc : (width : S → ℕ) (phase : ℕ) (words : List ℕ) (views : List (SeatView S)) (n : SeatView S) (x : S)
      → (b : Start width phase words views x) → Began_as b.begun phase words n
      → Start width phase words (views ++ n ∷ []) x
  begins_snoc width phase words views n x b mine = record {
    begun = b.begun;
    stood = b.stood;
    longer = b.longer;
    wide = b.wide;
    narrow = b.narrow;
    folds = b.folds;
    each = λ i h e. ⊎_elim (λ (old : get_elem? views i ≡ some h). b.each i h old)
        (λ (t : (i ≡ length views) × (n ≡ h)). subst (λ (z : SeatView S). Began_as b.begun phase words z) t.1 mine)
        (at_snoc views n h i e);
  }

  -- both
  pub begins_cut : (width : S → ℕ) (phase : ℕ) (words : List ℕ) (views : List (SeatView S)) (id : ℕ)
      (l n : SeatView S) (x : S) → (b : Start width phase words views x) → Began_as b.begun phase words l
      → Began_as b.begun phase words n → Start width phase words (set views id l ++ n ∷ []) x
  unfolding begins_on
  begins_cut width phase words views id l n x b left right =
      begins_snoc width phase words (set views id l) n x
      (begins_on width phase words words views id l x x (same_folds words) (λ m. m) ([], refl) refl b left) right

  -- the tasks are fresh, all that are registered in a history that goes on from what was seen
  pub all_fresh : (b : S) (seen : List Event) (cs : List SeatedTask) → IsTail seen (events b)
      → AreSeated events registered ready cs b → AreFresh events registered replies ready b seen cs
  all_fresh b seen [] longer k = tt
  all_fresh b seen (c ∷ cs) longer k = ((λ _. (k.0, longer)), all_fresh b seen cs longer k.2)

  -- none is that has told
  pub known_fresh : (b : S) (seen h : List Event) (cs : List SeatedTask)
      → AreFresh events registered replies ready b seen (known_by h cs)
  known_fresh b seen h [] = tt
  known_fresh b seen h (c ∷ cs) = ((λ e. absurd (false≢true e)), known_fresh b seen h cs)

  pub showing_fresh : (b : S) (seen es : List Event) (cs : List SeatedTask)
      → AreFresh events registered replies ready b seen cs
      → AreFresh events registered replies ready b seen (showing es cs)
  showing_fresh b seen es [] k = tt
  showing_fresh b seen es (c ∷ cs) k = (k.0, showing_fresh b seen es cs k.1)

  pub head_fresh : (b : S) (seen : List Event) (cs : List SeatedTask)
      → AreFresh events registered replies ready b seen cs
      → AreFresh events registered replies ready b seen (head_of cs)
  head_fresh b seen [] k = tt
  head_fresh b seen (c ∷ cs) k = (k.0, tt)

  pub tail_fresh : (b : S) (seen : List Event) (cs : List SeatedTask)
      → AreFresh events registered replies ready b seen cs
      → AreFresh events registered replies ready b seen (tail_of cs)
  tail_fresh b seen [] k = tt
  tail_fresh b seen (c ∷ cs) k = k.1

  -- so it stands in the next phase
  pub began_standing : (b : S) (phase at : ℕ) (words : List ℕ) (role : Role S) (cs : List SeatedTask)
      (seen : List Event) → role ≡ Stands → AreFresh events registered replies ready b seen cs
      → IsBehind events registered replies ready b role cs at phase seen
      × AreFresh events registered replies ready b seen cs × IsNoted words role
  began_standing b phase at words role cs seen stands fresh =
      subst (λ (z : Role S). IsBehind events registered replies ready b z cs at phase seen
      × AreFresh events registered replies ready b seen cs × IsNoted words z) (sym stands) (tt, fresh, tt)
