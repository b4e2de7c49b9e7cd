-- What a drop folds.
use Rattle.std.proofs.Common.{◌≡◌, ℕ, ◌<◌, ◌≤◌, ◌==◌, Bool, true, false, cond, List, [], ◌∷◌, ◌++◌, length, slice_get, ℤ, refl, ap, sym, ◌∙◌, arith, inl, inr}
use Rattle.std.specs.List.{remove}
use Rattle.std.proofs.lemmas.Bool.{cases_Bool}
use Rattle.std.proofs.lemmas.Option.{same_Some}
use Rattle.phase_modes.specs.Mode.{can_signal}
use Rattle.phase_modes.specs.declared.limits.Limits.{Limits}
use Rattle.phase_model.specs.declared.history.Event.{Event}
use Rattle.phase_model.specs.declared.history.Event.TheVariants.{Drop}
use Rattle.phase_model.specs.declared.op.Op.{Op}
use Rattle.phase_model.specs.declared.terms.Terms.{Terms}
use Rattle.phase_model.specs.Rules.{Story, is_legal, with_event}
use Rattle.phase_model.specs.Tasks.{has_mode}
use Rattle.phase_model.specs.Phases.{signals}
use Rattle.acc_cells.specs.declared.cell.Cell.{Cell}
use Rattle.acc_cells.specs.Cells.{Kept, no_partial, empty_cell, tally}
use Rattle.acc_cells.proofs.Taking.{no_values, empty_at}
use Rattle.phaser_engine.specs.Lazy.{folded, unfolded, partial_of}
use Rattle.phaser_engine.specs.Table.{Folds}
use Rattle.phaser_engine.proofs.Holding.{holds_it, held_remove}
use Rattle.phaser_engine.proofs.Lazy.{holds_nothing}

-- who holds nothing folds nothing, at whatever phase
pub folds_none : (b : Bool) (held rest : List ℤ) → held ≡ [] → cond b (held ++ rest) rest ≡ rest
folds_none true held rest e = ap (λ vs. vs ++ rest) e
folds_none false held rest e = refl

pub after_drop : (l : Limits) (terms : Terms) (h : List Event) → is_legal l terms h ≡ true → (t a q n : ℕ)
    → (has_mode can_signal t h ≡ true → n ≡ signals t h)
    → cond (n == q) (unfolded t a h ++ folded a q h) (folded a q h) ≡ folded a q (Drop t ∷ h)
after_drop l terms h k t a q n shown =
    elim (cases_Bool (has_mode can_signal t h)) [
      | inl able ↦ ap (λ m. cond (m == q) (unfolded t a h ++ folded a q h) (folded a q h)) (shown able)
      | inr none ↦
          let empty : unfolded t a h ≡ [] = holds_nothing l terms h k t a none in
          folds_none (n == q) (unfolded t a h) (folded a q h) empty
          ∙ sym (folds_none (signals t h == q) (unfolded t a h) (folded a q h) empty)
    ]

-- whose partial is empty holds nothing of any accumulator
holds_none : (h : List Event) (t a : ℕ) → a < 4 → no_partial ≡ partial_of h t → unfolded t a h ≡ []
holds_none h t a near empty =
    no_values (unfolded t a h)
    (same_Some (tally (unfolded t a h)) empty_cell
    (sym (ap (λ cs. slice_get cs a) empty ∙ holds_it h t a near) ∙ empty_at a near))

-- a drop of a task that holds nothing folds nothing
pub folds_dropped : (s : Story) (ps : List (List Cell)) (kept : Kept) (t i : ℕ) → Folds s ps kept
    → i < length ps → length s.terms.ops ≤ 4 → no_partial ≡ partial_of s.past t
    → Folds (with_event s (Drop t)) (remove ps i) kept
folds_dropped s ps kept t i f inside four empty =
    let same = λ (a p : ℕ) (near : a < 4). sym (folds_none (signals t s.past == p) (unfolded t a s.past)
    (folded a p s.past) (holds_none s.past t a near empty)) in
    record {
      ops = f.ops;
      room = f.room;
      cells = λ a p one two.
          f.cells a p one two
          ∙ ap (λ (vs : List ℤ). tally vs)
          (same a p (omega (arith, one, four, ap (λ (os : List Op). length os) f.ops)));
      few = omega (arith, f.few, held_remove ps i inside);
    }
