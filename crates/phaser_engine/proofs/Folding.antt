-- What the cells stand for after each event.
use Rattle.std.proofs.Common.{◌≡◌, ℕ, ◌+◌, ◌<◌, ◌==◌, cond, List, [], ◌∷◌, ◌++◌, length, set, get_or, ℤ, refl, ap, sym, ◌∙◌, subst, arith}
use Rattle.std.specs.List.{remove}
use Rattle.std.proofs.lemmas.List.{length-set}
use Rattle.phase_modes.specs.declared.limits.Limits.{Limits}
use Rattle.phase_model.specs.declared.terms.Terms.{Terms}
use Rattle.phase_model.specs.declared.history.Event.{Event}
use Rattle.phase_model.specs.declared.history.Event.TheVariants.{Send}
use Rattle.phase_model.specs.Rules.{Story, with_event}
use Rattle.acc_cells.specs.declared.cell.Cell.{Cell}
use Rattle.acc_cells.specs.declared.sums.Sums.{Sums}
use Rattle.acc_cells.specs.Cells.{Kept, StandsFor, Holds, held, no_partial, no_sums, sums_taken, with_taken}
use Rattle.acc_cells.proofs.Taking.{taken_values}
use Rattle.phaser_engine.specs.Lazy.{folded, unfolded, partial_of, partial_with}
use Rattle.phaser_engine.specs.Table.{Folds, IsWideEnough}
use Rattle.phaser_engine.proofs.Holding.{all_held, held_set, held_remove, held_sent, holds_it}

-- after an event that neither sends nor folds
pub folds_same : (s : Story) (ps qs : List (List Cell)) (kept : Kept) (e : Event)
    → ((a p : ℕ) → folded a p (e ∷ s.past) ≡ folded a p s.past) → all_held qs ≡ all_held ps → Folds s ps kept
    → Folds (with_event s e) qs kept
folds_same s ps qs kept e same few f = record {
  ops = f.ops;
  room = f.room;
  cells = λ a p one two. f.cells a p one two ∙ rw same refl;
  few = omega (arith, f.few, few);
}

-- after a send
pub folds_send : (s : Story) (ps : List (List Cell)) (kept : Kept) (t a i : ℕ) (v : ℤ) → Folds s ps kept
    → i < length ps → get_or ps i no_partial ≡ partial_of s.past t → a < 4
    → Folds (with_event s (Send t a v)) (set ps i (partial_with a v (get_or ps i no_partial))) kept
folds_send s ps kept t a i v f inside mine near =
    let p = partial_with a v (get_or ps i no_partial) in
    let more : held p ≡ held (get_or ps i no_partial) + 1 = rw mine (held_sent s.past t a v near) in
    record {
      ops = f.ops;
      room = f.room;
      cells = f.cells;
      few = omega (arith, f.few, held_set ps i p inside, more);
    }

-- after the task of a line folded what it held
pub folds_taken : (s : Story) (ps : List (List Cell)) (kept new : Kept) (e : Event) (t n i : ℕ)
    → Folds s ps kept → i < length ps → get_or ps i no_partial ≡ partial_of s.past t
    → new.ops ≡ kept.ops → new.room ≡ kept.room → new.sums ≡ sums_taken (get_or ps i no_partial) kept.sums
    → ((values : ℕ → ℕ → List ℤ) → (mine : ℕ → List ℤ) → StandsFor kept values
    → Holds (get_or ps i no_partial) mine → StandsFor new (with_taken n mine values))
    → ((a p : ℕ) → cond (n == p) (unfolded t a s.past ++ folded a p s.past) (folded a p s.past)
    ≡ folded a p (e ∷ s.past))
    → Folds (with_event s e) (set ps i no_partial) new
folds_taken s ps kept new e t n i f inside mine terms room sums cells after =
    let stands =
    cells (λ a p. folded a p s.past) (λ a. unfolded t a s.past) f.cells (rw mine (holds_it s.past t)) in
    let values : new.sums.values ≡ kept.sums.values + held (get_or ps i no_partial) =
    ap (λ (x : Sums). x.values) sums ∙ taken_values (get_or ps i no_partial) kept.sums in
    record {
      ops = terms ∙ f.ops;
      room = subst (λ r. IsWideEnough s.limits s.terms r) (sym room) f.room;
      cells = λ a p one two. stands a p one two ∙ rw after refl;
      few = omega (arith, f.few, values, held_set ps i no_partial inside);
    }

-- after its line is taken out
pub folds_removed : (s : Story) (ps : List (List Cell)) (kept : Kept) (i : ℕ) → i < length ps
    → Folds s (set ps i no_partial) kept → Folds s (remove (set ps i no_partial) i) kept
folds_removed s ps kept i inside f =
    let qs = set ps i no_partial in
    record {
      ops = f.ops;
      room = f.room;
      cells = f.cells;
      few = omega (arith, f.few, held_remove qs i (omega (arith, inside, length-set ps i no_partial)));
    }

-- empty cells
pub folds_new : (l : Limits) (terms : Terms) (kept : Kept) → kept.ops ≡ terms.ops → IsWideEnough l terms kept.room
    → kept.sums ≡ no_sums → StandsFor kept (λ a p. [])
    → Folds (record { limits = l; terms = terms; past = [] }) [] kept
folds_new l terms kept same room sums cells =
    record { ops = same; room = room; cells = cells; few = omega (arith, ap (λ x. x.values) sums) }

-- once cells are given up
pub folds_released : (s : Story) (ps : List (List Cell)) (kept new : Kept) → Folds s ps kept
    → new.ops ≡ kept.ops → new.room ≡ kept.room → new.sums ≡ kept.sums
    → ((values : ℕ → ℕ → List ℤ) → StandsFor kept values → StandsFor new values) → Folds s ps new
folds_released s ps kept new f terms room sums cells = record {
  ops = terms ∙ f.ops;
  room = subst (λ r. IsWideEnough s.limits s.terms r) (sym room) f.room;
  cells = cells (λ a p. folded a p s.past) f.cells;
  few = omega (arith, f.few, ap (λ (x : Sums). x.values) sums);
}
