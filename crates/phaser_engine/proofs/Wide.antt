-- A window that is wide enough may go on by itself: what it gives up nobody can read.
use Rattle.std.proofs.Common.{◌≡◌, ℕ, ◌+◌, ◌-◌, ◌<◌, ◌==◌, cond, max, true, false, List, inl, inr, ap, sym, ◌∙◌, subst, arith}
use Rattle.std.proofs.lemmas.Bool.{cases_lt, false≢true}
use Rattle.phase_modes.specs.Mode.{can_signal}
use Rattle.phase_modes.specs.declared.limits.Limits.{Limits}
use Rattle.phase_model.specs.declared.history.Event.{Event}
use Rattle.phase_model.specs.declared.terms.Terms.{Terms}
use Rattle.phase_model.specs.Tasks.{is_live, has_mode}
use Rattle.phase_model.specs.Phases.{signals}
use Rattle.phase_model.specs.Rules.{is_legal}
use Rattle.phase_model.proofs.Closing.{some_live}
use Rattle.acc_cells.specs.declared.cell.Cell.{Cell}
use Rattle.acc_cells.specs.Cells.{Kept, held, from_after}
use Rattle.phase_model.specs.Span.{IsNear}
use Rattle.phase_model.proofs.Span.{legal_is_spanned}
use Rattle.phaser_engine.specs.Lazy.{partial_of}
use Rattle.phaser_engine.specs.Table.{IsWideEnough}
use Rattle.phaser_engine.specs.Window.{IsWindow}
use Rattle.phaser_engine.proofs.Holding.{partial_gone}
use Rattle.phaser_engine.proofs.Lazy.{holds_nothing}

-- once the phases are given up that a fold for phase n leaves behind, where n is as far as a signaller came
module _ (l : Limits) (terms : Terms) (h : List Event) (legal : is_legal l terms h ≡ true) (t n room from : ℕ)
    (live : is_live t h ≡ true) (able : has_mode can_signal t h ≡ true) (is : n ≡ signals t h) (early : n < l.history)
    (w : IsWindow from h) where
  moved : IsWideEnough l terms room → IsWindow (max from (n + 1 - room)) h
  moved (inl all) =
      let same : from ≡ max from (n + 1 - room) = omega (arith, all, early) in
      subst (λ m. IsWindow m h) same w
  moved (inr (b, bounded, two_more)) =
      let near : IsNear b h = (legal_is_spanned l terms h legal).1 b bounded in
      record {
        begun = λ none. absurd (false≢true (sym (some_live t h live) ∙ none));
        read = λ u p there reads given_up.
            elim (cases_lt p from) [
              | inl before ↦ w.read u p there reads before
              | inr after ↦
                  omega (arith, is, near t u live able there reads, two_more, given_up, after)
            ];
      }

  pub window_folded : (k : Kept) (values : ℕ) → k.room ≡ room → k.from ≡ from → IsWideEnough l terms room
      → IsWindow (from_after values n k) h
  window_folded k values rooms froms wide =
      elim (values == 0) as (λ b. IsWindow (cond b k.from (max k.from (n + 1 - k.room))) h) [
        | true ↦ subst (λ m. IsWindow m h) (sym froms) w
        | false ↦ rw (froms, rooms) (moved wide)
      ]

-- who can't signal holds no value
pub holds_no_value : (l : Limits) (terms : Terms) (h : List Event) → is_legal l terms h ≡ true → (t : ℕ)
    → has_mode can_signal t h ≡ false → held (partial_of h t) ≡ 0
holds_no_value l terms h legal t none =
    ap (λ (p : List Cell). held p) (sym (partial_gone h t (λ a. holds_nothing l terms h legal t a none)))
