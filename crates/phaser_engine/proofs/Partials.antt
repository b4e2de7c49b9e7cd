-- The partials of a roll after each event.
use Rattle.std.proofs.Common.{◌≡◌, ℕ, ◌==◌, false, not, List, map, set, Some, slice_get, refl, ap, sym, ◌∙◌}
use Rattle.std.specs.List.{insert, remove, filter}
use Rattle.std.proofs.lemmas.Bool.{eq-eqb, and_left}
use Rattle.phase_model.specs.declared.history.Event.{Event}
use Rattle.phase_model.proofs.LiveTasks.{has-filter}
use Rattle.reg_table.specs.declared.table.Entry.{Entry}
use Rattle.acc_cells.specs.declared.cell.Cell.{Cell}
use Rattle.acc_cells.specs.Cells.{no_partial}
use Rattle.phaser_engine.specs.Lazy.{partial_of}
use Rattle.phaser_engine.specs.Table.{has, Apart, entry_of, tasks_of}
use Rattle.phaser_engine.proofs.Drops.{map_without, tasks_without}
use Rattle.phaser_engine.proofs.Holding.{remove_set}
use Rattle.phaser_engine.proofs.Writing.{same_map, map_one, map-insert, tasks_set, tasks-insert}

-- one task's partial changes, and no line goes or comes
pub partials_at : (h k : List Event) (ts : List ℕ) (t i : ℕ) (p : List Cell) (ps : List (List Cell))
    → ps ≡ map (partial_of h) ts → Apart ts → slice_get ts i ≡ Some t
    → ((u : ℕ) → (u ≡ t → ⊥) → partial_of h u ≡ partial_of k u) → p ≡ partial_of k t
    → set ps i p ≡ map (partial_of k) ts
partials_at h k ts t i p ps was alone place others is =
    ap (λ qs. set qs i p) was
    ∙ (ap (λ q. set (map (partial_of h) ts) i q) is
    ∙ map_one (partial_of h) (partial_of k) t ts i alone place others)

-- the line changes too
pub partials_set : (h k : List Event) (table : List Entry) (t i : ℕ) (x : Entry) (p : List Cell)
    (ps : List (List Cell)) → ps ≡ map (partial_of h) (tasks_of table) → Apart (tasks_of table)
    → slice_get (tasks_of table) i ≡ Some t → x.task ≡ t
    → ((u : ℕ) → (u ≡ t → ⊥) → partial_of h u ≡ partial_of k u) → p ≡ partial_of k t
    → set ps i p ≡ map (partial_of k) (tasks_of (set table i x))
partials_set h k table t i x p ps was alone place same others is =
    partials_at h k (tasks_of table) t i p ps was alone place others is
    ∙ ap (λ ts. map (partial_of k) ts) (sym (tasks_set table i t x place same))

-- a line comes
pub partials_insert : (h k : List Event) (table : List Entry) (t i : ℕ) (x : Entry) (ps : List (List Cell))
    → ps ≡ map (partial_of h) (tasks_of table) → has t (tasks_of table) ≡ false
    → x.task ≡ t → ((u : ℕ) → (u ≡ t → ⊥) → partial_of h u ≡ partial_of k u) → no_partial ≡ partial_of k t
    → insert ps i no_partial ≡ map (partial_of k) (tasks_of (insert table i x))
partials_insert h k table t i x ps was gone same others none =
    let ts = tasks_of table in
    ap (λ qs. insert qs i no_partial) (was ∙ same_map (partial_of h) (partial_of k) t ts gone others)
    ∙ (ap (λ q. insert (map (partial_of k) ts) i q) none
    ∙ (sym (map-insert (partial_of k) ts i t)
    ∙ ap (λ us. map (partial_of k) us) (sym (tasks-insert table i x ∙ ap (λ u. insert ts i u) same))))

-- a line goes, once its partial was folded
pub partials_remove : (h k : List Event) (table : List Entry) (t i : ℕ) (ps : List (List Cell))
    → ps ≡ map (partial_of h) (tasks_of table) → table ≡ map (entry_of h) (tasks_of table)
    → Apart (tasks_of table) → slice_get (tasks_of table) i ≡ Some t
    → ((u : ℕ) → (u ≡ t → ⊥) → partial_of h u ≡ partial_of k u)
    → remove (set ps i no_partial) i ≡ map (partial_of k) (tasks_of (remove table i))
partials_remove h k table t i ps was rows alone place others =
    let ts = tasks_of table in
    let us = filter (λ u. not (t == u)) ts in
    let gone : has t us ≡ false =
    has-filter (λ u. not (t == u)) t ts ∙ and_left (not (t == t)) (has t ts) (ap not (eq-eqb t t refl)) in
    remove_set ps i no_partial
    ∙ (ap (λ qs. remove qs i) was
    ∙ (map_without (partial_of h) t ts i alone place
    ∙ (same_map (partial_of h) (partial_of k) t us gone others
    ∙ ap (λ vs. map (partial_of k) vs) (sym (tasks_without h table t i rows alone place)))))
