-- The table after a drop.
use Rattle.std.proofs.Common.{◌≡◌, ℕ, zero, suc, ◌==◌, ◌+◌, ◌||◌, ◌&&◌, true, false, not, List, [], ◌∷◌, map, length, Option, Some, slice_get, refl, ap, sym, ◌∙◌, subst, arith, inl, inr}
use Rattle.std.specs.Prelude.{remove}
use Rattle.std.specs.List.{filter}
use Rattle.std.proofs.lemmas.Bool.{cases_Bool, eq-eqb, eqb-true, ne_eqb, or_parts, false≢true}
use Rattle.std.proofs.lemmas.List.Edits.{length-remove}
use Rattle.std.proofs.lemmas.Option.{slice_get_within}
use Rattle.phase_model.specs.declared.history.Event.{Event}
use Rattle.phase_model.specs.declared.history.Event.TheVariants.{Drop}
use Rattle.phase_model.specs.Tasks.{live_tasks}
use Rattle.phase_model.specs.Rules.{Story, with_event}
use Rattle.phase_model.specs.declared.call.Call.TheVariants.{Drop as drop_task}
use Rattle.phase_model.specs.Replies.{reply, done}
use Rattle.phase_model.proofs.LiveTasks.{has-live_tasks, has-filter, Apart-filter, live_apart, live_tasks-drop}
use Rattle.single_state.specs.declared.statement.Statement.{Statement}
use Rattle.reg_table.specs.declared.table.Entry.{Entry}
use Rattle.phaser_engine.specs.Table.{has, Apart, entry_of, tasks_of, Stands}
use Rattle.phaser_engine.proofs.Reading.{has_at}
use Rattle.phaser_engine.proofs.SinglesMoved.{last_stays}
use Rattle.phaser_engine.proofs.Writing.{place_of, still_legal}

-- a list without t has no t to take out
pub others_stay : (t : ℕ) (ts : List ℕ) → has t ts ≡ false → filter (λ u. not (t == u)) ts ≡ ts
others_stay t [] k = refl
others_stay t (u ∷ ts) k =
    let parts = or_parts (u == t) (has t ts) k in
    let other : (t == u) ≡ false = ne_eqb t u (λ e. false≢true (sym parts.0 ∙ eq-eqb u t (sym e))) in
    let rest : filter (λ v. not (t == v)) ts ≡ ts = others_stay t ts parts.1 in
    rw other (ap (λ us. u ∷ us) rest)

-- removing t's item is mapping what is left
pub map_without : {B : Type 0} (f : ℕ → B) (t : ℕ) (ts : List ℕ) (i : ℕ) → Apart ts → slice_get ts i ≡ Some t
    → remove (map f ts) i ≡ map f (filter (λ u. not (t == u)) ts)
map_without f t [] i a k = absurd cc
map_without f t (u ∷ ts) zero a k =
    let same : u ≡ t = cc in
    let itself : (t == u) ≡ true = eq-eqb t u (sym same) in
    rw itself (ap (λ us. map f us) (sym (others_stay t ts (subst (λ v. has v ts ≡ false) same a.0))))
map_without f t (u ∷ ts) (suc i) a k =
    let other : (t == u) ≡ false =
    ne_eqb t u (λ e. false≢true (sym a.0 ∙ (ap (λ v. has v ts) (sym e) ∙ has_at t ts i k))) in
    rw other (ap (λ us. f u ∷ us) (map_without f t ts i a.1 k))

-- without t there is one task less
one_less : (t : ℕ) (ts : List ℕ) → Apart ts → has t ts ≡ true
    → length (filter (λ u. not (t == u)) ts) + 1 ≡ length ts
one_less t [] a k = absurd (false≢true k)
one_less t (u ∷ ts) a k =
    elim (cases_Bool (u == t)) [
      | inl e ↦
          let same : u ≡ t = eqb-true u t e in
          let itself : (t == u) ≡ true = eq-eqb t u (sym same) in
          let rest : length (filter (λ v. not (t == v)) ts) ≡ length ts =
          ap (λ us. length us) (others_stay t ts (subst (λ v. has v ts ≡ false) same a.0)) in
          rw itself (omega (arith, rest))
      | inr e ↦
          let other : (t == u) ≡ false = ne_eqb t u (λ d. false≢true (sym e ∙ eq-eqb u t (sym d))) in
          let rest = one_less t ts a.1 (ap (λ b. b || has t ts) (sym e) ∙ k) in
          rw other (omega (arith, rest))
    ]

pub tasks-map : (h : List Event) (ts : List ℕ) → tasks_of (map (entry_of h) ts) ≡ ts
tasks-map h [] = refl
tasks-map h (t ∷ ts) = ap (λ us. t ∷ us) (tasks-map h ts)

-- the tasks of a table without t's line
pub tasks_without : (h : List Event) (table : List Entry) (t i : ℕ)
    → table ≡ map (entry_of h) (tasks_of table) → Apart (tasks_of table)
    → slice_get (tasks_of table) i ≡ Some t
    → tasks_of (remove table i) ≡ filter (λ u. not (t == u)) (tasks_of table)
tasks_without h table t i rows alone place =
    let ts = tasks_of table in
    ap (λ xs. tasks_of (remove xs i)) rows
    ∙ (ap (λ xs. tasks_of xs) (map_without (entry_of h) t ts i alone place)
    ∙ tasks-map h (filter (λ u. not (t == u)) ts))

pub stands_drop : (s : Story) (table : List Entry) (single : Option Statement) (t i : ℕ)
    → Stands s table single
    → reply s (drop_task t) ≡ done (Drop t) → slice_get table i ≡ Some (entry_of s.past t)
    → Stands (with_event s (Drop t)) (remove table i) single
stands_drop s table single t i stands is at =
    let h = s.past in
    let e = Drop t in
    let ts = tasks_of table in
    let us = filter (λ u. not (t == u)) ts in
    let place : slice_get ts i ≡ Some t = place_of table h t i at in
    let left : remove table i ≡ map (entry_of h) us =
    ap (λ xs. remove xs i) stands.rows ∙ map_without (entry_of h) t ts i stands.apart place in
    let tasks : tasks_of (remove table i) ≡ us = tasks_without h table t i stands.rows stands.apart place in
    let live : live_tasks (e ∷ h) ≡ filter (λ u. not (t == u)) (live_tasks h) = live_tasks-drop h t in
    let known : has t (live_tasks h) ≡ true =
    has-live_tasks t h ∙ (sym (stands.who t) ∙ has_at t ts i place) in
    record {
      fit = stands.fit;
      legal = still_legal s (drop_task t) e stands.legal is;
      last = last_stays single (e ∷ h) h
          (record { made = refl; claims = λ p. refl; reports = λ p. refl; claimers = λ u p. refl })
          stands.last;
      rows = left ∙ ap (λ vs. map (entry_of h) vs) (sym tasks);
      who = λ u.
          ap (λ vs. has u vs) tasks
          ∙ (has-filter (λ v. not (t == v)) u ts
          ∙ (ap (λ b. not (t == u) && b) (stands.who u ∙ sym (has-live_tasks u h))
          ∙ (sym (has-filter (λ v. not (t == v)) u (live_tasks h))
          ∙ (ap (λ vs. has u vs) (sym live) ∙ has-live_tasks u (e ∷ h)))));
      apart = subst Apart (sym tasks) (Apart-filter (λ v. not (t == v)) ts stands.apart);
      count = omega (
        arith,
        length-remove table i (slice_get_within table i (entry_of h t) at),
        stands.count,
        ap (λ vs. length vs) live,
        one_less t (live_tasks h) (live_apart s.limits s.terms h stands.legal) known,
      );
    }
