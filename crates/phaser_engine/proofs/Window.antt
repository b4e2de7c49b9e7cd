-- The window of cells after each event, and what it says of the phases that may still be read.
use Rattle.std.proofs.Common.{◌≡◌, ℕ, ◌+◌, ◌<◌, ◌≤◌, ◌==◌, nat_lt, nat_le, max, Bool, true, false, ◌||◌, not, List, [], ◌∷◌, Option, refl, ap, sym, ◌∙◌, subst, arith, inl, inr}
use Rattle.std.specs.List.{list_any, list_all}
use Rattle.phase_modes.specs.Lists.{is_empty}
use Rattle.std.proofs.lemmas.Bool.{cases_Bool, cases_lt, and_parts, and_from, or_left, or_right, eq-eqb, ltb-true, leb-true, false≢true}
use Rattle.std.proofs.lemmas.List.Folds.{list_all-map}
use Rattle.phase_modes.specs.declared.limits.Limits.{Limits}
use Rattle.phase_modes.specs.Mode.{can_wait}
use Rattle.phase_model.specs.declared.history.Event.{Event}
use Rattle.phase_model.specs.declared.history.Event.TheVariants.{Make, Reg as Joined, Pass, Drop}
use Rattle.phase_model.specs.declared.terms.Terms.{Terms}
use Rattle.phase_model.specs.Tasks.{is_live, is_registered, is_dropped, has_mode, live_tasks}
use Rattle.phase_model.specs.Phases.{waits}
use Rattle.phase_model.specs.Rules.{Story, is_legal}
use Rattle.phase_model.proofs.Closing.{parent_waits, some_live}
use Rattle.phase_model.proofs.Legal.{last_follows, reg_follows, implied}
use Rattle.phase_model.proofs.LiveTasks.{has-live_tasks}
use Rattle.single_state.specs.declared.statement.Statement.{Statement}
use Rattle.reg_table.specs.declared.table.Entry.{Entry}
use Rattle.phaser_engine.specs.Line.{has_passed, is_waiter_past}
use Rattle.phase_model.specs.Registration.{reg_of}
use Rattle.phase_model.proofs.Registration.{mode_of_live}
use Rattle.phaser_engine.specs.Table.{has, entry_of, tasks_of, Stands}
use Rattle.phaser_engine.specs.Window.{may_read, is_needed, IsWindow}
use Rattle.phaser_engine.proofs.Reading.{list_any-map, all_at}

-- who is live after a drop was live before it
live_before : (u t : ℕ) (h : List Event) → is_live t (Drop u ∷ h) ≡ true → is_live t h ≡ true
live_before u t h live =
    let parts = and_parts (is_registered t h) (not ((u == t) || is_dropped t h)) live in
    and_from (is_registered t h) (not (is_dropped t h)) parts.0 (neither (u == t) (is_dropped t h) parts.1)
  where
    neither : (a b : Bool) → not (a || b) ≡ true → not b ≡ true
    neither true b k = absurd cc
    neither false b k = k

-- what no waiter may read, none may read later
read_stays : (l : Limits) (terms : Terms) (from : ℕ) (e : Event) (h : List Event)
    → is_legal l terms (e ∷ h) ≡ true → IsWindow from h
    → (t p : ℕ) → is_live t (e ∷ h) ≡ true → has_mode can_wait t (e ∷ h) ≡ true → p < from
    → p + 1 < waits t (e ∷ h)
read_stays l terms from (Make u m) h k w t p live able near =
    absurd (omega (
      arith,
      near,
      w.begun (and_parts (is_empty h) (nat_lt u l.tasks) (last_follows l terms h (Make u m) k).permitted).0,
    ))
read_stays l terms from (Joined q u m) h k w t p live able near =
    let f = reg_follows l terms h q u m (last_follows l terms h (Joined q u m) k).permitted in
    elim (cases_Bool (u == t)) [
      | inl e ↦ rw e (w.read q p f.parent_live (parent_waits q m h f.within (rw e at able)) near)
      | inr e ↦ rw e (w.read t p (rw e at live) (rw e at able) near)
    ]
read_stays l terms from (Pass u) h k w t p live able near =
    let before = w.read t p live able near in
    elim (cases_Bool (u == t)) [ inl e ↦ rw e (omega (arith, before)) | inr e ↦ rw e before ]
read_stays l terms from (Drop u) h k w t p live able near = w.read t p (live_before u t h live) able near
read_stays l terms from e h k w t p live able near = w.read t p live able near

-- a window stays one after each event
pub window_stays : (l : Limits) (terms : Terms) (from : ℕ) (e : Event) (h : List Event)
    → is_legal l terms (e ∷ h) ≡ true → IsWindow from h → IsWindow from (e ∷ h)
window_stays l terms from e h k w = record {
  begun = λ none. absurd (false≢true none);
  read = read_stays l terms from e h k w;
}

-- the window of a new phaser
pub window_new : IsWindow 0 []
window_new =
    record {
      begun = λ none. refl;
      read = λ t p live able near. absurd (omega (arith, near));
    }

-- where a test passes somewhere, it passes for a task of the list
any_of : (f : ℕ → Bool) (ts : List ℕ) → list_any f ts ≡ true → (t : ℕ) × (has t ts ≡ true) × (f t ≡ true)
any_of f [] e = absurd cc
any_of f (u ∷ ts) e =
    elim (cases_Bool (f u)) [
      | inl a ↦ (u, or_left (u == u) (has u ts) (eq-eqb u u refl), a)
      | inr a ↦
          let rest = any_of f ts (ap (λ b. b || list_any f ts) (sym a) ∙ e) in
          (rest.0, or_right (u == rest.0) (has rest.0 ts) rest.1, rest.2)
    ]

-- a phase that may be read isn't given up
pub needed_kept : (from : ℕ) (h : List Event) (p : ℕ) → IsWindow from h → is_needed p h ≡ true → from ≤ p
needed_kept from h p w needed =
    let reader = any_of (may_read p h) (live_tasks h) needed in
    let t = reader.0 in
    let parts = and_parts (has_mode can_wait t h) (nat_le (waits t h) (p + 1)) reader.2 in
    elim (cases_lt p from) [
      | inr kept ↦ kept
      | inl given_up ↦
          absurd (omega (
            arith,
            w.read t p (sym (has-live_tasks t h) ∙ reader.1) parts.0 given_up,
            leb-true (waits t h) (p + 1) parts.1,
          ))
    ]

-- the window once the phases below n are given up, which each waiter of the table has passed, and n itself
-- too
module _ (s : Story) (table : List Entry) (single : Option Statement) (stands : Stands s table single) where
  -- a live waiter has passed what the table's waiters have
  passed_at : (n : ℕ) → list_all (λ e. has_passed n e.reg) table ≡ true → (t : ℕ) → is_live t s.past ≡ true
      → has_mode can_wait t s.past ≡ true → n < waits t s.past
  passed_at n all t live able =
      let h = s.past in
      let ts = tasks_of table in
      let each : list_all (λ u. has_passed n (reg_of u h)) ts ≡ true =
      sym (ap (λ xs. list_all (λ e. has_passed n e.reg) xs) stands.rows
      ∙ list_all-map (λ e. has_passed n e.reg) (entry_of h) ts) ∙ all
      in
      let here : has_passed n (reg_of t h) ≡ true =
      all_at (λ u. has_passed n (reg_of u h)) ts t each (stands.who t ∙ live) in
      ltb-true n (waits t h)
      (implied (can_wait (reg_of t h).mode) (nat_lt n (waits t h)) here
      (sym (mode_of_live t h live can_wait) ∙ able))

  -- and there is one, where the table has one
  waiter_at : (n : ℕ) → list_any (λ e. is_waiter_past n e.reg) table ≡ true
      → (t : ℕ) × (is_live t s.past ≡ true) × (has_mode can_wait t s.past ≡ true) × (n < waits t s.past)
  waiter_at n some =
      let h = s.past in
      let ts = tasks_of table in
      let one : list_any (λ u. is_waiter_past n (reg_of u h)) ts ≡ true =
      sym (ap (λ xs. list_any (λ e. is_waiter_past n e.reg) xs) stands.rows
      ∙ list_any-map (λ e. is_waiter_past n e.reg) (entry_of h) ts) ∙ some
      in
      let who = any_of (λ u. is_waiter_past n (reg_of u h)) ts one in
      let t = who.0 in
      let live : is_live t h ≡ true = sym (stands.who t) ∙ who.1 in
      let parts = and_parts (can_wait (reg_of t h).mode) (nat_lt n (waits t h)) who.2 in
      (t, live, mode_of_live t h live can_wait ∙ parts.0, ltb-true n (waits t h) parts.1)

  pub window_released : (from n : ℕ) → IsWindow from s.past
      → (0 < n → list_all (λ e. has_passed n e.reg) table ≡ true)
      → (0 < n → list_any (λ e. is_waiter_past n e.reg) table ≡ true)
      → IsWindow (max from n) s.past
  window_released from n w all some =
      elim (cases_lt from n) [
        | inr same ↦
            let is : from ≡ max from n = omega (arith, same) in
            subst (λ m. IsWindow m s.past) is w
        | inl more ↦
            let is : n ≡ max from n = omega (arith, more) in
            let pos : 0 < n = omega (arith, more) in
            let who = waiter_at n (some pos) in
            subst (λ m. IsWindow m s.past) is (record {
              begun = λ none. absurd (false≢true (sym (some_live who.0 s.past who.1) ∙ none));
              read = λ t p live able near. omega (arith, passed_at n (all pos) t live able, near);
            })
      ]
