-- What the table says of the history.
use Rattle.std.proofs.Common.{◌≡◌, ℕ, zero, suc, max, ◌+◌, ◌≤◌, ◌==◌, nat_lt, nat_le, Bool, true, false, ◌||◌, ◌&&◌, not, List, [], ◌∷◌, length, map, Option, Some, None, slice_get, refl, ap, sym, ◌∙◌, arith, inl, inr}
use Rattle.std.specs.List.{list_any, list_all}
use Rattle.std.specs.Option.{option_map}
use Rattle.std.proofs.lemmas.Bool.{cases_Bool, eq-eqb, eqb-true, ne_eqb, leb-true, and_parts, and_from, and_left, false_from_ne_true, or_left, or_right, false≢true, not-false, not-true}
use Rattle.std.proofs.lemmas.Option.{slice_get-map, same_Some}
use Rattle.phase_modes.specs.declared.reg.Mode.{Mode}
use Rattle.phase_modes.specs.Mode.{can_signal, can_wait}
use Rattle.phase_model.specs.declared.history.Event.{Event}
use Rattle.phase_model.specs.Tasks.{is_registered, is_dropped, is_live, has_mode, live_tasks, live_count}
use Rattle.phase_model.specs.Phases.{waits, signals}
use Rattle.phase_model.proofs.LiveTasks.{has, has-live_tasks}
use Rattle.reg_table.specs.declared.table.Entry.{Entry}
use Rattle.phase_model.specs.Singles.{has_proposed, is_settled, reserve}
use Rattle.single_state.specs.declared.statement.Statement.{Statement}
use Rattle.single_state.specs.Single.{may_pass, reserve_of}
use Rattle.phaser_engine.proofs.SinglesKept.{reserve_is, settled_is}
use Rattle.phase_model.specs.Rules.{Story, has_room}
use Rattle.phase_model.specs.Registration.{reg_of}
use Rattle.phase_model.proofs.Registration.{mode_of_live}
use Rattle.phaser_engine.specs.Table.{entry_of, tasks_of, Stands, can_count}
use Rattle.phaser_engine.specs.Line.{has_signalled, is_within, is_near as is_near_line}
use Rattle.phase_modes.specs.declared.limits.Limits.{Limits}
use Rattle.acc_cells.specs.Cells.{most_values}
use Rattle.phase_modes.specs.Reg.{signals_of}
use Rattle.phase_model.specs.Phases.{is_past, is_closed, is_near, is_within_bound}
use Rattle.phase_model.proofs.Legal.{at_or_ahead}
use Rattle.std.proofs.lemmas.List.Folds.{list_all-map}

pub list_any-map : {A B : Type 0} (p : B → Bool) (f : A → B) (xs : List A)
    → list_any p (map f xs) ≡ list_any (λ x. p (f x)) xs
list_any-map p f [] = refl
list_any-map p f (x ∷ xs) = ap (λ b. p (f x) || b) (list_any-map p f xs)

pub has_at : (t : ℕ) (ts : List ℕ) (i : ℕ) → slice_get ts i ≡ Some t → has t ts ≡ true
has_at t [] i e = absurd cc
has_at t (u ∷ ts) zero e = or_left (u == t) (has t ts) (eq-eqb u t cc)
has_at t (u ∷ ts) (suc i) e = or_right (u == t) (has t ts) (has_at t ts i e)

-- what an entry of the table says of its task
pub record Found (h : List Event) (t : ℕ) (e : Entry) : Type 0 where
  pub live : is_live t h ≡ true
  pub is_entry : e ≡ entry_of h t
  pub mode : (test : Mode → Bool) → has_mode test t h ≡ test e.reg.mode

pub found_reg : (h : List Event) (t : ℕ) (e : Entry) → Found h t e → e.reg ≡ reg_of t h
found_reg h t e f = ap (λ x. x.reg) f.is_entry

pub found_phase : (h : List Event) (t : ℕ) (e : Entry) → Found h t e → e.reg.phase ≡ waits t h
found_phase h t e f = ap (λ x. x.reg.phase) f.is_entry

pub found_proposed : (h : List Event) (t : ℕ) (e : Entry) → Found h t e
    → e.proposed ≡ has_proposed t (waits t h) h
found_proposed h t e f = ap (λ x. x.proposed) f.is_entry

-- an entry of the list of entries is that of its task
pub from_entries : (h : List Event) (t : ℕ) (x : Entry) (o : Option ℕ) → option_map (entry_of h) o ≡ Some x
    → x.task ≡ t → (o ≡ Some t) × (x ≡ entry_of h t)
from_entries h t x None e k = absurd cc
from_entries h t x (Some u) e k =
    let entry : entry_of h u ≡ x = cc in
    let same : u ≡ t = ap (λ y. y.task) entry ∙ k in
    (ap (λ v. Some v) same, sym entry ∙ ap (λ v. entry_of h v) same)

-- a line of a table that maps its tasks is that of its task
pub found : (h : List Event) (table : List Entry) (t i : ℕ) (x : Entry)
    → table ≡ map (entry_of h) (tasks_of table) → ((u : ℕ) → has u (tasks_of table) ≡ is_live u h)
    → slice_get table i ≡ Some x → x.task ≡ t → Found h t x
found h table t i x rows who at same =
    let task : slice_get (tasks_of table) i ≡ Some t = slice_get-map (λ (y : Entry). y.task) table i
    ∙ (ap (λ o. option_map (λ (y : Entry). y.task) o) at ∙ ap (λ u. Some u) same) in
    let line : slice_get table i ≡ Some (entry_of h t) =
    ap (λ xs. slice_get xs i) rows
    ∙ (slice_get-map (entry_of h) (tasks_of table) i ∙ ap (λ o. option_map (entry_of h) o) task)
    in
    let is : x ≡ entry_of h t = same_Some x (entry_of h t) (sym at ∙ line) in
    let live : is_live t h ≡ true = sym (who t) ∙ has_at t (tasks_of table) i task in
    record {
      live = live;
      is_entry = is;
      mode =
          λ test. mode_of_live t h live test ∙ ap (λ y. test y.reg.mode) (sym is);
    }

other_of : (a b x : Bool) → x ≡ (a && not b) → a ≡ true → b ≡ not x
other_of true true x e k = sym (ap (λ y. not y) e)
other_of true false x e k = sym (ap (λ y. not y) e)
other_of false b x e k = absurd cc

-- a signaller is behind where its registration is not ahead
pub behind_is : (h : List Event) (t : ℕ) (e : Entry) → Found h t e → can_signal e.reg.mode ≡ true
    → (signals t h == waits t h) ≡ not e.reg.ahead
behind_is h t e f k =
    other_of (has_mode can_signal t h) (signals t h == waits t h) e.reg.ahead
    (ap (λ x. x.reg.ahead) f.is_entry) (f.mode can_signal ∙ k)

list_all_same : (f g : ℕ → Bool) (ts : List ℕ) → ((t : ℕ) → has t ts ≡ true → f t ≡ g t)
    → list_all f ts ≡ list_all g ts
list_all_same f g [] e = refl
list_all_same f g (t ∷ ts) e =
    let here : f t ≡ g t = e t (or_left (t == t) (has t ts) (eq-eqb t t refl)) in
    let rest : list_all f ts ≡ list_all g ts =
    list_all_same f g ts (λ u k. e u (or_right (t == u) (has u ts) k)) in
    cc

pub all_at : (f : ℕ → Bool) (ts : List ℕ) (t : ℕ) → list_all f ts ≡ true → has t ts ≡ true → f t ≡ true
all_at f [] t all in_it = absurd (false≢true in_it)
all_at f (u ∷ ts) t all in_it =
    let parts = and_parts (f u) (list_all f ts) all in
    elim (cases_Bool (u == t)) [
      | inl e ↦ ap f (sym (eqb-true u t e)) ∙ parts.0
      | inr e ↦ all_at f ts t parts.1 (ap (λ b. b || has t ts) (sym e) ∙ in_it)
    ]

all_from : (f : ℕ → Bool) (ts : List ℕ) → ((t : ℕ) → has t ts ≡ true → f t ≡ true) → list_all f ts ≡ true
all_from f [] each = refl
all_from f (t ∷ ts) each =
    and_from (f t) (list_all f ts) (each t (or_left (t == t) (has t ts) (eq-eqb t t refl)))
    (all_from f ts (λ u k. each u (or_right (t == u) (has u ts) k)))

-- the order of a list doesn't matter
pub list_all_members : (f : ℕ → Bool) (ts us : List ℕ) → ((t : ℕ) → has t ts ≡ has t us)
    → list_all f ts ≡ list_all f us
list_all_members f ts us same =
    elim (cases_Bool (list_all f ts)) [
      | inl a ↦ a ∙ sym (all_from f us (λ t k. all_at f ts t a (same t ∙ k)))
      | inr a ↦
          a ∙ sym (false_from_ne_true (list_all f us)
          (λ b. false≢true (sym a ∙ all_from f ts (λ t k. all_at f us t b (sym (same t) ∙ k)))))
    ]

-- the same of a table that stands for the history
module _ (s : Story) (table : List Entry) (single : Option Statement) (stands : Stands s table single) where
  pub not_live : (t : ℕ) → list_any (λ e. e.task == t) table ≡ false → is_live t s.past ≡ false
  not_live t e = sym (stands.who t) ∙ (list_any-map (λ u. u == t) (λ (x : Entry). x.task) table ∙ e)

  -- who was never registered has no line
  pub absent_is : (t : ℕ) → is_registered t s.past ≡ false → list_any (λ e. e.task == t) table ≡ false
  absent_is t fresh =
      sym (list_any-map (λ u. u == t) (λ (x : Entry). x.task) table)
      ∙ (stands.who t ∙ and_left (is_registered t s.past) (not (is_dropped t s.past)) fresh)

  pub found_in : (t i : ℕ) (x : Entry) → slice_get table i ≡ Some x → x.task ≡ t → Found s.past t x
  found_in t i x e same = found s.past table t i x stands.rows stands.who e same

  pub place_in : (t i : ℕ) (x : Entry) → slice_get table i ≡ Some x → x.task ≡ t
      → slice_get table i ≡ Some (entry_of s.past t)
  place_in t i x e same = e ∙ ap (λ y. Some y) (found_in t i x e same).is_entry

  pub count_is : length table ≡ live_count s.past
  count_is = stands.count

  -- room for an event after which as many tasks are live, and the single needs as many events
  pub room_is : (n r : ℕ) → (length s.past + 1 + live_count s.past + reserve s.past ≡ n)
      → length s.past + 1 + length table + reserve_of single ≡ r
      → nat_le n s.limits.history ≡ nat_le r s.limits.history
  room_is n r a b =
      let same : n ≡ r =
      omega (arith, a, b, count_is, reserve_is s.limits s.terms s.past stands.legal single stands.last) in
      ap (λ k. nat_le k s.limits.history) same

  -- the same as it is asked, for an event that changes neither who is registered nor the single
  pub room_now : (e : Event) → live_count (e ∷ s.past) ≡ live_count s.past
      → reserve (e ∷ s.past) ≡ reserve s.past
      → has_room s.limits (e ∷ s.past)
      ≡ nat_le (length s.past + 1 + length table + reserve_of single) s.limits.history
  room_now e live kept =
      ap (λ k. nat_le k s.limits.history)
      (omega (
        arith,
        live,
        kept,
        count_is,
        reserve_is s.limits s.terms s.past stands.legal single stands.last,
      ))

  -- a signaller is ahead where its registration is
  pub ahead_is : (t : ℕ) (e : Entry) → Found s.past t e → can_signal e.reg.mode ≡ true
      → (signals t s.past == waits t s.past + 1) ≡ e.reg.ahead
  ahead_is t e f k =
      let n = signals t s.past in
      let w = waits t s.past in
      let here : (n == w) ≡ not e.reg.ahead = behind_is s.past t e f k in
      elim (at_or_ahead s.limits s.terms s.past stands.legal t (f.mode can_signal ∙ k)) [
        | inl a ↦
            ne_eqb n (w + 1) (λ d. omega (arith, d, a)) ∙ sym (not-true e.reg.ahead (sym here ∙ eq-eqb n w a))
        | inr a ↦
            eq-eqb n (w + 1) a ∙ sym (not-false e.reg.ahead (sym here ∙ ne_eqb n w (λ d. omega (arith, d, a))))
      ]

  -- a signaller's registration counts what it has signalled
  pub counted : (t : ℕ) (e : Entry) → Found s.past t e → can_signal e.reg.mode ≡ true
      → signals_of e.reg ≡ signals t s.past
  counted t e f k =
      let n = signals t s.past in
      let w = waits t s.past in
      let here : (n == w) ≡ not e.reg.ahead = behind_is s.past t e f k in
      let phase : e.reg.phase ≡ w = found_phase s.past t e f in
      elim (at_or_ahead s.limits s.terms s.past stands.legal t (f.mode can_signal ∙ k)) [
        | inl a ↦ rw (not-true e.reg.ahead (sym here ∙ eq-eqb n w a)) (phase ∙ sym a)
        | inr a ↦
            rw (not-false e.reg.ahead (sym here ∙ ne_eqb n w (λ d. omega (arith, d, a))))
            (omega (arith, phase, a))
      ]

  -- a live task is past the phase where its registration says so
  past_of : (p t : ℕ) (e : Entry) → Found s.past t e → has_signalled p e.reg ≡ is_past p s.past t
  past_of p t e f =
      elim (cases_Bool (can_signal e.reg.mode)) [
        | inl a ↦ rw (a, f.mode can_signal ∙ a) (ap (λ n. nat_lt p n) (counted t e f a))
        | inr a ↦ rw (a, f.mode can_signal ∙ a) refl
      ]

  past_is : (p t : ℕ) → is_live t s.past ≡ true → has_signalled p (reg_of t s.past) ≡ is_past p s.past t
  past_is p t live =
      past_of p t (entry_of s.past t)
      (record { live = live; is_entry = refl; mode = mode_of_live t s.past live })

  pub closed_is : (p : ℕ) → list_all (λ e. has_signalled p e.reg) table ≡ is_closed p s.past
  closed_is p =
      let h = s.past in
      let ts = tasks_of table in
      ap (λ xs. list_all (λ e. has_signalled p e.reg) xs) stands.rows
      ∙ (list_all-map (λ e. has_signalled p e.reg) (entry_of h) ts
      ∙ (list_all_same (λ t. has_signalled p (reg_of t h)) (is_past p h) ts
      (λ t k. past_is p t (sym (stands.who t) ∙ k))
      ∙ list_all_members (is_past p h) ts (live_tasks h) (λ t. stands.who t ∙ sym (has-live_tasks t h))))

  -- a live task is near a phase where its registration is
  near_is : (b p t : ℕ) → is_live t s.past ≡ true → is_near_line b p (reg_of t s.past) ≡ is_near b p s.past t
  near_is b p t live = ap (λ k. not k || nat_lt p (waits t s.past + b)) (sym (mode_of_live t s.past live can_wait))

  -- the bound is kept where the lines say so
  pub within_is : (o : Option ℕ) (p : ℕ) → is_within o p table ≡ is_within_bound o p s.past
  within_is None p = refl
  within_is (Some b) p =
      let h = s.past in
      let ts = tasks_of table in
      let n = max 1 b in
      ap (λ xs. list_all (λ e. is_near_line n p e.reg) xs) stands.rows
      ∙ (list_all-map (λ e. is_near_line n p e.reg) (entry_of h) ts
      ∙ (list_all_same (λ t. is_near_line n p (reg_of t h)) (is_near n p h) ts
      (λ t k. near_is n p t (sym (stands.who t) ∙ k))
      ∙ list_all_members (is_near n p h) ts (live_tasks h) (λ t. stands.who t ∙ sym (has-live_tasks t h))))

  -- what the tests of a pass say
  pub owes_is : (t : ℕ) (e : Entry) → Found s.past t e → (can_signal e.reg.mode && not e.reg.ahead)
      ≡ (has_mode can_signal t s.past && not (signals t s.past == waits t s.past + 1))
  owes_is t e f =
      elim (cases_Bool (can_signal e.reg.mode)) [
        | inl a ↦ rw (a, f.mode can_signal ∙ a, ahead_is t e f a) refl
        | inr a ↦ rw (a, f.mode can_signal ∙ a) refl
      ]

  pub held_is : (t : ℕ) (e : Entry) → Found s.past t e
      → (can_wait e.reg.mode
      && not (list_all (λ x. has_signalled e.reg.phase x.reg) table && may_pass single e.reg.phase))
      ≡ (has_mode can_wait t s.past
      && not (is_closed (waits t s.past) s.past && is_settled (waits t s.past) s.past))
  held_is t e f =
      rw (
        closed_is e.reg.phase,
        found_phase s.past t e f,
        f.mode can_wait,
        settled_is s.limits s.terms s.past stands.legal single (waits t s.past) stands.last,
      ) refl

-- a history has room for the phaser's making
pub makes_fit : (l : Limits) → can_count l ≡ true → 2 ≤ l.history
makes_fit l k =
    let parts = and_parts (nat_le 2 l.history && nat_le l.history most_values) (nat_le l.regs 256) k in
    leb-true 2 l.history (and_parts (nat_le 2 l.history) (nat_le l.history most_values) parts.0).0

-- and has at most as many events as there may be values
pub history_fits : (l : Limits) → can_count l ≡ true → l.history ≤ most_values
history_fits l k =
    let parts = and_parts (nat_le 2 l.history && nat_le l.history most_values) (nat_le l.regs 256) k in
    leb-true l.history most_values (and_parts (nat_le 2 l.history) (nat_le l.history most_values) parts.0).1

-- there are lines for as many as may be registered at once
pub regs_fit : (l : Limits) → can_count l ≡ true → l.regs ≤ 256
regs_fit l k =
    leb-true l.regs 256 (and_parts (nat_le 2 l.history && nat_le l.history most_values) (nat_le l.regs 256) k).1
