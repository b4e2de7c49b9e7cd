-- What a change of the table stands for.
use Rattle.std.proofs.Common.{◌≡◌, ℕ, zero, suc, ◌+◌, ◌≤◌, ◌<◌, ◌==◌, Bool, true, false, ◌||◌, ◌&&◌, not, List, [], ◌∷◌, length, map, set, Option, Some, None, is_some, slice_get, get_or, ℤ, refl, ap, sym, ◌∙◌, arith, inl, inr, subst}
use Rattle.std.proofs.lemmas.Bool.{cases_Bool, eq-eqb, ne_eqb, or_parts, or_from, and_from, and_left, false_from_ne_true, false≢true}
use Rattle.std.specs.List.{insert}
use Rattle.std.specs.Option.{option_map}
use Rattle.std.proofs.lemmas.List.{length-set}
use Rattle.std.proofs.lemmas.List.Edits.{length-insert}
use Rattle.std.proofs.lemmas.Option.{slice_get-map, slice_get_within}
use Rattle.phase_modes.specs.declared.reg.Mode.{Mode}
use Rattle.phase_modes.specs.declared.limits.Limits.{Limits}
use Rattle.phase_modes.specs.Mode.{can_signal}
use Rattle.phase_model.specs.declared.terms.Terms.{Terms}
use Rattle.phase_model.specs.declared.op.Look.{Look}
use Rattle.phase_model.specs.declared.history.Event.{Event}
use Rattle.phase_model.specs.declared.history.Event.TheVariants.{Make, Sig, Claim, Did, Pass, Send, Look as Looked, Reg as Joined}
use Rattle.phase_model.specs.Tasks.{has_mode, live_tasks, live_count, is_live, is_registered, is_dropped}
use Rattle.phase_model.specs.Phases.{waits, signals}
use Rattle.phase_model.specs.Singles.{has_proposed}
use Rattle.phase_model.specs.Rules.{Story, with_event, is_allowed, is_legal}
use Rattle.phase_model.specs.declared.call.Call.{Call}
use Rattle.phase_model.specs.declared.call.Call.TheVariants.{Make as make, Register as register, Signal as signal, Pass as pass, SingleDone as single_done, Send as send, Look as look}
use Rattle.phase_model.specs.Replies.{reply, done}
use Rattle.phase_model.proofs.LiveTasks.{live_tasks-reg, has-live_tasks}
use Rattle.phase_model.proofs.Legal.{last_follows, reg_follows, sig_follows, pass_follows}
use Rattle.phase_model.proofs.OwnPhase.{own_phase}
use Rattle.phase_model.proofs.Replied.{done_is_allowed}
use Rattle.single_state.specs.declared.statement.Statement.{Statement}
use Rattle.reg_table.specs.declared.table.Entry.{Entry}
use Rattle.reg_table.specs.Lines.{line_signalled, line_passed}
use Rattle.phase_model.specs.Registration.{reg_of}
use Rattle.phaser_engine.specs.Table.{has, Apart, entry_of, tasks_of, IsLastSingle, Stands, can_count}
use Rattle.phaser_engine.proofs.Reading.{has_at}
use Rattle.phaser_engine.proofs.SinglesMoved.{last_stays}

-- two functions agree on a list without t
pub same_map : {B : Type 0} (f g : ℕ → B) (t : ℕ) (ts : List ℕ) → has t ts ≡ false
    → ((u : ℕ) → (u ≡ t → ⊥) → f u ≡ g u) → map f ts ≡ map g ts
same_map f g t [] k e = refl
same_map f g t (u ∷ ts) k e =
    let parts = or_parts (u == t) (has t ts) k in
    let here : f u ≡ g u = e u (λ s. false≢true (sym parts.0 ∙ eq-eqb u t s)) in
    let rest : map f ts ≡ map g ts = same_map f g t ts parts.1 e in
    cc

-- where two functions agree but at t, changing t's item turns one list into the other
pub map_one : {B : Type 0} (f g : ℕ → B) (t : ℕ) (ts : List ℕ) (i : ℕ) → Apart ts → slice_get ts i ≡ Some t
    → ((u : ℕ) → (u ≡ t → ⊥) → f u ≡ g u) → set (map f ts) i (g t) ≡ map g ts
map_one f g t [] i a k e = refl
map_one f g t (u ∷ ts) zero a k e =
    let same : u ≡ t = cc in
    let rest : map f ts ≡ map g ts = same_map f g t ts (subst (λ v. has v ts ≡ false) same a.0) e in
    let first : g t ≡ g u = ap g (sym same) in
    cc
map_one f g t (u ∷ ts) (suc i) a k e =
    let rest : set (map f ts) i (g t) ≡ map g ts = map_one f g t ts i a.1 k e in
    let other : f u ≡ g u = e u (λ s. false≢true (sym a.0 ∙ (ap (λ v. has v ts) s ∙ has_at t ts i k))) in
    cc

-- where a task's line stands in the table, the task stands among those of the table
pub place_of : (table : List Entry) (h : List Event) (t i : ℕ) → slice_get table i ≡ Some (entry_of h t)
    → slice_get (tasks_of table) i ≡ Some t
place_of table h t i at =
    slice_get-map (λ (x : Entry). x.task) table i ∙ ap (λ o. option_map (λ (x : Entry). x.task) o) at

-- a line of the same task leaves the tasks
pub tasks_set : (table : List Entry) (i t : ℕ) (x : Entry) → slice_get (tasks_of table) i ≡ Some t
    → x.task ≡ t → tasks_of (set table i x) ≡ tasks_of table
tasks_set [] i t x at same = refl
tasks_set (y ∷ table) zero t x at same =
    let here : x.task ≡ y.task = cc in
    ap (λ u. u ∷ tasks_of table) here
tasks_set (y ∷ table) (suc i) t x at same = ap (λ us. y.task ∷ us) (tasks_set table i t x at same)

-- who is live shows in the list of the live tasks
same_live : (h k : List Event) → live_tasks k ≡ live_tasks h → (u : ℕ) → is_live u h ≡ is_live u k
same_live h k live u = sym (has-live_tasks u h) ∙ (ap (λ us. has u us) (sym live) ∙ has-live_tasks u k)

-- the table after an event that moves one task and registers nobody
stands_set : (s : Story) (table : List Entry) (single after : Option Statement) (e : Event) (t i : ℕ)
    (new : Entry) → Stands s table single
    → is_legal s.limits s.terms (e ∷ s.past) ≡ true
    → IsLastSingle after (e ∷ s.past)
    → live_tasks (e ∷ s.past) ≡ live_tasks s.past
    → slice_get table i ≡ Some (entry_of s.past t)
    → ((u : ℕ) → (u ≡ t → ⊥) → entry_of s.past u ≡ entry_of (e ∷ s.past) u)
    → entry_of (e ∷ s.past) t ≡ new
    → Stands (with_event s e) (set table i new) after
stands_set s table single after e t i new stands legal last live at others here =
    let h = s.past in
    let ts = tasks_of table in
    let place : slice_get ts i ≡ Some t = place_of table h t i at in
    let tasks : tasks_of (set table i new) ≡ ts =
    tasks_set table i t new place (ap (λ (x : Entry). x.task) (sym here)) in
    record {
      fit = stands.fit;
      legal = legal;
      last = last;
      rows =
          ap (λ x. set table i x) (sym here)
          ∙ (ap (λ xs. set xs i (entry_of (e ∷ h) t)) stands.rows
          ∙ (map_one (entry_of h) (entry_of (e ∷ h)) t ts i stands.apart place others
          ∙ ap (λ us. map (entry_of (e ∷ h)) us) (sym tasks)));
      who = λ u. ap (λ us. has u us) tasks ∙ (stands.who u ∙ same_live h (e ∷ h) live u);
      apart = subst Apart (sym tasks) stands.apart;
      count = length-set table i new ∙ (stands.count ∙ ap (λ us. length us) (sym live));
    }

pub apart : (t u : ℕ) → (u ≡ t → ⊥) → (t == u) ≡ false
apart t u away = ne_eqb t u (λ e. away (sym e))

-- the event of a call that is done keeps the history legal
pub still_legal : (s : Story) (c : Call) (e : Event) → is_legal s.limits s.terms s.past ≡ true
    → reply s c ≡ done e → is_legal s.limits s.terms (e ∷ s.past) ≡ true
still_legal s c e k is =
    and_from (is_allowed s.limits s.terms s.past e) (is_legal s.limits s.terms s.past)
    (done_is_allowed s c e is) k

either : (b : Bool) → (b || false) ≡ b
either true = refl
either false = refl

either_way : (b : Bool) → (b || true) ≡ true
either_way true = refl
either_way false = refl

-- whether the task proposed, once it has signalled
proposed_now : (h : List Event) (t : ℕ) (x : Option ℕ) → signals t h ≡ waits t h
    → has_proposed t (waits t (Sig t x ∷ h)) (Sig t x ∷ h) ≡ (has_proposed t (waits t h) h || is_some x)
proposed_now h t None behind = sym (either (has_proposed t (waits t h) h))
proposed_now h t (Some n) behind =
    rw (eq-eqb t t refl, eq-eqb (signals t h) (waits t h) behind)
    (sym (either_way (has_proposed t (waits t h) h)))

other_proposed : (h : List Event) (t u : ℕ) (x : Option ℕ) → (t == u) ≡ false
    → has_proposed u (waits u h) h ≡ has_proposed u (waits u (Sig t x ∷ h)) (Sig t x ∷ h)
other_proposed h t u None away = refl
other_proposed h t u (Some n) away = rw away refl

other_signals : (h : List Event) (t u : ℕ) (x : Option ℕ) → (t == u) ≡ false
    → entry_of h u ≡ entry_of (Sig t x ∷ h) u
other_signals h t u x away =
    let reg : reg_of u h ≡ reg_of u (Sig t x ∷ h) = rw away refl in
    ap (λ r. record { task = u; reg = r; proposed = has_proposed u (waits u h) h }) reg
    ∙ ap (λ b. record { task = u; reg = reg_of u (Sig t x ∷ h); proposed = b }) (other_proposed h t u x away)

-- the table after a signal
pub stands_signal : (s : Story) (table : List Entry) (single after : Option Statement) (t : ℕ) (x : Option ℕ)
    (i : ℕ) → Stands s table single
    → reply s (signal t x) ≡ done (Sig t x)
    → IsLastSingle after (Sig t x ∷ s.past)
    → slice_get table i ≡ Some (entry_of s.past t)
    → Stands (with_event s (Sig t x)) (set table i (line_signalled (entry_of s.past t) (is_some x))) after
stands_signal s table single after t x i stands is last at =
    let h = s.past in
    let legal = still_legal s (signal t x) (Sig t x) stands.legal is in
    let f = sig_follows s.limits s.terms h t x (last_follows s.limits s.terms h (Sig t x) legal).permitted in
    let moved : (signals t (Sig t x ∷ h) == waits t h) ≡ false =
    rw (eq-eqb t t refl) (ne_eqb (signals t h + 1) (waits t h) (λ e. omega (arith, e, f.behind)))
    in
    let new : entry_of (Sig t x ∷ h) t ≡ line_signalled (entry_of h t) (is_some x) =
    ap (λ b. record {
      task = t;
      reg = record (reg_of t h) { ahead = b };
      proposed =
          has_proposed t (waits t (Sig t x ∷ h)) (Sig t x ∷ h);
    })
    (and_from (has_mode can_signal t h) (not (signals t (Sig t x ∷ h) == waits t h)) f.signaller
    (ap (λ b. not b) moved))
    ∙ ap (λ b. record { task = t; reg = record (reg_of t h) { ahead = true }; proposed = b })
    (proposed_now h t x f.behind)
    in
    stands_set s table single after (Sig t x) t i (line_signalled (entry_of h t) (is_some x)) stands legal
    last refl at
    (λ u away. other_signals h t u x (apart t u away)) new

-- nobody has proposed for the turn after its own
not_proposed_yet : (l : Limits) (terms : Terms) (h : List Event) → is_legal l terms h ≡ true → (t : ℕ)
    → has_proposed t (waits t h + 1) h ≡ false
not_proposed_yet l terms h k t =
    false_from_ne_true (has_proposed t (waits t h + 1) h) (λ e. let far : waits t h + 1 ≤ waits t h =
    (own_phase l terms h k t (waits t h + 1) e).0 in omega (arith, far))

other_passes : (h : List Event) (t u : ℕ) → (t == u) ≡ false → entry_of h u ≡ entry_of (Pass t ∷ h) u
other_passes h t u away = rw away refl

-- the table after a pass
pub stands_pass : (s : Story) (table : List Entry) (single : Option Statement) (t i : ℕ)
    → Stands s table single
    → reply s (pass t) ≡ done (Pass t)
    → slice_get table i ≡ Some (entry_of s.past t)
    → Stands (with_event s (Pass t)) (set table i (line_passed (entry_of s.past t))) single
stands_pass s table single t i stands is at =
    let h = s.past in
    let legal = still_legal s (pass t) (Pass t) stands.legal is in
    let f = pass_follows s.limits s.terms h t (last_follows s.limits s.terms h (Pass t) legal).permitted in
    let turned : waits t (Pass t ∷ h) ≡ waits t h + 1 = rw (eq-eqb t t refl) refl in
    let level : (has_mode can_signal t h && not (signals t h == waits t (Pass t ∷ h))) ≡ false =
    elim (cases_Bool (has_mode can_signal t h)) [
      | inl e ↦ rw (e, turned, eq-eqb (signals t h) (waits t h + 1) (f.signalled e)) refl
      | inr e ↦ rw e refl
    ]
    in
    let reg : reg_of t (Pass t ∷ h) ≡ record (reg_of t h) { phase = waits t h + 1; ahead = false } =
    ap (λ n. record (reg_of t h) {
      phase = n;
      ahead =
          has_mode can_signal t h && not (signals t h == waits t (Pass t ∷ h));
    }) turned
    ∙ ap (λ b. record (reg_of t h) { phase = waits t h + 1; ahead = b }) level
    in
    let fresh : has_proposed t (waits t (Pass t ∷ h)) h ≡ false =
    rw turned (not_proposed_yet s.limits s.terms h stands.legal t) in
    let new : entry_of (Pass t ∷ h) t ≡ line_passed (entry_of h t) =
    ap (λ r. record { task = t; reg = r; proposed = has_proposed t (waits t (Pass t ∷ h)) h }) reg
    ∙ ap (λ b.
    record { task = t; reg = record (reg_of t h) { phase = waits t h + 1; ahead = false }; proposed = b })
    fresh
    in
    stands_set s table single single (Pass t) t i (line_passed (entry_of h t)) stands legal
    (last_stays single (Pass t ∷ h) h
    (record { made = refl; claims = λ p. refl; reports = λ p. refl; claimers = λ u p. refl }) stands.last)
    refl at (λ u away. other_passes h t u (apart t u away)) new

pub read_at : (xs : List Entry) (i : ℕ) (d x : Entry) → slice_get xs i ≡ Some x → get_or xs i d ≡ x
read_at [] i d x e = absurd cc
read_at (y ∷ xs) zero d x e = cc
read_at (y ∷ xs) (suc i) d x e = read_at xs i d x e

-- a place that holds an item is one of the list
pub place_within : (xs : List Entry) (i : ℕ) (x : Entry) → slice_get xs i ≡ Some x → i < length xs
place_within xs i x e = slice_get_within xs i x e

-- the table after an event that moves no task
pub stands_claim : (s : Story) (table : List Entry) (single after : Option Statement) (t : ℕ)
    → Stands s table single → reply s (pass t) ≡ done (Claim t)
    → IsLastSingle after (Claim t ∷ s.past) → Stands (with_event s (Claim t)) table after
stands_claim s table single after t stands is last =
    record {
      fit = stands.fit;
      legal = still_legal s (pass t) (Claim t) stands.legal is;
      last = last;
      rows =
          stands.rows;
      who = stands.who;
      apart = stands.apart;
      count = stands.count;
    }

pub stands_report : (s : Story) (table : List Entry) (single after : Option Statement) (t : ℕ)
    → Stands s table single → reply s (single_done t) ≡ done (Did t)
    → IsLastSingle after (Did t ∷ s.past) → Stands (with_event s (Did t)) table after
stands_report s table single after t stands is last =
    record {
      fit = stands.fit;
      legal = still_legal s (single_done t) (Did t) stands.legal is;
      last =
          last;
      rows = stands.rows;
      who = stands.who;
      apart = stands.apart;
      count = stands.count;
    }

pub stands_send : (s : Story) (table : List Entry) (single : Option Statement) (t a : ℕ) (v : ℤ)
    → Stands s table single → reply s (send t a v) ≡ done (Send t a v)
    → Stands (with_event s (Send t a v)) table single
stands_send s table single t a v stands is = record {
  fit = stands.fit;
  legal = still_legal s (send t a v) (Send t a v) stands.legal is;
  last = last_stays single (Send t a v ∷ s.past) s.past
      (record { made = refl; claims = λ p. refl; reports = λ p. refl; claimers = λ u p. refl }) stands.last;
  rows = stands.rows;
  who = stands.who;
  apart = stands.apart;
  count = stands.count;
}

pub stands_look : (s : Story) (table : List Entry) (single : Option Statement) (t a : ℕ) (x : Look ℤ)
    → Stands s table single → reply s (look t a) ≡ done (Looked t a x)
    → Stands (with_event s (Looked t a x)) table single
stands_look s table single t a x stands is = record {
  fit = stands.fit;
  legal = still_legal s (look t a) (Looked t a x) stands.legal is;
  last = last_stays single (Looked t a x ∷ s.past) s.past
      (record { made = refl; claims = λ p. refl; reports = λ p. refl; claimers = λ u p. refl }) stands.last;
  rows = stands.rows;
  who = stands.who;
  apart = stands.apart;
  count = stands.count;
}

pub map-insert : {B : Type 0} (f : ℕ → B) (ts : List ℕ) (i t : ℕ)
    → map f (insert ts i t) ≡ insert (map f ts) i (f t)
map-insert f ts zero t = refl
map-insert f [] (suc i) t = refl
map-insert f (u ∷ ts) (suc i) t = ap (λ xs. f u ∷ xs) (map-insert f ts i t)

pub tasks-insert : (table : List Entry) (i : ℕ) (x : Entry)
    → tasks_of (insert table i x) ≡ insert (tasks_of table) i x.task
tasks-insert table zero x = refl
tasks-insert [] (suc i) x = refl
tasks-insert (y ∷ table) (suc i) x = ap (λ ts. y.task ∷ ts) (tasks-insert table i x)

swapped : (a b c : Bool) → (a || (b || c)) ≡ (b || (a || c))
swapped true true c = refl
swapped true false c = refl
swapped false b c = refl

has-insert : (u : ℕ) (ts : List ℕ) (i t : ℕ) → has u (insert ts i t) ≡ ((t == u) || has u ts)
has-insert u ts zero t = refl
has-insert u [] (suc i) t = refl
has-insert u (v ∷ ts) (suc i) t =
    ap (λ b. (v == u) || b) (has-insert u ts i t) ∙ swapped (v == u) (t == u) (has u ts)

Apart-insert : (ts : List ℕ) (i t : ℕ) → Apart ts → has t ts ≡ false → Apart (insert ts i t)
Apart-insert ts zero t a gone = (gone, a)
Apart-insert [] (suc i) t a gone = (refl, tt)
Apart-insert (u ∷ ts) (suc i) t a gone =
    let parts = or_parts (u == t) (has t ts) gone in
    let other : (t == u) ≡ false = ne_eqb t u (λ e. false≢true (sym parts.0 ∙ eq-eqb u t (sym e))) in
    (has-insert u ts i t ∙ or_from (t == u) (has u ts) other a.0, Apart-insert ts i t a.1 parts.1)

-- the table after a registration
pub stands_register : (s : Story) (table : List Entry) (single : Option Statement) (q t i : ℕ) (m : Mode)
    (new : Entry) → Stands s table single
    → reply s (register q t m) ≡ done (Joined q t m)
    → new ≡ entry_of (Joined q t m ∷ s.past) t
    → i ≤ length table
    → Stands (with_event s (Joined q t m)) (insert table i new) single
stands_register s table single q t i m new stands is here within =
    let h = s.past in
    let e = Joined q t m in
    let ts = tasks_of table in
    let legal = still_legal s (register q t m) e stands.legal is in
    let f = reg_follows s.limits s.terms h q t m (last_follows s.limits s.terms h e legal).permitted in
    let live : live_tasks (e ∷ h) ≡ t ∷ live_tasks h =
    live_tasks-reg s.limits s.terms h q t m stands.legal f.unknown in
    let gone : has t ts ≡ false =
    stands.who t ∙ and_left (is_registered t h) (not (is_dropped t h)) f.unknown in
    let before : map (entry_of h) ts ≡ map (entry_of (e ∷ h)) ts =
    same_map (entry_of h) (entry_of (e ∷ h)) t ts gone (λ u away. rw (apart t u away) refl)
    in
    let tasks : tasks_of (insert table i new) ≡ insert ts i t =
    tasks-insert table i new ∙ ap (λ (x : Entry). insert ts i x.task) here in
    record {
      fit = stands.fit;
      legal = legal;
      last = last_stays single (e ∷ h) h
          (record { made = refl; claims = λ p. refl; reports = λ p. refl; claimers = λ u p. refl })
          stands.last;
      rows =
          ap (λ x. insert table i x) here
          ∙ (ap (λ xs. insert xs i (entry_of (e ∷ h) t)) (stands.rows ∙ before)
          ∙ (sym (map-insert (entry_of (e ∷ h)) ts i t) ∙ ap (λ us. map (entry_of (e ∷ h)) us) (sym tasks)));
      who = λ u.
          ap (λ us. has u us) tasks
          ∙ (has-insert u ts i t
          ∙ (ap (λ b. (t == u) || b) (stands.who u ∙ sym (has-live_tasks u h))
          ∙ (ap (λ us. has u us) (sym live) ∙ has-live_tasks u (e ∷ h))));
      apart = subst Apart (sym tasks) (Apart-insert ts i t stands.apart gone);
      count = omega (arith, length-insert table i new within, stands.count, ap (λ us. length us) live);
    }

and_false : (b : Bool) → (b && false) ≡ false
and_false true = refl
and_false false = refl

-- the maker's line
maker_line : (t : ℕ) (m : Mode)
    → ◌≡◌ {A = Entry}
    (record { task = t; reg = record { mode = m; phase = 0; ahead = false }; proposed = false })
    (entry_of (Make t m ∷ []) t)
maker_line t m =
    rw (eq-eqb t t refl)
    (ap (λ b. record { task = t; reg = record { mode = m; phase = 0; ahead = b }; proposed = false })
    (sym (and_false (can_signal m))))

empty_table : (table : List Entry) → length table ≡ 0 → table ≡ []
empty_table [] k = refl
empty_table (x ∷ table) k = absurd (omega (arith, k))

-- the table of the maker alone
pub stands_make : (s : Story) (table : List Entry) (single : Option Statement) (t : ℕ) (m : Mode)
    → Stands s table single → s.past ≡ [] → reply s (make t m) ≡ done (Make t m)
    → Stands (with_event s (Make t m))
    (insert table 0
    (record { task = t; reg = record { mode = m; phase = 0; ahead = false }; proposed = false })) single
stands_make s table single t m stands empty is =
    let h = s.past in
    let e = Make t m in
    let line : Entry =
    record { task = t; reg = record { mode = m; phase = 0; ahead = false }; proposed = false } in
    let alone : live_tasks (e ∷ h) ≡ t ∷ [] =
    ap (λ g. live_tasks (e ∷ g)) empty ∙ rw (eq-eqb t t refl) refl in
    let none : table ≡ [] = empty_table table (stands.count ∙ ap (λ g. live_count g) empty) in
    let made : line ≡ entry_of (e ∷ h) t = maker_line t m ∙ ap (λ g. entry_of (e ∷ g) t) (sym empty) in
    let whole : insert table 0 line ≡ line ∷ [] = ap (λ xs. insert xs 0 line) none in
    record {
      fit = stands.fit;
      legal = still_legal s (make t m) e stands.legal is;
      last = last_stays single (e ∷ h) h
          (record { made = refl; claims = λ p. refl; reports = λ p. refl; claimers = λ u p. refl })
          stands.last;
      rows = whole ∙ (ap (λ x. x ∷ []) made ∙ ap (λ xs. map (entry_of (e ∷ h)) (tasks_of xs)) (sym whole));
      who = λ u. ap (λ xs. has u (tasks_of xs)) whole
          ∙ (ap (λ us. has u us) (sym alone) ∙ has-live_tasks u (e ∷ h));
      apart = subst (λ (xs : List Entry). Apart (tasks_of xs)) (sym whole) (refl, tt);
      count = ap (λ xs. length xs) whole ∙ ap (λ us. length us) (sym alone);
    }

-- the empty table
pub stands_new : (l : Limits) (terms : Terms) → can_count l ≡ true
    → Stands (record { limits = l; terms = terms; past = [] }) [] None
stands_new l terms k =
    record { fit = k; legal = refl; last = λ p. refl; rows = refl; who = λ t. refl; apart = tt; count = refl }
