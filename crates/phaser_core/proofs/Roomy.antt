-- While there is room for 260 events more no call is refused for want of room: each of 256 registrations keeps room
-- for its drop, the event itself takes one and at most another drop, and an open single keeps two.
use Rattle.std.proofs.Common.{◌≡◌, ◌≢◌, ℕ, suc, ◌+◌, ◌≤◌, ◌==◌, nat_lt, Bool, true, false, ◌&&◌, not, cond, List, [], ◌∷◌, length, Option, Some, None, refl, ap, sym, ◌∙◌, arith}
use Rattle.std.specs.List.{list_any, filter}
use Rattle.std.proofs.lemmas.Bool.{or_right, or_parts, le-leb, and_parts, false≢true}
use Rattle.std.proofs.lemmas.List.Filters.{length-filter_both}
use Rattle.phase_modes.specs.declared.limits.Limits.{Limits}
use Rattle.phase_modes.specs.declared.refusal.Refusal.{Refusal}
use Rattle.phase_modes.specs.declared.refusal.Refusal.TheVariants.{HistoryFull}
use Rattle.phase_modes.specs.Lists.{is_empty}
use Rattle.phase_modes.specs.Refusal.{number_of, first_refusal}
use Rattle.phase_model.specs.declared.history.Event.{Event}
use Rattle.phase_model.specs.declared.history.Event.TheVariants.{Make, Reg, Drop}
use Rattle.phase_model.specs.declared.terms.Terms.{Terms}
use Rattle.phase_model.specs.declared.call.Call.{Call}
use Rattle.phase_model.specs.declared.call.Call.TheVariants.{Make as make, Register as register, Signal as signal, Pass as pass, SingleDone as single_done, Send as send, Look as look, Drop as drop_task}
use Rattle.phase_model.specs.Tasks.{registers, drops, is_registered, is_dropped, is_live, registered_tasks, live_tasks, live_count}
use Rattle.phase_model.specs.Singles.{proposals, has_unclaimed, has_undone, reserve}
use Rattle.phase_model.specs.Conditions.{conditions}
use Rattle.phase_model.specs.Rules.{is_legal, has_room}
use Rattle.phase_model.specs.Replies.{refused, decided, must_wait, event_for}
use Rattle.phase_model.proofs.Legal.{last_follows, reg_follows}
use Rattle.phase_model.proofs.LiveTasks.{has-registered_tasks, filter_same, live_tasks-drop, empty_is}
use Rattle.phaser_core.specs.LongLife.{long_limits, LongHasRoom}

-- whom an event doesn't drop stays live
others_stay : (e : Event) (h : List Event) → ((t : ℕ) → drops t e ≡ false)
    → filter (λ t. is_live t (e ∷ h)) (registered_tasks h) ≡ live_tasks h
others_stay e h none =
    filter_same (λ t. is_live t (e ∷ h)) (λ t. is_live t h) (registered_tasks h)
    (λ t k.
    let known : is_registered t h ≡ true = sym (has-registered_tasks t h) ∙ k in
    rw (none t) (ap (λ b. b && not (is_dropped t h)) (or_right (registers t e) (is_registered t h) known ∙ sym known)))

-- a drop makes none live
none_more : (t : ℕ) (h : List Event) → live_count (Drop t ∷ h) ≤ live_count h
none_more t h =
    let left = length-filter_both (λ u. not (t == u)) (λ u. not (not (t == u))) (λ u. refl) (live_tasks h) in
    rw live_tasks-drop (omega (arith, left))

-- an event makes at most one task more live
one_more : (e : Event) (h : List Event) → live_count (e ∷ h) ≤ live_count h + 1
one_more (Make t m) h =
    let stay = ap (λ (ts : List ℕ). length ts) (others_stay (Make t m) h (λ u. refl)) in
    let others = filter (λ u. is_live u (Make t m ∷ h)) (registered_tasks h) in
    elim (is_live t (Make t m ∷ h)) as (λ b. length (cond b (t ∷ others) others) ≤ live_count h + 1) [
      | true ↦ omega (arith, stay)
      | false ↦ omega (arith, stay)
    ]
one_more (Reg q t m) h =
    let stay = ap (λ (ts : List ℕ). length ts) (others_stay (Reg q t m) h (λ u. refl)) in
    let others = filter (λ u. is_live u (Reg q t m ∷ h)) (registered_tasks h) in
    elim (is_live t (Reg q t m ∷ h)) as (λ b. length (cond b (t ∷ others) others) ≤ live_count h + 1) [
      | true ↦ omega (arith, stay)
      | false ↦ omega (arith, stay)
    ]
one_more (Drop t) h = omega (arith, none_more t h)
one_more e h = omega arith

-- no legal history has more live tasks than its limits have registrations
live_within : (l : Limits) (terms : Terms) (h : List Event) → 1 ≤ l.regs → is_legal l terms h ≡ true
    → live_count h ≤ l.regs
live_within l terms [] some k = omega arith
live_within l terms (Make t m ∷ h) some k =
    let f = last_follows l terms h (Make t m) k in
    let first : h ≡ [] = empty_is h (and_parts (is_empty h) (nat_lt t l.tasks) f.permitted).0 in
    let none : live_count h ≡ 0 = ap (λ g. live_count g) first in
    omega (arith, some, none, one_more (Make t m) h)
live_within l terms (Reg q t m ∷ h) some k =
    let f = reg_follows l terms h q t m (last_follows l terms h (Reg q t m) k).permitted in
    omega (arith, f.regs_fit, one_more (Reg q t m) h)
live_within l terms (Drop t ∷ h) some k =
    omega (arith, none_more t h, live_within l terms h some (last_follows l terms h (Drop t) k).before)
live_within l terms (e ∷ h) some k = live_within l terms h some (last_follows l terms h e k).before

-- an open single keeps room for no more than its claim and its report
two_kept : (h : List Event) → reserve h ≤ 2
two_kept h =
    elim (has_unclaimed h (proposals h)) as (λ b. cond b 2 (cond (has_undone h (proposals h)) 1 0) ≤ 2) [
      | true ↦ omega arith
      | false ↦
          elim (has_undone h (proposals h)) as (λ b. cond b 1 0 ≤ 2) [ true ↦ omega arith | false ↦ omega arith ]
    ]

-- so whatever event follows has room
has_room_next : (terms : Terms) (h : List Event) (e : Event) → is_legal long_limits terms h ≡ true
    → length h + 260 ≤ long_limits.history → has_room long_limits (e ∷ h) ≡ true
has_room_next terms h e k room =
    let live = live_within long_limits terms h (omega arith) k in
    le-leb (suc (length h) + live_count (e ∷ h) + reserve (e ∷ h)) long_limits.history
    (omega (arith, room, live, one_more e h, two_kept (e ∷ h)))

-- conditions that don't name it never refuse for want of room
unnamed : (cs : List (Refusal × Bool)) → list_any (λ c. number_of c.0 == number_of HistoryFull) cs ≡ false
    → first_refusal cs ≢ Some HistoryFull
unnamed [] none = λ k. absurd cc
unnamed ((r, met) ∷ cs) none =
    let parts =
    or_parts (number_of r == number_of HistoryFull)
    (list_any (λ c. number_of c.0 == number_of HistoryFull) cs) none in
    elim met as (λ b. cond b (first_refusal cs) (Some r) ≢ Some HistoryFull) [
      | true ↦ unnamed cs parts.1
      | false ↦ λ k.
          let same : r ≡ HistoryFull = cc in
          false≢true (sym parts.0 ∙ ap (λ x. number_of x == number_of HistoryFull) same)
    ]

-- and no call's conditions name it
names_none : (l : Limits) (terms : Terms) (h : List Event) (c : Call)
    → list_any (λ x. number_of x.0 == number_of HistoryFull) (conditions l terms h c) ≡ false
names_none l terms h (make t m) = refl
names_none l terms h (register q t m) = refl
names_none l terms h (signal t x) = refl
names_none l terms h (pass t) = refl
names_none l terms h (single_done t) = refl
names_none l terms h (send t a v) = refl
names_none l terms h (look t a) = refl
names_none l terms h (drop_task t) = refl

-- an event that has room is not refused for want of it
has_place : (o : Option Refusal) (waits b : Bool) (e : Event) → o ≢ Some HistoryFull → b ≡ true
    → decided o waits b e ≢ refused HistoryFull
has_place (Some r) waits b e other room = λ k. other cc
has_place None true b e other room = λ k. absurd cc
has_place None false true e other room = λ k. absurd cc
has_place None false false e other room = absurd (false≢true room)

pub long_has_room : LongHasRoom
long_has_room terms h c k room =
    let e = event_for long_limits terms h c in
    has_place (first_refusal (conditions long_limits terms h c)) (must_wait long_limits terms h c)
    (has_room long_limits (e ∷ h)) e
    (unnamed (conditions long_limits terms h c) (names_none long_limits terms h c))
    (has_room_next terms h e k room)
