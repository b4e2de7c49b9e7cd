-- The seats of a run's tasks after a task was given an act, and after its event.
use Rattle.std.proofs.Common.{ℕ, zero, suc, ◌≡◌, ◌≢◌, ◌<◌, Bool, true, false, ◌==◌, true≢false, List, [], ◌∷◌, ◌++◌, drop, slice_get, length, Option, Some, None, refl, sym, ap, subst, ◌∙◌, arith, le_of_suc-le-suc}
use Rattle.std.proofs.Math.ListN.{set}
use Rattle.std.proofs.lemmas.Bool.{eqb-true, false_from_ne_true}
use Rattle.phase_modes.specs.declared.reg.Mode.{Mode}
use Rattle.phase_modes.specs.declared.phased.Pair.{Pair}
use Rattle.phase_model.specs.declared.terms.Terms.{Terms}
use Rattle.job_script.specs.declared.act.Answer.TheVariants.{Started, Done, Made as MadeOf}
use Rattle.job_script.specs.declared.act.Act.TheVariants.{End}
use Rattle.job_script.specs.Acts.{flat}
use Rattle.job_script.specs.Program.{Program}
use Rattle.job_script.specs.Steps.{Script, begun, no_meanings, named_as, next_for, given, stepped, given_name}
use Rattle.phase_modes.specs.declared.limits.Limits.{Limits}
use Rattle.finish_core.specs.declared.event.FinishEvent.TheVariants.{Opened}
use Rattle.world_model.specs.declared.event.Begun.TheVariants.{Async, Signal, Wait, Next, NextSingle, Shut, End as Ending}
use Rattle.world_model.specs.declared.event.Step.TheVariants.{Make, Send, Look}
use Rattle.world_model.specs.declared.event.Tried.{Tried}
use Rattle.world_model.specs.declared.event.Tried.TheVariants.{Begun as Beginning, New, Open, Send as Sending, Look as Looking}
use Rattle.world_model.specs.Due.{next_event}
use Rattle.trace_walk.specs.Picks.{event_of}
use Rattle.trace_walk.proofs.NoActs.{next-continues}
use Rattle.world_model.specs.declared.event.WorldEvent.{WorldEvent}
use Rattle.world_model.specs.declared.event.WorldEvent.TheVariants.{Phaser, Finish, Begin, Refuse}
use Rattle.trace_walk.specs.Scripts.{act_of, is_of, parent_by, body_of, acts_left, meanings, next_act}
use Rattle.trace_walk.specs.declared.seats.Seat.{Seat}
use Rattle.schedule_run.specs.inner.Bodies.{Standing, standing, seat_in, seat_at, standing_of, SeatsStand, BodiesStand, IsAskedSeat, IsAskedOf, IsAsked}
use Rattle.trace_walk.proofs.Events.{eq_self}
use Rattle.schedule_run.proofs.Standing.{one_task, is_making, unmoved, quiet, acted, making, naming}

-- ---- places of a list

pub get-set_same : {A : Type 0} (xs : List A) (i : ℕ) (x : A) → i < length xs
    → slice_get (set xs i x) i ≡ Some x
get-set_same [] i x h = absurd (omega (arith, h))
get-set_same (y ∷ ys) zero x h = refl
get-set_same (y ∷ ys) (suc i) x h = get-set_same ys i x (le_of_suc-le-suc h)

pub get-set_other : {A : Type 0} (xs : List A) (i j : ℕ) (x : A) → j ≢ i
    → slice_get (set xs i x) j ≡ slice_get xs j
get-set_other [] i j x h = refl
get-set_other (y ∷ ys) zero zero x h = absurd (h refl)
get-set_other (y ∷ ys) zero (suc j) x h = refl
get-set_other (y ∷ ys) (suc i) zero x h = refl
get-set_other (y ∷ ys) (suc i) (suc j) x h = get-set_other ys i j x (λ e. h (ap suc e))

-- ---- before the first event

unnamed : (seats : List (Option (Seat Script))) (t : ℕ) → standing_of (seat_at (seats ++ None ∷ []) t) ≡ standing_of
    (seat_at seats t)
unnamed [] zero = refl
unnamed [] (suc t) = refl
unnamed (s ∷ seats) zero = refl
unnamed (s ∷ seats) (suc t) = unnamed seats t

pub place_more : (p : Program) (w : List WorldEvent) (seats : List (Option (Seat Script))) → BodiesStand p w seats
    → BodiesStand p w (seats ++ None ∷ [])
place_more p w seats s t = unnamed seats t ∙ s t

not_zero : (t : ℕ) → (suc t == 0) ≡ false
not_zero t = false_from_ne_true (suc t == 0) (λ e. omega (arith, eqb-true (suc t) 0 e))

pub root_stands : (p : Program) (s : Seat Script) → s.body ≡ begun p.main no_meanings → s.heard ≡ Started
    → BodiesStand p [] (Some s ∷ [])
root_stands p s body answer zero = rw (body, answer) refl
root_stands p s body answer (suc t) = rw (not_zero t) refl

-- ---- an act is given

by_standing : (p : Program) (w : List WorldEvent) (t : ℕ) (s : Standing) → s ≡ standing p w t
    → next_for s.meanings (slice_get s.left 0) ≡ next_for (meanings p w t) (next_act p w t)
by_standing p w t s e = ap (λ (x : Standing). next_for x.meanings (slice_get x.left 0)) e

-- by a body
pub given_act : (p : Program) (w : List WorldEvent) (t : ℕ) (s : Seat Script)
    → standing_of (Some s) ≡ standing p w t → given s.heard s.body ≡ next_for (meanings p w t)
    (next_act p w t)
given_act p w t s e = by_standing p w t (standing_of (Some s)) e

-- without one
pub given_end : (p : Program) (w : List WorldEvent) (t : ℕ) → standing_of None ≡ standing p w t
    → End ≡ next_for (meanings p w t) (next_act p w t)
given_end p w t e = by_standing p w t (standing_of None) e

-- a task that took a step is asked
asked_seat : (p : Program) (w : List WorldEvent) (t : ℕ) (s : Seat Script) (after : Seat Script)
    → standing_of (Some s) ≡ standing p w t → after.body ≡ stepped s.heard s.body → after.heard ≡ Done
    → IsAskedSeat p w t (Some after)
asked_seat p w t s after e body answer = (
  ap (λ (b : Script). b.left) body ∙ ap (λ (x : Standing). drop 1 x.left) e,
  ap (λ (b : Script). b.meanings) body ∙ ap (λ (x : Standing). x.meanings) e,
  ap (λ (b : Script). b.naming) body ∙ ap (λ (x : Standing). given_name (slice_get x.left 0)) e,
  answer,
)

asked_none : (p : Program) (w : List WorldEvent) (t : ℕ) → standing_of None ≡ standing p w t
    → IsAskedSeat p w t None
asked_none p w t e = (ap (λ (x : Standing). x.left) (sym e), ap (λ (x : Standing). x.meanings) (sym e))

-- the task's seat goes past the act
pub asked_with : (p : Program) (w : List WorldEvent) (t : ℕ) (at new : ℕ → Option (Seat Script)) (s after : Seat Script)
    → SeatsStand p w at → at t ≡ Some s → new t ≡ Some after → ((u : ℕ) → u ≢ t → new u ≡ at u)
    → after.body ≡ stepped s.heard s.body → after.heard ≡ Done → IsAskedOf p w t new
asked_with p w t at new s after stand was is same body answer = record {
  others = λ u k. ap standing_of (same u k) ∙ stand u;
  own =
      subst (IsAskedSeat p w t) (sym is) (asked_seat p w t s after (ap standing_of (sym was) ∙ stand t) body
      answer);
}

-- a task without a seat
pub asked_without : (p : Program) (w : List WorldEvent) (t : ℕ) (at : ℕ → Option (Seat Script)) → SeatsStand p w at
    → at t ≡ None → IsAskedOf p w t at
asked_without p w t at stand none = record {
  others = λ u k. stand u;
  own = subst (IsAskedSeat p w t) (sym none) (asked_none p w t (ap standing_of (sym none) ∙ stand t));
}

-- ---- the event of an act that was given

each_task : (p : Program) (w : List WorldEvent) (at : ℕ → Option (Seat Script)) (t : ℕ)
    → standing_of (at t) ≡ standing p w t → ((u : ℕ) → u ≢ t → standing_of (at u) ≡ standing p w u)
    → SeatsStand p w at
each_task p w at t own others u = by_case (u == t) refl
  where
    by_case : (b : Bool) → (u == t) ≡ b → standing_of (at u) ≡ standing p w u
    by_case true e = subst (λ (v : ℕ). standing_of (at v) ≡ standing p w v) (sym (eqb-true u t e)) own
    by_case false e =
        others u (λ same. true≢false (sym (subst (λ (v : ℕ). (u == v) ≡ true) same (eq_self u)) ∙ e))

-- an act that makes no phaser and names nobody
own_settled : (p : Program) (w : List WorldEvent) (t : ℕ) (s : Option (Seat Script)) → IsAskedSeat p w t s → ◌≡◌ {A =
    Standing} (standing_of s) (record { left = drop 1 (acts_left p w t); meanings = meanings p w t })
own_settled p w t None a = rw (a.0, a.1) refl
own_settled p w t (Some s) a = rw (a.3, a.0, a.1) refl

pub settled : (p : Program) (w : List WorldEvent) (t : ℕ) (at : ℕ → Option (Seat Script)) (e : WorldEvent)
    → IsAskedOf p w t at → is_of t (act_of e) ≡ true → ((u : ℕ) → parent_by u e ≡ None)
    → is_making e ≡ false → SeatsStand p (e ∷ w) at
settled p w t at e a act alone plain =
    each_task p (e ∷ w) at t
    (own_settled p w t (at t) a.own ∙ sym (acted p w t e act (alone t) plain))
    (λ u k. a.others u k ∙ sym (unmoved p w u e (one_task t u (act_of e) act k) (alone u)))

-- an event that is no act
pub quiet_stands : (p : Program) (w : List WorldEvent) (at : ℕ → Option (Seat Script)) (e : WorldEvent)
    → SeatsStand p w at → act_of e ≡ None → SeatsStand p (e ∷ w) at
quiet_stands p w at e s none u = s u ∙ sym (quiet p w u e none)

-- ---- a phaser that was made

made_seat : (p : Program) (w : List WorldEvent) (t n : ℕ) (s after : Seat Script) → after.body ≡ s.body
    → after.heard ≡ MadeOf n → IsAskedSeat p w t (Some s)
    → ◌≡◌ {A = Standing} (standing_of (Some after)) (record {
      left = drop 1 (acts_left p w t);
      meanings =
          named_as (given_name (next_act p w t)) n (meanings p w t);
    })
made_seat p w t n s after body answer a = rw (answer, body, a.0, a.1, a.2) refl

made_none : (p : Program) (w : List WorldEvent) (t n : ℕ) → IsAskedSeat p w t None
    → ◌≡◌ {A = Standing} (standing_of None) (record {
      left = drop 1 (acts_left p w t);
      meanings =
          named_as (given_name (next_act p w t)) n (meanings p w t);
    })
made_none p w t n a = rw (a.0, a.1) refl

made_after : (p : Program) (w : List WorldEvent) (t n : ℕ) (m : Mode) (terms : Terms)
    (at new : ℕ → Option (Seat Script)) → IsAskedOf p w t at → ((u : ℕ) → u ≢ t → new u ≡ at u)
    → ◌≡◌ {A = Standing} (standing_of (new t)) (record {
      left = drop 1 (acts_left p w t);
      meanings =
          named_as (given_name (next_act p w t)) n (meanings p w t);
    })
    → SeatsStand p (Phaser n (Make t m terms) ∷ w) new
made_after p w t n m terms at new a same own =
    each_task p (Phaser n (Make t m terms) ∷ w) new t
    (own ∙ sym (making p w t n m terms))
    (λ u k. ap standing_of (same u k) ∙ a.others u k
    ∙ sym
    (unmoved p w u (Phaser n (Make t m terms))
    (one_task t u (act_of (Phaser n (Make t m terms))) (eq_self t) k) refl))

-- the task's seat has the answer
pub made_with : (p : Program) (w : List WorldEvent) (t n : ℕ) (m : Mode) (terms : Terms)
    (at new : ℕ → Option (Seat Script)) (s after : Seat Script) → IsAskedOf p w t at → at t ≡ Some s → new t ≡ Some after
    → ((u : ℕ) → u ≢ t → new u ≡ at u) → after.body ≡ s.body → after.heard ≡ MadeOf n
    → SeatsStand p (Phaser n (Make t m terms) ∷ w) new
made_with p w t n m terms at new s after a was is same body answer =
    made_after p w t n m terms at new a same
    (ap standing_of is ∙ made_seat p w t n s after body answer (subst (IsAskedSeat p w t) was a.own))

-- a task without a seat
pub made_without : (p : Program) (w : List WorldEvent) (t n : ℕ) (m : Mode) (terms : Terms)
    (at : ℕ → Option (Seat Script)) → IsAskedOf p w t at → at t ≡ None → SeatsStand p (Phaser n (Make t m terms) ∷ w) at
made_without p w t n m terms at a none =
    made_after p w t n m terms at at a (λ u k. refl)
    (ap standing_of none ∙ made_none p w t n (subst (IsAskedSeat p w t) none a.own))

-- ---- a child that was spawned

not_named : (t c u : ℕ) (pairs : List Pair) → u ≢ c → parent_by u (Begin t (Async c pairs)) ≡ None
not_named t c u pairs k = rw (false_from_ne_true (c == u) (λ e. k (sym (eqb-true c u e)))) refl

pub child_with : (p : Program) (w : List WorldEvent) (t c : ℕ) (pairs : List Pair)
    (at new : ℕ → Option (Seat Script)) (s : Seat Script) → IsAskedOf p w t at → new c ≡ Some s
    → ((u : ℕ) → u ≢ c → new u ≡ at u)
    → s.body ≡ begun (body_of (next_act p w t)) (meanings p w t) → s.heard ≡ Started
    → SeatsStand p (Begin t (Async c pairs) ∷ w) new
child_with p w t c pairs at new s a is same body answer =
    each_task p (Begin t (Async c pairs) ∷ w) new c
    (ap standing_of is ∙ (own ∙ sym (naming p w t c pairs)))
    (λ u k. ap standing_of (same u k) ∙ rest u k)
  where
    own : ◌≡◌ {A =
        Standing} (standing_of (Some s)) (record {
          left = flat (body_of (next_act p w t));
          meanings =
              meanings p w t;
        })
    own = rw (answer, body) refl

    rest : (u : ℕ) → u ≢ c → standing_of (at u) ≡ standing p (Begin t (Async c pairs) ∷ w) u
    rest u k = by_case (u == t) refl
      where
        by_case : (b : Bool) → (u == t) ≡ b → standing_of (at u) ≡ standing p (Begin t (Async c pairs) ∷ w) u
        by_case true e =
            let same : t ≡ u = sym (eqb-true u t e) in
            subst (λ (v : ℕ). standing_of (at v) ≡ standing p (Begin t (Async c pairs) ∷ w) v) same
            (own_settled p w t (at t) a.own
            ∙ sym
            (acted p w t (Begin t (Async c pairs)) (eq_self t)
            (subst (λ (v : ℕ). parent_by v (Begin t (Async c pairs)) ≡ None) (sym same)
            (not_named t c u pairs k)) refl))
        by_case false e =
            let apart : u ≢ t =
            λ same. true≢false (sym (subst (λ (v : ℕ). (u == v) ≡ true) same (eq_self u)) ∙ e) in
            a.others u apart
            ∙ sym
            (unmoved p w u (Begin t (Async c pairs))
            (one_task t u (act_of (Begin t (Async c pairs))) (eq_self t) apart) (not_named t c u pairs k))

-- ---- the other acts

-- an act that was refused
pub refused_stands : (p : Program) (w : List WorldEvent) (t : ℕ) (at : ℕ → Option (Seat Script)) (a : Tried) (n : ℕ)
    → IsAskedOf p w t at → SeatsStand p (Refuse t a n ∷ w) at
refused_stands p w t at a n asked = settled p w t at (Refuse t a n) asked (eq_self t) (λ u. refl) refl

-- it makes no phaser, and spawns nobody
abbrev pub is_plain : Tried → Bool
is_plain (New n m terms) = false
is_plain (Beginning (Async c pairs)) = false
is_plain _ = true

-- such an act that was made
pub plain_stands : (p : Program) (w : List WorldEvent) (t : ℕ) (at : ℕ → Option (Seat Script)) (a : Tried)
    → is_plain a ≡ true → IsAskedOf p w t at → SeatsStand p (event_of t a ∷ w) at
plain_stands p w t at (New n m terms) h asked = absurd cc
plain_stands p w t at (Open f) h asked =
    settled p w t at (Finish f (Opened t)) asked (eq_self t) (λ u. refl) refl
plain_stands p w t at (Sending n a v) h asked =
    settled p w t at (Phaser n (Send t a v)) asked (eq_self t) (λ u. refl) refl
plain_stands p w t at (Looking n a) h asked =
    settled p w t at (Phaser n (Look t a)) asked (eq_self t) (λ u. refl) refl
plain_stands p w t at (Beginning (Async c pairs)) h asked = absurd cc
plain_stands p w t at (Beginning Signal) h asked =
    settled p w t at (Begin t Signal) asked (eq_self t) (λ u. refl) refl
plain_stands p w t at (Beginning Wait) h asked =
    settled p w t at (Begin t Wait) asked (eq_self t) (λ u. refl) refl
plain_stands p w t at (Beginning Next) h asked =
    settled p w t at (Begin t Next) asked (eq_self t) (λ u. refl) refl
plain_stands p w t at (Beginning (NextSingle n)) h asked =
    settled p w t at (Begin t (NextSingle n)) asked (eq_self t) (λ u. refl) refl
plain_stands p w t at (Beginning Shut) h asked =
    settled p w t at (Begin t Shut) asked (eq_self t) (λ u. refl) refl
plain_stands p w t at (Beginning Ending) h asked =
    settled p w t at (Begin t Ending) asked (eq_self t) (λ u. refl) refl

-- an event that continues an act
pub next_stands : (p : Program) (l : Limits) (w : List WorldEvent) (t : ℕ) (at : ℕ → Option (Seat Script))
    (e : WorldEvent) → next_event l t w ≡ Some e → SeatsStand p w at → SeatsStand p (e ∷ w) at
next_stands p l w t at e next s = quiet_stands p w at e s (next-continues l t w e next)

-- ---- seats in a list

seat_set_same : (seats : List (Option (Seat Script))) (i : ℕ) (s : Seat Script) → i < length seats
    → seat_at (set seats i (Some s)) i ≡ Some s
seat_set_same seats i s h = ap seat_in (get-set_same seats i (Some s) h)

seat_set_other : (seats : List (Option (Seat Script))) (i : ℕ) (s : Seat Script) (u : ℕ) → u ≢ i
    → seat_at (set seats i (Some s)) u ≡ seat_at seats u
seat_set_other seats i s u k = ap seat_in (get-set_other seats i u (Some s) k)

pub list_asked : (p : Program) (w : List WorldEvent) (t : ℕ) (seats : List (Option (Seat Script))) (s after : Seat Script)
    → BodiesStand p w seats → t < length seats → seat_at seats t ≡ Some s
    → after.body ≡ stepped s.heard s.body → after.heard ≡ Done
    → IsAsked p w t (set seats t (Some after))
list_asked p w t seats s after stand below was body answer =
    asked_with p w t (seat_at seats) (seat_at (set seats t (Some after))) s after stand was
    (seat_set_same seats t after below) (seat_set_other seats t after) body answer

pub list_made : (p : Program) (w : List WorldEvent) (t n : ℕ) (m : Mode) (terms : Terms)
    (seats : List (Option (Seat Script))) (s after : Seat Script) → IsAsked p w t seats → t < length seats
    → seat_at seats t ≡ Some s → after.body ≡ s.body → after.heard ≡ MadeOf n
    → BodiesStand p (Phaser n (Make t m terms) ∷ w) (set seats t (Some after))
list_made p w t n m terms seats s after a below was body answer =
    made_with p w t n m terms (seat_at seats) (seat_at (set seats t (Some after))) s after a was
    (seat_set_same seats t after below) (seat_set_other seats t after) body answer

pub list_child : (p : Program) (w : List WorldEvent) (t c : ℕ) (pairs : List Pair)
    (seats : List (Option (Seat Script))) (s : Seat Script) → IsAsked p w t seats → c < length seats
    → s.body ≡ begun (body_of (next_act p w t)) (meanings p w t) → s.heard ≡ Started
    → BodiesStand p (Begin t (Async c pairs) ∷ w) (set seats c (Some s))
list_child p w t c pairs seats s a below body answer =
    child_with p w t c pairs (seat_at seats) (seat_at (set seats c (Some s))) s a
    (seat_set_same seats c s below) (seat_set_other seats c s) body answer
