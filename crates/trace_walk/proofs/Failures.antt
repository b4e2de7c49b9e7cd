-- A run's tasks give up only by the number of the refusal that they meet.
use Rattle.std.proofs.Common.{ℕ, zero, suc, ◌+◌, ◌≡◌, Bool, true, false, ◌&&◌, ◌||◌, ◌==◌, not, List, [], ◌∷◌, ◌++◌, Option, Some, None, Result, Ok, Err, refl, sym, subst, ◌∙◌, if◌then◌else◌}
use Rattle.std.specs.Prelude.{option_map, slice_get}
use Rattle.std.specs.Option.{option_map_or}
use Rattle.std.proofs.lemmas.Bool.{and_parts, and_from, false≢true, not-true}
use Rattle.phase_modes.specs.Lists.{is_empty}
use Rattle.phase_modes.specs.declared.limits.Limits.{Limits}
use Rattle.phase_modes.specs.declared.refusal.Refusal.{Refusal}
use Rattle.phase_modes.specs.Refusal.{number_of}
use Rattle.job_script.specs.Program.{Program}
use Rattle.world_model.specs.declared.event.Tried.{Tried}
use Rattle.world_model.specs.declared.event.Tried.TheVariants.{Begun as Beginning, New, Open, Send as Sending, Look as Looking}
use Rattle.world_model.specs.declared.event.WorldEvent.{WorldEvent}
use Rattle.world_model.specs.declared.event.WorldEvent.TheVariants.{Phaser, Finish, Begin, Refuse, Fail}
use Rattle.world_model.specs.declared.reply.Reply.{Reply}
use Rattle.world_model.specs.Continuing.{next_done}
use Rattle.world_model.specs.Due.{is_idle, due, next_event, or_single}
use Rattle.world_model.specs.GivingUp.{is_refused_by, is_reg, may_fail}
use Rattle.world_model.specs.Numbers.{is_named}
use Rattle.world_model.specs.ProgressLaws.{is_expected}
use Rattle.world_model.specs.Replies.{is_made, is_legal_world, reply}
use Rattle.world_model.specs.Tasks.{is_born, is_ended}
use Rattle.world_model.proofs.AbleComputed.{made_done_where}
use Rattle.world_model.proofs.MadeMeans.{last_accepted}
use Rattle.world_model.proofs.NextsExpected.{nexts_are_expected}
use Rattle.world_model.proofs.SmallWords.{eq_self}
use Rattle.trace_walk.specs.Laws.{GivesUp, RunsGiveUp}
use Rattle.trace_walk.specs.Picks.{Asked, unused, event_of, going_on, asked, reported_or, made, pick, picked, round_from, rounds}
use Rattle.trace_walk.specs.Scripts.{tried}
use Rattle.trace_walk.proofs.Legal.{pick-legal}

-- the event isn't a failure, or its number is that of the refusal of what continues the act
abbrev is_reported_failure : Limits → List WorldEvent → WorldEvent → Bool
is_reported_failure l w (Fail t n) = option_map_or (λ e. is_refused_by n (reply l w e)) (next_event l t w) false
is_reported_failure l w e = true

abbrev failures_are_reported : Limits → List WorldEvent → Bool
failures_are_reported l [] = true
failures_are_reported l (e ∷ w) = is_reported_failure l w e && failures_are_reported l w

-- ---- a pick

by_reply : (l : Limits) (w : List WorldEvent) (e : WorldEvent) (b : Bool) → is_reported_failure l w e ≡ true → failures_are_reported l w ≡ true → failures_are_reported l (if b then e ∷ w else w) ≡ true
by_reply l w e true is h = and_from (is_reported_failure l w e) (failures_are_reported l w) is h
by_reply l w e false is h = h

abbrev AskedIsReported : Limits → List WorldEvent → Asked → Type 0
AskedIsReported l w a =
    (is_reported_failure l w a.event ≡ true) × ((r : Refusal) → reply l w a.event ≡ Err r → is_reported_failure l w (a.reporting (number_of r)) ≡ true)

known : (l : Limits) (w : List WorldEvent) (a : Asked) (r : Result Reply Refusal) → reply l w a.event ≡ r → AskedIsReported l w a → failures_are_reported l w ≡ true → failures_are_reported l (reported_or l w a r) ≡ true
known l w a (Err r) is k h = by_reply l w (a.reporting (number_of r)) (is_made (reply l w (a.reporting (number_of r)))) (k.1 r is) h
known l w a (Ok x) is k h = by_reply l w a.event (is_made (Ok x)) k.0 h

abbrev AllReported : Limits → List WorldEvent → Option Asked → Type 0
AllReported l w o = (a : Asked) → o ≡ Some a → AskedIsReported l w a

made_reported : (l : Limits) (w : List WorldEvent) (o : Option Asked) → AllReported l w o → failures_are_reported l w ≡ true → failures_are_reported l (made l w o) ≡ true
made_reported l w None k h = h
made_reported l w (Some a) k h = known l w a (reply l w a.event) refl (k a refl) h

act_reported : (l : Limits) (w : List WorldEvent) (t : ℕ) (a : Tried) → is_reported_failure l w (event_of t a) ≡ true
act_reported l w t (New n m terms) = refl
act_reported l w t (Open f) = refl
act_reported l w t (Sending n a v) = refl
act_reported l w t (Looking n a) = refl
act_reported l w t (Beginning b) = refl

-- what continues an act is no failure
no_failure : (l : Limits) (w : List WorldEvent) (e : WorldEvent) → is_expected (next_done l w e) ≡ true → is_reported_failure l w e ≡ true
no_failure l w (Phaser n s) h = refl
no_failure l w (Finish f e) h = refl
no_failure l w (Begin t b) h = refl
no_failure l w (Refuse t a n) h = refl
no_failure l w (Fail t n) h = absurd (false≢true h)

continuing : (l : Limits) (w : List WorldEvent) (t : ℕ) (o : Option WorldEvent) → is_legal_world l w ≡ true → is_ended t w ≡ false → next_event l t w ≡ o → AllReported l w (going_on t o)
continuing l w t None k going is = λ a h. absurd cc
continuing l w t (Some e) k going is = λ a h.
    subst (λ (x : Asked). AskedIsReported l w x) (got _ a h) (
      no_failure l w e (nexts_are_expected l w k t e going is).1,
      λ r refused. rw (is, refused) (eq_self (number_of r)),
    )
  where
    got : (x y : Asked) → Some x ≡ Some y → x ≡ y
    got x y h = cc

pick_reported : (p : Program) (w : List WorldEvent) (t : ℕ) → is_legal_world p.limits w ≡ true → failures_are_reported p.limits w ≡ true → failures_are_reported p.limits (pick p w t) ≡ true
pick_reported p w t k h = made_reported p.limits w (asked p w t) (by (is_idle t w) (is_born t w && not (is_ended t w)) refl) h
  where
    got : (x y : Asked) → Some x ≡ Some y → x ≡ y
    got x y h = cc

    by : (b c : Bool) → (is_born t w && not (is_ended t w)) ≡ c → AllReported p.limits w (if b then Some (record { event = event_of t (tried p w t (unused p.limits w)); reporting = λ n. Refuse t (tried p w t (unused p.limits w)) n }) else (if c then going_on t (next_event p.limits t w) else None))
    by true c is = λ a same.
        subst (λ (x : Asked). AskedIsReported p.limits w x) (got _ a same)
        (act_reported p.limits w t (tried p w t (unused p.limits w)), λ r refused. refl)
    by false true is = continuing p.limits w t (next_event p.limits t w) k (not-true (is_ended t w) (and_parts (is_born t w) (not (is_ended t w)) is).1) refl
    by false false is = λ a same. absurd cc

-- ---- a run

abbrev Stands : Program → List WorldEvent → Type 0
Stands p w = (is_legal_world p.limits w ≡ true) × (failures_are_reported p.limits w ≡ true)

one : (p : Program) (w : List WorldEvent) (t : ℕ) → Stands p w → Stands p (pick p w t)
one p w t s = (pick-legal p w t s.0, pick_reported p w t s.0 s.1)

all : (p : Program) (w : List WorldEvent) (ts : List ℕ) → Stands p w → Stands p (picked p w ts)
all p w [] s = s
all p w (t ∷ ts) s = all p (pick p w t) ts (one p w t s)

either : (b : Bool) (p : Program) (v w : List WorldEvent) → Stands p v → Stands p w → Stands p (if b then v else w)
either true p v w g h = g
either false p v w g h = h

a_round : (left t : ℕ) (p : Program) (w : List WorldEvent) → Stands p w → Stands p (round_from left t p w)
a_round zero t p w s = s
a_round (suc left) t p w s = either (is_named t w) p (round_from left (t + 1) p (pick p w t)) w (a_round left (t + 1) p (pick p w t) (one p w t s)) s

more_rounds : (most : ℕ) (p : Program) (w : List WorldEvent) → Stands p w → Stands p (rounds most p w)
more_rounds zero p w s = s
more_rounds (suc more) p w s = either (is_ended 0 w) p w (rounds more p (round_from p.limits.tasks 0 p w)) s (more_rounds more p (round_from p.limits.tasks 0 p w) (a_round p.limits.tasks 0 p w s))

-- ---- a failure in a history

idle_has_none : (l : Limits) (t : ℕ) (w : List WorldEvent) → is_idle t w ≡ true → next_event l t w ≡ None
idle_has_none l t w h = by (due t w) (and_parts (is_born t w && not (is_ended t w)) (is_empty (due t w)) h).1
  where
    by : (ds : List WorldEvent) → is_empty ds ≡ true → option_map (or_single l w) (slice_get ds 0) ≡ None
    by [] e = refl
    by (d ∷ ds) e = absurd (false≢true e)

found : (l : Limits) (w : List WorldEvent) (t n : ℕ) → may_fail l w t n ≡ true → (o : Option WorldEvent) → next_event l t w ≡ o → option_map_or (λ e. is_refused_by n (reply l w e)) o false ≡ true → GivesUp l w t n
found l w t n may None is h = absurd (false≢true h)
found l w t n may (Some e) is h = record {
  event = e;
  next = is;
  refused = h;
  memory = λ same. some_none (sym is ∙ idle_has_none l t w (subst (λ x. (x == 23 && is_idle t w) ≡ true → is_idle t w ≡ true) (sym same) (λ b. (and_parts (23 == 23) (is_idle t w) b).1) (by_memory n same may)));
  registration = λ same. subst (λ o. option_map_or is_reg o false ≡ true) is (by_regs n same may);
}
  where
    some_none : Some e ≡ None → ⊥
    some_none h = absurd cc

    by_memory : (n : ℕ) → n ≡ 23 → may_fail l w t n ≡ true → (n == 23 && is_idle t w) ≡ true
    by_memory n same m = subst (λ x. may_fail l w t x ≡ true → (x == 23 && is_idle t w) ≡ true) (sym same) (λ y. y) m

    by_regs : (n : ℕ) → n ≡ 14 → may_fail l w t n ≡ true → option_map_or is_reg (next_event l t w) false ≡ true
    by_regs n same m = subst (λ x. may_fail l w t x ≡ true → option_map_or is_reg (next_event l t w) false ≡ true) (sym same) (λ y. or_none (option_map_or is_reg (next_event l t w) false) y) m
      where
        or_none : (b : Bool) → (b || false) ≡ true → b ≡ true
        or_none true h = refl
        or_none false h = h

in_history : (l : Limits) (later w : List WorldEvent) (t n : ℕ) → is_legal_world l (later ++ Fail t n ∷ w) ≡ true → failures_are_reported l (later ++ Fail t n ∷ w) ≡ true → GivesUp l w t n
in_history l [] w t n k h =
    found l w t n (made_done_where (may_fail l w t n) (last_accepted l (Fail t n) w k).0) (next_event l t w) refl (and_parts (is_reported_failure l w (Fail t n)) (failures_are_reported l w) h).0
in_history l (e ∷ later) w t n k h =
    in_history l later w t n (last_accepted l e (later ++ Fail t n ∷ w) k).1 (and_parts (is_reported_failure l (later ++ Fail t n ∷ w) e) (failures_are_reported l (later ++ Fail t n ∷ w)) h).1

pub runs_give_up : RunsGiveUp
runs_give_up p picks most later w t n is =
    let s = more_rounds most p (picked p [] picks) (all p [] picks (refl, refl)) in
    in_history p.limits later w t n (subst (λ v. is_legal_world p.limits v ≡ true) is s.0) (subst (λ v. failures_are_reported p.limits v ≡ true) is s.1)
