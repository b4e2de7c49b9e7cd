-- One run by picks whose numbers are drawn in order, and whose phasers are roomy, foretells each other one; and each
-- ends, since each round makes an event.
use Rattle.std.proofs.Common.{◌≡◌, ℕ, zero, suc, ◌<◌, ◌≤◌, Bool, true, false, ◌||◌, ◌==◌, not, List, [], ◌∷◌, length, refl, sym, subst, ap, ◌∙◌, arith}
use Rattle.std.specs.Prelude.{if◌then◌else◌}
use Rattle.std.specs.Option.{option_map_or}
use Rattle.std.proofs.lemmas.Bool.{and_from, or_right, eqb-true, true≢false, false_from_ne_true, true_from_ne_false}
use Rattle.phase_modes.specs.Limits.{limits_fit}
use Rattle.phase_modes.specs.declared.limits.Limits.{Limits}
use Rattle.job_script.specs.Program.{Program}
use Rattle.world_model.specs.declared.event.WorldEvent.{WorldEvent}
use Rattle.world_model.specs.declared.event.WorldEvent.TheVariants.{Phaser, Finish, Begin, Refuse, Fail}
use Rattle.world_model.specs.GivingUp.{is_refused_by}
use Rattle.world_model.specs.Replies.{is_legal_world, reply}
use Rattle.world_model.specs.Tasks.{is_ended}
use Rattle.trace_walk.specs.Follows.{follows}
use Rattle.trace_walk.specs.Laws.{AllGiveUp, GivesUp}
use Rattle.trace_walk.specs.Picks.{run_within, picked, rounds, round_from}
use Rattle.trace_walk.proofs.Failures.{runs_give_up}
use Rattle.trace_walk.proofs.Follow.{runs-follow}
use Rattle.trace_walk.proofs.Legal.{runs-legal}
use Rattle.trace_walk.proofs.Rounds.{run_rounds_move}
use Rattle.run_laws.specs.Determinacy.{IsRun}
use Rattle.run_laws.specs.Memory.{has_memory, is_forced, is_next_refused}
use Rattle.trace_walk.specs.Walking.{script_next}
use Rattle.run_laws.specs.Programs.{script_root}
use Rattle.run_laws.specs.Schedules.{IsOrderly, OrderlySchedulesEnd, OrderlySchedulesForetell, RoomyTextsAreOrderly}
use Rattle.run_laws.specs.Telling.{draws_least, in_order}
use Rattle.run_laws.proofs.Drawings.{roots_draw_in_order}
use Rattle.run_laws.proofs.Foretold.{texts_tell_who_draws}
use Rattle.run_laws.proofs.Least.{all_calm}
use Rattle.run_laws.proofs.NextEvents.{IsGoing, going}
use Rattle.run_laws.proofs.NoLonger.{no_longer}
use Rattle.run_laws.proofs.Reports.{runs_come_to_the_same}
use Rattle.run_laws.proofs.Rooms.{calm_unrefused}
use Rattle.run_laws.proofs.Schedules.{picked_draws, rounds_draw}
use Rattle.run_laws.proofs.Scripts.{run_of, followers_go_by_scripts}

-- ---- who gives up in a run by picks is forced to, and never for want of memory

forced_by : (l : Limits) (w : List WorldEvent) (t n : ℕ) → GivesUp l w t n → is_forced l w (Fail t n) ≡ true
forced_by l w t n g =
    and_from (not (n == 23)) (not (n == 14) || is_next_refused l w t n)
    (ap (λ b. not b) (false_from_ne_true (n == 23) (λ e. g.memory (eqb-true n 23 e))))
    (or_right (not (n == 14)) (is_next_refused l w t n)
    (subst (λ o. option_map_or (λ e. is_refused_by n (reply l w e)) o false ≡ true) (sym g.next) g.refused))

pub memory_of : (l : Limits) (w : List WorldEvent) → AllGiveUp l w → has_memory l w ≡ true
memory_of l [] a = refl
memory_of l (e ∷ w) a =
    and_from (is_forced l w e) (has_memory l w) (by_event e (λ t n is. a [] w t n (ap (λ d. d ∷ w) is)))
    (memory_of l w (λ later v t n is. a (e ∷ later) v t n (ap (λ x. e ∷ x) is)))
  where
    by_event : (d : WorldEvent) → ((t n : ℕ) → d ≡ Fail t n → GivesUp l w t n) → is_forced l w d ≡ true
    by_event (Fail t n) k = forced_by l w t n (k t n refl)
    by_event (Refuse t b n) k = refl
    by_event (Phaser n s) k = refl
    by_event (Finish n s) k = refl
    by_event (Begin n s) k = refl

-- ---- a run by picks

least_drawn : (p : Program) (picks : List ℕ) (most : ℕ) → draws_least p.limits (run_within most p picks) ≡ true
least_drawn p picks most = rounds_draw most p (picked p [] picks) (picked_draws p [] picks refl)

module _ (p : Program) (picks : List ℕ) (most : ℕ) (one : IsOrderly p picks most) where
  run_of_one : IsRun script_next (script_root p) in_order p.limits (run_within most p picks)
  run_of_one =
      run_of p in_order (run_within most p picks) (record {
        legal = runs-legal p picks most;
        follows_it = runs-follow p picks most;
        unrefused = one.calm.unrefused;
        ended = one.calm.ended;
        draws = one.order;
      })

  going_one : IsGoing script_next (script_root p) in_order p.limits (run_within most p picks)
  going_one =
      going script_next (script_root p) in_order p.limits (run_within most p picks) run_of_one.whole.smooth one.order

  -- any other one goes on, in order
  going_other : (others : List ℕ) (more : ℕ)
      → IsGoing script_next (script_root p) in_order p.limits (run_within more p others)
  going_other others more =
      let w = run_within more p others in
      let legal : is_legal_world p.limits w ≡ true = runs-legal p others more in
      let follow : follows p w ≡ true = runs-follow p others more in
      all_calm script_next (script_root p) p.limits (run_within most p picks)
      going_one one.calm.ended one.roomy w legal (followers_go_by_scripts p w legal follow) (least_drawn p others more)
      (memory_of p.limits w (runs_give_up p others more))

  -- so it has no more events
  other_no_longer : (others : List ℕ) (more : ℕ)
      → length (run_within more p others) ≤ length (run_within most p picks)
  other_no_longer others more =
      no_longer script_next (script_root p) in_order p.limits (run_within most p picks)
      going_one one.calm.ended (run_within more p others) (going_other others more)

pub orderly_schedules_foretell : OrderlySchedulesForetell
orderly_schedules_foretell p picks others most more one =
    let w = run_within more p others in
    let g = going_other p picks most one others more in
    let none = calm_unrefused w g.calm in (
      none,
      λ ended. runs_come_to_the_same script_next (script_root p) in_order p.limits (run_within most p picks) w
          (run_of_one p picks most one)
          (record {
            whole = record {
              smooth = record { legal = g.legal; goes = g.goes; unrefused = none };
              ended = ended;
            };
            draws = g.draws;
          }),
    )

-- ---- each round makes an event, so there can't be more of them than events

-- a round more, if the root hasn't ended
one_round_more : (j : ℕ) (p : Program) (w : List WorldEvent)
    → rounds (suc j) p w
    ≡ (if is_ended 0 (rounds j p w) then rounds j p w else round_from p.limits.tasks 0 p (rounds j p w))
one_round_more zero p w = refl
one_round_more (suc j) p w =
    by_end (is_ended 0 w) refl (one_round_more j p (round_from p.limits.tasks 0 p w))
  where
    by_end : (b : Bool) → is_ended 0 w ≡ b
        → rounds (suc j) p (round_from p.limits.tasks 0 p w)
        ≡ (if is_ended 0 (rounds j p (round_from p.limits.tasks 0 p w))
        then rounds j p (round_from p.limits.tasks 0 p w)
        else round_from p.limits.tasks 0 p (rounds j p (round_from p.limits.tasks 0 p w)))
        → (if b then w else rounds (suc j) p (round_from p.limits.tasks 0 p w))
        ≡ (if is_ended 0 (if b then w else rounds j p (round_from p.limits.tasks 0 p w))
        then (if b then w else rounds j p (round_from p.limits.tasks 0 p w))
        else round_from p.limits.tasks 0 p (if b then w else rounds j p (round_from p.limits.tasks 0 p w)))
    by_end true e rest = sym (ap (λ (c : Bool). if c then w else round_from p.limits.tasks 0 p w) e)
    by_end false e rest = rest

grows : (p : Program) (others : List ℕ) (j : ℕ) → limits_fit p.limits ≡ true
    → is_ended 0 (run_within j p others) ≡ false
    → length (run_within j p others) < length (run_within (suc j) p others)
grows p others j fit going =
    let more = run_rounds_move p others j fit going in
    let is : run_within (suc j) p others ≡ round_from p.limits.tasks 0 p (run_within j p others) =
    one_round_more j p (picked p [] others)
    ∙ ap (λ c. if c then run_within j p others else round_from p.limits.tasks 0 p (run_within j p others)) going in
    subst (λ (x : List WorldEvent). length (run_within j p others) < length x) (sym is) more

-- who hasn't ended hadn't before
not_yet : (p : Program) (others : List ℕ) (j : ℕ) → is_ended 0 (run_within (suc j) p others) ≡ false
    → is_ended 0 (run_within j p others) ≡ false
not_yet p others j going =
    false_from_ne_true (is_ended 0 (run_within j p others)) (λ ended.
    let is : run_within (suc j) p others ≡ run_within j p others =
    one_round_more j p (picked p [] others)
    ∙ ap (λ c. if c then run_within j p others else round_from p.limits.tasks 0 p (run_within j p others)) ended in
    true≢false (sym ended ∙ (ap (λ (x : List WorldEvent). is_ended 0 x) (sym is) ∙ going)))

as_long : (p : Program) (others : List ℕ) (j : ℕ) → limits_fit p.limits ≡ true
    → is_ended 0 (run_within j p others) ≡ false → j ≤ length (run_within j p others)
as_long p others zero fit going = omega arith
as_long p others (suc j) fit going =
    let before = not_yet p others j going in
    omega (arith, as_long p others j fit before, grows p others j fit before)

pub orderly_schedules_end : OrderlySchedulesEnd
orderly_schedules_end p picks others most more fit one enough =
    true_from_ne_false (is_ended 0 (run_within more p others)) (λ going.
    absurd (omega (
      arith,
      enough,
      as_long p others more fit going,
      grows p others more fit going,
      other_no_longer p picks most one others (suc more),
    )))

pub roomy_texts_are_orderly : RoomyTextsAreOrderly
roomy_texts_are_orderly p picks most alone c roomy =
    let v = run_within most p picks in
    let legal : is_legal_world p.limits v ≡ true = runs-legal p picks most in
    record {
      calm = c;
      order = roots_draw_in_order p.limits v legal c.unrefused
          (texts_tell_who_draws p v alone legal (runs-follow p picks most) c.unrefused) (least_drawn p picks most);
      roomy = roomy;
    }
