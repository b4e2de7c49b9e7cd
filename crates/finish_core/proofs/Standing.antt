-- The state after each event, and what its fields say of the history.
use Rattle.std.proofs.Common.{◌≡◌, ℕ, ◌+◌, ◌*◌, ◌-◌, ◌<◌, ◌≤◌, ◌==◌, Bool, true, false, List, [], ◌∷◌, length, set, refl, ap, sym, ◌∙◌, inl, inr, arith}
use Rattle.std.specs.List.{list_any, list_all}
use Rattle.std.proofs.lemmas.Bool.{cases_Bool, cases_lt, and_parts, not-true, and_from, eqb-true, eq-eqb, ne_eqb, false≢true, or_left, or_right}
use Rattle.std.proofs.lemmas.List.{length-set}
use Rattle.finish_core.specs.declared.event.FinishEvent.{FinishEvent}
use Rattle.finish_core.specs.declared.event.FinishEvent.TheVariants.{Spawned, Ended}
use Rattle.finish_core.specs.declared.stage.Stage.{Stage}
use Rattle.finish_core.specs.Finish.{shuts, spawned_tasks, is_open, is_spawned, has_ended, all_ended, is_allowed, is_legal_finish}
use Rattle.finish_core.specs.inner.State.{stage_of, frame_events, ones, IsFinishState}
use Rattle.finish_core.proofs.Bits.{AreAmong, ones-le-length, ones-set, ones-le-ones, among_back, bits-set, set_within}
use Rattle.finish_core.proofs.Legal.{spawn_follows, end_follows, ended_was_spawned}

-- an event in an open finish that doesn't shut it leaves the stage
stage_stays : (h : List FinishEvent) (e : FinishEvent) → is_open h ≡ true → shuts e ≡ false
    → stage_of (e ∷ h) ≡ stage_of h
stage_stays [] e is k = absurd cc
stage_stays (d ∷ h) e is k = rw k refl

-- of its frame, an open finish has its opening behind it
open_frame : (h : List FinishEvent) → is_open h ≡ true → frame_events (stage_of h) ≡ 1
open_frame [] is = absurd cc
open_frame (e ∷ h) is = rw (not-true (list_any shuts (e ∷ h)) is) refl

-- numbers that all pass when they stand in a list
list_all-from : (p : ℕ → Bool) (ts : List ℕ) → ((t : ℕ) → list_any (λ u. u == t) ts ≡ true → p t ≡ true)
    → list_all p ts ≡ true
list_all-from p [] each = refl
list_all-from p (t ∷ ts) each =
    and_from (p t) (list_all p ts) (each t (or_left (t == t) (list_any (λ u. u == t) ts) (eq-eqb t t refl)))
    (list_all-from p ts (λ u k. each u (or_right (t == u) (list_any (λ v. v == u) ts) k)))

-- and back
list_all_at : (p : ℕ → Bool) (ts : List ℕ) (t : ℕ) → list_all p ts ≡ true
    → list_any (λ u. u == t) ts ≡ true → p t ≡ true
list_all_at p [] t all has = absurd cc
list_all_at p (u ∷ ts) t all has =
    let parts = and_parts (p u) (list_all p ts) all in
    elim (cases_Bool (u == t)) [
      | inl e ↦ ap p (sym (eqb-true u t e)) ∙ parts.0
      | inr e ↦ list_all_at p ts t parts.1 (rw e at has)
    ]

-- where all have ended, each task that was spawned has
pub all_ended_at : (h : List FinishEvent) (t : ℕ) → all_ended h ≡ true → is_spawned t h ≡ true
    → has_ended t h ≡ true
all_ended_at h t all is = list_all_at (λ u. has_ended u h) (spawned_tasks h) t all is

module _ {tasks : ℕ} {stage : Stage} {a b : List Bool} {n : ℕ} {h : List FinishEvent}
    (s : IsFinishState tasks stage a b n h) where
  same_size : length b ≡ length a
  same_size = s.ended_size ∙ sym s.spawned_size

  -- a task that has ended was spawned, bit by bit
  among : AreAmong b a
  among t is = s.spawned_bits t ∙ ended_was_spawned tasks h s.legal t (sym (s.ended_bits t) ∙ is)

  -- while it is open there is room for one event more
  pub room : is_open h ≡ true → length h < 2 * tasks + 2
  room is =
      let one : frame_events stage ≡ 1 = ap frame_events s.stage_is ∙ open_frame h is in
      omega (arith, s.events_are, one, ones-le-length a, ones-le-length b, s.spawned_size, s.ended_size)

  -- where none is counted, all have ended
  nobody_runs : n ≡ 0 → all_ended h ≡ true
  nobody_runs none =
      let few : ones a ≤ ones b = omega (arith, s.counted, none) in
      list_all-from (λ t. has_ended t h) (spawned_tasks h)
      (λ t is. sym (s.ended_bits t) ∙ among_back b a same_size among few t (s.spawned_bits t ∙ is))

  -- and back
  all_have_ended : all_ended h ≡ true → n ≡ 0
  all_have_ended all =
      let few : ones a ≤ ones b =
      ones-le-ones a b (sym same_size)
      (λ t is. s.ended_bits t ∙ all_ended_at h t all (sym (s.spawned_bits t) ∙ is))
      in
      omega (arith, s.counted, few)

  -- none is counted exactly where all have ended
  pub running_none : (n == 0) ≡ all_ended h
  running_none =
      elim (cases_Bool (all_ended h)) [
        | inl e ↦ eq-eqb n 0 (all_have_ended e) ∙ sym e
        | inr e ↦ ne_eqb n 0 (λ z. false≢true (sym e ∙ nobody_runs z)) ∙ sym e
      ]

  module _ (t : ℕ) (allowed : is_allowed tasks h (Spawned t) ≡ true) where
    pub spawn_within : t < length a
    spawn_within = omega (arith, (spawn_follows tasks h t allowed).fits, s.spawned_size)

    -- the state after a spawn
    pub stands_spawned : IsFinishState tasks stage (set a t true) b (n + 1) (Spawned t ∷ h)
    stands_spawned =
        let f = spawn_follows tasks h t allowed in
        let more = ones-set a t spawn_within (s.spawned_bits t ∙ f.new) in
        record {
          least = s.least;
          most = s.most;
          legal = and_from (is_allowed tasks h (Spawned t)) (is_legal_finish tasks h) allowed s.legal;
          stage_is = s.stage_is ∙ sym (stage_stays h (Spawned t) f.open_now refl);
          spawned_size = simp length-set s.spawned_size;
          spawned_bits = bits-set a (λ u. is_spawned u h) t spawn_within s.spawned_bits;
          ended_size = s.ended_size;
          ended_bits = s.ended_bits;
          counted = omega (arith, s.counted, more);
          events_are = omega (arith, s.events_are, more);
        }

  module _ (t : ℕ) (allowed : is_allowed tasks h (Ended t) ≡ true) where
    pub end_within : t < length b
    end_within =
        omega (arith, set_within a t (s.spawned_bits t ∙ (end_follows tasks h t allowed).spawned), same_size)

    -- before it some task is counted
    pub some_running : 0 < n
    some_running =
        let f = end_follows tasks h t allowed in
        elim (cases_lt 0 n) [
          | inl e ↦ e
          | inr e ↦
              let all = nobody_runs (omega (arith, e)) in
              absurd (false≢true (sym f.running ∙ all_ended_at h t all f.spawned))
        ]

    -- the state after a task's end
    pub stands_ended : IsFinishState tasks stage a (set b t true) (n - 1) (Ended t ∷ h)
    stands_ended =
        let f = end_follows tasks h t allowed in
        let more = ones-set b t end_within (s.ended_bits t ∙ f.running) in
        record {
          least = s.least;
          most = s.most;
          legal = and_from (is_allowed tasks h (Ended t)) (is_legal_finish tasks h) allowed s.legal;
          stage_is = s.stage_is ∙ sym (stage_stays h (Ended t) f.open_now refl);
          spawned_size = s.spawned_size;
          spawned_bits = s.spawned_bits;
          ended_size = simp length-set s.ended_size;
          ended_bits = bits-set b (λ u. has_ended u h) t end_within s.ended_bits;
          counted = omega (arith, s.counted, more, some_running);
          events_are = omega (arith, s.events_are, more);
        }
