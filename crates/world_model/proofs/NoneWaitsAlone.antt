-- Tasks that go on and aren't able: how they wait,
-- and that a list of them that waits for itself alone is empty.
use Rattle.std.proofs.Common.{◌≡◌, ◌⊎◌, ℕ, Bool, true, false, ◌&&◌, ◌||◌, ◌==◌, not, cond, List, [], ◌∷◌, Option, Some, refl, sym, subst, ap, ◌∙◌, inl, inr}
use Rattle.std.specs.Prelude.{filter, filter_map}
use Rattle.std.specs.List.{list_any, list_all}
use Rattle.std.proofs.lemmas.Bool.{and_parts, and_from, or_cases, or_left, or_right, cases_Bool, eqb-true, eq-eqb, not-true, true≢false, false≢true, false_from_ne_true}
use Rattle.phase_modes.specs.declared.limits.Limits.{Limits}
use Rattle.phase_model.specs.Tasks.{is_live}
use Rattle.phase_model.proofs.LiveTasks.{has, has-filter}
use Rattle.finish_core.specs.declared.event.FinishEvent.TheVariants.{Spawned}
use Rattle.world_model.specs.declared.event.WorldEvent.{WorldEvent}
use Rattle.world_model.specs.declared.event.WorldEvent.TheVariants.{Finish, Begin}
use Rattle.world_model.specs.declared.event.Begun.TheVariants.{Async}
use Rattle.world_model.specs.Parts.{phaser_past}
use Rattle.world_model.specs.Tasks.{spawner, spawns, is_born, is_ended}
use Rattle.world_model.specs.Clock.{clock}
use Rattle.world_model.specs.Replies.{is_legal_world}
use Rattle.world_model.specs.Able.{is_able, born_by, tasks}
use Rattle.world_model.specs.TaskConditions.{last_entry}
use Rattle.world_model.specs.ClockLaws.{leads_to_end}
use Rattle.world_model.proofs.SpawnUnderWay.{begins_spawn}
use Rattle.world_model.proofs.AbruptEnds.{half_spawned}
use Rattle.world_model.proofs.AgentOfTask.{agent}
use Rattle.world_model.proofs.SpawnedAtHome.{spawner_is_born}
use Rattle.world_model.proofs.LeavingAlways.{live_named, agent_is}
use Rattle.world_model.proofs.EndedInside.{ended_holds_nothing}
use Rattle.world_model.proofs.SignalsComeFirst.{moves_act}
use Rattle.world_model.proofs.AbleOrWaits.{WaitsAtPhaser, WaitsToShut}
use Rattle.world_model.proofs.OutcomeOfEach.{outcome}
use Rattle.world_model.proofs.LeastClockGoesOn.{waiter_moves, moves_no_end, group_goes_on, Least, least_of}

-- the listed tasks are those that were born
listed_spawned : (t : ℕ) (w : List WorldEvent) → has t (filter_map born_by w) ≡ list_any (spawns t) w
listed_spawned t [] = refl
listed_spawned t (Finish f (Spawned u) ∷ w) = ap (λ b. (u == t) || b) (listed_spawned t w)
listed_spawned t (e ∷ w) = listed_spawned t w

flip : (a b : ℕ) → (a == b) ≡ true → (b == a) ≡ true
flip a b k = eq-eqb b a (sym (eqb-true a b k))

pub tasks_born : (t : ℕ) (w : List WorldEvent) → has t (tasks w) ≡ true → is_born t w ≡ true
tasks_born t w h =
    elim (or_cases (0 == t) (has t (filter_map born_by w)) h) [
      | inl e ↦ or_left (t == 0) (list_any (spawns t) w) (flip 0 t e)
      | inr e ↦ or_right (t == 0) (list_any (spawns t) w) (sym (listed_spawned t w) ∙ e)
    ]

pub born_tasks : (t : ℕ) (w : List WorldEvent) → is_born t w ≡ true → has t (tasks w) ≡ true
born_tasks t w b =
    elim (or_cases (t == 0) (list_any (spawns t) w) b) [
      | inl e ↦ or_left (0 == t) (has t (filter_map born_by w)) (flip t 0 e)
      | inr e ↦ or_right (0 == t) (has t (filter_map born_by w)) (listed_spawned t w ∙ e)
    ]

-- one that fails
pub fails_at : (p : ℕ → Bool) (xs : List ℕ) → list_all p xs ≡ false
    → (x : ℕ) × (has x xs ≡ true) × (p x ≡ false)
fails_at p [] k = absurd (true≢false k)
fails_at p (x ∷ xs) k =
    elim (cases_Bool (p x)) [
      | inr n ↦ (x, or_left (x == x) (has x xs) (eq-eqb x x refl), n)
      | inl y ↦
          let r = fails_at p xs (subst (λ b. (b && list_all p xs) ≡ false) y k) in
          (r.0, or_right (x == r.0) (has r.0 xs) r.1, r.2)
    ]

-- a turn is no spawn
turn_no_spawn : (c : ℕ) (o : Option WorldEvent) → moves_act o ≡ true → begins_spawn c o ≡ true → ⊥
turn_no_spawn c (Some (Begin u (Async x ps))) s b = false≢true s
turn_no_spawn c o s b = absurd cc

-- one that passes
pub found_in : (p : ℕ → Bool) (xs : List ℕ) → list_any p xs ≡ true
    → (x : ℕ) × (has x xs ≡ true) × (p x ≡ true)
found_in p [] h = absurd (false≢true h)
found_in p (x ∷ xs) h =
    elim (or_cases (p x) (list_any p xs) h) [
      | inl e ↦ (x, or_left (x == x) (has x xs) (eq-eqb x x refl), e)
      | inr e ↦ let r = found_in p xs e in (r.0, or_right (x == r.0) (has r.0 xs) r.1, r.2)
    ]

module _ (w : List WorldEvent) where
  -- those of the tasks that pass a test and go on
  abbrev pub going_on : (ℕ → Bool) → List ℕ
  going_on p = filter (λ s. not (is_ended s w) && p s) (tasks w)

  pub listed : (p : ℕ → Bool) (s : ℕ) → is_born s w ≡ true → is_ended s w ≡ false → p s ≡ true
      → has s (going_on p) ≡ true
  listed p s b g y =
      has-filter (λ x. not (is_ended x w) && p x) s (tasks w) ∙ and_from (not (is_ended s w) && p s)
      (has s (tasks w)) (and_from (not (is_ended s w)) (p s) (ap (λ x. not x) g) y) (born_tasks s w b)

  pub goes : (p : ℕ → Bool) (s : ℕ) → has s (going_on p) ≡ true
      → (is_born s w ≡ true) × (is_ended s w ≡ false) × (p s ≡ true)
  goes p s h =
      let a =
      and_parts (not (is_ended s w) && p s) (has s (tasks w))
      (sym (has-filter (λ x. not (is_ended x w) && p x) s (tasks w)) ∙ h) in
      let b = and_parts (not (is_ended s w)) (p s) a.0 in
      (tasks_born s w a.1, not-true (is_ended s w) b.0, b.1)

module _ (l : Limits) (w : List WorldEvent) (k : is_legal_world l w ≡ true) where
  -- a list of tasks that all wait at phasers, and share their phasers with nobody else, is empty
  pub none_alone : (xs : List ℕ) → ((x : ℕ) → has x xs ≡ true → is_born x w ≡ true)
      → ((x : ℕ) → has x xs ≡ true → WaitsAtPhaser l x w)
      → ((t s : ℕ) → has t xs ≡ true → (p : WaitsAtPhaser l t w) → is_live s (phaser_past p.on w) ≡ true
      → has s xs ≡ true) → (x : ℕ) → has x xs ≡ true → ⊥
  none_alone [] born pass alone x h = false≢true h
  none_alone (y ∷ ys) born pass alone x h =
      let m : Least (λ t. clock t w) (y ∷ ys) = least_of (λ t. clock t w) y ys in
      group_goes_on l w k (λ s. has s (y ∷ ys) ≡ true)
      (λ s g. (born s g, pass s g)) alone m.at m.listed m.least

  -- who acts for a task that holds something goes on
  pub holder : (s n : ℕ) → is_live s (phaser_past n w) ≡ true
      → (is_born (agent s w) w ≡ true) × (is_ended (agent s w) w ≡ false)
  holder s n v = (
    elim (cases_Bool (is_born s w)) [
      | inl b ↦ subst (λ q. is_born q w ≡ true) (sym (ap (λ x. cond x s (spawner s w)) b)) b
      | inr b ↦
          subst (λ q. is_born q w ≡ true) (sym (ap (λ x. cond x s (spawner s w)) b))
          (spawner_is_born l w k s (live_named l w s n k v))
    ],
    false_from_ne_true (is_ended (agent s w) w)
        (λ x. true≢false (sym v ∙ ended_holds_nothing l w k (agent s w) s n x refl)),
  )

  -- and if it waits at a phaser, it is the task itself
  pub holder_is : (s n : ℕ) → is_live s (phaser_past n w) ≡ true → WaitsAtPhaser l (agent s w) w → agent s w ≡ s
  holder_is s n v p =
      let turns = waiter_moves l w k (agent s w) p in
      elim (agent_is s (agent s w) w refl) [
        | inl b ↦ sym b.1
        | inr b ↦
            elim (half_spawned l s w k (live_named l w s n k v) b.0) [
              | inl x ↦
                  absurd (turn_no_spawn s (last_entry (agent s w) w) turns
                  (subst (λ q. begins_spawn s (last_entry q w) ≡ true) b.1 x.0))
              | inr x ↦
                  absurd (true≢false (sym (subst (λ q. leads_to_end (last_entry q w) ≡ true) b.1 x)
                  ∙ moves_no_end (last_entry (agent s w) w) turns))
            ]
      ]

module _ (l : Limits) (w : List WorldEvent) (k : is_legal_world l w ≡ true)
    (no_able : (t : ℕ) → is_born t w ≡ true → is_able l w t ≡ true → ⊥) where
  -- a task that goes on waits
  waits_of : (t : ℕ) → is_born t w ≡ true → is_ended t w ≡ false → WaitsAtPhaser l t w ⊎ WaitsToShut t w
  waits_of t b g = elim (outcome l w k t b g) [ inl a ↦ absurd (no_able t b a) | inr r ↦ r ]

  -- of a list, each at a phaser, or one at a shut
  pub sorted : (xs : List ℕ) → ((x : ℕ) → has x xs ≡ true → (is_born x w ≡ true) × (is_ended x w ≡ false))
      → ((x : ℕ) → has x xs ≡ true → WaitsAtPhaser l x w) ⊎ ((x : ℕ) × (has x xs ≡ true) × WaitsToShut x w)
  sorted [] go = inl (λ x h. absurd (false≢true h))
  sorted (x ∷ xs) go =
      let self = or_left (x == x) (has x xs) (eq-eqb x x refl) in
      let g = go x self in
      elim (waits_of x g.0 g.1) [
        | inr s ↦ inr (x, self, s)
        | inl p ↦
            elim (sorted xs (λ y h. go y (or_right (x == y) (has y xs) h))) [
              | inr r ↦ inr (r.0, or_right (x == r.0) (has r.0 xs) r.1, r.2)
              | inl f ↦
                  inl (λ y h. elim (or_cases (x == y) (has y xs) h) [
                    | inl e ↦ subst (λ v. WaitsAtPhaser l v w) (eqb-true x y e) p
                    | inr e ↦ f y e
                  ])
            ]
      ]
