-- What a spawn is refused by is what the history refuses.
use Rattle.std.proofs.Common.{◌≡◌, ℕ, ◌<◌, ◌≤◌, ◌⊎◌, true, false, nat_lt, List, [], ◌∷◌, length, Result, Ok, Err, IfOk, IfErr, refl, sym, ap, subst, ◌∙◌, inl, inr, arith}
use Rattle.std.proofs.lemmas.Bool.{lt-ltb, le-ltb, true≢false}
use Rattle.std.proofs.lemmas.List.{get_or_past}
use Rattle.phase_modes.specs.declared.refusal.Refusal.{Refusal}
use Rattle.phase_modes.specs.declared.refusal.Refusal.TheVariants.{NotNow, ActsFull, TasksFull, Memory}
use Rattle.finish_core.specs.declared.event.FinishEvent.TheVariants.{Spawned}
use Rattle.world_model.specs.declared.event.WorldEvent.{WorldEvent}
use Rattle.world_model.specs.declared.event.WorldEvent.TheVariants.{Finish, Begin}
use Rattle.world_model.specs.Numbers.{is_named}
use Rattle.world_model.specs.Replies.{reply}
use Rattle.world_model.specs.Scopes.{inner}
use Rattle.world_model.specs.declared.event.Begun.TheVariants.{Async}
use Rattle.world_model.specs.Tasks.{acts}
use Rattle.live_world.specs.declared.at.TaskAt.{TaskAt}
use Rattle.live_world.specs.Live.{TaskLine, FinishLine, LiveState, live_limits, blank_finish, task_at, inner_at, is_there, is_free}
use Rattle.live_world.specs.StandsFor.{TaskStands, StandsFor}
use Rattle.live_world.specs.inner.Steps.{MayAct, SpawnRefused, spawned}
use Rattle.live_world.proofs.Spawns.{spawn_stands, inner_is, inner_in}
use Rattle.live_world.proofs.Others.{goes_of, free_is_idle}
use Rattle.live_world.proofs.Busy.{taken_there, number_there, busy_is_not_idle}

-- the spawn of the next task is refused by what is asked
module _ (w : List WorldEvent) (s : LiveState) (t : TaskAt) (st : StandsFor w s) (there : is_there s t ≡ true) where
  abbrev k : TaskLine
  k = task_at s t.slot

  stands : TaskStands w s t.slot k
  stands = st.tasks t.slot (taken_there s t there)

  abbrev refused : ℕ → Refusal → Type 0
  refused u r = reply live_limits w (Begin u (Async s.next_task [])) ≡ Err r

  spawn_busy : is_free k ≡ false → refused t.number NotNow
  spawn_busy h =
      subst (λ u. refused u NotNow) (number_there s t there)
      (rw (busy_is_not_idle w s t.slot k stands h) refl)

  new : is_named s.next_task w ≡ false
  new = st.unnamed s.next_task (omega arith)

  spawn_acts : is_free k ≡ true → 4611686018427387904 ≤ k.acts → refused t.number ActsFull
  spawn_acts h many =
      let full : nat_lt (acts k.number w) 4611686018427387904 ≡ false =
      le-ltb (acts k.number w) 4611686018427387904 (subst (λ n. 4611686018427387904 ≤ n) stands.about.of.acts many) in
      subst (λ u. refused u ActsFull) (number_there s t there)
      (rw (free_is_idle w k h (goes_of w s t.slot k stands), new, full) refl)

  spawn_full : is_free k ≡ true → k.acts < 4611686018427387904 → 4611686018427387904 ≤ s.next_task → refused t.number TasksFull
  spawn_full h few many =
      let room : nat_lt (acts k.number w) 4611686018427387904 ≡ true =
      lt-ltb (acts k.number w) 4611686018427387904 (subst (λ n. n < 4611686018427387904) stands.about.of.acts few) in
      subst (λ u. refused u TasksFull) (number_there s t there)
      (rw (free_is_idle w k h (goes_of w s t.slot k stands), new, room, le-ltb s.next_task 4611686018427387904 many) refl)

  -- the finish that it is spawned in is there
  home_within : length s.finishes ≤ (inner_at k).slot → ⊥
  home_within past =
      let is = inner_in s k.finishes k.home stands.home stands.opened in
      true≢false (sym is.0 ∙ ap (λ (l : FinishLine). l.taken) (get_or_past s.finishes (inner_at k).slot blank_finish past))

  abbrev IsAnswer : Refusal → Type 0
  IsAnswer x = (x ≡ Memory) ⊎ (reply live_limits w (Begin t.number (Async s.next_task [])) ≡ Err x)

  said : (x y : Refusal) → x ≡ y → refused t.number y → IsAnswer x
  said x y same is = inr (subst (λ z. refused t.number z) (sym same) is)

  pub answer_by : (x : Refusal) → SpawnRefused s t x → IsAnswer x
  answer_by x (inl (inl y)) = absurd (true≢false (sym there ∙ y.1))
  answer_by x (inl (inr (inl y))) = said x NotNow y.0 (spawn_busy y.2)
  answer_by x (inl (inr (inr y))) = said x ActsFull y.0 (spawn_acts y.2 y.3)
  answer_by x (inr (may, inl y)) = inl y
  answer_by x (inr (may, inr (inl y))) = absurd (home_within y.1)
  answer_by x (inr (may, inr (inr y))) = said x TasksFull y.0 (spawn_full may.1 may.2 y.1)

-- the answer of a spawn
module _ (s : LiveState) (t : TaskAt) where
  pub spawn_answers : (r : Result TaskAt Refusal) → IfErr r (λ x. SpawnRefused s t x)
      → (w : List WorldEvent) → StandsFor w s → is_there s t ≡ true
      → IfErr r (λ x. (x ≡ Memory) ⊎ (reply live_limits w (Begin t.number (Async s.next_task [])) ≡ Err x))
  spawn_answers (Ok f) why w st there = why
  spawn_answers (Err x) why w st there = answer_by w s t st there x why

  pub spawn_is : (then : LiveState) (r : Result TaskAt Refusal) → IfOk r (λ c. MayAct s t)
      → IfOk r (λ c. then ≡ spawned s t.slot c.slot) → IfOk r (λ c. c.number ≡ s.next_task)
      → IfOk r (λ c. (task_at s c.slot).taken ≡ false) → IfOk r (λ c. c.slot ≤ length s.tasks)
      → IfOk r (λ c. s.next_task < 4611686018427387904)
      → IfOk r (λ c. (inner_at (task_at s t.slot)).slot < length s.finishes)
      → (w : List WorldEvent) → StandsFor w s
      → IfOk r (λ c. StandsFor (Finish (inner t.number w) (Spawned c.number) ∷ Begin t.number (Async c.number []) ∷ w) then)
  spawn_is then (Err x) may is named vacant within below home w st = may
  spawn_is then (Ok c) may is named vacant within below home w st =
      let u = (task_at s t.slot).number in
      let there = taken_there s t may.0 in
      let stands = spawn_stands w s t.slot c.slot st there may.1 may.2 may.3 vacant within below home in
      let by_inner : StandsFor (Finish (inner u w) (Spawned s.next_task) ∷ Begin u (Async s.next_task []) ∷ w) (spawned s t.slot c.slot) =
      subst (λ f. StandsFor (Finish f (Spawned s.next_task) ∷ Begin u (Async s.next_task []) ∷ w) (spawned s t.slot c.slot))
      (inner_is w s t.slot c.slot st there may.1 may.2 may.3 vacant within below home) stands in
      subst (λ n. StandsFor (Finish (inner t.number w) (Spawned n) ∷ Begin t.number (Async n []) ∷ w) then) (sym named)
      (subst (λ v. StandsFor (Finish (inner v w) (Spawned s.next_task) ∷ Begin v (Async s.next_task []) ∷ w) then) (number_there s t may.0)
      (subst (λ (x : LiveState). StandsFor (Finish (inner u w) (Spawned s.next_task) ∷ Begin u (Async s.next_task []) ∷ w) x) (sym is) by_inner))
