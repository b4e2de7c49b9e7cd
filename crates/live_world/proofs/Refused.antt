-- What an opening is refused by is what the history refuses.
use Rattle.std.proofs.Common.{◌≡◌, ℕ, ◌<◌, ◌≤◌, ◌⊎◌, true, false, nat_lt, List, ◌∷◌, length, Result, Ok, Err, IfOk, IfErr, refl, sym, ap, subst, ◌∙◌, inl, inr, arith}
use Rattle.std.proofs.lemmas.Bool.{lt-ltb, le-ltb, true≢false}
use Rattle.phase_modes.specs.declared.refusal.Refusal.{Refusal}
use Rattle.phase_modes.specs.declared.refusal.Refusal.TheVariants.{NotNow, ActsFull, FinishesFull, Memory}
use Rattle.finish_core.specs.declared.event.FinishEvent.TheVariants.{Opened}
use Rattle.world_model.specs.declared.event.WorldEvent.{WorldEvent}
use Rattle.world_model.specs.declared.event.WorldEvent.TheVariants.{Finish}
use Rattle.world_model.specs.Numbers.{is_finish}
use Rattle.world_model.specs.Replies.{reply}
use Rattle.world_model.specs.Tasks.{acts}
use Rattle.live_world.specs.declared.at.FinishAt.{FinishAt}
use Rattle.live_world.specs.declared.at.TaskAt.{TaskAt}
use Rattle.live_world.specs.Live.{TaskLine, LiveState, live_limits, task_at, finish_at, is_there, is_free}
use Rattle.live_world.specs.StandsFor.{TaskStands, StandsFor}
use Rattle.live_world.specs.inner.Steps.{MayAct, OpenRefused, opened}
use Rattle.live_world.proofs.Opens.{open_stands}
use Rattle.live_world.proofs.Others.{goes_of, free_is_idle}
use Rattle.live_world.proofs.Busy.{taken_there, number_there, busy_is_not_idle}

-- the opening of the next finish is refused by what is asked
module _ (w : List WorldEvent) (s : LiveState) (t : TaskAt) (st : StandsFor w s) (there : is_there s t ≡ true) where
  abbrev k : TaskLine
  k = task_at s t.slot

  stands : TaskStands w s t.slot k
  stands = st.tasks t.slot (taken_there s t there)

  abbrev refused : ℕ → Refusal → Type 0
  refused u r = reply live_limits w (Finish s.next_finish (Opened u)) ≡ Err r

  pub open_busy : is_free k ≡ false → refused t.number NotNow
  open_busy h =
      subst (λ u. refused u NotNow) (number_there s t there)
      (rw (busy_is_not_idle w s t.slot k stands h) refl)

  new : is_finish s.next_finish w ≡ false
  new = st.unopened s.next_finish (omega arith)

  pub open_acts : is_free k ≡ true → 4611686018427387904 ≤ k.acts → refused t.number ActsFull
  open_acts h many =
      let full : nat_lt (acts k.number w) 4611686018427387904 ≡ false =
      le-ltb (acts k.number w) 4611686018427387904 (subst (λ n. 4611686018427387904 ≤ n) stands.about.of.acts many) in
      subst (λ u. refused u ActsFull) (number_there s t there)
      (rw (free_is_idle w k h (goes_of w s t.slot k stands), new, full) refl)

  pub open_full : is_free k ≡ true → k.acts < 4611686018427387904 → 4611686018427387904 ≤ s.next_finish → refused t.number FinishesFull
  open_full h few many =
      let room : nat_lt (acts k.number w) 4611686018427387904 ≡ true =
      lt-ltb (acts k.number w) 4611686018427387904 (subst (λ n. n < 4611686018427387904) stands.about.of.acts few) in
      subst (λ u. refused u FinishesFull) (number_there s t there)
      (rw (free_is_idle w k h (goes_of w s t.slot k stands), new, room, le-ltb s.next_finish 4611686018427387904 many) refl)

-- the answer of an opening
module _ (s : LiveState) (t : TaskAt) where
  pub open_gone : (r : Result FinishAt Refusal) → IfOk r (λ f. MayAct s t) → IfErr r (λ x. OpenRefused s t x)
      → is_there s t ≡ false → r ≡ Err NotNow
  open_gone (Ok f) may why gone = absurd (true≢false (sym may.0 ∙ gone))
  open_gone (Err x) may (inl (inl y)) gone = ap (λ z. Err z) y.0
  open_gone (Err x) may (inl (inr (inl y))) gone = ap (λ z. Err z) y.0
  open_gone (Err x) may (inl (inr (inr y))) gone = absurd (true≢false (sym y.1 ∙ gone))
  open_gone (Err x) may (inr y) gone = absurd (true≢false (sym y.0.0 ∙ gone))

  abbrev IsAnswer : List WorldEvent → Refusal → Type 0
  IsAnswer w x = (x ≡ Memory) ⊎ (reply live_limits w (Finish s.next_finish (Opened t.number)) ≡ Err x)

  answer_by : (w : List WorldEvent) → StandsFor w s → is_there s t ≡ true → (x : Refusal) → OpenRefused s t x → IsAnswer w x
  answer_by w st there x (inl (inl y)) = absurd (true≢false (sym there ∙ y.1))
  answer_by w st there x (inl (inr (inl y))) = inr (subst (λ z. reply live_limits w (Finish s.next_finish (Opened t.number)) ≡ Err z) (sym y.0) (open_busy w s t st there y.2))
  answer_by w st there x (inl (inr (inr y))) = inr (subst (λ z. reply live_limits w (Finish s.next_finish (Opened t.number)) ≡ Err z) (sym y.0) (open_acts w s t st there y.2 y.3))
  answer_by w st there x (inr (may, inl y)) = inl y
  answer_by w st there x (inr (may, inr y)) = inr (subst (λ z. reply live_limits w (Finish s.next_finish (Opened t.number)) ≡ Err z) (sym y.0) (open_full w s t st there may.1 may.2 y.1))

  pub open_answers : (r : Result FinishAt Refusal) → IfErr r (λ x. OpenRefused s t x)
      → (w : List WorldEvent) → StandsFor w s → is_there s t ≡ true
      → IfErr r (λ x. (x ≡ Memory) ⊎ (reply live_limits w (Finish s.next_finish (Opened t.number)) ≡ Err x))
  open_answers (Ok f) why w st there = why
  open_answers (Err x) why w st there = answer_by w st there x why

  pub open_is : (then : LiveState) (r : Result FinishAt Refusal) → IfOk r (λ f. MayAct s t)
      → IfOk r (λ f. then ≡ opened s t.slot f.slot) → IfOk r (λ f. f.number ≡ s.next_finish)
      → IfOk r (λ f. (finish_at s f.slot).taken ≡ false) → IfOk r (λ f. f.slot ≤ length s.finishes)
      → IfOk r (λ f. s.next_finish < 4611686018427387904)
      → (w : List WorldEvent) → StandsFor w s → IfOk r (λ f. StandsFor (Finish f.number (Opened t.number) ∷ w) then)
  open_is then (Err x) may is named vacant within below w st = may
  open_is then (Ok f) may is named vacant within below w st =
      let stands = open_stands w s t.slot f.slot st (taken_there s t may.0) may.1 may.2 may.3 vacant within below in
      subst (λ n. StandsFor (Finish n (Opened t.number) ∷ w) then) (sym named)
      (subst (λ u. StandsFor (Finish s.next_finish (Opened u) ∷ w) then) (number_there s t may.0)
      (subst (λ (x : LiveState). StandsFor (Finish s.next_finish (Opened (task_at s t.slot).number) ∷ w) x) (sym is) stands))
