-- What an end is refused by is what the history refuses.
use Rattle.std.proofs.Common.{◌≡◌, ◌==◌, false, true, ℕ, ◌≤◌, List, [], ◌∷◌, length, Result, Ok, Err, IfErr, refl, sym, ap, subst, ◌∙◌, inl, inr, map, OnOk}
use Rattle.std.proofs.lemmas.Bool.{true≢false}
use Rattle.std.proofs.lemmas.List.{get_or_past}
use Rattle.phase_modes.specs.declared.refusal.Refusal.{Refusal}
use Rattle.phase_modes.specs.declared.refusal.Refusal.TheVariants.{NotNow, FinishOpen}
use Rattle.finish_core.specs.declared.event.FinishEvent.TheVariants.{Ended}
use Rattle.world_model.specs.declared.event.WorldEvent.{WorldEvent}
use Rattle.world_model.specs.declared.event.WorldEvent.TheVariants.{Finish, Begin}
use Rattle.world_model.specs.Replies.{reply}
use Rattle.world_model.specs.Scopes.{open_finishes}
use Rattle.world_model.specs.Tasks.{home}
use Rattle.phase_modes.specs.Lists.{is_empty}
use Rattle.live_world.specs.declared.at.FinishAt.{FinishAt}
use Rattle.world_model.specs.declared.event.Begun.TheVariants.{End}
use Rattle.live_world.specs.declared.at.TaskAt.{TaskAt}
use Rattle.live_world.specs.Live.{TaskLine, FinishLine, LiveState, live_limits, blank_finish, task_at, is_there, is_free}
use Rattle.live_world.specs.StandsFor.{TaskStands, StandsFor}
use Rattle.live_world.specs.inner.Steps.{MayEnd, EndRefused, left}
use Rattle.live_world.proofs.Ends.{end_stands, home_is}
use Rattle.live_world.proofs.Others.{goes_of, free_is_idle}
use Rattle.live_world.proofs.Busy.{taken_there, number_there, busy_is_not_idle}

-- what the task has open, by the history
open_by : (fs : List FinishAt) → is_empty fs ≡ false → is_empty (map (λ (f : FinishAt). f.number) fs) ≡ false
open_by [] h = absurd (true≢false h)
open_by (f ∷ fs) h = refl

-- the end of a task is refused by what is asked
module _ (w : List WorldEvent) (s : LiveState) (t : TaskAt) (st : StandsFor w s) (there : is_there s t ≡ true)
    (not_root : (t.number == 0) ≡ false) where
  abbrev k : TaskLine
  k = task_at s t.slot

  stands : TaskStands w s t.slot k
  stands = st.tasks t.slot (taken_there s t there)

  abbrev refused : ℕ → Refusal → Type 0
  refused u r = reply live_limits w (Begin u End) ≡ Err r

  end_busy : is_free k ≡ false → refused t.number NotNow
  end_busy h =
      subst (λ u. refused u NotNow) (number_there s t there)
      (rw (busy_is_not_idle w s t.slot k stands h) refl)

  end_open : is_free k ≡ true → is_empty k.finishes ≡ false → refused t.number FinishOpen
  end_open h some =
      let open_now : is_empty (open_finishes k.number w) ≡ false =
      ap (λ fs. is_empty fs) (sym stands.about.of.finishes) ∙ open_by k.finishes some in
      subst (λ u. refused u FinishOpen) (number_there s t there)
      (rw (free_is_idle w k h (goes_of w s t.slot k stands), open_now) refl)

  home_within : length s.finishes ≤ k.home.slot → ⊥
  home_within past =
      true≢false (sym stands.home.0 ∙ ap (λ (l : FinishLine). l.taken) (get_or_past s.finishes k.home.slot blank_finish past))

  pub answer_by : (x : Refusal) → EndRefused s t x → reply live_limits w (Begin t.number End) ≡ Err x
  answer_by x (inl y) = absurd (true≢false (sym there ∙ y.1))
  answer_by x (inr (inl y)) = absurd (true≢false (sym y.1 ∙ not_root))
  answer_by x (inr (inr (inl y))) = subst (λ z. refused t.number z) (sym y.0) (end_busy y.2)
  answer_by x (inr (inr (inr (inl y)))) = subst (λ z. refused t.number z) (sym y.0) (end_open y.2 y.3)
  answer_by x (inr (inr (inr (inr y)))) = absurd (home_within y.1)

-- the answer of an end
module _ (s : LiveState) (t : TaskAt) where
  pub end_answers : (r : Result (Unit {0}) Refusal) → IfErr r (λ x. EndRefused s t x)
      → (w : List WorldEvent) → StandsFor w s → is_there s t ≡ true → (t.number == 0) ≡ false
      → IfErr r (λ x. reply live_limits w (Begin t.number End) ≡ Err x)
  end_answers (Ok u) why w st there not_root = why
  end_answers (Err x) why w st there not_root = answer_by w s t st there not_root x why

  pub end_is : (then : LiveState) (r : Result (Unit {0}) Refusal) → OnOk r (MayEnd s t) → OnOk r (then ≡ left s t.slot)
      → (w : List WorldEvent) → StandsFor w s
      → OnOk r (StandsFor (Finish (home t.number w) (Ended t.number) ∷ Begin t.number End ∷ w) then)
  end_is then (Err x) may is w st = may
  end_is then (Ok u) may is w st =
      let v = (task_at s t.slot).number in
      let there = taken_there s t may.0 in
      let same = number_there s t may.0 in
      let not_root : (v == 0) ≡ false = ap (λ n. n == 0) same ∙ may.3 in
      let stands = end_stands w s t.slot st there may.1 may.2 not_root may.4 may.5 in
      let by_home : StandsFor (Finish (home v w) (Ended v) ∷ Begin v End ∷ w) (left s t.slot) =
      subst (λ f. StandsFor (Finish f (Ended v) ∷ Begin v End ∷ w) (left s t.slot))
      (home_is w s t.slot st there may.1 may.2 not_root may.4 may.5) stands in
      subst (λ n. StandsFor (Finish (home n w) (Ended n) ∷ Begin n End ∷ w) then) same
      (subst (λ (x : LiveState). StandsFor (Finish (home v w) (Ended v) ∷ Begin v End ∷ w) x) (sym is) by_home)
