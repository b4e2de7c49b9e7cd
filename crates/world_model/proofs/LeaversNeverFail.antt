-- A task that shuts a finish or comes to its end gives nothing up: what it has still to make is made, or has to wait.
use Rattle.std.proofs.Common.{◌≡◌, ℕ, Bool, true, false, ◌&&◌, ◌||◌, ◌==◌, not, List, [], ◌∷◌, Some, refl, sym, subst, ap, ◌∙◌, inl, inr}
use Rattle.std.specs.Prelude.{Result, Ok, Err, slice_get, option_map}
use Rattle.std.specs.List.{list_all}
use Rattle.std.specs.Option.{option_map_or}
use Rattle.std.proofs.lemmas.Bool.{and_parts, or_cases, cases_Bool, eqb-true, true≢false, false≢true, false_from_ne_true}
use Rattle.phase_modes.specs.Lists.{is_empty}
use Rattle.phase_modes.specs.declared.limits.Limits.{Limits}
use Rattle.phase_modes.specs.declared.refusal.Refusal.{Refusal}
use Rattle.phase_modes.specs.declared.refusal.Refusal.TheVariants.{NotNow, TasksFull}
use Rattle.phase_modes.specs.Refusal.{first_refusal}
use Rattle.finish_core.specs.declared.event.FinishEvent.{FinishEvent}
use Rattle.finish_core.specs.declared.event.FinishEvent.TheVariants.{Opened, Spawned, Ended, Shut as Shutting}
use Rattle.finish_core.specs.Finish.{all_ended, is_open, is_spawned, has_ended}
use Rattle.finish_core.specs.Replies.{done_unless}
use Rattle.world_model.specs.declared.reply.Reply.{Reply}
use Rattle.world_model.specs.declared.event.Step.TheVariants.{Drop}
use Rattle.world_model.specs.declared.event.WorldEvent.{WorldEvent}
use Rattle.world_model.specs.declared.event.WorldEvent.TheVariants.{Phaser, Finish}
use Rattle.world_model.specs.Parts.{finish_past}
use Rattle.world_model.specs.Tasks.{is_born, is_ended}
use Rattle.world_model.specs.Due.{due, or_single, is_idle, next_event}
use Rattle.world_model.specs.PartReplies.{finish_returned, finish_reply}
use Rattle.world_model.specs.Replies.{is_legal_world, is_made}
use Rattle.world_model.specs.GivingUp.{may_fail, is_refused_by, is_reg}
use Rattle.world_model.specs.Continuing.{next_done}
use Rattle.world_model.specs.TaskConditions.{last_entry}
use Rattle.world_model.proofs.AbruptEnds.{nothing_due}
use Rattle.world_model.proofs.EndingStays.{entry_is_born}
use Rattle.world_model.proofs.LeavesAtEnds.{is_leave, leaves_act, ended_is_over}
use Rattle.world_model.proofs.DropsStandAlways.{leaves_only}
use Rattle.world_model.proofs.OutcomeOfEach.{drop_made}

-- a finish refuses because of the moment or of a task's number alone
unless_few : (n : ℕ) (a b c : Bool) → (n == 7 || n == 15) ≡ true → is_refused_by n (finish_returned (done_unless (first_refusal ((NotNow, a) ∷ (NotNow, b) ∷ (TasksFull, c) ∷ [])))) ≡ false
unless_few n a b c k =
    elim (or_cases (n == 7) (n == 15) k) [
      | inl e ↦ subst (λ i. is_refused_by i (finish_returned (done_unless (first_refusal ((NotNow, a) ∷ (NotNow, b) ∷ (TasksFull, c) ∷ [])))) ≡ false) (sym (eqb-true n 7 e)) (at_7 a b c)
      | inr e ↦ subst (λ i. is_refused_by i (finish_returned (done_unless (first_refusal ((NotNow, a) ∷ (NotNow, b) ∷ (TasksFull, c) ∷ [])))) ≡ false) (sym (eqb-true n 15 e)) (at_15 a b c)
    ]
  where
    at_7 : (a b c : Bool) → is_refused_by 7 (finish_returned (done_unless (first_refusal ((NotNow, a) ∷ (NotNow, b) ∷ (TasksFull, c) ∷ [])))) ≡ false
    at_7 true true true = refl
    at_7 true true false = refl
    at_7 true false c = refl
    at_7 false b c = refl

    at_15 : (a b c : Bool) → is_refused_by 15 (finish_returned (done_unless (first_refusal ((NotNow, a) ∷ (NotNow, b) ∷ (TasksFull, c) ∷ [])))) ≡ false
    at_15 true true true = refl
    at_15 true true false = refl
    at_15 true false c = refl
    at_15 false b c = refl

unless_early : (n : ℕ) (a b c : Bool) → (n == 7 || n == 15) ≡ true → is_refused_by n (finish_returned (done_unless (first_refusal ((NotNow, a) ∷ (NotNow, b) ∷ (NotNow, c) ∷ [])))) ≡ false
unless_early n a b true k = unless_few n a b true k
unless_early n a true false k = unless_few n a false true k
unless_early n a false false k = unless_few n a false true k

unless_once : (n : ℕ) (a : Bool) → (n == 7 || n == 15) ≡ true → is_refused_by n (finish_returned (done_unless (first_refusal ((NotNow, a) ∷ [])))) ≡ false
unless_once n a k = unless_few n a true true k

-- so what a finish replies is never a reason to give up
pub finish_never_fails : (l : Limits) (w : List WorldEvent) (f : ℕ) (e : FinishEvent) (n : ℕ) → (n == 7 || n == 15) ≡ true → is_refused_by n (finish_reply l w f e) ≡ false
finish_never_fails l w f (Opened t) n k = unless_once n _ k
finish_never_fails l w f (Spawned t) n k = unless_few n (is_open (finish_past f w)) (not (is_spawned t (finish_past f w))) _ k
finish_never_fails l w f (Ended t) n k = unless_early n (is_open (finish_past f w)) (is_spawned t (finish_past f w)) (not (has_ended t (finish_past f w))) k
finish_never_fails l w f Shutting n k =
    elim (cases_Bool (all_ended (finish_past f w))) [
      | inl e ↦ rw e (subst (λ b. is_refused_by n (finish_returned (done_unless (first_refusal ((NotNow, is_open (finish_past f w) && b) ∷ [])))) ≡ false) e (unless_once n (is_open (finish_past f w) && all_ended (finish_past f w)) k))
      | inr e ↦ rw e refl
    ]

made_is_none : (n : ℕ) (r : Result Reply Refusal) → is_made r ≡ true → is_refused_by n r ≡ false
made_is_none n (Ok x) k = refl
made_is_none n (Err r) k = absurd (false≢true k)

module _ (l : Limits) (w : List WorldEvent) (k : is_legal_world l w ≡ true) (t n : ℕ) (s : leaves_act (last_entry t w) ≡ true) where
  -- the first event that is due is refused by neither number
  not_refused : (d : WorldEvent) (ds : List WorldEvent) → due t w ≡ d ∷ ds → is_leave d ≡ true → (n == 7 || n == 15) ≡ true → is_refused_by n (next_done l w (or_single l w d)) ≡ false
  not_refused (Phaser m (Drop u)) ds here y i =
      let born : is_born t w ≡ true = entry_is_born l t leaves_act w k refl s in
      let going : is_ended t w ≡ false = false_from_ne_true (is_ended t w) (λ x. full d_is (sym here ∙ (ended_is_over l w k t x).1)) in
      made_is_none n (next_done l w (Phaser m (Drop u))) (drop_made l w k t born going u m ds s here).1
    where
      d_is : WorldEvent
      d_is = Phaser m (Drop u)

      full : (e : WorldEvent) → e ∷ ds ≡ [] → ⊥
      full e h = absurd cc
  not_refused (Finish f e) ds here y i = finish_never_fails l w f e n i
  not_refused d ds here y i = absurd (false≢true y)

  not_reg : (d : WorldEvent) → is_leave d ≡ true → is_reg (or_single l w d) ≡ false
  not_reg (Phaser m (Drop u)) y = refl
  not_reg (Finish f e) y = refl
  not_reg d y = absurd (false≢true y)

  never_by : (ds : List WorldEvent) → due t w ≡ ds → is_empty ds ≡ false → list_all is_leave ds ≡ true → may_fail l w t n ≡ true → ⊥
  never_by [] here some all m = absurd (true≢false some)
  never_by (d ∷ ds) here some all m =
      let leave : is_leave d ≡ true = (and_parts (is_leave d) (list_all is_leave ds) all).0 in
      let next : next_event l t w ≡ Some (or_single l w d) = ap (λ xs. option_map (or_single l w) (slice_get xs 0)) here in
      let refused = option_map_or (λ e. is_refused_by n (next_done l w e)) (next_event l t w) false in
      let by_refusal = (n == 7 || n == 15) && refused in
      let by_reg = n == 14 && option_map_or is_reg (next_event l t w) false in
      elim (or_cases (by_refusal || by_reg) (n == 23 && is_idle t w) m) [
        | inl x ↦
            elim (or_cases by_refusal by_reg x) [
              | inl y ↦
                  let p = and_parts (n == 7 || n == 15) refused y in
                  true≢false (sym (subst (λ o. option_map_or (λ e. is_refused_by n (next_done l w e)) o false ≡ true) next p.1) ∙ not_refused d ds here leave p.0)
              | inr y ↦
                  let p = and_parts (n == 14) (option_map_or is_reg (next_event l t w) false) y in
                  true≢false (sym (subst (λ o. option_map_or is_reg o false ≡ true) next p.1) ∙ not_reg d leave)
            ]
        | inr x ↦
            let idle = (and_parts (n == 23) (is_idle t w) x).1 in
            true≢false (sym (nothing_due t w idle).0 ∙ ap (λ xs. is_empty xs) here)
      ]

-- a task that has still to leave something never gives it up
pub leavers_never_fail : (l : Limits) (t : ℕ) (w : List WorldEvent) (n : ℕ) → is_legal_world l w ≡ true → leaves_act (last_entry t w) ≡ true → is_empty (due t w) ≡ false → may_fail l w t n ≡ true → ⊥
leavers_never_fail l t w n k s some m = never_by l w k t n s (due t w) refl some (leaves_only l t w k s) m
