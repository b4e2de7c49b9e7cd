-- Whether a task is able is read off the world's state as it is off the history: it goes on, and doesn't wait.
use Rattle.std.proofs.Common.{◌≡◌, ℕ, Bool, true, false, ◌&&◌, ◌||◌, ◌==◌, not, cond, List, [], ◌∷◌, Option, Some, None, Result, Ok, Err, refl, sym, ap, subst, ◌∙◌, inl, inr}
use Rattle.std.specs.Prelude.{option_to_list, slice_get}
use Rattle.std.specs.List.{list_any}
use Rattle.std.specs.Option.{option_map}
use Rattle.std.proofs.lemmas.Bool.{cases_Bool, true≢false, and_right}
use Rattle.phase_modes.specs.Lists.{is_empty}
use Rattle.phase_modes.specs.declared.limits.Limits.{Limits}
use Rattle.phase_modes.specs.declared.refusal.Refusal.{Refusal}
use Rattle.phase_modes.specs.declared.refusal.Refusal.TheVariants.{NotNow}
use Rattle.phase_model.specs.declared.history.Event.{Event}
use Rattle.phase_model.specs.declared.history.Event.TheVariants.{Sig as Signed, Claim as Claimed, Pass as Passed}
use Rattle.phase_model.specs.declared.call.Call.TheVariants.{Signal as signal, Pass as pass}
use Rattle.phase_model.specs.Conditions.{conditions}
use Rattle.phase_model.specs.Rules.{Story, is_permitted, has_room}
use Rattle.phase_model.specs.Tasks.{is_live, has_mode}
use Rattle.phase_model.specs.Phases.{signals, is_within_bound}
use Rattle.phase_model.specs.Replies as phaser
use Rattle.phase_model.specs.Replies.{decided}
use Rattle.phase_model.specs.Waiting.{would_wait, signal_would_wait, is_not_yet}
use Rattle.phase_modes.specs.Mode.{can_wait}
use Rattle.phase_modes.specs.Refusal.{first_refusal}
use Rattle.finish_core.specs.Finish.{FinishStory, all_ended}
use Rattle.finish_core.specs.declared.event.FinishEvent.TheVariants.{Shut as Shutting}
use Rattle.world_model.specs.declared.reply.Reply.{Reply}
use Rattle.world_model.specs.declared.reply.Reply.TheVariants.{NotYet}
use Rattle.world_model.specs.declared.event.Step.TheVariants.{Sig, Pass}
use Rattle.world_model.specs.declared.event.WorldEvent.{WorldEvent}
use Rattle.world_model.specs.declared.event.WorldEvent.TheVariants.{Phaser, Finish, Fail}
use Rattle.world_model.specs.Parts.{terms_of, phaser_past, finish_past, story_of}
use Rattle.world_model.specs.Tasks.{is_born, is_ended}
use Rattle.world_model.specs.Actors.{actor}
use Rattle.world_model.specs.Due.{due, is_idle, next_event, or_single}
use Rattle.world_model.specs.PartReplies.{returned}
use Rattle.world_model.specs.Continuing.{next_done, next_reply}
use Rattle.world_model.specs.GivingUp.{may_fail, is_reg}
use Rattle.world_model.specs.Replies.{reply, is_made, is_accepted, is_legal_world}
use Rattle.world_model.specs.Able.{is_able}
use Rattle.world_model.proofs.AgentOfTask.{unborn_idle}
use Rattle.world_model.proofs.AbleOrWaits.{WaitsToPass, WaitsToSignal, WaitsToShut, pass_causeless, next_by}
use Rattle.world_model.proofs.MadeOrGivesUp.{next_is as next_due}
use Rattle.world_model.proofs.OutcomeOfEach.{outcome}
use Rattle.world_records.specs.WorldState.{WorldState}
use Rattle.world_records.specs.inner.Queries.{kept_next, waits_at, able_at}
use Rattle.world_records.specs.StandsFor.{StandsFor}
use Rattle.world_records.proofs.NextRead.{next_is}

-- what comes next has to wait
abbrev waits_in : Limits → List WorldEvent → Option WorldEvent → Bool
waits_in l w (Some (Phaser n (Pass t))) = would_wait (story_of l n w) t
waits_in l w (Some (Phaser n (Sig t x))) = signal_would_wait (story_of l n w) t x
waits_in l w (Some (Finish f Shutting)) = not (all_ended (finish_past f w))
waits_in l w _ = false

none_of : (g a b c d e : Bool) → a ≡ false → b ≡ false → c ≡ false → d ≡ false → e ≡ false → (g && (a || (b || (c || (d || e))))) ≡ false
none_of g a b c d e p q r u v = and_right g (a || (b || (c || (d || e)))) (rw (p, q, r, u, v) refl)

not_made : (b : Bool) (r : Result Reply Refusal) → r ≡ Ok NotYet → is_made (cond b r (Err NotNow)) ≡ false
not_made true r e = rw e refl
not_made false r e = refl

not_yet_by : (h : List Event) (r : phaser.Reply) → is_not_yet r ≡ true → returned h r ≡ Ok NotYet
not_yet_by h (phaser.refused r) e = absurd cc
not_yet_by h phaser.not_yet e = refl
not_yet_by h (phaser.done x) e = absurd cc

module _ (l : Limits) (w : List WorldEvent) (t : ℕ) where
  accepted : WorldEvent → Bool
  accepted e = actor w e == t && is_accepted l w e

  -- whose next event has to wait isn't able
  not_able : (e : WorldEvent) → next_event l t w ≡ Some e → next_done l w e ≡ Ok NotYet → is_reg e ≡ false → reply l w e ≡ next_reply l w e → is_empty (due t w) ≡ false
      → is_able l w t ≡ false
  not_able e next d no_reg same full =
      let gives_up : (x : ℕ) → may_fail l w t x ≡ false → (t == t && is_accepted l w (Fail t x)) ≡ false =
      λ x f. and_right (t == t) (is_accepted l w (Fail t x)) (rw f refl)
      in
      let seven : may_fail l w t 7 ≡ false = rw (next, d) refl in
      let fourteen : may_fail l w t 14 ≡ false = rw (next, no_reg) refl in
      let fifteen : may_fail l w t 15 ≡ false = rw (next, d) refl in
      let idle : may_fail l w t 23 ≡ false = and_right (is_born t w && not (is_ended t w)) (is_empty (due t w)) full in
      let made : is_accepted l w e ≡ false = ap (λ r. is_made r) same ∙ not_made _ (next_done l w e) d in
      subst (λ o. (not (is_ended t w) && list_any (λ x. actor w x == t && is_accepted l w x) (Fail t 7 ∷ Fail t 14 ∷ Fail t 15 ∷ Fail t 23 ∷ option_to_list o)) ≡ false) (sym next)
      (none_of (not (is_ended t w)) _ _ _ _ _ (gives_up 7 seven) (gives_up 14 fourteen) (gives_up 15 fifteen) (gives_up 23 idle) (rw (and_right (actor w e == t) (is_accepted l w e) made) refl))

  -- nor is a task that has nothing to continue and isn't idle
  nothing_able : next_event l t w ≡ None → is_idle t w ≡ false → is_able l w t ≡ false
  nothing_able next idle =
      let gives_up : (x : ℕ) → may_fail l w t x ≡ false → (t == t && is_accepted l w (Fail t x)) ≡ false =
      λ x f. and_right (t == t) (is_accepted l w (Fail t x)) (rw f refl)
      in
      let seven : may_fail l w t 7 ≡ false = rw next refl in
      let fourteen : may_fail l w t 14 ≡ false = rw next refl in
      let fifteen : may_fail l w t 15 ≡ false = rw next refl in
      subst (λ o. (not (is_ended t w) && list_any (λ x. actor w x == t && is_accepted l w x) (Fail t 7 ∷ Fail t 14 ∷ Fail t 15 ∷ Fail t 23 ∷ option_to_list o)) ≡ false) (sym next)
      (none_of (not (is_ended t w)) _ _ _ _ false (gives_up 7 seven) (gives_up 14 fourteen) (gives_up 15 fifteen) (gives_up 23 idle) refl)

  some_due : (o : Option WorldEvent) (e : WorldEvent) (ds : List WorldEvent) → option_map (or_single l w) (slice_get ds 0) ≡ Some e → is_empty ds ≡ false
  some_due o e [] h = absurd cc
  some_due o e (d ∷ ds) h = refl

  waits_not_able : (o : Option WorldEvent) → next_event l t w ≡ o → waits_in l w o ≡ true → is_able l w t ≡ false
  waits_not_able (Some (Phaser n (Pass u))) next h =
      not_able (Phaser n (Pass u)) next (not_yet_by (phaser_past n w) (phaser.reply (story_of l n w) (pass u)) h) refl refl (some_due None (Phaser n (Pass u)) (due t w) next)
  waits_not_able (Some (Phaser n (Sig u x))) next h =
      not_able (Phaser n (Sig u x)) next (not_yet_by (phaser_past n w) (phaser.reply (story_of l n w) (signal u x)) h) refl refl (some_due None (Phaser n (Sig u x)) (due t w) next)
  waits_not_able (Some (Finish f Shutting)) next h =
      not_able (Finish f Shutting) next (open_shut (all_ended (finish_past f w)) _ h) refl refl (some_due None (Finish f Shutting) (due t w) next)
    where
      open_shut : (b : Bool) (r : Result Reply Refusal) → not b ≡ true → cond b r (Ok NotYet) ≡ Ok NotYet
      open_shut true r e = absurd cc
      open_shut false r e = refl
  waits_not_able o next h = absurd cc

  -- a task that goes on and doesn't wait is able
  module _ (k : is_legal_world l w ≡ true) (born : is_born t w ≡ true) (going : is_ended t w ≡ false) where
    waits_pass : (n : ℕ) → is_live t (phaser_past n w) ≡ true → WaitsToPass l t n w → waits_in l w (next_event l t w) ≡ true
    waits_pass n live p =
        let h = phaser_past n w in
        let next : next_event l t w ≡ Some (Phaser n (Pass t)) = next_by l w k t born going n p.rest false false p.is p.no_claim p.no_did in
        let free : first_refusal (conditions l (terms_of n w) h (pass t)) ≡ None = pass_causeless l w k t born going n live p.signalled in
        subst (λ o. waits_in l w o ≡ true) (sym next)
        (answered (first_refusal (conditions l (terms_of n w) h (pass t))) (has_mode can_wait t h) (is_permitted l (terms_of n w) h (Passed t)) (is_permitted l (terms_of n w) h (Claimed t))
        (has_room l (phaser.event_for l (terms_of n w) h (pass t) ∷ h)) (phaser.event_for l (terms_of n w) h (pass t)) free p.waiter p.no_pass p.no_claim)
      where
        answered : (o : Option Refusal) (a b c room : Bool) (e : Event) → o ≡ None → a ≡ true → b ≡ false → c ≡ false → is_not_yet (decided o (a && not b && not c) room e) ≡ true
        answered o a b c room e x y z v = rw (x, y, z, v) refl

    waits_signal : (n : ℕ) → WaitsToSignal l t n w → waits_in l w (next_event l t w) ≡ true
    waits_signal n p =
        let h = phaser_past n w in
        let e = Phaser n (Sig t p.number) in
        subst (λ o. waits_in l w o ≡ true) (sym (next_due l w t going e p.rest p.is))
        (held (first_refusal (conditions l (terms_of n w) h (signal t p.number))) (is_within_bound (terms_of n w).bound (signals t h) h) (has_room l (Signed t p.number ∷ h))
        (Signed t p.number) p.causeless p.held)
      where
        held : (o : Option Refusal) (near room : Bool) (e : Event) → o ≡ None → near ≡ false → is_not_yet (decided o (not near) room e) ≡ true
        held o near room e x y = rw (x, y) refl

    waits_shut : WaitsToShut t w → waits_in l w (next_event l t w) ≡ true
    waits_shut p =
        subst (λ o. waits_in l w o ≡ true) (sym (next_due l w t going (Finish p.finish Shutting) p.rest p.is)) (ap (λ b. not b) p.waits_for)

    goes_on : waits_in l w (next_event l t w) ≡ false → is_able l w t ≡ true
    goes_on h =
        elim (outcome l w k t born going) [
          | inl able ↦ able
          | inr r ↦
              elim r [
                | inl p ↦ elim p.how [
                  | inl q ↦ absurd (true≢false (sym (waits_pass p.on p.live q) ∙ h))
                  | inr q ↦ absurd (true≢false (sym (waits_signal p.on q) ∙ h))
                ]
                | inr p ↦ absurd (true≢false (sym (waits_shut p) ∙ h))
              ]
        ]

waits_same : (s : WorldState) (w : List WorldEvent) → StandsFor w s → (o : Option WorldEvent) → waits_at s o ≡ waits_in s.limits w o
waits_same s w st (Some (Phaser n (Pass t))) = ap (λ (y : Story). would_wait y t) (st.phasers n).story
waits_same s w st (Some (Phaser n (Sig t x))) = ap (λ (y : Story). signal_would_wait y t x) (st.phasers n).story
waits_same s w st (Some (Finish f Shutting)) = ap (λ (y : FinishStory). not (all_ended y.past)) (st.finishes f).story
waits_same s w st o = refl

unborn_next : (l : Limits) (t : ℕ) (w ds : List WorldEvent) → ds ≡ [] → option_map (or_single l w) (slice_get ds 0) ≡ None
unborn_next l t w ds e = rw e refl

by_three : (b e v x y z : Bool) → b ≡ x → e ≡ y → v ≡ z → (b && not e && not v) ≡ (x && not y && not z)
by_three b e v x y z p q r = rw (p, q, r) refl

gone : (b v : Bool) → (b && false && not v) ≡ false
gone true v = refl
gone false v = refl

-- the three readings, by cases
able_by : (l : Limits) (w : List WorldEvent) (t : ℕ) → is_legal_world l w ≡ true → (is_born t w && not (is_ended t w) && not (waits_in l w (next_event l t w))) ≡ is_able l w t
able_by l w t k =
    let born = is_born t w in
    let ended = is_ended t w in
    let waits = waits_in l w (next_event l t w) in
    elim (cases_Bool ended) [
      | inl e ↦
          let over : is_able l w t ≡ false = rw e refl in
          by_three born ended waits born true waits refl e refl ∙ (gone born waits ∙ sym over)
      | inr going ↦
          elim (cases_Bool born) [
            | inr unborn ↦
                let next : next_event l t w ≡ None = unborn_next l t w (due t w) (unborn_idle l t w k unborn) in
                let idle : is_idle t w ≡ false = rw unborn refl in
                by_three born ended waits false false waits unborn going refl ∙ sym (nothing_able l w t next idle)
            | inl b ↦
                elim (cases_Bool waits) [
                  | inl v ↦ by_three born ended waits true false true b going v ∙ sym (waits_not_able l w t (next_event l t w) refl v)
                  | inr free ↦ by_three born ended waits true false false b going free ∙ sym (goes_on l w t k b going free)
                ]
          ]
    ]

pub able_is : (s : WorldState) (t : ℕ) (w : List WorldEvent) → StandsFor w s → able_at s t ≡ is_able s.limits w t
able_is s t w st =
    let line = st.tasks t in
    let waits : waits_at s (kept_next s t) ≡ waits_in s.limits w (next_event s.limits t w) =
    waits_same s w st (kept_next s t) ∙ ap (λ o. waits_in s.limits w o) (next_is s t w st)
    in
    rw (line.born, line.ended, waits) (able_by s.limits w t st.legal)
