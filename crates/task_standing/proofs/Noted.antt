-- All of a task's own events, but those of a child that was never born and its end.
use Rattle.std.proofs.Common.{◌≡◌, ℕ, ◌==◌, true, false, cond, List, ◌∷◌, refl, sym, ap, subst, ◌∙◌, inl, inr}
use Rattle.std.proofs.lemmas.Bool.{cases_Bool, eqb-true, eq-eqb, and_from, true≢false, false_from_ne_true}
use Rattle.phase_modes.specs.declared.limits.Limits.{Limits}
use Rattle.finish_core.specs.declared.event.FinishEvent.TheVariants.{Opened, Spawned, Ended, Shut as Shutting}
use Rattle.world_model.specs.declared.event.Step.TheVariants.{Make, Reg, Sig, Claim, Did, Pass, Send, Look, Drop}
use Rattle.world_model.specs.declared.event.WorldEvent.{WorldEvent}
use Rattle.world_model.specs.declared.event.WorldEvent.TheVariants.{Phaser, Finish, Begin, Refuse, Fail}
use Rattle.world_model.specs.Actors.{actor}
use Rattle.world_model.specs.Scopes.{owner}
use Rattle.world_model.specs.Tasks.{is_born, ends, spawner}
use Rattle.world_model.specs.Replies.{is_legal_world}
use Rattle.world_model.proofs.LeavesAtEnds.{root_owner}
use Rattle.world_model.proofs.MadeMeans.{last_accepted, part_made}
use Rattle.task_standing.specs.declared.plan.Plan.{Plan}
use Rattle.task_standing.specs.declared.plan.Plan.TheVariants as plan
use Rattle.task_standing.specs.Known.{Known}
use Rattle.task_standing.specs.StillToMake.{planned}
use Rattle.task_standing.specs.Histories.{IsAbout}
use Rattle.task_standing.specs.Laws.{ActsFit, NamesFew}
use Rattle.task_standing.specs.Noted.{noted}
use Rattle.task_standing.specs.AfterEvents.{fails_alone, EventsAreNoted}
use Rattle.task_standing.proofs.Alike.{singles_leave, sends_are_acts, looks_are_acts}
use Rattle.task_standing.proofs.Begins.{begins_begin, refusals_end, failures_end}
use Rattle.task_standing.proofs.ChildLeaves.{drops_child}
use Rattle.task_standing.proofs.Finishes.{openings_open, shuts_shut, births_end_spawns}
use Rattle.task_standing.proofs.Leaves.{leaves_leave}
use Rattle.task_standing.proofs.Making.{makings_hold}
use Rattle.task_standing.proofs.Others.{others_leave}
use Rattle.task_standing.proofs.Passes.{pass_unmarks}
use Rattle.task_standing.proofs.Registering.{registrations_register}
use Rattle.task_standing.proofs.Signals.{signal_marks}
use Rattle.task_standing.proofs.Starts.{starts, never_starts, signalling_not, turning_not, spawning_not, shutting_not, ending_not, Continues, continuing}

-- what is about its own number alone drops no other task
no_child_drop : (k : Known) (c : ℕ) (p : Plan) → (k.number == c) ≡ false → starts (drops_child c) (planned k p) ≡ false
no_child_drop k c plan.Idle o = refl
no_child_drop k c (plan.Signalling x b) o = signalling_not (drops_child c) k x b (λ n. refl) (λ n. refl)
no_child_drop k c (plan.Turning next) o = turning_not (drops_child c) k next (λ n. refl)
no_child_drop k c (plan.Spawning d pairs made) o = spawning_not (drops_child c) k d pairs made (λ q. refl) (λ f. refl)
no_child_drop k c plan.Shutting o = shutting_not (drops_child c) k (λ n. o) (λ f. refl)
no_child_drop k c plan.Ending o = ending_not (drops_child c) k (λ n. o) (λ f. refl) (λ f u. refl)

module _ (l : Limits) (w : List WorldEvent) (k : Known) (fit : ActsFit l) (born : is_born k.number w ≡ true)
    (few : NamesFew k.plan) (st : IsAbout w k) where
  -- a drop that it makes is its own
  drops_itself : (n u : ℕ) → is_legal_world l (Phaser n (Drop u) ∷ w) ≡ true → actor w (Phaser n (Drop u)) ≡ k.number → u ≡ k.number
  drops_itself n u legal own =
      elim (cases_Bool (is_born u w)) [
        | inl b ↦ sym (ap (λ x. cond x u (spawner u w)) b) ∙ own
        | inr b ↦
            let e = Phaser n (Drop u) in
            let a = last_accepted l e w legal in
            let apart : (k.number == u) ≡ false =
            false_from_ne_true (k.number == u) (λ s. true≢false (sym (subst (λ v. is_born v w ≡ true) (eqb-true k.number u s) born) ∙ b)) in
            let c : Continues k.number e w = continuing l e w k.number own (part_made l w e a.0).0 refl refl in
            absurd (never_starts (drops_child u) (planned k k.plan) c.rest e (sym st.due_is ∙ c.before) (eq-eqb u u refl)
            (no_child_drop k u k.plan apart))
      ]

  own_event : (e : WorldEvent) → is_legal_world l (e ∷ w) ≡ true → actor w e ≡ k.number → ends k.number e ≡ false
      → fails_alone e k → IsAbout (e ∷ w) (noted e k)
  own_event (Phaser n (Make t m terms)) legal own stays alone =
      subst (λ u. is_legal_world l (Phaser n (Make u m terms) ∷ w) ≡ true → IsAbout (Phaser n (Make u m terms) ∷ w) (noted (Phaser n (Make u m terms)) k))
      (sym own) (λ g. makings_hold l w k n m terms fit g st) legal
  own_event (Phaser n (Reg t c m)) legal own stays alone =
      subst (λ u. is_legal_world l (Phaser n (Reg u c m) ∷ w) ≡ true → IsAbout (Phaser n (Reg u c m) ∷ w) (noted (Phaser n (Reg u c m)) k))
      (sym own) (λ g. registrations_register l w k n c m g few st) legal
  own_event (Phaser n (Sig t x)) legal own stays alone =
      subst (λ u. is_legal_world l (Phaser n (Sig u x) ∷ w) ≡ true → IsAbout (Phaser n (Sig u x) ∷ w) (noted (Phaser n (Sig u x)) k))
      (sym own) (λ g. signal_marks l w k n x g st) legal
  own_event (Phaser n (Claim t)) legal own stays alone =
      subst (λ u. is_legal_world l (Phaser n (Claim u) ∷ w) ≡ true → IsAbout (Phaser n (Claim u) ∷ w) k)
      (sym own) (λ g. singles_leave.claims l w k n g st) legal
  own_event (Phaser n (Did t)) legal own stays alone =
      subst (λ u. is_legal_world l (Phaser n (Did u) ∷ w) ≡ true → IsAbout (Phaser n (Did u) ∷ w) k)
      (sym own) (λ g. singles_leave.reports l w k n g st) legal
  own_event (Phaser n (Pass t)) legal own stays alone =
      subst (λ u. is_legal_world l (Phaser n (Pass u) ∷ w) ≡ true → IsAbout (Phaser n (Pass u) ∷ w) (noted (Phaser n (Pass u)) k))
      (sym own) (λ g. pass_unmarks l w k n g st) legal
  own_event (Phaser n (Send t i v)) legal own stays alone =
      subst (λ u. is_legal_world l (Phaser n (Send u i v) ∷ w) ≡ true → IsAbout (Phaser n (Send u i v) ∷ w) (noted (Phaser n (Send u i v)) k))
      (sym own) (λ g. sends_are_acts l w k n i v fit g st) legal
  own_event (Phaser n (Look t i)) legal own stays alone =
      subst (λ u. is_legal_world l (Phaser n (Look u i) ∷ w) ≡ true → IsAbout (Phaser n (Look u i) ∷ w) (noted (Phaser n (Look u i)) k))
      (sym own) (λ g. looks_are_acts l w k n i fit g st) legal
  own_event (Phaser n (Drop t)) legal own stays alone =
      subst (λ u. is_legal_world l (Phaser n (Drop u) ∷ w) ≡ true → IsAbout (Phaser n (Drop u) ∷ w) (noted (Phaser n (Drop u)) k))
      (sym (drops_itself n t legal own)) (λ g. leaves_leave l w k n g born st) legal
  own_event (Finish f (Opened t)) legal own stays alone =
      subst (λ u. is_legal_world l (Finish f (Opened u) ∷ w) ≡ true → IsAbout (Finish f (Opened u) ∷ w) (noted (Finish f (Opened u)) k))
      (sym own) (λ g. openings_open l w k f fit g st) legal
  own_event (Finish f (Spawned c)) legal own stays alone = births_end_spawns l w k f c legal own st
  own_event (Finish f (Ended t)) legal own stays alone = absurd (true≢false (sym (eq-eqb t k.number own) ∙ stays))
  own_event (Finish f Shutting) legal own stays alone =
      let inside : (f == 0) ≡ false =
      false_from_ne_true (f == 0) (λ z.
      let root : 0 ≡ k.number = sym (root_owner l w (last_accepted l (Finish f Shutting) w legal).1) ∙ (ap (λ g. owner g w) (sym (eqb-true f 0 z)) ∙ own) in
      true≢false (sym (and_from (f == 0) (k.number == 0) z (eq-eqb k.number 0 (sym root))) ∙ stays)) in
      shuts_shut l w k f legal inside own st
  own_event (Begin t b) legal own stays alone =
      subst (λ u. is_legal_world l (Begin u b ∷ w) ≡ true → IsAbout (Begin u b ∷ w) (noted (Begin u b) k))
      (sym own) (λ g. begins_begin l w k b fit g st) legal
  own_event (Refuse t a n) legal own stays alone =
      subst (λ u. is_legal_world l (Refuse u a n ∷ w) ≡ true → IsAbout (Refuse u a n ∷ w) (noted (Refuse u a n) k))
      (sym own) (λ g. refusals_end l w k a n g st.of) legal
  own_event (Fail t n) legal own stays alone =
      subst (λ u. is_legal_world l (Fail u n ∷ w) ≡ true → IsAbout (Fail u n ∷ w) (noted (Fail u n) k))
      (sym own) (λ g. failures_end l w k n g (alone own) st) legal

pub events_are_noted : EventsAreNoted
events_are_noted l e w k fit legal born few stays alone st =
    elim (cases_Bool (actor w e == k.number)) [
      | inl own ↦ rw own (own_event l w k fit born few st e legal (eqb-true (actor w e) k.number own) stays alone)
      | inr other ↦ rw other (others_leave l e w k legal born other st)
    ]
