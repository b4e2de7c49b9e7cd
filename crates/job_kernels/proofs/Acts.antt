-- Each act of a task of a plan: where the tasks stand after it, and so in each history.
use Rattle.std.proofs.Common.{ℕ, ◌+◌, ◌≡◌, ◌<◌, ◌∙◌, true, false, ◌==◌, List, [], ◌∷◌, Some, None, refl, sym, ap, subst, inl, inr}
use Rattle.std.proofs.lemmas.Bool.{cases_Bool, eqb-true, true≢false}
use Rattle.phase_modes.specs.declared.limits.Limits.{Limits}
use Rattle.phase_modes.specs.declared.reg.Mode.TheVariants.{SigWait}
use Rattle.phase_model.specs.Phases.{waits}
use Rattle.finish_core.specs.declared.event.FinishEvent.TheVariants.{Opened}
use Rattle.job_script.specs.declared.act.Act.{Act}
use Rattle.job_script.specs.declared.act.Act.TheVariants as acts
use Rattle.job_script.specs.declared.act.Answer.TheVariants.{Saw}
use Rattle.world_model.specs.declared.event.Step.TheVariants.{Make, Send, Look}
use Rattle.world_model.specs.declared.event.Tried.{Tried}
use Rattle.world_model.specs.declared.event.Tried.TheVariants.{Begun as Beginning, New, Open, Send as Sending, Look as Looking}
use Rattle.world_model.specs.declared.event.WorldEvent.{WorldEvent}
use Rattle.world_model.specs.declared.event.WorldEvent.TheVariants.{Phaser, Finish, Begin, Refuse, Fail}
use Rattle.world_model.specs.Parts.{phaser_past}
use Rattle.world_model.specs.Due.{is_idle}
use Rattle.world_model.specs.Replies.{is_legal_world, is_accepted}
use Rattle.world_model.proofs.AbleComputed.{idle_in_act}
use Rattle.world_model.proofs.PassesInTurns.{idle_is_born}
use Rattle.world_model.proofs.BornWhereNamed.{born_named}
use Rattle.world_model.proofs.SpawnUnderWay.{names_fresh}
use Rattle.trace_walk.specs.Follows.{drawn}
use Rattle.job_kernels.proofs.Numbers.{lt_le}
use Rattle.job_kernels.proofs.SentSums.{step_sends_nothing}
use Rattle.job_kernels.proofs.Endings.{not_ending}
use Rattle.job_kernels.proofs.Goes.{tried_as, GoesSmoothly}
use Rattle.job_kernels.proofs.Plain.{IsPlain, turns, spawned, child_at}
use Rattle.job_kernels.proofs.Children.{at_below, named_child}
use Rattle.job_kernels.proofs.IdlePaces.{waits_in_look, signals_in_send}
use Rattle.job_kernels.proofs.Telling.{event_by, last_unrefused}
use Rattle.job_kernels.proofs.Plans.{Shape, TaskStep, RootStep, Plan, root_step}
use Rattle.job_kernels.proofs.Going.{phasers_made, task_does, LookSees, LooksSaw, Standing, quiet, stand_makes, stand_spawns, stand_ends, stand_sends, stand_looks, stand_turns, stand_child_ends}

module _ (s : Shape) (p : Plan s) (l : Limits) where
  open s use {Body, next, op, phasers, children, root, task, pairs, out, seen, phases, turns_of, At}

  -- what an act sees, if it is a look
  abbrev SeesOf : List WorldEvent → ℕ → Tried → Type 0
  SeesOf w t (Looking n x) = LookSees s w n t x
  SeesOf w t _ = Unit {0}

  -- the act is the next one of task t
  abbrev pub IsActOf : List WorldEvent → ℕ → Tried → Type 0
  IsActOf w t a = a ≡ tried_as w t (drawn a) (task_does s w t).0

  module _ (w : List WorldEvent) (st : Standing s w) (k : is_legal_world l w ≡ true) where
    -- ---- what an act is

    -- the act is this one, if its task does that
    pub is_by : (t : ℕ) (a : Tried) (b : Act Body) → IsActOf w t a → (task_does s w t).0 ≡ b
        → a ≡ tried_as w t (drawn a) b
    is_by t a b is e = is ∙ ap (λ x. tried_as w t (drawn a) x) e

    -- what the root does
    pub root_does : RootStep s (phasers_made w) (spawned w) (task_does s w 0)
    root_does = root_step s p.rooted (phasers_made w) (spawned w) (task_does s w 0) st.at

    -- a child has a place of the plan
    pub place_below : (i c : ℕ) → child_at i w ≡ Some c → i < children
    place_below i c h = lt_le i (spawned w) children (at_below i c w h) st.at.below

    -- the place of an idle task that isn't the root, and what it does
    pub record ChildDoes (t : ℕ) : Type 0 where
      pub place : ℕ
      pub child : child_at place w ≡ Some t
      pub does : TaskStep s place (turns t w) (st.tasks place t child).done (task_does s w t)

    -- what an idle child does
    pub child_does : (t : ℕ) → (t == 0) ≡ false → is_idle t w ≡ true → ChildDoes t
    child_does t z idle =
        let c = named_child t w z (born_named l t w k (idle_is_born t w idle)) in
        record {
          place = c.0;
          child = c.1;
          does = p.steps c.0 (turns t w) (st.tasks c.0 t c.1).done (task_does s w t) (place_below c.0 t c.1)
              ((st.tasks c.0 t c.1).goes (not_ending l w k t idle));
        }

    -- ---- where the tasks stand after it

    -- the history is a plain one
    plain_now : IsPlain l w
    plain_now = record { legal = k; plain = st.plain }

    -- the root
    after_root : (a : Tried) → is_accepted l w (event_by 0 a) ≡ true → is_idle 0 w ≡ true → IsActOf w 0 a
        → RootStep s (phasers_made w) (spawned w) (task_does s w 0) → Standing s (event_by 0 a ∷ w)
    after_root a ok idle is (RootStep.to_make e at) =
        subst (λ b. Standing s (event_by 0 b ∷ w)) (sym (is_by 0 a (acts.New SigWait (op ∷ []) None) is e))
        (stand_makes s l w st k (drawn a).phaser at (not_ending l w k 0 idle))
    after_root a ok idle is (RootStep.to_spawn lt e at) =
        let same = is_by 0 a (acts.Async (task (spawned w)) (pairs (spawned w))) is e in
        let fresh =
        names_fresh l w 0 (drawn a).task (pairs (spawned w))
        (subst (λ b. is_accepted l w (event_by 0 b) ≡ true) same ok) in
        subst (λ b. Standing s (event_by 0 b ∷ w)) (sym same)
        (stand_spawns s l w st k (drawn a).task (p.starts (spawned w) lt) fresh e at)
    after_root a ok idle is (RootStep.to_end all full e at) =
        subst (λ b. Standing s (event_by 0 b ∷ w)) (sym (is_by 0 a acts.End is e))
        (stand_ends s l w st k all full at)

    -- a child
    after_child : (t i : ℕ) (a : Tried) → is_accepted l w (event_by t a) ≡ true → is_idle t w ≡ true
        → IsActOf w t a → SeesOf w t a → (t == 0) ≡ false → (h : child_at i w ≡ Some t)
        → TaskStep s i (turns t w) (st.tasks i t h).done (task_does s w t) → Standing s (event_by t a ∷ w)
    after_child t i a ok idle is sees z h (TaskStep.to_send v e value count room after) =
        let same = is_by t a (acts.Send i 0 v) is e in
        let send : is_accepted l w (Phaser i (Send t 0 v)) ≡ true =
        subst (λ b. is_accepted l w (event_by t b) ≡ true) same ok in
        subst (λ b. Standing s (event_by t b ∷ w)) (sym same)
        (stand_sends s l w st k t i z h (not_ending l w k t idle) v value count room
        (signals_in_send l w plain_now i t 0 v send) after)
    after_child t i a ok idle is sees z h (TaskStep.to_look j q more e inside turned few least most so on) =
        let same = is_by t a (acts.Look j 0) is e in
        let sees_it : LookSees s w j t 0 = subst (λ b. SeesOf w t b) same sees in
        let look : is_accepted l w (Phaser j (Look t 0)) ≡ true =
        subst (λ b. is_accepted l w (event_by t b) ≡ true) same ok in
        let waited : waits t (phaser_past j w) ≡ q + 1 = waits_in_look l w plain_now j t 0 look ∙ turned in
        subst (λ b. Standing s (event_by t b ∷ w)) (sym same)
        (stand_looks s l w st k t i z h (not_ending l w k t idle) j (Saw (seen j q)) more (sees_it q waited)
        least most so on)
    after_child t i a ok idle is sees z h (TaskStep.to_turn e ahead after) =
        subst (λ b. Standing s (event_by t b ∷ w)) (sym (is_by t a acts.Next is e))
        (stand_turns s l w st k t i z h (not_ending l w k t idle) ahead after)
    after_child t i a ok idle is sees z h (TaskStep.to_end e over all) =
        subst (λ b. Standing s (event_by t b ∷ w)) (sym (is_by t a acts.End is e))
        (stand_child_ends s l w st k t i z h (not_ending l w k t idle) over all)

    -- whoever it is
    acted : (t : ℕ) (a : Tried) → is_accepted l w (event_by t a) ≡ true → is_idle t w ≡ true
        → IsActOf w t a → SeesOf w t a → Standing s (event_by t a ∷ w)
    acted t a ok idle is sees =
        elim (cases_Bool (t == 0)) [
          | inl z ↦
              let root_is : t ≡ 0 = eqb-true t 0 z in
              subst (λ v. Standing s (event_by v a ∷ w)) (sym root_is)
              (after_root a (subst (λ v. is_accepted l w (event_by v a) ≡ true) root_is ok)
              (subst (λ v. is_idle v w ≡ true) root_is idle)
              (subst (λ v. IsActOf w v a) root_is is) root_does)
          | inr z ↦
              let c = child_does t z idle in
              after_child t c.place a ok idle is sees z c.child c.does
        ]

  -- ---- each history

  -- a history in which the tasks go on
  abbrev pub Smooth : List WorldEvent → Type 0
  Smooth w = GoesSmoothly next (root 0 0) l w

  -- with each event the tasks stand as the plan says
  pub stand : (e : WorldEvent) (w : List WorldEvent) → Standing s w → Smooth (e ∷ w) → LooksSaw s (e ∷ w)
      → is_accepted l w e ≡ true → is_legal_world l w ≡ true → Standing s (e ∷ w)
  stand (Phaser n (Make t m terms)) w st g v a k =
      acted w st k t (New n m terms) a (idle_in_act l w t (New n m terms) a) g.goes.0 tt
  stand (Phaser n (Send t x u)) w st g v a k =
      acted w st k t (Sending n x u) a (idle_in_act l w t (Sending n x u) a) g.goes.0 tt
  stand (Phaser n (Look t x)) w st g v a k =
      acted w st k t (Looking n x) a (idle_in_act l w t (Looking n x) a) g.goes.0 v.0
  stand (Finish f (Opened t)) w st g v a k =
      acted w st k t (Open f) a (idle_in_act l w t (Open f) a) g.goes.0 tt
  stand (Begin t b) w st g v a k =
      acted w st k t (Beginning b) a (idle_in_act l w t (Beginning b) a) g.goes.0 tt
  stand (Refuse t x n) w st g v a k =
      absurd (true≢false (last_unrefused next (root 0 0) l (Refuse t x n) w g))
  stand (Fail t n) w st g v a k = absurd (true≢false (last_unrefused next (root 0 0) l (Fail t n) w g))
  stand (Phaser n x) w st g v a k =
      quiet s l w st k (Phaser n x) refl refl (λ c. refl) (λ c. refl) refl refl (λ i. refl) st.handed st.made
      (step_sends_nothing w n x (λ i q. refl))
  stand (Finish f x) w st g v a k =
      quiet s l w st k (Finish f x) refl refl (λ c. refl) (λ c. refl) refl refl (λ i. refl) st.handed st.made
      (λ i q. refl)
