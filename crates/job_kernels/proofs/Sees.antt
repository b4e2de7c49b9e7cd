-- What the tasks of a plan send and see: each look sees the values of the phase that has ended.
use Rattle.std.proofs.Common.{None, ℕ, ℤ, ◌+◌, ◌-◌, ◌≡◌, ◌≤◌, ◌<◌, ◌∙◌, Bool, true, false, ◌==◌, cond, List, [], ◌∷◌, ◌++◌, Some, refl, sym, ap, subst, inl, inr}
use Rattle.std.proofs.lemmas.Bool.{and_from, cases_Bool, eqb-true, eq-eqb, lt-ltb, true≢false}
use Rattle.phase_modes.specs.Lists.{is_empty}
use Rattle.phase_modes.specs.declared.limits.Limits.{Limits}
use Rattle.phase_modes.specs.declared.reg.Mode.TheVariants.{SigWait}
use Rattle.phase_model.specs.declared.history.Event.TheVariants.{Look as Looked}
use Rattle.phase_model.specs.Tasks.{is_dropped}
use Rattle.phase_model.specs.Phases.{waits, IsClosed}
use Rattle.phase_model.specs.Values.{sent, fold}
use Rattle.phase_model.specs.Rules.{look_of}
use Rattle.phase_model.proofs.Closing.{some_live}
use Rattle.job_script.specs.declared.act.Answer.TheVariants.{Saw}
use Rattle.world_model.specs.declared.event.Step.TheVariants.{Send, Look}
use Rattle.world_model.specs.declared.event.Tried.{Tried}
use Rattle.world_model.specs.declared.event.Tried.TheVariants.{Send as Sending, Look as Looking}
use Rattle.world_model.specs.declared.event.WorldEvent.{WorldEvent}
use Rattle.world_model.specs.declared.event.WorldEvent.TheVariants.{Phaser}
use Rattle.world_model.specs.Parts.{ops_of, phaser_past}
use Rattle.world_model.specs.Replies.{is_legal_world, is_accepted}
use Rattle.world_model.specs.TaskConditions.{last_entry}
use Rattle.world_model.proofs.AbleComputed.{idle_in_act}
use Rattle.world_model.proofs.PhasersFolded.{phasers_folded}
use Rattle.world_model.proofs.LeavingList.{ends_act}
use Rattle.job_script.specs.declared.act.Act.TheVariants as acts
use Rattle.job_kernels.proofs.Numbers.{lt_le, next_le_lt, next_less_one}
use Rattle.job_kernels.proofs.Plain.{IsPlain, turns, spawned, child_at}
use Rattle.job_kernels.proofs.Endings.{dropped_ends}
use Rattle.job_kernels.proofs.Making.{IsMade, made}
use Rattle.job_kernels.proofs.IdlePaces.{LookAsked, look_asked, waits_in_look}
use Rattle.job_kernels.proofs.OwnPhasers.{IsThere, child_there, turned_past, root_left}
use Rattle.job_kernels.proofs.Plans.{Shape, TaskStep, RootStep, Plan}
use Rattle.job_kernels.proofs.Going.{phasers_made, task_does, LookSees, Standing}
use Rattle.job_kernels.proofs.Acts.{IsActOf, is_by, root_does, child_does}

-- the act sends a value, or looks at those of a phase
abbrev is_value : Tried → Bool
is_value (Sending n a v) = true
is_value (Looking n a) = true
is_value _ = false

module _ (s : Shape) (p : Plan s) (l : Limits) (w : List WorldEvent) (st : Standing s w)
    (k : is_legal_world l w ≡ true) where
  open s use {Body, op, phasers, children, task, pairs, out, seen, phases}

  -- ---- what a send is, and a look

  -- a send is of the value of its place
  pub record SendIs (n t a : ℕ) (v : ℤ) : Type 0 where
    pub place : child_at n w ≡ Some t
    pub zero_acc : a ≡ 0
    pub value : out n (turns t w) ≡ v ∷ []

  -- a look is at a phaser of the plan, in a phase for which something may be sent
  record LookIs (j t a : ℕ) : Type 0 where
    pub step : ℕ
    pub zero_acc : a ≡ 0
    pub inside : j < phasers
    pub turned : turns t w ≡ step + 1
    pub few : turns t w ≤ phases j

  -- the root does neither
  no_value : (a : Tried) → IsActOf s p l w 0 a → RootStep s (phasers_made w) (spawned w) (task_does s w 0)
      → is_value a ≡ false
  no_value a is (RootStep.to_make e at) =
      ap (λ b. is_value b) (is_by s p l w st k 0 a (acts.New SigWait (op ∷ []) None) is e)
  no_value a is (RootStep.to_spawn lt e at) =
      ap (λ b. is_value b) (is_by s p l w st k 0 a (acts.Async (task (spawned w)) (pairs (spawned w))) is e)
  no_value a is (RootStep.to_end all full e at) = ap (λ b. is_value b) (is_by s p l w st k 0 a acts.End is e)

  -- so it is no act of the root
  no_root : (t : ℕ) (a : Tried) → IsActOf s p l w t a → is_value a ≡ true → (t == 0) ≡ true → ⊥
  no_root t a is value z =
      true≢false (sym value
      ∙ no_value a (subst (λ v. IsActOf s p l w v a) (eqb-true t 0 z) is) (root_does s p l w st k))

  module _ (n t a : ℕ) (v : ℤ) (is : IsActOf s p l w t (Sending n a v)) where
    -- two sends that are the same
    send_fields : (i b : ℕ) (x : ℤ) → Sending n a v ≡ Sending i b x → (i ≡ n) × (a ≡ b) × (x ≡ v)
    send_fields i b x h = (cc, cc, cc)

    -- by what the child does
    by_send : (i done : ℕ) → child_at i w ≡ Some t → TaskStep s i (turns t w) done (task_does s w t)
        → SendIs n t a v
    by_send i done h (TaskStep.to_send x e value count room after) =
        let same = send_fields i 0 x (is_by s p l w st k t (Sending n a v) (acts.Send i 0 x) is e) in
        record {
          place = subst (λ j. child_at j w ≡ Some t) same.0 h;
          zero_acc = same.1;
          value = ap (λ j. out j (turns t w)) (sym same.0) ∙ (value ∙ ap (λ y. y ∷ []) same.2);
        }
    by_send i done h (TaskStep.to_look j q more e inside turned few least most so after) =
        absurd (cc (is_by s p l w st k t (Sending n a v) (acts.Look j 0) is e))
    by_send i done h (TaskStep.to_turn e ahead after) =
        absurd (cc (is_by s p l w st k t (Sending n a v) acts.Next is e))
    by_send i done h (TaskStep.to_end e over all) =
        absurd (cc (is_by s p l w st k t (Sending n a v) acts.End is e))

    -- each send is so
    pub send_is : is_accepted l w (Phaser n (Send t a v)) ≡ true → SendIs n t a v
    send_is ok =
        elim (cases_Bool (t == 0)) [
          | inl z ↦ absurd (no_root t (Sending n a v) is refl z)
          | inr z ↦
              let c = child_does s p l w st k t z (idle_in_act l w t (Sending n a v) ok) in
              by_send c.place (st.tasks c.place t c.child).done c.child c.does
        ]

  module _ (j t a : ℕ) (is : IsActOf s p l w t (Looking j a)) where
    -- two looks that are the same
    look_fields : (i b : ℕ) → Looking j a ≡ Looking i b → (i ≡ j) × (a ≡ b)
    look_fields i b h = (cc, cc)

    -- by what the child does
    by_look : (i done : ℕ) → TaskStep s i (turns t w) done (task_does s w t) → LookIs j t a
    by_look i done (TaskStep.to_look x q more e inside turned few least most so after) =
        let same = look_fields x 0 (is_by s p l w st k t (Looking j a) (acts.Look x 0) is e) in
        record {
          step = q;
          zero_acc = same.1;
          inside = subst (λ y. y < phasers) same.0 inside;
          turned = turned;
          few = subst (λ y. turns t w ≤ phases y) same.0 few;
        }
    by_look i done (TaskStep.to_send x e value count room after) =
        absurd (cc (is_by s p l w st k t (Looking j a) (acts.Send i 0 x) is e))
    by_look i done (TaskStep.to_turn e ahead after) =
        absurd (cc (is_by s p l w st k t (Looking j a) acts.Next is e))
    by_look i done (TaskStep.to_end e over all) =
        absurd (cc (is_by s p l w st k t (Looking j a) acts.End is e))

    -- each look is so
    look_is : is_accepted l w (Phaser j (Look t a)) ≡ true → LookIs j t a
    look_is ok =
        elim (cases_Bool (t == 0)) [
          | inl z ↦ absurd (no_root t (Looking j a) is refl z)
          | inr z ↦
              let c = child_does s p l w st k t z (idle_in_act l w t (Looking j a) ok) in
              by_look c.place (st.tasks c.place t c.child).done c.does
        ]

  -- ---- what a closed phase has

  -- the history is a plain one
  plain_now : IsPlain l w
  plain_now = record { legal = k; plain = st.plain }

  -- once the root is on its way to its end, whoever sends on a phaser is registered there, and can signal
  pub all_there : ends_act (last_entry 0 w) ≡ true → (j : ℕ) → j < phasers → IsThere j w
  all_there q j lt =
      child_there l w plain_now pairs st.handed q j (p.own j lt)
      (subst (λ n. j < n) (sym (st.over q).1) (lt_le j phasers children lt p.enough))

  -- so if a phase of its phaser is closed, it is done with it
  done_if_closed : (j q : ℕ) (u : IsThere j w) → q < phases j → IsClosed q (phaser_past j w)
      → q < (st.tasks j u.task u.child).done
  done_if_closed j q u lt closed =
      let c = st.tasks j u.task u.child in
      elim (cases_Bool (is_dropped u.task (phaser_past j w))) [
        | inl d ↦ lt_le q (phases j) c.done lt (c.over (dropped_ends l u.task j w plain_now d))
        | inr d ↦
            lt_le q (turns u.task w) c.done
            (turned_past l w plain_now u.task j q u.registered u.mode d closed) c.ahead
      ]

  -- if a phase of a made phaser is closed, what was sent for it is what is sent there
  closed_is_sent : (j q : ℕ) → j < phasers → q < phases j → is_empty (phaser_past j w) ≡ false
      → IsClosed q (phaser_past j w) → sent 0 q (phaser_past j w) ≡ out j q
  closed_is_sent j q lt small some closed =
      let m : IsMade op j w = made l op j w plain_now st.made some in
      elim (cases_Bool (is_dropped 0 (phaser_past j w))) [
        | inl d ↦
            let u : IsThere j w = all_there (dropped_ends l 0 j w plain_now d) j lt in
            let c = st.tasks j u.task u.child in
            c.values q ∙ ap (λ b. cond b (out j q) []) (lt-ltb q c.done (done_if_closed j q u small closed))
        | inr d ↦ absurd (root_left l w plain_now j q m.there m.mode d closed)
      ]

  -- a look sees what it is to see
  pub look_sees : (j t a : ℕ) → is_accepted l w (Phaser j (Look t a)) ≡ true → IsActOf s p l w t (Looking j a)
      → LookSees s w j t a
  look_sees j t a ok is q waited =
      let h = phaser_past j w in
      let x = look_of (ops_of j w) a (waits t h) h in
      let i : LookIs j t a = look_is j t a is ok in
      let asked : LookAsked j t w = look_asked l w j t a ok in
      let same : turns t w ≡ q + 1 = sym (waits_in_look l w plain_now j t a ok) ∙ waited in
      let few : q < phases j = next_le_lt q (turns t w) (phases j) same i.few in
      let past : phaser_past j (Phaser j (Look t a) ∷ w) ≡ [] ++ Looked t a x ∷ h =
      rw (eq-eqb j j refl) refl in
      let closed : IsClosed (waits t h - 1) h =
      ((phasers_folded l (Phaser j (Look t a) ∷ w)
      (and_from (is_accepted l w (Phaser j (Look t a))) (is_legal_world l w) ok k) j).seen [] h t a x
      past).0 in
      let back : waits t h - 1 ≡ q = ap (λ y. y - 1) waited ∙ next_less_one q in
      let some : is_empty h ≡ false = some_live t h asked.live in
      let values : sent 0 (waits t h - 1) h ≡ out j q =
      ap (λ y. sent 0 y h) back
      ∙ closed_is_sent j q i.inside few some (subst (λ y. IsClosed y h) back closed) in
      let ops : ops_of j w ≡ op ∷ [] = (made l op j w plain_now st.made some).ops in
      ap (λ os. Saw (look_of os a (waits t h) h)) ops
      ∙ (ap (λ b. Saw (look_of (op ∷ []) b (waits t h) h)) i.zero_acc
      ∙ (ap (λ vs. Saw (fold op vs)) values ∙ ap (λ y. Saw y) (p.folds j q i.inside)))
