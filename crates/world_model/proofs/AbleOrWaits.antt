-- A task that goes on is able, or it waits at a phaser, to pass or to signal, or at a shut.
use Rattle.std.proofs.Common.{◌≡◌, ◌⊎◌, ℕ, ◌+◌, Bool, true, false, ◌&&◌, ◌||◌, ◌==◌, not, nat_lt, cond, List, [], ◌∷◌, Option, Some, None, is_some, refl, sym, subst, ap, ◌∙◌, inl, inr}
use Rattle.std.specs.List.{list_any, list_all}
use Rattle.std.proofs.lemmas.Bool.{and_parts, and_from, or_left, cases_Bool, eqb-true, eq-eqb, not-true, true≢false, false_from_ne_true}
use Rattle.phase_modes.specs.Lists.{is_empty}
use Rattle.phase_modes.specs.declared.limits.Limits.{Limits}
use Rattle.phase_modes.specs.declared.refusal.Refusal.TheVariants.{NotRegistered, NoSignal, NoSingle, AlreadySignalled, SingleMismatch, NotSignalled, NotNow, TasksFull}
use Rattle.phase_modes.specs.Mode.{can_signal, can_wait, can_single}
use Rattle.phase_modes.specs.Refusal.{first_refusal}
use Rattle.phase_model.specs.declared.history.Event.{Event}
use Rattle.phase_model.specs.declared.history.Event.TheVariants.{Sig as Signalled, Claim as Claimed, Did as Done, Pass as Passed}
use Rattle.phase_model.specs.Tasks.{is_live, has_mode}
use Rattle.phase_model.specs.Phases.{waits, signals, is_within_bound}
use Rattle.phase_model.specs.Singles.{has_claimed, is_done}
use Rattle.phase_model.specs.Conditions.{is_other_proposed}
use Rattle.phase_model.specs.Rules.{is_permitted, has_room}
use Rattle.phase_model.specs.Replies as phaser
use Rattle.phase_model.specs.declared.call.Call.TheVariants.{Signal as signal}
use Rattle.phase_model.specs.Conditions.{conditions}
use Rattle.phase_model.specs.declared.call.Call.TheVariants.{Pass as pass}
use Rattle.phase_model.specs.Replies.{decided}
use Rattle.phase_model.proofs.Legal.{at_or_ahead}
use Rattle.phase_model.proofs.SingleRules.{did_follows}
use Rattle.phase_model.proofs.SingleReplies.{singles_are_answered, singles_have_room}
use Rattle.finish_core.specs.declared.event.FinishEvent.TheVariants.{Spawned, Shut as Shutting}
use Rattle.finish_core.specs.Finish.{is_open, is_spawned, all_ended}
use Rattle.finish_core.specs.Replies.{done_unless}
use Rattle.world_model.specs.declared.event.Step.TheVariants.{Reg, Sig, Claim, Did, Pass}
use Rattle.world_model.specs.declared.event.WorldEvent.{WorldEvent}
use Rattle.world_model.specs.declared.event.WorldEvent.TheVariants.{Phaser, Finish}
use Rattle.world_model.specs.Parts.{terms_of, phaser_past, finish_past, story_of}
use Rattle.world_model.specs.Scopes.{inner, owner}
use Rattle.world_model.specs.Tasks.{spawner, is_born, is_ended}
use Rattle.world_model.specs.Due.{due, is_behind, next_event}
use Rattle.world_model.specs.PartReplies.{returned, finish_returned, finish_reply, phaser_reply}
use Rattle.world_model.specs.Replies.{is_made, is_legal_world}
use Rattle.world_model.specs.GivingUp.{is_refused_by}
use Rattle.world_model.specs.Continuing.{same_number}
use Rattle.world_model.specs.Able.{is_able}
use Rattle.world_model.specs.TaskConditions.{last_entry}
use Rattle.world_model.specs.ClockLaws.{is_pass_on}
use Rattle.world_model.proofs.PhasersLegal.{phasers_legal}
use Rattle.world_model.proofs.SpawnUnderWay.{begins_spawn, is_spawn_list, named_by_spawn}
use Rattle.world_model.proofs.BornWhereNamed.{unborn_child}
use Rattle.world_model.proofs.PairsAsked.{MayJoin, may_join}
use Rattle.world_model.proofs.RegistrationsStand.{spawn_stands}
use Rattle.world_model.proofs.SignalsComeFirst.{moves_act, is_any_sig, sigs_first, Moves, moves}
use Rattle.world_model.proofs.TurnsStand.{is_sig_on, is_single_on, Turning}
use Rattle.world_model.proofs.TurnsStandAlways.{turning, any_sig}
use Rattle.world_model.proofs.HomesOpen.{inner_open, spawned_is_born, spawn_fits}
use Rattle.world_model.proofs.MadeOrGivesUp.{made_or_full, able_by, part_accepted, fails_7, fails_15, fails_14, next_is}

-- t has to wait before it passes n
pub record WaitsToPass (l : Limits) (t n : ℕ) (w : List WorldEvent) : Type 0 where
  pub rest : List WorldEvent
  pub is : due t w ≡ Phaser n (Pass t) ∷ rest
  pub signalled : is_behind t (phaser_past n w) ≡ false
  pub waiter : has_mode can_wait t (phaser_past n w) ≡ true
  pub no_pass : is_permitted l (terms_of n w) (phaser_past n w) (Passed t) ≡ false
  pub no_claim : is_permitted l (terms_of n w) (phaser_past n w) (Claimed t) ≡ false
  pub no_did : is_permitted l (terms_of n w) (phaser_past n w) (Done t) ≡ false

-- t has to wait before it signals on n: it would be further ahead than the bound lets it be
pub record WaitsToSignal (l : Limits) (t n : ℕ) (w : List WorldEvent) : Type 0 where
  pub number : Option ℕ
  pub rest : List WorldEvent
  pub is : due t w ≡ Phaser n (Sig t number) ∷ rest
  pub behind : is_behind t (phaser_past n w) ≡ true
  pub causeless : first_refusal (conditions l (terms_of n w) (phaser_past n w) (signal t number)) ≡ None
  pub held : is_within_bound (terms_of n w).bound (signals t (phaser_past n w)) (phaser_past n w) ≡ false

-- t has to wait for other tasks of a phaser
pub record WaitsAtPhaser (l : Limits) (t : ℕ) (w : List WorldEvent) : Type 0 where
  pub on : ℕ
  pub live : is_live t (phaser_past on w) ≡ true
  pub how : WaitsToPass l t on w ⊎ WaitsToSignal l t on w

-- t has to wait before it shuts f
pub record WaitsToShut (t : ℕ) (w : List WorldEvent) : Type 0 where
  pub finish : ℕ
  pub rest : List WorldEvent
  pub is : due t w ≡ Finish finish Shutting ∷ rest
  pub by : owner finish w ≡ t
  pub opened : is_open (finish_past finish w) ≡ true
  pub waits_for : all_ended (finish_past finish w) ≡ false

abbrev pub Outcome : Limits → ℕ → List WorldEvent → Type 0
Outcome l t w = (is_able l w t ≡ true) ⊎ WaitsAtPhaser l t w ⊎ WaitsToShut t w

module _ (l : Limits) (w : List WorldEvent) (k : is_legal_world l w ≡ true) (t : ℕ)
    (born : is_born t w ≡ true) (going : is_ended t w ≡ false) where
  -- a spawn is made
  pub spawn_made : (c f : ℕ) (ds : List WorldEvent) → begins_spawn c (last_entry t w) ≡ true
      → due t w ≡ Finish f (Spawned c) ∷ ds → is_made (finish_reply l w f (Spawned c)) ≡ true
  spawn_made c f ds s here =
      let e = Finish f (Spawned c) in
      let h = finish_past f w in
      let q : MayJoin t c w (e ∷ ds) = subst (λ xs. MayJoin t c w xs) here (spawn_stands l t c w k s) in
      let inside : f ≡ inner t w =
      eqb-true f (inner t w) (and_parts (f == inner t w) (list_all (may_join t c w) ds) q.each).0 in
      let opened : is_open h ≡ true =
      subst (λ g. is_open (finish_past g w) ≡ true) (sym inside) (inner_open l w k t born going) in
      let unborn : is_born c w ≡ false = unborn_child l t c w k s (ap (λ xs. is_empty xs) here) in
      let new : is_spawned c h ≡ false =
      false_from_ne_true (is_spawned c h) (λ y. true≢false (sym (spawned_is_born c f w y) ∙ unborn)) in
      answered (is_open h) (is_spawned c h) (nat_lt c l.tasks) opened new (spawn_fits l t c w k s)
    where
      answered : (a b c : Bool) → a ≡ true → b ≡ false → c ≡ true → is_made (finish_returned
          (done_unless (first_refusal ((NotNow, a) ∷ (NotNow, not b) ∷ (TasksFull, c) ∷ [])))) ≡ true
      answered a b c x y z = rw (x, y, z) refl

  of_spawn : (c f : ℕ) (ds : List WorldEvent) → begins_spawn c (last_entry t w) ≡ true
      → due t w ≡ Finish f (Spawned c) ∷ ds → is_able l w t ≡ true
  of_spawn c f ds s here =
      let e = Finish f (Spawned c) in
      let by : spawner c w ≡ t = (named_by_spawn l t c w k s).1 in
      able_by l w t going e by
      (part_accepted l w t going e (and_from (f == f) (c == c) (eq-eqb f f refl) (eq-eqb c c refl)) by
      (next_is l w t going e ds here) (spawn_made c f ds s here))

  pub in_spawn : (c : ℕ) (d : WorldEvent) (ds : List WorldEvent) → begins_spawn c (last_entry t w) ≡ true
      → due t w ≡ d ∷ ds → is_spawn_list t c (d ∷ ds) ≡ true → is_able l w t ≡ true
  in_spawn c (Phaser n (Reg r x m)) ds s here y =
      fails_14 l w t going (Phaser n (Reg r x m)) (next_is l w t going (Phaser n (Reg r x m)) ds here) refl
  in_spawn c (Finish f (Spawned x)) ds s here y =
      let same : x ≡ c =
      eqb-true x c (and_parts (x == c) (is_empty ds)
      (and_parts ((x == c) && is_empty ds) (is_spawn_list t c ds) y).0).0 in
      of_spawn c f ds s (subst (λ v. due t w ≡ Finish f (Spawned v) ∷ ds) same here)
  in_spawn c d ds s here y = absurd cc

  -- a signal meets each condition but that no other number stands
  pub sig_causes : (n : ℕ) (x : Option ℕ) (ds : List WorldEvent) → moves_act (last_entry t w) ≡ true
      → due t w ≡ Phaser n (Sig t x) ∷ ds
      → (first_refusal (conditions l (terms_of n w) (phaser_past n w) (signal t x)) ≡ None)
      ⊎ (first_refusal (conditions l (terms_of n w) (phaser_past n w) (signal t x)) ≡ Some SingleMismatch)
  sig_causes n x ds s here =
      let h = phaser_past n w in
      let q : Turning t w (Phaser n (Sig t x) ∷ ds) = subst (λ xs. Turning t w xs) here (turning l t w k s) in
      let p = q.sigs n (or_left (n == n) (list_any (is_sig_on n) ds) (eq-eqb n n refl)) in
      let b = and_parts (has_mode can_signal t h) (signals t h == waits t h) p.1 in
      by (is_live t h) (has_mode can_signal t h) (is_some x && not (has_mode can_single t h))
      (signals t h == waits t h) (is_other_proposed x (signals t h) h) p.0 b.0 (single_mode x q) b.1
    where
      single_mode : (y : Option ℕ) → Turning t w (Phaser n (Sig t y) ∷ ds)
          → (is_some y && not (has_mode can_single t (phaser_past n w))) ≡ false
      single_mode None q = refl
      single_mode (Some v) q =
          ap (λ b. not b) (q.singles n (or_left (n == n) (list_any (is_single_on n) ds) (eq-eqb n n refl)))

      by : (a b c d e : Bool) → a ≡ true → b ≡ true → c ≡ false → d ≡ true
          → (first_refusal ((NotRegistered, a) ∷ (NoSignal, b) ∷ (NoSingle, not c) ∷ (AlreadySignalled, d)
          ∷ (SingleMismatch, not e) ∷ []) ≡ None)
          ⊎ (first_refusal ((NotRegistered, a) ∷ (NoSignal, b) ∷ (NoSingle, not c) ∷ (AlreadySignalled, d)
          ∷ (SingleMismatch, not e) ∷ []) ≡ Some SingleMismatch)
      by a b c d true x y z u = inr (rw (x, y, z, u) refl)
      by a b c d false x y z u = inl (rw (x, y, z, u) refl)

  -- so it has to wait, or it is done, or its number is another, or there is no room
  pub of_sig : (n : ℕ) (x : Option ℕ) (ds : List WorldEvent) → moves_act (last_entry t w) ≡ true
      → due t w ≡ Phaser n (Sig t x) ∷ ds → Outcome l t w
  of_sig n x ds s here =
      let e = Phaser n (Sig t x) in
      let h = phaser_past n w in
      let next = next_is l w t going e ds here in
      let room = has_room l (Signalled t x ∷ h) in
      let first = first_refusal (conditions l (terms_of n w) h (signal t x)) in
      let near = is_within_bound (terms_of n w).bound (signals t h) h in
      elim (sig_causes n x ds s here) [
        | inr mismatch ↦
            inl (fails_7 l w t going e next
            (ap (λ o. is_refused_by 7 (returned h (decided o (not near) room (Signalled t x)))) mismatch))
        | inl agreed ↦
            elim (cases_Bool near) [
              | inr far ↦
                  let q : Turning t w (e ∷ ds) = subst (λ xs. Turning t w xs) here (turning l t w k s) in
                  let p = q.sigs n (or_left (n == n) (list_any (is_sig_on n) ds) (eq-eqb n n refl)) in
                  inr (inl (record {
                    on = n;
                    live = p.0;
                    how = inr (record {
                      number = x;
                      rest = ds;
                      is = here;
                      behind = p.1;
                      causeless = agreed;
                      held = far;
                    });
                  }))
              | inl keeps ↦
                  elim (made_or_full h first (not near) room (Signalled t x) agreed (ap (λ b. not b) keeps)) [
                    | inl made ↦
                        inl (able_by l w t going e refl (part_accepted l w t going e
                        (and_from (n == n) (t == t && same_number x x) (eq-eqb n n refl) (and_from (t == t)
                        (same_number x x) (eq-eqb t t refl) (same_self x))) refl next made))
                    | inr full ↦ inl (fails_15 l w t going e next full)
                  ]
            ]
      ]
    where
      same_self : (y : Option ℕ) → same_number y y ≡ true
      same_self None = refl
      same_self (Some v) = eq-eqb v v refl

  -- a claim that may be made is made
  pub claim_made : (n : ℕ) → is_permitted l (terms_of n w) (phaser_past n w) (Claimed t) ≡ true
      → is_made (phaser_reply l w n (Claim t)) ≡ true
  claim_made n y =
      subst (λ r. is_made (returned (phaser_past n w) r) ≡ true)
      (sym ((singles_are_answered (story_of l n w) (phasers_legal l w k n) t).0 y)) refl

  -- and so is a report
  pub report_made : (n : ℕ) → is_permitted l (terms_of n w) (phaser_past n w) (Done t) ≡ true
      → is_made (phaser_reply l w n (Did t)) ≡ true
  report_made n y =
      let h = phaser_past n w in
      let f = did_follows l (terms_of n w) h t y in
      let room = (singles_have_room l (terms_of n w) h (phasers_legal l w k n) t).1 y in
      answered h (is_live t h) (has_claimed t (waits t h) h) (is_done (waits t h) h)
      (has_room l (Done t ∷ h)) f.live f.claimed f.undone room
    where
      answered : (h : List Event) (a b c room : Bool) → a ≡ true → b ≡ true → c ≡ false → room ≡ true
          → is_made (returned h (decided (cond a (cond b (cond (not c) None (Some NotNow)) (Some NotNow))
          (Some NotRegistered)) false room (Done t))) ≡ true
      answered h a b c room p q r s = rw (p, q, r, s) refl

  -- a pass that is due is of a phaser on which the task is live and not behind
  pub pass_stands : (n : ℕ) (ds : List WorldEvent) → moves_act (last_entry t w) ≡ true → due t w ≡ Phaser n
      (Pass t) ∷ ds → (is_live t (phaser_past n w) ≡ true) × (is_behind t (phaser_past n w) ≡ false)
  pass_stands n ds s here =
      let h = phaser_past n w in
      let q : Turning t w (Phaser n (Pass t) ∷ ds) = subst (λ xs. Turning t w xs) here (turning l t w k s) in
      let m : Moves t (Phaser n (Pass t) ∷ ds) = subst (λ xs. Moves t xs) here (moves l t w k s) in
      let none =
      not-true (list_any is_any_sig ds)
      (and_parts (not (list_any is_any_sig ds)) (sigs_first ds) m.first).0 in
      let p = q.passes n (or_left (n == n) (list_any (is_pass_on n) ds) (eq-eqb n n refl)) in
      (p.0, false_from_ne_true (is_behind t h) (λ b. true≢false (sym (any_sig t w ds n n ds (p.1 b)) ∙ none)))

  -- so it meets each condition
  pub pass_causeless : (n : ℕ) → is_live t (phaser_past n w) ≡ true → is_behind t (phaser_past n w) ≡ false
      → first_refusal (conditions l (terms_of n w) (phaser_past n w) (pass t)) ≡ None
  pass_causeless n live ahead =
      let h = phaser_past n w in
      no_cause (is_live t h) (has_mode can_signal t h) (signals t h == waits t h + 1) live
      (has_signalled (cases_Bool (has_mode can_signal t h)))
    where
      no_cause : (a b c : Bool) → a ≡ true → (not b || c) ≡ true
          → cond a (cond (not b || c) None (Some NotSignalled)) (Some NotRegistered) ≡ None
      no_cause a b c x y = rw (x, y) refl

      has_signalled : ((has_mode can_signal t (phaser_past n w) ≡ true)
          ⊎ (has_mode can_signal t (phaser_past n w) ≡ false))
          → (not (has_mode can_signal t (phaser_past n w))
          || (signals t (phaser_past n w) == waits t (phaser_past n w) + 1)) ≡ true
      has_signalled (inr no_signaller) = rw no_signaller refl
      has_signalled (inl signaller) =
          elim (at_or_ahead l (terms_of n w) (phaser_past n w) (phasers_legal l w k n) t signaller) [
            | inl same ↦
                absurd (true≢false (sym (and_from (has_mode can_signal t (phaser_past n w))
                (signals t (phaser_past n w) == waits t (phaser_past n w)) signaller
                (eq-eqb (signals t (phaser_past n w)) (waits t (phaser_past n w)) same)) ∙ ahead))
            | inr one ↦
                rw (signaller, eq-eqb (signals t (phaser_past n w)) (waits t (phaser_past n w) + 1) one) refl
          ]

  -- what is next where a pass is due
  pub next_by : (n : ℕ) (ds : List WorldEvent) (b c : Bool) → due t w ≡ Phaser n (Pass t) ∷ ds
      → is_permitted l (terms_of n w) (phaser_past n w) (Claimed t) ≡ b
      → is_permitted l (terms_of n w) (phaser_past n w) (Done t) ≡ c
      → next_event l t w ≡ Some (cond b (Phaser n (Claim t)) (cond c (Phaser n (Did t)) (Phaser n (Pass t))))
  next_by n ds b c here x y =
      next_is l w t going (Phaser n (Pass t)) ds here
      ∙ (ap (λ z. Some (cond z (Phaser n (Claim t)) (cond (is_permitted l (terms_of n w) (phaser_past n w)
      (Done t)) (Phaser n (Did t)) (Phaser n (Pass t))))) x
      ∙ ap (λ z. Some (cond b (Phaser n (Claim t)) (cond z (Phaser n (Did t)) (Phaser n (Pass t))))) y)

  self : (n : ℕ) → ((n == n) && (t == t)) ≡ true
  self n = and_from (n == n) (t == t) (eq-eqb n n refl) (eq-eqb t t refl)

  passes : (n : ℕ) (ds : List WorldEvent) → due t w ≡ Phaser n (Pass t) ∷ ds
      → is_live t (phaser_past n w) ≡ true → is_behind t (phaser_past n w) ≡ false
      → is_permitted l (terms_of n w) (phaser_past n w) (Claimed t) ≡ false
      → is_permitted l (terms_of n w) (phaser_past n w) (Done t) ≡ false → Outcome l t w
  passes n ds here live ahead no_claim no_did =
      let e = Phaser n (Pass t) in
      let h = phaser_past n w in
      let waiting =
      has_mode can_wait t h && not (is_permitted l (terms_of n w) h (Passed t))
      && not (is_permitted l (terms_of n w) h (Claimed t)) in
      let event = phaser.event_for l (terms_of n w) h (pass t) in
      let next = next_by n ds false false here no_claim no_did in
      elim (cases_Bool waiting) [
        | inl y ↦
            let z =
            and_parts (has_mode can_wait t h && not (is_permitted l (terms_of n w) h (Passed t)))
            (not (is_permitted l (terms_of n w) h (Claimed t))) y in
            let v = and_parts (has_mode can_wait t h) (not (is_permitted l (terms_of n w) h (Passed t))) z.0 in
            inr (inl (record {
              on = n;
              live = live;
              how = inl (record {
                rest = ds;
                is = here;
                signalled = ahead;
                waiter = v.0;
                no_pass = not-true (is_permitted l (terms_of n w) h (Passed t)) v.1;
                no_claim = no_claim;
                no_did = no_did;
              });
            }))
        | inr y ↦
            elim (made_or_full h (first_refusal (conditions l (terms_of n w) h (pass t))) waiting
            (has_room l (event ∷ h)) event (pass_causeless n live ahead) y) [
              | inl made ↦
                  inl (able_by l w t going e refl (part_accepted l w t going e (self n) refl next made))
              | inr full ↦ inl (fails_15 l w t going e next full)
            ]
      ]

  -- a pass, or what comes before it
  pub of_pass : (n : ℕ) (ds : List WorldEvent) → moves_act (last_entry t w) ≡ true
      → due t w ≡ Phaser n (Pass t) ∷ ds → Outcome l t w
  of_pass n ds s here =
      let h = phaser_past n w in
      let p = pass_stands n ds s here in
      elim (cases_Bool (is_permitted l (terms_of n w) h (Claimed t))) [
        | inl claim ↦
            let next = next_by n ds true (is_permitted l (terms_of n w) h (Done t)) here claim refl in
            inl (able_by l w t going (Phaser n (Claim t)) refl
            (part_accepted l w t going (Phaser n (Claim t)) (self n) refl next (claim_made n claim)))
        | inr no_claim ↦
            elim (cases_Bool (is_permitted l (terms_of n w) h (Done t))) [
              | inl did ↦
                  inl (able_by l w t going (Phaser n (Did t)) refl
                  (part_accepted l w t going (Phaser n (Did t)) (self n) refl
                  (next_by n ds false true here no_claim did) (report_made n did)))
              | inr no_did ↦ passes n ds here p.0 p.1 no_claim no_did
            ]
      ]
