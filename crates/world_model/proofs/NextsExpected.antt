-- What continues a task's act is refused for a few reasons only.
use Rattle.std.proofs.Common.{◌≡◌, ℕ, Bool, true, false, ◌&&◌, ◌||◌, ◌==◌, not, nat_lt, cond, List, [], ◌∷◌, Option, Some, None, refl, sym, subst, ap, ◌∙◌, inl, inr}
use Rattle.std.specs.Prelude.{Result, Ok, Err, slice_get, option_map}
use Rattle.std.specs.List.{list_all}
use Rattle.std.proofs.lemmas.Bool.{and_parts, or_cases, or_left, cases_Bool, eqb-true, eq-eqb, not-true, false≢true}
use Rattle.phase_modes.specs.Lists.{is_empty}
use Rattle.phase_modes.specs.declared.reg.Mode.{Mode}
use Rattle.phase_modes.specs.declared.limits.Limits.{Limits}
use Rattle.phase_modes.specs.declared.refusal.Refusal.{Refusal}
use Rattle.phase_modes.specs.declared.refusal.Refusal.TheVariants.{NotRegistered, MoreThanParent, TasksFull, RegisteredTwice, RegsFull, NotNow}
use Rattle.phase_modes.specs.Refusal.{first_refusal}
use Rattle.phase_model.specs.declared.history.Event.{Event}
use Rattle.phase_model.specs.declared.history.Event.TheVariants.{Reg as Registered, Sig as Signalled, Claim as Claimed, Did as Done}
use Rattle.phase_model.specs.Tasks.{is_registered, is_live, live_count}
use Rattle.phase_model.specs.Conditions.{is_within_task}
use Rattle.phase_model.specs.Rules.{is_permitted, has_room}
use Rattle.phase_model.specs.Replies as phaser
use Rattle.phase_model.specs.declared.call.Call.TheVariants.{Signal as signal}
use Rattle.phase_model.specs.Conditions.{conditions}
use Rattle.phase_model.specs.declared.call.Call.TheVariants.{Pass as pass}
use Rattle.phase_model.specs.Replies.{decided}
use Rattle.phase_model.proofs.LiveTasks.{has}
use Rattle.finish_core.specs.declared.event.FinishEvent.TheVariants.{Spawned, Ended, Shut as Shutting}
use Rattle.finish_core.specs.Finish.{is_open, all_ended}
use Rattle.finish_core.specs.Replies.{done_unless}
use Rattle.world_model.specs.declared.event.Step.TheVariants.{Reg, Sig, Claim, Did, Pass, Drop}
use Rattle.world_model.specs.declared.event.WorldEvent.{WorldEvent}
use Rattle.world_model.specs.declared.event.WorldEvent.TheVariants.{Phaser, Finish}
use Rattle.world_model.specs.declared.reply.Reply.{Reply}
use Rattle.world_model.specs.declared.reply.Reply.TheVariants.{NotYet}
use Rattle.world_model.specs.Parts.{terms_of, phaser_past, finish_past}
use Rattle.world_model.specs.Tasks.{home, is_born, is_ended}
use Rattle.world_model.specs.Scopes.{inner, owner, open_finishes, enclosing}
use Rattle.world_model.specs.Actors.{actor}
use Rattle.world_model.specs.Due.{due, before_pass, or_single}
use Rattle.world_model.specs.PartReplies.{returned, finish_returned, finish_reply}
use Rattle.world_model.specs.Replies.{is_made, is_legal_world}
use Rattle.world_model.specs.Continuing.{next_done}
use Rattle.world_model.specs.TaskConditions.{last_entry}
use Rattle.world_model.specs.ProgressLaws.{is_expected, NextsAreExpected}
use Rattle.world_model.proofs.SpawnUnderWay.{begins_spawn, is_spawn_list, spawn_due, named_by_spawn}
use Rattle.world_model.proofs.AgentOfTask.{unborn_idle}
use Rattle.world_model.proofs.PairsAsked.{MayJoin, may_join}
use Rattle.world_model.proofs.RegistrationsStand.{spawn_stands}
use Rattle.world_model.proofs.OpenFinishes.{open_is_own}
use Rattle.world_model.proofs.LeavingList.{ends_act, is_drop, last_of}
use Rattle.world_model.proofs.LeavingAlways.{tail_first}
use Rattle.world_model.proofs.ShutterDropsFirst.{shuts_act}
use Rattle.world_model.proofs.LeavesAtEnds.{is_leave, leaves_act, end_left, shut_left, shut_is_own, root_owner}
use Rattle.world_model.proofs.SignalsComeFirst.{moves_act, is_move, moves}
use Rattle.world_model.proofs.DropsStandAlways.{leaves_only}
use Rattle.world_model.proofs.HomesOpen.{root_open, spawn_fits}
use Rattle.world_model.proofs.MadeOrGivesUp.{event_made}
use Rattle.world_model.proofs.AbleOrWaits.{spawn_made, sig_causes, claim_made, report_made, pass_stands, pass_causeless}
use Rattle.world_model.proofs.OutcomeOfEach.{drop_made, end_made, kinds, nothing_other}

made_expected : (r : Result Reply Refusal) → is_made r ≡ true → is_expected r ≡ true
made_expected (Ok x) k = refl
made_expected (Err r) k = absurd (false≢true k)

-- a call without a cause is done, or has to wait, or has no room
room_expected : (h : List Event) (o : Option Refusal) (waiting room : Bool) (e : Event) → o ≡ None
    → is_expected (returned h (decided o waiting room e)) ≡ true
room_expected h o true room e n = rw n refl
room_expected h o false true e n = rw n (made_expected (returned h (phaser.done e)) (event_made h e))
room_expected h o false false e n = rw n refl

module _ (l : Limits) (w : List WorldEvent) (k : is_legal_world l w ≡ true) (t : ℕ)
    (born : is_born t w ≡ true) (going : is_ended t w ≡ false) where
  abbrev IsExpected : WorldEvent → Type 0
  IsExpected e = (actor w e ≡ t) × (is_expected (next_done l w e) ≡ true)

  -- a registration is refused where registrations are at the limit, or there is no room
  of_reg : (n c : ℕ) (m : Mode) (ds : List WorldEvent) → begins_spawn c (last_entry t w) ≡ true
      → due t w ≡ Phaser n (Reg t c m) ∷ ds → IsExpected (Phaser n (Reg t c m))
  of_reg n c m ds s here =
      let e = Phaser n (Reg t c m) in
      let h = phaser_past n w in
      let q : MayJoin t c w (e ∷ ds) = subst (λ xs. MayJoin t c w xs) here (spawn_stands l t c w k s) in
      let j = (and_parts (may_join t c w e) (list_all (may_join t c w) ds) q.each).0 in
      let p3 =
      and_parts (is_live t h && is_within_task m t h && (enclosing n w == inner t w))
      (not (is_registered c h)) j in
      let p2 = and_parts (is_live t h && is_within_task m t h) (enclosing n w == inner t w) p3.0 in
      let p1 = and_parts (is_live t h) (is_within_task m t h) p2.0 in (
        refl,
        by (is_live t h) (is_within_task m t h) (nat_lt c l.tasks) (is_registered c h)
            (nat_lt (live_count h) l.regs) (has_room l (Registered t c m ∷ h)) p1.0 p1.1
            (spawn_fits l t c w k s) (not-true (is_registered c h) p3.1),
      )
    where
      by : (a b d e f room : Bool) → a ≡ true → b ≡ true → d ≡ true → e ≡ false
          → is_expected (returned (phaser_past n w)
          (decided (first_refusal ((NotRegistered, a) ∷ (MoreThanParent, b) ∷ (TasksFull, d)
          ∷ (RegisteredTwice, not e) ∷ (RegsFull, f) ∷ [])) false room (Registered t c m))) ≡ true
      by a b d e true true x y z u = rw (x, y, z, u) refl
      by a b d e true false x y z u = rw (x, y, z, u) refl
      by a b d e false room x y z u = rw (x, y, z, u) refl

  of_child : (c : ℕ) (d : WorldEvent) (ds : List WorldEvent) → begins_spawn c (last_entry t w) ≡ true
      → due t w ≡ d ∷ ds → is_spawn_list t c (d ∷ ds) ≡ true → IsExpected (or_single l w d)
  of_child c (Phaser n (Reg r x m)) ds s here y =
      let z =
      and_parts (r == t) (x == c) (of_this ((r == t) && (x == c)) (is_empty ds) (and_parts
      (((r == t) && (x == c)) && not (is_empty ds) || false) (is_spawn_list t c ds) y).0) in
      let by : r ≡ t = eqb-true r t z.0 in
      let child : x ≡ c = eqb-true x c z.1 in
      subst (λ v. IsExpected (Phaser n (Reg v x m))) (sym by)
      (subst (λ v. IsExpected (Phaser n (Reg t v m))) (sym child)
      (of_reg n c m ds s (subst (λ v. due t w ≡ Phaser n (Reg t v m) ∷ ds) child
      (subst (λ v. due t w ≡ Phaser n (Reg v x m) ∷ ds) by here))))
    where
      of_this : (a b : Bool) → ((a && not b) || false) ≡ true → a ≡ true
      of_this true b v = refl
      of_this false b v = absurd (false≢true v)
  of_child c (Finish f (Spawned x)) ds s here y =
      let child : x ≡ c =
      eqb-true x c (and_parts (x == c) (is_empty ds)
      (and_parts ((x == c) && is_empty ds) (is_spawn_list t c ds) y).0).0 in
      subst (λ v. IsExpected (Finish f (Spawned v))) (sym child) (
        (named_by_spawn l t c w k s).1,
        made_expected (finish_reply l w f (Spawned c)) (spawn_made l w k t born
            going c f ds s (subst (λ v. due t w ≡ Finish f (Spawned v) ∷ ds) child here)),
      )
  of_child c d ds s here y = absurd cc

  -- a pass, or a claim or a report before it
  of_turn : (n : ℕ) (ds : List WorldEvent) → moves_act (last_entry t w) ≡ true
      → due t w ≡ Phaser n (Pass t) ∷ ds → IsExpected (before_pass l n t w)
  of_turn n ds s here =
      by (is_permitted l (terms_of n w) (phaser_past n w) (Claimed t))
      (is_permitted l (terms_of n w) (phaser_past n w) (Done t))
      (λ y. made_expected (next_done l w (Phaser n (Claim t))) (claim_made l w k t born going n y))
      (λ y. made_expected (next_done l w (Phaser n (Did t))) (report_made l w k t born going n y))
    where
      pass_expected : is_expected (next_done l w (Phaser n (Pass t))) ≡ true
      pass_expected =
          let h = phaser_past n w in
          let p = pass_stands l w k t born going n ds s here in
          let event = phaser.event_for l (terms_of n w) h (pass t) in
          room_expected h (first_refusal (conditions l (terms_of n w) h (pass t)))
          (phaser.must_wait l (terms_of n w) h (pass t)) (has_room l (event ∷ h)) event
          (pass_causeless l w k t born going n p.0 p.1)

      by : (b c : Bool) → (b ≡ true → is_expected (next_done l w (Phaser n (Claim t))) ≡ true)
          → (c ≡ true → is_expected (next_done l w (Phaser n (Did t))) ≡ true)
          → IsExpected (cond b (Phaser n (Claim t)) (cond c (Phaser n (Did t)) (Phaser n (Pass t))))
      by true c f g = (refl, f refl)
      by false true f g = (refl, g refl)
      by false false f g = (refl, pass_expected)

  of_signal : (n : ℕ) (x : Option ℕ) (ds : List WorldEvent) → moves_act (last_entry t w) ≡ true
      → due t w ≡ Phaser n (Sig t x) ∷ ds → IsExpected (Phaser n (Sig t x))
  of_signal n x ds s here =
      let h = phaser_past n w in
      let room = has_room l (Signalled t x ∷ h) in
      let waiting = phaser.must_wait l (terms_of n w) h (signal t x) in (
        refl,
        elim (sig_causes l w k t born going n x ds s here) [
          | inl agreed ↦
              room_expected h (first_refusal (conditions l (terms_of n w) h (signal t x))) waiting room
              (Signalled t x) agreed
          | inr mismatch ↦ ap (λ o. is_expected (returned h (decided o waiting room (Signalled t x)))) mismatch
        ],
      )

  of_move : (d : WorldEvent) (ds : List WorldEvent) → moves_act (last_entry t w) ≡ true → due t w ≡ d ∷ ds
      → list_all (is_move t) (d ∷ ds) ≡ true → IsExpected (or_single l w d)
  of_move (Phaser n (Sig u x)) ds s here y =
      let same : u ≡ t = eqb-true u t (and_parts (u == t) (list_all (is_move t) ds) y).0 in
      subst (λ v. IsExpected (Phaser n (Sig v x))) (sym same)
      (of_signal n x ds s (subst (λ v. due t w ≡ Phaser n (Sig v x) ∷ ds) same here))
  of_move (Phaser n (Pass u)) ds s here y =
      let same : u ≡ t = eqb-true u t (and_parts (u == t) (list_all (is_move t) ds) y).0 in
      subst (λ v. IsExpected (before_pass l n v w)) (sym same)
      (of_turn n ds s (subst (λ v. due t w ≡ Phaser n (Pass v) ∷ ds) same here))
  of_move d ds s here y = absurd cc

  -- a shut of an open finish is made or has to wait
  of_shut : (f : ℕ) → owner f w ≡ t → is_open (finish_past f w) ≡ true → IsExpected (Finish f Shutting)
  of_shut f by opened = (by, answered (is_open (finish_past f w)) (all_ended (finish_past f w)) opened)
    where
      answered : (a b : Bool) → a ≡ true → is_expected
          (cond b (finish_returned (done_unless (first_refusal ((NotNow, a && b) ∷ [])))) (Ok NotYet)) ≡ true
      answered a true x = rw x refl
      answered a false x = refl

  of_last : (e : WorldEvent) → e ≡ last_of t w → IsExpected e
  of_last e last =
      elim (cases_Bool (t == 0)) [
        | inl z ↦
            let zero : t ≡ 0 = eqb-true t 0 z in
            let is : e ≡ Finish 0 Shutting =
            last ∙ ap (λ b. cond b (Finish 0 Shutting) (Finish (home t w) (Ended t))) z in
            subst (λ c. IsExpected c) (sym is) (of_shut 0 (root_owner l w k ∙ sym zero)
            (root_open l w k (subst (λ v. is_ended v w ≡ false) zero going)))
        | inr z ↦
            let is : e ≡ Finish (home t w) (Ended t) =
            last ∙ ap (λ b. cond b (Finish 0 Shutting) (Finish (home t w) (Ended t))) z in
            subst (λ c. IsExpected c) (sym is)
            (refl, made_expected (finish_reply l w (home t w) (Ended t)) (end_made l w k t born going z))
      ]

  of_finish : (e : WorldEvent) (ds : List WorldEvent) → leaves_act (last_entry t w) ≡ true → due t w ≡ e ∷ ds
      → is_drop e ≡ false → IsExpected e
  of_finish e ds s here n =
      elim (or_cases (ends_act (last_entry t w)) (shuts_act (last_entry t w)) s) [
        | inl q ↦
            elim (tail_first e (last_of t w) ds (open_finishes t w) (end_left l t w ds e k here n q)) [
              | inl z ↦ of_last e z.1
              | inr z ↦
                  let own =
                  open_is_own l w k t z.0 (subst (λ fs. has z.0 fs ≡ true) (sym z.2)
                  (or_left (z.0 == z.0) (has z.0 z.1) (eq-eqb z.0 z.0 refl))) in
                  subst (λ c. IsExpected c) (sym z.3) (of_shut z.0 own.0.by own.1)
            ]
        | inr q ↦
            let own = open_is_own l w k t (inner t w) (shut_is_own l t w ds e k here q) in
            subst (λ c. IsExpected c) (sym (shut_left l t w ds e k here n q).0)
            (of_shut (inner t w) own.0.by own.1)
      ]

  of_leave : (d : WorldEvent) (ds : List WorldEvent) → leaves_act (last_entry t w) ≡ true → due t w ≡ d ∷ ds
      → list_all is_leave (d ∷ ds) ≡ true → IsExpected (or_single l w d)
  of_leave (Phaser n (Drop u)) ds s here y =
      let p = drop_made l w k t born going u n ds s here in
      (p.0, made_expected (next_done l w (Phaser n (Drop u))) p.1)
  of_leave (Finish f Shutting) ds s here y = of_finish (Finish f Shutting) ds s here refl
  of_leave (Finish f (Ended u)) ds s here y = of_finish (Finish f (Ended u)) ds s here refl
  of_leave d ds s here y = absurd cc

  by_due : (ds : List WorldEvent) (e : WorldEvent) → due t w ≡ ds
      → option_map (or_single l w) (slice_get ds 0) ≡ Some e → IsExpected e
  by_due [] e here n = absurd cc
  by_due (d ∷ ds) e here n =
      subst (λ c. IsExpected c) (the_same (or_single l w d) e n)
      (elim (kinds (last_entry t w)) [
        | inl s ↦
            of_child s.0 d ds s.1 here
            (subst (λ xs. is_spawn_list t s.0 xs ≡ true) here (spawn_due l t s.0 w k s.1))
        | inr r ↦
            elim r [
              | inl s ↦
                  of_move d ds s here
                  (subst (λ xs. list_all (is_move t) xs ≡ true) here (moves l t w k s).own)
              | inr q ↦
                  elim q [
                    | inl s ↦
                        of_leave d ds s here
                        (subst (λ xs. list_all is_leave xs ≡ true) here (leaves_only l t w k s))
                    | inr s ↦ absurd (some_none d ds (sym here ∙ nothing_other l t w k s))
                  ]
            ]
      ])
    where
      the_same : (a b : WorldEvent) → Some a ≡ Some b → a ≡ b
      the_same a b h = cc

      some_none : (d : WorldEvent) (ds : List WorldEvent) → d ∷ ds ≡ [] → ⊥
      some_none d ds h = absurd cc

-- who isn't born has nothing to continue
no_next : (l : Limits) (t : ℕ) (w ds : List WorldEvent) (e : WorldEvent) → ds ≡ []
    → option_map (or_single l w) (slice_get ds 0) ≡ Some e → ⊥
no_next l t w ds e none n = some_none (sym n ∙ ap (λ xs. option_map (or_single l w) (slice_get xs 0)) none)
  where
    some_none : Some e ≡ None → ⊥
    some_none h = absurd cc

pub nexts_are_expected : NextsAreExpected
nexts_are_expected l w k t e going n =
    elim (cases_Bool (is_born t w)) [
      | inl born ↦ by_due l w k t born going (due t w) e refl n
      | inr b ↦ absurd (no_next l t w (due t w) e (unborn_idle l t w k b) n)
    ]
