-- The same of a task that drops, shuts or ends, and so of each task.
use Rattle.std.proofs.Common.{◌≡◌, ◌⊎◌, ℕ, Bool, true, false, ◌&&◌, ◌||◌, ◌==◌, not, cond, List, [], ◌∷◌, Option, Some, None, refl, sym, subst, ap, ◌∙◌, inl, inr}
use Rattle.std.specs.Prelude.{drop}
use Rattle.std.specs.List.{list_any, list_all}
use Rattle.std.proofs.lemmas.Bool.{and_parts, and_from, or_cases, or_parts, or_left, cases_Bool, eqb-true, eq-eqb, true≢false, false≢true, false_from_ne_true}
use Rattle.phase_modes.specs.Lists.{is_empty}
use Rattle.phase_modes.specs.declared.limits.Limits.{Limits}
use Rattle.phase_modes.specs.declared.refusal.Refusal.TheVariants.{NotRegistered, NotNow}
use Rattle.phase_modes.specs.Refusal.{first_refusal}
use Rattle.phase_model.specs.declared.history.Event.{Event}
use Rattle.phase_model.specs.declared.history.Event.TheVariants.{Drop as Dropped}
use Rattle.phase_model.specs.Tasks.{is_live}
use Rattle.phase_model.specs.Phases.{waits}
use Rattle.phase_model.specs.Singles.{is_proposed, has_proposed, is_done, is_settled, owes_nothing}
use Rattle.phase_model.specs.Rules.{has_room}
use Rattle.phase_model.specs.Replies.{decided}
use Rattle.phase_model.proofs.LiveTasks.{has}
use Rattle.phase_model.proofs.SingleReplies.{singles_have_room}
use Rattle.phase_model.proofs.OwnPhase.{owes_nothing_is}
use Rattle.finish_core.specs.declared.event.FinishEvent.TheVariants.{Ended, Shut as Shutting}
use Rattle.finish_core.specs.Finish.{is_open, is_spawned, has_ended, all_ended}
use Rattle.finish_core.specs.Replies.{done_unless}
use Rattle.world_model.specs.declared.event.Step.TheVariants.{Sig, Pass, Drop}
use Rattle.world_model.specs.declared.event.Begun.TheVariants.{Async, Signal, Wait, Next, NextSingle, Shut, End}
use Rattle.world_model.specs.declared.event.WorldEvent.{WorldEvent}
use Rattle.world_model.specs.declared.event.WorldEvent.TheVariants.{Phaser, Finish, Begin, Refuse, Fail}
use Rattle.world_model.specs.declared.reply.Reply.TheVariants.{NotYet}
use Rattle.std.specs.Prelude.{Ok}
use Rattle.world_model.specs.Parts.{terms_of, phaser_past, finish_past}
use Rattle.world_model.specs.Tasks.{home, spawner, is_born, is_ended}
use Rattle.world_model.specs.Scopes.{inner, owner, open_finishes}
use Rattle.world_model.specs.Due.{due, is_entry, fixed}
use Rattle.world_model.specs.PartReplies.{returned, finish_returned, finish_reply, phaser_reply}
use Rattle.world_model.specs.Replies.{is_made, is_legal_world}
use Rattle.world_model.specs.Able.{is_able}
use Rattle.world_model.specs.TaskConditions.{last_entry}
use Rattle.world_model.proofs.PhasersLegal.{phasers_legal}
use Rattle.world_model.proofs.DueHolds.{due_has}
use Rattle.world_model.proofs.SpawnUnderWay.{begins_spawn, is_spawn_list, spawn_due}
use Rattle.world_model.proofs.AgentOfTask.{agent}
use Rattle.world_model.proofs.LeavingList.{ends_act, is_drop, is_drop_of, last_of}
use Rattle.world_model.proofs.LeavingAlways.{tail_first}
use Rattle.world_model.proofs.OpenFinishes.{open_is_own}
use Rattle.world_model.proofs.ShutterDropsFirst.{shuts_act}
use Rattle.world_model.proofs.LeavesAtEnds.{is_leave, leaves_act, end_left, shut_left, shut_is_own, root_owner}
use Rattle.world_model.proofs.EndedInside.{ended_in, home_spawned}
use Rattle.world_model.proofs.EndingStays.{entry_is_born}
use Rattle.world_model.proofs.SignalsComeFirst.{moves_act, is_move, moves}
use Rattle.world_model.proofs.OwesInTurn.{HasPassLeft, owes_in_turn}
use Rattle.world_model.proofs.DropsStand.{DropsStand}
use Rattle.world_model.proofs.DropsStandAlways.{drops_stand, leaves_only}
use Rattle.world_model.proofs.HomesOpen.{root_open, home_open}
use Rattle.world_model.proofs.MadeOrGivesUp.{able_by, part_accepted, fails_23, next_is}
use Rattle.world_model.proofs.AbleOrWaits.{Outcome, in_spawn, of_sig, of_pass}
use Rattle.world_model.proofs.SmallWords.{head_same}

open_test : (a b : Bool) → (not a || b) ≡ false → (a ≡ true) × (b ≡ false)
open_test true b k = (refl, k)
open_test false b k = absurd (true≢false k)

module _ (l : Limits) (w : List WorldEvent) (k : is_legal_world l w ≡ true) (t : ℕ)
    (born : is_born t w ≡ true) (going : is_ended t w ≡ false) where
  -- who is to be dropped owes nothing: it would have its pass before it
  owes_not : (u n : ℕ) (ds : List WorldEvent) → due t w ≡ Phaser n (Drop u) ∷ ds → agent u w ≡ t
      → owes_nothing u (phaser_past n w) ≡ true
  owes_not u n ds here g =
      let h = phaser_past n w in
      let p = waits u h in
      elim (cases_Bool (owes_nothing u h)) [
        | inl y ↦ y
        | inr y ↦
            let z =
            open_test (has_proposed u p h) (is_settled p h)
            (sym (owes_nothing_is l (terms_of n w) h (phasers_legal l w k n) u) ∙ y) in
            let undone : is_done p h ≡ false = (or_parts (not (is_proposed p h)) (is_done p h) z.1).1 in
            let q : HasPassLeft u n w = owes_in_turn l w k n u p z.0 undone in
            let same : u ≡ t =
            sym (ap (λ b. cond b u (spawner u w)) (entry_is_born l u moves_act w k refl q.0)) ∙ g in
            absurd (drop_or_pass (head_same (Phaser n (Drop u)) (Phaser n (Pass u)) ds []
            (sym here ∙ subst (λ v. due v w ≡ Phaser n (Pass u) ∷ []) same q.1)))
      ]
    where
      drop_or_pass : Phaser n (Drop u) ≡ Phaser n (Pass u) → ⊥
      drop_or_pass h = absurd cc

  drop_facts : (u n : ℕ) (ds : List WorldEvent) → leaves_act (last_entry t w) ≡ true
      → due t w ≡ Phaser n (Drop u) ∷ ds → (agent u w ≡ t) × (is_live u (phaser_past n w) ≡ true)
  drop_facts u n ds s here =
      let q : DropsStand t w (Phaser n (Drop u) ∷ ds) =
      subst (λ xs. DropsStand t w xs) here (drops_stand l t w k s) in
      q.each u n (or_left (n == n && u == u) (list_any (is_drop_of u n) ds)
      (and_from (n == n) (u == u) (eq-eqb n n refl) (eq-eqb u u refl)))

  -- a drop is made, by whom it is due to
  pub drop_made : (u n : ℕ) (ds : List WorldEvent) → leaves_act (last_entry t w) ≡ true
      → due t w ≡ Phaser n (Drop u) ∷ ds → (agent u w ≡ t) × (is_made (phaser_reply l w n (Drop u)) ≡ true)
  drop_made u n ds s here =
      let h = phaser_past n w in
      let p = drop_facts u n ds s here in
      let nothing = owes_not u n ds here p.0 in
      let room =
      (singles_have_room l (terms_of n w) h (phasers_legal l w k n) u).2
      (and_from (is_live u h) (owes_nothing u h) p.1 nothing) in
      (p.0, answered h (is_live u h) (owes_nothing u h) (has_room l (Dropped u ∷ h)) p.1 nothing room)
    where
      answered : (h : List Event) (a b room : Bool) → a ≡ true → b ≡ true → room ≡ true
          → is_made (returned h (decided (cond a (cond b None (Some NotNow)) (Some NotRegistered)) false room
          (Dropped u))) ≡ true
      answered h a b room x y z = rw (x, y, z) refl

  of_drop : (u n : ℕ) (ds : List WorldEvent) → leaves_act (last_entry t w) ≡ true
      → due t w ≡ Phaser n (Drop u) ∷ ds → is_able l w t ≡ true
  of_drop u n ds s here =
      let e = Phaser n (Drop u) in
      let p = drop_made u n ds s here in
      able_by l w t going e p.0
      (part_accepted l w t going e (and_from (n == n) (u == u) (eq-eqb n n refl) (eq-eqb u u refl)) p.0
      (next_is l w t going e ds here) p.1)

  -- a shut of an open finish of its own
  of_shut : (f : ℕ) (ds : List WorldEvent) → due t w ≡ Finish f Shutting ∷ ds → owner f w ≡ t
      → is_open (finish_past f w) ≡ true → Outcome l t w
  of_shut f ds here by opened =
      let e = Finish f Shutting in
      elim (cases_Bool (all_ended (finish_past f w))) [
        | inr y ↦
            inr (inr (record { finish = f; rest = ds; is = here; by = by; opened = opened; waits_for = y }))
        | inl y ↦
            let made : is_made (finish_reply l w f Shutting) ≡ true =
            answered (is_open (finish_past f w)) (all_ended (finish_past f w)) opened y in
            inl (able_by l w t going e by (part_accepted l w t going e
            (and_from (f == f) true (eq-eqb f f refl) refl) by (next_is l w t going e ds here) made))
      ]
    where
      answered : (a b : Bool) → a ≡ true → b ≡ true → is_made
          (cond b (finish_returned (done_unless (first_refusal ((NotNow, a && b) ∷ [])))) (Ok NotYet)) ≡ true
      answered a b x y = rw (x, y) refl

  -- its end in its home is made
  pub end_made : (t == 0) ≡ false → is_made (finish_reply l w (home t w) (Ended t)) ≡ true
  end_made z =
      let f = home t w in
      let h = finish_past f w in
      let running : has_ended t h ≡ false =
      false_from_ne_true (has_ended t h) (λ y. true≢false (sym (ended_in t f w y) ∙ going)) in
      answered (is_open h) (is_spawned t h) (has_ended t h) (home_open l w k t born going)
      (home_spawned l w k t born z) running
    where
      answered : (a b c : Bool) → a ≡ true → b ≡ true → c ≡ false → is_made (finish_returned
          (done_unless (first_refusal ((NotNow, a) ∷ (NotNow, b) ∷ (NotNow, not c) ∷ [])))) ≡ true
      answered a b c x y v = rw (x, y, v) refl

  of_end : (ds : List WorldEvent) → due t w ≡ Finish (home t w) (Ended t) ∷ ds → (t == 0) ≡ false
      → is_able l w t ≡ true
  of_end ds here z =
      let f = home t w in
      let e = Finish f (Ended t) in
      able_by l w t going e refl
      (part_accepted l w t going e (and_from (f == f) (t == t) (eq-eqb f f refl) (eq-eqb t t refl)) refl
      (next_is l w t going e ds here) (end_made z))

  -- its last event
  of_last : (e : WorldEvent) (ds : List WorldEvent) → due t w ≡ e ∷ ds → e ≡ last_of t w → Outcome l t w
  of_last e ds here last =
      elim (cases_Bool (t == 0)) [
        | inl z ↦
            let zero : t ≡ 0 = eqb-true t 0 z in
            let is : e ≡ Finish 0 Shutting =
            last ∙ ap (λ b. cond b (Finish 0 Shutting) (Finish (home t w) (Ended t))) z in
            of_shut 0 ds (subst (λ c. due t w ≡ c ∷ ds) is here) (root_owner l w k ∙ sym zero)
            (root_open l w k (subst (λ v. is_ended v w ≡ false) zero going))
        | inr z ↦
            let is : e ≡ Finish (home t w) (Ended t) =
            last ∙ ap (λ b. cond b (Finish 0 Shutting) (Finish (home t w) (Ended t))) z in
            inl (of_end ds (subst (λ c. due t w ≡ c ∷ ds) is here) z)
      ]

  -- a shut, or its end
  of_finish : (e : WorldEvent) (ds : List WorldEvent) → leaves_act (last_entry t w) ≡ true → due t w ≡ e ∷ ds
      → is_drop e ≡ false → Outcome l t w
  of_finish e ds s here n =
      elim (or_cases (ends_act (last_entry t w)) (shuts_act (last_entry t w)) s) [
        | inl q ↦
            elim (tail_first e (last_of t w) ds (open_finishes t w) (end_left l t w ds e k here n q)) [
              | inl z ↦ of_last e ds here z.1
              | inr z ↦
                  let own =
                  open_is_own l w k t z.0 (subst (λ fs. has z.0 fs ≡ true) (sym z.2)
                  (or_left (z.0 == z.0) (has z.0 z.1) (eq-eqb z.0 z.0 refl))) in
                  of_shut z.0 ds (subst (λ c. due t w ≡ c ∷ ds) z.3 here) own.0.by own.1
            ]
        | inr q ↦
            let left = shut_left l t w ds e k here n q in
            let own = open_is_own l w k t (inner t w) (shut_is_own l t w ds e k here q) in
            of_shut (inner t w) ds (subst (λ c. due t w ≡ c ∷ ds) left.0 here) own.0.by own.1
      ]

  in_leave : (d : WorldEvent) (ds : List WorldEvent) → leaves_act (last_entry t w) ≡ true → due t w ≡ d ∷ ds
      → list_all is_leave (d ∷ ds) ≡ true → Outcome l t w
  in_leave (Phaser n (Drop u)) ds s here y = inl (of_drop u n ds s here)
  in_leave (Finish f Shutting) ds s here y = of_finish (Finish f Shutting) ds s here refl
  in_leave (Finish f (Ended u)) ds s here y = of_finish (Finish f (Ended u)) ds s here refl
  in_leave d ds s here y = absurd cc

  in_move : (d : WorldEvent) (ds : List WorldEvent) → moves_act (last_entry t w) ≡ true → due t w ≡ d ∷ ds
      → list_all (is_move t) (d ∷ ds) ≡ true → Outcome l t w
  in_move (Phaser n (Sig u x)) ds s here y =
      let same : u ≡ t = eqb-true u t (and_parts (u == t) (list_all (is_move t) ds) y).0 in
      of_sig l w k t born going n x ds s (subst (λ v. due t w ≡ Phaser n (Sig v x) ∷ ds) same here)
  in_move (Phaser n (Pass u)) ds s here y =
      let same : u ≡ t = eqb-true u t (and_parts (u == t) (list_all (is_move t) ds) y).0 in
      of_pass l w k t born going n ds s (subst (λ v. due t w ≡ Phaser n (Pass v) ∷ ds) same here)
  in_move d ds s here y = absurd cc

-- the kinds of acts
abbrev other_act : Option WorldEvent → Bool
other_act (Some (Begin t b)) = false
other_act (Some (Refuse t a n)) = false
other_act (Some (Fail t n)) = false
other_act _ = true

pub nothing_other : (l : Limits) (t : ℕ) (w : List WorldEvent) → is_legal_world l w ≡ true
    → other_act (last_entry t w) ≡ true → due t w ≡ []
nothing_other l t w k q =
    due_has l t other_act (λ ds. ds ≡ []) refl (λ ds p. ap (λ xs. drop 1 xs) p)
    (λ e v h x y. no_entry e v x y) w k q
  where
    no_entry : (e : WorldEvent) (v : List WorldEvent) → is_entry t e ≡ true
        → other_act (Some e) ≡ true → fixed e v ≡ []
    no_entry (Phaser m s) v x y = refl
    no_entry (Finish f s) v x y = refl
    no_entry (Begin u b) v x y = absurd (false≢true y)
    no_entry (Refuse u b n) v x y = absurd (false≢true y)
    no_entry (Fail u n) v x y = absurd (false≢true y)

pub kinds : (o : Option WorldEvent) → ((c : ℕ) × (begins_spawn c o ≡ true)) ⊎ (moves_act o ≡ true)
    ⊎ (leaves_act o ≡ true) ⊎ (other_act o ≡ true)
kinds (Some (Begin u (Async x ps))) = inl (x, eq-eqb x x refl)
kinds (Some (Begin u Signal)) = inr (inl refl)
kinds (Some (Begin u Wait)) = inr (inl refl)
kinds (Some (Begin u Next)) = inr (inl refl)
kinds (Some (Begin u (NextSingle x))) = inr (inl refl)
kinds (Some (Begin u Shut)) = inr (inr (inl refl))
kinds (Some (Begin u End)) = inr (inr (inl refl))
kinds (Some (Refuse u a n)) = inr (inr (inl refl))
kinds (Some (Fail u n)) = inr (inr (inl refl))
kinds (Some (Phaser m s)) = inr (inr (inr refl))
kinds (Some (Finish f s)) = inr (inr (inr refl))
kinds None = inr (inr (inr refl))

-- a task that goes on is able, or waits at a phaser, or at a shut
pub outcome : (l : Limits) (w : List WorldEvent) → is_legal_world l w ≡ true → (t : ℕ) → is_born t w ≡ true
    → is_ended t w ≡ false → Outcome l t w
outcome l w k t born going = by (due t w) refl
  where
    by : (ds : List WorldEvent) → due t w ≡ ds → Outcome l t w
    by [] here =
        inl (fails_23 l w t going (and_from (is_born t w && not (is_ended t w)) (is_empty (due t w))
        (and_from (is_born t w) (not (is_ended t w)) born (ap (λ b. not b) going))
        (ap (λ ds. is_empty ds) here)))
    by (d ∷ ds) here =
        elim (kinds (last_entry t w)) [
          | inl s ↦
              inl (in_spawn l w k t born going s.0 d ds s.1 here
              (subst (λ xs. is_spawn_list t s.0 xs ≡ true) here (spawn_due l t s.0 w k s.1)))
          | inr r ↦
              elim r [
                | inl s ↦
                    in_move l w k t born going d ds s here
                    (subst (λ xs. list_all (is_move t) xs ≡ true) here (moves l t w k s).own)
                | inr q ↦
                    elim q [
                      | inl s ↦
                          in_leave l w k t born going d ds s here
                          (subst (λ xs. list_all is_leave xs ≡ true) here (leaves_only l t w k s))
                      | inr s ↦ absurd (some_none d ds (sym here ∙ nothing_other l t w k s))
                    ]
              ]
        ]
      where
        some_none : (d : WorldEvent) (ds : List WorldEvent) → d ∷ ds ≡ [] → ⊥
        some_none d ds h = absurd cc
