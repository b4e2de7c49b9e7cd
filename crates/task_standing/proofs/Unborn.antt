-- A child before its birth, and its parent where it is never born.
use Rattle.std.proofs.Common.{◌≡◌, ℕ, ◌+◌, ◌==◌, Bool, true, false, ◌&&◌, ◌||◌, not, cond, List, [], ◌∷◌, ◌++◌, map, reverse, Some, None, refl, sym, ap, subst, ◌∙◌, inl, inr}
use Rattle.std.specs.Prelude.{filter, filter_map, find, drop}
use Rattle.std.specs.List.{list_any, cons_option}
use Rattle.std.proofs.lemmas.Bool.{cases_Bool, eqb-true, eq-eqb, true≢false, false_from_ne_true, and_right}
use Rattle.std.proofs.lemmas.List.Sums.{sum_by-cons}
use Rattle.phase_modes.specs.declared.limits.Limits.{Limits}
use Rattle.phase_modes.specs.Mode.{can_signal}
use Rattle.phase_model.specs.Tasks.{is_live, is_dropped, has_mode}
use Rattle.phase_model.specs.Phases.{waits, signals}
use Rattle.phase_model.proofs.Legal.{RegFollows, parent_signals}
use Rattle.phase_model.proofs.LiveTasks.{has, fresh_not_dropped}
use Rattle.finish_core.specs.Finish.{is_open}
use Rattle.finish_core.specs.declared.event.FinishEvent.TheVariants.{Opened, Spawned}
use Rattle.world_model.specs.declared.event.Begun.TheVariants.{Async, End}
use Rattle.world_model.specs.declared.event.Step.TheVariants.{Make, Reg, Send, Look}
use Rattle.world_model.specs.declared.event.Tried.TheVariants.{Begun as Beginning, New, Open, Send as Sending, Look as Looking}
use Rattle.world_model.specs.declared.event.WorldEvent.{WorldEvent}
use Rattle.world_model.specs.declared.event.WorldEvent.TheVariants.{Phaser, Finish, Begin, Refuse, Fail}
use Rattle.world_model.specs.Actors.{actor}
use Rattle.world_model.specs.Due.{due, is_idle}
use Rattle.world_model.specs.Parts.{phaser_past, finish_past, terms_of}
use Rattle.world_model.specs.Scopes.{opened_by}
use Rattle.world_model.specs.Tasks.{is_born, spawner, spawns, phasers_of, joined_by, acts, is_act, home}
use Rattle.world_model.specs.Replies.{is_legal_world, is_accepted}
use Rattle.world_model.proofs.AbleComputed.{idle_in_act}
use Rattle.world_model.proofs.AgentOfTask.{touches, agent, untouched, untouched_born, born_once, unborn_idle}
use Rattle.world_model.proofs.BornWhereNamed.{born_named}
use Rattle.world_model.proofs.HeldAreFew.{reg_finds}
use Rattle.world_model.proofs.MadeMeans.{last_accepted}
use Rattle.world_model.proofs.NewlyJoined.{own_joined}
use Rattle.world_model.proofs.OpenFinishes.{opened}
use Rattle.world_model.proofs.OthersLeave.{due_other}
use Rattle.world_model.proofs.PassesInTurns.{idle_is_born}
use Rattle.world_model.proofs.PhasersLegal.{phasers_legal}
use Rattle.world_model.proofs.PhasersOnce.{joins, joined_once}
use Rattle.world_model.proofs.RegistrationsStand.{unregistered}
use Rattle.world_model.proofs.SmallWords.{eq_self}
use Rattle.world_model.proofs.SpawnUnderWay.{names_fresh}
use Rattle.world_model.proofs.TurnsStand.{listed_live}
use Rattle.world_model.proofs.UntouchedStays.{alike, phasers_same}
use Rattle.task_standing.specs.declared.held.Held.{Held}
use Rattle.task_standing.specs.declared.plan.Plan.{Plan}
use Rattle.task_standing.specs.declared.plan.Plan.TheVariants as plan
use Rattle.task_standing.specs.Standing.{handed}
use Rattle.task_standing.specs.StillToMake.{planned, planned_with, drops_of}
use Rattle.task_standing.specs.Histories.{held_in}
use Rattle.task_standing.specs.Children.{ChildrenStartFresh, ChildrenJoin, ChildrenAreBorn, UnbornStay, OthersLeaveWith, ParentsGoOnAlone}
use Rattle.task_standing.proofs.Kept.{holding_kept, map_same}
use Rattle.task_standing.proofs.Making.{map_last}
use Rattle.task_standing.proofs.Others.{of_by_others}

none_kept : (p : ℕ → Bool) (xs : List ℕ) → ((x : ℕ) → p x ≡ false) → filter p xs ≡ []
none_kept p [] e = refl
none_kept p (x ∷ xs) e = rw (e x) (none_kept p xs e)

pub children_start_fresh : ChildrenStartFresh
children_start_fresh l w q c home pairs legal =
    let e = Begin q (Async c pairs) in
    let a = last_accepted l e w legal in
    let unnamed = names_fresh l w q c pairs a.0 in
    let unborn : is_born c w ≡ false =
    false_from_ne_true (is_born c w) (λ b. true≢false (sym (born_named l c w a.1 b) ∙ unnamed)) in
    let nowhere : (n : ℕ) → is_live c (phaser_past n w) ≡ false =
    λ n. ap (λ r. r && not (is_dropped c (phaser_past n w))) (unregistered l w q c pairs a.1 a.0 n) in
    record {
      unborn = unborn;
      holding =
          ap (λ ns. map (held_in (e ∷ w) c) ns)
          (sym (none_kept (λ n. is_live c (phaser_past n w)) (reverse (filter_map (joined_by c) w)) nowhere));
      finishes = refl;
      acts = refl;
      plan = refl;
    }

-- what is found of a phaser is what the history says of it
found_is : (w : List WorldEvent) (q n : ℕ) (ns : List ℕ) (h : Held)
    → find (λ g. g.phaser == n) (map (held_in w q) ns) ≡ Some h → h ≡ held_in w q n
found_is w q n [] h e = absurd cc
found_is w q n (i ∷ ns) h e =
    elim (cases_Bool (i == n)) [
      | inl s ↦ sym (same (held_in w q i) h (sym (rw s refl) ∙ e)) ∙ ap (λ j. held_in w q j) (eqb-true i n s)
      | inr s ↦ found_is w q n ns h (sym (rw s refl) ∙ e)
    ]
  where
    same : (x y : Held) → Some x ≡ Some y → x ≡ y
    same x y e = cc

-- a child is ahead where its parent is, if it can signal
handed_ahead : (a b d : Bool) → (a ≡ true → b ≡ true) → ((b && d) && a) ≡ (a && d)
handed_ahead true b d k = rw (k refl) (alone d)
  where
    alone : (d : Bool) → (d && true) ≡ d
    alone true = refl
    alone false = refl
handed_ahead false b d k = and_right (b && d) false refl

pub children_join : ChildrenJoin
children_join l w child k n m h legal finds st un =
    let c = child.number in
    let q = k.number in
    let e = Phaser n (Reg q c m) in
    let a = last_accepted l e w legal in
    let p = phaser_past n w in
    let f : RegFollows l p q c m = reg_finds l w n q c m a.0 in
    let gone : is_dropped c p ≡ false = fresh_not_dropped l (terms_of n w) p c (phasers_legal l w a.1 n) f.unknown in
    let none : joins c n w ≡ 0 = joined_once l w a.1 c n ∙ ap (λ b. cond b 1 0) f.unknown in
    let joined : phasers_of c (e ∷ w) ≡ phasers_of c w ++ n ∷ [] =
    own_joined c n (Reg q c m) w (rw (eq_self c) refl) (rw (eq_self n, eq_self c, gone) refl) none in
    let elsewhere : (i : ℕ) → has i (phasers_of c w) ≡ true → (n == i) ≡ false =
    λ i g. false_from_ne_true (n == i) (λ s.
    let live = listed_live l c w a.1 i g in
    let not_there : is_live c p ≡ false = ap (λ r. r && not (is_dropped c p)) f.unknown in
    true≢false (sym live ∙ subst (λ v. is_live c (phaser_past v w) ≡ false) (eqb-true n i s) not_there)) in
    let kept : (i : ℕ) → has i (phasers_of c w) ≡ true → held_in w c i ≡ held_in (e ∷ w) c i =
    λ i g. rw (elsewhere i g) refl in
    let before : map (held_in w c) (phasers_of c w) ≡ map (held_in (e ∷ w) c) (phasers_of c w) =
    map_same (held_in w c) (held_in (e ∷ w) c) (phasers_of c w) kept in
    let by : h ≡ held_in w q n = found_is w q n (phasers_of q w) h (ap (λ hs. find (λ g. g.phaser == n) hs) (sym st.holding) ∙ finds) in
    let leads : ((has_mode can_signal q p && not (signals q p == waits q p)) && can_signal m) ≡ (can_signal m && not (signals q p == waits q p)) =
    handed_ahead (can_signal m) (has_mode can_signal q p) (not (signals q p == waits q p)) (parent_signals q m p f.within) in
    let here : handed m (held_in w q n) ≡ held_in (e ∷ w) c n =
    rw (eq_self n, eq_self c) (ap (λ b. record (held_in w q n) { mode = m; ahead = b }) leads) in
    record {
      unborn = un.unborn;
      holding =
          ap (λ hs. hs ++ handed m h ∷ []) (un.holding ∙ before)
          ∙ (ap (λ g. map (held_in (e ∷ w) c) (phasers_of c w) ++ handed m g ∷ []) by
          ∙ (ap (λ g. map (held_in (e ∷ w) c) (phasers_of c w) ++ g ∷ []) here
          ∙ (sym (map_last (held_in (e ∷ w) c) (phasers_of c w) n)
          ∙ ap (λ ns. map (held_in (e ∷ w) c) ns) (sym joined))));
      finishes = un.finishes;
      acts = un.acts;
      plan = un.plan;
    }

-- who isn't born opens nothing, and begins no act
another : (l : Limits) (w : List WorldEvent) (c u : ℕ) → is_born c w ≡ false → is_idle u w ≡ true → (u == c) ≡ false
another l w c u b i =
    false_from_ne_true (u == c) (λ s. true≢false (sym (subst (λ v. is_born v w ≡ true) (eqb-true u c s) (idle_is_born u w i)) ∙ b))

opens_none : (l : Limits) (w : List WorldEvent) (c : ℕ) (e : WorldEvent) → is_born c w ≡ false → is_accepted l w e ≡ true
    → opened_by c e ≡ None
opens_none l w c (Finish f (Opened u)) b a = rw (another l w c u b (idle_in_act l w u (Open f) a)) refl
opens_none l w c e b a = refl

begins_none : (l : Limits) (w : List WorldEvent) (c : ℕ) (e : WorldEvent) → is_born c w ≡ false → is_accepted l w e ≡ true
    → is_act c e ≡ false
begins_none l w c (Phaser n (Make u m terms)) b a = another l w c u b (idle_in_act l w u (New n m terms) a)
begins_none l w c (Phaser n (Send u i v)) b a = another l w c u b (idle_in_act l w u (Sending n i v) a)
begins_none l w c (Phaser n (Look u i)) b a = another l w c u b (idle_in_act l w u (Looking n i) a)
begins_none l w c (Phaser n s) b a = refl
begins_none l w c (Finish f (Opened u)) b a = another l w c u b (idle_in_act l w u (Open f) a)
begins_none l w c (Finish f s) b a = refl
begins_none l w c (Begin u End) b a = refl
begins_none l w c (Begin u d) b a = another l w c u b (idle_in_act l w u (Beginning d) a)
begins_none l w c (Refuse u d n) b a = refl
begins_none l w c (Fail u n) b a = refl

earlier : (c : ℕ) (e : WorldEvent) (w : List WorldEvent) → is_born c (e ∷ w) ≡ false → is_born c w ≡ false
earlier c e w b = by (c == 0) (spawns c e) (list_any (spawns c) w) b
  where
    by : (x y z : Bool) → (x || (y || z)) ≡ false → (x || z) ≡ false
    by true y z k = k
    by false true z k = absurd (true≢false k)
    by false false z k = k

nothing_opened : (l : Limits) (w : List WorldEvent) (c : ℕ) → is_legal_world l w ≡ true → is_born c w ≡ false → opened c w ≡ []
nothing_opened l [] c k b = refl
nothing_opened l (e ∷ w) c k b =
    let a = last_accepted l e w k in
    let before = earlier c e w b in
    ap (λ o. cons_option o (opened c w)) (opens_none l w c e before a.0) ∙ nothing_opened l w c a.1 before

nothing_begun : (l : Limits) (w : List WorldEvent) (c : ℕ) → is_legal_world l w ≡ true → is_born c w ≡ false → acts c w ≡ 0
nothing_begun l [] c k b = refl
nothing_begun l (e ∷ w) c k b =
    let a = last_accepted l e w k in
    let before = earlier c e w b in
    sum_by-cons (λ d. cond (is_act c d) 1 0) e w
    ∙ (ap (λ x. cond x 1 0 + acts c w) (begins_none l w c e before a.0) ∙ ap (λ i. 0 + i) (nothing_begun l w c a.1 before))

pub children_are_born : ChildrenAreBorn
children_are_born l w child legal un =
    let c = child.number in
    let e = Finish child.home (Spawned c) in
    let a = last_accepted l e w legal in
    let idle : due c w ≡ [] = unborn_idle l c w a.1 un.unborn in
    record {
      of = record {
        holding = un.holding;
        finishes =
            un.finishes ∙ ap (λ fs. filter (λ f. is_open (finish_past f (e ∷ w))) fs) (sym (nothing_opened l w c a.1 un.unborn));
        home = rw (eq_self c) refl;
        acts = un.acts ∙ sym (nothing_begun l w c a.1 un.unborn);
      };
      due_is = still (spawner c w == c) (due c w) idle ∙ ap (λ p. planned child p) (sym un.plan);
    }
  where
    still : (b : Bool) (ds : List WorldEvent) → ds ≡ [] → cond (b && true) (drop 1 ds) ds ≡ []
    still true ds e = ap (λ es. drop 1 es) e
    still false ds e = e

pub unborn_stay : UnbornStay
unborn_stay l e w child legal o un =
    let c = child.number in
    let a = last_accepted l e w legal in
    let by : agent c w ≡ spawner c w = rw un.unborn refl in
    let u : touches c e ≡ false = untouched l w a.1 e c (spawner c w) a.0 by o in
    record {
      unborn = not_now (spawns c e) (no_birth e o) un.unborn;
      holding = un.holding ∙ holding_kept l e w c a.0 a.1 (phasers_same c e w u) (λ n v. alike c n e w u);
      finishes = un.finishes;
      acts = un.acts;
      plan = un.plan;
    }
  where
    no_birth : (d : WorldEvent) → (actor w d == spawner child.number w) ≡ false → spawns child.number d ≡ false
    no_birth (Finish f (Spawned u)) o =
        false_from_ne_true (u == child.number) (λ s.
        true≢false (sym (eq-eqb (spawner u w) (spawner child.number w) (ap (λ v. spawner v w) (eqb-true u child.number s))) ∙ o))
    no_birth d o = refl

    not_now : (b : Bool) → b ≡ false → is_born child.number w ≡ false
        → (child.number == 0 || (b || list_any (spawns child.number) w)) ≡ false
    not_now b n k = rw n k

pub others_leave_with : OthersLeaveWith
others_leave_with l e w child k legal born o st =
    let a = last_accepted l e w legal in
    let t = k.number in
    record {
      of = of_by_others l e w k legal o (untouched_born l w a.1 e t a.0 born o) (born_once l w e t a.1 a.0 born) st.of;
      due_is = due_other t e w o ∙ st.due_is;
    }

pub parents_go_on_alone : ParentsGoOnAlone
parents_go_on_alone w child k none st = record { of = st.of; due_is = st.due_is ∙ by k.plan }
  where
    by : (p : Plan) → planned_with child k p ≡ planned k p
    by plan.Ending = ap (λ hs. drops_of child.number hs ++ planned k plan.Ending) none
    by plan.Idle = refl
    by (plan.Signalling x b) = refl
    by (plan.Turning i) = refl
    by (plan.Spawning d ps i) = refl
    by plan.Shutting = refl
