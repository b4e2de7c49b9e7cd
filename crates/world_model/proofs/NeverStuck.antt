-- Nobody is stuck: among the tasks inside the finish opened last of those that somebody waits to shut, or
-- among all if there is none, one with the least clock can go on.
use Rattle.std.proofs.Common.{◌≡◌, ℕ, zero, suc, ◌+◌, ◌<◌, ◌≤◌, true, false, ◌&&◌, ◌||◌, ◌==◌, not, cond, List, length, refl, sym, subst, ap, ◌∙◌, inl, inr, arith}
use Rattle.std.specs.List.{list_any}
use Rattle.std.proofs.lemmas.Bool.{and_parts, or_cases, or_left, or_right, cases_Bool, eqb-true, eq-eqb, not-true, true≢false, false_from_ne_true}
use Rattle.phase_modes.specs.declared.limits.Limits.{Limits}
use Rattle.phase_model.specs.Tasks.{is_registered, is_dropped, is_live}
use Rattle.phase_model.proofs.LiveTasks.{has}
use Rattle.finish_core.specs.Finish.{is_spawned, has_ended, spawned_tasks}
use Rattle.world_model.specs.declared.event.WorldEvent.{WorldEvent}
use Rattle.world_model.specs.Parts.{phaser_past, finish_past}
use Rattle.world_model.specs.Tasks.{home, spawner, is_born, is_ended}
use Rattle.world_model.specs.Scopes.{owner, enclosing}
use Rattle.world_model.specs.Replies.{is_legal_world}
use Rattle.world_model.specs.Able.{is_able, tasks}
use Rattle.world_model.specs.ProgressLaws.{NobodyIsStuck}
use Rattle.world_model.proofs.OpenFinishes.{opened}
use Rattle.world_model.proofs.AgentOfTask.{agent}
use Rattle.world_model.proofs.SpawnedAtHome.{root_home}
use Rattle.world_model.proofs.RegisteredInScope.{InScope, registered_in_scope}
use Rattle.world_model.proofs.LeavesAtEnds.{root_owner}
use Rattle.world_model.proofs.EndedInside.{root_unspawned, owner_opened, open_begun}
use Rattle.world_model.proofs.ShutsLeaveNobody.{shutter_left}
use Rattle.world_model.proofs.TurnsStand.{none_at}
use Rattle.world_model.proofs.HomesOpen.{spawned_is_born}
use Rattle.world_model.proofs.AbleOrWaits.{WaitsAtPhaser, WaitsToShut}
use Rattle.world_model.proofs.OpenedInOrder.{opened_at, opened_within, owner_before}
use Rattle.world_model.proofs.InsideIsLater.{is_inside, inside_is, inside_after, root_outside, spawned_home, ended_at_home}
use Rattle.world_model.proofs.NoneWaitsAlone.{tasks_born, born_tasks, fails_at, found_in, going_on, listed, goes, none_alone, holder, holder_is, sorted}

module _ (l : Limits) (w : List WorldEvent) (k : is_legal_world l w ≡ true)
    (no_able : (t : ℕ) → is_born t w ≡ true → is_able l w t ≡ true → ⊥) where
  -- nobody waits to shut f: inside it all would wait at phasers, and the one with the least clock could go on
  module _ (o : ℕ) (c : WaitsToShut o w) where
    abbrev within : List ℕ
    within = going_on w (λ s. is_inside c.finish s w)

    -- n's enclosing finish is c's, or one inside it
    in_it : (t n : ℕ) → is_born t w ≡ true → is_inside c.finish t w ≡ true → is_live t (phaser_past n w)
        ≡ true → ((enclosing n w == c.finish) || is_inside c.finish (owner (enclosing n w) w) w) ≡ true
    in_it t n b i v =
        let f = c.finish in
        let h = enclosing n w in
        let self : agent t w ≡ t = ap (λ x. cond x t (spawner t w)) b in
        let root : (t == 0) ≡ false =
        false_from_ne_true (t == 0) (λ z. true≢false
        (sym (subst (λ x. is_inside f x w ≡ true) (eqb-true t 0 z) i) ∙ root_outside l w k f)) in
        let scope : InScope t n w =
        subst (λ q. InScope q n w) self (registered_in_scope l w k t n (and_parts
        (is_registered t (phaser_past n w)) (not (is_dropped t (phaser_past n w))) v).0) in
        elim scope [
          | inl y ↦
              subst (λ g. ((g == f) || is_inside f (owner g w) w) ≡ true) y
              (sym (inside_is l w k f t b root) ∙ i)
          | inr y ↦
              or_right (h == f) (is_inside f (owner h w) w) (subst (λ x. is_inside f x w ≡ true) (sym y) i)
        ]

    -- whoever holds a registration there is inside
    holder_inside : (s n : ℕ)
        → ((enclosing n w == c.finish) || is_inside c.finish (owner (enclosing n w) w) w) ≡ true
        → is_live s (phaser_past n w) ≡ true → is_inside c.finish (agent s w) w ≡ true
    holder_inside s n d v =
        let f = c.finish in
        let h = enclosing n w in
        let q = agent s w in
        let b = (holder l w k s n v).0 in
        let owners : h ≡ f → owner f w ≡ q → ⊥ =
        λ x y. shutter_left l w k o f s n c.rest c.is x (sym y ∙ c.by) v in
        elim (registered_in_scope l w k s n
        (and_parts (is_registered s (phaser_past n w)) (not (is_dropped s (phaser_past n w))) v).0) [
          | inr y ↦
              elim (or_cases (h == f) (is_inside f (owner h w) w) d) [
                | inl x ↦
                    let same : h ≡ f = eqb-true h f x in
                    absurd (owners same (ap (λ g. owner g w) (sym same) ∙ y))
                | inr x ↦ subst (λ v. is_inside f v w ≡ true) y x
              ]
          | inl y ↦
              elim (cases_Bool (q == 0)) [
                | inr z ↦
                    inside_is l w k f q b z
                    ∙ subst (λ g. ((g == f) || is_inside f (owner g w) w) ≡ true) (sym y) d
                | inl z ↦
                    let root : q ≡ 0 = eqb-true q 0 z in
                    let h0 : h ≡ 0 = sym y ∙ (ap (λ v. home v w) root ∙ root_home l w k) in
                    let by : owner h w ≡ 0 = ap (λ g. owner g w) h0 ∙ root_owner l w k in
                    elim (or_cases (h == f) (is_inside f (owner h w) w) d) [
                      | inl x ↦
                          let same : h ≡ f = eqb-true h f x in
                          absurd (owners same (ap (λ g. owner g w) (sym same) ∙ (by ∙ sym root)))
                      | inr x ↦
                          absurd (true≢false
                          (sym (subst (λ v. is_inside f v w ≡ true) by x) ∙ root_outside l w k f))
                    ]
              ]
        ]

    -- somebody inside goes w on, as f isn't ready to be shut
    somebody : (x : ℕ) × (has x within ≡ true)
    somebody =
        let f = c.finish in
        let r = fails_at (λ t. has_ended t (finish_past f w)) (spawned_tasks (finish_past f w)) c.waits_for in
        let x = r.0 in
        let root : (x == 0) ≡ false =
        false_from_ne_true (x == 0) (λ z.
        true≢false (sym (subst (λ v. is_spawned v (finish_past f w) ≡ true) (eqb-true x 0 z) r.1)
        ∙ root_unspawned l w k f)) in
        let b = spawned_is_born x f w r.1 in
        let g : is_ended x w ≡ false =
        false_from_ne_true (is_ended x w)
        (λ y. true≢false (sym (ended_at_home l w k x f root r.1 y) ∙ r.2)) in
        let i : is_inside f x w ≡ true =
        inside_is l w k f x b root ∙ or_left (home x w == f) (is_inside f (owner (home x w) w) w)
        (eq-eqb (home x w) f (spawned_home l w k x f r.1)) in
        (x, listed w (λ s. is_inside f s w) x b g i)

    all_inside : ((x : ℕ) → has x within ≡ true → WaitsAtPhaser l x w) → ⊥
    all_inside pass =
        none_alone l w k within (λ x h. (goes w (λ s. is_inside c.finish s w) x h).0) pass
        (λ t s h p v.
        let t_goes = goes w (λ s. is_inside c.finish s w) t h in
        let inside = holder_inside s p.on (in_it t p.on t_goes.0 t_goes.2 p.live) v in
        let q = holder l w k s p.on v in
        let there : has (agent s w) within ≡ true =
        listed w (λ s. is_inside c.finish s w) (agent s w) q.0 q.1 inside in
        subst (λ x. has x within ≡ true) (holder_is l w k s p.on v (pass (agent s w) there)) there)
        somebody.0 somebody.1

    -- a task inside that waits to shut a finish waits to shut a later one
    later : (s : ℕ) → is_inside c.finish s w ≡ true → (d : WaitsToShut s w)
        → opened_at c.finish w < opened_at d.finish w
    later s i d =
        let g = d.finish in
        let root : (s == 0) ≡ false =
        false_from_ne_true (s == 0)
        (λ z. true≢false (sym (subst (λ x. is_inside c.finish x w ≡ true) (eqb-true s 0 z) i)
        ∙ root_outside l w k c.finish)) in
        let other : (g == 0) ≡ false =
        false_from_ne_true (g == 0) (λ z. true≢false (sym (eq-eqb s 0
        (sym d.by ∙ (ap (λ v. owner v w) (eqb-true g 0 z) ∙ root_owner l w k))) ∙ root)) in
        let own : has g (opened s w) ≡ true =
        subst (λ v. has g (opened v w) ≡ true) d.by
        (owner_opened l g other w k (open_begun (finish_past g w) d.opened)) in
        omega (arith, inside_after l w k c.finish s i, owner_before l w k s g own)

  -- so nobody waits to shut a finish: the order in which they were opened ends
  no_shutter : (fuel : ℕ) (o : ℕ) (c : WaitsToShut o w) → length w ≤ opened_at c.finish w + fuel → ⊥
  no_shutter zero o c few =
      elim (sorted l w k no_able (going_on w (λ s. is_inside c.finish s w))
      (λ x h. let g = goes w (λ s. is_inside c.finish s w) x h in (g.0, g.1))) [
        | inl pass ↦ all_inside o c pass
        | inr r ↦
            let d : WaitsToShut r.0 w = r.2 in
            let after = later o c r.0 (goes w (λ s. is_inside c.finish s w) r.0 r.1).2 d in
            none_left (length w) (opened_at c.finish w) (opened_at d.finish w) few after
            (opened_within d.finish w)
      ]
    where
      none_left : (n x y : ℕ) → n ≤ x + zero → x < y → y ≤ n → ⊥
      none_left n x y a b c = omega arith
  no_shutter (suc fuel) o c few =
      elim (sorted l w k no_able (going_on w (λ s. is_inside c.finish s w))
      (λ x h. let g = goes w (λ s. is_inside c.finish s w) x h in (g.0, g.1))) [
        | inl pass ↦ all_inside o c pass
        | inr r ↦
            let d : WaitsToShut r.0 w = r.2 in
            let after = later o c r.0 (goes w (λ s. is_inside c.finish s w) r.0 r.1).2 d in
            no_shutter fuel r.0 d
            (one_less (length w) (opened_at c.finish w) (opened_at d.finish w) fuel few after)
      ]
    where
      one_less : (n x y m : ℕ) → n ≤ x + suc m → x < y → n ≤ y + m
      one_less n x y m a b = omega arith

  -- and where all wait at phasers, the one with the least clock can go on
  nobody_waits : (t : ℕ) → is_born t w ≡ true → is_ended t w ≡ false → ⊥
  nobody_waits t b g =
      let all = going_on w (λ s. true) in
      elim (sorted l w k no_able all (λ x h. let y = goes w (λ s. true) x h in (y.0, y.1))) [
        | inr r ↦
            let d : WaitsToShut r.0 w = r.2 in
            no_shutter (length w) r.0 d (enough (length w) (opened_at d.finish w))
        | inl pass ↦
            none_alone l w k all (λ x h. (goes w (λ s. true) x h).0) pass
            (λ u s h p v.
            let q = holder l w k s p.on v in
            let there : has (agent s w) all ≡ true = listed w (λ x. true) (agent s w) q.0 q.1 refl in
            subst (λ x. has x all ≡ true) (holder_is l w k s p.on v (pass (agent s w) there)) there)
            t (listed w (λ s. true) t b g refl)
      ]
    where
      enough : (n x : ℕ) → n ≤ x + n
      enough n x = omega arith

-- nobody is stuck
pub nobody_is_stuck : NobodyIsStuck
nobody_is_stuck l w k =
    let some = list_any (λ t. not (is_ended t w)) (tasks w) in
    let able = list_any (is_able l w) (tasks w) in
    false_from_ne_true (some && not able) (λ s.
    let p = and_parts some (not able) s in
    let t = found_in (λ t. not (is_ended t w)) (tasks w) p.0 in
    let none = not-true able p.1 in
    nobody_waits l w k
    (λ u b a. true≢false (sym a ∙ none_at (is_able l w) (tasks w) u none (born_tasks u w b))) t.0
    (tasks_born t.0 w t.1) (not-true (is_ended t.0 w) t.2))
