-- Where the root has ended nobody goes on: the home of who did would be open, so its owner,
-- who was born earlier, would go on too.
use Rattle.std.proofs.Common.{◌≡◌, ℕ, zero, suc, ◌+◌, ◌<◌, true, false, ◌==◌, not, cond, List, [], ◌∷◌, refl, sym, subst, ◌∙◌, inl, inr, arith}
use Rattle.std.specs.List.{list_any}
use Rattle.std.proofs.lemmas.Bool.{and_parts, and_from, or_cases, or_right, cases_Bool, eqb-true, not-true, true≢false, false≢true, false_from_ne_true}
use Rattle.phase_modes.specs.Lists.{is_empty}
use Rattle.phase_modes.specs.declared.limits.Limits.{Limits}
use Rattle.phase_model.specs.Tasks.{is_live}
use Rattle.phase_model.proofs.LiveTasks.{has, has-filter}
use Rattle.finish_core.specs.declared.event.FinishEvent.TheVariants.{Ended, Shut as Shutting}
use Rattle.finish_core.specs.Finish.{is_open, is_spawned, shuts}
use Rattle.finish_core.proofs.Legal.{end_follows}
use Rattle.world_model.specs.declared.event.WorldEvent.{WorldEvent}
use Rattle.world_model.specs.declared.event.WorldEvent.TheVariants.{Finish}
use Rattle.world_model.specs.Parts.{phaser_past, finish_past}
use Rattle.world_model.specs.Tasks.{home, is_born, is_ended, ends}
use Rattle.world_model.specs.Scopes.{open_finishes, owner}
use Rattle.world_model.specs.Replies.{is_legal_world, is_accepted}
use Rattle.world_model.proofs.MadeMeans.{last_accepted}
use Rattle.world_model.proofs.FinishesLegal.{event_allowed}
use Rattle.world_model.proofs.OpenFinishes.{opened}
use Rattle.world_model.proofs.AgentOfTask.{agent}
use Rattle.world_model.proofs.EndedInside.{ended_opens_nothing, root_unspawned, owner_opened, open_begun}
use Rattle.world_model.proofs.HomesOpen.{home_open}
use Rattle.world_model.proofs.OpenedInOrder.{opened_at, born_at, home_before, owner_before, owner_is_born}
use Rattle.world_model.proofs.NoneWaitsAlone.{holder}
use Rattle.world_model.specs.ScopeLaws.{EndedRootsLeaveNobody}

-- where the root has ended, finish 0 is shut
root_shut : (l : Limits) (w : List WorldEvent) → is_legal_world l w ≡ true → is_ended 0 w ≡ true
    → list_any shuts (finish_past 0 w) ≡ true
root_shut l [] k x = absurd (false≢true x)
root_shut l (e ∷ w) k x =
    let a = last_accepted l e w k in
    elim (or_cases (ends 0 e) (is_ended 0 w) x) [
      | inl n ↦ at_end e a.0 n
      | inr y ↦ shut_still e (root_shut l w a.1 y)
    ]
  where
    at_end : (d : WorldEvent) → is_accepted l w d ≡ true → ends 0 d ≡ true
        → list_any shuts (finish_past 0 (d ∷ w)) ≡ true
    at_end (Finish g Shutting) h n = rw (and_parts (g == 0) true n).0 refl
    at_end (Finish g (Ended u)) h n =
        let spawned = (end_follows l.tasks (finish_past g w) u (event_allowed l w g (Ended u) h)).spawned in
        let root = subst (λ v. is_spawned v (finish_past g w) ≡ true) (eqb-true u 0 n) spawned in
        absurd (true≢false (sym root ∙ root_unspawned l w (last_accepted l e w k).1 g))
    at_end d h n = absurd cc

    shut_still : (d : WorldEvent) → list_any shuts (finish_past 0 w) ≡ true
        → list_any shuts (finish_past 0 (d ∷ w)) ≡ true
    shut_still (Finish g d) y =
        elim (g == 0) as (λ b. list_any shuts (cond b (d ∷ finish_past 0 w) (finish_past 0 w)) ≡ true) [
          | true ↦ or_right (shuts d) (list_any shuts (finish_past 0 w)) y
          | false ↦ y
        ]
    shut_still d y = y

module _ (l : Limits) (w : List WorldEvent) (k : is_legal_world l w ≡ true) (over : is_ended 0 w ≡ true) where
  -- finish 0 isn't open any more
  root_closed : is_open (finish_past 0 w) ≡ true → ⊥
  root_closed o =
      let h = finish_past 0 w in
      let unshut = (and_parts (not (is_empty h)) (not (list_any shuts h)) o).1 in
      true≢false (sym (root_shut l w k over) ∙ not-true (list_any shuts h) unshut)

  -- whose finish is open goes on
  opener_goes_on : (g : ℕ) → (g == 0) ≡ false → is_open (finish_past g w) ≡ true
      → is_ended (owner g w) w ≡ false
  opener_goes_on g other o =
      let q = owner g w in
      let listed : has g (open_finishes q w) ≡ true =
      has-filter (λ v. is_open (finish_past v w)) g (opened q w)
      ∙ and_from (is_open (finish_past g w)) (has g (opened q w)) o
      (owner_opened l g other w k (open_begun (finish_past g w) o)) in
      false_from_ne_true (is_ended q w) (λ gone.
      false≢true (subst (λ fs. has g fs ≡ true) (ended_opens_nothing l w k q gone) listed))

  -- nobody goes on: the home's owner would, and was born earlier
  none_goes_on : (fuel t : ℕ) → born_at t w < fuel → is_born t w ≡ true → is_ended t w ≡ false → ⊥
  none_goes_on zero t early b x = omega (arith, early)
  none_goes_on (suc fuel) t early b x =
      let g = home t w in
      let root : (t == 0) ≡ false =
      false_from_ne_true (t == 0) (λ z.
      true≢false (sym over ∙ subst (λ v. is_ended v w ≡ false) (eqb-true t 0 z) x)) in
      let o : is_open (finish_past g w) ≡ true = home_open l w k t b x in
      let other : (g == 0) ≡ false =
      false_from_ne_true (g == 0)
      (λ z. root_closed (subst (λ f. is_open (finish_past f w) ≡ true) (eqb-true g 0 z) o)) in
      let own = owner_opened l g other w k (open_begun (finish_past g w) o) in
      none_goes_on fuel (owner g w)
      (earlier (born_at (owner g w) w) (opened_at g w) (born_at t w) fuel
      (owner_before l w k (owner g w) g own) (home_before l w k t b root) early)
      (owner_is_born l w k g) (opener_goes_on g other o)
    where
      earlier : (x y z m : ℕ) → x < y → y < z → z < suc m → x < m
      earlier x y z m a b c = omega arith

-- where the root has ended, each task has, and none is registered on any phaser
pub ended_roots_leave_nobody : EndedRootsLeaveNobody
ended_roots_leave_nobody l w k over = (
  λ t b. each t b,
  λ t n. false_from_ne_true (is_live t (phaser_past n w)) (λ v.
      let q = holder l w k t n v in true≢false (sym (each (agent t w) q.0) ∙ q.1)),
)
  where
    each : (t : ℕ) → is_born t w ≡ true → is_ended t w ≡ true
    each t b =
        elim (cases_Bool (is_ended t w)) [
          | inl x ↦ x
          | inr x ↦ absurd (none_goes_on l w k over (born_at t w + 1) t (omega arith) b x)
        ]
