-- Tasks and their finishes: where a task was spawned,
-- and that a finish that is not open any more waits for nobody.
use Rattle.std.proofs.Common.{◌≡◌, ℕ, Bool, true, false, ◌&&◌, ◌||◌, ◌==◌, not, cond, List, [], ◌∷◌, Some, None, refl, sym, subst, ap, ◌∙◌, inl, inr}
use Rattle.std.specs.List.{list_any, cons_option}
use Rattle.std.proofs.lemmas.Bool.{and_parts, and_from, or_cases, or_left, or_right, or_from, cases_Bool, eqb-true, eq-eqb, not-true, true≢false, false≢true, false_from_ne_true}
use Rattle.phase_modes.specs.Lists.{is_empty}
use Rattle.phase_modes.specs.declared.limits.Limits.{Limits}
use Rattle.phase_model.specs.Tasks.{is_live}
use Rattle.phase_model.proofs.LiveTasks.{has, has-filter}
use Rattle.finish_core.specs.declared.event.FinishEvent.{FinishEvent}
use Rattle.finish_core.specs.declared.event.FinishEvent.TheVariants.{Opened, Spawned, Ended, Shut as Shutting}
use Rattle.finish_core.specs.Finish.{is_open, is_spawned, has_ended, all_ended, may_shut, shuts, is_allowed, is_legal_finish}
use Rattle.finish_core.proofs.Legal.{spawn_follows, end_follows}
use Rattle.finish_core.proofs.Standing.{all_ended_at}
use Rattle.world_model.specs.declared.event.WorldEvent.{WorldEvent}
use Rattle.world_model.specs.declared.event.WorldEvent.TheVariants.{Finish}
use Rattle.world_model.specs.Parts.{phaser_past, finish_past}
use Rattle.world_model.specs.Tasks.{home, spawns, is_born, is_ended}
use Rattle.world_model.specs.Scopes.{open_finishes, owner}
use Rattle.world_model.specs.Numbers.{is_finish}
use Rattle.world_model.specs.Replies.{is_legal_world}
use Rattle.world_model.specs.ScopeLaws.{Inside}
use Rattle.world_model.proofs.MadeMeans.{last_accepted}
use Rattle.world_model.proofs.FinishesLegal.{event_allowed, finishes_legal}
use Rattle.world_model.proofs.OpenFinishes.{opened}
use Rattle.world_model.proofs.AgentOfTask.{agent, birth_unborn}
use Rattle.world_model.proofs.LeavingList.{Leaving}
use Rattle.world_model.proofs.EndingStays.{leaving}
use Rattle.world_model.proofs.LeavesAtEnds.{ended_is_over, root_owner}

-- an ended task, and who would be dropped for it, holds nothing
pub ended_holds_nothing : (l : Limits) (w : List WorldEvent) → is_legal_world l w ≡ true → (t u n : ℕ)
    → is_ended t w ≡ true → agent u w ≡ t → is_live u (phaser_past n w) ≡ false
ended_holds_nothing l w k t u n x g =
    let o = ended_is_over l w k t x in
    let p : Leaving t w [] = subst (λ ds. Leaving t w ds) o.1 (leaving l t w k o.0) in
    false_from_ne_true (is_live u (phaser_past n w)) (λ v. false≢true (p.covers u n g v))

-- and has no finish open
pub ended_opens_nothing : (l : Limits) (w : List WorldEvent) → is_legal_world l w ≡ true → (t : ℕ)
    → is_ended t w ≡ true → open_finishes t w ≡ []
ended_opens_nothing l w k t x =
    let o = ended_is_over l w k t x in
    let p : Leaving t w [] = subst (λ ds. Leaving t w ds) o.1 (leaving l t w k o.0) in
    (p.over refl).1

-- a finish that isn't open any more waits for nobody
pub closed_ended : (tasks : ℕ) (h : List FinishEvent) → is_legal_finish tasks h ≡ true → is_empty h ≡ false
    → is_open h ≡ false → (t : ℕ) → is_spawned t h ≡ true → has_ended t h ≡ true
closed_ended tasks [] k some o t s = absurd (true≢false some)
closed_ended tasks (Shutting ∷ h) k some o t s =
    let a = and_parts (may_shut h) (is_legal_finish tasks h) k in
    all_ended_at h t (and_parts (is_open h) (all_ended h) a.0).1 s
closed_ended tasks (Opened u ∷ h) k some o t s =
    let a = and_parts (is_empty h) (is_legal_finish tasks h) k in
    absurd (no_spawn h a.0 s)
  where
    no_spawn : (h : List FinishEvent) → is_empty h ≡ true → is_spawned t h ≡ true → ⊥
    no_spawn [] e y = false≢true y
    no_spawn (x ∷ h) e y = false≢true e
closed_ended tasks (Spawned u ∷ h) k some o t s =
    let a = and_parts (is_allowed tasks h (Spawned u)) (is_legal_finish tasks h) k in
    absurd (true≢false (sym (still_open h (spawn_follows tasks h u a.0).open_now) ∙ o))
  where
    still_open : (h : List FinishEvent) → is_open h ≡ true → not (list_any shuts h) ≡ true
    still_open h y = (and_parts (not (is_empty h)) (not (list_any shuts h)) y).1
closed_ended tasks (Ended u ∷ h) k some o t s =
    let a = and_parts (is_allowed tasks h (Ended u)) (is_legal_finish tasks h) k in
    absurd (true≢false (sym (still_open h (end_follows tasks h u a.0).open_now) ∙ o))
  where
    still_open : (h : List FinishEvent) → is_open h ≡ true → not (list_any shuts h) ≡ true
    still_open h y = (and_parts (not (is_empty h)) (not (list_any shuts h)) y).1

-- a task that ended in a finish has ended
pub ended_in : (t f : ℕ) (w : List WorldEvent) → has_ended t (finish_past f w) ≡ true → is_ended t w ≡ true
ended_in t f [] x = absurd (false≢true (sym (never (f == 0)) ∙ x))
  where
    never : (b : Bool) → has_ended t (cond b (Opened 0 ∷ []) []) ≡ false
    never true = refl
    never false = refl
ended_in t f (Finish g (Ended u) ∷ w) x =
    (elim (g == f) as (λ b. has_ended t (cond b (Ended u ∷ finish_past f w) (finish_past f w)) ≡ true
    → ((u == t) || is_ended t w) ≡ true) [
      | true ↦
          λ y. elim (or_cases (u == t) (has_ended t (finish_past f w)) y) [
            | inl z ↦ or_left (u == t) (is_ended t w) z
            | inr z ↦ or_right (u == t) (is_ended t w) (ended_in t f w z)
          ]
      | false ↦ λ y. or_right (u == t) (is_ended t w) (ended_in t f w y)
    ]) x
ended_in t f (Finish g Shutting ∷ w) x =
    or_right (g == 0 && t == 0) (is_ended t w)
    ((elim (g == f) as (λ b. has_ended t (cond b (Shutting ∷ finish_past f w) (finish_past f w)) ≡ true
    → is_ended t w ≡ true) [
      | true ↦ λ y. ended_in t f w y
      | false ↦ λ y. ended_in t f w y
    ]) x)
ended_in t f (Finish g (Opened u) ∷ w) x =
    (elim (g == f) as (λ b. has_ended t (cond b (Opened u ∷ finish_past f w) (finish_past f w)) ≡ true
    → is_ended t w ≡ true) [
      | true ↦ λ y. ended_in t f w y
      | false ↦ λ y. ended_in t f w y
    ]) x
ended_in t f (Finish g (Spawned u) ∷ w) x =
    (elim (g == f) as (λ b. has_ended t (cond b (Spawned u ∷ finish_past f w) (finish_past f w)) ≡ true
    → is_ended t w ≡ true) [
      | true ↦ λ y. ended_in t f w y
      | false ↦ λ y. ended_in t f w y
    ]) x
ended_in t f (e ∷ w) x = ended_in t f w x

-- a task that was spawned stays so
pub spawned_still : (t f : ℕ) (e : WorldEvent) (w : List WorldEvent) → is_spawned t (finish_past f w) ≡ true
    → is_spawned t (finish_past f (e ∷ w)) ≡ true
spawned_still t f (Finish g d) w s =
    elim (g == f) as (λ b. is_spawned t (cond b (d ∷ finish_past f w) (finish_past f w)) ≡ true) [
      | true ↦ further d (finish_past f w) s
      | false ↦ s
    ]
  where
    further : (d : FinishEvent) (h : List FinishEvent) → is_spawned t h ≡ true → is_spawned t (d ∷ h) ≡ true
    further (Spawned u) h y = or_right (u == t) (is_spawned t h) y
    further d h y = y
spawned_still t f e w s = s

-- each task but the root was spawned in its home
pub home_spawned : (l : Limits) (w : List WorldEvent) → is_legal_world l w ≡ true → (t : ℕ)
    → is_born t w ≡ true → (t == 0) ≡ false → is_spawned t (finish_past (home t w) w) ≡ true
home_spawned l [] k t b z = absurd (true≢false (sym (or_false (t == 0) b) ∙ z))
  where
    or_false : (x : Bool) → (x || false) ≡ true → x ≡ true
    or_false true y = refl
    or_false false y = y
home_spawned l (Finish f (Spawned u) ∷ w) k t b z =
    let e = Finish f (Spawned u) in
    elim (cases_Bool (u == t)) [
      | inl s ↦
          let here : home t (e ∷ w) ≡ f = rw s refl in
          let self : (f == f) ≡ true = eq-eqb f f refl in
          let now : is_spawned t (finish_past f (e ∷ w)) ≡ true =
          rw self (or_left (u == t) (is_spawned t (finish_past f w)) s) in
          subst (λ g. is_spawned t (finish_past g (e ∷ w)) ≡ true) (sym here) now
      | inr s ↦
          let here : home t (e ∷ w) ≡ home t w = rw s refl in
          let before : is_born t w ≡ true =
          subst (λ x. ((t == 0) || (x || list_any (spawns t) w)) ≡ true) s b in
          subst (λ g. is_spawned t (finish_past g (e ∷ w)) ≡ true) (sym here)
          (spawned_still t (home t w) e w (home_spawned l w (last_accepted l e w k).1 t before z))
    ]
home_spawned l (e ∷ w) k t b z =
    spawned_still t (home t w) e w (home_spawned l w (last_accepted l e w k).1 t b z)

-- the root was never spawned
pub root_unspawned : (l : Limits) (w : List WorldEvent) → is_legal_world l w ≡ true → (f : ℕ)
    → is_spawned 0 (finish_past f w) ≡ false
root_unspawned l [] k f =
    elim (f == 0) as (λ b. is_spawned 0 (cond b (Opened 0 ∷ []) []) ≡ false) [ true ↦ refl | false ↦ refl ]
root_unspawned l (Finish g (Spawned u) ∷ w) k f =
    let a = last_accepted l (Finish g (Spawned u)) w k in
    let before = root_unspawned l w a.1 f in
    let other : (u == 0) ≡ false =
    false_from_ne_true (u == 0) (λ s.
    true≢false (sym (or_left (u == 0) (list_any (spawns u) w) s) ∙ birth_unborn l w g u a.1 a.0)) in
    elim (g == f) as (λ b. is_spawned 0 (cond b (Spawned u ∷ finish_past f w) (finish_past f w)) ≡ false) [
      | true ↦ or_from (u == 0) (is_spawned 0 (finish_past f w)) other before
      | false ↦ before
    ]
root_unspawned l (Finish g (Opened u) ∷ w) k f =
    let before = root_unspawned l w (last_accepted l (Finish g (Opened u)) w k).1 f in
    elim (g == f) as (λ b. is_spawned 0 (cond b (Opened u ∷ finish_past f w) (finish_past f w)) ≡ false) [
      | true ↦ before
      | false ↦ before
    ]
root_unspawned l (Finish g (Ended u) ∷ w) k f =
    let before = root_unspawned l w (last_accepted l (Finish g (Ended u)) w k).1 f in
    elim (g == f) as (λ b. is_spawned 0 (cond b (Ended u ∷ finish_past f w) (finish_past f w)) ≡ false) [
      | true ↦ before
      | false ↦ before
    ]
root_unspawned l (Finish g Shutting ∷ w) k f =
    let before = root_unspawned l w (last_accepted l (Finish g Shutting) w k).1 f in
    elim (g == f) as (λ b. is_spawned 0 (cond b (Shutting ∷ finish_past f w) (finish_past f w)) ≡ false) [
      | true ↦ before
      | false ↦ before
    ]
root_unspawned l (e ∷ w) k f = root_unspawned l w (last_accepted l e w k).1 f

pub open_begun : (h : List FinishEvent) → is_open h ≡ true → not (is_empty h) ≡ true
open_begun h o = (and_parts (not (is_empty h)) (not (list_any shuts h)) o).0

-- who owns a finish opened it, the root's finish 0 aside
module _ (l : Limits) (g : ℕ) (other : (g == 0) ≡ false) where
  add_one : (b : Bool) (f : ℕ) (fs : List ℕ) → has g fs ≡ true
      → has g (cons_option (cond b (Some f) None) fs) ≡ true
  add_one true f fs h = or_right (f == g) (has g fs) h
  add_one false f fs h = h

  pub owner_opened : (w : List WorldEvent) → is_legal_world l w ≡ true → is_finish g w ≡ true
      → has g (opened (owner g w) w) ≡ true
  owner_opened [] k x = absurd (false≢true (sym (rw other refl) ∙ x))
  owner_opened (Finish f (Opened u) ∷ w) k x =
      let e = Finish f (Opened u) in
      elim (cases_Bool (f == g)) [
        | inl s ↦
            let by : owner g (e ∷ w) ≡ u = rw s refl in
            let self : (u == u) ≡ true = eq-eqb u u refl in
            let listed : has g (opened u (e ∷ w)) ≡ true = rw (self, s) refl in
            subst (λ v. has g (opened v (e ∷ w)) ≡ true) (sym by) listed
        | inr s ↦
            let by : owner g (e ∷ w) ≡ owner g w = rw s refl in
            let before = owner_opened w (last_accepted l e w k).1 (rw s at x) in
            subst (λ v. has g (opened v (e ∷ w)) ≡ true) (sym by)
            (add_one (u == owner g w) f (opened (owner g w) w) before)
      ]
  owner_opened (Finish f (Spawned u) ∷ w) k x =
      let a = last_accepted l (Finish f (Spawned u)) w k in
      owner_opened w a.1 (elim (cases_Bool (f == g)) [
        | inl s ↦
            subst (λ v. is_finish v w ≡ true) (eqb-true f g s) (open_begun (finish_past f w)
            (spawn_follows l.tasks (finish_past f w) u (event_allowed l w f (Spawned u) a.0)).open_now)
        | inr s ↦ rw s at x
      ])
  owner_opened (Finish f (Ended u) ∷ w) k x =
      let a = last_accepted l (Finish f (Ended u)) w k in
      owner_opened w a.1 (elim (cases_Bool (f == g)) [
        | inl s ↦
            subst (λ v. is_finish v w ≡ true) (eqb-true f g s) (open_begun (finish_past f w)
            (end_follows l.tasks (finish_past f w) u (event_allowed l w f (Ended u) a.0)).open_now)
        | inr s ↦ rw s at x
      ])
  owner_opened (Finish f Shutting ∷ w) k x =
      let a = last_accepted l (Finish f Shutting) w k in
      owner_opened w a.1 (elim (cases_Bool (f == g)) [
        | inl s ↦
            subst (λ v. is_finish v w ≡ true) (eqb-true f g s)
            (open_begun (finish_past f w) (and_parts (is_open (finish_past f w))
            (all_ended (finish_past f w)) (event_allowed l w f Shutting a.0)).0)
        | inr s ↦ rw s at x
      ])
  owner_opened (e ∷ w) k x = owner_opened w (last_accepted l e w k).1 x

-- a task inside a finish was spawned, so it isn't the root
inside_spawned : (w : List WorldEvent) (f t : ℕ) → Inside w f t
    → (g : ℕ) × (is_spawned t (finish_past g w) ≡ true)
inside_spawned w f t (Inside.spawned s) = (f, s)
inside_spawned w f t (Inside.further g b s i) = (g, s)

-- where each task spawned in f has ended, each inside it has
pub inside_ended : (l : Limits) (w : List WorldEvent) → is_legal_world l w ≡ true → (f : ℕ)
    → all_ended (finish_past f w) ≡ true → (t : ℕ) → Inside w f t → is_ended t w ≡ true
inside_ended l w k f all t (Inside.spawned s) = ended_in t f w (all_ended_at (finish_past f w) t all s)
inside_ended l w k f all t (Inside.further g b s i) =
    let o = owner g w in
    let gone : is_ended o w ≡ true = inside_ended l w k f all o i in
    let root : (o == 0) ≡ false = false_from_ne_true (o == 0) (λ z. not_root z (inside_spawned w f o i)) in
    let other : (g == 0) ≡ false =
    false_from_ne_true (g == 0) (λ z. true≢false
    (sym (eq-eqb o 0 (ap (λ v. owner v w) (eqb-true g 0 z) ∙ root_owner l w k)) ∙ root)) in
    let closed : is_open (finish_past g w) ≡ false = false_from_ne_true (is_open (finish_past g w)) (λ y.
    let listed : has g (open_finishes o w) ≡ true =
    has-filter (λ v. is_open (finish_past v w)) g (opened o w)
    ∙ and_from (is_open (finish_past g w)) (has g (opened o w)) y (owner_opened l g other w k b) in
    false≢true (subst (λ fs. has g fs ≡ true) (ended_opens_nothing l w k o gone) listed)) in
    ended_in t g w (closed_ended l.tasks (finish_past g w) (finishes_legal l w k g)
    (not-true (is_empty (finish_past g w)) b) closed t s)
  where
    not_root : (owner g w == 0) ≡ true → (v : ℕ) × (is_spawned (owner g w) (finish_past v w) ≡ true) → ⊥
    not_root z p =
        true≢false (sym (subst (λ u. is_spawned u (finish_past p.0 w) ≡ true) (eqb-true (owner g w) 0 z) p.1)
        ∙ root_unspawned l w k p.0)
