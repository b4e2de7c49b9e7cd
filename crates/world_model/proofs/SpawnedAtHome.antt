-- Homes: the finish in which a task was spawned, and which task spawned it.
use Rattle.std.proofs.Common.{◌≡◌, ℕ, true, false, ◌||◌, ◌==◌, not, List, [], ◌∷◌, ◌++◌, refl, sym, subst, ap, ◌∙◌, inl, inr}
use Rattle.std.specs.List.{list_any}
use Rattle.std.proofs.lemmas.Bool.{or_cases, or_right, or_left, or_parts, cases_Bool, true≢false, false≢true}
use Rattle.phase_modes.specs.Lists.{is_empty}
use Rattle.phase_modes.specs.declared.limits.Limits.{Limits}
use Rattle.finish_core.specs.declared.event.FinishEvent.{FinishEvent}
use Rattle.finish_core.specs.declared.event.FinishEvent.TheVariants.{Spawned}
use Rattle.finish_core.specs.Finish.{is_open}
use Rattle.finish_core.proofs.Legal.{spawn_follows}
use Rattle.world_model.specs.declared.event.Step.TheVariants.{Make}
use Rattle.world_model.specs.declared.event.Begun.TheVariants.{Async}
use Rattle.world_model.specs.declared.event.Tried.TheVariants.{Begun as Beginning}
use Rattle.world_model.specs.declared.event.WorldEvent.{WorldEvent}
use Rattle.world_model.specs.declared.event.WorldEvent.TheVariants.{Phaser, Finish, Begin}
use Rattle.world_model.specs.Parts.{finish_past}
use Rattle.world_model.specs.Tasks.{home, spawner, spawns, is_born}
use Rattle.world_model.specs.Scopes.{inner, enclosing}
use Rattle.world_model.specs.Numbers.{names, is_named, is_finish}
use Rattle.world_model.specs.Replies.{is_legal_world, is_accepted}
use Rattle.world_model.proofs.MadeMeans.{last_accepted}
use Rattle.world_model.proofs.AbleComputed.{idle_in_act}
use Rattle.world_model.proofs.FinishesLegal.{event_allowed}
use Rattle.world_model.proofs.SpawnUnderWay.{spawner_later}
use Rattle.world_model.proofs.PassesInTurns.{idle_is_born}
use Rattle.world_model.proofs.OpenFinishes.{finish_later, home_later, inner_is_begun}
use Rattle.world_model.proofs.AgentOfTask.{born_once}

-- what came before in a legal world is legal
pub legal_rest : (l : Limits) (later w : List WorldEvent) → is_legal_world l (later ++ w) ≡ true
    → is_legal_world l w ≡ true
legal_rest l [] w k = k
legal_rest l (e ∷ later) w k = legal_rest l later w (last_accepted l e (later ++ w) k).1

-- a task that was born stays so
pub born_still : (t : ℕ) (e : WorldEvent) (w : List WorldEvent) → is_born t w ≡ true
    → is_born t (e ∷ w) ≡ true
born_still t e w b =
    elim (or_cases (t == 0) (list_any (spawns t) w) b) [
      | inl z ↦ or_left (t == 0) (spawns t e || list_any (spawns t) w) z
      | inr z ↦
          or_right (t == 0) (spawns t e || list_any (spawns t) w)
          (or_right (spawns t e) (list_any (spawns t) w) z)
    ]

pub born_same : (t : ℕ) (e : WorldEvent) (w : List WorldEvent) → spawns t e ≡ false
    → is_born t (e ∷ w) ≡ is_born t w
born_same t e w s = ap (λ b. (t == 0) || (b || list_any (spawns t) w)) s

-- finish 0 is the root's
pub root_home : (l : Limits) (w : List WorldEvent) → is_legal_world l w ≡ true → home 0 w ≡ 0
root_home l [] k = refl
root_home l (e ∷ w) k =
    let a = last_accepted l e w k in
    home_later l w a.1 0 e (born_once l w e 0 a.1 a.0 refl) ∙ root_home l w a.1

-- each task's home is a finish
pub home_begun : (l : Limits) (w : List WorldEvent) → is_legal_world l w ≡ true → (t : ℕ)
    → is_finish (home t w) w ≡ true
home_begun l [] k t = refl
home_begun l (Finish f (Spawned u) ∷ w) k t =
    let e = Finish f (Spawned u) in
    let a = last_accepted l e w k in
    elim (cases_Bool (u == t)) [
      | inl s ↦
          let here : home t (e ∷ w) ≡ f = rw s refl in
          let open_now =
          (spawn_follows l.tasks (finish_past f w) u (event_allowed l w f (Spawned u) a.0)).open_now in
          subst (λ g. is_finish g (e ∷ w) ≡ true) (sym here)
          (finish_later f e w (open_begun (finish_past f w) open_now))
      | inr s ↦
          let here : home t (e ∷ w) ≡ home t w = rw s refl in
          subst (λ g. is_finish g (e ∷ w) ≡ true) (sym here)
          (finish_later (home t w) e w (home_begun l w a.1 t))
    ]
  where
    open_begun : (h : List FinishEvent) → is_open h ≡ true → not (is_empty h) ≡ true
    open_begun [] k = absurd cc
    open_begun (x ∷ h) k = refl
home_begun l (e ∷ w) k t = finish_later (home t w) e w (home_begun l w (last_accepted l e w k).1 t)

-- so is its innermost one, and each phaser's enclosing one
pub inner_begun : (l : Limits) (w : List WorldEvent) → is_legal_world l w ≡ true → (t : ℕ)
    → is_finish (inner t w) w ≡ true
inner_begun l w k t =
    elim (inner_is_begun l w k t) [
      | inl e ↦ subst (λ f. is_finish f w ≡ true) (sym e) (home_begun l w k t)
      | inr b ↦ b
    ]

pub enclosing_begun : (l : Limits) (w : List WorldEvent) → is_legal_world l w ≡ true → (n : ℕ)
    → is_finish (enclosing n w) w ≡ true
enclosing_begun l [] k n = refl
enclosing_begun l (Phaser m (Make u mode terms) ∷ w) k n =
    let e = Phaser m (Make u mode terms) in
    let a = last_accepted l e w k in
    elim (cases_Bool (m == n)) [
      | inl s ↦
          let here : enclosing n (e ∷ w) ≡ inner u w = rw s refl in
          subst (λ g. is_finish g w ≡ true) (sym here) (inner_begun l w a.1 u)
      | inr s ↦
          let here : enclosing n (e ∷ w) ≡ enclosing n w = rw s refl in
          subst (λ g. is_finish g w ≡ true) (sym here) (enclosing_begun l w a.1 n)
    ]
enclosing_begun l (e ∷ w) k n =
    finish_later (enclosing n w) e w (enclosing_begun l w (last_accepted l e w k).1 n)

-- who named a child was born
pub spawner_is_born : (l : Limits) (w : List WorldEvent) → is_legal_world l w ≡ true → (t : ℕ)
    → is_named t w ≡ true → is_born (spawner t w) w ≡ true
spawner_is_born l [] k t n = refl
spawner_is_born l (e ∷ w) k t n =
    let a = last_accepted l e w k in
    elim (cases_Bool (is_named t w)) [
      | inl old ↦
          subst (λ q. is_born q (e ∷ w) ≡ true) (sym (spawner_later l t e w a.0 old))
          (born_still (spawner t w) e w (spawner_is_born l w a.1 t old))
      | inr new ↦ at_start e a.0 (named_now e n new)
    ]
  where
    named_now : (d : WorldEvent) → is_named t (d ∷ w) ≡ true → is_named t w ≡ false → names t d ≡ true
    named_now d x y =
        let z = or_parts (t == 0) (list_any (names t) w) y in
        elim (or_cases (t == 0) (names t d || list_any (names t) w) x) [
          | inl p ↦ absurd (true≢false (sym p ∙ z.0))
          | inr p ↦ elim (or_cases (names t d) (list_any (names t) w) p) [
            | inl r ↦ r
            | inr r ↦ absurd (true≢false (sym r ∙ z.1))
          ]
        ]

    at_start : (d : WorldEvent) → is_accepted l w d ≡ true → names t d ≡ true
        → is_born (spawner t (d ∷ w)) (d ∷ w) ≡ true
    at_start (Begin u (Async c ps)) h s =
        let here : spawner t (Begin u (Async c ps) ∷ w) ≡ u = rw s refl in
        subst (λ v. is_born v w ≡ true) (sym here)
        (idle_is_born u w (idle_in_act l w u (Beginning (Async c ps)) h))
    at_start d h s = absurd (false≢true s)
