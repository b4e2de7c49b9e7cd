-- The order of finishes: a task is born after its home was opened,
-- and a finish is opened after its owner was born.
use Rattle.std.proofs.Common.{◌≡◌, ℕ, ◌+◌, ◌<◌, ◌≤◌, Bool, true, false, ◌||◌, ◌==◌, cond, List, [], ◌∷◌, length, Some, None, refl, sym, subst, ◌∙◌, inl, inr, arith}
use Rattle.std.specs.List.{list_any, cons_option}
use Rattle.std.proofs.lemmas.Bool.{or_cases, cases_Bool, eqb-true, true≢false, false≢true}
use Rattle.phase_modes.specs.declared.limits.Limits.{Limits}
use Rattle.phase_model.proofs.LiveTasks.{has}
use Rattle.finish_core.specs.declared.event.FinishEvent.TheVariants.{Opened, Spawned}
use Rattle.world_model.specs.declared.event.Tried.TheVariants.{Open}
use Rattle.world_model.specs.declared.event.WorldEvent.{WorldEvent}
use Rattle.world_model.specs.declared.event.WorldEvent.TheVariants.{Finish}
use Rattle.world_model.specs.Tasks.{home, spawns, is_born}
use Rattle.world_model.specs.Scopes.{owner}
use Rattle.world_model.specs.Numbers.{is_finish}
use Rattle.world_model.specs.Replies.{is_legal_world, is_accepted}
use Rattle.world_model.proofs.MadeMeans.{last_accepted}
use Rattle.world_model.proofs.AbleComputed.{idle_in_act}
use Rattle.world_model.proofs.PassesInTurns.{idle_is_born}
use Rattle.world_model.proofs.OpenFinishes.{opened, opening_fresh, opened_by_owner, home_later}
use Rattle.world_model.proofs.AgentOfTask.{born_once}
use Rattle.world_model.proofs.SpawnedAtHome.{born_still, home_begun}

-- when f was opened, and when t was born; finish 0 and the root were there before all
abbrev pub opened_at : ℕ → List WorldEvent → ℕ
opened_at f [] = 0
opened_at f (Finish g (Opened u) ∷ w) = cond (g == f) (length w + 1) (opened_at f w)
opened_at f (_ ∷ w) = opened_at f w

abbrev pub born_at : ℕ → List WorldEvent → ℕ
born_at t [] = 0
born_at t (Finish g (Spawned u) ∷ w) = cond (u == t) (length w + 1) (born_at t w)
born_at t (_ ∷ w) = born_at t w

under : (b : Bool) (x n : ℕ) → x ≤ n → cond b (n + 1) x ≤ n + 1
under true x n h = omega arith
under false x n h = omega arith

more : (x n : ℕ) → x ≤ n → x ≤ n + 1
more x n h = omega arith

pub opened_within : (f : ℕ) (w : List WorldEvent) → opened_at f w ≤ length w
opened_within f [] = omega arith
opened_within f (Finish g (Opened u) ∷ w) =
    omega (arith, under (g == f) (opened_at f w) (length w) (opened_within f w))
opened_within f (e ∷ w) = omega (arith, more (opened_at f w) (length w) (opened_within f w))

pub born_within : (t : ℕ) (w : List WorldEvent) → born_at t w ≤ length w
born_within t [] = omega arith
born_within t (Finish g (Spawned u) ∷ w) =
    omega (arith, under (u == t) (born_at t w) (length w) (born_within t w))
born_within t (e ∷ w) = omega (arith, more (born_at t w) (length w) (born_within t w))

-- a finish is opened once, and a task born once
opened_same : (l : Limits) (f : ℕ) (e : WorldEvent) (w : List WorldEvent) → is_accepted l w e ≡ true
    → is_finish f w ≡ true → opened_at f (e ∷ w) ≡ opened_at f w
opened_same l f (Finish g (Opened u)) w a k =
    elim (cases_Bool (g == f)) [
      | inl s ↦
          absurd (false≢true
          (sym (subst (λ v. is_finish v w ≡ false) (eqb-true g f s) (opening_fresh l w g u a)) ∙ k))
      | inr s ↦ rw s refl
    ]
opened_same l f e w a k = refl

born_at_same : (t : ℕ) (e : WorldEvent) (w : List WorldEvent) → spawns t e ≡ false
    → born_at t (e ∷ w) ≡ born_at t w
born_at_same t (Finish g (Spawned u)) w s = rw s refl
born_at_same t e w s = refl

pub one_more : (x n : ℕ) → x ≤ n → x < n + 1
one_more x n h = omega arith

-- a task is born after its home was opened
pub home_before : (l : Limits) (w : List WorldEvent) → is_legal_world l w ≡ true → (t : ℕ)
    → is_born t w ≡ true → (t == 0) ≡ false → opened_at (home t w) w < born_at t w
home_before l [] k t b z = absurd (true≢false (sym (or_false (t == 0) b) ∙ z))
  where
    or_false : (x : Bool) → (x || false) ≡ true → x ≡ true
    or_false true y = refl
    or_false false y = y
home_before l (e ∷ w) k t b z =
    let a = last_accepted l e w k in
    elim (cases_Bool (spawns t e)) [
      | inl s ↦ at_birth e a.0 s
      | inr s ↦
          let before : is_born t w ≡ true =
          subst (λ x. ((t == 0) || (x || list_any (spawns t) w)) ≡ true) s b in
          let same : home t (e ∷ w) ≡ home t w = home_later l w a.1 t e s in
          subst (λ x. opened_at (home t (e ∷ w)) (e ∷ w) < x) (sym (born_at_same t e w s))
          (subst (λ f. opened_at f (e ∷ w) < born_at t w) (sym same)
          (subst (λ x. x < born_at t w) (sym (opened_same l (home t w) e w a.0 (home_begun l w a.1 t)))
          (home_before l w a.1 t before z)))
    ]
  where
    at_birth : (d : WorldEvent) → is_accepted l w d ≡ true → spawns t d ≡ true
        → opened_at (home t (d ∷ w)) (d ∷ w) < born_at t (d ∷ w)
    at_birth (Finish f (Spawned u)) h s =
        let here : home t (Finish f (Spawned u) ∷ w) ≡ f = rw s refl in
        let now : born_at t (Finish f (Spawned u) ∷ w) ≡ length w + 1 = rw s refl in
        subst (λ x. opened_at (home t (Finish f (Spawned u) ∷ w)) w < x) (sym now) (subst (λ g. opened_at g w
        < length w + 1) (sym here) (one_more (opened_at f w) (length w) (opened_within f w)))
    at_birth d h s = absurd cc

-- and a finish opened after its owner was born
pub owner_before : (l : Limits) (w : List WorldEvent) → is_legal_world l w ≡ true → (t g : ℕ)
    → has g (opened t w) ≡ true → born_at t w < opened_at g w
owner_before l [] k t g h = absurd (false≢true h)
owner_before l (Finish f (Opened u) ∷ w) k t g h =
    let e = Finish f (Opened u) in
    let a = last_accepted l e w k in
    let older : has g (opened t w) ≡ true → born_at t w < opened_at g (e ∷ w) = λ y.
    subst (λ x. born_at t w < x) (sym (opened_same l g e w a.0 (opened_by_owner l w a.1 t g y).begun))
    (owner_before l w a.1 t g y) in
    elim (cases_Bool (u == t)) [
      | inr s ↦ older (subst (λ b. has g (cons_option (cond b (Some f) None) (opened t w)) ≡ true) s h)
      | inl s ↦
          elim (or_cases (f == g) (has g (opened t w))
          (subst (λ b. has g (cons_option (cond b (Some f) None) (opened t w)) ≡ true) s h)) [
            | inl y ↦
                let now : opened_at g (e ∷ w) ≡ length w + 1 = rw y refl in
                subst (λ x. born_at t w < x) (sym now) (one_more (born_at t w) (length w) (born_within t w))
            | inr y ↦ older y
          ]
    ]
owner_before l (e ∷ w) k t g h =
    let a = last_accepted l e w k in
    let b = opened_by_owner l w a.1 t g h in
    let stays : spawns t e ≡ false = born_once l w e t a.1 a.0 (opener_born w a.1 t g h) in
    subst (λ x. x < opened_at g (e ∷ w)) (sym (born_at_same t e w stays))
    (subst (λ x. born_at t w < x) (sym (opened_same l g e w a.0 b.begun)) (owner_before l w a.1 t g h))
  where
    opener_born : (v : List WorldEvent) → is_legal_world l v ≡ true → (t g : ℕ) → has g (opened t v) ≡ true
        → is_born t v ≡ true
    opener_born [] kv t g y = absurd (false≢true y)
    opener_born (Finish f (Opened u) ∷ v) kv t g y =
        let a = last_accepted l (Finish f (Opened u)) v kv in
        elim (cases_Bool (u == t)) [
          | inl s ↦
              subst (λ x. is_born x v ≡ true) (eqb-true u t s)
              (idle_is_born u v (idle_in_act l v u (Open f) a.0))
          | inr s ↦
              opener_born v a.1 t g
              (subst (λ b. has g (cons_option (cond b (Some f) None) (opened t v)) ≡ true) s y)
        ]
    opener_born (d ∷ v) kv t g y = born_still t d v (opener_born v (last_accepted l d v kv).1 t g y)

-- who owns a finish was born
pub owner_is_born : (l : Limits) (w : List WorldEvent) → is_legal_world l w ≡ true → (g : ℕ)
    → is_born (owner g w) w ≡ true
owner_is_born l [] k g = refl
owner_is_born l (Finish f (Opened u) ∷ w) k g =
    let a = last_accepted l (Finish f (Opened u)) w k in
    elim (cases_Bool (f == g)) [
      | inl s ↦
          let here : owner g (Finish f (Opened u) ∷ w) ≡ u = rw s refl in
          subst (λ x. is_born x w ≡ true) (sym here) (idle_is_born u w (idle_in_act l w u (Open f) a.0))
      | inr s ↦
          let here : owner g (Finish f (Opened u) ∷ w) ≡ owner g w = rw s refl in
          subst (λ x. is_born x w ≡ true) (sym here) (owner_is_born l w a.1 g)
    ]
owner_is_born l (e ∷ w) k g = born_still (owner g w) e w (owner_is_born l w (last_accepted l e w k).1 g)
