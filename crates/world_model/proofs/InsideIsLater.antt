-- What is inside a finish came after its opening, and ends in its home.
use Rattle.std.proofs.Common.{◌≡◌, ℕ, ◌+◌, ◌<◌, Bool, true, false, ◌&&◌, ◌||◌, ◌==◌, cond, List, [], ◌∷◌, length, refl, sym, subst, ap, ◌∙◌, inl, inr}
use Rattle.std.specs.List.{list_any}
use Rattle.std.proofs.lemmas.Bool.{or_cases, or_left, or_right, cases_Bool, eqb-true, eq-eqb, true≢false, false≢true}
use Rattle.phase_modes.specs.declared.limits.Limits.{Limits}
use Rattle.finish_core.specs.declared.event.FinishEvent.TheVariants.{Opened, Spawned, Ended, Shut as Shutting}
use Rattle.finish_core.specs.Finish.{is_spawned, has_ended}
use Rattle.finish_core.proofs.Legal.{spawn_follows, end_follows, ended_was_spawned}
use Rattle.world_model.specs.declared.event.WorldEvent.{WorldEvent}
use Rattle.world_model.specs.declared.event.WorldEvent.TheVariants.{Finish}
use Rattle.world_model.specs.Parts.{finish_past}
use Rattle.world_model.specs.Tasks.{home, spawns, is_born, is_ended, ends}
use Rattle.world_model.specs.Scopes.{owner}
use Rattle.world_model.specs.Numbers.{is_finish}
use Rattle.world_model.specs.Replies.{is_legal_world, is_accepted}
use Rattle.world_model.proofs.MadeMeans.{last_accepted}
use Rattle.world_model.proofs.FinishesLegal.{event_allowed, finishes_legal}
use Rattle.world_model.proofs.OpenFinishes.{opening_fresh, finish_later, owner_later, home_later}
use Rattle.world_model.proofs.AgentOfTask.{born_once}
use Rattle.world_model.proofs.SpawnedAtHome.{home_begun}
use Rattle.world_model.proofs.EndedInside.{open_begun}
use Rattle.world_model.proofs.HomesOpen.{spawned_is_born}
use Rattle.world_model.proofs.OpenedInOrder.{opened_at, born_at, opened_within, one_more, owner_is_born}

-- t was spawned in f, or in a finish whose owner is itself inside f
abbrev pub is_inside : ℕ → ℕ → List WorldEvent → Bool
is_inside f t [] = false
is_inside f t (Finish g (Spawned u) ∷ w) =
    cond (u == t) ((g == f) || is_inside f (owner g w) w) (is_inside f t w)
is_inside f t (_ ∷ w) = is_inside f t w

inside_same : (f t : ℕ) (e : WorldEvent) (w : List WorldEvent) → spawns t e ≡ false
    → is_inside f t (e ∷ w) ≡ is_inside f t w
inside_same f t (Finish g (Spawned u)) w s = rw s refl
inside_same f t e w s = refl

-- the root is inside no finish
pub root_outside : (l : Limits) (w : List WorldEvent) → is_legal_world l w ≡ true → (f : ℕ)
    → is_inside f 0 w ≡ false
root_outside l [] k f = refl
root_outside l (e ∷ w) k f =
    let a = last_accepted l e w k in
    inside_same f 0 e w (born_once l w e 0 a.1 a.0 refl) ∙ root_outside l w a.1 f

-- so at each moment: in f itself, or in a finish of a task inside it
pub inside_is : (l : Limits) (w : List WorldEvent) → is_legal_world l w ≡ true → (f t : ℕ) → is_born t w
    ≡ true → (t == 0) ≡ false → is_inside f t w ≡ ((home t w == f) || is_inside f (owner (home t w) w) w)
inside_is l [] k f t b z = absurd (true≢false (sym (or_false (t == 0) b) ∙ z))
  where
    or_false : (x : Bool) → (x || false) ≡ true → x ≡ true
    or_false true y = refl
    or_false false y = y
inside_is l (e ∷ w) k f t b z =
    let a = last_accepted l e w k in
    elim (cases_Bool (spawns t e)) [
      | inl s ↦ at_birth e a.0 a.1 s
      | inr s ↦
          let before : is_born t w ≡ true =
          subst (λ x. ((t == 0) || (x || list_any (spawns t) w)) ≡ true) s b in
          let h = home t w in
          let same : home t (e ∷ w) ≡ h = home_later l w a.1 t e s in
          let by : owner h (e ∷ w) ≡ owner h w = owner_later l h e w a.0 (home_begun l w a.1 t) in
          let kept : is_inside f (owner h w) (e ∷ w) ≡ is_inside f (owner h w) w =
          inside_same f (owner h w) e w (born_once l w e (owner h w) a.1 a.0 (owner_is_born l w a.1 h)) in
          inside_same f t e w s ∙ (inside_is l w a.1 f t before z
          ∙ sym (ap (λ g. (g == f) || is_inside f (owner g (e ∷ w)) (e ∷ w)) same
          ∙ (ap (λ o. (h == f) || is_inside f o (e ∷ w)) by ∙ ap (λ y. (h == f) || y) kept)))
    ]
  where
    at_birth : (d : WorldEvent) → is_accepted l w d ≡ true → is_legal_world l w ≡ true
        → spawns t d ≡ true → is_inside f t (d ∷ w)
        ≡ ((home t (d ∷ w) == f) || is_inside f (owner (home t (d ∷ w)) (d ∷ w)) (d ∷ w))
    at_birth (Finish g (Spawned u)) y kw s =
        let d = Finish g (Spawned u) in
        let here : home t (d ∷ w) ≡ g = rw s refl in
        let now : is_inside f t (d ∷ w) ≡ ((g == f) || is_inside f (owner g w) w) = rw s refl in
        let kept : is_inside f (owner g w) (d ∷ w) ≡ is_inside f (owner g w) w =
        inside_same f (owner g w) d w (born_once l w d (owner g w) kw y (owner_is_born l w kw g)) in
        now ∙ sym (ap (λ v. (v == f) || is_inside f (owner v w) (d ∷ w)) here ∙ ap (λ v. (g == f) || v) kept)
    at_birth d y kw s = absurd cc

-- what is inside f came after f
pub inside_after : (l : Limits) (w : List WorldEvent) → is_legal_world l w ≡ true → (f t : ℕ)
    → is_inside f t w ≡ true → opened_at f w < born_at t w
inside_after l [] k f t i = absurd (false≢true i)
inside_after l (Finish g (Spawned u) ∷ w) k f t i =
    let e = Finish g (Spawned u) in
    let a = last_accepted l e w k in
    elim (cases_Bool (u == t)) [
      | inl s ↦
          let now : born_at t (e ∷ w) ≡ length w + 1 = rw s refl in
          subst (λ x. opened_at f w < x) (sym now) (one_more (opened_at f w) (length w) (opened_within f w))
      | inr s ↦
          let now : born_at t (e ∷ w) ≡ born_at t w = rw s refl in
          subst (λ x. opened_at f w < x) (sym now) (inside_after l w a.1 f t
          (subst (λ b. cond b ((g == f) || is_inside f (owner g w) w) (is_inside f t w) ≡ true) s i))
    ]
inside_after l (Finish g (Opened u) ∷ w) k f t i =
    let e = Finish g (Opened u) in
    let a = last_accepted l e w k in
    let before = inside_after l w a.1 f t i in
    elim (cases_Bool (g == f)) [
      | inr s ↦
          let now : opened_at f (e ∷ w) ≡ opened_at f w = rw s refl in
          subst (λ x. x < born_at t w) (sym now) before
      | inl s ↦
          absurd (true≢false (sym (inside_begun w a.1 t i)
          ∙ subst (λ v. is_finish v w ≡ false) (eqb-true g f s) (opening_fresh l w g u a.0)))
    ]
  where
    inside_begun : (v : List WorldEvent) → is_legal_world l v ≡ true → (x : ℕ) → is_inside f x v ≡ true
        → is_finish f v ≡ true
    inside_begun [] kv x y = absurd (false≢true y)
    inside_begun (Finish h (Spawned c) ∷ v) kv x y =
        let b = last_accepted l (Finish h (Spawned c)) v kv in
        finish_later f (Finish h (Spawned c)) v
        (elim (cases_Bool (c == x)) [
          | inr s ↦
              inside_begun v b.1 x
              (subst (λ q. cond q ((h == f) || is_inside f (owner h v) v) (is_inside f x v) ≡ true) s y)
          | inl s ↦
              elim (or_cases (h == f) (is_inside f (owner h v) v) (subst
              (λ q. cond q ((h == f) || is_inside f (owner h v) v) (is_inside f x v) ≡ true) s y)) [
                | inl z ↦
                    subst (λ q. is_finish q v ≡ true) (eqb-true h f z)
                    (open_begun (finish_past h v) (spawn_follows l.tasks (finish_past h v) c
                    (event_allowed l v h (Spawned c) b.0)).open_now)
                | inr z ↦ inside_begun v b.1 (owner h v) z
              ]
        ])
    inside_begun (d ∷ v) kv x y = finish_later f d v (inside_begun v (last_accepted l d v kv).1 x y)
inside_after l (e ∷ w) k f t i = inside_after l w (last_accepted l e w k).1 f t i

-- where a task was spawned is its home
pub spawned_home : (l : Limits) (w : List WorldEvent) → is_legal_world l w ≡ true → (t f : ℕ)
    → is_spawned t (finish_past f w) ≡ true → home t w ≡ f
spawned_home l [] k t f s = absurd (false≢true (sym (never (f == 0)) ∙ s))
  where
    never : (b : Bool) → is_spawned t (cond b (Opened 0 ∷ []) []) ≡ false
    never true = refl
    never false = refl
spawned_home l (Finish g (Spawned u) ∷ w) k t f s =
    let e = Finish g (Spawned u) in
    let a = last_accepted l e w k in
    let older : is_spawned t (finish_past f w) ≡ true → home t (e ∷ w) ≡ f = λ y.
    home_later l w a.1 t e (born_once l w e t a.1 a.0 (spawned_is_born t f w y))
    ∙ spawned_home l w a.1 t f y in
    elim (cases_Bool (g == f)) [
      | inr y ↦
          older
          (subst (λ b. is_spawned t (cond b (Spawned u ∷ finish_past f w) (finish_past f w)) ≡ true) y s)
      | inl y ↦
          elim (or_cases (u == t) (is_spawned t (finish_past f w)) (subst
          (λ b. is_spawned t (cond b (Spawned u ∷ finish_past f w) (finish_past f w)) ≡ true) y s)) [
            | inl z ↦ let here : home t (e ∷ w) ≡ g = rw z refl in here ∙ eqb-true g f y
            | inr z ↦ older z
          ]
    ]
spawned_home l (Finish g (Opened u) ∷ w) k t f s =
    spawned_home l w (last_accepted l (Finish g (Opened u)) w k).1 t f
    (subst (λ b. b ≡ true) (drop_it (g == f)) s)
  where
    drop_it : (b : Bool) → is_spawned t (cond b (Opened u ∷ finish_past f w) (finish_past f w))
        ≡ is_spawned t (finish_past f w)
    drop_it true = refl
    drop_it false = refl
spawned_home l (Finish g (Ended u) ∷ w) k t f s =
    spawned_home l w (last_accepted l (Finish g (Ended u)) w k).1 t f
    (subst (λ b. b ≡ true) (drop_it (g == f)) s)
  where
    drop_it : (b : Bool) → is_spawned t (cond b (Ended u ∷ finish_past f w) (finish_past f w))
        ≡ is_spawned t (finish_past f w)
    drop_it true = refl
    drop_it false = refl
spawned_home l (Finish g Shutting ∷ w) k t f s =
    spawned_home l w (last_accepted l (Finish g Shutting) w k).1 t f
    (subst (λ b. b ≡ true) (drop_it (g == f)) s)
  where
    drop_it : (b : Bool) → is_spawned t (cond b (Shutting ∷ finish_past f w) (finish_past f w))
        ≡ is_spawned t (finish_past f w)
    drop_it true = refl
    drop_it false = refl
spawned_home l (e ∷ w) k t f s = spawned_home l w (last_accepted l e w k).1 t f s

-- a task other than the root that has ended did so in its home
pub ended_at_home : (l : Limits) (w : List WorldEvent) → is_legal_world l w ≡ true → (t f : ℕ)
    → (t == 0) ≡ false → is_spawned t (finish_past f w) ≡ true → is_ended t w ≡ true
    → has_ended t (finish_past f w) ≡ true
ended_at_home l w k t f z s x =
    subst (λ g. has_ended t (finish_past g w) ≡ true) (spawned_home l w k t f s) (at_home w k x)
  where
    later : (v : List WorldEvent) (d : WorldEvent) (g : ℕ) → has_ended t (finish_past g v) ≡ true
        → has_ended t (finish_past g (d ∷ v)) ≡ true
    later v (Finish h (Ended u)) g y = by (h == g) y
      where
        by : (b : Bool) → has_ended t (finish_past g v) ≡ true
            → has_ended t (cond b (Ended u ∷ finish_past g v) (finish_past g v)) ≡ true
        by true q = or_right (u == t) (has_ended t (finish_past g v)) q
        by false q = q
    later v (Finish h (Spawned u)) g y = by (h == g) y
      where
        by : (b : Bool) → has_ended t (finish_past g v) ≡ true
            → has_ended t (cond b (Spawned u ∷ finish_past g v) (finish_past g v)) ≡ true
        by true q = q
        by false q = q
    later v (Finish h (Opened u)) g y = by (h == g) y
      where
        by : (b : Bool) → has_ended t (finish_past g v) ≡ true
            → has_ended t (cond b (Opened u ∷ finish_past g v) (finish_past g v)) ≡ true
        by true q = q
        by false q = q
    later v (Finish h Shutting) g y = by (h == g) y
      where
        by : (b : Bool) → has_ended t (finish_past g v) ≡ true
            → has_ended t (cond b (Shutting ∷ finish_past g v) (finish_past g v)) ≡ true
        by true q = q
        by false q = q
    later v d g y = y

    at_home : (v : List WorldEvent) → is_legal_world l v ≡ true → is_ended t v ≡ true
        → has_ended t (finish_past (home t v) v) ≡ true
    at_home [] kv y = absurd (false≢true y)
    at_home (d ∷ v) kv y =
        let a = last_accepted l d v kv in
        elim (or_cases (ends t d) (is_ended t v) y) [
          | inl n ↦ now d a.0 a.1 n
          | inr o ↦
              let before = at_home v a.1 o in
              let stays : home t (d ∷ v) ≡ home t v =
              home_later l v a.1 t d (born_once l v d t a.1 a.0
              (spawned_is_born t (home t v) v (was_spawned v a.1 (home t v) before))) in
              subst (λ g. has_ended t (finish_past g (d ∷ v)) ≡ true) (sym stays)
              (later v d (home t v) before)
        ]
      where
        was_spawned : (v : List WorldEvent) → is_legal_world l v ≡ true → (g : ℕ)
            → has_ended t (finish_past g v) ≡ true → is_spawned t (finish_past g v) ≡ true
        was_spawned v kv g q = ended_was_spawned l.tasks (finish_past g v) (finishes_legal l v kv g) t q

        now : (c : WorldEvent) → is_accepted l v c ≡ true → is_legal_world l v ≡ true → ends t c ≡ true
            → has_ended t (finish_past (home t (c ∷ v)) (c ∷ v)) ≡ true
        now (Finish g (Ended u)) h kv n =
            let same : u ≡ t = eqb-true u t n in
            let placed : home t v ≡ g =
            spawned_home l v kv t g (subst (λ q. is_spawned q (finish_past g v) ≡ true) same
            (end_follows l.tasks (finish_past g v) u (event_allowed l v g (Ended u) h)).spawned) in
            let self : (g == g) ≡ true = eq-eqb g g refl in
            let here : has_ended t (finish_past g (Finish g (Ended u) ∷ v)) ≡ true =
            rw self (or_left (u == t) (has_ended t (finish_past g v)) n) in
            subst (λ q. has_ended t (finish_past q (Finish g (Ended u) ∷ v)) ≡ true) (sym placed) here
        now (Finish g Shutting) h kv n = absurd (true≢false (sym (and_second (g == 0) (t == 0) n) ∙ z))
          where
            and_second : (p q : Bool) → (p && q) ≡ true → q ≡ true
            and_second true q r = r
            and_second false q r = absurd (false≢true r)
        now c h kv n = absurd cc
