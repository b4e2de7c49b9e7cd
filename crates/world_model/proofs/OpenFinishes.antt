-- Who opened a finish, which of a task's finishes are open, and which finish is its innermost.
use Rattle.std.proofs.Common.{◌≡◌, ◌⊎◌, ℕ, Bool, true, false, ◌==◌, not, cond, List, [], ◌∷◌, Some, None, refl, sym, subst, ap, ◌∙◌, inl, inr}
use Rattle.std.specs.Prelude.{filter, filter_map, slice_index_or}
use Rattle.std.specs.List.{cons_option}
use Rattle.std.proofs.lemmas.Bool.{and_parts, or_cases, or_left, or_right, cases_Bool, eqb-true, eq-eqb, not-true, true≢false, false≢true, false_from_ne_true}
use Rattle.phase_modes.specs.Lists.{is_empty}
use Rattle.phase_modes.specs.declared.limits.Limits.{Limits}
use Rattle.phase_model.proofs.LiveTasks.{has, has-filter, Apart}
use Rattle.finish_core.specs.declared.event.FinishEvent.{FinishEvent}
use Rattle.finish_core.specs.declared.event.FinishEvent.TheVariants.{Opened, Spawned, Shut as Shutting}
use Rattle.finish_core.specs.Finish.{is_open, shuts}
use Rattle.world_model.specs.declared.event.WorldEvent.{WorldEvent}
use Rattle.world_model.specs.declared.event.WorldEvent.TheVariants.{Finish}
use Rattle.world_model.specs.Parts.{finish_past}
use Rattle.world_model.specs.Scopes.{opened_by, open_finishes, inner, owner}
use Rattle.world_model.specs.Tasks.{home, spawns}
use Rattle.world_model.specs.Numbers.{is_finish}
use Rattle.world_model.specs.Actors.{actor}
use Rattle.world_model.specs.Replies.{is_legal_world, is_accepted}
use Rattle.world_model.proofs.MadeMeans.{last_accepted}
use Rattle.world_model.proofs.FinishesLegal.{event_allowed}

-- the finishes that t opened, the newest first
abbrev pub opened : ℕ → List WorldEvent → List ℕ
opened t w = filter_map (opened_by t) w

-- an opened finish has a number that was free
pub opening_fresh : (l : Limits) (w : List WorldEvent) (g u : ℕ)
    → is_accepted l w (Finish g (Opened u)) ≡ true → is_finish g w ≡ false
opening_fresh l w g u a = ap (λ b. not b) (event_allowed l w g (Opened u) a)

-- a finish stays one
pub finish_later : (f : ℕ) (e : WorldEvent) (w : List WorldEvent) → is_finish f w ≡ true
    → is_finish f (e ∷ w) ≡ true
finish_later f (Finish g d) w k =
    elim (g == f) as (λ b. not (is_empty (cond b (d ∷ finish_past f w) (finish_past f w))) ≡ true) [
      | true ↦ refl
      | false ↦ k
    ]
finish_later f e w k = k

pub root_finish : (w : List WorldEvent) → is_finish 0 w ≡ true
root_finish [] = refl
root_finish (e ∷ w) = finish_later 0 e w (root_finish w)

-- and keeps its owner
pub owner_later : (l : Limits) (f : ℕ) (e : WorldEvent) (w : List WorldEvent) → is_accepted l w e ≡ true
    → is_finish f w ≡ true → owner f (e ∷ w) ≡ owner f w
owner_later l f (Finish g (Opened u)) w a k =
    elim (cases_Bool (g == f)) [
      | inl s ↦
          absurd (false≢true
          (sym (subst (λ v. is_finish v w ≡ false) (eqb-true g f s) (opening_fresh l w g u a)) ∙ k))
      | inr s ↦ rw s refl
    ]
owner_later l f e w a k = refl

-- t opened f
pub record IsOpenedBy (t f : ℕ) (w : List WorldEvent) : Type 0 where
  pub begun : is_finish f w ≡ true
  pub by : owner f w ≡ t

opened_earlier : (l : Limits) (e : WorldEvent) (w : List WorldEvent) (t f : ℕ) → is_accepted l w e ≡ true
    → IsOpenedBy t f w → IsOpenedBy t f (e ∷ w)
opened_earlier l e w t f a b =
    record { begun = finish_later f e w b.begun; by = owner_later l f e w a b.begun ∙ b.by }

pub opened_by_owner : (l : Limits) (w : List WorldEvent) → is_legal_world l w ≡ true → (t f : ℕ)
    → has f (opened t w) ≡ true → IsOpenedBy t f w
opened_by_owner l [] k t f h = absurd cc
opened_by_owner l (Finish g (Opened u) ∷ w) k t f h =
    let e = Finish g (Opened u) in
    let a = last_accepted l e w k in
    elim (cases_Bool (u == t)) [
      | inl mine ↦
          elim (or_cases (g == f) (has f (opened t w)) (rw mine at h)) [
            | inl s ↦ record { begun = rw s refl; by = rw s (eqb-true u t mine) }
            | inr s ↦ opened_earlier l e w t f a.0 (opened_by_owner l w a.1 t f s)
          ]
      | inr other ↦ opened_earlier l e w t f a.0 (opened_by_owner l w a.1 t f (rw other at h))
    ]
opened_by_owner l (e ∷ w) k t f h =
    let a = last_accepted l e w k in
    opened_earlier l e w t f a.0 (opened_by_owner l w a.1 t f h)

-- nobody opens finish 0
pub never_root : (l : Limits) (w : List WorldEvent) → is_legal_world l w ≡ true → (t f : ℕ)
    → has f (opened t w) ≡ true → (0 == f) ≡ false
never_root l [] k t f h = absurd cc
never_root l (Finish g (Opened u) ∷ w) k t f h =
    let a = last_accepted l (Finish g (Opened u)) w k in
    elim (cases_Bool (u == t)) [
      | inl mine ↦
          elim (or_cases (g == f) (has f (opened t w)) (rw mine at h)) [
            | inl s ↦
                false_from_ne_true (0 == f) (λ z.
                let zero_is : 0 ≡ g = eqb-true 0 f z ∙ sym (eqb-true g f s) in
                true≢false (sym (root_finish w)
                ∙ subst (λ v. is_finish v w ≡ false) (sym zero_is) (opening_fresh l w g u a.0)))
            | inr s ↦ never_root l w a.1 t f s
          ]
      | inr other ↦ never_root l w a.1 t f (rw other at h)
    ]
never_root l (e ∷ w) k t f h = never_root l w (last_accepted l e w k).1 t f h

-- no finish is opened twice
pub opened_apart : (l : Limits) (w : List WorldEvent) → is_legal_world l w ≡ true → (t : ℕ)
    → Apart (opened t w)
opened_apart l [] k t = tt
opened_apart l (Finish g (Opened u) ∷ w) k t =
    let a = last_accepted l (Finish g (Opened u)) w k in
    let rest = opened_apart l w a.1 t in
    let new : has g (opened t w) ≡ false =
    false_from_ne_true (has g (opened t w))
    (λ h. true≢false (sym (opened_by_owner l w a.1 t g h).begun ∙ opening_fresh l w g u a.0)) in
    elim (u == t) as (λ b. Apart (cons_option (cond b (Some g) None) (opened t w))) [
      | true ↦ (new, rest)
      | false ↦ rest
    ]
opened_apart l (e ∷ w) k t = opened_apart l w (last_accepted l e w k).1 t

-- the event shuts f
abbrev pub shuts_finish : ℕ → WorldEvent → Bool
shuts_finish f (Finish g Shutting) = g == f
shuts_finish f _ = false

open_step : (b : Bool) (d : FinishEvent) (h : List FinishEvent) → is_empty h ≡ false → shuts d ≡ false
    → is_open (cond b (d ∷ h) h) ≡ is_open h
open_step true d [] n s = absurd (true≢false n)
open_step true d (x ∷ h) n s = rw s refl
open_step false d h n s = refl

-- a finish is open until it is shut
pub open_later : (l : Limits) (f : ℕ) (e : WorldEvent) (w : List WorldEvent) → is_finish f w ≡ true
    → shuts_finish f e ≡ false → is_open (finish_past f (e ∷ w)) ≡ is_open (finish_past f w)
open_later l f (Finish g Shutting) w k s = rw s refl
open_later l f (Finish g d) w k s =
    open_step (g == f) d (finish_past f w) (not-true (is_empty (finish_past f w)) k) refl
open_later l f e w k s = refl

pub filter_same : (p q : ℕ → Bool) (xs : List ℕ) → ((x : ℕ) → has x xs ≡ true → p x ≡ q x)
    → filter p xs ≡ filter q xs
filter_same p q [] k = refl
filter_same p q (x ∷ xs) k =
    let rest : filter p xs ≡ filter q xs = filter_same p q xs (λ y h. k y (or_right (x == y) (has y xs) h)) in
    let here : p x ≡ q x = k x (or_left (x == x) (has x xs) (eq-eqb x x refl)) in
    ap (λ b. cond b (x ∷ filter p xs) (filter p xs)) here ∙ ap (λ ys. cond (q x) (x ∷ ys) ys) rest

-- the first that passes fails now, the others are as they were
without_first : (p q : ℕ → Bool) (f : ℕ) (fs xs : List ℕ) → ((g : ℕ) → q g ≡ cond (f == g) false (p g))
    → Apart xs → filter p xs ≡ f ∷ fs → filter q xs ≡ fs
without_first p q f fs [] k a e = absurd (none_some e)
  where
    none_some : {x : ℕ} {xs : List ℕ} → [] ≡ x ∷ xs → ⊥
    none_some h = absurd cc
without_first p q f fs (x ∷ xs) k a e =
    elim (cases_Bool (p x)) [
      | inl passes ↦
          let both = split x f (filter p xs) fs (sym (rw passes refl) ∙ e) in
          let lone : has f xs ≡ false = subst (λ v. has v xs ≡ false) both.0 a.0 in
          let fails : q x ≡ false = k x ∙ ap (λ b. cond b false (p x)) (eq-eqb f x (sym both.0)) in
          let same : filter q xs ≡ filter p xs =
          filter_same q p xs (λ g h. k g ∙ ap (λ b. cond b false (p g)) (false_from_ne_true (f == g) (λ s.
          true≢false (sym (subst (λ v. has v xs ≡ true) (sym (eqb-true f g s)) h) ∙ lone)))) in
          ap (λ b. cond b (x ∷ filter q xs) (filter q xs)) fails ∙ (same ∙ both.1)
      | inr fails_it ↦
          let fails : q x ≡ false = k x ∙ under (f == x) (p x) fails_it in
          ap (λ b. cond b (x ∷ filter q xs) (filter q xs)) fails
          ∙ without_first p q f fs xs k a.1 (sym (rw fails_it refl) ∙ e)
    ]
  where
    split : (x y : ℕ) (xs ys : List ℕ) → x ∷ xs ≡ y ∷ ys → (x ≡ y) × (xs ≡ ys)
    split x y xs ys h = (cc, cc)

    under : (b c : Bool) → c ≡ false → cond b false c ≡ false
    under true c n = refl
    under false c n = n

module _ (l : Limits) (w : List WorldEvent) (k : is_legal_world l w ≡ true) (t : ℕ) where
  -- a shut takes the innermost finish from t's open ones
  pub shut_takes : (f : ℕ) (fs : List ℕ) → open_finishes t w ≡ f ∷ fs
      → open_finishes t (Finish f Shutting ∷ w) ≡ fs
  shut_takes f fs e =
      without_first (λ g. is_open (finish_past g w)) (λ g. is_open (finish_past g (Finish f Shutting ∷ w))) f
      fs (opened t w) (λ g. after_shut (f == g) (finish_past g w)) (opened_apart l w k t) e
    where
      after_shut : (b : Bool) (h : List FinishEvent)
          → is_open (cond b (Shutting ∷ h) h) ≡ cond b false (is_open h)
      after_shut true h = refl
      after_shut false h = refl

  -- an event that neither opens nor shuts a finish of t
  pub opens_same : (e : WorldEvent) → opened_by t e ≡ None → ((f : ℕ) → has f (opened t w) ≡ true
      → shuts_finish f e ≡ false) → open_finishes t (e ∷ w) ≡ open_finishes t w
  opens_same e o s =
      rw o (filter_same (λ f. is_open (finish_past f (e ∷ w))) (λ f. is_open (finish_past f w)) (opened t w)
      (λ f h. open_later l f e w (opened_by_owner l w k t f h).begun (s f h)))

  not_opening : (e : WorldEvent) → (actor w e == t) ≡ false → opened_by t e ≡ None
  not_opening (Finish f (Opened u)) o = rw o refl
  not_opening e o = refl

  not_shutting : (e : WorldEvent) (f : ℕ) → has f (opened t w) ≡ true → (actor w e == t) ≡ false
      → shuts_finish f e ≡ false
  not_shutting (Finish g Shutting) f h o =
      false_from_ne_true (g == f) (λ s. true≢false (sym (eq-eqb (owner g w) t
      (ap (λ v. owner v w) (eqb-true g f s) ∙ (opened_by_owner l w k t f h).by)) ∙ o))
  not_shutting e f h o = refl

  -- what others do leaves t's finishes as they were
  pub opens_by_others : (e : WorldEvent) → (actor w e == t) ≡ false
      → open_finishes t (e ∷ w) ≡ open_finishes t w
  opens_by_others e o = opens_same e (not_opening e o) (λ f h. not_shutting e f h o)

  pub home_later : (e : WorldEvent) → spawns t e ≡ false → home t (e ∷ w) ≡ home t w
  home_later (Finish f (Spawned u)) s = rw s refl
  home_later e s = refl

  inner_from : (e : WorldEvent) → open_finishes t (e ∷ w) ≡ open_finishes t w → spawns t e ≡ false
      → inner t (e ∷ w) ≡ inner t w
  inner_from e o s =
      ap (λ fs. slice_index_or fs 0 (home t (e ∷ w))) o
      ∙ ap (λ d. slice_index_or (open_finishes t w) 0 d) (home_later e s)

  pub inner_by_others : (e : WorldEvent) → (actor w e == t) ≡ false → spawns t e ≡ false
      → inner t (e ∷ w) ≡ inner t w
  inner_by_others e o s = inner_from e (opens_by_others e o) s

  -- nor does a spawn of another task change what is innermost
  pub inner_same : (e : WorldEvent) → opened_by t e ≡ None → ((f : ℕ) → shuts_finish f e ≡ false)
      → spawns t e ≡ false → inner t (e ∷ w) ≡ inner t w
  inner_same e o s b = inner_from e (opens_same e o (λ f h. s f)) b

  -- an open finish of t is one that it opened
  pub open_is_own : (f : ℕ) → has f (open_finishes t w) ≡ true
      → IsOpenedBy t f w × (is_open (finish_past f w) ≡ true)
  open_is_own f h =
      let p =
      and_parts (is_open (finish_past f w)) (has f (opened t w))
      (sym (has-filter (λ g. is_open (finish_past g w)) f (opened t w)) ∙ h) in
      (opened_by_owner l w k t f p.1, p.0)

  first_or : (fs : List ℕ) (d : ℕ) → (slice_index_or fs 0 d ≡ d) ⊎ (has (slice_index_or fs 0 d) fs ≡ true)
  first_or [] d = inl refl
  first_or (f ∷ fs) d = inr (or_left (f == f) (has f fs) (eq-eqb f f refl))

  -- the innermost finish is the home, or one that t opened
  pub inner_is : (inner t w ≡ home t w) ⊎ (owner (inner t w) w ≡ t)
  inner_is =
      elim (first_or (open_finishes t w) (home t w)) [
        | inl e ↦ inl e
        | inr h ↦ inr (open_is_own (inner t w) h).0.by
      ]

  pub inner_is_begun : (inner t w ≡ home t w) ⊎ (is_finish (inner t w) w ≡ true)
  inner_is_begun =
      elim (first_or (open_finishes t w) (home t w)) [
        | inl e ↦ inl e
        | inr h ↦ inr (open_is_own (inner t w) h).0.begun
      ]

  pub inner_is_opened : (inner t w ≡ home t w) ⊎ (has (inner t w) (open_finishes t w) ≡ true)
  inner_is_opened = first_or (open_finishes t w) (home t w)
