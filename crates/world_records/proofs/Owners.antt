-- A finish is opened once, by its owner: what its shut does to the open finishes of each task.
use Rattle.std.proofs.Common.{◌≡◌, ℕ, Bool, true, false, ◌&&◌, ◌==◌, not, cond, List, [], ◌∷◌, refl, sym, ap, subst, ◌∙◌, inl, inr}
use Rattle.std.specs.Prelude.{filter, filter_map}
use Rattle.std.proofs.lemmas.Bool.{cases_Bool, eqb-true, eq-eqb, and_parts, and_from, false≢true, not-true}
use Rattle.phase_modes.specs.Lists.{is_empty}
use Rattle.phase_modes.specs.declared.limits.Limits.{Limits}
use Rattle.finish_core.specs.declared.event.FinishEvent.{FinishEvent}
use Rattle.finish_core.specs.declared.event.FinishEvent.TheVariants.{Opened, Spawned, Ended, Shut}
use Rattle.finish_core.specs.Finish.{is_open}
use Rattle.world_model.specs.declared.event.WorldEvent.{WorldEvent}
use Rattle.world_model.specs.declared.event.WorldEvent.TheVariants.{Phaser, Finish, Begin, Refuse, Fail}
use Rattle.world_model.specs.Parts.{finish_past}
use Rattle.world_model.specs.Scopes.{opened_by, open_finishes, owner}
use Rattle.world_model.specs.Replies.{is_accepted, is_legal_world}
use Rattle.world_model.proofs.MadeMeans.{last_accepted}
use Rattle.world_model.proofs.FinishesLegal.{event_allowed}
use Rattle.world_records.proofs.Chains.{has, joined, never_opened, filter_but}

-- no number stands in it twice
abbrev pub is_distinct : List ℕ → Bool
is_distinct [] = true
is_distinct (x ∷ xs) = not (has x xs) && is_distinct xs

none_is : (h : List FinishEvent) → is_empty h ≡ true → h ≡ []
none_is [] e = refl
none_is (x ∷ h) e = absurd cc

-- what is opened has no history
opened_new : (l : Limits) (f v : ℕ) (w : List WorldEvent) → is_accepted l w (Finish f (Opened v)) ≡ true → finish_past f w ≡ []
opened_new l f v w a = none_is (finish_past f w) (event_allowed l w f (Opened v) a)

-- finish 0 has a history from the start
root_past : (w : List WorldEvent) → is_empty (finish_past 0 w) ≡ false
root_past [] = refl
root_past (Finish g e ∷ w) = elim (g == 0) as (λ b. is_empty (cond b (e ∷ finish_past 0 w) (finish_past 0 w)) ≡ false) [ true ↦ refl | false ↦ root_past w ]
root_past (Phaser n s ∷ w) = root_past w
root_past (Begin t b ∷ w) = root_past w
root_past (Refuse t a n ∷ w) = root_past w
root_past (Fail t n ∷ w) = root_past w

pub root_owned : (l : Limits) (w : List WorldEvent) → is_legal_world l w ≡ true → owner 0 w ≡ 0
root_owned l [] k = refl
root_owned l (Finish g (Opened v) ∷ w) k =
    let a = last_accepted l (Finish g (Opened v)) w k in
    elim (cases_Bool (g == 0)) [
      | inl e ↦ absurd (false≢true (sym (root_past w) ∙ ap (λ h. is_empty h) (subst (λ i. finish_past i w ≡ []) (eqb-true g 0 e) (opened_new l g v w a.0))))
      | inr e ↦ rw e (root_owned l w a.1)
    ]
root_owned l (Finish g (Spawned v) ∷ w) k = root_owned l w (last_accepted l (Finish g (Spawned v)) w k).1
root_owned l (Finish g (Ended v) ∷ w) k = root_owned l w (last_accepted l (Finish g (Ended v)) w k).1
root_owned l (Finish g Shut ∷ w) k = root_owned l w (last_accepted l (Finish g Shut) w k).1
root_owned l (Phaser n s ∷ w) k = root_owned l w (last_accepted l (Phaser n s) w k).1
root_owned l (Begin t b ∷ w) k = root_owned l w (last_accepted l (Begin t b) w k).1
root_owned l (Refuse t a n ∷ w) k = root_owned l w (last_accepted l (Refuse t a n) w k).1
root_owned l (Fail t n ∷ w) k = root_owned l w (last_accepted l (Fail t n) w k).1

-- who doesn't own a finish didn't open it
pub not_owner : (l : Limits) (f u : ℕ) (w : List WorldEvent) → is_legal_world l w ≡ true → (owner f w == u) ≡ false → has f (filter_map (opened_by u) w) ≡ false
not_owner l f u [] k e = refl
not_owner l f u (Finish g (Opened v) ∷ w) k e =
    let a = last_accepted l (Finish g (Opened v)) w k in
    (elim (cases_Bool (g == f)) as (λ x. (cond (g == f) v (owner f w) == u) ≡ false → has f (filter_map (opened_by u) (Finish g (Opened v) ∷ w)) ≡ false) [
      | inl s ↦ rw s (λ h. rw h (never_opened u f w (subst (λ i. finish_past i w ≡ []) (eqb-true g f s) (opened_new l g v w a.0))))
      | inr s ↦ rw s (λ h. joined f g (v == u) (filter_map (opened_by u) w) s (not_owner l f u w a.1 h))
    ]) e
not_owner l f u (Finish g (Spawned v) ∷ w) k e = not_owner l f u w (last_accepted l (Finish g (Spawned v)) w k).1 e
not_owner l f u (Finish g (Ended v) ∷ w) k e = not_owner l f u w (last_accepted l (Finish g (Ended v)) w k).1 e
not_owner l f u (Finish g Shut ∷ w) k e = not_owner l f u w (last_accepted l (Finish g Shut) w k).1 e
not_owner l f u (Phaser n s ∷ w) k e = not_owner l f u w (last_accepted l (Phaser n s) w k).1 e
not_owner l f u (Begin t b ∷ w) k e = not_owner l f u w (last_accepted l (Begin t b) w k).1 e
not_owner l f u (Refuse t a n ∷ w) k e = not_owner l f u w (last_accepted l (Refuse t a n) w k).1 e
not_owner l f u (Fail t n ∷ w) k e = not_owner l f u w (last_accepted l (Fail t n) w k).1 e

-- a task opens no finish twice
pub opened_once : (l : Limits) (t : ℕ) (w : List WorldEvent) → is_legal_world l w ≡ true → is_distinct (filter_map (opened_by t) w) ≡ true
opened_once l t [] k = refl
opened_once l t (Finish g (Opened v) ∷ w) k =
    let a = last_accepted l (Finish g (Opened v)) w k in
    elim (cases_Bool (v == t)) [
      | inl e ↦ rw e (and_from (not (has g (filter_map (opened_by t) w))) (is_distinct (filter_map (opened_by t) w)) (ap (λ b. not b) (never_opened t g w (opened_new l g v w a.0))) (opened_once l t w a.1))
      | inr e ↦ rw e (opened_once l t w a.1)
    ]
opened_once l t (Finish g (Spawned v) ∷ w) k = opened_once l t w (last_accepted l (Finish g (Spawned v)) w k).1
opened_once l t (Finish g (Ended v) ∷ w) k = opened_once l t w (last_accepted l (Finish g (Ended v)) w k).1
opened_once l t (Finish g Shut ∷ w) k = opened_once l t w (last_accepted l (Finish g Shut) w k).1
opened_once l t (Phaser n s ∷ w) k = opened_once l t w (last_accepted l (Phaser n s) w k).1
opened_once l t (Begin u b ∷ w) k = opened_once l t w (last_accepted l (Begin u b) w k).1
opened_once l t (Refuse u a n ∷ w) k = opened_once l t w (last_accepted l (Refuse u a n) w k).1
opened_once l t (Fail u n ∷ w) k = opened_once l t w (last_accepted l (Fail u n) w k).1

-- two tests that agree but at f, which the second doesn't pass
module _ (p q : ℕ → Bool) (f : ℕ) (gone : q f ≡ false) (same : (g : ℕ) → (g == f) ≡ false → q g ≡ p g) where
  keeps_none : (x : ℕ) → p x ≡ false → q x ≡ false
  keeps_none x e = elim (cases_Bool (x == f)) [
    | inl s ↦ ap q (eqb-true x f s) ∙ gone
    | inr s ↦ same x s ∙ e
  ]

  -- where the first of those that pass is f, it goes
  pub first_goes : (xs rest : List ℕ) → is_distinct xs ≡ true → filter p xs ≡ f ∷ rest → filter q xs ≡ rest
  first_goes [] rest d e = absurd cc
  first_goes (x ∷ xs) rest d e = by_test (λ h. first_goes xs rest (and_parts (not (has x xs)) (is_distinct xs) d).1 h) (p x) refl e
    where
      by_test : (filter p xs ≡ f ∷ rest → filter q xs ≡ rest) → (b : Bool) → p x ≡ b → cond b (x ∷ filter p xs) (filter p xs) ≡ f ∷ rest → cond (q x) (x ∷ filter q xs) (filter q xs) ≡ rest
      by_test later true y h =
          let here : x ≡ f = cc in
          let after : filter p xs ≡ rest = cc in
          let parts = and_parts (not (has x xs)) (is_distinct xs) d in
          let missing : has f xs ≡ false = subst (λ i. has i xs ≡ false) here (not-true (has x xs) parts.0) in
          rw (ap q here ∙ gone) (filter_but q p f xs missing same ∙ after)
      by_test later false y h = rw (keeps_none x y) (later h)

  pub none_goes : (xs : List ℕ) → filter p xs ≡ [] → filter q xs ≡ []
  none_goes [] e = refl
  none_goes (x ∷ xs) e = by_test (λ h. none_goes xs h) (p x) refl e
    where
      by_test : (filter p xs ≡ [] → filter q xs ≡ []) → (b : Bool) → p x ≡ b → cond b (x ∷ filter p xs) (filter p xs) ≡ [] → cond (q x) (x ∷ filter q xs) (filter q xs) ≡ []
      by_test later true y h = absurd cc
      by_test later false y h = rw (keeps_none x y) (later h)

shut_here : (f : ℕ) (w : List WorldEvent) → is_open (finish_past f (Finish f Shut ∷ w)) ≡ false
shut_here f w = rw (eq-eqb f f refl) refl

shut_elsewhere : (f g : ℕ) (w : List WorldEvent) → (g == f) ≡ false → is_open (finish_past g (Finish f Shut ∷ w)) ≡ is_open (finish_past g w)
shut_elsewhere f g w e = elim (cases_Bool (f == g)) [
  | inl k ↦ absurd (false≢true (sym e ∙ eq-eqb g f (sym (eqb-true f g k))))
  | inr k ↦ rw k refl
]

-- another task's open finishes stay
pub others_stay : (l : Limits) (u f : ℕ) (w : List WorldEvent) → is_legal_world l w ≡ true → (owner f w == u) ≡ false → open_finishes u (Finish f Shut ∷ w) ≡ open_finishes u w
others_stay l u f w k e =
    filter_but (λ g. is_open (finish_past g (Finish f Shut ∷ w))) (λ g. is_open (finish_past g w)) f (filter_map (opened_by u) w) (not_owner l f u w k e) (λ g. shut_elsewhere f g w)

pub innermost_goes : (l : Limits) (t f : ℕ) (fs : List ℕ) (w : List WorldEvent) → is_legal_world l w ≡ true → open_finishes t w ≡ f ∷ fs → open_finishes t (Finish f Shut ∷ w) ≡ fs
innermost_goes l t f fs w k e =
    first_goes (λ g. is_open (finish_past g w)) (λ g. is_open (finish_past g (Finish f Shut ∷ w))) f (shut_here f w) (λ g. shut_elsewhere f g w) (filter_map (opened_by t) w) fs (opened_once l t w k) e

pub none_stays : (t f : ℕ) (w : List WorldEvent) → open_finishes t w ≡ [] → open_finishes t (Finish f Shut ∷ w) ≡ []
none_stays t f w e = none_goes (λ g. is_open (finish_past g w)) (λ g. is_open (finish_past g (Finish f Shut ∷ w))) f (shut_here f w) (λ g. shut_elsewhere f g w) (filter_map (opened_by t) w) e
