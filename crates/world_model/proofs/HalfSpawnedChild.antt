-- Which children a task named that were never spawned: the one of the spawn that it began last, as long as that goes on, and no other.
use Rattle.std.proofs.Common.{◌≡◌, ℕ, Bool, true, false, ◌&&◌, ◌||◌, ◌==◌, not, cond, List, [], ◌∷◌, Option, Some, None, refl, sym, subst, ap, ◌∙◌, inl, inr}
use Rattle.std.specs.Prelude.{filter, filter_map}
use Rattle.std.specs.List.{list_any}
use Rattle.std.proofs.lemmas.Bool.{or_cases, or_left, or_right, cases_Bool, eqb-true, false≢true}
use Rattle.phase_modes.specs.Lists.{is_empty}
use Rattle.phase_modes.specs.declared.limits.Limits.{Limits}
use Rattle.phase_model.proofs.LiveTasks.{has}
use Rattle.world_model.specs.declared.event.Begun.TheVariants.{Async}
use Rattle.world_model.specs.declared.event.Tried.TheVariants.{Begun as Beginning}
use Rattle.world_model.specs.declared.event.WorldEvent.{WorldEvent}
use Rattle.world_model.specs.declared.event.WorldEvent.TheVariants.{Phaser, Finish, Begin, Refuse, Fail}
use Rattle.world_model.specs.Tasks.{spawner, spawns, is_born}
use Rattle.world_model.specs.Numbers.{names, is_named}
use Rattle.world_model.specs.Due.{due, unborn, named_by, is_entry, is_idle}
use Rattle.world_model.specs.Replies.{is_legal_world, is_accepted}
use Rattle.world_model.specs.TaskConditions.{last_entry}
use Rattle.world_model.proofs.MadeMeans.{last_accepted}
use Rattle.world_model.proofs.AbleComputed.{idle_in_act, refuse_idle, made_done_where}
use Rattle.world_model.proofs.SpawnUnderWay.{begins_spawn, named_later, spawner_later}
use Rattle.world_model.proofs.BornWhereNamed.{unborn_child}
use Rattle.world_model.proofs.LeavingAlways.{no_half_child}
use Rattle.world_model.proofs.SmallWords.{eq_self}

-- a task is the spawner of each child that it named
abbrev IsOwnChild : ℕ → List WorldEvent → ℕ → Type 0
IsOwnChild t w c = (is_named c w ≡ true) × (spawner c w ≡ t)

own_later : (l : Limits) (t c : ℕ) (e : WorldEvent) (w : List WorldEvent) → is_accepted l w e ≡ true → IsOwnChild t w c → IsOwnChild t (e ∷ w) c
own_later l t c e w a p = (named_later c e w p.0, spawner_later l c e w a p.0 ∙ p.1)

named_is_own : (l : Limits) (t c : ℕ) (w : List WorldEvent) → is_legal_world l w ≡ true → has c (filter_map (named_by t) w) ≡ true → IsOwnChild t w c
named_is_own l t c [] k h = absurd (false≢true h)
named_is_own l t c (Begin u (Async x ps) ∷ w) k h =
    let a = last_accepted l (Begin u (Async x ps)) w k in
    (elim (cases_Bool (u == t)) as (λ b. has c (filter_map (named_by t) (Begin u (Async x ps) ∷ w)) ≡ true → IsOwnChild t (Begin u (Async x ps) ∷ w) c) [
      | inl e ↦
          rw e (λ g. elim (or_cases (x == c) (has c (filter_map (named_by t) w)) g) [
            | inl y ↦ (or_right (c == 0) ((x == c) || list_any (names c) w) (or_left (x == c) (list_any (names c) w) y), rw y (eqb-true u t e))
            | inr y ↦ own_later l t c (Begin u (Async x ps)) w a.0 (named_is_own l t c w a.1 y)
          ])
      | inr e ↦ rw e (λ g. own_later l t c (Begin u (Async x ps)) w a.0 (named_is_own l t c w a.1 g))
    ]) h
named_is_own l t c (e ∷ w) k h = let a = last_accepted l e w k in own_later l t c e w a.0 (named_is_own l t c w a.1 h)

none_kept : (p : ℕ → Bool) (xs : List ℕ) → ((x : ℕ) → has x xs ≡ true → p x ≡ false) → filter p xs ≡ []
none_kept p [] e = refl
none_kept p (x ∷ xs) e =
    rw (e x (or_left (x == x) (has x xs) (eq_self x))) (none_kept p xs (λ y h. e y (or_right (x == y) (has y xs) h)))

-- an idle task has none
pub idle_unborn : (l : Limits) (t : ℕ) (w : List WorldEvent) → is_legal_world l w ≡ true → is_idle t w ≡ true → unborn t w ≡ []
idle_unborn l t w k i = none_kept (λ c. not (is_born c w)) (filter_map (named_by t) w) (λ c h. born c (named_is_own l t c w k h))
  where
    born : (c : ℕ) → IsOwnChild t w c → not (is_born c w) ≡ false
    born c p = elim (cases_Bool (is_born c w)) [ inl b ↦ ap (λ x. not x) b | inr b ↦ absurd (no_half_child l w t c k i p.0 b p.1) ]

-- the child that an entry names
abbrev pub child_of : Option WorldEvent → List ℕ
child_of (Some (Begin t (Async c ps))) = c ∷ []
child_of _ = []

abbrev pub is_failure : Option WorldEvent → Bool
is_failure (Some (Fail t n)) = true
is_failure _ = false

-- a test that holds where both of two do
both_kept : (p q r : ℕ → Bool) (xs : List ℕ) → ((x : ℕ) → r x ≡ (p x && q x)) → filter r xs ≡ filter q (filter p xs)
both_kept p q r [] e = refl
both_kept p q r (x ∷ xs) e =
    let rest : filter r xs ≡ filter q (filter p xs) = both_kept p q r xs e in
    (elim (p x) as (λ b. (r x ≡ (b && q x)) → cond (r x) (x ∷ filter r xs) (filter r xs) ≡ filter q (cond b (x ∷ filter p xs) (filter p xs))) [
      | true ↦ λ y. rw y (ap (λ ys. cond (q x) (x ∷ ys) ys) rest)
      | false ↦ λ y. rw y rest
    ]) (e x)

not_either : (a s b : Bool) → not (a || (s || b)) ≡ (not (a || b) && not s)
not_either true s b = refl
not_either false true true = refl
not_either false true false = refl
not_either false false true = refl
not_either false false false = refl

no_child : (t : ℕ) (e : WorldEvent) → is_entry t e ≡ false → named_by t e ≡ None
no_child t (Begin u (Async c ps)) n = rw n refl
no_child t (Begin u b) n = refl
no_child t (Refuse u a x) n = refl
no_child t (Fail u x) n = refl
no_child t (Phaser m s) n = refl
no_child t (Finish f s) n = refl

-- unless its last entry is a failure, a task's unborn child can only be the one that this entry names
pub unborn_is : (l : Limits) (t : ℕ) (w : List WorldEvent) → is_legal_world l w ≡ true → is_failure (last_entry t w) ≡ false
    → unborn t w ≡ filter (λ c. not (is_born c w)) (child_of (last_entry t w))
unborn_is l t [] k s = refl
unborn_is l t (e ∷ w) k s =
    let a = last_accepted l e w k in
    (elim (cases_Bool (is_entry t e)) as (λ x. is_failure (last_entry t (e ∷ w)) ≡ false → unborn t (e ∷ w) ≡ filter (λ c. not (is_born c (e ∷ w))) (child_of (last_entry t (e ∷ w)))) [
      | inl n ↦ rw n (λ q. at_entry e a.0 a.1 n q)
      | inr n ↦ rw (n, no_child t e n) (λ q. later e (unborn_is l t w a.1 q))
    ]) s
  where
    after_idle : is_legal_world l w ≡ true → (u : ℕ) → (u == t) ≡ true → is_idle u w ≡ true → unborn t w ≡ []
    after_idle kw u n i = idle_unborn l t w kw (subst (λ v. is_idle v w ≡ true) (eqb-true u t n) i)

    at_entry : (d : WorldEvent) → is_accepted l w d ≡ true → is_legal_world l w ≡ true → is_entry t d ≡ true → is_failure (Some d) ≡ false
        → unborn t (d ∷ w) ≡ filter (λ c. not (is_born c (d ∷ w))) (child_of (Some d))
    at_entry (Begin u (Async c ps)) h kw n q =
        rw n (ap (λ (ys : List ℕ). cond (not (is_born c w)) (c ∷ ys) ys) (after_idle kw u n (idle_in_act l w u (Beginning (Async c ps)) h)))
    at_entry (Begin u b) h kw n q = after_idle kw u n (idle_in_act l w u (Beginning b) h)
    at_entry (Refuse u b x) h kw n q = after_idle kw u n (refuse_idle l w u b x (made_done_where _ h))
    at_entry (Fail u x) h kw n q = absurd cc
    at_entry (Phaser m r) h kw n q = absurd (false≢true n)
    at_entry (Finish f r) h kw n q = absurd (false≢true n)

    later : (d : WorldEvent) → unborn t w ≡ filter (λ c. not (is_born c w)) (child_of (last_entry t w))
        → filter (λ c. not (is_born c (d ∷ w))) (filter_map (named_by t) w) ≡ filter (λ c. not (is_born c (d ∷ w))) (child_of (last_entry t w))
    later d same =
        let old = λ (c : ℕ). not (is_born c w) in
        let now = λ (c : ℕ). not (is_born c (d ∷ w)) in
        let here = λ (c : ℕ). not (spawns c d) in
        let each : (c : ℕ) → now c ≡ (old c && here c) = λ c. not_either (c == 0) (spawns c d) (list_any (spawns c) w) in
        both_kept old here now (filter_map (named_by t) w) each
        ∙ (ap (λ xs. filter here xs) same ∙ sym (both_kept old here now (child_of (last_entry t w)) each))

-- in the middle of a spawn it is this child
pub spawning_unborn : (l : Limits) (t c : ℕ) (w : List WorldEvent) → is_legal_world l w ≡ true → begins_spawn c (last_entry t w) ≡ true → is_empty (due t w) ≡ false → unborn t w ≡ c ∷ []
spawning_unborn l t c w k s d =
    let b : is_born c w ≡ false = unborn_child l t c w k s d in
    unborn_is l t w k (no_failure (last_entry t w) s)
    ∙ (ap (λ xs. filter (λ x. not (is_born x w)) xs) (the_child (last_entry t w) s) ∙ ap (λ x. cond (not x) (c ∷ []) []) b)
  where
    no_failure : (o : Option WorldEvent) → begins_spawn c o ≡ true → is_failure o ≡ false
    no_failure (Some (Begin u (Async x ps))) h = refl
    no_failure o h = absurd cc

    the_child : (o : Option WorldEvent) → begins_spawn c o ≡ true → child_of o ≡ c ∷ []
    the_child (Some (Begin u (Async x ps))) h = ap (λ v. v ∷ []) (eqb-true x c h)
    the_child o h = absurd cc

-- in any other act there is none
pub other_unborn : (l : Limits) (t : ℕ) (w : List WorldEvent) → is_legal_world l w ≡ true → is_failure (last_entry t w) ≡ false → child_of (last_entry t w) ≡ [] → unborn t w ≡ []
other_unborn l t w k s c = unborn_is l t w k s ∙ ap (λ xs. filter (λ x. not (is_born x w)) xs) c
