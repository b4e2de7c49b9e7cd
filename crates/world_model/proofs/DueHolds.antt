-- What holds of the events due after an entry, as long as each one made leaves it.
use Rattle.std.proofs.Common.{◌≡◌, ℕ, ◌+◌, ◌≤◌, Bool, true, false, ◌&&◌, ◌||◌, ◌==◌, not, cond, List, [], ◌∷◌, ◌++◌, map, Option, Some, None, refl, sym, subst, ap, ◌∙◌, inl, inr, arith}
use Rattle.std.specs.Prelude.{drop, filter}
use Rattle.std.specs.List.{list_any}
use Rattle.std.proofs.lemmas.Bool.{cases_Bool, eq-eqb}
use Rattle.phase_modes.specs.declared.limits.Limits.{Limits}
use Rattle.world_model.specs.declared.event.Step.TheVariants.{Sig, Pass}
use Rattle.world_model.specs.declared.event.Begun.{Begun}
use Rattle.world_model.specs.declared.event.Begun.TheVariants.{Wait, Next, NextSingle}
use Rattle.world_model.specs.declared.event.WorldEvent.{WorldEvent}
use Rattle.world_model.specs.declared.event.WorldEvent.TheVariants.{Phaser, Finish, Begin, Refuse, Fail}
use Rattle.world_model.specs.Parts.{phaser_past}
use Rattle.world_model.specs.Tasks.{phasers_of}
use Rattle.world_model.specs.Actors.{actor}
use Rattle.world_model.specs.Due.{due, fixed, fixed_by, is_entry, is_of_single, passes_due, is_behind}
use Rattle.world_model.specs.Clock.{is_turn}
use Rattle.world_model.specs.Replies.{is_legal_world}
use Rattle.world_model.specs.TaskConditions.{last_entry}
use Rattle.world_model.specs.ClockLaws.{begins_turn, is_pass_on}
use Rattle.phase_model.specs.Tasks.{is_live}
use Rattle.world_model.proofs.MadeMeans.{last_accepted}
use Rattle.world_model.proofs.PhasersOnce.{times, phasers_once}

module _ (l : Limits) (t : ℕ) (Q : Option WorldEvent → Bool) (P : List WorldEvent → Type 0)
    (nothing : P [])
    (less : (ds : List WorldEvent) → P ds → P (drop 1 ds))
    (entry : (e : WorldEvent) (w : List WorldEvent) → is_legal_world l (e ∷ w) ≡ true → is_entry t e ≡ true
    → Q (Some e) ≡ true → P (fixed e w)) where
  at_cond : (b : Bool) (ds : List WorldEvent) → P ds → P (cond b (drop 1 ds) ds)
  at_cond true ds p = less ds p
  at_cond false ds p = p

  after_rest : (e : WorldEvent) (w : List WorldEvent) → is_entry t e ≡ false
      → (Q (last_entry t w) ≡ true → P (due t w)) → Q (last_entry t (e ∷ w)) ≡ true → P (due t (e ∷ w))
  after_rest e w n h = rw n (λ k. at_cond (actor w e == t && not (is_of_single e)) (due t w) (h k))

  after_entry : (e : WorldEvent) (w : List WorldEvent) → is_legal_world l (e ∷ w) ≡ true → is_entry t e ≡ true
      → Q (last_entry t (e ∷ w)) ≡ true → P (due t (e ∷ w))
  after_entry e w k n = rw n (λ q. entry e w k n q)

  -- where it holds of what each entry of a kind fixes, it holds of what is due after one
  pub due_has : (w : List WorldEvent) → is_legal_world l w ≡ true → Q (last_entry t w) ≡ true → P (due t w)
  due_has [] k q = nothing
  due_has (e ∷ w) k q =
      (elim (cases_Bool (is_entry t e)) as (λ x. Q (last_entry t (e ∷ w)) ≡ true → P (due t (e ∷ w))) [
        | inl n ↦ after_entry e w k n
        | inr n ↦ after_rest e w n (due_has w (last_accepted l e w k).1)
      ]) q

-- how many passes of phaser n there are
abbrev pub passes_on : ℕ → List WorldEvent → ℕ
passes_on n [] = 0
passes_on n (d ∷ ds) = cond (is_pass_on n d) (passes_on n ds + 1) (passes_on n ds)

passes_map : (t n : ℕ) (ns : List ℕ) → passes_on n (map (λ m. Phaser m (Pass t)) ns) ≡ times n ns
passes_map t n [] = refl
passes_map t n (m ∷ ms) = ap (λ x. cond (m == n) (x + 1) x) (passes_map t n ms)

passes_behind : (t n : ℕ) (x : Option ℕ) (ns : List ℕ) (ds : List WorldEvent)
    → passes_on n (map (λ m. Phaser m (Sig t x)) ns ++ ds) ≡ passes_on n ds
passes_behind t n x [] ds = refl
passes_behind t n x (m ∷ ms) ds = passes_behind t n x ms ds

-- a turn has one pass on each phaser of the task
pub passes_fixed : (t n : ℕ) (b : Begun) (w : List WorldEvent) → is_turn b ≡ true
    → passes_on n (fixed_by t b w) ≡ times n (phasers_of t w)
passes_fixed t n Wait w k = passes_map t n (phasers_of t w)
passes_fixed t n Next w k =
    passes_behind t n None (filter (λ m. is_behind t (phaser_past m w)) (phasers_of t w)) (passes_due t w)
    ∙ passes_map t n (phasers_of t w)
passes_fixed t n (NextSingle x) w k =
    passes_behind t n (Some x) (filter (λ m. is_behind t (phaser_past m w)) (phasers_of t w)) (passes_due t w)
    ∙ passes_map t n (phasers_of t w)
passes_fixed t n b w k = absurd cc

one_at_most : (b : Bool) → cond b 1 0 ≤ 1
one_at_most true = omega arith
one_at_most false = omega arith

less_passes : (n : ℕ) (ds : List WorldEvent) → passes_on n (drop 1 ds) ≤ passes_on n ds
less_passes n [] = omega arith
less_passes n (d ∷ ds) = fewer (is_pass_on n d) (passes_on n ds)
  where
    fewer : (b : Bool) (x : ℕ) → x ≤ cond b (x + 1) x
    fewer true x = omega arith
    fewer false x = omega arith

no_more : (x y : ℕ) → x ≤ y → y ≤ 1 → x ≤ 1
no_more x y h k = omega arith

entry_passes : (l : Limits) (t n : ℕ) (e : WorldEvent) (w : List WorldEvent) → is_legal_world l (e ∷ w) ≡ true
    → is_entry t e ≡ true → begins_turn (Some e) ≡ true → passes_on n (fixed e w) ≤ 1
entry_passes l t n (Begin u b) w k e q =
    subst (λ x. x ≤ 1)
    (sym (passes_fixed u n b w q ∙ phasers_once l w (last_accepted l (Begin u b) w k).1 u n))
    (one_at_most (is_live u (phaser_past n w)))
entry_passes l t n (Refuse u a x) w k e q = absurd cc
entry_passes l t n (Fail u x) w k e q = absurd cc
entry_passes l t n (Phaser m s) w k e q = absurd cc
entry_passes l t n (Finish f s) w k e q = absurd cc

-- in a turn no phaser is passed twice
pub passes_once : (l : Limits) (t n : ℕ) (w : List WorldEvent) → is_legal_world l w ≡ true
    → begins_turn (last_entry t w) ≡ true → passes_on n (due t w) ≤ 1
passes_once l t n w k q =
    due_has l t begins_turn (λ ds. passes_on n ds ≤ 1) (one_at_most false)
    (λ ds p. no_more (passes_on n (drop 1 ds)) (passes_on n ds) (less_passes n ds) p)
    (λ e v h x y. entry_passes l t n e v h x y) w k q

pub no_pass : (n : ℕ) (ds : List WorldEvent) → passes_on n ds ≤ 0 → list_any (is_pass_on n) ds ≡ false
no_pass n [] k = refl
no_pass n (d ∷ ds) k =
    (elim (is_pass_on n d) as (λ b. cond b (passes_on n ds + 1) (passes_on n ds) ≤ 0
    → (b || list_any (is_pass_on n) ds) ≡ false) [
      | true ↦ λ h. absurd (too_many (passes_on n ds) h)
      | false ↦ λ h. no_pass n ds h
    ]) k
  where
    too_many : (x : ℕ) → x + 1 ≤ 0 → ⊥
    too_many x h = omega arith

one_less : (x : ℕ) → x + 1 ≤ 1 → x ≤ 0
one_less x h = omega arith

-- after a pass that is due, none of its phaser is due in the turn
pub pass_is_last : (l : Limits) (t n : ℕ) (w ds : List WorldEvent) → is_legal_world l w ≡ true
    → begins_turn (last_entry t w) ≡ true → due t w ≡ Phaser n (Pass t) ∷ ds
    → list_any (is_pass_on n) ds ≡ false
pass_is_last l t n w ds k q e =
    no_pass n ds (one_less (passes_on n ds) (subst (λ b. cond b (passes_on n ds + 1) (passes_on n ds) ≤ 1)
    (eq-eqb n n refl) (subst (λ x. passes_on n x ≤ 1) e (passes_once l t n w k q))))
