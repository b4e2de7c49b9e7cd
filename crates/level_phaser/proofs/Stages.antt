-- Where a task stands, as its thread has it.
use Rattle.std.proofs.Common.{Option, Some, None, IfSome, refl, ◌<◌, ◌≤◌, ◌≡◌, ◌≢◌, ℕ, List, [], ◌∷◌, get_or, length, arith, Bool, true, false, true≢false, sym, ap, ◌∙◌, subst}
use Rattle.atomic_table.specs.Table.{Me, rest}
use Rattle.phase_model.specs.declared.history.Event.{Event}
use Rattle.level_phaser.specs.Changes.{IsSent}
use Rattle.level_phaser.specs.declared.view.SeatView.{SeatView}
use Rattle.level_phaser.specs.declared.view.Role.TheVariants as role
use Rattle.level_phaser.specs.declared.stage.Stage.{Stage}
use Rattle.level_phaser.specs.declared.stage.Stage.TheVariants.{Stands, Waits, Gone, Stuck, Closed}
use Rattle.level_phaser.specs.Views.{pending_in, fresh_in, seated_as}
use Rattle.level_phaser.specs.inner.Steps.{InStage, deeds_in, tasks_of, role_of}
use Rattle.level_phaser.specs.declared.view.Deeds.{Deeds}
use Rattle.level_phaser.specs.declared.view.SeatedTask.{SeatedTask}
use Rattle.level_phaser.proofs.Keeps.{IsInRole, IsIn, is_in}

by_stage : (S : Type 0) (stage : Stage) (task : ℕ) (done : Deeds) (es : List Event) (fresh : Bool) (cs : List SeatedTask)
    → cs ≡ tasks_of stage task done es fresh → IsInRole (role_of {S = S} stage) (length cs)
by_stage S Stands task done es fresh cs is = let n : length cs ≡ 1 = ap length is in omega arith
by_stage S Waits task done es fresh cs is = let n : length cs ≡ 1 = ap length is in omega arith
by_stage S Gone task done es fresh cs is = tt
by_stage S Stuck task done es fresh cs is = tt
by_stage S Closed task done es fresh cs is = let n : length cs ≡ 1 = ap length is in omega arith

-- a task that stands has a seat that stands
module _ {S : Type 0} where
  pub stood : (stage : Stage) (task phase width : ℕ) (is_shown is_fresh : Bool) (me : Me S (SeatView S)) → stage ≡ Stands
      → InStage stage task phase width is_shown is_fresh me
      → (me.0.tasks ≡ seated_as task (deeds_in me.0.tasks) (pending_in me.0.tasks) (fresh_in me.0.tasks) ∷ []) × (me.0.phase ≡ phase)
      × (me.0.role ≡ role.Stands) × (me.1 ≡ []) × (width ≤ me.0.width)
      × (is_shown ≡ false → pending_in me.0.tasks ≡ []) × (is_shown ≡ true → task < 256)
      × (is_fresh ≡ true → fresh_in me.0.tasks ≡ true)
  stood stage task phase width is_shown is_fresh me is so =
      subst (λ (z : Stage). InStage z task phase width is_shown is_fresh me) is so (λ e. cc)

  -- the seat of a task is there once the table is open
  pub inside : (stage : Stage) (task phase width : ℕ) (is_shown is_fresh : Bool) (me : Me S (SeatView S)) → stage ≢ Stuck
      → InStage stage task phase width is_shown is_fresh me → IsIn me.0
  inside stage task phase width is_shown is_fresh me not so =
      let k = so not in
      is_in me.0 (role_of stage) k.2
      (by_stage S stage task (deeds_in me.0.tasks) (pending_in me.0.tasks) (fresh_in me.0.tasks) me.0.tasks k.0)

  -- a task that waits has a seat that has come
  pub waited : (stage : Stage) (task phase width : ℕ) (is_shown is_fresh : Bool) (me : Me S (SeatView S)) → stage ≡ Waits
      → InStage stage task phase width is_shown is_fresh me
      → (me.0.tasks ≡ seated_as task (deeds_in me.0.tasks) (pending_in me.0.tasks) (fresh_in me.0.tasks) ∷ [])
      × (me.0.phase ≡ phase) × (me.0.role ≡ role.Came)
  waited stage task phase width is_shown is_fresh me is so =
      let k = subst (λ (z : Stage). InStage z task phase width is_shown is_fresh me) is so (λ e. cc) in (k.0, k.1, k.2)

-- what a seat holds is what is lent of it
pub lent : {S : Type 0} (held : List (ℕ × S)) (x y : S) → held ≡ (0, x) ∷ [] → held ≡ (0, y) ∷ rest held
    → x ≡ y
lent {S = S} held x y is value = ap (λ (l : List (ℕ × S)). (get_or l 0 (0, x)).1) (sym is ∙ value)

-- a task that is registered is none that isn't
pub others_number : {S : Type 0} (registered : ℕ → S → Bool) (x : S) (a b : ℕ) → registered a x ≡ false
    → registered b x ≡ true → a ≢ b
others_number registered x a b isnt is e = true≢false (sym is ∙ ap (λ (k : ℕ). registered k x) (sym e) ∙ isnt)

-- what was sent at one of two equal values was sent at the other
pub sent_from : {S : Type 0} (events : S → List Event) (registered : ℕ → S → Bool) (count : S → ℕ) (width : S → ℕ)
    (task : ℕ) {e : Event} (x z y : S)
    → x ≡ z → IsSent events registered count width task e z y → IsSent events registered count width task e x y
sent_from events registered count width task {e = e} x z y same sent =
    subst (λ (w : _). IsSent events registered count width task e w y) (sym same) sent

-- what is so of an answer if there is one
pub if_some : {A : Type 0} {P : A → Type 0} (o : Option A) → ((a : A) → o ≡ Some a → P a) → IfSome o P
if_some None all = tt
if_some (Some a) all = all a refl
