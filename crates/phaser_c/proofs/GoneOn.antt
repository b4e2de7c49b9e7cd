-- What is known of a phaser holds of it in its handle.
use Rattle.std.proofs.Common.{◌≡◌, ℕ, ◌+◌, Bool, true, false, List, Option, None, Some, Result, Ok, Err, IfOk, IfErr, refl, ap, sym, ◌∙◌, subst, inl}
use Rattle.phase_modes.specs.declared.refusal.Refusal.{Refusal}
use Rattle.phase_model.specs.Rules.{Story}
use Rattle.long_locks.specs.declared.cell.LongCell.{LongCell}
use Rattle.long_locks.specs.declared.course.Then.{Then}
use Rattle.long_locks.specs.Turns.{Standing}
use Rattle.phaser_c.specs.declared.answer.ExportAnswer.{ExportAnswer}
use Rattle.phaser_c.specs.declared.answer.ExportAnswer.TheVariants.{Done}
use Rattle.phaser_c.specs.declared.freed.GivenFreed.{GivenFreed}
use Rattle.phaser_c.specs.declared.waiting.Waiting.{Waiting}
use Rattle.phaser_c.specs.Waiting.{IsGoneOn, IsGoneOnAt, IsHeldAfter, answer_done, answer_given, task_given, number_if, next_after}
use Rattle.phaser_c.specs.WaitingGiven.{IsNew, IsMadeFrom}

made_new : (new : Option Waiting) (given : Result Story ExportAnswer) (w : Waiting) → new ≡ Some w → IsNew given w
    → IsMadeFrom None new given Done
made_new new (Ok s) w is fresh = inl (w, refl, is, fresh)
made_new new (Err why) w is fresh = absurd fresh

-- a phaser that was made as given is put into a handle that held none
pub made_of : (old new : Option Waiting) (given : Result Story ExportAnswer) (w : Waiting) → old ≡ None → new ≡ Some w
    → IsNew given w → IsMadeFrom old new given Done
made_of old new given w none is fresh =
    subst (λ (o : Option Waiting). IsMadeFrom o new given Done) (sym none) (made_new new given w is fresh)

-- a call by which others may go on was made on the phaser that the handle held
pub gone_on_at : (How : LongCell Then → Standing → Type 0) (old new : Option Waiting) (room room' : List GivenFreed)
    (count count' : ℕ) (wide : Bool) (w v : Waiting) → wide ≡ true → old ≡ Some w → new ≡ Some v
    → IsGoneOn How w.cell v.cell room room' count' → IsGoneOnAt How old new room room' count count' wide
gone_on_at How old new room room' count count' false w v wide was is gone = absurd cc
gone_on_at How old new room room' count count' true w v wide was is gone =
    subst (λ (o : Option Waiting). IsGoneOnAt How o new room room' count count' true) (sym was) (v, is, gone)

-- another call was made on it
pub held_after : (How : LongCell Then → LongCell Then → Type 0) (old new : Option Waiting) (w v : Waiting) → old ≡ Some w
    → new ≡ Some v → How w.cell v.cell → IsHeldAfter How old new
held_after How old new w v was is made =
    subst (λ (o : Option Waiting). IsHeldAfter How o new) (sym was) (v, is, made)

-- a number that was given out, by the clauses of the call that gives it
pub answer_is : (o : Result ℕ Refusal) (d : Result (Unit {0}) Refusal) → IfOk o (λ t. d ≡ Ok tt)
    → IfErr o (λ r. d ≡ Err r) → answer_given o ≡ answer_done d
answer_is (Ok t) d ok err = ap answer_done (sym ok)
answer_is (Err r) d ok err = ap answer_done (sym err)

pub task_is : (old next : ℕ) (o : Result ℕ Refusal) (d : Result (Unit {0}) Refusal) → IfOk o (λ t. t ≡ next)
    → IfOk o (λ t. d ≡ Ok tt) → IfErr o (λ r. d ≡ Err r) → task_given old o ≡ number_if old next d
task_is old next (Ok t) d is ok err = is ∙ ap (λ x. number_if old next x) (sym ok)
task_is old next (Err r) d is ok err = ap (λ x. number_if old next x) (sym err)

pub next_is : (n m : ℕ) (o : Result ℕ Refusal) (d : Result (Unit {0}) Refusal) → IfOk o (λ t. t ≡ n)
    → IfOk o (λ t. m ≡ t + 1) → IfErr o (λ r. m ≡ n) → IfOk o (λ t. d ≡ Ok tt) → IfErr o (λ r. d ≡ Err r)
    → m ≡ next_after n d
next_is n m (Ok t) d is more kept ok err = more ∙ (ap (λ i. i + 1) is ∙ ap (λ x. next_after n x) (sym ok))
next_is n m (Err r) d is more kept ok err = kept ∙ ap (λ x. next_after n x) (sym err)
