-- What a call posts in the books.
use Rattle.std.proofs.Common.{◌≡◌, ◌≤◌, Bool, true, false, sym, subst, arith}
use Rattle.phase_model.specs.Amounts.{Amount, plus}
use Rattle.phase_model.specs.declared.history.Event.{Event}
use Rattle.phaser_cell.specs.Amounts.{amount_if}
use Rattle.phaser_cell.proofs.Written.{one_event}
use Rattle.task_worker.specs.inner.Posted.{PostsAtMost}

at_most_one : (added : Bool) (e : Event) → (amount_if added e).events ≤ 1
at_most_one true e = omega (arith, one_event e)
at_most_one false e = omega arith

-- a call posts the event that it adds, if it adds one
pub call_posts : (added : Bool) (e : Event) (mine mine' : Amount) → mine' ≡ plus (amount_if added e) mine → PostsAtMost 1 mine mine'
call_posts added e mine mine' grown =
    let few : (amount_if added e).events ≤ 1 = at_most_one added e in
    subst (λ (a : Amount). PostsAtMost 1 mine a) (sym grown) (omega (arith, few))
