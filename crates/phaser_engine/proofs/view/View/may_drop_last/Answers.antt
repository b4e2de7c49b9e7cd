use Rattle.std.proofs.Common.{◌≡◌, ◌-◌, Bool, true, false, ◌&&◌, not, length, refl}
use Rattle.single_state.specs.Single.{may_pass}
use Rattle.phaser_engine.proofs.Leaving.{leaves}
use Rattle.phaser_engine.proofs.Reading.{place_in}
use Rattle.phaser_engine.proofs.view.View.may_drop_last.Goals as goal

owes_none : (a b : Bool) → not a ≡ true → (a && b) ≡ false
owes_none true b k = absurd cc
owes_none false b k = refl

pub returns-in-Some-clause-done : goal.returns-in-Some-clause-done
returns-in-Some-clause-done c = λ clear.
    let v = c.args.self.now in
    leaves v.history.now v.table.now.lines v.single v.stands c.args.task (length v.table.now.lines - 1)
    c.in-Some.entry c.in-Some.ensures.some c.in-Some.ensures.task
    (owes_none c.in-Some.entry.proposed (not (may_pass v.single c.in-Some.entry.reg.phase)) clear)

pub returns-in-Some-clause-line : goal.returns-in-Some-clause-line
returns-in-Some-clause-line c = λ clear.
    let v = c.args.self.now in
    place_in v.history.now v.table.now.lines v.single v.stands c.args.task (length v.table.now.lines - 1)
    c.in-Some.entry c.in-Some.ensures.some c.in-Some.ensures.task
