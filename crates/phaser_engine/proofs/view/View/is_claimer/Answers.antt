-- Where the task has a line, the line answers; a task that isn't live may claim nothing.
use Rattle.std.proofs.Common.{◌≡◌, Bool, true, false, cond, Option, Some, None, is_some, refl, sym, ap, ◌∙◌}
use Rattle.single_state.specs.declared.statement.Statement.{Statement}
use Rattle.single_state.specs.Single.{claimed}
use Rattle.phaser_engine.specs.Turns.{claims}
use Rattle.phaser_engine.proofs.Reading.{not_live, found_in}
use Rattle.phaser_engine.proofs.Claiming.{claims_is}
use Rattle.phaser_engine.proofs.view.View.is_claimer.Goals as goal

some_by : (b : Bool) (x : Option Statement) → is_some (cond b (Some x) None) ≡ b
some_by true x = refl
some_by false x = refl

pub returns-in-Some-clause-claims : goal.returns-in-Some-clause-claims
returns-in-Some-clause-claims c =
    let s = c.args.self.now.history.now in
    let table = c.args.self.now.table.now.lines in
    let single = c.args.self.now.single in
    let e = c.in-Some.entry in
    let f = found_in s table single c.args.self.now.stands c.args.task c.in-Some.field-0-0 e
    c.in-Some.ensures.some c.in-Some.ensures.task in
    c.is_some.ensures
    ∙ (ap (λ o. is_some o) c.with_claim.ensures
    ∙ (some_by (claims table single e) (claimed single e.task)
    ∙ sym (claims_is s table single c.args.self.now.stands c.args.task e f)))

pub returns-in-None-clause-claims : goal.returns-in-None-clause-claims
returns-in-None-clause-claims c =
    let none =
    not_live c.args.self.now.history.now c.args.self.now.table.now.lines c.args.self.now.single
    c.args.self.now.stands c.args.task c.in-None.ensures.none in
    rw none refl
