use Rattle.std.proofs.Common.{not, ap, sym, ◌∙◌}
use Rattle.phaser_engine.proofs.Leaving.{the_debt, leaves}
use Rattle.phaser_engine.proofs.Reading.{Found, not_live, found_in, place_in}
use Rattle.phaser_engine.proofs.Reports.{unknown_drop, owes_single}
use Rattle.phaser_engine.proofs.view.View.may_drop.Goals as goal

pub returns-in_default-clause-refused : goal.returns-in_default-clause-refused
returns-in_default-clause-refused c =
    let s = c.args.self.now.history.now in
    unknown_drop s c.args.task
    (not_live s c.args.self.now.table.now.lines c.args.self.now.single c.args.self.now.stands c.args.task
    c.in_default.ensures.none)

pub returns-then-owes_single-clause-refused : goal.returns-then-owes_single-clause-refused
returns-then-owes_single-clause-refused c =
    let v = c.args.self.now in
    let s = v.history.now in
    let f : Found s.past c.args.task c.in-Some.entry =
    found_in s v.table.now.lines v.single v.stands c.args.task c.in-Some.i c.in-Some.entry
    c.in-Some.ensures.some c.in-Some.ensures.task in
    owes_single s c.args.task f.live
    (the_debt s v.table.now.lines v.single v.stands c.args.task c.in-Some.i c.in-Some.entry
    c.in-Some.ensures.some c.in-Some.ensures.task
    ∙ ap (λ b. not b) (sym c.owes_single.ensures ∙ c.if-owes_single.true))

pub returns-clause-done : goal.returns-clause-done
returns-clause-done c =
    let v = c.args.self.now in
    leaves v.history.now v.table.now.lines v.single v.stands c.args.task c.in-Some.i c.in-Some.entry
    c.in-Some.ensures.some c.in-Some.ensures.task (sym c.owes_single.ensures ∙ c.if-owes_single.false)

pub returns-clause-place : goal.returns-clause-place
returns-clause-place c =
    let s = c.args.self.now.history.now in
    place_in s c.args.self.now.table.now.lines c.args.self.now.single c.args.self.now.stands c.args.task
    c.in-Some.i c.in-Some.entry c.in-Some.ensures.some c.in-Some.ensures.task
