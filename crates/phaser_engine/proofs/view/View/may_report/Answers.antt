use Rattle.std.proofs.Common.{◌≡◌, ℕ, ◌∷◌, Option, Bool, true, false, ◌&&◌, not, cond, Result, Ok, Err, refl, ap, sym, ◌∙◌, subst}
use Rattle.std.proofs.lemmas.Bool.{and_from, and_parts, not-true}
use Rattle.phase_modes.specs.declared.refusal.Refusal.{Refusal}
use Rattle.phase_modes.specs.declared.refusal.Refusal.TheVariants.{NotNow}
use Rattle.phase_model.specs.declared.history.Event.TheVariants.{Did}
use Rattle.phase_model.specs.Tasks.{is_live}
use Rattle.phase_model.specs.Phases.{waits}
use Rattle.phase_model.specs.Singles.{has_claimed, is_done}
use Rattle.phase_model.proofs.Reserves.{did_has_room}
use Rattle.single_state.specs.declared.statement.Statement.{Statement}
use Rattle.single_state.specs.Single.{is_claimed_by, done}
use Rattle.phaser_engine.specs.Table.{IsLastSingle}
use Rattle.phaser_engine.proofs.Reading.{Found, not_live, found_in}
use Rattle.phaser_engine.proofs.Reports.{unknown, not_claimer, reports}
use Rattle.phaser_engine.proofs.SinglesKept.{claimed_by_is}
use Rattle.phaser_engine.proofs.SinglesMoved.{report_is_last}
use Rattle.phaser_engine.proofs.view.View.may_report.Goals as goal
use Rattle.phaser_engine.proofs.view.View.may_report.Goals.{In-Some, In-Ok}

the_found : (c : In-Some) → Found c.args.self.now.history.now.past c.args.task c.in-Some.entry
the_found c =
    found_in c.args.self.now.history.now c.args.self.now.table.now.lines c.args.self.now.single
    c.args.self.now.stands c.args.task c.in-Some.field-0-0 c.in-Some.entry c.in-Some.ensures.some
    c.in-Some.ensures.task

ok_where : (b : Bool) (r : Result (Unit {0}) Refusal) → r ≡ cond b (Ok tt) (Err NotNow) → r ≡ Ok tt → b ≡ true
ok_where true r a e = refl
ok_where false r a e = absurd cc

err_where : (b : Bool) (r : Result (Unit {0}) Refusal) (x : Refusal) → r ≡ cond b (Ok tt) (Err NotNow)
    → r ≡ Err x → b ≡ false
err_where true r x a e = absurd cc
err_where false r x a e = refl

-- what the report was answered, by the line's task
by_line : (o : Option Statement) (t u : ℕ) (r : Result (Unit {0}) Refusal) → u ≡ t
    → r ≡ cond (is_claimed_by o t) (Ok tt) (Err NotNow) → r ≡ cond (is_claimed_by o u) (Ok tt) (Err NotNow)
by_line o t u r same e = e ∙ ap (λ v. cond (is_claimed_by o v) (Ok tt) (Err NotNow)) (sym same)

-- the task that may report has a claim that isn't done
the_claim : (c : In-Ok)
    → (has_claimed c.args.task (waits c.args.task c.args.self.now.history.now.past)
    c.args.self.now.history.now.past
    && not (is_done (waits c.args.task c.args.self.now.history.now.past)
    c.args.self.now.history.now.past)) ≡ true
the_claim c =
    let s = c.args.self.now.history.now in
    claimed_by_is s.limits s.terms s.past c.args.self.now.stands.legal c.args.self.now.single c.args.task
    c.args.self.now.stands.last
    ∙ (ap (λ t. is_claimed_by c.args.self.now.single t) (sym c.in-Some.ensures.task)
    ∙ ok_where (is_claimed_by c.args.self.now.single c.in-Some.entry.task) c.done.result
    (by_line c.args.self.now.single c.args.task c.in-Some.entry.task c.done.result c.in-Some.ensures.task
    c.done.ensures.result) c.in-Ok.is)

pub returns-in_default-clause-refused : goal.returns-in_default-clause-refused
returns-in_default-clause-refused c =
    let s = c.args.self.now.history.now in
    unknown s c.args.task
    (not_live s c.args.self.now.table.now.lines c.args.self.now.single c.args.self.now.stands c.args.task
    c.in_default.ensures.none)

pub returns-in-Ok-clause-done : goal.returns-in-Ok-clause-done
returns-in-Ok-clause-done c =
    let s = c.args.self.now.history.now in
    let t = c.args.task in
    let f = the_found (goal.at.returns-in-Ok-clause-done c).In-Some in
    let claim = the_claim (goal.at.returns-in-Ok-clause-done c).In-Ok in
    let parts =
    and_parts (has_claimed t (waits t s.past) s.past) (not (is_done (waits t s.past) s.past)) claim in
    reports s t f.live claim
    (did_has_room s.limits s.terms s.past c.args.self.now.stands.legal t
    (and_from (is_live t s.past && has_claimed t (waits t s.past) s.past)
    (not (is_done (waits t s.past) s.past))
    (and_from (is_live t s.past) (has_claimed t (waits t s.past) s.past) f.live parts.0) parts.1))

pub returns-in-Ok-clause-single : goal.returns-in-Ok-clause-single
returns-in-Ok-clause-single c =
    let s = c.args.self.now.history.now in
    let t = c.args.task in
    let claim = the_claim (goal.at.returns-in-Ok-clause-single c).In-Ok in
    let parts =
    and_parts (has_claimed t (waits t s.past) s.past) (not (is_done (waits t s.past) s.past)) claim in
    let by : is_claimed_by c.args.self.now.single c.in-Some.entry.task ≡ true =
    ok_where (is_claimed_by c.args.self.now.single c.in-Some.entry.task) c.done.result
    (by_line c.args.self.now.single c.args.task c.in-Some.entry.task c.done.result
    c.in-Some.ensures.task c.done.ensures.result) c.in-Ok.is in
    let after : c.done.new.self ≡ done c.args.self.now.single t =
    c.done.ensures.state
    ∙ ap (λ b. cond b (done c.args.self.now.single t) c.args.self.now.single)
    (ap (λ u. is_claimed_by c.args.self.now.single u) (sym c.in-Some.ensures.task) ∙ by)
    in
    subst (λ o. IsLastSingle o (Did t ∷ s.past)) (sym after)
    (report_is_last s.limits s.terms s.past c.args.self.now.stands.legal t c.args.self.now.single
    c.args.self.now.stands.last parts.0 (not-true (is_done (waits t s.past) s.past) parts.1))

pub returns-in-Err-clause-refused : goal.returns-in-Err-clause-refused
returns-in-Err-clause-refused c =
    let s = c.args.self.now.history.now in
    let f = the_found (goal.at.returns-in-Err-clause-refused c).In-Some in
    let none : is_claimed_by c.args.self.now.single c.in-Some.entry.task ≡ false =
    err_where (is_claimed_by c.args.self.now.single c.in-Some.entry.task) c.done.result c.in-Err.field-0
    (by_line c.args.self.now.single c.args.task c.in-Some.entry.task c.done.result
    c.in-Some.ensures.task c.done.ensures.result) c.in-Err.is in
    not_claimer s c.args.task f.live
    (claimed_by_is s.limits s.terms s.past c.args.self.now.stands.legal c.args.self.now.single c.args.task
    c.args.self.now.stands.last
    ∙ (ap (λ t. is_claimed_by c.args.self.now.single t) (sym c.in-Some.ensures.task) ∙ none))
