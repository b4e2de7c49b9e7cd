-- A task that has a line is registered, and the line has its phase.
use Rattle.std.proofs.Common.{◌≡◌, ◌&&◌, false, not, ap, sym, ◌∙◌, subst}
use Rattle.phase_model.specs.Phases.{waits, is_closed}
use Rattle.phase_model.specs.Waiting.{is_in_open_phase}
use Rattle.phaser_engine.specs.Phaser.{Working}
use Rattle.phaser_engine.proofs.Reading.{closed_is, found_in, found_phase, not_live}
use Rattle.phaser_engine.proofs.state.Engine.is_in_open_phase.Goals as goal

pub returns-in-Some : goal.returns-in-Some
returns-in-Some c =
    let p = c.self.inside in
    let s = p.history in
    let t = c.args.task in
    let e = c.in-Some.entry in
    let stands = c.self.invariant.stands in
    let f = found_in s p.table.lines p.single stands t c.in-Some.field-0-0 e c.in-Some.ensures.some
    c.in-Some.ensures.task in
    let closed = c.is_closed.ensures ∙ closed_is s p.table.lines p.single stands e.reg.phase in
    subst (λ (v : Working). not c.is_closed.result ≡ is_in_open_phase v.story t) c.self.view_is
    (ap (λ b. not b) closed
    ∙ (ap (λ n. not (is_closed n s.past)) (found_phase s.past t e f)
    ∙ ap (λ b. b && not (is_closed (waits t s.past) s.past)) (sym f.live)))

pub returns-in-None : goal.returns-in-None
returns-in-None c =
    let p = c.self.inside in
    let s = p.history in
    let t = c.args.task in
    let gone = not_live s p.table.lines p.single c.self.invariant.stands t c.in-None.ensures.none in
    subst (λ (v : Working). false ≡ is_in_open_phase v.story t) c.self.view_is
    (ap (λ b. b && not (is_closed (waits t s.past) s.past)) (sym gone))
