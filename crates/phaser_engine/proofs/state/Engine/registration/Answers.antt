-- The line that was found is the task's, and where none is found it isn't live.
use Rattle.std.proofs.Common.{◌≡◌, ◌≤◌, Option, Some, None, refl, ap, subst, ℕ, arith}
use Rattle.phase_modes.specs.declared.reg.Reg.{Reg}
use Rattle.phaser_engine.specs.Phaser.{Working}
use Rattle.phase_model.specs.Registration.{registration}
use Rattle.phaser_engine.proofs.Reading.{not_live, found_in, found_reg, found_phase}
use Rattle.phase_model.proofs.LiveTasks.{waits_within}
use Rattle.phaser_engine.proofs.Rooms.{past_within}
use Rattle.phaser_engine.proofs.state.Engine.registration.Goals as goal

pub returns-in-Some-clause-registration : goal.returns-in-Some-clause-registration
returns-in-Some-clause-registration c =
    let p = c.self.inside in
    let s = p.history in
    let t = c.args.task in
    let x = c.in-Some.entry in
    let f = found_in s p.table.lines p.single c.self.invariant.stands t c.in-Some.field-0-0 x
    c.in-Some.ensures.some c.in-Some.ensures.task in
    subst (λ (v : Working). Some x.reg ≡ registration t v.story.past) c.self.view_is
    (rw f.live (ap (λ (r : Reg ℕ). Some r) (found_reg s.past t x f)))

pub returns-in-None-clause-registration : goal.returns-in-None-clause-registration
returns-in-None-clause-registration c =
    let p = c.self.inside in
    let s = p.history in
    let t = c.args.task in
    let gone = not_live s p.table.lines p.single c.self.invariant.stands t c.in-None.ensures.none in
    subst (λ (v : Working). ◌≡◌ {A = Option (Reg ℕ)} None (registration t v.story.past)) c.self.view_is
    (rw gone refl)

pub returns-in-Some-clause-early : goal.returns-in-Some-clause-early
returns-in-Some-clause-early c =
    let p = c.self.inside in
    let s = p.history in
    let t = c.args.task in
    let x = c.in-Some.entry in
    let i = c.self.invariant.stands in
    let f = found_in s p.table.lines p.single i t c.in-Some.field-0-0 x
    c.in-Some.ensures.some c.in-Some.ensures.task in
    subst (λ (v : Working). x.reg.phase ≤ v.story.limits.history) c.self.view_is
    (omega (arith, found_phase s.past t x f, waits_within t s.past, past_within s.limits s.terms s.past i.legal))
