use Rattle.std.proofs.Common.{arith}
use Rattle.trace_model.proofs.Telling.{phaser_length, finish_length}
use Rattle.trace_model.proofs.part.Part.len.Goals as goal

pub returns-in-Phaser : goal.returns-in-Phaser
returns-in-Phaser c =
    let p = c.in-Phaser in
    omega (arith, phaser_length c.self.inside.source p.field-0 p.field-1 p.tickets c.args.self.now p.is c.self.invariant c.self.view_is, p.tickets.ok.0)

pub returns-in-Finish : goal.returns-in-Finish
returns-in-Finish c =
    let p = c.in-Finish in
    omega (arith, finish_length c.self.inside.source p.field-0 p.field-1 p.tickets p.first c.args.self.now p.is c.self.invariant c.self.view_is, p.tickets.ok.0)
