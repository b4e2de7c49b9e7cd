use Rattle.std.proofs.Common.{sym, ◌∙◌}
use Rattle.world_model.specs.declared.event.WorldEvent.{WorldEvent}
use Rattle.world_model.specs.declared.event.WorldEvent.TheVariants.{Phaser}
use Rattle.world_model.specs.declared.event.Step.TheVariants.{Pass}
use Rattle.task_standing.specs.declared.held.Held.{Held}
use Rattle.task_standing.proofs.Finding.{alone_some, alone_none}
use Rattle.task_standing.proofs.standing.Standing.to_pass.Goals as goal

pub returns-in-Some : goal.returns-in-Some
returns-in-Some c =
    let f : Held → WorldEvent = λ h. Phaser h.phaser (Pass c.args.self.now.number) in
    alone_some f c.args.self.now.holding c.args.next c.in-Some.held (sym c.held_at.ensures ∙ c.in-Some.is)

pub returns-in-None : goal.returns-in-None
returns-in-None c =
    let f : Held → WorldEvent = λ h. Phaser h.phaser (Pass c.args.self.now.number) in
    alone_none f c.args.self.now.holding c.args.next (sym c.held_at.ensures ∙ c.in-None.is)
