use Rattle.std.proofs.Common.{sym, ap, ◌∙◌, [], ◌∷◌, Some}
use Rattle.phase_modes.specs.declared.phased.Pair.{Pair}
use Rattle.finish_core.specs.declared.event.FinishEvent.TheVariants.{Spawned}
use Rattle.world_model.specs.declared.event.WorldEvent.{WorldEvent}
use Rattle.world_model.specs.declared.event.WorldEvent.TheVariants.{Phaser, Finish}
use Rattle.world_model.specs.declared.event.Step.TheVariants.{Reg}
use Rattle.task_standing.specs.Standing.{inner_of}
use Rattle.task_standing.proofs.Finding.{later_some, later_none}
use Rattle.task_standing.proofs.standing.Standing.to_spawn.Goals as goal

pub returns-in-Some : goal.returns-in-Some
returns-in-Some c =
    let f : Pair → WorldEvent = λ p. Phaser p.phaser (Reg c.args.self.now.number c.args.child p.mode) in
    later_some f c.args.pairs.now c.args.made (Finish (inner_of c.args.self.now) (Spawned c.args.child) ∷ [])
    c.in-Some.pair (sym c.get.ensures ∙ c.in-Some.is)

pub returns-in-None : goal.returns-in-None
returns-in-None c =
    let f : Pair → WorldEvent = λ p. Phaser p.phaser (Reg c.args.self.now.number c.args.child p.mode) in
    ap (λ n. Some (Finish n (Spawned c.args.child))) c.inner.ensures
    ∙ later_none f c.args.pairs.now c.args.made (Finish (inner_of c.args.self.now) (Spawned c.args.child) ∷ [])
    (sym c.get.ensures ∙ c.in-None.is)
