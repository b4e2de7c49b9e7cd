use Rattle.std.proofs.Common.{◌≡◌, ◌==◌, Bool, sym, ap, ◌∙◌, [], ◌∷◌, Some}
use Rattle.std.specs.Prelude.{find}
use Rattle.finish_core.specs.declared.event.FinishEvent.TheVariants.{Shut}
use Rattle.world_model.specs.declared.event.WorldEvent.{WorldEvent}
use Rattle.world_model.specs.declared.event.WorldEvent.TheVariants.{Phaser, Finish}
use Rattle.world_model.specs.declared.event.Step.TheVariants.{Drop}
use Rattle.task_standing.specs.declared.held.Held.{Held}
use Rattle.task_standing.specs.Standing.{inner_of}
use Rattle.task_standing.proofs.Finding.{passing_some, passing_none}
use Rattle.task_standing.proofs.standing.Standing.to_shut.Goals as goal

pub returns-in-Some : goal.returns-in-Some
returns-in-Some c =
    let k = c.args.self.now in
    let f : Held → WorldEvent = λ h. Phaser h.phaser (Drop k.number) in
    let p : Held → Bool = λ h. h.finish == inner_of k in
    let first : find p k.holding ≡ c.first_in.result = rw (← c.inner-finish.ensures) (sym c.first_in.ensures) in
    passing_some f p k.holding (Finish (inner_of k) Shut ∷ []) c.in-Some.held (first ∙ c.in-Some.is)

pub returns-in-None : goal.returns-in-None
returns-in-None c =
    let k = c.args.self.now in
    let f : Held → WorldEvent = λ h. Phaser h.phaser (Drop k.number) in
    let p : Held → Bool = λ h. h.finish == inner_of k in
    let first : find p k.holding ≡ c.first_in.result = rw (← c.inner-finish.ensures) (sym c.first_in.ensures) in
    ap (λ n. Some (Finish n Shut)) c.inner-finish.ensures
    ∙ passing_none f p k.holding (Finish (inner_of k) Shut ∷ []) (first ∙ c.in-None.is)
