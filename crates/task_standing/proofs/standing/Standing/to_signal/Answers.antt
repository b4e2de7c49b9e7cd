use Rattle.std.proofs.Common.{◌≡◌, refl, sym, ◌∙◌, [], slice_get, if◌then◌else◌}
use Rattle.world_model.specs.declared.event.WorldEvent.{WorldEvent}
use Rattle.world_model.specs.declared.event.WorldEvent.TheVariants.{Phaser}
use Rattle.world_model.specs.declared.event.Step.TheVariants.{Sig}
use Rattle.task_standing.specs.declared.held.Held.{Held}
use Rattle.task_standing.specs.Standing.{owes}
use Rattle.task_standing.specs.StillToMake.{passes_of}
use Rattle.task_standing.proofs.Finding.{passing_some, passing_none}
use Rattle.task_standing.proofs.standing.Standing.to_signal.Goals as goal

pub returns-in-Some : goal.returns-in-Some
returns-in-Some c =
    let k = c.args.self.now in
    let f : Held → WorldEvent = λ h. Phaser h.phaser (Sig k.number c.args.number) in
    passing_some f owes k.holding (if c.args.turns then passes_of k.number k.holding else []) c.in-Some.held
    (sym c.first_owing.ensures ∙ c.in-Some.is)

pub returns-in-None : goal.returns-in-None
returns-in-None c =
    let k = c.args.self.now in
    let f : Held → WorldEvent = λ h. Phaser h.phaser (Sig k.number c.args.number) in
    let all = passes_of k.number k.holding in
    let turns : slice_get all 0 ≡ slice_get (if c.args.turns then all else []) 0 = rw c.if-turns.true refl in
    c.to_pass.ensures ∙ (turns
    ∙ passing_none f owes k.holding (if c.args.turns then all else []) (sym c.first_owing.ensures ∙ c.in-None.is))

pub returns-in-None-2 : goal.returns-in-None-2
returns-in-None-2 c =
    let k = c.args.self.now in
    let f : Held → WorldEvent = λ h. Phaser h.phaser (Sig k.number c.args.number) in
    let all = passes_of k.number k.holding in
    let none : slice_get [] 0 ≡ slice_get (if c.args.turns then all else []) 0 = rw c.if-turns.false refl in
    none ∙ passing_none f owes k.holding (if c.args.turns then all else []) (sym c.first_owing.ensures ∙ c.in-None-2.is)
