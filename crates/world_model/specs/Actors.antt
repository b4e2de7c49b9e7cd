-- Which task makes an event.
use Rattle.std.specs.Prelude.{ℕ, if◌then◌else◌, List}
use Rattle.finish_core.specs.declared.event.FinishEvent.{FinishEvent}
use Rattle.finish_core.specs.declared.event.FinishEvent.TheVariants.{Opened, Spawned, Ended, Shut}
use Rattle.world_model.specs.declared.event.Step.{Step}
use Rattle.world_model.specs.declared.event.WorldEvent.{WorldEvent}
use Rattle.world_model.specs.declared.event.Step.TheVariants.{Make, Reg, Sig, Claim, Did, Pass, Send, Look, Drop}
use Rattle.world_model.specs.declared.event.WorldEvent.TheVariants.{Phaser, Finish, Begin, Refuse, Fail}
use Rattle.world_model.specs.Tasks.{is_born, spawner}
use Rattle.world_model.specs.Scopes.{owner}

-- a step on a phaser; a child that was never spawned is taken off by its spawner
abbrev pub step_actor : List WorldEvent → Step → ℕ
step_actor w (Make t m terms) = t
step_actor w (Reg q t m) = q
step_actor w (Sig t x) = t
step_actor w (Claim t) = t
step_actor w (Did t) = t
step_actor w (Pass t) = t
step_actor w (Send t a v) = t
step_actor w (Look t a) = t
step_actor w (Drop t) = if is_born t w then t else spawner t w

-- an event of a finish: a task is spawned by its spawner, and a finish shut by its owner
abbrev pub finish_actor : List WorldEvent → ℕ → FinishEvent → ℕ
finish_actor w f (Opened t) = t
finish_actor w f (Spawned t) = spawner t w
finish_actor w f (Ended t) = t
finish_actor w f Shut = owner f w

-- any event
abbrev pub actor : List WorldEvent → WorldEvent → ℕ
actor w (Phaser n s) = step_actor w s
actor w (Finish f e) = finish_actor w f e
actor w (Begin t b) = t
actor w (Refuse t a n) = t
actor w (Fail t n) = t
