-- What a task notes of the events that it makes.
use Rattle.std.specs.Prelude.{true, false, ◌==◌, not, [], ◌∷◌, ◌++◌, map, filter, drop, None, Some}
use Rattle.finish_core.specs.declared.event.FinishEvent.TheVariants.{Opened, Spawned, Ended, Shut as Shutting}
use Rattle.world_model.specs.declared.event.Begun.{Begun}
use Rattle.world_model.specs.declared.event.Begun.TheVariants.{Async, Signal, Wait, Next, NextSingle, Shut, End}
use Rattle.world_model.specs.declared.event.Step.TheVariants.{Make, Reg, Sig, Claim, Did, Pass, Send, Look, Drop}
use Rattle.world_model.specs.declared.event.WorldEvent.{WorldEvent}
use Rattle.world_model.specs.declared.event.WorldEvent.TheVariants.{Phaser, Finish, Begin, Refuse, Fail}
use Rattle.task_standing.specs.declared.plan.Plan.{Plan}
use Rattle.task_standing.specs.declared.plan.Plan.TheVariants as plan
use Rattle.task_standing.specs.Known.{Known}
use Rattle.task_standing.specs.Standing.{acted, begun, inner_of, marked, passed_by, registered_by, shut_by}

-- the plan by which an act goes on that is begun
abbrev pub plan_of : Begun → Plan
plan_of (Async c pairs) = plan.Spawning c pairs 0
plan_of Signal = plan.Signalling None false
plan_of Wait = plan.Turning 0
plan_of Next = plan.Signalling None true
plan_of (NextSingle x) = plan.Signalling (Some x) true
plan_of Shut = plan.Shutting
plan_of End = plan.Ending

-- what a task notes of an event that it makes itself; of its end it notes nothing
abbrev pub noted : WorldEvent → Known → Known
noted (Phaser n (Make t m terms)) k = record (acted k) {
  holding = k.holding ++ record { phaser = n; finish = inner_of k; mode = m; ahead = false } ∷ [];
}
noted (Phaser n (Reg t c m)) k = record k { plan = registered_by k.plan }
noted (Phaser n (Sig t x)) k = record k { holding = map (marked n true) k.holding }
noted (Phaser n (Claim t)) k = k
noted (Phaser n (Did t)) k = k
noted (Phaser n (Pass t)) k = record k { plan = passed_by k.plan; holding = map (marked n false) k.holding }
noted (Phaser n (Send t i v)) k = acted k
noted (Phaser n (Look t i)) k = acted k
noted (Phaser n (Drop t)) k = record k { holding = filter (λ h. not (h.phaser == n)) k.holding }
noted (Finish f (Opened t)) k = record (acted k) { finishes = f ∷ k.finishes }
noted (Finish f (Spawned c)) k = record k { plan = plan.Idle }
noted (Finish f (Ended t)) k = k
noted (Finish f Shutting) k = record k { plan = shut_by k.plan; finishes = drop 1 k.finishes }
noted (Begin t b) k = begun (plan_of b) k
noted (Refuse t a n) k = record k { plan = plan.Ending }
noted (Fail t n) k = record k { plan = plan.Ending }
