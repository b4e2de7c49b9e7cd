-- The events that a task has still to make, by what it knows of itself.
use Rattle.std.specs.Prelude.{ℕ, ◌==◌, if◌then◌else◌, List, [], ◌∷◌, ◌++◌, map, filter, drop, Option, Some, None}
use Rattle.finish_core.specs.declared.event.FinishEvent.TheVariants.{Spawned, Ended, Shut as Shutting}
use Rattle.world_model.specs.declared.event.Step.TheVariants.{Reg, Sig, Pass, Drop}
use Rattle.world_model.specs.declared.event.WorldEvent.{WorldEvent}
use Rattle.world_model.specs.declared.event.WorldEvent.TheVariants.{Phaser, Finish}
use Rattle.task_standing.specs.declared.held.Held.{Held}
use Rattle.task_standing.specs.declared.plan.Plan.{Plan}
use Rattle.task_standing.specs.declared.plan.Plan.TheVariants as plan
use Rattle.task_standing.specs.declared.plan.Due.{Due}
use Rattle.task_standing.specs.declared.plan.Due.TheVariants as due
use Rattle.task_standing.specs.Known.{Known}
use Rattle.task_standing.specs.Standing.{owes, inner_of}

-- a signal, a pass and a drop by t of each of these phasers
abbrev pub signals_of : ℕ → Option ℕ → List Held → List WorldEvent
signals_of t x hs = map (λ h. Phaser h.phaser (Sig t x)) hs

abbrev pub passes_of : ℕ → List Held → List WorldEvent
passes_of t hs = map (λ h. Phaser h.phaser (Pass t)) hs

abbrev pub drops_of : ℕ → List Held → List WorldEvent
drops_of t hs = map (λ h. Phaser h.phaser (Drop t)) hs

-- the shuts of these finishes
abbrev pub shuts_of : List ℕ → List WorldEvent
shuts_of fs = map (λ f. Finish f Shutting) fs

-- the task's end; the root's is the shut of finish 0
abbrev pub end_of : Known → WorldEvent
end_of k = if k.number == 0 then Finish 0 Shutting else Finish k.home (Ended k.number)

-- what a plan has still to make
abbrev pub planned : Known → Plan → List WorldEvent
planned k plan.Idle = []
planned k (plan.Signalling x turns) =
    signals_of k.number x (filter owes k.holding) ++ (if turns then passes_of k.number k.holding else [])
planned k (plan.Turning next) = passes_of k.number (drop next k.holding)
planned k (plan.Spawning child pairs made) =
    map (λ p. Phaser p.phaser (Reg k.number child p.mode)) (drop made pairs)
    ++ Finish (inner_of k) (Spawned child) ∷ []
planned k plan.Shutting =
    drops_of k.number (filter (λ h. h.finish == inner_of k) k.holding) ++ Finish (inner_of k) Shutting ∷ []
planned k plan.Ending =
    drops_of k.number k.holding ++ (shuts_of k.finishes ++ end_of k ∷ [])

abbrev pub still_to_make : Known → List WorldEvent
still_to_make k = planned k k.plan

-- the same of a task with a child that was never born: if the task ends, the child leaves its phasers first
abbrev pub planned_with : Known → Known → Plan → List WorldEvent
planned_with child k plan.Ending = drops_of child.number child.holding ++ planned k plan.Ending
planned_with child k p = planned k p

abbrev pub still_with : Known → Known → List WorldEvent
still_with child k = planned_with child k k.plan

-- the event that is named as due of t; none if t may begin an act
abbrev pub event_of : ℕ → Due → Option WorldEvent
event_of t due.Step = None
event_of t (due.Signal n x) = Some (Phaser n (Sig t x))
event_of t (due.Pass n) = Some (Phaser n (Pass t))
event_of t (due.Register child p) = Some (Phaser p.phaser (Reg t child p.mode))
event_of t (due.Spawn child f) = Some (Finish f (Spawned child))
event_of t (due.DropChild n child) = Some (Phaser n (Drop child))
event_of t (due.Leave n) = Some (Phaser n (Drop t))
event_of t (due.Shut f) = Some (Finish f Shutting)
event_of t (due.End f) = Some (Finish f (Ended t))
event_of t due.Close = Some (Finish 0 Shutting)
