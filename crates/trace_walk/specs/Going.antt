-- When the tasks of a world's history go by a body: each act that a task makes or is refused is the one that
-- its body gives next, if the body hears the outcome of each act before it.
--
-- A body is a function `next`: what a task does after it heard this, and what its body is after that.
use Rattle.std.specs.Prelude.{ℕ, suc, ◌≡◌, Bool, true, false, ◌&&◌, if◌then◌else◌, List, [], ◌∷◌, take, Option, Some, None}
use Rattle.phase_modes.specs.declared.refusal.Refusal.{Refusal}
use Rattle.phase_modes.specs.declared.refusal.Refusal.TheVariants.{Memory, NotExplained}
use Rattle.phase_model.specs.Phases.{waits}
use Rattle.phase_model.specs.Rules.{look_of}
use Rattle.job_script.specs.declared.act.Act.{Act}
use Rattle.job_script.specs.declared.act.Act.TheVariants as acts
use Rattle.job_script.specs.declared.act.Answer.{Answer}
use Rattle.job_script.specs.declared.act.Answer.TheVariants.{Started, Done, Made, Spawned, Saw}
use Rattle.world_model.specs.declared.event.Step.TheVariants.{Make, Look}
use Rattle.world_model.specs.declared.event.Begun.TheVariants.{Async}
use Rattle.world_model.specs.declared.event.WorldEvent.{WorldEvent}
use Rattle.world_model.specs.declared.event.WorldEvent.TheVariants.{Phaser, Begin}
use Rattle.world_model.specs.Drawing.{own_pairs}
use Rattle.world_model.specs.Parts.{phaser_past, ops_of}
use Rattle.trace_walk.specs.Scripts.{Made as MadeAct, act_of, is_of, parent_by}
use Rattle.trace_walk.specs.Follows.{drawn, same_act}
use Rattle.trace_walk.specs.History.{history}
use Rattle.trace_walk.specs.Given.{tried_of}
use Rattle.trace_model.specs.Run.{Entry}
use Rattle.trace_walk.specs.Walking.{Does}

-- what its task hears of the event with which an act begins
abbrev pub heard : List WorldEvent → WorldEvent → Answer
heard w (Phaser n (Make t mode terms)) = Made n
heard w (Phaser n (Look t a)) =
    let h = phaser_past n w in Saw (look_of (ops_of n w) a (waits t h) h)
heard w (Begin t (Async c pairs)) = Spawned c
heard w _ = Done

-- ---- what each task does next, and what its body is after that

-- a child starts with the body that its spawn hands to it
abbrev pub child_does : {B : Type 0} → (Answer → B → Does B) → Act B → Does B → Does B
child_does next (acts.Async body pairs) before = next Started body
child_does next (acts.AsyncAll body) before = next Started body
child_does next _ before = before

-- what t does after an event, if this is who spawns it by the event, and this is what each did before it
abbrev pub does_after : {B : Type 0} → (Answer → B → Does B) → List WorldEvent → ℕ → WorldEvent
    → Option ℕ → (ℕ → Does B) → Does B
does_after next w t e (Some u) before = child_does next (before u).0 (before t)
does_after next w t e None before =
    if is_of t (act_of e) then next (heard w e) (before t).1 else before t

-- what t does next: the root starts before all else, and after each act a body goes on with what it heard
abbrev pub does : {B : Type 0} → (Answer → B → Does B) → B → List WorldEvent → ℕ → Does B
does next root [] t = next Started root
does next root (e ∷ w) t = does_after next w t e (parent_by t e) (does next root w)

-- ---- the history goes by the body

-- the act is the next one of its task, the numbers that it drew being any
abbrev pub is_next : {B : Type 0} → (Answer → B → Does B) → B → List WorldEvent → Option MadeAct → Bool
is_next next root w None = true
is_next next root w (Some m) =
    same_act m.act (tried_of (own_pairs m.task w) (drawn m.act) (does next root w m.task).0)

-- each act that is made or refused is its task's next one
abbrev pub goes_by : {B : Type 0} → (Answer → B → Does B) → B → List WorldEvent → Bool
goes_by next root [] = true
goes_by next root (e ∷ w) = is_next next root w (act_of e) && goes_by next root w

-- ---- of a trace

-- memory ran out, or up to this place, counted from 1, the trace goes by the body, and with the event there it
-- no longer does
abbrev pub IsRefusedAt : {B : Type 0} → (Answer → B → Does B) → B → List Entry → Refusal → Type 0
IsRefusedAt next root es Memory = Unit {0}
IsRefusedAt next root es (NotExplained k) =
    (j : ℕ) × (k ≡ suc j)
    × (goes_by next root (history (take j es)) ≡ true)
    × (goes_by next root (history (take (suc j) es)) ≡ false)
IsRefusedAt next root es _ = ⊥
