-- Which histories a world stands for, and what a step is.
--
-- The relation is split by number: a part for each phaser, each finish and each task. An event changes the parts of its own numbers; all others keep theirs by one lemma.
use Rattle.std.specs.Prelude.{ℕ, ◌≡◌, true, false, ◌==◌, min, List, [], ◌∷◌, ◌++◌, map, drop, length, get_or, Option, Some, None, slice_index_or, if◌then◌else◌, Result}
use Rattle.phase_modes.specs.Lists.{is_empty}
use Rattle.phase_modes.specs.Limits.{limits_fit}
use Rattle.phase_modes.specs.declared.refusal.Refusal.{Refusal}
use Rattle.finish_core.specs.declared.event.FinishEvent.TheVariants.{Spawned, Ended, Shut as Shutting}
use Rattle.world_model.specs.declared.event.Step.TheVariants.{Reg, Sig, Pass, Drop}
use Rattle.world_model.specs.declared.event.WorldEvent.{WorldEvent}
use Rattle.world_model.specs.declared.event.WorldEvent.TheVariants.{Phaser, Finish}
use Rattle.world_records.specs.declared.plan.Plan.{Plan}
use Rattle.world_records.specs.declared.plan.Plan.TheVariants as plan
use Rattle.world_model.specs.declared.reply.Reply.{Reply}
use Rattle.world_records.specs.TaskState.{TaskState}
use Rattle.world_records.specs.WorldState.{WorldState}
use Rattle.world_records.specs.Kept.{task_at, story_at, finish_at, is_idle_plan}
use Rattle.world_records.specs.Plans.{fits_plan, has_left}
use Rattle.world_model.specs.Parts.{finish_past, story_of}
use Rattle.world_model.specs.Tasks as of
use Rattle.world_model.specs.Scopes as scope
use Rattle.world_model.specs.Numbers as number
use Rattle.world_model.specs.Due.{due}
use Rattle.world_model.specs.Clock.{clock}
use Rattle.world_model.specs.TaskConditions.{last_entry}
use Rattle.world_model.specs.Report.{refused_by}
use Rattle.world_model.specs.Replies.{is_made, is_legal_world, reply}

-- the innermost open finish, if these are the task's own
abbrev pub inner_of : TaskState → List ℕ → ℕ
inner_of k fs = slice_index_or fs 0 k.home

abbrev pub end_of : ℕ → TaskState → WorldEvent
end_of t k = if t == 0 then Finish 0 Shutting else Finish k.home (Ended t)

-- what task t has still to make, by its plan; fs are its own open finishes
abbrev pub due_by : ℕ → TaskState → List ℕ → Plan → List WorldEvent
due_by t k fs plan.Idle = []
due_by t k fs (plan.Signalling x turn) =
    map (λ n. Phaser n (Sig t x)) k.left ++ (if turn then map (λ n. Phaser n (Pass t)) k.phasers else [])
due_by t k fs plan.Turning = map (λ n. Phaser n (Pass t)) k.left
due_by t k fs (plan.Spawning c pairs made) =
    map (λ p. Phaser p.phaser (Reg t c p.mode)) (drop made pairs) ++ Finish (inner_of k fs) (Spawned c) ∷ []
due_by t k fs plan.Shutting = map (λ n. Phaser n (Drop t)) k.left ++ Finish (inner_of k fs) Shutting ∷ []
due_by t k fs (plan.Ending c) =
    map (λ n. Phaser n (Drop c)) k.left
    ++ (map (λ n. Phaser n (Drop t)) k.phasers ++ (map (λ f. Finish f Shutting) fs ++ end_of t k ∷ []))

-- the finishes of a list lie one outside the other, from this one on
abbrev pub IsChain : List (Option ℕ) → Option ℕ → List ℕ → Type 0
IsChain outers top [] = top ≡ None
IsChain outers top (f ∷ fs) = (top ≡ Some f) × IsChain outers (get_or outers f None) fs

-- what is kept of task t is what is read of it. The first five lines are what the code goes on by: its plan gives the
-- events that the task has still to make, and its own open finishes hang together, the innermost first. The others are
-- readings as they are
pub record TaskStands (outers : List (Option ℕ)) (w : List WorldEvent) (t : ℕ) (k : TaskState) : Type 0 where
  pub due_is : due t w ≡ due_by t k (scope.open_finishes t w) k.plan
  pub idle : is_idle_plan k.plan ≡ is_empty (due t w)
  pub plan : fits_plan k.plan (last_entry t w) ≡ true
  pub left : has_left k.plan k.left ≡ true
  pub chain : IsChain outers k.innermost (scope.open_finishes t w)
  pub phasers : k.phasers ≡ of.phasers_of t w
  -- the clock is kept up to its type's greatest number, which no world reaches
  pub clock : k.clock ≡ min (clock t w) 4294967295
  pub acts : k.acts ≡ of.acts t w
  pub home : k.home ≡ of.home t w
  pub spawner : k.spawner ≡ of.spawner t w
  pub named : k.is_named ≡ number.is_named t w
  pub born : k.is_born ≡ of.is_born t w
  pub ended : k.is_ended ≡ of.is_ended t w
  pub refused : k.refused ≡ refused_by t w

-- what is kept of phaser n, and of finish f
pub record PhaserStands (s : WorldState) (w : List WorldEvent) (n : ℕ) : Type 0 where
  pub story : story_at s n ≡ story_of s.limits n w
  pub enclosing : get_or s.enclosing n 0 ≡ scope.enclosing n w

pub record FinishStands (s : WorldState) (w : List WorldEvent) (f : ℕ) : Type 0 where
  pub story : finish_at s f ≡ record { tasks = s.limits.tasks; past = finish_past f w }
  pub owner : get_or s.owners f 0 ≡ scope.owner f w

-- a world stands for a legal history if all that it keeps is what is read off it
pub record StandsFor (w : List WorldEvent) (s : WorldState) : Type 0 where
  pub fit : limits_fit s.limits ≡ true
  pub finishes_size : length s.finishes ≡ s.limits.finishes
  pub owners_size : length s.owners ≡ s.limits.finishes
  pub outers_size : length s.outers ≡ s.limits.finishes
  pub legal : is_legal_world s.limits w ≡ true
  pub phasers : (n : ℕ) → PhaserStands s w n
  pub finishes : (f : ℕ) → FinishStands s w f
  pub tasks : (t : ℕ) → TaskStands s.outers w t (task_at s t)

-- a step: the limits stay; what is not made changes nothing; for each history for which the world stood, the answer is the history's reply; and if the event is made, the world stands for what follows
pub record IsStep (e : WorldEvent) (old new : WorldState) (answered : Result Reply Refusal) : Type 0 where
  pub limits : new.limits ≡ old.limits
  pub unchanged : is_made answered ≡ false → new ≡ old
  pub answer : (w : List WorldEvent) → StandsFor w old → answered ≡ reply old.limits w e
  pub stands : (w : List WorldEvent) → StandsFor w old → is_made answered ≡ true → StandsFor (e ∷ w) new

-- there is a legal history for which it stands
abbrev pub IsWorld : WorldState → Type 0
IsWorld s = (w : List WorldEvent) × StandsFor w s
