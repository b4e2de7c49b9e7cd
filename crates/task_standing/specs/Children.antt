-- What a child knows of itself before it is born, and its parent if it never is.
use Rattle.std.specs.Prelude.{ℕ, ◌≡◌, true, false, ◌==◌, not, List, [], ◌∷◌, ◌++◌, map, filter, find, Some}
use Rattle.phase_modes.specs.declared.limits.Limits.{Limits}
use Rattle.phase_modes.specs.declared.phased.Pair.{Pair}
use Rattle.phase_modes.specs.declared.reg.Mode.{Mode}
use Rattle.finish_core.specs.declared.event.FinishEvent.TheVariants.{Spawned}
use Rattle.world_model.specs.declared.event.Begun.TheVariants.{Async}
use Rattle.world_model.specs.declared.event.Step.TheVariants.{Reg, Drop}
use Rattle.world_model.specs.declared.event.WorldEvent.{WorldEvent}
use Rattle.world_model.specs.declared.event.WorldEvent.TheVariants.{Phaser, Finish, Begin, Fail}
use Rattle.world_model.specs.Actors.{actor}
use Rattle.world_model.specs.Replies.{is_legal_world}
use Rattle.world_model.specs.Tasks.{is_born, spawner, phasers_of}
use Rattle.task_standing.specs.declared.held.Held.{Held}
use Rattle.task_standing.specs.declared.plan.Plan.TheVariants as plan
use Rattle.task_standing.specs.Known.{Known}
use Rattle.task_standing.specs.Standing.{fresh, handed}
use Rattle.task_standing.specs.Histories.{held_in, IsOf, IsAbout, IsAboutWith}
use Rattle.task_standing.specs.Laws.{named_child}

-- a child that isn't born: what it holds is what the history says; it has opened and begun nothing, and is about
-- nothing. Its home is where it is to be spawned, of which the history says nothing yet
pub record IsUnborn (w : List WorldEvent) (c : Known) : Type 0 where
  pub unborn : is_born c.number w ≡ false
  pub holding : c.holding ≡ map (held_in w c.number) (phasers_of c.number w)
  pub finishes : c.finishes ≡ []
  pub acts : c.acts ≡ 0
  pub plan : c.plan ≡ plan.Idle

-- a child that was just named, whatever its home is to be
abbrev pub ChildrenStartFresh : Type 0
ChildrenStartFresh = (l : Limits) (w : List WorldEvent) (q c home : ℕ) (pairs : List Pair)
    → is_legal_world l (Begin q (Async c pairs) ∷ w) ≡ true → IsUnborn (Begin q (Async c pairs) ∷ w) (fresh c home)

-- its registration: it holds what its parent hands it
abbrev pub ChildrenJoin : Type 0
ChildrenJoin = (l : Limits) (w : List WorldEvent) (child k : Known) (n : ℕ) (m : Mode) (h : Held)
    → is_legal_world l (Phaser n (Reg k.number child.number m) ∷ w) ≡ true
    → find (λ g. g.phaser == n) k.holding ≡ Some h → IsOf w k → IsUnborn w child
    → IsUnborn (Phaser n (Reg k.number child.number m) ∷ w) (record child { holding = child.holding ++ handed m h ∷ [] })

-- its birth in its home: from then on it knows what the history says
abbrev pub ChildrenAreBorn : Type 0
ChildrenAreBorn = (l : Limits) (w : List WorldEvent) (child : Known)
    → is_legal_world l (Finish child.home (Spawned child.number) ∷ w) ≡ true → IsUnborn w child
    → IsAbout (Finish child.home (Spawned child.number) ∷ w) child

-- an event of any other task than its parent
abbrev pub UnbornStay : Type 0
UnbornStay = (l : Limits) (e : WorldEvent) (w : List WorldEvent) (child : Known) → is_legal_world l (e ∷ w) ≡ true
    → (actor w e == spawner child.number w) ≡ false → IsUnborn w child → IsUnborn (e ∷ w) child

-- if its parent gives up before it is born, it leaves its phasers before its parent does
abbrev pub FailuresEndWith : Type 0
FailuresEndWith = (l : Limits) (w : List WorldEvent) (child k : Known) (n : ℕ)
    → is_legal_world l (Fail k.number n ∷ w) ≡ true → named_child k.plan ≡ child.number ∷ []
    → IsUnborn w child → IsAbout w k
    → IsUnborn (Fail k.number n ∷ w) child
    × IsAboutWith (Fail k.number n ∷ w) child (record k { plan = plan.Ending })

-- it leaves one of them
abbrev pub ChildrenLeave : Type 0
ChildrenLeave = (l : Limits) (w : List WorldEvent) (child k : Known) (n : ℕ)
    → is_legal_world l (Phaser n (Drop child.number) ∷ w) ≡ true → spawner child.number w ≡ k.number
    → IsUnborn w child → IsAboutWith w child k
    → IsUnborn (Phaser n (Drop child.number) ∷ w) (record child { holding = filter (λ h. not (h.phaser == n)) child.holding })
    × IsAboutWith (Phaser n (Drop child.number) ∷ w) (record child { holding = filter (λ h. not (h.phaser == n)) child.holding }) k

-- other tasks leave what its parent knows beside it
abbrev pub OthersLeaveWith : Type 0
OthersLeaveWith = (l : Limits) (e : WorldEvent) (w : List WorldEvent) (child k : Known) → is_legal_world l (e ∷ w) ≡ true
    → is_born k.number w ≡ true → (actor w e == k.number) ≡ false → IsAboutWith w child k → IsAboutWith (e ∷ w) child k

-- once it holds nothing, its parent goes on alone
abbrev pub ParentsGoOnAlone : Type 0
ParentsGoOnAlone = (w : List WorldEvent) (child k : Known) → child.holding ≡ [] → IsAboutWith w child k → IsAbout w k
