-- What a world's history says of a task that knows this of itself.
use Rattle.std.specs.Prelude.{◌≡◌, ℕ, List, map, unwrap_or}
use Rattle.phase_modes.specs.declared.reg.Mode.TheVariants.{Wait}
use Rattle.phase_model.specs.Tasks.{mode_of}
use Rattle.world_model.specs.declared.event.WorldEvent.{WorldEvent}
use Rattle.world_model.specs.Parts.{phaser_past}
use Rattle.world_model.specs.Tasks as of
use Rattle.world_model.specs.Scopes.{open_finishes, enclosing}
use Rattle.world_model.specs.Due.{is_ahead, due}
use Rattle.task_standing.specs.declared.held.Held.{Held}
use Rattle.task_standing.specs.Known.{Known}
use Rattle.task_standing.specs.StillToMake.{still_to_make, still_with}

-- what the history w says of t on phaser n, on which it is registered
abbrev pub held_in : List WorldEvent → ℕ → ℕ → Held
held_in w t n = record {
  phaser = n;
  finish = enclosing n w;
  mode = unwrap_or (mode_of t (phaser_past n w)) Wait;
  ahead = is_ahead t (phaser_past n w);
}

-- what the task knows is what the history says of it: its phasers, in order, with what is known of each; its
-- open finishes; where it was spawned; and how many acts it has begun
pub record IsOf (w : List WorldEvent) (k : Known) : Type 0 where
  pub holding : k.holding ≡ map (held_in w k.number) (of.phasers_of k.number w)
  pub finishes : k.finishes ≡ open_finishes k.number w
  pub home : k.home ≡ of.home k.number w
  pub acts : k.acts ≡ of.acts k.number w

-- and what it is about is what it has still to make
pub record IsAbout (w : List WorldEvent) (k : Known) : Type 0 where
  pub of : IsOf w k
  pub due_is : due k.number w ≡ still_to_make k

-- the same beside a child that was never born
pub record IsAboutWith (w : List WorldEvent) (child k : Known) : Type 0 where
  pub of : IsOf w k
  pub due_is : due k.number w ≡ still_with child k
