-- The turns that a task has completed, those of its spawner at the spawn among them.
use Rattle.std.specs.Prelude.{ℕ, ◌+◌, Bool, true, false, ◌&&◌, ◌==◌, if◌then◌else◌, List, [], ◌∷◌}
use Rattle.phase_modes.specs.Lists.{is_empty, is_one}
use Rattle.finish_core.specs.declared.event.FinishEvent.TheVariants.{Spawned}
use Rattle.world_model.specs.declared.event.Begun.{Begun}
use Rattle.world_model.specs.declared.event.WorldEvent.{WorldEvent}
use Rattle.world_model.specs.declared.event.Step.TheVariants.{Make, Pass}
use Rattle.world_model.specs.declared.event.Begun.TheVariants.{Wait, Next, NextSingle}
use Rattle.world_model.specs.declared.event.WorldEvent.TheVariants.{Phaser, Finish, Begin}
use Rattle.world_model.specs.Due.{due}
use Rattle.world_model.specs.Tasks.{phasers_of, spawner}

-- the act is a turn
abbrev pub is_turn : Begun → Bool
is_turn Wait = true
is_turn Next = true
is_turn (NextSingle n) = true
is_turn _ = false

-- a child's clock is its spawner's when it is spawned;
-- a turn is complete with its last pass, without phasers as soon as it is begun
abbrev pub clock : ℕ → List WorldEvent → ℕ
clock t [] = 0
clock t (Finish f (Spawned u) ∷ w) = if u == t then clock (spawner t w) w else clock t w
clock t (Phaser n (Pass u) ∷ w) = if u == t && is_one (due t w) then clock t w + 1 else clock t w
clock t (Begin u b ∷ w) =
    if u == t && is_turn b && is_empty (phasers_of t w) then clock t w + 1 else clock t w
clock t (_ ∷ w) = clock t w

-- the maker's clock when phaser n was made
abbrev pub base : ℕ → List WorldEvent → ℕ
base n [] = 0
base n (Phaser m (Make t mode terms) ∷ w) = if m == n then clock t w else base n w
base n (_ ∷ w) = base n w
