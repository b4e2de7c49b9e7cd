-- The tasks of a world: who spawned each and where, whether it has ended, which phasers it is on, and how
-- many acts it has used up.
use Rattle.std.specs.Prelude.{ℕ, Bool, false, ◌&&◌, ◌||◌, ◌==◌, if◌then◌else◌, List, [], ◌∷◌, reverse, filter, filter_map, count_by, Option, Some, None}
use Rattle.std.specs.List.{list_any}
use Rattle.phase_model.specs.Tasks.{is_live}
use Rattle.finish_core.specs.declared.event.FinishEvent.TheVariants.{Opened, Spawned, Ended, Shut}
use Rattle.world_model.specs.declared.event.WorldEvent.{WorldEvent}
use Rattle.world_model.specs.declared.event.Step.TheVariants.{Make, Reg, Send, Look}
use Rattle.world_model.specs.declared.event.Begun.TheVariants.{Async, End}
use Rattle.world_model.specs.declared.event.WorldEvent.TheVariants.{Phaser, Finish, Begin}
use Rattle.world_model.specs.Parts.{phaser_past}

-- who began to spawn t; a number that nobody named is the root's
abbrev pub spawner : ℕ → List WorldEvent → ℕ
spawner t [] = 0
spawner t (Begin u (Async c pairs) ∷ w) = if c == t then u else spawner t w
spawner t (_ ∷ w) = spawner t w

-- the event spawns t
abbrev pub spawns : ℕ → WorldEvent → Bool
spawns t (Finish f (Spawned u)) = u == t
spawns t _ = false

-- t is the root, or was spawned
abbrev pub is_born : ℕ → List WorldEvent → Bool
is_born t w = t == 0 || list_any (spawns t) w

-- the event is t's end; the root's is the shut of finish 0
abbrev pub ends : ℕ → WorldEvent → Bool
ends t (Finish f (Ended u)) = u == t
ends t (Finish f Shut) = f == 0 && t == 0
ends t _ = false

-- t has ended
abbrev pub is_ended : ℕ → List WorldEvent → Bool
is_ended t w = list_any (ends t) w

-- the finish in which t was spawned, for the root finish 0
abbrev pub home : ℕ → List WorldEvent → ℕ
home t [] = 0
home t (Finish f (Spawned u) ∷ w) = if u == t then f else home t w
home t (_ ∷ w) = home t w

-- the phaser on which the event registers t
abbrev pub joined_by : ℕ → WorldEvent → Option ℕ
joined_by t (Phaser n (Make u m terms)) = if u == t then Some n else None
joined_by t (Phaser n (Reg q u m)) = if u == t then Some n else None
joined_by t _ = None

-- the phasers on which t is registered now, in the order in which it got them
abbrev pub phasers_of : ℕ → List WorldEvent → List ℕ
phasers_of t w = filter (λ n. is_live t (phaser_past n w)) (reverse (filter_map (joined_by t) w))

-- the event is the first of an act of t; an end isn't counted, nor are a refusal and a failure
abbrev pub is_act : ℕ → WorldEvent → Bool
is_act t (Phaser n (Make u m terms)) = u == t
is_act t (Phaser n (Send u a v)) = u == t
is_act t (Phaser n (Look u a)) = u == t
is_act t (Finish f (Opened u)) = u == t
is_act t (Begin u End) = false
is_act t (Begin u b) = u == t
is_act t _ = false

-- how many acts t has begun
abbrev pub acts : ℕ → List WorldEvent → ℕ
acts t w = count_by (is_act t) w
