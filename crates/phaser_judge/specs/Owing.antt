-- Who owes a phase: the tasks that keep it open.
use Rattle.std.specs.Prelude.{ℕ, ◌≡◌, ◌&&◌, nat_le, Bool, false, List, [], ◌∷◌, Option, Some, if◌then◌else◌}
use Rattle.std.specs.Option.{option_map_or}
use Rattle.phase_modes.specs.declared.reg.Reg.{Reg}
use Rattle.phase_modes.specs.Mode.{can_signal}
use Rattle.phase_modes.specs.Reg.{signals_of}
use Rattle.phase_model.specs.declared.history.Event.{Event}
use Rattle.phase_model.specs.Registration.{registration}
use Rattle.phaser_judge.specs.declared.event.Named.{Named}
use Rattle.phaser_judge.specs.declared.event.Named.TheVariants as named
use Rattle.phaser_judge.specs.declared.owing.Owing.{Owing}
use Rattle.phaser_judge.specs.Numbers.{number_of}
use Rattle.phaser_judge.specs.Standings.{Standing}
use Rattle.phaser_judge.specs.Courses.{turns_of}

-- a task that is registered so can signal, and hasn't signalled the phase
abbrev pub is_owed_by : ℕ → Reg ℕ → Bool
is_owed_by phase r = can_signal r.mode && nat_le (signals_of r) phase

-- the task of this number is registered, can signal, and hasn't signalled the phase
abbrev pub owes : ℕ → List Event → ℕ → Bool
owes phase h n = option_map_or (is_owed_by phase) (registration n h) false

-- those of these tasks that owe the phase, by the runtime's numbers
abbrev pub owing : ℕ → List Event → List (ℕ × ℕ) → List ℕ
owing phase h [] = []
owing phase h (p ∷ names) = if owes phase h p.1 then p.0 ∷ owing phase h names else owing phase h names

-- the phase at which the task stands that the runtime calls t
abbrev pub phase_at : Standing → ℕ → ℕ
phase_at s t = option_map_or (turns_of s.story.past) (number_of s.names t) 0

-- the tasks of the phaser that owe that phase
abbrev pub owing_at : Standing → ℕ → List ℕ
owing_at s t = owing (phase_at s t) s.story.past s.names

-- this is the phase at which the task stands, and these are all tasks that owe it
abbrev pub IsOwingAt : Standing → ℕ → Owing → Type 0
IsOwingAt s t o = (o.phase ≡ phase_at s t) × (o.tasks.items ≡ owing_at s t)

-- a pass and a claim wait for the tasks that owe the phase of their task; no other event waits for a phase
abbrev pub IsOwingTo : Option Standing → Named → Owing → Type 0
IsOwingTo (Some s) (named.Pass t) o = IsOwingAt s t o
IsOwingTo (Some s) (named.Claim t) o = IsOwingAt s t o
IsOwingTo _ _ o = o.tasks.items ≡ []
