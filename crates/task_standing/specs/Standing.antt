-- How what a task knows of itself is read, and how it changes.
use Rattle.std.specs.Prelude.{ℕ, Bool, true, ◌&&◌, ◌==◌, ◌+◌, not, min, if◌then◌else◌, [], slice_index_or}
use Rattle.phase_modes.specs.Mode.{can_signal}
use Rattle.phase_modes.specs.declared.reg.Mode.{Mode}
use Rattle.phase_modes.specs.declared.phased.Pair.{Pair}
use Rattle.task_standing.specs.declared.held.Held.{Held}
use Rattle.task_standing.specs.declared.plan.Plan.{Plan}
use Rattle.task_standing.specs.declared.plan.Plan.TheVariants.{Idle, Signalling, Turning, Spawning, Shutting, Ending}
use Rattle.task_standing.specs.Known.{Known}

-- the task can signal there, and hasn't since its last turn
abbrev pub owes : Held → Bool
owes h = can_signal h.mode && not h.ahead

-- what a child in this mode is handed: it is ahead if its parent is, if it can signal
abbrev pub handed : Mode → Held → Held
handed m h = record h { mode = m; ahead = h.ahead && can_signal m }

-- the phaser with the task's own mode
abbrev pub pair_of : Held → Pair
pair_of h = record { phaser = h.phaser; mode = h.mode }

-- a task before its first act
abbrev pub fresh : ℕ → ℕ → Known
fresh number home =
    record { number = number; plan = Idle; holding = []; finishes = []; home = home; acts = 0 }

-- its innermost open finish: its own, and if it has none, the one in which it was spawned
abbrev pub inner_of : Known → ℕ
inner_of k = slice_index_or k.finishes 0 k.home

-- so many acts more; they are counted up to their type's greatest number, which no limit reaches
abbrev pub counted_by : ℕ → Known → Known
counted_by n k = record k { acts = min (k.acts + n) 18446744073709551615 }

-- an act of one event is made, of which nothing is left
abbrev pub acted : Known → Known
acted k = record (counted_by 1 k) { plan = Idle }

-- an act is begun that goes on by this plan; an end isn't counted
abbrev pub begun : Plan → Known → Known
begun Ending k = record k { plan = Ending }
begun plan k = record (counted_by 1 k) { plan = plan }

-- what is known of this phaser is marked: that the task is ahead there, or that it isn't
abbrev pub marked : ℕ → Bool → Held → Held
marked n ahead h = if h.phaser == n then record h { ahead = ahead } else h

-- the plan after a pass, after a registration of the child, and after the shut of its innermost finish; the
-- first pass of a turn comes once all its signals are made
abbrev pub passed_by : Plan → Plan
passed_by (Signalling x true) = Turning 1
passed_by (Turning next) = Turning (min (next + 1) 4294967295)
passed_by plan = plan

abbrev pub registered_by : Plan → Plan
registered_by (Spawning child pairs made) = Spawning child pairs (min (made + 1) 4294967295)
registered_by plan = plan

abbrev pub shut_by : Plan → Plan
shut_by Shutting = Idle
shut_by plan = plan
