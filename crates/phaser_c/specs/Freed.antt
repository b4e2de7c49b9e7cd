-- Those whom a call frees, as C is told of them.
use Rattle.std.specs.Prelude.{◌≡◌, ◌≤◌, ◌++◌, ℕ, List, length, map, drop}
use Rattle.long_locks.specs.declared.answer.Ended.{Ended}
use Rattle.long_locks.specs.declared.answer.Ended.TheVariants as ends
use Rattle.long_locks.specs.declared.answer.Freed.{Freed}
use Rattle.phaser_c.specs.Answers.{number_of_answer}
use Rattle.phaser_c.specs.declared.answer.ExportAnswer.{ExportAnswer}
use Rattle.phaser_c.specs.declared.answer.ExportAnswer.TheVariants.{Done, Claimed, Refused}
use Rattle.phaser_c.specs.declared.freed.GivenFreed.{GivenFreed}

-- what is answered if a call ended so
abbrev pub ended_answer : Ended → ExportAnswer
ended_answer ends.Signalled = Done
ended_answer (ends.Passed p) = Done
ended_answer (ends.Claimed n) = Claimed
ended_answer (ends.Refused r) = Refused r

-- the phase that was passed, or the number of the single that was claimed; else 0
abbrev pub ended_number : Ended → ℕ
ended_number ends.Signalled = 0
ended_number (ends.Passed p) = p
ended_number (ends.Claimed n) = n
ended_number (ends.Refused r) = 0

-- a task that was freed
abbrev pub given_freed : Freed → GivenFreed
given_freed f = record { task = f.task; number = ended_number f.ended; answer = number_of_answer (ended_answer f.ended) }

-- the room with these at its front
abbrev pub freed_told : List Freed → List GivenFreed → List GivenFreed
freed_told fs room = map given_freed fs ++ drop (length fs) room

-- the room before and after, and the count that was said, for those who were freed: 256 at most
abbrev pub AreTold : List Freed → List GivenFreed → List GivenFreed → ℕ → Type 0
AreTold fs old new count = (length fs ≤ 256) × (new ≡ freed_told fs old) × (count ≡ length fs)
