-- What one whole run of a program tells of every other one.
use Rattle.std.specs.Prelude.{ℕ, ◌≡◌, true, List, None}
use Rattle.job_script.specs.Program.{Program}
use Rattle.world_model.specs.declared.event.WorldEvent.{WorldEvent}
use Rattle.world_model.specs.Replies.{is_legal_world}
use Rattle.world_model.specs.Report.{Report, report_of, refused_by}
use Rattle.world_model.specs.Tasks.{is_ended}
use Rattle.trace_walk.specs.Follows.{follows}
use Rattle.run_laws.specs.Memory.{has_memory, is_roomy}
use Rattle.run_laws.specs.Programs.{IsProgramRun}
use Rattle.run_laws.specs.Telling.{draws_least, in_order}

-- a run of the program that has memory, as far as it has come, in any order of its tasks: the least numbers are drawn, and
-- nobody gives up for want of memory, nor for full registrations if they aren't
pub record IsRunWithMemory (p : Program) (w : List WorldEvent) : Type 0 where
  pub legal : is_legal_world p.limits w ≡ true
  pub follows_it : follows p w ≡ true
  pub draws : draws_least p.limits w ≡ true
  pub memory : has_memory p.limits w ≡ true

-- nobody is refused or gives up in w, and if its root has ended, this is its report
pub record ComesTo (p : Program) (r : Report) (w : List WorldEvent) : Type 0 where
  pub unrefused : (t : ℕ) → refused_by t w ≡ None
  pub report : is_ended 0 w ≡ true → report_of p.limits w ≡ r

-- each run of the program that has memory gives this report
abbrev pub EachRunComesTo : Program → Report → Type 0
EachRunComesTo p r = (w : List WorldEvent) → IsRunWithMemory p w → ComesTo p r w

-- so the report of each is told by one whole run in which nobody is refused, each kind of number is drawn by one task
-- alone, and each phaser has in all no more tasks than may be on it at a time
abbrev pub OneRunTellsAll : Type 0
OneRunTellsAll =
    (p : Program) (v : List WorldEvent) → IsProgramRun p in_order v → is_roomy p.limits v ≡ true
    → EachRunComesTo p (report_of p.limits v)
