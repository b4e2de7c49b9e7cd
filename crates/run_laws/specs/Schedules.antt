-- What any two schedules of a program give.
use Rattle.std.specs.Prelude.{ℕ, ◌≡◌, ◌≤◌, true, List, length, None}
use Rattle.std.specs.List.{list_all}
use Rattle.phase_modes.specs.Limits.{limits_fit}
use Rattle.job_script.specs.Program.{Program}
use Rattle.world_model.specs.Report.{report_of, refused_by}
use Rattle.world_model.specs.Tasks.{is_ended}
use Rattle.trace_walk.specs.Picks.{run_within}
use Rattle.run_laws.specs.Determinacy.{wants_no_room}
use Rattle.run_laws.specs.Memory.{is_roomy}
use Rattle.run_laws.specs.Telling.{draws_by, in_order}
use Rattle.run_laws.specs.Texts.{root_draws_alone}

-- in the run by these picks, and at most so many rounds after them, nobody is refused or gives up, and the root ends
pub record IsCalm (p : Program) (picks : List ℕ) (most : ℕ) : Type 0 where
  pub unrefused : (t : ℕ) → refused_by t (run_within most p picks) ≡ None
  pub ended : is_ended 0 (run_within most p picks) ≡ true

-- of a program whose text says that the root alone draws: any two such runs, by whatever picks, have the same report
abbrev pub SchedulesComeToTheSame : Type 0
SchedulesComeToTheSame =
    (p : Program) (picks others : List ℕ) (most more : ℕ) → root_draws_alone p ≡ true
    → IsCalm p picks most → IsCalm p others more
    → report_of p.limits (run_within most p picks) ≡ report_of p.limits (run_within more p others)

-- beside one such run: in each other one, by whatever picks and as far as it goes, in which nobody is refused or gives
-- up for want of room or memory, nobody is refused or gives up at all, and if its root ends its report is the same
abbrev pub SchedulesWithRoomComeToTheSame : Type 0
SchedulesWithRoomComeToTheSame =
    (p : Program) (picks others : List ℕ) (most more : ℕ) → limits_fit p.limits ≡ true → root_draws_alone p ≡ true
    → IsCalm p picks most → list_all wants_no_room (run_within more p others) ≡ true
    → ((t : ℕ) → refused_by t (run_within more p others) ≡ None)
    × (is_ended 0 (run_within more p others) ≡ true
    → report_of p.limits (run_within most p picks) ≡ report_of p.limits (run_within more p others))

-- one run by picks that foretells each other one: nobody is refused and the root ends, each kind of number is drawn by
-- one task alone, in order, and no phaser has more registrations in all than may stand at a time
pub record IsOrderly (p : Program) (picks : List ℕ) (most : ℕ) : Type 0 where
  pub calm : IsCalm p picks most
  pub order : draws_by in_order (run_within most p picks) ≡ true
  pub roomy : is_roomy p.limits (run_within most p picks) ≡ true

-- beside it nobody is refused or gives up in any other, by whatever picks and as far as it goes, and if the root ends
-- the report is the same
abbrev pub OrderlySchedulesForetell : Type 0
OrderlySchedulesForetell =
    (p : Program) (picks others : List ℕ) (most more : ℕ) → IsOrderly p picks most
    → ((t : ℕ) → refused_by t (run_within more p others) ≡ None)
    × (is_ended 0 (run_within more p others) ≡ true
    → report_of p.limits (run_within most p picks) ≡ report_of p.limits (run_within more p others))

-- and under limits that fit the root of each other ends within as many rounds as this one has events
abbrev pub OrderlySchedulesEnd : Type 0
OrderlySchedulesEnd =
    (p : Program) (picks others : List ℕ) (most more : ℕ) → limits_fit p.limits ≡ true → IsOrderly p picks most
    → length (run_within most p picks) ≤ more → is_ended 0 (run_within more p others) ≡ true

-- if the text says that the root alone draws, the order needn't be asked
abbrev pub RoomyTextsAreOrderly : Type 0
RoomyTextsAreOrderly =
    (p : Program) (picks : List ℕ) (most : ℕ) → root_draws_alone p ≡ true → IsCalm p picks most
    → is_roomy p.limits (run_within most p picks) ≡ true → IsOrderly p picks most
