-- Whatever the order in which tasks go on: what each of them does, and what a whole run gives.
use Rattle.std.specs.Prelude.{ℕ, ◌≡◌, Bool, true, not, ◌||◌, ◌==◌, List, ◌∷◌, ◌++◌, None}
use Rattle.phase_modes.specs.declared.limits.Limits.{Limits}
use Rattle.job_script.specs.declared.act.Answer.{Answer}
use Rattle.world_model.specs.declared.event.WorldEvent.{WorldEvent}
use Rattle.world_model.specs.declared.event.WorldEvent.TheVariants.{Refuse, Fail}
use Rattle.std.specs.List.{list_all}
use Rattle.world_model.specs.Replies.{is_legal_world}
use Rattle.world_model.specs.Tasks.{is_ended}
use Rattle.world_model.specs.Report.{report_of, refused_by}
use Rattle.trace_walk.specs.Going.{goes_by}
use Rattle.trace_walk.specs.Walking.{Does}
use Rattle.trace_walk.specs.Scripts.{Numbers}
use Rattle.trace_walk.specs.Whole.{IsSmooth, IsWhole}
use Rattle.run_laws.specs.Telling.{Told, told, draws_by}

-- a whole run of these bodies: nobody is refused or gives up, the root has ended, and numbers are drawn by this rule
pub record IsRun {B : Type 0} (next : Answer → B → Does B) (root : B) (names : ℕ → List Told → Numbers)
    (l : Limits) (w : List WorldEvent) : Type 0 where
  pub whole : IsWhole next root l w
  pub draws : draws_by names w ≡ true

-- P holds of each two such runs of the same bodies, under the same limits and by the same rule
abbrev pub OfEachTwoRuns : {B : Type 0} → (Answer → B → Does B)
    → (Limits → List WorldEvent → List WorldEvent → Type 0) → Type 0
OfEachTwoRuns {B = B} next P =
    (root : B) (names : ℕ → List Told → Numbers) (l : Limits) (v w : List WorldEvent)
    → IsRun next root names l v → IsRun next root names l w → P l v w

-- each task does the same in both: the same events in the same order, in the same phases, and it hears and sees the
-- same; but for who runs a single
abbrev pub TasksDoTheSame : {B : Type 0} → (Answer → B → Does B) → Type 0
TasksDoTheSame next = OfEachTwoRuns next (λ l v w. (t : ℕ) → told t v ≡ told t w)

-- both give the same report
abbrev pub RunsComeToTheSame : {B : Type 0} → (Answer → B → Does B) → Type 0
RunsComeToTheSame next = OfEachTwoRuns next (λ l v w. report_of l v ≡ report_of l w)

-- xs is what came first of ys, both being told newest first
abbrev pub IsBeginning : List Told → List Told → Type 0
IsBeginning xs ys = (more : List Told) × (ys ≡ more ++ xs)

-- beside one such run v: in each history w of the same bodies, by the same rule, in which nobody was refused up to now,
-- whole or not, each task has done a first part of what it does in v
abbrev pub HistoriesAreBeginnings : {B : Type 0} → (Answer → B → Does B) → Type 0
HistoriesAreBeginnings {B = B} next =
    (root : B) (names : ℕ → List Told → Numbers) (l : Limits) (v w : List WorldEvent)
    → IsRun next root names l v → IsSmooth next root l w → draws_by names w ≡ true
    → (t : ℕ) → IsBeginning (told t w) (told t v)

-- the numbers of want of room or memory: 14 full registrations, 15 a full history, 23 memory
abbrev pub is_of_room : ℕ → Bool
is_of_room n = n == 14 || n == 15 || n == 23

-- the event isn't that an act is refused, or that a task gives up, for want of room or memory
abbrev pub wants_no_room : WorldEvent → Bool
wants_no_room (Refuse t a n) = not (is_of_room n)
wants_no_room (Fail t n) = not (is_of_room n)
wants_no_room _ = true

-- so beside one such run room and memory are all that luck decides: in another history in which nobody is refused or
-- gives up for want of them, nobody is refused or gives up at all; and if its root has ended, its report is the same
abbrev pub RoomIsAllLuck : {B : Type 0} → (Answer → B → Does B) → Type 0
RoomIsAllLuck {B = B} next =
    (root : B) (names : ℕ → List Told → Numbers) (l : Limits) (v w : List WorldEvent)
    → IsRun next root names l v
    → is_legal_world l w ≡ true → goes_by next root w ≡ true → draws_by names w ≡ true → list_all wants_no_room w ≡ true
    → ((t : ℕ) → refused_by t w ≡ None) × (is_ended 0 w ≡ true → report_of l v ≡ report_of l w)
