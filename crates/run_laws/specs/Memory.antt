-- Beside one whole run in which nobody is refused: a phaser's history that fitted always fits, and if
-- registrations would fit even if nobody ever left, want of memory is all that luck decides.
use Rattle.std.specs.Prelude.{ℕ, ◌≡◌, ◌≤◌, Bool, true, false, ◌&&◌, ◌||◌, ◌==◌, not, nat_le, List, [], ◌∷◌, length, None}
use Rattle.std.specs.List.{list_all}
use Rattle.std.specs.Option.{option_map_or}
use Rattle.phase_modes.specs.declared.limits.Limits.{Limits}
use Rattle.phase_model.specs.Tasks.{registered_tasks}
use Rattle.job_script.specs.declared.act.Answer.{Answer}
use Rattle.world_model.specs.declared.event.WorldEvent.{WorldEvent}
use Rattle.world_model.specs.declared.event.WorldEvent.TheVariants.{Refuse, Fail}
use Rattle.world_model.specs.Due.{next_event}
use Rattle.world_model.specs.GivingUp.{is_refused_by}
use Rattle.world_model.specs.Parts.{phaser_past}
use Rattle.world_model.specs.Replies.{is_legal_world, reply}
use Rattle.world_model.specs.Report.{below, report_of, refused_by}
use Rattle.world_model.specs.Tasks.{is_ended}
use Rattle.trace_walk.specs.Going.{goes_by}
use Rattle.trace_walk.specs.Walking.{Does}
use Rattle.trace_walk.specs.Whole.{IsSmooth}
use Rattle.trace_walk.specs.Scripts.{Numbers}
use Rattle.run_laws.specs.Telling.{Told, draws_by}
use Rattle.run_laws.specs.Determinacy.{IsRun}

-- the event refuses no act, and who gives up by it does so for full registrations (14) or for want of memory
-- (23)
abbrev pub leaves_history_room : WorldEvent → Bool
leaves_history_room (Refuse t a n) = false
leaves_history_room (Fail t n) = n == 14 || n == 23
leaves_history_room _ = true

-- beside one such run v: the first event of another history of the same bodies, by the same rule, by which
-- somebody is refused or gives up refuses no act, and isn't for want of room in a phaser's history
abbrev pub HistoriesAlwaysFit : {B : Type 0} → (Answer → B → Does B) → Type 0
HistoriesAlwaysFit {B = B} next =
    (root : B) (names : ℕ → List Told → Numbers) (l : Limits) (v w : List WorldEvent) (e : WorldEvent)
    → IsRun next root names l v
    → is_legal_world l (e ∷ w) ≡ true → goes_by next root (e ∷ w) ≡ true → draws_by names (e ∷ w) ≡ true
    → ((u : ℕ) → refused_by u w ≡ None) → leaves_history_room e ≡ true

-- beside one such run v: no other history of the same bodies, by the same rule, in which nobody was refused up to
-- now, has more events
abbrev pub HistoriesAreNoLonger : {B : Type 0} → (Answer → B → Does B) → Type 0
HistoriesAreNoLonger {B = B} next =
    (root : B) (names : ℕ → List Told → Numbers) (l : Limits) (v w : List WorldEvent)
    → IsRun next root names l v → IsSmooth next root l w → draws_by names w ≡ true → length w ≤ length v

-- how many tasks were ever registered on phaser n, its maker among them
abbrev pub registrations : ℕ → List WorldEvent → ℕ
registrations n w = length (registered_tasks (phaser_past n w))

-- on each phaser there were in all no more than may stand at a time
abbrev pub is_roomy : Limits → List WorldEvent → Bool
is_roomy l w = list_all (λ n. nat_le (registrations n w) l.regs) (below l.phasers)

-- the event that continues t's act is now refused by this number
abbrev pub is_next_refused : Limits → List WorldEvent → ℕ → ℕ → Bool
is_next_refused l w t n = option_map_or (λ e. is_refused_by n (reply l w e)) (next_event l t w) false

-- who gives up by the event does so not for want of memory (23), and for full registrations (14) only if they
-- are full; a legal history alone lets a task give up by 14 wherever it has a registration to make
abbrev pub is_forced : Limits → List WorldEvent → WorldEvent → Bool
is_forced l w (Fail t n) = not (n == 23) && (not (n == 14) || is_next_refused l w t n)
is_forced l w _ = true

-- so it is with each who gives up
abbrev pub has_memory : Limits → List WorldEvent → Bool
has_memory l [] = true
has_memory l (e ∷ w) = is_forced l w e && has_memory l w

-- so beside one such run that is roomy, want of memory is all that luck decides: in another history that has
-- memory nobody is refused or gives up at all; and if its root has ended, its report is the same
abbrev pub MemoryIsAllLuck : {B : Type 0} → (Answer → B → Does B) → Type 0
MemoryIsAllLuck {B = B} next =
    (root : B) (names : ℕ → List Told → Numbers) (l : Limits) (v w : List WorldEvent)
    → IsRun next root names l v → is_roomy l v ≡ true
    → is_legal_world l w ≡ true → goes_by next root w ≡ true → draws_by names w ≡ true → has_memory l w ≡ true
    → ((t : ℕ) → refused_by t w ≡ None) × (is_ended 0 w ≡ true → report_of l v ≡ report_of l w)
