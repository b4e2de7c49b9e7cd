-- What a program gives: the laws for programs that are texts, whose tasks go through lists of acts.
use Rattle.std.specs.Prelude.{ℕ, ◌≡◌, true, List, None}
use Rattle.job_script.specs.Program.{Program}
use Rattle.job_script.specs.Steps.{Script, begun, no_meanings}
use Rattle.world_model.specs.declared.event.WorldEvent.{WorldEvent}
use Rattle.world_model.specs.Report.{report_of, refused_by}
use Rattle.world_model.specs.Replies.{is_legal_world}
use Rattle.world_model.specs.Tasks.{is_ended}
use Rattle.trace_walk.specs.Going.{goes_by}
use Rattle.trace_walk.specs.Walking.{script_next}
use Rattle.trace_walk.specs.Scripts.{Numbers}
use Rattle.trace_walk.specs.Follows.{follows}
use Rattle.phase_modes.specs.declared.limits.Limits.{Limits}
use Rattle.run_laws.specs.Texts.{root_draws_alone}
use Rattle.run_laws.specs.Telling.{Told, told, draws_by, draws_least, root_draws, in_order}

-- the root's body, before its first act
abbrev pub script_root : Program → Script
script_root p = begun p.main no_meanings

-- a legal history that follows a program goes by the program's bodies
abbrev pub FollowersGoByScripts : Type 0
FollowersGoByScripts = (p : Program) (w : List WorldEvent)
    → is_legal_world p.limits w ≡ true → follows p w ≡ true → goes_by script_next (script_root p) w ≡ true

-- a whole run of a program: nobody is refused or gives up, the root has ended, and numbers are drawn by this rule
pub record IsProgramRun (p : Program) (names : ℕ → List Told → Numbers) (w : List WorldEvent) : Type 0 where
  pub legal : is_legal_world p.limits w ≡ true
  pub follows_it : follows p w ≡ true
  pub unrefused : (t : ℕ) → refused_by t w ≡ None
  pub ended : is_ended 0 w ≡ true
  pub draws : draws_by names w ≡ true

-- in two such runs by the same rule each task does the same, and both give the same report
abbrev pub ProgramsComeToTheSame : Type 0
ProgramsComeToTheSame =
    (p : Program) (names : ℕ → List Told → Numbers) (v w : List WorldEvent)
    → IsProgramRun p names v → IsProgramRun p names w
    → ((t : ℕ) → told t v ≡ told t w) × (report_of p.limits v ≡ report_of p.limits w)

-- if nobody is refused, and the root alone draws numbers, and always the least, each kind is drawn in order
abbrev pub RootsDrawInOrder : Type 0
RootsDrawInOrder = (l : Limits) (w : List WorldEvent)
    → is_legal_world l w ≡ true → ((t : ℕ) → refused_by t w ≡ None) → root_draws w ≡ true → draws_least l w ≡ true
    → draws_by in_order w ≡ true

-- if nobody is refused in a history of a program whose text says that the root alone draws, it does
abbrev pub TextsTellWhoDraws : Type 0
TextsTellWhoDraws = (p : Program) (w : List WorldEvent)
    → root_draws_alone p ≡ true → is_legal_world p.limits w ≡ true → follows p w ≡ true
    → ((t : ℕ) → refused_by t w ≡ None) → root_draws w ≡ true

-- a whole run of a program: nobody is refused or gives up, the root has ended, and the least numbers are drawn
pub record IsLeastRun (p : Program) (w : List WorldEvent) : Type 0 where
  pub legal : is_legal_world p.limits w ≡ true
  pub follows_it : follows p w ≡ true
  pub unrefused : (t : ℕ) → refused_by t w ≡ None
  pub ended : is_ended 0 w ≡ true
  pub draws : draws_least p.limits w ≡ true

-- so of a program whose text says that the root alone draws: in two such runs each task does the same, and both give
-- the same report
abbrev pub TextsForetell : Type 0
TextsForetell = (p : Program) (v w : List WorldEvent) → root_draws_alone p ≡ true → IsLeastRun p v → IsLeastRun p w
    → ((t : ℕ) → told t v ≡ told t w) × (report_of p.limits v ≡ report_of p.limits w)
