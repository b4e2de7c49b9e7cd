-- Lists of calls, newest first, and that no single is claimed or reported twice over any of them.
use Rattle.std.specs.Prelude.{ℕ, ◌+◌, ◌≤◌, Bool, false, ◌&&◌, ◌==◌, not, is_some, if◌then◌else◌, List, [], ◌∷◌, Option, None}
use Rattle.single_state.specs.declared.statement.Statement.{Statement}
use Rattle.single_state.specs.Single.{number_for, is_claimable, is_claimed_by, is_mismatch, proposed, claimed, done, MayPropose}

-- a call: `propose` of a phase and a number, `claim` of a phase by a task, or a task's `done`
pub data Change : Type 0 where
  proposal : ℕ → ℕ → Change
  claim : ℕ → ℕ → Change
  report : ℕ → Change

-- the call is answered Ok
abbrev pub is_ok_now : Option Statement → Change → Bool
is_ok_now s (proposal p n) = not (is_mismatch s p n)
is_ok_now s (claim p t) = is_claimable s p
is_ok_now s (report t) = is_claimed_by s t

-- what a call leaves that is answered Ok
abbrev pub changed : Option Statement → Change → Option Statement
changed s (proposal p n) = proposed s p n
changed s (claim p t) = claimed s t
changed s (report t) = done s t

-- what is remembered after the calls: one that is refused changes nothing
abbrev pub remembered : List Change → Option Statement
remembered [] = None
remembered (c ∷ cs) = if is_ok_now (remembered cs) c then changed (remembered cs) c else remembered cs

-- each proposal came when its phase might be proposed
abbrev pub AreInOrder : List Change → Type 0
AreInOrder [] = Unit {0}
AreInOrder (proposal p n ∷ cs) = MayPropose (remembered cs) p × AreInOrder cs
AreInOrder (claim p t ∷ cs) = AreInOrder cs
AreInOrder (report t ∷ cs) = AreInOrder cs

-- the call claims phase p
abbrev pub claims_phase : ℕ → Option Statement → Change → Bool
claims_phase p s (claim q t) = q == p
claims_phase p s (proposal q n) = false
claims_phase p s (report t) = false

-- the call reports what stands for phase p
abbrev pub reports_phase : ℕ → Option Statement → Change → Bool
reports_phase p s (report t) = is_some (number_for s p)
reports_phase p s (proposal q n) = false
reports_phase p s (claim q t) = false

-- how many of the calls were answered Ok and passed this test when they were made
abbrev pub count_ok : (Option Statement → Change → Bool) → List Change → ℕ
count_ok test [] = 0
count_ok test (c ∷ cs) =
    (if is_ok_now (remembered cs) c && test (remembered cs) c then 1 else 0) + count_ok test cs

-- at most one claim of each phase is answered Ok
abbrev pub ClaimsAreUnique : Type 0
ClaimsAreUnique = (cs : List Change) → AreInOrder cs → (p : ℕ) → count_ok (claims_phase p) cs ≤ 1

-- at most one report of each phase's single is answered Ok
abbrev pub ReportsAreUnique : Type 0
ReportsAreUnique = (cs : List Change) → AreInOrder cs → (p : ℕ) → count_ok (reports_phase p) cs ≤ 1
