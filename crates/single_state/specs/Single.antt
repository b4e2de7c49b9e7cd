-- The last proposed single of a phaser, and how far it has come. Older phases are done.
use Rattle.std.specs.Prelude.{ℕ, ◌≡◌, ◌<◌, ◌⊎◌, Bool, true, false, ◌&&◌, ◌||◌, ◌==◌, not, if◌then◌else◌, Option, Some, None}
use Rattle.single_state.specs.declared.statement.Stage.{Stage}
use Rattle.single_state.specs.declared.statement.Stage.TheVariants.{Proposed, Claimed, Done}
use Rattle.single_state.specs.declared.statement.Statement.{Statement}

-- the statement isn't done
abbrev pub is_open_stage : Stage → Bool
is_open_stage Proposed = true
is_open_stage (Claimed t) = true
is_open_stage (Done t) = false

-- no task has claimed it
abbrev pub is_unclaimed : Stage → Bool
is_unclaimed Proposed = true
is_unclaimed (Claimed t) = false
is_unclaimed (Done t) = false

-- t has claimed it and not yet reported it
abbrev pub is_claim_of : ℕ → Stage → Bool
is_claim_of t Proposed = false
is_claim_of t (Claimed u) = u == t
is_claim_of t (Done u) = false

-- the number that stands for the phase
abbrev pub number_for : Option Statement → ℕ → Option ℕ
number_for None p = None
number_for (Some x) p = if x.phase == p then Some x.number else None

-- the phase has no number, or is done
abbrev pub may_pass : Option Statement → ℕ → Bool
may_pass None p = true
may_pass (Some x) p = not (x.phase == p) || not (is_open_stage x.stage)

-- the phase is proposed and unclaimed
abbrev pub is_claimable : Option Statement → ℕ → Bool
is_claimable None p = false
is_claimable (Some x) p = x.phase == p && is_unclaimed x.stage

-- t claimed the last single, and it isn't done
abbrev pub is_claimed_by : Option Statement → ℕ → Bool
is_claimed_by None t = false
is_claimed_by (Some x) t = is_claim_of t x.stage

-- a claim and a report, the report alone, or nothing
abbrev pub stage_reserve : Stage → ℕ
stage_reserve Proposed = 2
stage_reserve (Claimed t) = 1
stage_reserve (Done t) = 0

-- how many events the open single still needs
abbrev pub reserve_of : Option Statement → ℕ
reserve_of None = 0
reserve_of (Some x) = stage_reserve x.stage

-- another number than n stands for the phase
abbrev pub is_mismatch : Option Statement → ℕ → ℕ → Bool
is_mismatch None p n = false
is_mismatch (Some x) p n = x.phase == p && not (x.number == n)

-- what a proposal leaves
abbrev pub proposed : Option Statement → ℕ → ℕ → Option Statement
proposed None p n = Some (record { phase = p; number = n; stage = Proposed })
proposed (Some x) p n =
    if x.phase == p then Some x else Some (record { phase = p; number = n; stage = Proposed })

-- what a claim leaves
abbrev pub claimed : Option Statement → ℕ → Option Statement
claimed None t = None
claimed (Some x) t = Some (record { phase = x.phase; number = x.number; stage = Claimed t })

-- what a report leaves
abbrev pub done : Option Statement → ℕ → Option Statement
done None t = None
done (Some x) t = Some (record { phase = x.phase; number = x.number; stage = Done t })

-- nothing was proposed yet, or the phase is the last proposed one, or that one is done and the phase is later
abbrev pub MayPropose : Option Statement → ℕ → Type 0
MayPropose None p = Unit {0}
MayPropose (Some x) p = (x.phase ≡ p) ⊎ ((is_open_stage x.stage ≡ false) × (x.phase < p))
