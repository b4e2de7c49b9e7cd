-- A number that is in use is passed by, and the first that isn't is the least.
use Rattle.std.proofs.Common.{ℕ, Bool, not, sym, ◌∙◌}
use Rattle.phase_modes.specs.Lists.{is_empty}
use Rattle.world_records.specs.Kept.{past_in}
use Rattle.world_records.proofs.Least.{least_found, least_later}
use Rattle.world_core.proofs.tables.unused.first_unmade.Goals as goal

pub returns-then-not-is_made : goal.returns-then-not-is_made
returns-then-not-is_made c =
    let used : ℕ → Bool = λ n. not (is_empty (past_in c.args.phasers.now n)) in
    least_found used c.loop-number.number c.args.limit c.loop-number-test.true c.loop-number.invariant (sym c.is_made.ensures ∙ c.if-not-is_made.true)

pub loop-number-preserved : goal.loop-number-preserved
loop-number-preserved c =
    let used : ℕ → Bool = λ n. not (is_empty (past_in c.args.phasers.now n)) in
    least_later used c.loop-number.number c.loop-number.invariant (sym c.is_made.ensures ∙ c.if-not-is_made.false)
