-- A number that is in use is passed by, and the first that isn't is the least.
use Rattle.std.proofs.Common.{ℕ, Bool, not, get_or, sym, ◌∙◌}
use Rattle.phase_modes.specs.Lists.{is_empty}
use Rattle.finish_core.specs.Finish.{fresh}
use Rattle.world_records.proofs.Least.{least_found, least_later}
use Rattle.world_core.proofs.tables.unused.first_unopened.Goals as goal

pub returns-then-not-is_begun : goal.returns-then-not-is_begun
returns-then-not-is_begun c =
    let used : ℕ → Bool = λ n. not (is_empty (get_or c.args.finishes.now n (fresh 0)).past) in
    least_found used c.loop-number.number c.args.limit c.loop-number-test.true c.loop-number.invariant (sym c.is_begun.ensures ∙ c.if-not-is_begun.true)

pub loop-number-preserved : goal.loop-number-preserved
loop-number-preserved c =
    let used : ℕ → Bool = λ n. not (is_empty (get_or c.args.finishes.now n (fresh 0)).past) in
    least_later used c.loop-number.number c.loop-number.invariant (sym c.is_begun.ensures ∙ c.if-not-is_begun.false)
