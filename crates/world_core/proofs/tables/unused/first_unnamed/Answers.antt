-- A number that is in use is passed by, and the first that isn't is the least.
use Rattle.std.proofs.Common.{ℕ, Bool, get_or, sym, ◌∙◌}
use Rattle.world_records.specs.Kept.{blank_task}
use Rattle.world_records.proofs.Least.{least_found, least_later}
use Rattle.world_core.proofs.tables.unused.first_unnamed.Goals as goal

pub returns-then-not-is_named_in : goal.returns-then-not-is_named_in
returns-then-not-is_named_in c =
    let used : ℕ → Bool = λ n. (get_or c.args.tasks.now n blank_task).is_named in
    least_found used c.loop-number.number c.args.limit c.loop-number-test.true c.loop-number.invariant (sym c.is_named_in.ensures ∙ c.if-not-is_named_in.true)

pub loop-number-preserved : goal.loop-number-preserved
loop-number-preserved c =
    let used : ℕ → Bool = λ n. (get_or c.args.tasks.now n blank_task).is_named in
    least_later used c.loop-number.number c.loop-number.invariant (sym c.is_named_in.ensures ∙ c.if-not-is_named_in.false)
