use Rattle.std.proofs.Common.{rules, arith, refl}
use Rattle.job_ends.proofs.Known.{whole, past}
use Rattle.job_ends.proofs.input.read_all.Goals as goal

pub returns-in-Ok-eq0-clause-bytes : goal.returns-in-Ok-eq0-clause-bytes
returns-in-Ok-eq0-clause-bytes g c =
    let end = c.in-Ok-eq0.ensures.bytes.1 c.in-Ok-eq0.field-0-test (search rules) in (
      c.loop.invariant.within,
      whole _ _ _ _ _
          (rw c.in-Ok-eq0.field-0-test refl) c.loop.invariant.read c.in-Ok-eq0.ensures.bytes.0 end,
      end,
    )

pub returns-then-count-most-clause-too_long : goal.returns-then-count-most-clause-too_long
returns-then-count-most-clause-too_long g c =
    past _ _ _ _ _ _
    (grind (arith, c.in-Ok.ensures.bound, c.if-count-most.true, c.len.ensures, c.loop.bytes.ok))
    c.loop.invariant.read c.in-Ok.ensures.bytes.0
