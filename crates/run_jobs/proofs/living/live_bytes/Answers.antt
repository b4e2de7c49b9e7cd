use Rattle.std.proofs.Common.{rules}
use Rattle.run_jobs.proofs.living.live_bytes.Goals as goal

pub returns-clause-done : goal.returns-clause-done
returns-clause-done g c = (
  (c.in_ok-program.program, search rules),
  (c.in_ok-lived.lived.counts, c.in_ok-lived.ensures.nobody, search rules),
)
