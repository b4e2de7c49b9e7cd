use Rattle.std.proofs.Common.{◌≡◌, ◌++◌, codes, subst}
use Rattle.phase_modes.specs.Refusal.{refusal_text}
use Rattle.job_ends.specs.Ends.{failure_line}
use Rattle.job_ends.specs.declared.failure.Failure.TheVariants.{Refused}
use Rattle.judge_job.specs.Words.{why_text}
use Rattle.judge_job.proofs.Texts.{of_3}
use Rattle.judge_job.proofs.job.refusal_lines.Goals as goal

pub returns-in-Ok : goal.returns-in-Ok
returns-in-Ok c =
    let second = why_text c.args.place c.args.reason.now c.args.owing.now in
    subst (λ r. c.in-Ok.lines.bytes.items ≡ failure_line (Refused r) ++ second) c.refusal-refusal.ensures
    (of_3 (λ t. c.in-Ok.lines.bytes.items ≡ t) (refusal_text c.refusal-refusal.result) (codes "\n") second c.in-Ok.ensures.ok)
