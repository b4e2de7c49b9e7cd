use Rattle.std.proofs.Common.{List, ℕ, Ok, subst}
use Rattle.std.specs.Io.KnownBytes.{Appends}
use Rattle.job_kernels.specs.PipelineTasks.{pipeline_next}
use Rattle.run_jobs.specs.KernelsWorked.{IsKernelRun}
use Rattle.run_jobs.proofs.Texts.{pipeline_printed}
use Rattle.run_jobs.proofs.running.pipeline_on.Goals as goal

pub returns-clause-items : goal.returns-clause-items
returns-clause-items g c = λ done.
    let (r, run, none, printed) = c.kernel_on.ensures.done done in
    subst (λ (text : List ℕ). Appends (g.W.Write.contents c.args.out.now) (g.W.Write.contents c.kernel_on.new.out) text)
    (pipeline_printed c.args.size.stages c.args.size.items r c.requires.stages c.requires.items
    (subst (λ b. IsKernelRun pipeline_next b (Ok r)) c.root-root.ensures run) none) printed

pub returns-clause-done : goal.returns-clause-done
returns-clause-done g c = λ done.
    let (r, run, none, printed) = c.kernel_on.ensures.done done in
    (r, subst (λ b. IsKernelRun pipeline_next b (Ok r)) c.root-root.ensures run, none, printed)

pub returns-clause-reported : goal.returns-clause-reported
returns-clause-reported g c = λ undone.
    let (ran, run, told) = c.kernel_on.ensures.reported undone in
    (ran, subst (λ b. IsKernelRun pipeline_next b ran) c.root-root.ensures run, told)
