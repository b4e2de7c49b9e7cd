use Rattle.std.proofs.Common.{List, ℕ, Ok, subst}
use Rattle.std.specs.Io.KnownBytes.{Appends}
use Rattle.job_kernels.specs.StencilTasks.{stencil_next}
use Rattle.run_jobs.specs.KernelsWorked.{IsKernelRun}
use Rattle.run_jobs.proofs.Texts.{stencil_printed}
use Rattle.run_jobs.proofs.running.stencil_on.Goals as goal

pub returns-clause-cells : goal.returns-clause-cells
returns-clause-cells g c = λ done small.
    let (r, run, none, printed) = c.kernel_on.ensures.done done in
    subst (λ (text : List ℕ). Appends (g.W.Write.contents c.args.out.now) (g.W.Write.contents c.kernel_on.new.out) text)
    (stencil_printed c.args.first.now c.args.steps r c.requires.few small
    (subst (λ b. IsKernelRun stencil_next b (Ok r)) c.root-root.ensures run) none) printed

pub returns-clause-done : goal.returns-clause-done
returns-clause-done g c = λ done.
    let (r, run, none, printed) = c.kernel_on.ensures.done done in
    (r, subst (λ b. IsKernelRun stencil_next b (Ok r)) c.root-root.ensures run, none, printed)

pub returns-clause-reported : goal.returns-clause-reported
returns-clause-reported g c = λ undone.
    let (ran, run, told) = c.kernel_on.ensures.reported undone in
    (ran, subst (λ b. IsKernelRun stencil_next b ran) c.root-root.ensures run, told)
