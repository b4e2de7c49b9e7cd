use Rattle.std.proofs.Common.{ap, subst, ◌∙◌}
use Rattle.trace_text.specs.inner.Writing.{quoted, Appends}
use Rattle.trace_text.proofs.Names.{mode_named}
use Rattle.trace_text.proofs.writing.write_mode.Goals as goal

pub returns : goal.returns
returns c =
    subst (λ part. Appends c.write_name.result c.args.out.now c.write_name.new.out part)
    (ap quoted c.name.ensures ∙ mode_named c.args.mode) c.write_name.ensures
