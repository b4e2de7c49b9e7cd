use Rattle.std.proofs.Common.{ap, subst, ◌∙◌}
use Rattle.trace_text.specs.inner.Writing.{quoted, Appends}
use Rattle.trace_text.proofs.Names.{op_named}
use Rattle.trace_text.proofs.writing.write_op.Goals as goal

pub returns : goal.returns
returns c =
    subst (λ part. Appends c.write_name.result c.args.out.now c.write_name.new.out part)
    (ap quoted c.name.ensures ∙ op_named c.args.op) c.write_name.ensures
