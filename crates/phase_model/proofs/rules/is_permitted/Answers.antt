-- Each event asks for what its answer depends on; the rest is any.
use Rattle.phase_model.proofs.rules.is_permitted.Goals as goal

pub returns-in-Make : goal.returns-in-Make
returns-in-Make c =
    rw (c.in-Make.is, ← c.of-past.ensures) (c.permits_make.ensures c.args.terms c.in-Make.field-1)

pub returns-in-Reg : goal.returns-in-Reg
returns-in-Reg c = rw (c.in-Reg.is, ← c.of-past.ensures) (c.permits_register.ensures c.args.terms)

pub returns-in-Sig : goal.returns-in-Sig
returns-in-Sig c =
    rw (c.in-Sig.is, ← c.of-past.ensures) (c.permits_signal.ensures c.args.limits)

pub returns-in-Claim : goal.returns-in-Claim
returns-in-Claim c =
    rw (c.in-Claim.is, ← c.of-past.ensures) (c.permits_claim.ensures c.args.limits c.args.terms)

pub returns-in-Did : goal.returns-in-Did
returns-in-Did c =
    rw (c.in-Did.is, ← c.of-past.ensures) (c.permits_report.ensures c.args.limits c.args.terms)

pub returns-in-Pass : goal.returns-in-Pass
returns-in-Pass c =
    rw (c.in-Pass.is, ← c.of-past.ensures) (c.permits_pass.ensures c.args.limits c.args.terms)

pub returns-in-Send : goal.returns-in-Send
returns-in-Send c =
    rw (c.in-Send.is, ← c.of-past.ensures) (c.permits_send.ensures c.args.limits c.in-Send.field-2)

pub returns-in-Look : goal.returns-in-Look
returns-in-Look c = rw c.in-Look.is (c.permits_look.ensures c.args.limits)

pub returns-in-Drop : goal.returns-in-Drop
returns-in-Drop c =
    rw (c.in-Drop.is, ← c.of-past.ensures) (c.permits_drop.ensures c.args.limits c.args.terms)
