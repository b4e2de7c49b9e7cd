use Rattle.schedule_run.proofs.Noted.{waits_unmoved}
use Rattle.schedule_run.proofs.Picking.{legal_of, run_stays}
use Rattle.schedule_run.proofs.runner.Runner.pick.Goals as goal

pub returns-then-holds-clause-stands : goal.returns-then-holds-clause-stands
returns-then-holds-clause-stands c p w st =
    run_stays p w c.args.task c.args.self.now st
    (waits_unmoved p w c.args.task (legal_of p w c.args.self.now st) (c.holds.ensures c.if-holds.true p.limits w st.noted))
