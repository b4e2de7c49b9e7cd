use Rattle.schedule_run.proofs.PassedOver.{noted_run}
use Rattle.schedule_run.proofs.ended.Ended.note.Goals as goal

pub returns-then-place-len : goal.returns-then-place-len
returns-then-place-len c = λ w have new. noted_run w c.args.self.now.runs.items c.args.task c.args.run have new
