use Rattle.task_standing.proofs.Registering.{registrations_register}
use Rattle.task_standing.proofs.laws.registrations_register.Goals as goal

pub returns : goal.returns
returns c = registrations_register
