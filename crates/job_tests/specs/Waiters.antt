-- What the body of the tests of walks does.
use Rattle.job_script.specs.declared.act.Act.TheVariants as acts
use Rattle.job_script.specs.declared.act.Answer.{Answer}
use Rattle.job_script.specs.declared.act.Answer.TheVariants.{Saw}
use Rattle.phase_model.specs.declared.op.Look.TheVariants.{Value}
use Rattle.trace_walk.specs.Walking.{Does}

-- it signals once its last look saw a value, and looks after all else
abbrev pub waits_for_values : {B : Type 0} → Answer → B → Does B
waits_for_values (Saw (Value v)) body = (acts.Signal, body)
waits_for_values heard body = (acts.Look 0 0, body)
