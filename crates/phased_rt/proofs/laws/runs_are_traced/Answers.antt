use Rattle.phased_rt.proofs.Traced.{phasers_traced, finishes_traced, logs_traced}
use Rattle.phased_rt.proofs.laws.runs_are_traced.Goals as goal

pub returns : goal.returns
returns c = record { phasers = phasers_traced; finishes = finishes_traced; logs = logs_traced }
