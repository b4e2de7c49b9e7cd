use Rattle.job_script.proofs.FormExamples as computed
use Rattle.job_script.proofs.examples.worked_bounds.Goals as goal

pub returns-clause-least_bound : goal.returns-clause-least_bound
returns-clause-least_bound c = computed.least_bound

pub returns-clause-greatest_bound : goal.returns-clause-greatest_bound
returns-clause-greatest_bound c = computed.greatest_bound

pub returns-clause-wrong_bounds : goal.returns-clause-wrong_bounds
returns-clause-wrong_bounds c = computed.wrong_bounds

pub returns-clause-two_bounds : goal.returns-clause-two_bounds
returns-clause-two_bounds c = computed.two_bounds
