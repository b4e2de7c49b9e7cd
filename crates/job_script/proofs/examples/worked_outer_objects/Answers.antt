use Rattle.job_script.proofs.FormExamples as computed
use Rattle.job_script.proofs.examples.worked_outer_objects.Goals as goal

pub returns-clause-unknown_key : goal.returns-clause-unknown_key
returns-clause-unknown_key c = computed.unknown_key

pub returns-clause-no_main : goal.returns-clause-no_main
returns-clause-no_main c = computed.no_main

pub returns-clause-null_limits : goal.returns-clause-null_limits
returns-clause-null_limits c = computed.null_limits
