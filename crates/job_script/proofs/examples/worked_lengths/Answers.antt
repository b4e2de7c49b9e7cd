use Rattle.job_script.proofs.FormExamples as computed
use Rattle.job_script.proofs.examples.worked_lengths.Goals as goal

pub returns-clause-million_acts : goal.returns-clause-million_acts
returns-clause-million_acts c = computed.million_acts

pub returns-clause-both_too_long : goal.returns-clause-both_too_long
returns-clause-both_too_long c = computed.both_too_long

pub returns-clause-only_inner_too_long : goal.returns-clause-only_inner_too_long
returns-clause-only_inner_too_long c = computed.only_inner_too_long

pub returns-clause-wrong_in_long : goal.returns-clause-wrong_in_long
returns-clause-wrong_in_long c = computed.wrong_in_long

pub returns-clause-body_too_long : goal.returns-clause-body_too_long
returns-clause-body_too_long c = computed.body_too_long

pub returns-clause-longest_body : goal.returns-clause-longest_body
returns-clause-longest_body c = computed.longest_body

pub returns-clause-child_too_long : goal.returns-clause-child_too_long
returns-clause-child_too_long c = computed.child_too_long
