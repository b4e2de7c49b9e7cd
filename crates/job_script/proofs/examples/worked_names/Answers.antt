use Rattle.job_script.proofs.FormExamples as computed
use Rattle.job_script.proofs.examples.worked_names.Goals as goal

pub returns-clause-long_name : goal.returns-clause-long_name
returns-clause-long_name c = computed.long_name

pub returns-clause-longest_name : goal.returns-clause-longest_name
returns-clause-longest_name c = computed.longest_name

pub returns-clause-numbered_names : goal.returns-clause-numbered_names
returns-clause-numbered_names c = computed.numbered_names

pub returns-clause-too_many_names : goal.returns-clause-too_many_names
returns-clause-too_many_names c = computed.too_many_names

pub returns-clause-sixty_four_names : goal.returns-clause-sixty_four_names
returns-clause-sixty_four_names c = computed.sixty_four_names

pub returns-clause-too_many_names_within : goal.returns-clause-too_many_names_within
returns-clause-too_many_names_within c = computed.too_many_names_within
