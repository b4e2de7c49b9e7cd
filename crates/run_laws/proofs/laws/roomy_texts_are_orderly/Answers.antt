-- The law that a text that leaves all draws to the root needs no order asked.
use Rattle.run_laws.proofs.OrderlySchedules.{roomy_texts_are_orderly}
use Rattle.run_laws.proofs.laws.roomy_texts_are_orderly.Goals as goal

pub returns : goal.returns
returns c = roomy_texts_are_orderly
