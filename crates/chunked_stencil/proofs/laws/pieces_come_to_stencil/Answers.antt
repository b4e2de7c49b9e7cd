use Rattle.chunked_stencil.proofs.Steps.{pieces_come_to_stencil}
use Rattle.chunked_stencil.proofs.laws.pieces_come_to_stencil.Goals as goal

pub returns-clause-law : goal.returns-clause-law
returns-clause-law c = pieces_come_to_stencil
