use Rattle.trace_model.proofs.Owners.{projections_are_parts, others_have_none, projection_is_part}
use Rattle.trace_model.proofs.laws.projections_are_parts.Goals as goal

pub returns : goal.returns
returns c = record { parts = projections_are_parts; others = others_have_none; part = projection_is_part }
