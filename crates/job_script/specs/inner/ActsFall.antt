-- The acts inside an act nest less deep than the list that it stands in.
use Rattle.std.specs.Prelude.{◌≤◌, List, [], ◌∷◌}
use Rattle.std.proofs.Common.{arith}
use denote.Param.Weighed.{most}
use Rattle.job_script.specs.Acts.{depth}
use Rattle.job_script.specs.inner.Views.{acts_view}
use Rattle.job_script.specs.declared.stored.Item.{Item}
use Rattle.job_script.specs.declared.stored.Body.TheDeep.{deep-Item}

pub falls : (items : List Item) → most (λ x. deep-Item x) items ≤ depth (acts_view items)
falls [] = omega arith
falls (x ∷ xs) = grind (arith, falls xs)
