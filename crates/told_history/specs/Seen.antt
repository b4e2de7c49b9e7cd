-- What a beginning of a log owns: that the log came so far.
use Rattle.std.specs.Prelude.{ℕ, List}
use base.Stored.{Gv}
use base.Growing.{at_least}
use base.Fml.{Fml}
use Rattle.told_history.specs.Owned.{logs, kept}

-- the log of this name has these entries, and maybe newer ones; not unfolded, so that a walk names it
unfoldable pub front_owns : {A : Type 0} → (A → Gv) → ℕ → List A → Fml
front_owns c η xs = at_least logs η (kept c xs)
