-- That nobody is left, by counts.
use Rattle.std.specs.Prelude.{◌≡◌}
use Rattle.live_rt.specs.declared.ended.Counts.{Counts}

-- as many tasks have ended as there were, as many phasers are gone as were made, and as many finishes are shut as were opened
abbrev pub AreAllGone : Counts → Type 0
AreAllGone c = (c.ended ≡ c.tasks) × (c.gone ≡ c.phasers) × (c.shut ≡ c.finishes)
