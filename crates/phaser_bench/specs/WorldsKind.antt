-- The kinds of steps, as the arguments name them.
use Rattle.std.specs.Prelude.{ℕ, List, codes}
use Rattle.phaser_bench.specs.declared.worlds.kind.Kind.{Kind}
use Rattle.phaser_bench.specs.declared.worlds.kind.Kind.TheVariants.{Calls, Alone, Beside, Reported, Default, Greatest}

-- as it is written on the command line
abbrev pub name_of : Kind → List ℕ
name_of Calls = codes "calls"
name_of Alone = codes "alone"
name_of Beside = codes "beside"
name_of Reported = codes "reported"
name_of Default = codes "default"
name_of Greatest = codes "greatest"
