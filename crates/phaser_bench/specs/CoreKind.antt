-- The kinds of calls of phasers alone, as the arguments name them.
use Rattle.std.specs.Prelude.{ℕ, List, codes}
use Rattle.phaser_bench.specs.declared.phasers.kind.Kind.{Kind}
use Rattle.phaser_bench.specs.declared.phasers.kind.Kind.TheVariants.{Nothing, Turn, Send, Look, Drop, Long}

-- as it is written on the command line
abbrev pub name_of : Kind → List ℕ
name_of Nothing = codes "none"
name_of Turn = codes "turn"
name_of Send = codes "send"
name_of Look = codes "look"
name_of Drop = codes "drop"
name_of Long = codes "long"
