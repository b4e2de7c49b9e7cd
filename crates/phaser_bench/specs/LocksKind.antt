-- The kinds of calls through a table, as the arguments name them.
use Rattle.std.specs.Prelude.{ℕ, List, codes}
use Rattle.phaser_bench.specs.declared.locks.kind.Kind.{Kind}
use Rattle.phaser_bench.specs.declared.locks.kind.Kind.TheVariants.{Nothing, Turn, Ahead, Follow, Free}

-- as it is written on the command line
abbrev pub name_of : Kind → List ℕ
name_of Nothing = codes "none"
name_of Turn = codes "turn"
name_of Ahead = codes "ahead"
name_of Follow = codes "follow"
name_of Free = codes "free"
