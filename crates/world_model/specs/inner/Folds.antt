-- The lines of a phaser's folds, with one event more.
use Rattle.std.specs.Prelude.{ℕ, ℤ, ◌≡◌, ◌+◌, ◌*◌, ◌<◌, ◌++◌, nat_lt, if◌then◌else◌, List, [], length, get_or, set, Option, Some, None, pos, negsuc, ◌+ℤ◌, ◌≤ℤ◌, ⊤}
use Rattle.std.specs.Int.{int_min, int_max}
use Rattle.phase_model.specs.declared.history.Event.{Event}
use Rattle.phase_model.specs.declared.history.Event.TheVariants.{Send}
use Rattle.phase_model.specs.declared.op.Op.{Op}
use Rattle.phase_model.specs.declared.op.Op.TheVariants.{Sum, Least, Greatest}
use Rattle.phase_model.specs.declared.op.Look.{Look}
use Rattle.phase_model.specs.declared.op.Look.TheVariants.{Value, Nothing}
use Rattle.phase_model.specs.Values.{chosen_with}
use Rattle.world_model.specs.declared.report.FoldLine.{FoldLine}
use Rattle.world_model.specs.Report.{folds_from}

-- the operators, how many phases there are, and a line for each phase and accumulator
pub record FoldState : Type 0 where
  pub ops : List Op
  pub phases : ℕ
  pub lines : List FoldLine

-- what stands past the last line
abbrev pub blank_line : FoldLine
blank_line = record { phase = 0; acc = 0; value = Nothing }

-- a sum with one value more
abbrev pub sum_with : ℤ → Look ℤ → Look ℤ
sum_with v Nothing = Value v
sum_with v (Value w) = Value (w +ℤ v)

-- what there is to see with one value more
abbrev pub fold_with : Op → ℤ → Look ℤ → Look ℤ
fold_with Sum v l = sum_with v l
fold_with Least v l = chosen_with int_min v l
fold_with Greatest v l = chosen_with int_max v l

-- a sum has room for one value more: those of 65,536 values of 32 bits are below 10 ^ 15
abbrev pub HasRoom : Op → Look ℤ → Type 0
HasRoom Sum (Value v) = (negsuc 1000000000000000 ≤ℤ v) × (v ≤ℤ pos 1000000000000000)
HasRoom _ _ = ⊤

-- where the line of a phase and an accumulator stands
abbrev pub place_of : FoldState → ℕ → ℕ → ℕ
place_of k p a = p * length k.ops + a

-- the next phase is there, if p wasn't
abbrev pub reached : ℕ → FoldState → FoldState
reached p k =
    if nat_lt p k.phases then k
    else record k { phases = k.phases + 1; lines = k.lines ++ folds_from k.phases 0 k.ops [] }

-- a value was sent
abbrev pub value_sent : ℕ → ℕ → ℤ → FoldState → FoldState
value_sent p a v k =
    let line = get_or k.lines (place_of k p a) blank_line in
    record k {
      lines = set k.lines (place_of k p a)
          (record line { value = fold_with (get_or k.ops a Sum) v line.value });
    }

abbrev pub value_noted : Event → ℕ → FoldState → FoldState
value_noted (Send t a v) p k = value_sent p a v k
value_noted _ p k = k

-- one event more, of this phase
abbrev pub folds_noted : Event → Option ℕ → FoldState → FoldState
folds_noted e None k = k
folds_noted e (Some p) k = value_noted e p (reached p k)

-- a value goes to an accumulator that there is, and its sum has room for it
pub record HasPlace (k : FoldState) (p a : ℕ) : Type 0 where
  pub accumulator : a < length k.ops
  pub place : place_of k p a < length k.lines
  pub room : HasRoom (get_or k.ops a Sum) (get_or k.lines (place_of k p a) blank_line).value

abbrev pub IsPlaced : Event → ℕ → FoldState → Type 0
IsPlaced (Send t a v) p k = HasPlace (reached p k) p a
IsPlaced _ p k = ⊤

-- an event can be taken in
pub record IsNotable (k : FoldState) (e : Event) (phase : Option ℕ) : Type 0 where
  pub few : k.phases < 65536
  pub placed : (p : ℕ) → phase ≡ Some p → (p < 65536) × IsPlaced e p k
