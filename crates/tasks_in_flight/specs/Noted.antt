-- What is noted of a task: an entry in its log, and that its child is handed a phaser.
use Rattle.std.specs.Prelude.{◌≡◌, ◌==◌, true, false, [], ◌∷◌, ◌++◌, find, Result, Ok, Err}
use Rattle.std.specs.Option.{option_map_or}
use Rattle.phase_modes.specs.declared.phased.Pair.{Pair}
use Rattle.phase_modes.specs.declared.refusal.Refusal.{Refusal}
use Rattle.phase_modes.specs.declared.refusal.Refusal.TheVariants.{ActsFull}
use Rattle.task_standing.specs.Known.{Known}
use Rattle.task_standing.specs.Standing.{handed}
use Rattle.trace_model.specs.Run.{Entry}
use Rattle.trace_model.specs.TaskLog.{TaskLog, has_room}

-- if the log has room, the entry is added at its end, and nothing else changes; else it is refused by ActsFull, and
-- the log stays as it was
abbrev pub IsNoted : Entry → TaskLog → TaskLog → Result (Unit {0}) Refusal → Type 0
IsNoted entry old new (Ok done) = (has_room old ≡ true) × (new ≡ record old { entries = old.entries ++ entry ∷ [] })
IsNoted entry old new (Err refusal) = (has_room old ≡ false) × (refusal ≡ ActsFull) × (new ≡ old)

-- the child holds the phaser of the pair, in the pair's mode, as its parent hands it on; if its parent doesn't
-- hold that phaser, it stays as it is
abbrev pub joined : Pair → Known → Known → Known
joined p parent child =
    option_map_or (λ h. record child { holding = child.holding ++ handed p.mode h ∷ [] })
    (find (λ h. h.phaser == p.phaser) parent.holding) child
