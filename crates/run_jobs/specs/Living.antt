-- What is printed of a run without a store.
use Rattle.std.specs.Prelude.{◌++◌, ℕ, List, codes, decimal}
use Rattle.world_model.specs.ReportLines.{totals_row}
use Rattle.live_rt.specs.declared.ended.Counts.{Counts}
use Rattle.live_rt.specs.Gone.{AreAllGone}
use Rattle.run_jobs.specs.Worked.{Spells}

-- how many tasks, phasers and finishes there were, and the totals
abbrev pub live_text : Counts → List ℕ
live_text c =
    (codes "tasks " ++ decimal c.tasks ++ codes " ended " ++ decimal c.ended ++ codes " refused " ++ decimal c.refused
    ++ codes "\n")
    ++ (codes "phasers " ++ decimal c.phasers ++ codes "\nfinishes " ++ decimal c.finishes ++ codes "\n")
    ++ totals_row c.totals

-- the bytes spell a program, and this is known of what is counted of a run that left nobody
abbrev pub RunsLive : List ℕ → (Counts → Type 0) → Type 0
RunsLive bytes P = Spells bytes × ((c : Counts) × AreAllGone c × P c)
