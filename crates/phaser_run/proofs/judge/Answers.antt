use Rattle.std.proofs.Common.{◌≡◌, ℕ, List, Option, None, Some, Ok, IfSome}
use Rattle.judge_job.specs.Logs.{Judged, judged_log}
use Rattle.phaser_run.proofs.judge.Goals as goal

is_log : (P : Type 0) (a : Option (List ℕ)) (j : Judged) → IfSome a (λ all. (judged_log all ≡ Ok j) × P)
    → IfSome a (λ all. (k : Judged) × (judged_log all ≡ Ok k))
is_log P None j h = tt
is_log P (Some all) j h = (j, h.0)

pub returns-clause-done : goal.returns-clause-done
returns-clause-done g c = λ done.
    let log = c.judge_from.ensures.done done in
    is_log _ (g.R.Read.remaining c.args.reader.now) log.judged log.accepted
