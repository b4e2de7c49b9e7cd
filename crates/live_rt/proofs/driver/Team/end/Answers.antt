use Rattle.std.proofs.Common.{◌≡◌, None, true, sym, ap, ◌∙◌}
use Rattle.std.specs.Prelude.{is_some, not}
use Rattle.std.proofs.Math.Logic.{∥∥₁_map₂}
use Rattle.live_rt.proofs.driver.Team.end.Goals as goal
use Rattle.live_rt.proofs.driver.Team.end.Goals.{else-not-ends-via-then-not-ends+else-is_none, else-not-ends-via-else-not-ends}

-- a task that was refused nothing ends since its body asked for that
pub ended-requires-2 : goal.ended-requires-2
ended-requires-2 g c =
    let task = c.into_inner-body.result in
    let asked : task.refused ≡ None → task.ends ≡ true = elim c.else-not-ends.branch [
      | else-not-ends-via-then-not-ends+else-is_none w ↦ λ none. absurd (cc (ap (λ o. is_some o) (sym none) ∙ (w.is_none.ensures ∙ ap (λ b. not b) w.if-is_none.false)))
      | else-not-ends-via-else-not-ends w ↦ λ none. w.if-not-ends.false
    ] in
    record { told = λ none. ∥∥₁_map₂ c.args.self.now.tells (task.end (asked none)) (λ tells says. tells task.body says) }
