use Rattle.std.proofs.Common.{◌≡◌, Some, true, rules, sym, ap, ◌∙◌}
use Rattle.phase_model.specs.declared.call.Call.TheVariants.{SingleDone as single_done}
use Rattle.phaser_c.specs.declared.waiting.Waiting.{Waiting}
use Rattle.phaser_c.specs.Waiting.{is_wide, IsMade}
use Rattle.phaser_c.proofs.GoneOn.{gone_on_at}
use Rattle.phaser_c.proofs.waiting_tasks.single_done.Goals as goal

-- src/waiting_tasks.rt
pub returns-clause-made : goal.returns-clause-made
returns-clause-made c =
    let wide : is_wide c.args.freed.now ≡ true = search rules in
    gone_on_at (IsMade (single_done c.args.task)) c.args.phaser.now.state c.put.new.self.state
    c.args.freed.now c.single_done-outcome.new.room c.args.count.now c.single_done-outcome.new.count (is_wide c.args.freed.now)
    c.deref_mut.result.now c.single_done-outcome.new.self wide
    (c.in-Some.ensures.taken ∙ ap (λ (w : Waiting). Some w) (sym c.deref_mut.ensures.value)) c.put.ensures
    c.single_done-outcome.ensures.made
