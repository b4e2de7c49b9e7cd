use Rattle.std.proofs.Common.{◌≡◌, Some, true, rules, sym, ap, ◌∙◌}
use Rattle.phaser_c.specs.declared.waiting.Waiting.{Waiting}
use Rattle.phaser_c.specs.Waiting.{waiter, is_wide, IsAsked}
use Rattle.phaser_c.proofs.GoneOn.{gone_on_at}
use Rattle.phaser_c.proofs.waiting_calls.ask.Goals as goal

-- src/waiting_calls.rt
pub returns-clause-made : goal.returns-clause-made
returns-clause-made c =
    let wide : is_wide c.args.freed.now ≡ true = search rules in
    gone_on_at (IsAsked (waiter c.args.task c.args.asking)) c.args.phaser.now.state c.put.new.self.state
    c.args.freed.now c.ask-answer.new.room c.args.count.now c.ask-answer.new.count (is_wide c.args.freed.now)
    c.deref_mut.result.now c.ask-answer.new.self wide
    (c.in-Some.ensures.taken ∙ ap (λ (w : Waiting). Some w) (sym c.deref_mut.ensures.value)) c.put.ensures
    c.ask-answer.ensures.made
