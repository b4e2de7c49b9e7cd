use Rattle.phase_model.specs.declared.history.Event.TheVariants.{Claim}
use Rattle.phase_model.specs.Rules.{is_permitted}
use Rattle.phase_model.specs.declared.call.Call.TheVariants.{Pass as pass}
use Rattle.phaser_core.proofs.Numbers.{numbered_after, passes_none}
use Rattle.phaser_core.proofs.long_phaser.LongPhaser.pass.Goals as goal

pub invariant_of-self : goal.invariant_of-self
invariant_of-self c =
    let s = c.self.inside.engine.story in
    let t = c.args.task in
    rw c.pass.ensures.history
    (numbered_after c.self.inside.next s (pass t)
    (λ u. passes_none (is_permitted s.limits s.terms s.past (Claim t)) t u) c.self.invariant)
