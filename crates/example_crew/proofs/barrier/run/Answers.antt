use Rattle.std.proofs.Common.{rules, List, [], ◌∷◌, Some, IfOk, subst}
use Rattle.phase_model.specs.declared.op.Op.{Op}
use Rattle.phase_model.specs.declared.op.Op.TheVariants.{Sum}
use Rattle.phase_model.specs.declared.terms.Terms.{Terms}
use Rattle.long_locks.specs.Crews.{AreSeen}
use Rattle.example_crew.specs.Sums.{IsSeen, AreSums}
use Rattle.example_crew.proofs.Sums.{are_sums, if_ok}
use Rattle.example_crew.proofs.barrier.run.Goals as goal

pub returns : goal.returns
returns g c =
    let t : Terms = record { ops = Sum ∷ []; bound = Some c.args.bound } in
    let shown : IfOk c.with_long_phaser.result (λ v. AreSeen (λ x _ seen. IfOk x (λ tally. IsSeen seen tally.last)) t v.items) =
    search (rules, c.with_long_phaser.ensures.shown) in
    record {
      sums = if_ok c.with_long_phaser.result
          (λ v. AreSeen (λ x _ seen. IfOk x (λ tally. IsSeen seen tally.last)) t v.items)
          (λ v. AreSums t v.items)
          (λ v seen. are_sums t v.items seen) shown;
    }
