use Rattle.std.proofs.Common.{◌≡◌, Some}
use Rattle.job_script.specs.declared.act.Answer.TheVariants.{Started}
use Rattle.live_rt.specs.inner.Says.{IsUnborn}
use Rattle.live_rt.proofs.Seen.{of_both}
use Rattle.live_rt.proofs.driver.Team.step.Goals as goal

-- it bears what its act has spawned, if it has
pub invariant_of-item-2 : goal.invariant_of-item-2
invariant_of-item-2 g c =
    let new = c.step.new.task in
    let is = of_both (λ x. x.value.answer ≡ Some Started) (λ x. IsUnborn g.B.Body.shows x.value.body x.value.standing.number x.value.places new.places)
    g.J.Supposing.supposed c.in_ok-item.field-0 c.in_ok-item.ensures.bears in record {
      newborn = is.0;
      says = is.1;
    }
