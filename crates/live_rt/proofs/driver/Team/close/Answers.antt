use Rattle.std.proofs.Common.{◌≡◌, arith, ap, sym, ◌∙◌}
use Rattle.std.proofs.Math.Logic.{∥∥₁_map}
use Rattle.live_rt.proofs.About.{has_said}
use Rattle.live_rt.proofs.driver.Team.close.Goals as goal

-- its number is 0
pub invariant_of-t-27 : goal.invariant_of-t-27
invariant_of-t-27 g c =
    let left = c.into_inner-body.result in
    let number : c.number.result ≡ 0 = omega (arith, c.if-number-gt0.false) in
    let its = ap (λ t. t.standing.number) c.into_inner-body.ensures ∙ (ap (λ t. t.standing.number) (sym c.deref.ensures) ∙ (sym c.number.ensures ∙ number)) in record {
      says = ∥∥₁_map left.about (λ f p. has_said g.B.Body.shows left.body left.answer left.places left.standing 0 its (f p));
    }
