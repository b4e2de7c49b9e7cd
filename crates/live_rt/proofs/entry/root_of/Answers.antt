use Rattle.std.proofs.Common.{ℕ, [], subst, sym}
use Rattle.std.proofs.Math.Logic.{∥∥₁_map}
use Rattle.live_rt.specs.inner.Says.{IsUnborn}
use Rattle.live_rt.proofs.About.{unborn_root}
use Rattle.live_rt.proofs.entry.root_of.Goals as goal

pub new-requires : goal.new-requires
new-requires g c = record {
  says = ∥∥₁_map c.requires.root (λ f p. subst (λ (n : ℕ). IsUnborn g.B.Body.shows c.args.body n [] []) (sym c.of-number.ensures)
      (unborn_root g.B.Body.shows c.args.body (f p)));
}
