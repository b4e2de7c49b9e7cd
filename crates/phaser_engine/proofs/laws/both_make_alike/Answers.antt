-- A phaser that is made asks nothing of its operators.
use Rattle.phase_model.specs.Rules.{no_terms}
use Rattle.std.proofs.Common.{refl, ap, sym, ◌∙◌}
use Rattle.phase_model.specs.Replies.{Reply, after}
use Rattle.phase_model.specs.Answers.{made_with}
use Rattle.phaser_engine.specs.Making.{unmade}
use Rattle.phaser_engine.proofs.laws.both_make_alike.Goals as goal

pub returns : goal.returns
returns c l terms t m = (
  refl,
  λ e is. ap (λ (r : Reply). after (unmade l terms) r) is
      ∙ sym (ap (λ (r : Reply). made_with (unmade l no_terms) terms r) is),
)
