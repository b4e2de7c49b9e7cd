use Rattle.std.proofs.Common.{rules, ◌≡◌, ◌≢◌, ◌∷◌, [], true, Bool, refl, sym, ◌∙◌, subst, arith}
use Rattle.level_phaser.specs.Views.{pending_in, seated_as}
use Rattle.level_phaser.specs.inner.Steps.{deeds_in}
use Rattle.level_phaser.proofs.Foldings.{fetches}
use Rattle.level_phaser.proofs.Stages.{stood, inside, if_some}
use Rattle.level_phaser.specs.declared.stage.Stage.{Stage}
use Rattle.level_phaser.specs.declared.stage.Stage.TheVariants.{Stuck}
use Rattle.level_phaser.proofs.member.Member.read.Goals as goal

pub load-word-requires : goal.load-word-requires
load-word-requires g c =
    let L = g.S.LevelState in
    let me = c.args.self.now in (
      search rules,
      search rules,
      fetches L.events L.registered L.count L.width L.newest L.replies L.ready _ _ c.args.accumulator _
          (inside me.stage me.task me.phase me.width me.is_shown me.is_fresh me.seat.me
          (subst (λ (z : Stage). z ≢ Stuck) (sym c.requires) (λ e. cc)) me.stands),
    )

pub returns-clause-seen : goal.returns-clause-seen
returns-clause-seen g c = if_some c.fold_of.result (λ l is.
    let me = c.args.self.now in
    let at = stood me.stage me.task me.phase me.width me.is_shown me.is_fresh me.seat.me c.requires me.stands in
    let wide = at.4 in
    let tasks : me.seat.me.0.tasks ≡ seated_as me.task (deeds_in me.seat.me.0.tasks) (pending_in me.seat.me.0.tasks) true ∷ [] =
    subst (λ (b : Bool). me.seat.me.0.tasks ≡ seated_as me.task (deeds_in me.seat.me.0.tasks) (pending_in me.seat.me.0.tasks) b ∷ [])
    (at.7 c.if-not-self.false) at.0 in
    c.load-word.ensures.2.1 c.args.accumulator me.task _ _ l refl (omega arith) at.2 tasks (sym c.fold_of.ensures ∙ is))
