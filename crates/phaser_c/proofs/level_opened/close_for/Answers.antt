use Rattle.std.proofs.Common.{Some, inl, inr, refl, sym, ap, ◌∙◌, subst}
use Rattle.phaser_c.specs.declared.answer.ExportAnswer.TheVariants.{Done, NotYet}
use Rattle.phaser_c.specs.declared.level_keeper.LevelKeeper.{LevelKeeper}
use Rattle.phaser_c.specs.LevelOpened.{IsBack}
use Rattle.phaser_c.proofs.LevelOpened.{closed_for, none_by}
use Rattle.phaser_c.proofs.level_opened.close_for.Goals as goal

pub returns-then-not-close : goal.returns-then-not-close
returns-then-not-close c =
    let kept = c.if-not-close.ensures in
    closed_for c.args.level.now.state c.put.new.self.state c.args.phaser.now.state c.holds_phaser.new.phaser.state
    c.deref_mut.result.now NotYet (sym c.if-holds_phaser.ensures.one)
    (c.in-Some.ensures.taken ∙ ap (λ (k : LevelKeeper). Some k) (sym c.deref_mut.ensures.value))
    (inr (
      _,
      refl,
      c.put.ensures,
      c.holds_phaser.ensures.kept ∙ none_by c.args.phaser.now.state (sym c.if-holds_phaser.ensures.one),
      kept.0,
      kept.1,
    ))

pub returns : goal.returns
returns c =
    closed_for c.args.level.now.state c.take.new.self.state c.args.phaser.now.state c.put-2.new.self.state
    c.deref_mut.result.now Done (sym c.if-holds_phaser.ensures.one)
    (c.in-Some.ensures.taken ∙ ap (λ (k : LevelKeeper). Some k) (sym c.deref_mut.ensures.value))
    (inl (
      _,
      refl,
      c.take.ensures.closed,
      c.put-2.ensures,
      subst (λ (z : LevelKeeper). IsBack c.deref_mut.result.now z.waiting.value) (sym c.into_inner-waiting.ensures)
          c.if-not-close.ensures,
    ))
