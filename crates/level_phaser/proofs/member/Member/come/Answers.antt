use Rattle.std.proofs.Common.{rules, arith, ℕ, ◌+◌, ◌<◌, List, length, inr, refl, sym, ap, ◌∙◌, subst}
use Rattle.told_history.specs.Tails.{IsTail}
use Rattle.phase_model.specs.declared.history.Event.{Event}
use Rattle.level_phaser.specs.declared.view.SeatedTask.{SeatedTask}
use Rattle.level_phaser.specs.Deeds.{kept_in}
use Rattle.level_phaser.specs.Seen.{AreSeated}
use Rattle.level_phaser.specs.Views.{role_after, gone_on, showing, signalled}
use Rattle.level_phaser.proofs.Coming.{comes, raises}
use Rattle.level_phaser.proofs.Stages.{stood}
use Rattle.level_phaser.proofs.member.Member.come.Goals as goal

pub fetch_sub-requires : goal.fetch_sub-requires
fetch_sub-requires g c =
    let L = g.S.LevelState in
    let me = c.args.self.now in
    let at = stood me.stage me.task me.phase me.width me.is_shown me.is_fresh me.seat.me c.requires.0 me.stands in
    let shown = c.show-self.ensures.shows in (
      search rules,
      search rules,
      comes L.events L.registered L.count L.width L.newest L.replies L.ready _ _ _
          (ap (λ m. length m.0.tasks) shown ∙ ap (λ cs. length (showing (kept_in me.task me.kept) cs)) at.0)
          (ap (λ m. m.0.role) shown ∙ at.2) (ap (λ m. m.1) shown),
    )

pub end_round-requires-clause-last : goal.end_round-requires-clause-last
end_round-requires-clause-last g c =
    let L = g.S.LevelState in
    let me = c.args.self.now in
    let at = stood me.stage me.task me.phase me.width me.is_shown me.is_fresh me.seat.me c.requires.0 me.stands in
    let shown = c.show-self.ensures.shows in
    let took = c.fetch_sub.ensures.2.0 c.if-fetch_sub-ne1.false in
    let is = took.1 in
    let phase = ap (λ m. m.0.phase) shown ∙ at.1 in (
      took.0,
      ap (λ m. m.0.role) is,
      ap (λ m. m.1) is,
      ap (λ m. m.0.phase) is ∙ phase,
      subst (λ (n : ℕ). L.ready n took.0.0) phase took.2,
      subst (λ (h : List Event). IsTail h (L.events took.0.0)) (sym (ap (λ m. m.0.seen) is)) took.3,
      took.4,
    )

pub store-requires : goal.store-requires
store-requires g c =
    let L = g.S.LevelState in
    let me = c.args.self.now in
    let at = stood me.stage me.task me.phase me.width me.is_shown me.is_fresh me.seat.me c.requires.0 me.stands in
    let shown = c.show-self.ensures.shows in
    let is = (c.fetch_sub.ensures.2.0 c.if-fetch_sub-ne1.false).1 in
    let gone = (c.end_round.ensures.ended c.if-not-end_round.false).0 in
    let tasks = ap (λ m. m.0.tasks) is ∙ ap (λ m. m.0.tasks) shown
    ∙ ap (λ cs. showing (kept_in me.task me.kept) cs) at.0 in (
      search rules,
      search rules,
      raises L.events L.registered L.count L.width L.newest L.replies L.ready _ _ _ _ (ap (λ v. v.role) gone.1
          ∙ ap (λ cs. role_after cs) tasks)
          (subst (λ (n : ℕ). 0 < n) (sym (ap length (ap (λ v. v.tasks) gone.1 ∙ ap signalled tasks))) (omega arith))
          (sym (ap (λ v. v.phase) gone.1 ∙ ap (λ (n : ℕ). n + 1) (ap (λ m. m.0.phase) is
          ∙ ap (λ m. m.0.phase) shown ∙ at.1))),
    )

pub returns-clause-outcome : goal.returns-clause-outcome
returns-clause-outcome g c =
    let L = g.S.LevelState in
    let shown = c.show-self.ensures.shows in
    let is = (c.fetch_sub.ensures.2.0 c.if-fetch_sub-ne1.false).1 in
    let gone = (c.end_round.ensures.ended c.if-not-end_round.false).0 in
    let y = gone.0 in
    let raised = c.store.ensures.2 in
    let phase = ap (λ m. m.0.phase) is ∙ ap (λ m. m.0.phase) shown in (
      c.requires.0,
      (
        y,
        ap (λ m. m.0) raised ∙ gone.1 ∙ ap (λ m. gone_on m.0 (L.events y)) is
            ∙ ap (λ m. gone_on m.0 (L.events y)) shown,
        subst (λ (h : List Event). IsTail h (L.events y)) (ap (λ m. m.0.seen) is ∙ ap (λ m. m.0.seen) shown) gone.2,
        subst (λ (n : ℕ). L.ready (n + 1) y) phase gone.3,
        subst (λ (cs : List SeatedTask). AreSeated L.events L.registered L.ready cs y)
            (sym (ap (λ m. m.0.tasks) raised)) gone.4,
      ),
    )

pub returns-then-not-end_round-clause-outcome : goal.returns-then-not-end_round-clause-outcome
returns-then-not-end_round-clause-outcome g c =
    let L = g.S.LevelState in
    let shown = c.show-self.ensures.shows in
    let is = (c.fetch_sub.ensures.2.0 c.if-fetch_sub-ne1.false).1 in
    let full = (c.end_round.ensures.full c.if-not-end_round.true).0 in
    inr (
      refl,
      (
        full.0,
        subst (λ (h : List Event). IsTail h (L.events full.0)) (ap (λ m. m.0.seen) is ∙ ap (λ m. m.0.seen) shown)
            full.1,
        full.2,
      ),
    )
