use Rattle.std.proofs.Common.{rules, ◌≡◌, ◌∷◌, ℕ, ◌<◌, length, sym, ap, ◌∙◌, subst, arith}
use Rattle.atomic_table.specs.Table.{rest}
use Rattle.phase_model.specs.Answers.{look_result}
use Rattle.phase_model.specs.declared.call.Call.TheVariants.{Look as look}
use Rattle.level_phaser.specs.Changes.{IsKept}
use Rattle.level_phaser.proofs.Holding.{releases}
use Rattle.level_phaser.proofs.Stages.{stood, lent}
use Rattle.level_phaser.proofs.member.Member.ask.Goals as goal

pub fetch_sub-requires : goal.fetch_sub-requires
fetch_sub-requires g c =
    let L = g.S.LevelState in
    let me = c.args.self.now in
    let at = stood me.stage me.task me.phase me.width me.is_shown me.is_fresh me.seat.me c.requires me.stands in
    let took = c.claim.ensures.claimed c.if-not-claim.false in
    let is = took.1 in
    let y = c.look-seen.new.self in
    let same = lent _ _ _ (ap (λ m. m.1) is) c.slot_mut-state.ensures.value in
    let phase : c.claim.new.seat.me.0.phase ≡ me.phase = ap (λ m. m.0.phase) is ∙ at.1 in
    let tasks = ap (λ m. m.0.tasks) is ∙ at.0 in (
      search rules,
      search rules,
      releases L.events L.registered L.count L.width L.newest L.replies L.ready _ _ _ took.0 y
          (subst (λ (n : ℕ). 0 < n) (sym (ap length tasks)) (omega arith)) (ap (λ m. m.0.role) is)
          (ap (λ m. (0, y) ∷ rest m.1) is)
          (subst (λ (z : g.row.S.Denot). IsKept L.events L.registered L.count L.width z y)
          (sym same) c.look-seen.ensures.kept)
          (subst (λ (n : ℕ). L.ready n y) (sym phase) c.look-seen.ensures.ready),
    )

pub returns-clause-seen : goal.returns-clause-seen
returns-clause-seen g c =
    let L = g.S.LevelState in
    let took = c.claim.ensures.claimed c.if-not-claim.false in
    let same = lent _ _ _ (ap (λ m. m.1) took.1) c.slot_mut-state.ensures.value in (
      took.0,
      took.4,
      c.look-seen.ensures.seen
          ∙ ap
          (λ (z : g.row.S.Denot). look_result (L.replies z (look c.args.self.now.task c.args.accumulator)))
          (sym same),
    )
