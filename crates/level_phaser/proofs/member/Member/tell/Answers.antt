use Rattle.std.proofs.Common.{rules, ◌≡◌, ◌∷◌, ℕ, ◌<◌, length, sym, ap, ◌∙◌, subst, arith}
use Rattle.atomic_table.specs.Table.{rest}
use Rattle.level_phaser.specs.Changes.{IsKept}
use Rattle.level_phaser.specs.Views.{pending_in, fresh_in, seated_as}
use Rattle.level_phaser.specs.inner.Steps.{deeds_in}
use Rattle.level_phaser.proofs.Holding.{shows, releases}
use Rattle.level_phaser.proofs.Stages.{stood, lent, sent_from}
use Rattle.level_phaser.proofs.member.Member.tell.Goals as goal

pub fetch_sub-requires : goal.fetch_sub-requires
fetch_sub-requires g c =
    let L = g.S.LevelState in
    let me = c.args.self.now in
    let at = stood me.stage me.task me.phase me.width me.is_shown me.is_fresh me.seat.me c.requires me.stands in
    let took = c.claim.ensures.claimed c.if-not-claim.false in
    let is = took.1 in
    let y = c.send.new.self in
    let same = lent _ _ _ (ap (λ m. m.1) is) c.slot_mut-state.ensures.value in
    let phase : c.claim.new.seat.me.0.phase ≡ me.phase = ap (λ m. m.0.phase) is ∙ at.1 in (
      search rules,
      search rules,
      shows L.events L.registered L.count L.width L.newest L.replies L.ready _ _ _
          (seated_as me.task (deeds_in me.seat.me.0.tasks) (pending_in me.seat.me.0.tasks) (fresh_in me.seat.me.0.tasks)) _ took.0 y (ap (λ m. m.0.tasks) is ∙ at.0)
          (ap (λ m. m.0.role) is) (ap (λ m. (0, y) ∷ rest m.1) is)
          (sent_from L.events L.registered L.count L.width me.task took.0 c.slot_mut-state.result.now y same
          c.in-Ok.ensures.sent)
          (subst (λ (n : ℕ). L.ready n y) (sym phase) c.in-Ok.ensures.ready),
    )

pub fetch_sub-requires-in-Err : goal.fetch_sub-requires-in-Err
fetch_sub-requires-in-Err g c =
    let L = g.S.LevelState in
    let me = c.args.self.now in
    let at = stood me.stage me.task me.phase me.width me.is_shown me.is_fresh me.seat.me c.requires me.stands in
    let took = c.claim.ensures.claimed c.if-not-claim.false in
    let is = took.1 in
    let y = c.send.new.self in
    let same = lent _ _ _ (ap (λ m. m.1) is) c.slot_mut-state.ensures.value in
    let phase : c.claim.new.seat.me.0.phase ≡ me.phase = ap (λ m. m.0.phase) is ∙ at.1 in
    let tasks = ap (λ m. m.0.tasks) is ∙ at.0 in (
      search rules,
      search rules,
      releases L.events L.registered L.count L.width L.newest L.replies L.ready _ _ _ took.0 y
          (subst (λ (n : ℕ). 0 < n) (sym (ap length tasks)) (omega arith)) (ap (λ m. m.0.role) is)
          (ap (λ m. (0, y) ∷ rest m.1) is)
          (subst (λ (z : g.row.S.Denot). IsKept L.events L.registered L.count L.width z y)
          (sym same) c.in-Err.ensures.refused.0)
          (subst (λ (n : ℕ). L.ready n y) (sym phase) c.in-Err.ensures.ready),
    )
