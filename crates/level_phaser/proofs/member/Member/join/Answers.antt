use Rattle.std.proofs.Common.{rules, ◌≡◌, ◌∷◌, [], ℕ, ◌<◌, false, List, length, sym, ap, ◌∙◌, subst, arith}
use Rattle.atomic_table.specs.Table.{rest}
use Rattle.level_phaser.specs.declared.view.SeatedTask.{SeatedTask}
use Rattle.level_phaser.specs.Changes.{IsJoined, IsKept}
use Rattle.level_phaser.specs.Deeds.{deeds}
use Rattle.level_phaser.specs.Seen.{AreSeated}
use Rattle.level_phaser.specs.Views.{pending_in, fresh_in, seated_as, seated}
use Rattle.level_phaser.specs.inner.Steps.{deeds_in}
use Rattle.level_phaser.proofs.Holding.{releases, joins}
use Rattle.level_phaser.proofs.Seats.{splits}
use Rattle.level_phaser.proofs.Stages.{stood, lent, others_number}
use Rattle.level_phaser.proofs.member.Member.join.Goals as goal

pub fetch_sub-requires : goal.fetch_sub-requires
fetch_sub-requires g c =
    let L = g.S.LevelState in
    let me = c.args.self.now in
    let at = stood me.stage me.task me.phase me.width me.is_shown me.is_fresh me.seat.me c.requires me.stands in
    let took = c.claim.ensures.claimed c.if-not-claim.false in
    let is = took.1 in
    let y = c.join.new.self in
    let same = lent _ _ _ (ap (λ m. m.1) is) c.slot_mut.ensures.value in
    let phase : c.claim.new.seat.me.0.phase ≡ me.phase = ap (λ m. m.0.phase) is ∙ at.1 in
    let tasks = ap (λ m. m.0.tasks) is ∙ at.0 in
    let kept = c.in_default.ensures.none in (
      search rules,
      search rules,
      releases L.events L.registered L.count L.width L.newest L.replies L.ready _ _ _ took.0 y
          (subst (λ (n : ℕ). 0 < n) (sym (ap length tasks)) (omega arith)) (ap (λ m. m.0.role) is)
          (ap (λ m. (0, y) ∷ rest m.1) is)
          (subst (λ (z : g.row.S.Denot). IsKept L.events L.registered L.count L.width z y) (sym same) kept.0)
          (subst (λ (n : ℕ). L.ready n y) (sym phase) kept.1),
    )

pub fetch_sub-requires-2 : goal.fetch_sub-requires-2
fetch_sub-requires-2 g c =
    let L = g.S.LevelState in
    let me = c.args.self.now in
    let at = stood me.stage me.task me.phase me.width me.is_shown me.is_fresh me.seat.me c.requires me.stands in
    let took = c.claim.ensures.claimed c.if-not-claim.false in
    let is = took.1 in
    let y = c.join.new.self in
    let same = lent _ _ _ (ap (λ m. m.1) is) c.slot_mut.ensures.value in
    let phase : c.claim.new.seat.me.0.phase ≡ me.phase = ap (λ m. m.0.phase) is ∙ at.1 in
    let tasks = ap (λ m. m.0.tasks) is ∙ at.0 in
    let new = c.in-Some.ensures.joined in (
      search rules,
      search rules,
      joins L.events L.registered L.count L.width L.newest L.replies L.ready _ _ _ took.0 y
          (subst (λ (n : ℕ). 0 < n) (sym (ap length tasks)) (omega arith)) (ap (λ m. m.0.role) is)
          (ap (λ m. (0, y) ∷ rest m.1) is)
          (subst (λ (z : ℕ × (ℕ × g.row.S.Denot)). IsJoined L.events L.registered L.count L.width z.0 z.1.0 z.1.1 y)
          (λ k. (sym new.1 k, (sym phase k, sym same k))) new.0)
          new.2
          (subst (λ (n : ℕ). L.ready n y) (sym phase) c.in-Some.ensures.ready),
    )

pub split_seat-seat-requires : goal.split_seat-seat-requires
split_seat-seat-requires g c =
    let L = g.S.LevelState in
    let me = c.args.self.now in
    let at = stood me.stage me.task me.phase me.width me.is_shown me.is_fresh me.seat.me c.requires me.stands in
    let took = c.claim.ensures.claimed c.if-not-claim.false in
    let is = took.1 in
    let y = c.join.new.self in
    let same = lent _ _ _ (ap (λ m. m.1) is) c.slot_mut.ensures.value in
    let new = c.in-Some.ensures.joined in
    let shows = c.fetch_sub-2.ensures.2 y (ap (λ m. (0, y) ∷ rest m.1) is) in
    let did = shows.1 in
    let child = seated (L.newest y) (deeds c.claim.new.seat.me.0.phase []) shows.0 in
    let tasks = ap (λ m. m.0.tasks) did ∙ ap (λ cs. child ∷ cs) (ap (λ m. m.0.tasks) is ∙ at.0) in
    let there = subst (λ (cs : List SeatedTask). AreSeated L.events L.registered L.ready cs took.0) at.0
    took.3 in
    let fresh = subst (λ (z : ℕ × g.row.S.Denot). L.registered z.0 z.1 ≡ false)
    (λ k. (sym new.1 k, sym same k)) new.0.2 in (
      search rules,
      search rules,
      splits L.events L.registered L.count L.width L.newest L.replies L.ready _ _ child
          (seated_as me.task (deeds_in me.seat.me.0.tasks) (pending_in me.seat.me.0.tasks) (fresh_in me.seat.me.0.tasks)) (ap (λ m. m.0.role) did) tasks
          (others_number L.registered took.0 (L.newest y) me.task fresh there.0),
    )
