use Rattle.std.proofs.Common.{rules, ◌≡◌, ◌∷◌, ℕ, ◌+◌, ◌<◌, List, length, inl, inr, refl, sym, ap, ◌∙◌, subst, arith}
use Rattle.told_history.specs.Tails.{IsTail}
use Rattle.atomic_table.specs.Table.{rest}
use Rattle.phase_model.specs.declared.history.Event.{Event}
use Rattle.level_phaser.specs.Changes.{IsLeft, IsKept}
use Rattle.level_phaser.specs.Views.{pending_in, fresh_in, seated_as, signalled, role_after}
use Rattle.level_phaser.specs.inner.Steps.{deeds_in}
use Rattle.level_phaser.proofs.Coming.{raises_late}
use Rattle.level_phaser.proofs.Holding.{releases, leaves}
use Rattle.level_phaser.proofs.Keeps.{tail_on, tail_same}
use Rattle.level_phaser.proofs.Stages.{stood, lent}
use Rattle.level_phaser.proofs.member.Member.leave_now.Goals as goal

pub fetch_sub-requires : goal.fetch_sub-requires
fetch_sub-requires g c =
    let L = g.S.LevelState in
    let me = c.args.self.now in
    let at = stood me.stage me.task me.phase me.width me.is_shown me.is_fresh me.seat.me c.requires.0 me.stands in
    let took = c.claim.ensures.claimed c.if-not-claim.false in
    let is = took.1 in
    let y = c.leave.new.self in
    let same = lent _ _ _ (ap (λ m. m.1) is) c.slot_mut.ensures.value in
    let phase : c.claim.new.seat.me.0.phase ≡ me.phase = ap (λ m. m.0.phase) is ∙ at.1 in
    let tasks = ap (λ m. m.0.tasks) is ∙ at.0 in (
      search rules,
      search rules,
      releases L.events L.registered L.count L.width L.newest L.replies L.ready _ _ _ took.0 y
          (subst (λ (n : ℕ). 0 < n) (sym (ap length tasks)) (omega arith)) (ap (λ m. m.0.role) is)
          (ap (λ m. (0, y) ∷ rest m.1) is)
          (subst (λ (z : g.row.S.Denot). IsKept L.events L.registered L.count L.width z y) (sym same)
          (c.leave.ensures.kept c.if-not-leave.true))
          (subst (λ (n : ℕ). L.ready n y) (sym phase) c.leave.ensures.ready),
    )

pub fetch_sub-requires-2 : goal.fetch_sub-requires-2
fetch_sub-requires-2 g c =
    let L = g.S.LevelState in
    let me = c.args.self.now in
    let at = stood me.stage me.task me.phase me.width me.is_shown me.is_fresh me.seat.me c.requires.0 me.stands in
    let took = c.claim.ensures.claimed c.if-not-claim.false in
    let is = took.1 in
    let y = c.leave.new.self in
    let same = lent _ _ _ (ap (λ m. m.1) is) c.slot_mut.ensures.value in
    let phase : c.claim.new.seat.me.0.phase ≡ me.phase = ap (λ m. m.0.phase) is ∙ at.1 in (
      search rules,
      search rules,
      leaves L.events L.registered L.count L.width L.newest L.replies L.ready _ _ _
          (seated_as me.task (deeds_in me.seat.me.0.tasks) (pending_in me.seat.me.0.tasks) (fresh_in me.seat.me.0.tasks)) took.0 y (ap (λ m. m.0.tasks) is ∙ at.0)
          (ap (λ m. m.0.role) is) (ap (λ m. (0, y) ∷ rest m.1) is)
          (subst (λ (z : g.row.S.Denot). IsLeft L.events L.registered L.count L.width me.task z y) (sym same)
          (c.leave.ensures.left c.if-not-leave.false))
          (subst (λ (n : ℕ). L.ready n y) (sym phase) c.leave.ensures.ready),
    )

pub end_round-requires-clause-last : goal.end_round-requires-clause-last
end_round-requires-clause-last g c =
    let L = g.S.LevelState in
    let me = c.args.self.now in
    let at = stood me.stage me.task me.phase me.width me.is_shown me.is_fresh me.seat.me c.requires.0 me.stands in
    let is = (c.claim.ensures.claimed c.if-not-claim.false).1 in
    let y = c.leave.new.self in
    let found = (c.fetch_sub-2.ensures.2 y (ap (λ m. (0, y) ∷ rest m.1) is)).0 c.if-fetch_sub.false in
    let last = found.1 in (
      (y, found.0),
      ap (λ m. m.0.role) last,
      ap (λ m. m.1) last,
      ap (λ m. m.0.phase) last ∙ ap (λ m. m.0.phase) is ∙ at.1,
      c.leave.ensures.ready,
      subst (λ (h : List Event). IsTail h (L.events y)) (sym (ap (λ m. m.0.seen) last))
          (tail_same (L.events y)),
      found.2,
    )

pub fetch_max-requires : goal.fetch_max-requires
fetch_max-requires g c =
    let L = g.S.LevelState in
    let me = c.args.self.now in
    let at = stood me.stage me.task me.phase me.width me.is_shown me.is_fresh me.seat.me c.requires.0 me.stands in
    let is = (c.claim.ensures.claimed c.if-not-claim.false).1 in
    let y = c.leave.new.self in
    let found = (c.fetch_sub-2.ensures.2 y (ap (λ m. (0, y) ∷ rest m.1) is)).0 c.if-fetch_sub.false in
    let last = found.1 in
    let gone = (c.end_round.ensures.ended c.if-not-end_round.false).0 in (
      search rules,
      search rules,
      raises_late L.events L.registered L.count L.width L.newest L.replies L.ready _ _ _ _ (ap (λ v. v.role) gone.1
          ∙ ap (λ cs. role_after cs) (ap (λ m. m.0.tasks) last))
          (sym (ap (λ v. v.phase) gone.1 ∙ ap (λ (n : ℕ). n + 1) (ap (λ m. m.0.phase) last
          ∙ ap (λ m. m.0.phase) is ∙ at.1))),
    )

-- others are missing
pub returns-then-fetch_sub-clause-outcome : goal.returns-then-fetch_sub-clause-outcome
returns-then-fetch_sub-clause-outcome g c =
    let L = g.S.LevelState in
    let me = c.args.self.now in
    let took = c.claim.ensures.claimed c.if-not-claim.false in
    let y = c.leave.new.self in
    let same = lent _ _ _ (ap (λ m. m.1) took.1) c.slot_mut.ensures.value in
    let left = c.leave.ensures.left c.if-not-leave.false in
    let last = (c.fetch_sub-2.ensures.2 y (ap (λ m. (0, y) ∷ rest m.1) took.1)).1 c.if-fetch_sub.true in (
      (
        ap (λ m. m.0.tasks) last,
        y,
        tail_on me.seat.me.0.seen (L.events took.0) (L.events y) took.4
            (subst (λ (z : g.row.S.Denot). IsTail (L.events z) (L.events y)) (sym same) left.0),
        left.2,
        subst (λ (h : List Event). IsTail (L.events y) h) (sym (ap (λ m. m.0.seen) last))
            (tail_same (L.events y)),
      ),
      inl refl,
    )

-- it was the last
pub returns-clause-outcome : goal.returns-clause-outcome
returns-clause-outcome g c =
    let L = g.S.LevelState in
    let me = c.args.self.now in
    let took = c.claim.ensures.claimed c.if-not-claim.false in
    let y = c.leave.new.self in
    let same = lent _ _ _ (ap (λ m. m.1) took.1) c.slot_mut.ensures.value in
    let left = c.leave.ensures.left c.if-not-leave.false in
    let found = (c.fetch_sub-2.ensures.2 y (ap (λ m. (0, y) ∷ rest m.1) took.1)).0 c.if-fetch_sub.false in
    let last = found.1 in
    let gone = (c.end_round.ensures.ended c.if-not-end_round.false).0 in
    let now = ap (λ m. m.0) c.fetch_max.ensures.2 ∙ gone.1 in (
      (
        ap (λ v. v.tasks) now ∙ ap signalled (ap (λ m. m.0.tasks) last),
        y,
        tail_on me.seat.me.0.seen (L.events took.0) (L.events y) took.4
            (subst (λ (z : g.row.S.Denot). IsTail (L.events z) (L.events y)) (sym same) left.0),
        left.2,
        subst (λ (h : List Event). IsTail (L.events y) h) (sym (ap (λ v. v.seen) now))
            (subst (λ (h : List Event). IsTail h (L.events gone.0)) (ap (λ m. m.0.seen) last) gone.2),
      ),
      inl refl,
    )

-- it was the last, and there is no room
pub returns-then-not-end_round-clause-outcome : goal.returns-then-not-end_round-clause-outcome
returns-then-not-end_round-clause-outcome g c =
    let L = g.S.LevelState in
    let me = c.args.self.now in
    let took = c.claim.ensures.claimed c.if-not-claim.false in
    let y = c.leave.new.self in
    let same = lent _ _ _ (ap (λ m. m.1) took.1) c.slot_mut.ensures.value in
    let left = c.leave.ensures.left c.if-not-leave.false in
    let found = (c.fetch_sub-2.ensures.2 y (ap (λ m. (0, y) ∷ rest m.1) took.1)).0 c.if-fetch_sub.false in
    let last = found.1 in
    let full = c.end_round.ensures.full c.if-not-end_round.true in
    let so_far = tail_on me.seat.me.0.seen (L.events took.0) (L.events y) took.4
    (subst (λ (z : g.row.S.Denot). IsTail (L.events z) (L.events y)) (sym same) left.0) in (
      (
        ap (λ v. v.tasks) full.1 ∙ ap (λ m. m.0.tasks) last,
        y,
        so_far,
        left.2,
        subst (λ (h : List Event). IsTail (L.events y) h)
            (sym (ap (λ v. v.seen) full.1 ∙ ap (λ m. m.0.seen) last)) (tail_same (L.events y)),
      ),
      inr (
        refl,
        (
          full.0.0,
          tail_on me.seat.me.0.seen (L.events y) (L.events full.0.0) so_far
              (subst (λ (h : List Event). IsTail h (L.events full.0.0)) (ap (λ m. m.0.seen) last) full.0.1),
          full.0.2,
        ),
      ),
    )
