use Rattle.std.proofs.Common.{rules, ◌∷◌, ◌<◌, ◌≤◌, ℕ, length, List, unwrap_or, refl, sym, ap, ◌∙◌, subst, arith}
use Rattle.atomic_table.specs.Table.{rest}
use Rattle.level_phaser.specs.declared.view.Role.TheVariants.{Stands}
use Rattle.phase_model.specs.declared.history.Event.{Event}
use Rattle.level_phaser.specs.inner.Keeping.{AreUntaken}
use Rattle.level_phaser.proofs.Keeping.{opens, length_seats, none_taken}
use Rattle.level_phaser.proofs.Keeps.{is_in}
use Rattle.level_phaser.proofs.Seats.{notes}
use Rattle.level_phaser.proofs.Stages.{lent}
use Rattle.level_phaser.proofs.keeper.Keeper.open.Goals as goal

pub store-requires : goal.store-requires
store-requires g c =
    let L = g.S.LevelState in
    let me = c.args.self.now in
    let level = c.requires.level in
    let z = c.slot_mut-value.result.now in
    let same = lent _ _ _ level.1 c.slot_mut-value.ensures.value in
    let p = level.2.0 in
    let ready = subst (λ (x : g.row.S.Denot). L.ready p x) same level.2.1 in
    let count = c.count-count.ensures.count in (
      search rules,
      search rules,
      opens L.events L.registered L.count L.width L.newest L.replies L.ready L.tasks _ _ _ z p _ (me.behind.0 c.requires.unopened)
          (ap (λ l. (0, z) ∷ rest l) level.1) ready count.0 (sym count.0 ∙ c.count-count.ensures.tasks)
          (subst (λ (x : g.row.S.Denot). 0 < L.count x) same level.3)
          (subst (λ (n : ℕ). n < 4294967296) count.0 count.1) (c.phase-self.ensures.there p ready)
          (subst (λ (n : ℕ). n ≤ 4) c.width-self.ensures.0 c.width-self.ensures.1),
    )

pub split_seat-mine-requires : goal.split_seat-mine-requires
split_seat-mine-requires g c =
    let L = g.S.LevelState in
    let level = c.requires.level in
    let z = c.slot_mut-value.result.now in
    let same = lent _ _ _ level.1 c.slot_mut-value.ensures.value in
    let shows = c.store.ensures.2 z (ap (λ l. (0, z) ∷ rest l) level.1) in
    let some = subst (λ (x : g.row.S.Denot). 0 < L.count x) same level.3 in
    let count = c.count-count.ensures.count.0 in
    let tasks = c.count-count.ensures.tasks in
    let len = length_seats (L.events z) (L.tasks z) in (
      search rules,
      search rules,
      notes L.events L.registered L.count L.width L.newest L.replies L.ready _ _ (is_in c.store.new.seat.me.0 Stands (ap (λ m. m.0.role) shows.2)
          (subst (λ (n : ℕ). 0 < n) (sym (ap (λ m. length m.0.tasks) shows.2)) (omega arith))),
    )

pub invariant_of-self-clause-behind : goal.invariant_of-self-clause-behind
invariant_of-self-clause-behind g c = (λ e. cc, (λ _. search rules), λ no. absurd (no refl))

pub invariant_of-self-clause-untaken : goal.invariant_of-self-clause-untaken
invariant_of-self-clause-untaken g c _ r is =
    let L = g.S.LevelState in
    let level = c.requires.level in
    let z = c.slot_mut-value.result.now in
    let same = lent _ _ _ level.1 c.slot_mut-value.ensures.value in
    let shows = c.store.ensures.2 z (ap (λ l. (0, z) ∷ rest l) level.1) in
    let some = subst (λ (x : g.row.S.Denot). 0 < L.count x) same level.3 in
    let count = c.count-count.ensures.count.0 in
    let tasks = c.count-count.ensures.tasks in
    let split = c.split_seat-mine.ensures in
    let mine = sym (ap (λ o. unwrap_or o c.replace.result) is) ∙ c.replace.ensures.value in
    let me = ap (λ z. z.me) mine ∙ split.2 ∙ shows.2 in
    let seen = ap (λ z. z.me.0.seen) c.replace.ensures.after ∙ ap (λ m. m.0.seen) split.4 ∙ ap (λ m. m.0.seen) shows.2 in
    let p = c.phase-self.ensures.phase shows.0 shows.1 some in
    let w = c.width-self.ensures.0 in (
      ap (λ z. z.table_id) mine ∙ split.0 ∙ c.store.ensures.0 ∙ c.args.self.now.seated,
      subst (λ (k : ℕ × (ℕ × List Event)). AreUntaken k.0 k.1.0 0 c.args.numbers.items k.1.1 r.me)
          (λ j. (sym p j, (sym w j, sym seen j)))
          (none_taken (L.events z) (L.tasks z) c.args.numbers.items shows.0 (L.width z) r.me (level.4 ∙ ap L.tasks same)
          (omega arith) (c.phase-self.ensures.apart shows.0 shows.1) me),
    )
