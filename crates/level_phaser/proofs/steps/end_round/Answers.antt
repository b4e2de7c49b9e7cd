use Rattle.std.proofs.Common.{rules, ◌≡◌, ◌≤◌, ◌∷◌, ℕ, ◌+◌, List, length, refl, sym, ap, ◌∙◌, subst, arith}
use Rattle.told_history.specs.Tails.{IsTail}
use Rattle.atomic_table.specs.Table.{rest}
use Rattle.phase_model.specs.declared.history.Event.{Event}
use Rattle.level_phaser.specs.declared.view.SeatView.{SeatView}
use Rattle.level_phaser.specs.Changes.{IsKept}
use Rattle.level_phaser.specs.Seen.{GoneOn}
use Rattle.level_phaser.specs.inner.Folds.{AreFolds}
use Rattle.level_phaser.specs.inner.Tellings.{SoFar}
use Rattle.level_phaser.proofs.Coming.{ends}
use Rattle.level_phaser.proofs.Foldings.{kept_same, gone_on_role}
use Rattle.level_phaser.proofs.Keeps.{tail_on}
use Rattle.level_phaser.proofs.Stages.{lent}
use Rattle.level_phaser.proofs.Tellings.{all_told}
use Rattle.level_phaser.proofs.steps.end_round.Goals as goal

pub slot_mut-value-requires : goal.slot_mut-value-requires
slot_mut-value-requires g c =
    let t = (c.tell_all.ensures.told c.if-not-tell_all.false).1 in
    (c.tell_all.ensures.same.0 ∙ c.requires.table.0, (t.now, t.has ∙ ap (λ l. (0, t.now) ∷ rest l) (sym t.has)))

pub make_round-requires-clause-ready : goal.make_round-requires-clause-ready
make_round-requires-clause-ready g c =
    let t = (c.tell_all.ensures.told c.if-not-tell_all.false).1 in
    subst (λ (z : g.row.S.Denot). g.S.LevelState.ready c.args.phase z)
    (lent _ _ _ t.has c.slot_mut-value.ensures.value) t.stands

pub write_folds-requires-clause-folds : goal.write_folds-requires-clause-folds
write_folds-requires-clause-folds g c =
    let L = g.S.LevelState in
    let told = c.tell_all.ensures.told c.if-not-tell_all.false in
    let t = told.1 in
    let y = c.make_round.new.self in
    let z = c.slot_mut-value.result.now in
    let same = lent _ _ _ t.has c.slot_mut-value.ensures.value in
    let far = subst (λ (x : g.row.S.Denot). SoFar L.events L.registered L.count L.width L.tasks L.ready told.0
    t.found t.begun x) same t.so_far in
    let ready = c.make_round.ensures.ready c.if-not-make_round.false in (
      L.width y,
      record {
        begun = t.begun;
        found = t.found;
        turned = y;
        now = y;
        role = t.role;
        has = ap (λ l. (0, y) ∷ rest l) t.has;
        long = t.long;
        at = ap (λ (n : ℕ). n + 1) t.at;
        told = all_told L.events L.registered L.count L.width L.tasks L.ready told.0 t.found t.begun z y
            (ap length far.same ∙ told.2) c.make_round.ensures.all far
            (c.make_round.ensures.round c.if-not-make_round.false);
        stood = ready;
        stands = ready;
        kept = kept_same L.events L.registered L.count L.width L.newest L.replies L.ready y;
        seen = t.seen;
        wide = refl;
        folds = λ a l low _. absurd (omega arith);
      },
    )

pub slot_mut-state-requires : goal.slot_mut-state-requires
slot_mut-state-requires g c =
    let k = c.write_folds.ensures.folds.0.1 in (
      c.write_folds.ensures.same ∙ (c.tell_all.ensures.same.0 ∙ c.requires.table.0),
      (k.now, k.has ∙ ap (λ l. (0, k.now) ∷ rest l) (sym k.has)),
    )

pub store-requires : goal.store-requires
store-requires g c =
    let L = g.S.LevelState in
    let f = c.write_folds.ensures.folds.0 in
    let k = f.1 in
    let y = c.slot_mut-state.result.now in
    let same : k.now ≡ y = lent _ _ _ k.has c.slot_mut-state.ensures.value in (
      search rules,
      search rules,
      ends L.events L.registered L.count L.width L.newest L.replies L.ready _ _ _ k.begun k.turned y k.found _ k.role
          (ap (λ l. (0, y) ∷ rest l) k.has) c.count-count.ensures.count.0
          k.told (subst (λ (n : ℕ). L.ready n k.turned) (sym k.at) k.stood)
          (subst (λ (z : g.row.S.Denot). IsKept L.events L.registered L.count L.width k.turned z) same k.kept)
          (subst (λ (q : ℕ × g.row.S.Denot). L.ready q.0 q.1) (λ i. (sym k.at i, same i)) k.stands)
          (subst (λ (n : ℕ). AreFolds L.events L.registered L.replies L.ready n k.found k.turned) (sym k.wide) k.folds)
          (subst (λ (n : ℕ). n ≤ 4) (sym k.wide) f.2),
    )

pub returns-clause-ended : goal.returns-clause-ended
returns-clause-ended g c _ =
    let L = g.S.LevelState in
    let view = c.tell_all.ensures.same.1 in
    let only = c.write_folds.ensures.folds.1 in (
      subst (λ (v : SeatView g.row.S.Denot). GoneOn L.events L.registered L.ready v c.store.new.seat.me.0) view
          (gone_on_role L.events L.registered L.count L.width L.newest L.replies L.ready c.tell_all.new.seat.me.0 c.write_folds.new.seat.me.0 c.store.new.seat.me.0 only c.store.ensures.2.0),
      c.store.ensures.2.1,
    )

pub returns-then-not-make_round-clause-full : goal.returns-then-not-make_round-clause-full
returns-then-not-make_round-clause-full g c _ =
    let L = g.S.LevelState in
    let t = (c.tell_all.ensures.told c.if-not-tell_all.false).1 in
    let view = c.tell_all.ensures.same.1 in
    let same = lent _ _ _ t.has c.slot_mut-value.ensures.value in (
      (
        t.now,
        tail_on c.args.seat.now.me.0.seen (L.events t.begun) (L.events t.now)
            (subst (λ (h : List Event). IsTail h (L.events t.begun)) (ap (λ v. v.seen) view) t.seen)
            t.so_far.longer,
        subst (λ (z : g.row.S.Denot). L.full z) (sym same) (c.make_round.ensures.full c.if-not-make_round.true),
      ),
      view,
    )
