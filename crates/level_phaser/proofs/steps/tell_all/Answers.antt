use Rattle.std.proofs.Common.{List, ◌≡◌, ◌∷◌, length, refl, sym, ap, ◌∙◌, subst, arith}
use Rattle.atomic_table.specs.Table.{rest}
use Rattle.told_history.specs.Tails.{IsTail}
use Rattle.phase_model.specs.declared.history.Event.{Event}
use Rattle.level_phaser.specs.inner.Tellings.{SoFar}
use Rattle.level_phaser.proofs.Stages.{lent}
use Rattle.level_phaser.proofs.Tellings.{none_yet, began_so}
use Rattle.level_phaser.proofs.steps.tell_all.Goals as goal

pub slot_mut-requires : goal.slot_mut-requires
slot_mut-requires g c =
    let last = c.requires.last in
    (c.requires.table.0, (last.0.0, last.2 ∙ ap (λ l. (0, last.0.0) ∷ rest l) (sym last.2)))

pub loop-place-init : goal.loop-place-init
loop-place-init g c =
    let L = g.S.LevelState in
    let last = c.requires.last in
    let z = c.slot_mut.result.now in
    let same = lent _ _ _ last.2 c.slot_mut.ensures.value in (
      refl,
      refl,
      record {
        begun = last.0.0;
        found = last.0.1;
        now = z;
        role = last.1;
        has = ap (λ l. (0, z) ∷ rest l) last.2;
        long = last.6;
        at = last.3;
        stands = subst (λ (x : g.row.S.Denot). L.ready c.args.phase x) same last.4;
        seen = last.5;
        so_far = subst (λ (x : g.row.S.Denot). SoFar L.events L.registered L.count L.width L.tasks L.ready 0 last.0.1
            last.0.0 x) same (none_yet L.events L.registered L.count L.width L.tasks L.ready last.0.1 last.0.0);
      },
      ap (λ (x : g.row.S.Denot). length (L.tasks x)) same ∙ sym c.count-count.ensures.tasks,
    )

pub tell_row-requires-clause-table : goal.tell_row-requires-clause-table
tell_row-requires-clause-table g c =
    (c.loop-place.invariant.0 ∙ c.requires.table.0, c.requires.table.1)

pub tell_row-requires-clause-tells : goal.tell_row-requires-clause-tells
tell_row-requires-clause-tells g c = c.loop-place.invariant.2

pub returns-then-not-tell_row-clause-same : goal.returns-then-not-tell_row-clause-same
returns-then-not-tell_row-clause-same g c =
    let same = c.tell_row.ensures.same in
    (same.0 ∙ c.loop-place.invariant.0, same.1 ∙ c.loop-place.invariant.1)

pub returns-then-not-tell_row-clause-full : goal.returns-then-not-tell_row-clause-full
returns-then-not-tell_row-clause-full g c _ =
    let full = c.tell_row.ensures.full c.if-not-tell_row.true in (
      full.0,
      subst (λ (h : List Event). IsTail h (g.S.LevelState.events full.0)) (ap (λ v. v.seen) c.loop-place.invariant.1)
          full.1,
      full.2,
    )

pub loop-place-preserved : goal.loop-place-preserved
loop-place-preserved g c =
    let L = g.S.LevelState in
    let same = c.tell_row.ensures.same in
    let k = c.loop-place.invariant.2 in
    let j = c.tell_row.ensures.tells c.if-not-tell_row.false in (
      same.0 ∙ c.loop-place.invariant.0,
      same.1 ∙ c.loop-place.invariant.1,
      j,
      ap (λ (x : g.row.S.Denot). length (L.tasks x))
          (began_so L.events L.registered L.count L.width L.tasks L.ready _ _ _ _ _ _ k j same.1)
          ∙ c.loop-place.invariant.3,
    )

pub returns-clause-same : goal.returns-clause-same
returns-clause-same g c = (c.loop-place.invariant.0, c.loop-place.invariant.1)

pub returns-clause-told : goal.returns-clause-told
returns-clause-told g c _ =
    let L = g.S.LevelState in
    let done = c.loop-place-test.false in
    let end = c.loop-place.auto.place-end in
    let at : c.loop-place.place ≡ c.count-count.result = omega arith in
    (c.loop-place.place, c.loop-place.invariant.2, c.loop-place.invariant.3 ∙ sym at)
