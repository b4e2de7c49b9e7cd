use Rattle.std.proofs.Common.{◌≡◌, ◌∷◌, ℕ, true, ◌+◌, ◌<◌, set, sym, ap, ◌∙◌, subst, arith}
use Rattle.atomic_table.specs.Table.{rest}
use Rattle.level_phaser.specs.declared.view.Role.TheVariants.{Last}
use Rattle.phase_model.specs.declared.call.Call.TheVariants.{Look as look}
use Rattle.phase_model.specs.Answers.{look_result}
use Rattle.level_phaser.specs.Changes.{IsKept}
use Rattle.level_phaser.specs.Views.{with_role}
use Rattle.level_phaser.proofs.Foldings.{folds, folding_on}
use Rattle.level_phaser.proofs.Stages.{lent}
use Rattle.level_phaser.proofs.folds.write_fold.Goals as goal

pub slot_mut-requires : goal.slot_mut-requires
slot_mut-requires g c =
    let k = c.requires.folds in
    (c.requires.table.0, (k.now, k.has ∙ ap (λ l. (0, k.now) ∷ rest l) (sym k.has)))

pub ask_first-word-requires : goal.ask_first-word-requires
ask_first-word-requires g c =
    let k = c.requires.folds in
    record {
      ready = subst (λ (z : g.row.S.Denot). g.S.LevelState.ready c.args.phase z)
          (lent _ _ _ k.has c.slot_mut.ensures.value) k.stands;
    }

pub store-requires : goal.store-requires
store-requires g c =
    let L = g.S.LevelState in
    let k = c.requires.folds in
    let few = c.requires.few in (
      c.requires.table.0,
      subst (λ (n : ℕ). 24 + c.args.accumulator < n) (sym c.requires.table.1.0) (omega arith),
      folds L.events L.registered L.count L.width L.newest L.replies L.ready _ _ c.args.accumulator _ k.begun k.found _ few
          k.role k.long,
    )

pub returns-clause-folds : goal.returns-clause-folds
returns-clause-folds g c =
    let L = g.S.LevelState in
    let k = c.requires.folds in
    let y = c.ask_first-word.new.value in
    let same = lent _ _ _ k.has c.slot_mut.ensures.value in
    let is = c.store.ensures.2 k.begun k.found k.role in
    let role = Last k.begun (set k.found (24 + c.args.accumulator) c.ask_first-word.result) in (
      folding_on L.events L.registered L.count L.width L.newest L.replies L.ready c.args._width c.args.accumulator c.args.phase
          c.ask_first-word.result _ _ k y c.requires.few
          (subst (λ (z : g.row.S.Denot). IsKept L.events L.registered L.count L.width z y) (sym same)
          c.ask_first-word.ensures.kept)
          c.ask_first-word.ensures.ready
          (λ l fold t live. ap (λ (z : g.row.S.Denot). look_result (L.replies z (look t c.args.accumulator))) same
          ∙ c.ask_first-word.ensures.fold l fold t (subst (λ (z : g.row.S.Denot). L.registered t z ≡ true) same live))
          (is ∙ ap (λ l. (with_role c.args.seat.now.me.0 role, (0, y) ∷ rest l)) k.has),
      (role, ap (λ m. m.0) is),
    )
