use Rattle.std.proofs.Common.{◌*◌, true, w32, ◌≡◌, ◌+◌, ◌<◌, ◌≤◌, ℕ, [], ◌∷◌, Some, sym, ap, ◌∙◌, subst, arith}
use Rattle.std.specs.Prelude.{slice_get}
use Rattle.std.proofs.lemmas.Int.{to_z-of_z}
use Rattle.atomic_table.specs.Table.{rest}
use Rattle.level_phaser.specs.inner.Board.{sent_in}
use Rattle.phase_model.specs.declared.history.Event.TheVariants.{Send as Sent}
use Rattle.level_phaser.specs.RoundLaws.{AreApart}
use Rattle.level_phaser.specs.inner.Tellings.{SoFar}
use Rattle.level_phaser.proofs.Keeps.{tail_on}
use Rattle.level_phaser.proofs.Puts.{finds, sound_more, sound_names}
use Rattle.level_phaser.proofs.Rows.{beyond_last}
use Rattle.level_phaser.proofs.Stages.{lent}
use Rattle.level_phaser.proofs.Tellings.{far_quiet, far_sent, tells_on}
use Rattle.level_phaser.specs.declared.view.Role.TheVariants.{Last}
use Rattle.level_phaser.proofs.Keeps.{is_in}
use Rattle.level_phaser.proofs.steps.tell_row.Goals as goal

pub returns-then-task-ge-MOST_ROWS-clause-tells : goal.returns-then-task-ge-MOST_ROWS-clause-tells
returns-then-task-ge-MOST_ROWS-clause-tells g c _ =
    let L = g.S.LevelState in
    let t = c.requires.tells in
    let z = c.slot_mut.result.now in
    let same = lent _ _ _ t.has c.slot_mut.ensures.value in
    let far = c.if-task-ge-MOST_ROWS.true in
    let long = t.long in
    tells_on L.events L.registered L.count L.width L.tasks L.ready _ _ _ _ t z
    (ap (λ l. (c.args.seat.now.me.0, (0, z) ∷ rest l)) t.has)
    (subst (λ (x : g.row.S.Denot). L.ready c.args.phase x) same t.stands)
    (far_quiet L.events L.registered L.count L.width L.tasks L.ready _ c.in-Some.task _ _ _
    (sym c.task_at.ensures.task ∙ c.in-Some.is)
    (ap (sent_in c.in-Some.task) (beyond_last t.found (32 + 8 * c.in-Some.task) (omega arith)))
    (subst (λ (x : g.row.S.Denot). SoFar L.events L.registered L.count L.width L.tasks L.ready c.args.place t.found
    t.begun x) same t.so_far))

pub load-word-requires : goal.load-word-requires
load-word-requires g c =
    let L = g.S.LevelState in
    let low = c.if-task-ge-MOST_ROWS.false in (
      c.requires.table.0,
      subst (λ (n : ℕ). 32 + 8 * c.in-Some.task < n) (sym c.requires.table.1.0) (omega arith),
      finds L.events L.registered L.count L.width L.newest L.replies L.ready _ _ c.in-Some.task _
          (is_in c.args.seat.now.me.0 (Last c.requires.tells.begun c.requires.tells.found) c.requires.tells.role tt),
    )

pub returns-then-word-eq0-clause-tells : goal.returns-then-word-eq0-clause-tells
returns-then-word-eq0-clause-tells g c _ =
    let L = g.S.LevelState in
    let t = c.requires.tells in
    let z = c.slot_mut.result.now in
    let same = lent _ _ _ t.has c.slot_mut.ensures.value in
    let loaded = c.load-word.ensures.2 in
    let word = loaded.1 t.begun t.found t.role in
    tells_on L.events L.registered L.count L.width L.tasks L.ready _ _ _ _ t z
    (loaded.0 ∙ ap (λ l. (c.args.seat.now.me.0, (0, z) ∷ rest l)) t.has)
    (subst (λ (x : g.row.S.Denot). L.ready c.args.phase x) same t.stands)
    (far_quiet L.events L.registered L.count L.width L.tasks L.ready _ c.in-Some.task _ _ _
    (sym c.task_at.ensures.task ∙ c.in-Some.is)
    (ap (sent_in c.in-Some.task) (sym word.0 ∙ c.if-word-eq0.true))
    (subst (λ (x : g.row.S.Denot). SoFar L.events L.registered L.count L.width L.tasks L.ready c.args.place t.found
    t.begun x) same t.so_far))

pub accumulator_of-requires : goal.accumulator_of-requires
accumulator_of-requires g c =
    let L = g.S.LevelState in
    let t = c.requires.tells in
    let same = lent _ _ _ t.has c.slot_mut.ensures.value in
    let word = c.load-word.ensures.2.1 t.begun t.found t.role in
    let few : L.width t.begun ≤ 4 = subst (λ (n : ℕ). n ≤ 4) (ap L.width (sym same) ∙ t.so_far.widths)
    c.task_at.ensures.few in
    let some_word = c.if-word-eq0.false in
    (omega arith, sound_more (L.width t.begun) 4 c.load-word.result few word.1)

pub returns-in-Ok-clause-tells : goal.returns-in-Ok-clause-tells
returns-in-Ok-clause-tells g c _ =
    let L = g.S.LevelState in
    let round = to_z-of_z w32 c.value_of.result (record { sfits = c.value_of.type_inv }) in
    let t = c.requires.tells in
    let z = c.slot_mut.result.now in
    let z2 = c.slot_mut-value.result.now in
    let same = lent _ _ _ t.has c.slot_mut.ensures.value in
    let loaded = c.load-word.ensures.2 in
    let word = loaded.1 t.begun t.found t.role in
    let held = ap (λ m. m.1) loaded.0 ∙ ap (λ l. (0, z) ∷ rest l) t.has in
    let same2 = lent _ _ _ held c.slot_mut-value.ensures.value in
    let few : L.width t.begun ≤ 4 = subst (λ (n : ℕ). n ≤ 4) (ap L.width (sym same) ∙ t.so_far.widths)
    c.task_at.ensures.few in
    let sound = sound_more (L.width t.begun) 4 c.load-word.result few word.1 in
    tells_on L.events L.registered L.count L.width L.tasks L.ready _ _ _ _ t c.send.new.self
    (λ i. (ap (λ m. m.0) loaded.0 i, ap (λ l. (0, c.send.new.self) ∷ rest l) held i))
    c.in-Ok.ensures.ready
    (far_sent L.events L.registered L.count L.width L.tasks L.ready _ c.in-Some.task _ _ _ z2 _
    (subst (λ (x : g.row.S.Denot). slice_get (L.tasks x) c.args.place ≡ Some c.in-Some.task) same2
    (sym c.task_at.ensures.task ∙ c.in-Some.is))
    (ap (sent_in c.in-Some.task) (sym word.0) ∙ c.value_of.ensures c.in-Some.task sound
    ∙ ap (λ (a : ℕ). Sent c.in-Some.task a c.value_of.result ∷ []) (sym c.accumulator_of.ensures))
    (subst (λ (x : g.row.S.Denot). AreApart (L.tasks x)) same2 c.task_at.ensures.apart)
    c.in-Ok.ensures.tasks (rw round at c.in-Ok.ensures.sent)
    (subst (λ (x : g.row.S.Denot). SoFar L.events L.registered L.count L.width L.tasks L.ready c.args.place t.found
    t.begun x) (same ∙ same2) t.so_far))

pub returns-in-Err-clause-full : goal.returns-in-Err-clause-full
returns-in-Err-clause-full g c _ =
    let L = g.S.LevelState in
    let t = c.requires.tells in
    let z = c.slot_mut.result.now in
    let z2 = c.slot_mut-value.result.now in
    let same = lent _ _ _ t.has c.slot_mut.ensures.value in
    let loaded = c.load-word.ensures.2 in
    let word = loaded.1 t.begun t.found t.role in
    let held = ap (λ m. m.1) loaded.0 ∙ ap (λ l. (0, z) ∷ rest l) t.has in
    let same2 = lent _ _ _ held c.slot_mut-value.ensures.value in
    let far = subst (λ (x : g.row.S.Denot). SoFar L.events L.registered L.count L.width L.tasks L.ready c.args.place
    t.found t.begun x) (same ∙ same2) t.so_far in
    let names : c.accumulator_of.result < L.width z2 =
    subst (λ (n : ℕ × ℕ). n.0 < n.1) (λ k. (sym c.accumulator_of.ensures k, sym far.widths k))
    (sound_names (L.width t.begun) c.load-word.result c.if-word-eq0.false word.1) in (
      z2,
      tail_on c.args.seat.now.me.0.seen (L.events t.begun) (L.events z2) t.seen far.longer,
      c.in-Err.ensures.full (subst (λ (x : g.row.S.Denot). L.registered c.in-Some.task x ≡ true) same2
          c.in-Some.ensures.there) names,
    )
