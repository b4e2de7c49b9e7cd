use Rattle.std.specs.Prelude.{slice_get, drop}
use Rattle.std.proofs.Common.{rules, ◌≡◌, ◌+◌, [], ℕ, List, Some, false, unwrap_or, refl, sym, ap, ◌∙◌, subst, arith}
use Rattle.std.proofs.lemmas.Bool.{false≢true}
use Rattle.std.proofs.lemmas.Option.{slice_get_read}
use Rattle.atomic_table.specs.Table.{Me}
use Rattle.level_phaser.specs.declared.stage.Stage.TheVariants.{Stands}
use Rattle.level_phaser.specs.declared.view.SeatView.{SeatView}
use Rattle.level_phaser.specs.Deeds.{deeds_of}
use Rattle.level_phaser.specs.Views.{seated, seats_in}
use Rattle.level_phaser.specs.inner.Steps.{first_of, InStage}
use Rattle.level_phaser.proofs.Keeping.{next_of, taken_one, without}
use Rattle.level_phaser.proofs.Seats.{deals}
use Rattle.level_phaser.proofs.keeper.Keeper.take.Goals as goal

pub split_seat-seat-requires : goal.split_seat-seat-requires
split_seat-seat-requires g c =
    let L = g.S.LevelState in
    let me = c.args.self.now in
    let t = c.in-Some.task.now in
    let found = c.in-Some.ensures.lookup in
    let at : slice_get me.numbers.items me.taken ≡ Some t =
    subst (λ (ts : List ℕ). slice_get ts me.taken ≡ Some t) c.deref.ensures.value
    (slice_get_read c.deref.result.now _ me.taken t refl found.3.0 found.1) in
    let r = c.in-Some-rest.rest in
    let h = me.seat.me.0.seen in
    let untaken = me.untaken c.requires r c.in-Some-rest.is in
    let next = next_of me.phase me.width me.taken me.numbers.items h t r.me untaken.1 at in
    let others = drop (me.taken + 1) me.numbers.items in (
      search rules,
      search rules,
      deals L.events L.registered L.count L.width L.newest L.replies L.ready _ _ (seated t (deeds_of t h) []) (seats_in h others) (ap (λ v. v.role) next.0) (ap (λ v. v.tasks) next.0)
          (without h t others next.1),
    )

pub invariant_of-self-2-clause-untaken : goal.invariant_of-self-2-clause-untaken
invariant_of-self-2-clause-untaken g c _ u is =
    let L = g.S.LevelState in
    let me = c.args.self.now in
    let t = c.in-Some.task.now in
    let found = c.in-Some.ensures.lookup in
    let at : slice_get me.numbers.items me.taken ≡ Some t =
    subst (λ (ts : List ℕ). slice_get ts me.taken ≡ Some t) c.deref.ensures.value
    (slice_get_read c.deref.result.now _ me.taken t refl found.3.0 found.1) in
    let r = c.in-Some-rest.rest in
    let h = me.seat.me.0.seen in
    let untaken = me.untaken c.requires r c.in-Some-rest.is in
    let next = next_of me.phase me.width me.taken me.numbers.items h t r.me untaken.1 at in
    let split = c.split_seat-seat.ensures in
    let mine = sym (ap (λ o. unwrap_or o c.split_seat-seat.new.seat) is) in (
      ap (λ z. z.table_id) mine ∙ split.0 ∙ untaken.0,
      taken_one me.phase me.width me.taken me.numbers.items h t r.me u.me untaken.1 at (ap (λ z. z.me) mine ∙ split.2),
    )

pub invariant_of-result-clause-stands : goal.invariant_of-result-clause-stands
invariant_of-result-clause-stands g c =
    let L = g.S.LevelState in
    let me = c.args.self.now in
    let t = c.in-Some.task.now in
    let found = c.in-Some.ensures.lookup in
    let at : slice_get me.numbers.items me.taken ≡ Some t =
    subst (λ (ts : List ℕ). slice_get ts me.taken ≡ Some t) c.deref.ensures.value
    (slice_get_read c.deref.result.now _ me.taken t refl found.3.0 found.1) in
    let r = c.in-Some-rest.rest in
    let h = me.seat.me.0.seen in
    let untaken = me.untaken c.requires r c.in-Some-rest.is in
    let next = next_of me.phase me.width me.taken me.numbers.items h t r.me untaken.1 at in
    let split = c.split_seat-seat.ensures in
    let is = split.4 ∙ ap (λ v. (first_of v, [])) next.0 in
    subst (λ (m : Me g.row.S.Denot (SeatView g.row.S.Denot)). InStage Stands t me.phase me.width false false m) (sym is)
    (λ _. (refl, refl, refl, refl, omega arith, (λ _. refl), (λ e. absurd (false≢true e)), λ e. absurd (false≢true e)))

pub returns-clause-taken : goal.returns-clause-taken
returns-clause-taken g c =
    let L = g.S.LevelState in
    let me = c.args.self.now in
    let t = c.in-Some.task.now in
    let found = c.in-Some.ensures.lookup in
    let at : slice_get me.numbers.items me.taken ≡ Some t =
    subst (λ (ts : List ℕ). slice_get ts me.taken ≡ Some t) c.deref.ensures.value
    (slice_get_read c.deref.result.now _ me.taken t refl found.3.0 found.1) in
    (refl, at)

pub returns-clause-stands : goal.returns-clause-stands
returns-clause-stands g c =
    let L = g.S.LevelState in
    let me = c.args.self.now in
    let t = c.in-Some.task.now in
    let found = c.in-Some.ensures.lookup in
    let at : slice_get me.numbers.items me.taken ≡ Some t =
    subst (λ (ts : List ℕ). slice_get ts me.taken ≡ Some t) c.deref.ensures.value
    (slice_get_read c.deref.result.now _ me.taken t refl found.3.0 found.1) in
    let r = c.in-Some-rest.rest in
    let h = me.seat.me.0.seen in
    let untaken = me.untaken c.requires r c.in-Some-rest.is in
    let next = next_of me.phase me.width me.taken me.numbers.items h t r.me untaken.1 at in
    let split = c.split_seat-seat.ensures in
    (ap (λ m. m.0) split.4 ∙ ap first_of next.0, refl, refl, split.3 ∙ untaken.0 ∙ sym me.seated)
