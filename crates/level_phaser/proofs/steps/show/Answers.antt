use Rattle.std.proofs.Common.{◌*◌, ◌≡◌, ◌+◌, ◌<◌, ℕ, [], refl, sym, ap, ◌∙◌, subst, arith}
use Rattle.level_phaser.specs.Deeds.{kept_in}
use Rattle.level_phaser.specs.Views.{with_pending}
use Rattle.level_phaser.specs.inner.Board.{sent_in}
use Rattle.level_phaser.proofs.Puts.{puts}
use Rattle.level_phaser.proofs.steps.show.Goals as goal

pub store-requires : goal.store-requires
store-requires g c =
    let L = g.S.LevelState in
    let k = c.requires.kept c.in-Some.sent c.in-Some.is in
    let low = k.1 in (
      c.requires.table.0,
      subst (λ (n : ℕ). 32 + 8 * c.args.task < n) (sym c.requires.table.1.0) (omega arith),
      puts L.events L.registered L.count L.width L.newest L.replies L.ready _ _ c.args.task _ _ _ _ _ k.1 c.requires.alone
          c.requires.stands.0 (c.word_of.ensures.sound c.args.seat.now.me.0.width k.0),
    )

pub returns-in-Some-clause-shows : goal.returns-in-Some-clause-shows
returns-in-Some-clause-shows g c =
    let es : sent_in c.args.task c.word_of.result ≡ kept_in c.args.task c.args.kept =
    c.word_of.ensures.sent c.args.task ∙ sym (ap (kept_in c.args.task) c.in-Some.is) in
    c.store.ensures.2 c.args.task refl
    ∙ (λ i. (with_pending c.args.seat.now.me.0 (es i), c.requires.stands.1 i))

pub store-requires-then-is_shown : goal.store-requires-then-is_shown
store-requires-then-is_shown g c =
    let L = g.S.LevelState in
    let low = c.requires.shown c.if-is_shown.true in (
      c.requires.table.0,
      subst (λ (n : ℕ). 32 + 8 * c.args.task < n) (sym c.requires.table.1.0) (omega arith),
      puts L.events L.registered L.count L.width L.newest L.replies L.ready _ _ c.args.task _ _ _ _ _ low c.requires.alone
          c.requires.stands.0 tt,
    )

pub returns-then-is_shown-clause-shows : goal.returns-then-is_shown-clause-shows
returns-then-is_shown-clause-shows g c =
    let es : [] ≡ kept_in c.args.task c.args.kept = sym (ap (kept_in c.args.task) c.in_default.is) in
    c.store-then-is_shown.ensures.2 c.args.task refl
    ∙ (λ i. (with_pending c.args.seat.now.me.0 (es i), c.requires.stands.1 i))
