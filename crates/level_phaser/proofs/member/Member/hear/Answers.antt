use Rattle.std.proofs.Common.{rules, ap, ◌≢◌, sym, subst}
use Rattle.level_phaser.specs.declared.view.SeatView.{SeatView}
use Rattle.level_phaser.specs.declared.stage.Stage.{Stage}
use Rattle.level_phaser.specs.declared.stage.Stage.TheVariants.{Stuck}
use Rattle.level_phaser.proofs.Keeps.{IsIn}
use Rattle.level_phaser.proofs.Seats.{notes, hears, heeds}
use Rattle.level_phaser.proofs.Stages.{inside}
use Rattle.level_phaser.proofs.member.Member.hear.Goals as goal

pub split_seat-note-requires : goal.split_seat-note-requires
split_seat-note-requires g c = (
  search rules,
  search rules,
  notes g.S.LevelState.events g.S.LevelState.registered g.S.LevelState.count g.S.LevelState.width
      g.S.LevelState.newest g.S.LevelState.replies g.S.LevelState.ready _ _
      (let o = c.args.other.now in inside o.stage o.task o.phase o.width o.is_shown o.is_fresh o.seat.me c.requires.1 o.stands),
)

pub join_seat-requires : goal.join_seat-requires
join_seat-requires g c = let note = c.split_seat-note.ensures.4 in (
  search rules,
  search rules,
  ap (λ m. m.1) note,
  search rules,
  hears g.S.LevelState.events
      g.S.LevelState.registered g.S.LevelState.count g.S.LevelState.width g.S.LevelState.newest g.S.LevelState.replies g.S.LevelState.ready _ _ _ _
      (ap (λ m. m.0.role) note) (ap (λ m. m.0.tasks) note),
)

pub load-requires : goal.load-requires
load-requires g c = (
  search rules,
  search rules,
  heeds g.S.LevelState.events g.S.LevelState.registered g.S.LevelState.count g.S.LevelState.width
      g.S.LevelState.newest g.S.LevelState.replies g.S.LevelState.ready _ _ _
      (subst (λ (v : SeatView g.row.S.Denot). IsIn v) (sym (ap (λ m. m.0) c.join_seat.ensures.2))
      (let o = c.args.self.now in inside o.stage o.task o.phase o.width o.is_shown o.is_fresh o.seat.me
      (subst (λ (z : Stage). z ≢ Stuck) (sym c.requires.0) (λ e. cc)) o.stands)),
)
