use Rattle.std.proofs.Common.{rules, ◌<◌, ℕ, length, sym, ap, subst, arith}
use Rattle.level_phaser.proofs.Coming.{looks}
use Rattle.level_phaser.proofs.Stages.{waited}
use Rattle.level_phaser.proofs.member.Member.look.Goals as goal

pub load-requires : goal.load-requires
load-requires g c =
    let L = g.S.LevelState in
    let me = c.args.self.now in
    let at = waited me.stage me.task me.phase me.width me.is_shown me.is_fresh me.seat.me c.requires.0 me.stands in (
      search rules,
      search rules,
      looks L.events L.registered L.count L.width L.newest L.replies L.ready _ _ _ at.2 (subst (λ (n : ℕ). 0 < n) (sym (ap length at.0)) (omega arith)),
    )
