use Rattle.std.proofs.Common.{◌≡◌, [], map, ap, ◌∙◌, arith}
use Rattle.std.proofs.lemmas.List.{nil_from_length}
use Rattle.level_phaser.specs.Rounds.{Round, send_of, round_calls}
use Rattle.level_phaser.proofs.Rounds.{calls_limits}
use Rattle.phaser_c.proofs.Rounds.{settled_alone}
use Rattle.phaser_c.proofs.waiting.Waiting.round.Goals as goal

-- src/waiting_rounds.rt
pub invariant_of-cell-2-clause-kept : goal.invariant_of-cell-2-clause-kept
invariant_of-cell-2-clause-kept c =
    let cell = c.args.self.now.cell in
    let nobody : cell.parked.items ≡ [] = nil_from_length cell.parked.items (omega (arith, c.len.ensures, c.if-len-gt0.false)) in
    settled_alone cell.state.story c.make_round-course.new.state.story cell.parked.items nobody
    (ap (λ (r : Round). r.story.limits) c.make_round-course.ensures.calls
    ∙ calls_limits c.args.phase _ (round_calls (map send_of c.args.sends.now) c.args.tasks.now))
    cell.kept c.history.ensures.legal c.history.ensures.ordered
