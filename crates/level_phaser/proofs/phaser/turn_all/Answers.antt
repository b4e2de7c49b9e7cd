use Rattle.std.proofs.Common.{◌≡◌, ◌-◌, ◌≤◌, length, ap, arith, sym, ◌∙◌, subst}
use Rattle.std.proofs.lemmas.Bool.{false≢true}
use Rattle.phase_model.specs.Rules.{Story}
use Rattle.level_phaser.specs.Rounds.{Round}
use Rattle.level_phaser.proofs.Turned.{round_is, round_has_room}
use Rattle.std.proofs.Common.{[], true}
use Rattle.level_phaser.specs.Rounds.{round_calls}
use Rattle.level_phaser.proofs.Turned.{calls_limits}
use Rattle.level_phaser.proofs.phaser.turn_all.Goals as goal

pub returns-clause-made : goal.returns-clause-made
returns-clause-made c _ =
    let s = c.args.phaser.now.story in
    let ts = c.args.tasks.now in
    let a : c.limits.result.history ≡ s.limits.history = c.limits.ensures.history
    ∙ ap (λ (z : Story). z.limits.history) c.history-told.ensures.history in
    let b : c.len.result ≡ length s.past = c.len.ensures.length
    ∙ ap (λ (z : Story). length z.past) c.history-told.ensures.history in
    let w : c.len.result ≤ s.limits.history = subst (λ (z : Story). c.len.result ≤ z.limits.history)
    c.history-told.ensures.history c.len.ensures.within in
    let room = round_has_room (c.limits.result.history - c.len.result) ts s
    (omega arith) c.if-limits-len-lt-ROOM.false c.requires.1 in
    (round_is c.args.phase s c.make_round-course.new.state.story ts c.requires.0 room
    (ap (λ (r : Round). r.story) c.make_round-course.ensures.calls) c.history.ensures.legal).1

pub returns-clause-full : goal.returns-clause-full
returns-clause-full c broken =
    let s = c.args.phaser.now.story in
    let ts = c.args.tasks.now in
    let a : c.limits.result.history ≡ s.limits.history = c.limits.ensures.history
    ∙ ap (λ (z : Story). z.limits.history) c.history-told.ensures.history in
    let b : c.len.result ≡ length s.past = c.len.ensures.length
    ∙ ap (λ (z : Story). length z.past) c.history-told.ensures.history in
    let w : c.len.result ≤ s.limits.history = subst (λ (z : Story). c.len.result ≤ z.limits.history)
    c.history-told.ensures.history c.len.ensures.within in
    let room = round_has_room (c.limits.result.history - c.len.result) ts s
    (omega arith) c.if-limits-len-lt-ROOM.false c.requires.1 in
    let whole = (round_is c.args.phase s c.make_round-course.new.state.story ts c.requires.0 room
    (ap (λ (r : Round). r.story) c.make_round-course.ensures.calls) c.history.ensures.legal).0 in
    absurd (false≢true (sym broken ∙ ap (λ (r : Round). r.is_whole) c.make_round-course.ensures.calls
    ∙ whole))

pub returns-then-limits-len-lt-ROOM-clause-full : goal.returns-then-limits-len-lt-ROOM-clause-full
returns-then-limits-len-lt-ROOM-clause-full c _ =
    let s = c.args.phaser.now.story in
    let a : c.limits.result.history ≡ s.limits.history = c.limits.ensures.history
    ∙ ap (λ (z : Story). z.limits.history) c.history-told.ensures.history in
    let b : c.len.result ≡ length s.past = c.len.ensures.length
    ∙ ap (λ (z : Story). length z.past) c.history-told.ensures.history in
    let small = c.if-limits-len-lt-ROOM.true in
    omega arith

pub returns-clause-limits : goal.returns-clause-limits
returns-clause-limits c =
    let s = c.args.phaser.now.story in
    ap (λ (r : Round). r.story.limits) c.make_round-course.ensures.calls
    ∙ calls_limits c.args.phase (record { story = s; made = 0; is_whole = true }) (round_calls [] c.args.tasks.now)
