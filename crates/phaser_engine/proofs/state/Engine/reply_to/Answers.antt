-- What a short history's replies hold has room in them.
use Rattle.std.proofs.Common.{◌≤◌, length, sym, subst, arith}
use Rattle.phaser_engine.specs.Phaser.{Working}
use Rattle.phaser_engine.proofs.Rooms.{past_within}
use Rattle.phaser_engine.proofs.Short.{short_if_seen, short_turn}
use Rattle.phaser_engine.proofs.state.Engine.reply_to.Goals as goal

pub turn_reply-requires : goal.turn_reply-requires
turn_reply-requires c =
    let p = c.self.inside in
    let s = p.history in
    let few : s.limits.history ≤ 65536 =
    subst (λ (v : Working). v.story.limits.history ≤ 65536) (sym c.self.view_is) c.requires.short in
    short_turn s p.table.lines c.in-Pass.task c.may_pass.result
    (omega (arith, few, past_within s.limits s.terms s.past c.self.invariant.stands.legal)) c.may_pass.ensures.turn

pub seen_reply-requires : goal.seen_reply-requires
seen_reply-requires c =
    let s = c.self.inside.history in
    let few : s.limits.history ≤ 65536 =
    subst (λ (v : Working). v.story.limits.history ≤ 65536) (sym c.self.view_is) c.requires.short in
    short_if_seen s.limits.history c.may_look.result few c.may_look.ensures.reach
