use Rattle.std.proofs.Common.{◌≡◌, ◌<◌, length, List, sym, subst, arith}
use Rattle.phase_model.specs.Laws.{IsLegal}
use Rattle.phase_model.specs.Rules.{Story}
use Rattle.table_receipts.specs.declared.noted.Noted.{Noted}
use Rattle.table_receipts.specs.Logs.{story_of, notes_of}
use Rattle.told_history.specs.Stories.{Follows}
use Rattle.table_receipts.proofs.Notes.{followed}
use Rattle.table_receipts.proofs.front.PhaserLog.follow.Goals as goal

pub invariant_of-self : goal.invariant_of-self
invariant_of-self g c =
    let l = g.K.Logs.limits in
    let a = c.self.inside.whole.items in
    let s = c.args.history.now in
    let before = rw (← c.self.view_is) at c.requires.before in
    let follows : Follows (story_of l a) s = rw (← c.self.view_is) at c.requires.follows in
    let longer : length (story_of l a).past < length s.past = omega (arith, c.if-len-before.true, before, c.len.ensures.length) in
    let tells = followed l a s c.self.invariant.0 follows longer in
    let now = c.note.ensures.noted in (
      subst (λ (log : List Noted). log ≡ notes_of (story_of l log)) (sym now) tells.each,
      subst (λ (log : List Noted). IsLegal (story_of l log)) (sym now) (subst (λ (v : Story). IsLegal v) (sym tells.is) c.requires.legal),
    )
