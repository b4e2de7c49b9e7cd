use Rattle.std.proofs.Common.{◌≡◌, true, false, sym, ◌∙◌}
use Rattle.std.proofs.lemmas.Bool.{true≢false}
use Rattle.own_body.proofs.Turns.{turns_on, children_on, holds_still, made_first}
use Rattle.own_body.proofs.counts.Counts.hear.Goals.{then-turns, else-turns, then-self, else-self}
use Rattle.own_body.proofs.counts.Counts.hear.Goals as goal

pub returns : goal.returns
returns c = λ task asked seen now next takes counted heard.
    let turns : c.if-turns.counted ≡ true → c.args.turns ≡ true =
    elim c.if-turns.branch [
      | then-turns w ↦ λ one. w.if-turns.true
      | else-turns w ↦ λ one. absurd (true≢false (sym one ∙ (w.counted-is ∙ w.if-turns.false)))
    ] in
    let unheld : c.args.self.now.holds ≡ false → c.if-turns.counted ≡ false =
    elim c.if-turns.branch [
      | then-turns w ↦ λ not. w.counted-is ∙ not
      | else-turns w ↦ λ not. w.counted-is ∙ w.if-turns.false
    ] in (
      turns_on task c.args.self.now.turns c.counted-self.result c.args.self.now.holds c.if-turns.counted asked c.args.answer seen now
          (λ one. next (turns one)) counted.2 counted.3 unheld c.counted-self.ensures.same c.counted-self.ensures.more counted.0 heard,
      children_on task c.args.self.now.children c.counted-self-2.result c.is_child.result asked c.args.answer seen now c.is_child.ensures
          c.counted-self-2.ensures.same c.counted-self-2.ensures.more counted.1 heard,
      elim c.if-self.branch [
        | then-self w ↦ λ any. holds_still task asked c.args.answer seen now (takes w.if-self.true) (counted.2 w.if-self.true) heard.1
        | else-self w ↦ λ any. made_first task asked c.args.answer seen now (w.is_first-self.ensures (sym w.self-is ∙ any)) heard.1
      ],
      elim c.if-self.branch [
        | then-self w ↦ λ none. absurd (true≢false (sym w.if-self.true ∙ (sym w.self-is ∙ none)))
        | else-self w ↦ λ none. c.counted-self.ensures.same (unheld w.if-self.false) ∙ counted.3 w.if-self.false
      ],
    )
