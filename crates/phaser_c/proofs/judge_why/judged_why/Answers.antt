use Rattle.std.proofs.Common.{Some, sym, ap, ◌∙◌}
use Rattle.phaser_judge.specs.Courses.{Course}
use Rattle.phaser_c.specs.JudgedGiven.{event_given}
use Rattle.phaser_c.proofs.Judgements.{said_of, judged_of}
use Rattle.phaser_c.proofs.judge_why.judged_why.Goals as goal

-- src/judge_why.rt
pub returns-clause-answer : goal.returns-clause-answer
returns-clause-answer c =
    let old = c.deref_mut.result.now in let e = c.in-Ok.event in let said = c.event_with_owing-said in let s = said.ensures in
    judged_of (event_given c.args.event.now) c.args.judge.now.state c.put.new.self.state e old said.new.self
    said.result c.answer_said.result (sym c.in-Ok.ensures)
    (c.in-Some.ensures.taken ∙ ap (λ (x : Course). Some x) (sym c.deref_mut.ensures.value)) c.put.ensures
    (said_of old e said.result said.new.self s.accepted s.added s.refused s.reason s.ended s.over s.memory
    s.legal s.illegal)
    c.answer_said.ensures
