use Rattle.std.proofs.Common.{◌++◌, codes, decimal, subst}
use Rattle.std.specs.Fmt.{HasWritten}
use Rattle.judge_job.specs.Words.{seen_text, task_of}
use Rattle.judge_job.proofs.Texts.{of_4, of_5, of_6}
use Rattle.judge_job.proofs.stop.write_event.Goals as goal

pub returns-in-NotRegistered : goal.returns-in-NotRegistered
returns-in-NotRegistered g c =
    λ plain ok.
    rw c.in-NotRegistered.is
    (subst (λ t. HasWritten g.W.Write.write_str_gives c.args.f.now
    (codes "task " ++ decimal t ++ codes " isn't registered on phaser " ++ decimal c.args.phaser) c.write-in-NotRegistered.new.self)
    c.task_of-task.ensures
    (of_4 (λ t. HasWritten g.W.Write.write_str_gives c.args.f.now t c.write-in-NotRegistered.new.self) (codes "task ")
    (decimal c.task_of-task.result) (codes " isn't registered on phaser ") (decimal c.args.phaser)
    (c.write-in-NotRegistered.ensures.writes plain ok)))

pub returns-in-RegisteredAlready : goal.returns-in-RegisteredAlready
returns-in-RegisteredAlready g c =
    λ plain ok.
    rw c.in-RegisteredAlready.is
    (subst (λ t. HasWritten g.W.Write.write_str_gives c.args.f.now
    (codes "task " ++ decimal t ++ codes " is registered on phaser " ++ decimal c.args.phaser ++ codes " already")
    c.write-in-RegisteredAlready.new.self)
    c.child_of-child.ensures
    (of_5 (λ t. HasWritten g.W.Write.write_str_gives c.args.f.now t c.write-in-RegisteredAlready.new.self) (codes "task ")
    (decimal c.child_of-child.result) (codes " is registered on phaser ") (decimal c.args.phaser) (codes " already")
    (c.write-in-RegisteredAlready.ensures.writes plain ok)))

pub returns-in-Rule : goal.returns-in-Rule
returns-in-Rule g c =
    λ plain ok.
    rw c.in-Rule.is
    (subst (λ w. HasWritten g.W.Write.write_str_gives c.args.f.now
    (codes "task " ++ decimal (task_of c.args.event.now) ++ codes " can't do this on phaser " ++ decimal c.args.phaser ++ codes ": " ++ w)
    c.write-in-Rule.new.self)
    c.words_of-words.ensures
    (subst (λ t. HasWritten g.W.Write.write_str_gives c.args.f.now
    (codes "task " ++ decimal t ++ codes " can't do this on phaser " ++ decimal c.args.phaser ++ codes ": " ++ c.words_of-words.result.now)
    c.write-in-Rule.new.self)
    c.task_of-task.ensures
    (of_6 (λ t. HasWritten g.W.Write.write_str_gives c.args.f.now t c.write-in-Rule.new.self) (codes "task ")
    (decimal c.task_of-task.result) (codes " can't do this on phaser ") (decimal c.args.phaser) (codes ": ") c.words_of-words.result.now
    (c.write-in-Rule.ensures.writes plain ok))))

pub returns-in-ClaimsInstead : goal.returns-in-ClaimsInstead
returns-in-ClaimsInstead g c =
    λ plain ok.
    rw c.in-ClaimsInstead.is
    (subst (λ t. HasWritten g.W.Write.write_str_gives c.args.f.now
    (codes "task " ++ decimal t ++ codes " had a single to claim, and couldn't pass") c.write-in-ClaimsInstead.new.self)
    c.task_of-task.ensures (c.write-in-ClaimsInstead.ensures.writes plain ok))

pub returns-in-SawOther : goal.returns-in-SawOther
returns-in-SawOther g c =
    λ plain ok.
    rw c.in-SawOther.is
    (subst (λ t. HasWritten g.W.Write.write_str_gives c.args.f.now
    ((codes "task " ++ decimal t ++ codes " would have seen ") ++ seen_text c.in-SawOther.seen) c.write_saw.new.f)
    c.task_of-task.ensures (c.write_saw.ensures plain ok))
