use Rattle.std.proofs.Common.{ℕ, List, sym, subst, ◌∙◌}
use Rattle.std.specs.List.{All}
use Rattle.std.proofs.lemmas.List.Elements.{All-push}
use Rattle.trace_model.specs.Projections.{log, AreOf}
use Rattle.trace_model.specs.Run.{Entry}
use Rattle.task_remains.specs.inner.Logs.{AreGathered, IsToldIn}
use Rattle.task_remains.proofs.Gathering.{one_gathered}
use Rattle.task_remains.proofs.Told.{told_in_logs}
use Rattle.task_remains.proofs.logs.Gathered.add.Goals as goal

pub begin-requires-clause-all : goal.begin-requires-clause-all
begin-requires-clause-all g c = c.requires.logs.1 ∙ sym c.args.left.all

pub returns-clause-own : goal.returns-clause-own
returns-clause-own g c =
    let old = c.args.self.now in
    subst (λ (ps : List (List Entry)). AreGathered c.insert.new.self ps) (sym c.in_ok-push.ensures.items)
    (one_gathered old.owners c.insert.new.self old.parts.items c.task-task.result c.into_part.result c.requires.own
    (subst (λ (t : ℕ). AreOf (log t) c.into_part.result) (sym c.task-task.ensures) c.into_part.ensures.own)
    (sym c.contains.ensures ∙ c.if-contains.false) c.insert.ensures.has)

pub returns-clause-told : goal.returns-clause-told
returns-clause-told g c =
    let old = c.args.self.now in
    let left = c.args.left in
    let logs = c.args.told.now.items in
    let Told = g.K.Supposing.told in
    let one : IsToldIn g.K.Supposing.supposed Told logs c.into_part.result =
    told_in_logs Told logs left.fronts left.log.log left.log.task c.into_part.result (c.requires.logs.1 ∙ sym left.all) c.begin.ensures.begin
    c.into_part.ensures.own c.into_part.ensures.all
    (λ ended. left.told (sym c.into_part.ensures.end ∙ ended)) in
    subst (λ (ps : List (List Entry)). All (IsToldIn g.K.Supposing.supposed Told logs) ps) (sym c.in_ok-push.ensures.items)
    (All-push (IsToldIn g.K.Supposing.supposed Told logs) old.parts.items c.into_part.result c.requires.told one)
