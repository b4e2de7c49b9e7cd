use Rattle.std.proofs.Common.{◌∷◌, [], sym, ◌∙◌, length-append, arith}
use Rattle.task_remains.proofs.Gathering.{all_logs, told_there, one_longer}
use Rattle.task_remains.proofs.logs.Gathered.add_all.Goals as goal

pub add-requires-clause-logs : goal.add-requires-clause-logs
add-requires-clause-logs g c =
    all_logs g.K.Logs.logs g.K.Logs.limits.phasers c.args.told.now.items c.loop-left.told.items c.loop-left.invariant.same c.requires.logs

pub add-requires-clause-told : goal.add-requires-clause-told
add-requires-clause-told g c =
    told_there g.K.Supposing.supposed g.K.Supposing.told c.loop-left.self.parts.items
    c.args.told.now.items c.loop-left.told.items c.loop-left.invariant.same c.loop-left.invariant.told

pub loop-left-preserved : goal.loop-left-preserved
loop-left-preserved g c = record {
  own = c.in_ok-add.ensures.own;
  told = told_there g.K.Supposing.supposed g.K.Supposing.told c.add.new.self.parts.items
      c.loop-left.told.items c.args.told.now.items (sym c.loop-left.invariant.same) c.in_ok-add.ensures.told;
  same = c.in_ok-add.ensures.same ∙ c.loop-left.invariant.same;
  number = omega (
    arith,
    length-append c.loop-left.yielded (c.in-Some.left ∷ []),
    one_longer _ _ _ c.in_ok-add.ensures.parts,
    c.loop-left.invariant.number,
  );
}
