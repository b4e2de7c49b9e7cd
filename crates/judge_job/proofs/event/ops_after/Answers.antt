use Rattle.std.proofs.Common.{◌≡◌, ◌∷◌, [], None, Some, ap, ◌∙◌, rules, arith, length, length-append}
use Rattle.json.specs.Json.{after_end_array}
use Rattle.judge_job.specs.Fronts.{op_front}
use Rattle.judge_job.proofs.Operators.{one_more}
use Rattle.judge_job.proofs.event.ops_after.Goals as goal

pub loop-room-preserved : goal.loop-room-preserved
loop-room-preserved c =
    let o = c.in_ok-op.field-0 in
    let none : after_end_array c.loop-room.reader ≡ None = search rules in
    let found : op_front c.loop-room.reader ≡ Some (o, c.op.new.reader) = search rules in (
      omega (arith, ap length c.push.ensures, length-append c.loop-room.ops (o ∷ []), c.loop-room.invariant.0, c.loop-room-test.true),
      one_more c.loop-room.room c.loop-room.ops c.push.new.self c.loop-room.reader c.op.new.reader o c.loop-room-test.true none found c.push.ensures
          ∙ c.loop-room.invariant.1,
    )
