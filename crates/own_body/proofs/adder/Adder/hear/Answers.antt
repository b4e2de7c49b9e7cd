use Rattle.own_body.proofs.Sums.{heard_is_seen}
use Rattle.own_body.proofs.adder.Adder.hear.Goals as goal

pub returns-in-Value-clause-saw : goal.returns-in-Value-clause-saw
returns-in-Value-clause-saw c = λ task asked seen now looks is before.
    heard_is_seen task asked c.args.answer c.in-Hears-Saw.saw seen now (looks c.in-Hears-Saw.is-0) c.in-Hears-Saw.is-1 is
