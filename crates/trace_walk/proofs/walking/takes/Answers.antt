use Rattle.std.proofs.Common.{◌≡◌, List, Option, None, take, reverse, sym, ap, ◌∙◌}
use Rattle.trace_walk.specs.Scripts.{Made, act_of}
use Rattle.trace_model.specs.Explained.{event_of}
use Rattle.trace_model.specs.Run.{Entry}
use Rattle.trace_model.specs.Views.{viewed}
use Rattle.trace_walk.specs.Walking.{is_due}
use Rattle.trace_walk.specs.inner.Seats.{seat_of}
use Rattle.trace_walk.proofs.Events.{nobody_acts}
use Rattle.trace_walk.proofs.Seating.{still_told}
use Rattle.trace_walk.proofs.walking.takes.Goals as goal

pub returns-in-None-clause-taken : goal.returns-in-None-clause-taken
returns-in-None-clause-taken g c = λ root told.
    let e = viewed c.args.event in
    let es : List Entry = reverse (take c.args.count c.args.trace.now.events) in
    let none : act_of (event_of e) ≡ None = nobody_acts (act_of (event_of e)) (sym c.actor.ensures ∙ c.in-None.is) in (
      ap (λ (o : Option Made). is_due g.B.Goes.next root es o) none,
      still_told g.B.Goes.next root es e (seat_of c.args.seats.now.seats) told none,
    )
