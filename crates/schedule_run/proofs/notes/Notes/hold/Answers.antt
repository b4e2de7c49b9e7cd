use Rattle.std.proofs.Common.{Some}
use Rattle.schedule_run.specs.declared.notes.Note.{Note}
use Rattle.schedule_run.specs.inner.Notes.{last_at}
use Rattle.schedule_run.proofs.Noted.{note_waits, stand_set}
use Rattle.schedule_run.proofs.notes.Notes.hold.Goals as goal

pub returns-then-place-len : goal.returns-then-place-len
returns-then-place-len c = record {
  stand = λ l w stand long next held.
      let note : Note = record { place = c.in-Some.at; asked = c.args.events } in
      stand_set l w (last_at c.args.self.now) c.args.task (Some note)
      (note_waits l w (last_at c.args.self.now) c.args.task note c.args.event.now long next c.in-Some.ensures held)
      c.args.self.now.tasks.items stand;
}
