use Rattle.std.proofs.Common.{ℕ, ◌∷◌, List, sym, subst, ap, ◌∙◌}
use Rattle.world_model.specs.declared.event.WorldEvent.{WorldEvent}
use Rattle.world_model.specs.declared.event.WorldEvent.TheVariants.{Phaser, Finish}
use Rattle.world_model.specs.Actors.{actor}
use Rattle.schedule_run.specs.inner.Notes.{last_at, last_in, note_at}
use Rattle.schedule_run.proofs.Noted.{StandBy, phaser_marked, finish_marked, other_marked, no_place}
use Rattle.schedule_run.proofs.notes.Notes.renew.Goals as goal

pub returns-in-Phaser : goal.returns-in-Phaser
returns-in-Phaser c = record {
  stand = λ l w t stand none own long.
      let old = c.args.self.now in
      subst (λ (e : WorldEvent). StandBy l (e ∷ w) (last_in c.mark.new.last.items old.finishes.items) (note_at old)) (sym c.in-Phaser.is)
      (subst (λ (xs : List ℕ). StandBy l (Phaser c.in-Phaser.phaser c.in-Phaser.field-1 ∷ w) (last_in xs old.finishes.items) (note_at old)) (sym c.mark.ensures)
      (phaser_marked l w c.in-Phaser.phaser c.in-Phaser.field-1 t c.args.events old.phasers.items old.finishes.items (note_at old) stand none
      (ap (λ (e : WorldEvent). actor w e) (sym c.in-Phaser.is) ∙ own) long));
}

pub returns-in-Finish : goal.returns-in-Finish
returns-in-Finish c = record {
  stand = λ l w t stand none own long.
      let old = c.args.self.now in
      subst (λ (e : WorldEvent). StandBy l (e ∷ w) (last_in old.phasers.items c.mark-in-Finish.new.last.items) (note_at old)) (sym c.in-Finish.is)
      (subst (λ (xs : List ℕ). StandBy l (Finish c.in-Finish.finish c.in-Finish.field-1 ∷ w) (last_in old.phasers.items xs) (note_at old)) (sym c.mark-in-Finish.ensures)
      (finish_marked l w c.in-Finish.finish c.in-Finish.field-1 t c.args.events old.phasers.items old.finishes.items (note_at old) stand none
      (ap (λ (e : WorldEvent). actor w e) (sym c.in-Finish.is) ∙ own) long));
}

pub returns-in_default : goal.returns-in_default
returns-in_default c = record {
  stand = λ l w t stand none own long.
      other_marked l w c.args.event.now t (last_at c.args.self.now) (note_at c.args.self.now)
      (no_place c.args.event.now c.in_default.not-Phaser c.in_default.not-Finish) stand none own;
}
