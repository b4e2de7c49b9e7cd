use Rattle.std.proofs.Common.{ap, refl, sym, ◌∙◌, inl, inr}
use Rattle.std.specs.Prelude.{◌||◌}
use Rattle.std.proofs.lemmas.Bool.{cases_Bool}
use Rattle.std.proofs.lemmas.List.Recursion.{or_push}
use Rattle.tasks_in_flight.specs.Said.{is_end, has_end}
use Rattle.tasks_in_flight.proofs.diary.Diary.add.Goals as goal

pub invariant_of-self-clause-end : goal.invariant_of-self-clause-end
invariant_of-self-clause-end c =
    let old = c.args.self.now in
    c.ended_with-ended.ensures
    ∙ (ap (λ b. b || is_end c.args.entry) old.end
    ∙ (sym (or_push has_end (λ e. is_end e.1) refl (λ x xs. refl) old.log.entries (c.args.ticket, c.args.entry))
    ∙ sym (ap (λ l. has_end l.entries) c.add.ensures)))

pub returns-clause-end : goal.returns-clause-end
returns-clause-end c = λ ended.
    let old = c.args.self.now in
    elim (cases_Bool old.ended) [
      | inl before ↦ inl before
      | inr not ↦ inr (sym (ap (λ b. b || is_end c.args.entry) not) ∙ (sym c.ended_with-ended.ensures ∙ ended))
    ]
