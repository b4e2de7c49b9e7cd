use Rattle.std.proofs.Common.{◌≡◌, true, ◌&&◌, ◌||◌, Some, refl, sym, ap, ◌∙◌}
use Rattle.trace_model.specs.Explained.{is_answered, ends_run}
use Rattle.trace_model.specs.Views.{viewed}
use Rattle.trace_replay.specs.inner.HandedOver.{is_later_than}
use Rattle.trace_replay.proofs.Taking.{goes_on}
use Rattle.trace_replay.proofs.player.Player.take.Goals as goal
use Rattle.trace_replay.proofs.player.Player.take.Goals.{then-ends, else-ends}

pub returns-then-later-clause-goes_on : goal.returns-then-later-clause-goes_on
returns-then-later-clause-goes_on c = λ l es so_far made.
    let old = c.args.self.now in
    let e = viewed c.args.event in
    let later : is_later_than c.args.ticket old.last ≡ true = sym c.is_later-later.ensures ∙ c.if-later.true in
    let answers : is_answered e c.step_traced-reply.result ≡ true = sym c.is_answered-answered.ensures ∙ made in
    let over : c.if-ends.self ≡ (ends_run e || old.over) =
    elim c.if-ends.branch [
      | then-ends w ↦ w.self-is ∙ w.if-ends.true ∙ sym (ap (λ b. b || old.over) (sym c.ends_run-ends.ensures ∙ w.if-ends.true))
      | else-ends w ↦ w.self-is ∙ sym (ap (λ b. b || old.over) (sym c.ends_run-ends.ensures ∙ w.if-ends.false))
    ] in
    goes_on l es c.args.ticket e old (record { world = c.step_traced-reply.new.self; last = Some c.args.ticket; over = c.if-ends.self }) c.step_traced-reply.result so_far
    c.step_traced-reply.ensures
    refl over (ap (λ b. b && is_answered e c.step_traced-reply.result) later ∙ answers)
