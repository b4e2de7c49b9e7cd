-- One event more on a world that is replayed. It uses that a step keeps the world's limits (`IsStep.limits`).
use Rattle.std.proofs.Common.{◌≡◌, ℕ, true, ◌&&◌, ◌||◌, List, [], ◌∷◌, Some, Result, refl, ap, ◌∙◌}
use Rattle.std.proofs.lemmas.Bool.{and_parts}
use Rattle.phase_modes.specs.declared.limits.Limits.{Limits}
use Rattle.phase_modes.specs.declared.refusal.Refusal.{Refusal}
use Rattle.world_model.specs.declared.reply.Reply.{Reply}
use Rattle.world_model.specs.Replies.{reply}
use Rattle.world_records.specs.StandsFor.{IsStep}
use Rattle.trace_model.specs.Run.{Entry}
use Rattle.trace_model.specs.declared.event.TracedEvent.{TracedEvent}
use Rattle.trace_model.specs.Explained.{event_of, past, is_answered, is_later, may_follow, ends_run}
use Rattle.trace_model.proofs.Legal.{answered_made}
use Rattle.trace_replay.specs.declared.player.Player.{Player}
use Rattle.trace_replay.specs.inner.HandedOver.{HandedOver, newest, is_later_than}

later_is : (ticket : ℕ) (es : List Entry) → is_later_than ticket (newest es) ≡ is_later ticket es
later_is ticket [] = refl
later_is ticket (e ∷ es) = refl

module _ (l : Limits) (es : List Entry) (ticket : ℕ) (e : TracedEvent) (old new : Player) (answered : Result Reply Refusal)
    (so_far : HandedOver l es old) (step : IsStep (event_of e) old.world new.world answered) where
  known : answered ≡ reply l (past es) (event_of e)
  known = step.answer (past es) so_far.stands ∙ ap (λ m. reply m (past es) (event_of e)) so_far.limits

  pub takes : (is_later_than ticket old.last && is_answered e answered) ≡ may_follow l es (ticket, e)
  takes = rw (so_far.last, later_is ticket es, known) refl

  pub goes_on : new.last ≡ Some ticket → new.over ≡ (ends_run e || old.over) → (is_later_than ticket old.last && is_answered e answered) ≡ true
      → HandedOver l ((ticket, e) ∷ es) new
  goes_on last over made =
      let answers = (and_parts (is_later_than ticket old.last) (is_answered e answered) made).1 in
      record {
        limits = step.limits ∙ so_far.limits;
        stands = step.stands (past es) so_far.stands (answered_made e answered answers);
        last = last;
        over = over ∙ ap (λ b. ends_run e || b) so_far.over;
      }
