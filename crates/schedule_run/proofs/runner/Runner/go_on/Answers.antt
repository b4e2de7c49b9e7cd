use Rattle.std.proofs.Common.{ℕ, ◌≡◌, Some, refl, sym, subst, ◌∙◌}
use Rattle.phase_modes.specs.declared.refusal.Refusal.{Refusal}
use Rattle.world_model.specs.declared.event.WorldEvent.TheVariants.{Fail}
use Rattle.world_model.specs.Due.{next_event}
use Rattle.world_model.specs.Replies.{after, reply}
use Rattle.schedule_run.specs.declared.record.Outcome.TheVariants.{Made, Waits, Refused}
use Rattle.schedule_run.specs.inner.Records.{outcome_of}
use Rattle.schedule_run.specs.inner.Running.{Kept}
use Rattle.schedule_run.proofs.Noted.{noted_after}
use Rattle.schedule_run.proofs.Picking.{kept_of, next_due, next_is_own, next_waits, gone_on, given_up}
use Rattle.schedule_run.proofs.runner.Runner.go_on.Goals as goal

pub returns-in-Made-clause-stands : goal.returns-in-Made-clause-stands
returns-in-Made-clause-stands c p w st busy born under =
    let t = c.args.task in
    let old = c.args.self.now in
    let e = c.in-Some.event in
    let due : next_event p.limits t w ≡ Some e = next_due p w t old c.next_event-next.result st (c.next_event-next.ensures w st.recorded.stands) ∙ c.in-Some.is in
    let known : Made ≡ outcome_of (reply p.limits w e) = sym c.in-Made.is ∙ c.in_ok-try_event.ensures.outcome p.limits w (kept_of p w old st) in
    gone_on p w t old st busy born under e due (record { recorded = c.try_event.new.recorded; bodies = old.bodies; notes = c.try_event.new.notes })
    (λ x h. not_made x (known ∙ sym h))
    (c.in_ok-try_event.ensures.kept p.limits w (kept_of p w old st) (next_is_own p w t old st busy born under e due)) refl
  where
    not_made : (x : Refusal) → Made ≡ Refused x → ⊥
    not_made x h = absurd cc

pub returns-in-Waits-clause-stands : goal.returns-in-Waits-clause-stands
returns-in-Waits-clause-stands c p w st busy born under =
    let t = c.args.task in
    let old = c.args.self.now in
    let e = c.in-Some.event in
    let due : next_event p.limits t w ≡ Some e = next_due p w t old c.next_event-next.result st (c.next_event-next.ensures w st.recorded.stands) ∙ c.in-Some.is in
    let known : Waits ≡ outcome_of (reply p.limits w e) = sym c.in-Waits.is ∙ c.in_ok-try_event.ensures.outcome p.limits w (kept_of p w old st) in
    let kept = c.in_ok-try_event.ensures.kept p.limits w (kept_of p w old st) (next_is_own p w t old st busy born under e due) in
    gone_on p w t old st busy born under e due (record { recorded = c.try_event.new.recorded; bodies = old.bodies; notes = c.hold.new.self })
    (λ x h. not_waiting x (known ∙ sym h))
    (noted_after p.limits w e c.try_event.new.recorded c.try_event.new.notes c.hold.new.self known kept
    (λ stand long. c.hold.ensures.stand p.limits w stand (c.len.ensures.length ∙ long) due (next_waits p w t old st busy born under e due known))) refl
  where
    not_waiting : (x : Refusal) → Waits ≡ Refused x → ⊥
    not_waiting x h = absurd cc

pub returns-in_ok-try_event-in-Refused-clause-stands : goal.returns-in_ok-try_event-in-Refused-clause-stands
returns-in_ok-try_event-in-Refused-clause-stands c p w st busy born under =
    let t = c.args.task in
    let old = c.args.self.now in
    let e = c.in-Some.event in
    let x = c.in-Refused.refusal in
    let due : next_event p.limits t w ≡ Some e = next_due p w t old c.next_event-next.result st (c.next_event-next.ensures w st.recorded.stands) ∙ c.in-Some.is in
    let v = after w e (reply p.limits w e) in
    let first : Kept p.limits v c.try_event.new.recorded c.try_event.new.notes =
    c.in_ok-try_event.ensures.kept p.limits w (kept_of p w old st) (next_is_own p w t old st busy born under e due) in
    given_up p w t old st busy born under e due (record { recorded = c.try_event-in-Refused.new.recorded; bodies = old.bodies; notes = c.try_event-in-Refused.new.notes }) x v
    (sym c.in-Refused.is ∙ c.in_ok-try_event.ensures.outcome p.limits w (kept_of p w old st)) refl
    (subst (λ (n : ℕ). Kept p.limits (after v (Fail t n) (reply p.limits v (Fail t n))) c.try_event-in-Refused.new.recorded c.try_event-in-Refused.new.notes) c.number.ensures
    (c.in_ok-try_event-in-Refused.ensures.kept p.limits v first refl)) refl
