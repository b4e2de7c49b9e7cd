use Rattle.std.proofs.Common.{◌≡◌, true, List, length, ◌∷◌, Result, refl, sym, subst, ap, ◌∙◌}
use Rattle.phase_modes.specs.declared.refusal.Refusal.{Refusal}
use Rattle.world_model.specs.declared.event.WorldEvent.{WorldEvent}
use Rattle.world_model.specs.declared.event.Tried.{Tried}
use Rattle.world_model.specs.declared.reply.Reply.{Reply}
use Rattle.world_model.specs.Actors.{actor}
use Rattle.world_model.specs.Drawing.{own_pairs}
use Rattle.world_model.specs.Replies.{after, reply, is_accepted}
use Rattle.trace_walk.specs.Picks.{unused, event_of}
use Rattle.trace_walk.specs.Scripts.{tried}
use Rattle.trace_walk.specs.Given.{numbers_view, tried_of}
use Rattle.schedule_run.specs.declared.bodies.Bodies.{Bodies}
use Rattle.schedule_run.specs.declared.record.Outcome.TheVariants.{Made, Waits, Refused}
use Rattle.schedule_run.specs.inner.Bodies.{BodiesStand, IsAsked}
use Rattle.schedule_run.specs.inner.Records.{outcome_of}
use Rattle.schedule_run.specs.inner.Running.{Kept}
use Rattle.schedule_run.proofs.Picking.{act_is_own, kept_of, next_tried, is_refused, begun_accepted, begun_made, begun_waits_not, begun_refused}
use Rattle.schedule_run.proofs.runner.Runner.begin.Goals as goal

pub returns-in-Made-clause-stands : goal.returns-in-Made-clause-stands
returns-in-Made-clause-stands c p w st idle =
    let t = c.args.task in
    let old = c.args.self.now in
    let own = own_pairs t w in
    let act = c.next_act-act.result in
    let new = numbers_view c.drawn_by-new.result in
    let a = tried_of own new act in
    let given = c.next_act-act.ensures.given p w st.bodies in
    let by_act = c.event_by-event.ensures w st.recorded.stands in
    let drawn : a ≡ tried p w t new = next_tried p w t own new act a refl refl given in
    let is : a ≡ tried p w t (unused p.limits w) =
    next_tried p w t own (unused p.limits w) act a (c.drawn_by-new.ensures p.limits w st.recorded.stands st.recorded.limits own) refl given in
    let known : Made ≡ outcome_of (reply p.limits w (event_of t a)) =
    subst (λ (e : WorldEvent). Made ≡ outcome_of (reply p.limits w e)) by_act (sym c.in-Made.is ∙ c.in_ok-try_event.ensures.outcome p.limits w (kept_of p w old st)) in
    let owner : actor w c.event_by-event.result ≡ t = ap (λ (e : WorldEvent). actor w e) by_act ∙ act_is_own w t a in
    let accepted = begun_accepted p w t old st idle a is known in
    begun_made p w t old st idle a is (record { recorded = c.try_event.new.recorded; bodies = c.settle.new.bodies; notes = c.try_event.new.notes }) known
    (subst (λ (e : WorldEvent). Kept p.limits (after w e (reply p.limits w e)) c.try_event.new.recorded c.try_event.new.notes) by_act
    (c.in_ok-try_event.ensures.kept p.limits w (kept_of p w old st) owner))
    (subst (λ (x : Tried). BodiesStand p (event_of t x ∷ w) c.settle.new.bodies.seats.items) (sym drawn ∙ is)
    (c.settle.ensures.stand p w (c.next_act-act.ensures.asked p w st.bodies) (c.next_act-act.ensures.places ∙ st.places) given
    (subst (λ (x : Tried). is_accepted p.limits w (event_of t x) ≡ true) (sym is ∙ drawn) accepted)))
    (c.settle.ensures.places ∙ c.next_act-act.ensures.places)

pub returns-in-Waits-clause-stands : goal.returns-in-Waits-clause-stands
returns-in-Waits-clause-stands c p w st idle =
    let t = c.args.task in
    let own = own_pairs t w in
    let act = c.next_act-act.result in
    let a = tried_of own (numbers_view c.drawn_by-new.result) act in
    let is : a ≡ tried p w t (unused p.limits w) =
    next_tried p w t own (unused p.limits w) act a (c.drawn_by-new.ensures p.limits w st.recorded.stands st.recorded.limits own) refl
    (c.next_act-act.ensures.given p w st.bodies) in
    absurd (begun_waits_not p w t c.args.self.now st idle a is
    (subst (λ (e : WorldEvent). Waits ≡ outcome_of (reply p.limits w e)) (c.event_by-event.ensures w st.recorded.stands) (sym c.in-Waits.is ∙ c.in_ok-try_event.ensures.outcome p.limits w (kept_of p w c.args.self.now st))))

pub returns-in_ok-report-in-Refused-clause-stands : goal.returns-in_ok-report-in-Refused-clause-stands
returns-in_ok-report-in-Refused-clause-stands c p w st idle =
    let t = c.args.task in
    let old = c.args.self.now in
    let own = own_pairs t w in
    let act = c.next_act-act.result in
    let a = tried_of own (numbers_view c.drawn_by-new.result) act in
    let x = c.in-Refused.refusal in
    let by_act = c.event_by-event.ensures w st.recorded.stands in
    let is : a ≡ tried p w t (unused p.limits w) =
    next_tried p w t own (unused p.limits w) act a (c.drawn_by-new.ensures p.limits w st.recorded.stands st.recorded.limits own) refl
    (c.next_act-act.ensures.given p w st.bodies) in
    let known : Refused x ≡ outcome_of (reply p.limits w (event_of t a)) =
    subst (λ (e : WorldEvent). Refused x ≡ outcome_of (reply p.limits w e)) by_act (sym c.in-Refused.is ∙ c.in_ok-try_event.ensures.outcome p.limits w (kept_of p w old st)) in
    let left : after w (event_of t a) (reply p.limits w (event_of t a)) ≡ w =
    ap (λ (r : Result Reply Refusal). after w (event_of t a) r) (is_refused (reply p.limits w (event_of t a)) x known) in
    let owner : actor w c.event_by-event.result ≡ t = ap (λ (e : WorldEvent). actor w e) by_act ∙ act_is_own w t a in
    let first : Kept p.limits w c.try_event.new.recorded c.try_event.new.notes =
    subst (λ (u : List WorldEvent). Kept p.limits u c.try_event.new.recorded c.try_event.new.notes) left
    (subst (λ (e : WorldEvent). Kept p.limits (after w e (reply p.limits w e)) c.try_event.new.recorded c.try_event.new.notes) by_act (c.in_ok-try_event.ensures.kept p.limits w (kept_of p w old st) owner)) in
    let same : c.report.new.self.bodies ≡ c.next_act-act.new.self = c.report.ensures.bodies in
    begun_refused p w t old st idle a is c.report.new.self x w known (sym left)
    (c.in_ok-report-in-Refused.ensures.kept p.limits w first)
    (subst (λ (b : Bodies). IsAsked p w t b.seats.items) (sym same) (c.next_act-act.ensures.asked p w st.bodies))
    (ap (λ (b : Bodies). length b.seats.items) same ∙ c.next_act-act.ensures.places)
