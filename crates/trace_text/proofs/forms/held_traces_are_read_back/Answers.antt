use Rattle.std.proofs.Common.{◌≡◌, ◌≤◌, true, Ok, Some, length, slice_get, subst, arith}
use Rattle.phase_modes.specs.declared.limits.Limits.{Limits}
use Rattle.phase_modes.specs.Limits.{limits_fit}
use Rattle.job_script.specs.Reading.{reading}
use Rattle.trace_model.specs.declared.event.TracedEvent.{TracedEvent}
use Rattle.trace_model.specs.Run.{Entry}
use Rattle.trace_model.specs.Views.{viewed}
use Rattle.trace_text.specs.Form.{form_of}
use Rattle.trace_text.specs.Noted.{notes_refusals}
use Rattle.trace_text.specs.Text.{has_form, trace_text}
use Rattle.trace_text.proofs.Held.{MayHaveForm, one_more, has_form_at_end}
use Rattle.trace_text.proofs.Noted.{explained_note}
use Rattle.trace_text.proofs.Whole.{trace_is_read_back}
use Rattle.trace_text.proofs.forms.held_traces_are_read_back.Goals as goal

pub loop-place-preserved : goal.loop-place-preserved
loop-place-preserved c =
    let es = c.args.trace.now.events in
    let i = c.loop-place.place in
    let e : Entry = (c.entry-ticket.result.0, viewed c.entry-ticket.result.1) in
    let at : slice_get es i ≡ Some e = c.entry-ticket.ensures in
    let here : MayHaveForm e = subst (λ (x : TracedEvent). MayHaveForm (e.0, x)) c.event.ensures c.entry_fits.ensures in
    one_more es i e at c.loop-place.invariant here

pub returns : goal.returns
returns c =
    let r = c.args.trace.now in
    let over : length r.events ≤ c.loop-place.place =
    omega (arith, c.loop-place-test.false, c.len-place-end.ensures.length) in
    let form : notes_refusals r ≡ true → has_form r ≡ true =
    has_form_at_end r c.loop-place.place over c.loop-place.invariant in
    let limits = c.limits-limits.ensures in
    let fit : limits_fit r.limits ≡ true =
    subst (λ (l : Limits). limits_fit l ≡ true) limits.limits limits.fit in
    let back : notes_refusals r ≡ true → form_of (reading (trace_text r)) ≡ Ok r =
    λ noted. trace_is_read_back r fit (form noted) in
    record { form = form; read_back = back; explained = λ h. back (explained_note r h) }
