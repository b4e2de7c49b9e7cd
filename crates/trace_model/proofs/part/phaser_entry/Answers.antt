use Rattle.std.proofs.Common.{◌≡◌, List, reverse, length, map, Some, get_or, ap, sym, ◌∙◌}
use Rattle.std.specs.List.{slice_get, zip}
use Rattle.std.proofs.lemmas.List.{reverse-reverse, length-reverse}
use Rattle.phase_model.specs.declared.history.Event.{Event}
use Rattle.phase_model.specs.declared.history.Event.TheVariants.{Make}
use Rattle.phase_modes.specs.declared.reg.Mode.TheVariants.{Sig}
use Rattle.phase_model.specs.declared.terms.Terms.{Terms}
use Rattle.trace_model.specs.declared.event.TracedEvent.TheVariants.{Phaser}
use Rattle.trace_model.specs.declared.event.TracedStep.{TracedStep}
use Rattle.trace_model.specs.Told.{step_told}
use Rattle.trace_model.proofs.Telling.{told_at}
use Rattle.trace_model.proofs.part.phaser_entry.Goals as goal

pub returns : goal.returns
returns c =
    let h = c.args.history.now in
    let es = c.events.result.now in
    let d : Event = Make 0 Sig in
    let first_first : es ≡ reverse h.past = sym (reverse-reverse es) ∙ ap (λ (l : List Event). reverse l) c.events.ensures.events in
    let whole : length c.args.tickets.now ≡ length es = c.requires.whole ∙ (sym (length-reverse h.past) ∙ ap (λ (l : List Event). length l) (sym first_first)) in
    ap (λ (l : List Event). slice_get (zip c.args.tickets.now (map (λ e. Phaser c.args.phaser (step_told h.terms e)) l)) c.args.place) (sym first_first)
    ∙ (told_at (λ e. Phaser c.args.phaser (step_told h.terms e)) c.args.tickets.now es c.args.place d whole c.requires.within
    ∙ ap (λ (x : TracedStep). Some (get_or c.args.tickets.now c.args.place 0, Phaser c.args.phaser x))
    (sym (c.step_told-step.ensures ∙ ap (λ (terms : Terms). step_told terms (get_or es c.args.place d)) c.terms.ensures)))
