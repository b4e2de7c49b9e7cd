use Rattle.std.proofs.Common.{List, ap, map, ◌∙◌}
use Rattle.std.specs.List.{slice_get, zip}
use Rattle.std.proofs.lemmas.List.{reverse-reverse}
use Rattle.finish_core.specs.declared.event.FinishEvent.{FinishEvent}
use Rattle.finish_core.specs.declared.event.FinishEvent.TheVariants.{Opened}
use Rattle.trace_model.specs.declared.event.TracedEvent.TheVariants.{Finish}
use Rattle.trace_model.proofs.Telling.{told_at}
use Rattle.trace_model.proofs.part.finish_entry.Goals as goal

pub returns : goal.returns
returns c =
    ap (λ (es : List FinishEvent). slice_get (zip c.args.tickets.now (map (λ e. Finish c.args.finish e) es)) c.args.place) (reverse-reverse c.args.events.now)
    ∙ told_at (λ e. Finish c.args.finish e) c.args.tickets.now c.args.events.now c.args.place (Opened 0) c.requires.whole c.requires.within
