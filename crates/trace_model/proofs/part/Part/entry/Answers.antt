use Rattle.std.proofs.Common.{◌≡◌, ℕ, ◌+◌, ◌<◌, List, length, reverse, ap, sym, ◌∙◌, arith}
use Rattle.std.specs.List.{slice_get}
use Rattle.std.proofs.lemmas.Option.{slice_get_read}
use Rattle.finish_core.specs.declared.event.FinishEvent.{FinishEvent}
use Rattle.trace_model.specs.declared.part.Source.{Source}
use Rattle.trace_model.specs.Run.{Entry}
use Rattle.trace_model.specs.Told.{finish_told}
use Rattle.trace_model.specs.inner.Sources.{entries_of}
use Rattle.trace_model.proofs.Telling.{phaser_length, finish_length, at_past}
use Rattle.trace_model.proofs.part.Part.entry.Goals as goal

pub phaser_entry-requires-clause-within : goal.phaser_entry-requires-clause-within
phaser_entry-requires-clause-within c =
    let p = c.in-Phaser in
    omega (arith, c.requires, phaser_length c.self.inside.source p.phaser p.history p.tickets c.args.self.now p.is c.self.invariant c.self.view_is, ap (λ (l : List ℕ). length l) c.as_slice.ensures.value)

pub overflow_add-first : goal.overflow_add-first
overflow_add-first c =
    let p = c.in-Finish in
    omega (arith, c.requires, finish_length c.self.inside.source p.finish p.events p.tickets p.first c.args.self.now p.is c.self.invariant c.self.view_is, ap (λ (l : List ℕ). length l) c.as_slice-in-Finish-2.ensures.value, c.as_slice-in-Finish-2.type_inv.0)

pub finish_entry-requires-clause-within : goal.finish_entry-requires-clause-within
finish_entry-requires-clause-within c =
    let p = c.in-Finish in
    omega (arith, c.requires, finish_length c.self.inside.source p.finish p.events p.tickets p.first c.args.self.now p.is c.self.invariant c.self.view_is, ap (λ (l : List ℕ). length l) c.as_slice-in-Finish-2.ensures.value)

pub returns-in-Finish : goal.returns-in-Finish
returns-in-Finish c =
    let p = c.in-Finish in
    let i = c.args.place in
    ap (λ (es : List Entry). slice_get es i) (sym c.self.view_is ∙ ap (λ (x : Source). entries_of x) p.is)
    ∙ at_past (finish_told p.finish (reverse p.events.items) p.tickets.items) p.first i _
    (ap (λ (es : List FinishEvent). slice_get (finish_told p.finish (reverse es) p.tickets.items) (p.first + i)) (sym c.as_slice-in-Finish.ensures.value)
    ∙ (ap (λ (ts : List ℕ). slice_get (finish_told p.finish (reverse c.as_slice-in-Finish.result.now) ts) (p.first + i)) (sym c.as_slice-in-Finish-2.ensures.value)
    ∙ c.finish_entry.ensures))

pub returns-in-Log : goal.returns-in-Log
returns-in-Log c =
    let same : c.entries.result.now ≡ c.args.self.now = c.entries.ensures ∙ (sym (ap (λ (x : Source). entries_of x) c.in-Log.is) ∙ c.self.view_is) in
    let inside : c.args.place < length c.entries.result.now = omega (arith, c.requires, ap (λ (l : List Entry). length l) same) in
    ap (λ (es : List Entry). slice_get es c.args.place) (sym same)
    ∙ slice_get_read c.entries.result.now (length c.entries.result.now) c.args.place c.index-entries-place.result (omega arith) inside c.index-entries-place.is
