use Rattle.std.proofs.Common.{ℕ, ◌<◌, List, length, refl, sym, ap, subst, ◌∙◌}
use Rattle.std.proofs.lemmas.List.{length-map}
use Rattle.std.proofs.lemmas.Option.{slice_get-map, slice_get_read}
use Rattle.trace_model.specs.declared.kept.Kept.{Kept}
use Rattle.trace_model.specs.Run.{Entry}
use Rattle.trace_model.specs.inner.Kept.{event_kept}
use Rattle.trace_model.proofs.entries.Entries.entry.Goals as goal

pub returns : goal.returns
returns c =
    let s = c.self.inside in
    let kept : ℕ × Kept → Entry = λ k. (k.0, event_kept s.long.items k.1) in
    let below : c.args.place < length s.kept.items = subst (λ (n : ℕ). c.args.place < n)
    (sym (ap (λ (es : List Entry). length es) c.self.view_is) ∙ length-map s.kept.items kept) c.requires in
    rw (← c.self.view_is, slice_get-map kept s.kept.items c.args.place, slice_get_read s.kept.items (length s.kept.items) c.args.place c.index.result.now refl below c.index.ensures, c.view.ensures, c.deref.ensures.value)
    refl
