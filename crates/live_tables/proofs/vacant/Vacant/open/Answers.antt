use Rattle.std.proofs.Common.{[], Some, refl, ap, sym, ◌∙◌}
use Rattle.phase_model.specs.declared.terms.Terms.{Terms}
use Rattle.phase_model.specs.Rules.{Story}
use Rattle.told_history.specs.declared.wide.LongEvent.{LongEvent}
use Rattle.told_history.specs.declared.wide.LongEvent.TheVariants as long
use Rattle.phaser_core.specs.LongLife.{long_limits}
use Rattle.long_locks.specs.Events.{with_one}
use Rattle.live_tables.specs.Slots.{IsNext}
use Rattle.live_tables.proofs.Kept.{here_first, told_first}
use Rattle.live_tables.proofs.vacant.Vacant.open.Goals as goal

pub invariant_of-resident : goal.invariant_of-resident
invariant_of-resident g c =
    let v = c.args.self in
    let s = c.args.cell.state.story in
    let e : LongEvent = long.Make c.args.maker c.args.mode in
    let terms = c.terms-terms.ensures ∙ ap (λ (v : Story). v.terms) c.history.ensures.history in
    let next : IsNext v.number v.whole.items = record { legal = v.legal; later = v.later; gone = v.gone } in
    let told = told_first v.number c.terms-terms.result e v.whole.items (with_one (Some e) []) next refl
    ∙ (ap (λ (q : Terms). record { limits = long_limits; terms = q; past = with_one (Some e) [] }) terms ∙ sym c.requires.made) in
    let here = here_first v.number c.terms-terms.result e v.whole.items s next told c.args.cell.kept.legal in
    let now = c.note.ensures.items in
    record {
      named = c.note.ensures.name ∙ v.named;
      told = rw now here.told;
      made = rw now here.made;
      legal = rw now here.legal;
      later = rw now here.later;
      gone = rw now here.gone;
    }
