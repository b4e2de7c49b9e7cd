-- Each event is known, and what stood for those before it stands with it.
use Rattle.std.proofs.Common.{◌≡◌, ℕ, ◌+◌, ◌<◌, List, length, reverse, take, get_or, sym, subst, ap, ◌∙◌, arith}
use Rattle.std.proofs.lemmas.List.{length-reverse, length-take-le}
use Rattle.phase_modes.specs.declared.reg.Mode.TheVariants.{Sig}
use Rattle.phase_model.specs.declared.history.Event.{Event}
use Rattle.phase_model.specs.declared.history.Event.TheVariants.{Make}
use Rattle.phase_model.proofs.Reversed.{reverse_take_more}
use Rattle.world_model.specs.SumLines.{IsWithin}
use Rattle.world_model.specs.inner.Tallied.{Tallied, StandsFor}
use Rattle.world_model.proofs.Noting.{can_note, stands_noted, same_ops, same_tasks, known_at}
use Rattle.world_model.proofs.phaser_tally.tally_of.Goals as goal

size : (xs : List Event) (i : ℕ) → i < length xs → length (reverse (take i xs)) ≡ i
size xs i within = length-reverse (take i xs) ∙ length-take-le i xs (omega (arith, within))

pub note-requires : goal.note-requires
note-requires c =
    let xs = c.events-events.result.now in
    let i = c.loop-i.i in
    let h = c.args.history.now in
    let within : i < length xs = omega (arith, c.loop-i-test.true) in
    can_note (get_or xs i (Make 0 Sig)) c.loop-i.tally (reverse (take i xs))
    (known_at h.limits h.terms h.past c.requires xs c.events-events.ensures.events c.loop-i.tally c.loop-i.invariant.ops c.loop-i.invariant.tasks i (Make 0 Sig) within)
    c.loop-i.invariant.stands
    (omega (arith, size xs i within, within, c.events-events.ensures.few))

pub loop-i-preserved : goal.loop-i-preserved
loop-i-preserved c =
    let xs = c.events-events.result.now in
    let i = c.loop-i.i in
    let h = c.args.history.now in
    let old = c.loop-i.tally in
    let new = c.note.new.self in
    let e = get_or xs i (Make 0 Sig) in
    let within : i < length xs = omega (arith, c.loop-i-test.true) in
    let known = known_at h.limits h.terms h.past c.requires xs c.events-events.ensures.events old c.loop-i.invariant.ops c.loop-i.invariant.tasks i (Make 0 Sig) within in
    let few : IsWithin (length (reverse (take i xs)) + 1) new.totals =
    c.in_ok-note.ensures.within (length (reverse (take i xs))) c.loop-i.invariant.stands.within
    in
    record {
      stands = subst (λ g. StandsFor new g) (sym (reverse_take_more xs i (Make 0 Sig) within))
          (stands_noted e old new (reverse (take i xs)) known c.loop-i.invariant.stands c.in_ok-note.ensures.noted few);
      ops = ap (λ (k : Tallied). k.folds.ops) c.in_ok-note.ensures.noted ∙ (same_ops e old ∙ c.loop-i.invariant.ops);
      tasks = ap (λ (k : Tallied). length k.tasks) c.in_ok-note.ensures.noted ∙ (same_tasks e old ∙ c.loop-i.invariant.tasks);
    }
