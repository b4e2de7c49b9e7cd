use Rattle.std.proofs.Common.{◌+◌, ◌≡◌, ◌<◌, ◌∷◌, Bool, false, List, None, Some, length, slice_get, take, sym, ap, subst, ◌∙◌, if◌then◌else◌, arith}
use Rattle.phase_model.specs.Tasks.{is_dropped, mode_of}
use Rattle.trace_model.specs.Explained.{event_of}
use Rattle.trace_model.specs.Run.{Entry}
use Rattle.trace_model.specs.Views.{viewed}
use Rattle.world_model.specs.declared.event.WorldEvent.{WorldEvent}
use Rattle.world_model.specs.Parts.{phaser_past}
use Rattle.trace_walk.specs.History.{history}
use Rattle.trace_walk.specs.declared.phasers_held.Stay.{Stay}
use Rattle.trace_walk.specs.inner.Holding.{mode_on, stay_of}
use Rattle.trace_walk.proofs.Histories.{entry_at, history_more}
use Rattle.trace_walk.proofs.OwnPairs.{mode_held}
use Rattle.trace_walk.proofs.phasers_held.mode_on.Goals as goal

pub loop-place-preserved : goal.loop-place-preserved
loop-place-preserved c =
    let es : List Entry = c.args.trace.now.events in
    let i = c.loop-place.place in
    let e : Entry = (c.entry.result.0, viewed c.entry.result.1) in
    let at : slice_get es i ≡ Some e = c.entry.ensures in
    let less : i < length es = omega (arith, c.loop-place-test.true, c.requires) in
    let more : event_of e.1 ∷ history (take i es) ≡ history (take (i + 1) es) =
    ap (λ (x : Entry). event_of x.1 ∷ history (take i es)) (entry_at es i e at)
    ∙ sym (history_more es i e less) in
    c.after-stay.ensures (history (take i es)) c.loop-place.invariant
    ∙ ap (λ (v : List WorldEvent). stay_of c.args.task c.args.phaser v) more

pub returns-else-stay : goal.returns-else-stay
returns-else-stay c =
    let t = c.args.task in
    let n = c.args.phaser in
    let es : List Entry = c.args.trace.now.events in
    let w : List WorldEvent = history (take c.args.count es) in
    let last : c.loop-place.place ≡ c.args.count =
    omega (arith, c.loop-place-test.false, c.loop-place.auto.place-end) in
    let stays : c.loop-place.stay ≡ stay_of t n w =
    c.loop-place.invariant ∙ ap (λ k. stay_of t n (history (take k es))) last in
    let here : is_dropped t (phaser_past n w) ≡ false =
    sym (ap (λ (s : Stay). s.left) stays) ∙ c.if-stay.false in
    ap (λ (s : Stay). s.mode) stays
    ∙ subst (λ (b : Bool). (if b then None else mode_of t (phaser_past n w)) ≡ mode_on t n w) here
    (mode_held t n w)
