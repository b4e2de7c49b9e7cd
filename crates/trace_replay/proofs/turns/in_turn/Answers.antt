use Rattle.std.proofs.Common.{◌≡◌, ℕ, ◌+◌, ◌<◌, List, length, get_or, set, Vec, Global, Option, Some, IfSome, sym, ap, subst, ◌∙◌, arith}
use Rattle.std.specs.List.{slice_get}
use Rattle.std.proofs.lemmas.List.{length-replicate, length-set}
use Rattle.std.proofs.lemmas.Option.{slice_get-get_or}
use Rattle.trace_model.specs.declared.event.TracedEvent.TheVariants as traced
use Rattle.trace_model.specs.Run.{Entry, Run, with_event}
use Rattle.trace_replay.proofs.Turning.{IsOnWay, begins, goes_on, ends}
use Rattle.trace_replay.proofs.turns.in_turn.Goals as goal
use Rattle.trace_replay.proofs.turns.in_turn.Goals.{then-number-parts+else-place-len+else-ticket-last+in_ok-add_to, else-number-parts}

pub loop-turn-init : goal.loop-turn-init
loop-turn-init c =
    let fresh = c.in_ok-trace.ensures.empty in
    let ns = c.in_ok-next.next.items in
    record {
      limits = ap (λ (r : Run). r.limits) fresh;
      places = ap (λ (l : List ℕ). length l) c.in_ok-next.ensures ∙ length-replicate (length c.args.parts.now) 0;
      way = subst (λ (es : List Entry). IsOnWay c.args.parts.now ns 0 es) (sym (ap (λ (r : Run). r.events) fresh)) (begins c.args.parts.now ns c.in_ok-next.ensures);
    }

pub loop-turn-preserved : goal.loop-turn-preserved
loop-turn-preserved c =
    let i = c.loop-turn.invariant in
    elim c.if-number-parts.branch [
      | then-number-parts+else-place-len+else-ticket-last+in_ok-add_to w ↦
          let number = get_or c.args.turns.now c.loop-turn.turn-index 0 in
          let ns = c.loop-turn.next.items in
          let place = w.index-place.result.now in
          let part = w.index-parts-number.result in
          let e : Entry = get_or part place (0, traced.Fail 0 0) in
          let inside : place < length part = omega (arith, w.if-place-len.false, w.len.ensures) in
          let here : slice_get part place ≡ Some e = slice_get-get_or part place (0, traced.Fail 0 0) inside in
          let ticketed : w.ticket-ticket.result ≡ e.0 = subst (λ (o : Option Entry). IfSome o (λ x. w.ticket-ticket.result ≡ x.0)) here w.ticket-ticket.ensures in
          let old = c.loop-turn.trace in
          let added : w.add_to.new.trace ≡ with_event old e =
          subst (λ (o : Option Entry). IfSome o (λ x. w.add_to.new.trace ≡ with_event old x)) here w.in_ok-add_to.ensures.added in
          let es = c.loop-turn.trace.events in
          let more : c.if-number-parts.trace ≡ with_event old e = w.trace-is ∙ added in
          let moved : c.if-number-parts.next.items ≡ set ns number (place + 1) = ap (λ (v : Vec ℕ Global). v.items) w.next-is in
          let way = goes_on c.args.parts.now ns c.loop-turn.last es number place part e i.way w.if-number-parts.true (omega (arith, i.places, w.if-number-parts.true)) (sym w.index-parts-number.is) (sym w.index-place.ensures) here (omega (arith, ticketed, w.if-ticket-last.false)) in
          record {
            limits = ap (λ (r : Run). r.limits) more ∙ i.limits;
            places = ap (λ (l : List ℕ). length l) moved ∙ (length-set ns number (place + 1) ∙ i.places);
            way = subst (λ (xs : List ℕ). IsOnWay c.args.parts.now xs c.if-number-parts.last c.if-number-parts.trace.events) (sym moved)
                (subst (λ (t : ℕ). IsOnWay c.args.parts.now (set ns number (place + 1)) t c.if-number-parts.trace.events) (sym (w.last-is ∙ ticketed))
                (subst (λ (xs : List Entry). IsOnWay c.args.parts.now (set ns number (place + 1)) e.0 xs) (sym (ap (λ (r : Run). r.events) more)) way));
          }
      | else-number-parts w ↦ rw (w.trace-is, w.next-is, w.last-is) i
    ]

pub returns-then-are_taken-clause-turned : goal.returns-then-are_taken-clause-turned
returns-then-are_taken-clause-turned c =
    let i = c.loop-turn.invariant in
    ends c.args.limits c.args.parts.now c.deref.result.now c.loop-turn.last c.loop-turn.trace i.limits
    (subst (λ (ns : List ℕ). IsOnWay c.args.parts.now ns c.loop-turn.last c.loop-turn.trace.events) (sym c.deref.ensures.value) i.way)
    (c.are_taken.ensures c.if-are_taken.true)
