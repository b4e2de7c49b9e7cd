-- Each event that is gone past is steady, and the first that isn't is what is answered.
use Rattle.std.proofs.Common.{ℕ, suc, ◌+◌, ◌<◌, ◌≡◌, ◌∷◌, ◌&&◌, Bool, true, List, Some, length, rules, slice_get, take, sym, ap, subst, arith, ◌∙◌}
use Rattle.world_model.specs.declared.event.WorldEvent.{WorldEvent}
use Rattle.trace_model.specs.Explained.{event_of}
use Rattle.trace_model.specs.Run.{Entry}
use Rattle.trace_model.specs.Views.{viewed}
use Rattle.trace_walk.specs.History.{history}
use Rattle.trace_walk.proofs.Histories.{entry_at, history_more}
use Rattle.trace_walk.proofs.Prefixes.{IsAfter, after_its_past}
use Rattle.run_laws.specs.Luck.{is_all_steady, is_steady}
use Rattle.run_laws.specs.inner.Watched.{is_taken, Watches}
use Rattle.run_laws.proofs.Drawn.{taken_is, watches_on}
use Rattle.run_laws.proofs.Passing.{luck_none, luck_some, is_now_taken}
use Rattle.run_laws.proofs.trace_luck.first_luck.Goals as goal

pub returns-in-Some-clause-first : goal.returns-in-Some-clause-first
returns-in-Some-clause-first c =
    let r = c.args.trace.now in
    let xs : List Entry = r.events in
    let i = c.loop-i.i in
    let w : List WorldEvent = history (take i xs) in
    let d : Entry = (c.entry.result.0, viewed c.entry.result.1) in
    let at : slice_get xs i ≡ Some d = c.entry.ensures in
    let less : i < length xs = omega (arith, c.loop-i-test.true, c.len-i-end.ensures.length) in
    let here : IsAfter r.limits w d = subst (λ (x : Entry). IsAfter r.limits w x) (sym (entry_at xs i d at))
    (after_its_past r i d c.requires less) in
    let one_more : suc i ≡ i + 1 = omega arith in
    let more : history (take (suc i) xs) ≡ event_of d.1 ∷ w =
    ap (λ (k : ℕ). history (take k xs)) one_more ∙ (history_more xs i d less
    ∙ ap (λ (x : Entry). event_of x.1 ∷ w) (sym (entry_at xs i d at))) in
    let said = luck_some c.loop-i.watch (event_of d.1) c.in-Some.luck (search rules) in
    record {
      before = i;
      place = sym one_more;
      steady = c.loop-i.invariant.so_far;
      lucky = ap (λ (v : List WorldEvent). is_all_steady r.limits v) more
          ∙ ap (λ (b : Bool). b && is_all_steady r.limits w)
          (sym (taken_is r.limits w c.loop-i.watch c.loop-i.invariant.stand (event_of d.1) here.accepted) ∙ said.0);
      entry = d;
      there = at;
      luck = said.1;
    }

pub loop-i-preserved : goal.loop-i-preserved
loop-i-preserved c =
    let r = c.args.trace.now in
    let xs : List Entry = r.events in
    let i = c.loop-i.i in
    let w : List WorldEvent = history (take i xs) in
    let d : Entry = (c.entry.result.0, viewed c.entry.result.1) in
    let at : slice_get xs i ≡ Some d = c.entry.ensures in
    let less : i < length xs = omega (arith, c.loop-i-test.true, c.len-i-end.ensures.length) in
    let here : IsAfter r.limits w d = subst (λ (x : Entry). IsAfter r.limits w x) (sym (entry_at xs i d at))
    (after_its_past r i d c.requires less) in
    let more : history (take (i + 1) xs) ≡ event_of d.1 ∷ w =
    history_more xs i d less ∙ ap (λ (x : Entry). event_of x.1 ∷ w) (sym (entry_at xs i d at)) in
    let taken : is_taken c.loop-i.watch (event_of d.1) ≡ true =
    luck_none c.loop-i.watch (event_of d.1) (search rules) in
    let steady : is_steady r.limits w (event_of d.1) ≡ true =
    sym (taken_is r.limits w c.loop-i.watch c.loop-i.invariant.stand (event_of d.1) here.accepted) ∙ taken in
    record {
      stand = subst (λ (v : List WorldEvent). Watches r.limits v c.take.new.self) (sym more)
          (watches_on r.limits w c.loop-i.watch c.loop-i.invariant.stand (event_of d.1) c.take.new.self taken
          (is_now_taken c.loop-i.watch (event_of d.1) c.take.new.self taken (search rules)));
      so_far = ap (λ (v : List WorldEvent). is_all_steady r.limits v) more
          ∙ (ap (λ (b : Bool). b && is_all_steady r.limits w) steady ∙ c.loop-i.invariant.so_far);
    }
