use Rattle.std.proofs.Common.{◌≡◌, ◌++◌, ◌∷◌, [], Some, None, rules, sym, ap, subst, ◌∙◌, arith}
use Rattle.json.specs.Json.{after_end_array}
use Rattle.json.proofs.Grammar.{after_end_array-shorter}
use Rattle.trace_model.specs.Run.{Entry, Run}
use Rattle.trace_text.specs.inner.Streamed.{IsEntry}
use Rattle.trace_text.proofs.Streamed.{AreSoFar, none_so_far, one_more, all_read}
use Rattle.trace_text.proofs.reading.stream.entries_of.Goals as goal

pub loop-alloc-init : goal.loop-alloc-init
loop-alloc-init c =
    let made : c.new-trace.result ≡ record { limits = c.args.limits; events = [] } = c.new-trace.ensures in
    record {
      so_far = subst (λ (r : Run). AreSoFar c.args.version c.args.reader.now c.args.reader.now r.events) (sym made)
          (none_so_far c.args.version c.args.reader.now);
      limits = ap (λ (r : Run). r.limits) made;
    }

pub loop-alloc-preserved : goal.loop-alloc-preserved
loop-alloc-preserved c =
    let v = c.args.version in
    let old = c.loop-alloc.trace in
    let now = c.loop-alloc.reader in
    let next = c.next_entry.new.reader in
    let going : (after_end_array now ≡ None) × (c.take_end_array.new.self ≡ now) = search rules in
    let x : Entry = (c.in_ok-ticket.ticket, c.in_ok-ticket.event) in
    let entry : IsEntry v now next x = subst (λ ts. IsEntry v ts next x) going.1 c.in_ok-ticket.ensures in
    let added : c.push.new.self ≡ record { limits = old.limits; events = old.events ++ x ∷ [] } = search rules in
    record {
      so_far = subst (λ (r : Run). AreSoFar v c.args.reader.now next r.events) (sym added)
          (one_more v c.args.reader.now now next old.events x c.loop-alloc.invariant.so_far going.0 entry);
      limits = ap (λ (r : Run). r.limits) added ∙ c.loop-alloc.invariant.limits;
    }

pub returns : goal.returns
returns c =
    let closed : after_end_array c.loop-alloc.reader ≡ Some c.take_end_array.new.self = search rules in
    all_read c.args.limits c.args.version c.args.reader.now c.loop-alloc.reader c.take_end_array.new.self c.loop-alloc.trace
    c.loop-alloc.invariant.limits c.loop-alloc.invariant.so_far closed
    (omega (arith, after_end_array-shorter c.loop-alloc.reader c.take_end_array.new.self closed))
