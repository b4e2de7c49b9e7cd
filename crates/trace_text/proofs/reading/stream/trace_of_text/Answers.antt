use Rattle.std.proofs.Common.{◌≡◌, ◌∷◌, rules, subst}
use Rattle.std.proofs.lemmas.Option.{IfSome_then}
use Rattle.json.specs.Token.{begin_array}
use Rattle.trace_text.specs.inner.Streamed.{AtEvents}
use Rattle.trace_text.proofs.Streamed.{whole_text}
use Rattle.trace_text.proofs.reading.stream.trace_of_text.Goals as goal

pub returns : goal.returns
returns c =
    let text = c.args.text.now in
    let ts = c.next.new.self in
    let first : c.in_ok-reader.reader ≡ begin_array ∷ ts = search rules in
    let at : AtEvents text (begin_array ∷ ts) = subst (λ xs. AtEvents text xs) first c.in_ok-reader.ensures in
    IfSome_then c.entries_of.result c.entries_of.ensures
    (λ t entries. whole_text text c.in_ok-limits.limits c.in_ok-limits.version ts c.entries_of.new.reader t
    c.in_ok-limits.ensures.outer at entries)
