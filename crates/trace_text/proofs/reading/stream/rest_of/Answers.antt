use Rattle.std.proofs.Common.{◌≡◌, Some, codes, rules}
use Rattle.json.specs.Json.{read_key}
use Rattle.serde_json.specs.View.{view}
use Rattle.trace_text.proofs.Streamed.{one_left, two_left}
use Rattle.trace_text.proofs.reading.stream.rest_of.Goals as goal

pub returns-in_ok-version-in-limits : goal.returns-in_ok-version-in-limits
returns-in_ok-version-in-limits c = λ before n enough.
    let named : read_key c.args.reader.now ≡ Some (Some (codes "limits"), c.next_key.new.self) = search rules in
    let after : read_key c.next_value.new.reader ≡ Some (Some (codes "version"), c.takes_key.new.reader) = search rules in
    two_left before n (codes "limits") (codes "version") c.args.reader.now c.next_key.new.self c.next_value.new.reader
    c.takes_key.new.reader (view c.in_ok-limits-in-limits.limits) (view c.in_ok-version-in-limits.version) enough named
    c.in_ok-limits-in-limits.ensures.read c.in_ok-limits-in-limits.ensures.shorter after
    c.in_ok-version-in-limits.ensures

pub returns-in_ok-version-in-version : goal.returns-in_ok-version-in-version
returns-in_ok-version-in-version c = λ before n enough.
    let named : read_key c.args.reader.now ≡ Some (Some (codes "version"), c.next_key.new.self) = search rules in
    one_left before n (codes "version") c.args.reader.now c.next_key.new.self (view c.in_ok-version-in-version.version)
    enough named c.in_ok-version-in-version.ensures
