use Rattle.std.proofs.Common.{◌≡◌, Some, rules, sym, ap, ◌∙◌}
use Rattle.std.specs.Prelude.{option_map}
use Rattle.json.specs.Json.{skip_value}
use Rattle.serde_json.specs.View.{view, items_view}
use Rattle.trace_text.specs.Form.{outer_in}
use Rattle.trace_text.proofs.reading.stream.outer_after.Goals as goal

pub returns-clause-outer : goal.returns-clause-outer
returns-clause-outer c =
    let rest = c.in_ok-rest.rest in
    let outer = c.in_ok-outer.outer in
    let passed : skip_value 126 c.in_ok-reader.reader ≡ Some c.skip_value.new.self = search rules in (
      c.in_ok-reader.reader,
      c.skip_value.new.self,
      c.in_ok-reader.ensures,
      passed,
      option_map view rest.limits,
      view rest.version,
      c.in_ok-rest.ensures,
      items_view outer.events.now.items,
      ap (λ d. outer_in d) (sym c.in_ok-file.ensures) ∙ sym c.in_ok-outer.ensures.outer,
    )
