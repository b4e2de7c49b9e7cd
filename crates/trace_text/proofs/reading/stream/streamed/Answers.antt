use Rattle.std.proofs.Common.{◌≡◌, true, if◌then◌else◌, None, rules, sym, ap, ◌∙◌}
use Rattle.std.specs.Str.{is_utf8, IsUtf8}
use Rattle.std.proofs.lemmas.Str.{is_utf8-from_IsUtf8}
use Rattle.std.proofs.lemmas.Option.{IfSome_then}
use Rattle.serde_json.specs.Read.{read}
use Rattle.trace_text.specs.Form.{form_of}
use Rattle.trace_text.proofs.reading.stream.streamed.Goals as goal

pub returns : goal.returns
returns c =
    let bytes = c.args.bytes.now in
    let text = c.in_ok-text.text.now in
    let same : text ≡ bytes = search rules in
    let valid : IsUtf8 bytes = search rules in
    let is : is_utf8 bytes ≡ true = is_utf8-from_IsUtf8 bytes valid in
    IfSome_then c.trace_of_text.result c.trace_of_text.ensures
    (λ t formed. ap (λ b. form_of (if b then read bytes else None)) is ∙ (ap (λ xs. form_of (read xs)) (sym same) ∙ formed))
