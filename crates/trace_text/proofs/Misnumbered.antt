-- The text of the smallest trace in one version is refused under the number of another.
use Rattle.std.proofs.Common.{◌≡◌, ℕ, ◌<◌, ◌^◌, ◌++◌, Err, codes, refl, sym, ap, ◌∙◌, arith}
use Rattle.std.specs.Fmt.{digits}
use Rattle.json.specs.Print.{escape_byte}
use Rattle.serde_json.specs.Written.{compact_text}
use Rattle.job_script.specs.Reading.{reading}
use Rattle.job_script.specs.Words.{numbered_in, only_keys, limits_in, named_limits_in}
use Rattle.trace_text.specs.declared.version.Version.{Version}
use Rattle.trace_text.specs.declared.version.Version.TheVariants.{First, Second}
use Rattle.trace_text.specs.Form.{bound_after, make_in, step_in, event_in, outer_in, form, form_of}
use Rattle.trace_text.specs.Laws.{smallest, smallest_text, smallest_older_text}
use Rattle.trace_text.proofs.ReadBack.{text_is_read_back}
use Rattle.trace_text.proofs.Plain.{numbered_data, numbered_is_plain}

is_read : (n : ℕ) (v : Version) → n < 2 ^ 64 → form_of (reading (compact_text (numbered_data n v smallest))) ≡ form (numbered_data n v smallest)
is_read n v small =
    let plain = numbered_is_plain n v smallest small refl refl in
    ap form_of (text_is_read_back (numbered_data n v smallest) plain.0 (omega (arith, plain.1)))

third : compact_text (numbered_data 3 Second smallest) ≡ smallest_text ++ codes "3}"
unfolding digits escape_byte numbered_data
third = refl

third_form : form (numbered_data 3 Second smallest) ≡ Err 0
unfolding numbered_data outer_in only_keys limits_in named_limits_in
third_form = refl

pub third_is_refused : form_of (reading (smallest_text ++ codes "3}")) ≡ Err 0
third_is_refused = ap (λ t. form_of (reading t)) (sym third) ∙ is_read 3 Second (omega arith) ∙ third_form

newer : compact_text (numbered_data 1 Second smallest) ≡ smallest_text ++ codes "1}"
unfolding digits escape_byte numbered_data
newer = refl

newer_form : form (numbered_data 1 Second smallest) ≡ Err 1
unfolding numbered_data outer_in only_keys limits_in named_limits_in numbered_in event_in step_in make_in bound_after
newer_form = refl

pub newer_is_refused : form_of (reading (smallest_text ++ codes "1}")) ≡ Err 1
newer_is_refused = ap (λ t. form_of (reading t)) (sym newer) ∙ is_read 1 Second (omega arith) ∙ newer_form

older : compact_text (numbered_data 2 First smallest) ≡ smallest_older_text ++ codes "2}"
unfolding digits escape_byte numbered_data
older = refl

older_form : form (numbered_data 2 First smallest) ≡ Err 1
unfolding numbered_data outer_in only_keys limits_in named_limits_in numbered_in event_in step_in make_in bound_after
older_form = refl

pub older_is_refused : form_of (reading (smallest_older_text ++ codes "2}")) ≡ Err 1
older_is_refused = ap (λ t. form_of (reading t)) (sym older) ∙ is_read 2 First (omega arith) ∙ older_form
