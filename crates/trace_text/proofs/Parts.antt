-- The text of a trace in the five parts in which it is written.
use Rattle.std.proofs.Common.{◌≡◌, ℕ, List, ◌++◌, map, codes, refl, sym, ap, ◌∙◌, append_assoc}
use Rattle.std.specs.Fmt.{digits}
use Rattle.json.specs.Print.{escape_byte}
use Rattle.serde_json.specs.Written.{compact_text}
use Rattle.trace_model.specs.Run.{Run}
use Rattle.trace_text.specs.declared.version.Version.TheVariants.{Second}
use Rattle.trace_text.specs.Text.{list, entry_data, limits_data, trace_data, trace_text}

in_parts : (r : Run) → trace_text r ≡ codes "{\"events\":" ++ (compact_text (list (map (entry_data Second) r.events)) ++ (codes ",\"limits\":" ++ (compact_text (limits_data r.limits) ++ codes ",\"version\":2}")))
unfolding escape_byte digits trace_data
in_parts r = refl

joined : (old one two three four five a b c d e : List ℕ) → one ≡ old ++ a → two ≡ one ++ b → three ≡ two ++ c → four ≡ three ++ d → five ≡ four ++ e
    → five ≡ old ++ (a ++ (b ++ (c ++ (d ++ e))))
joined old one two three four five a b c d e h i j k l = rw (l, k, j, i, h) (simp append_assoc)

pub is_written : (r : Run) (old one two three four five : List ℕ)
    → one ≡ old ++ codes "{\"events\":" → two ≡ one ++ compact_text (list (map (entry_data Second) r.events)) → three ≡ two ++ codes ",\"limits\":"
    → four ≡ three ++ compact_text (limits_data r.limits) → five ≡ four ++ codes ",\"version\":2}" → five ≡ old ++ trace_text r
is_written r old one two three four five h i j k l =
    joined old one two three four five (codes "{\"events\":") (compact_text (list (map (entry_data Second) r.events))) (codes ",\"limits\":") (compact_text (limits_data r.limits)) (codes ",\"version\":2}") h i j k l
    ∙ ap (λ t. old ++ t) (sym (in_parts r))
