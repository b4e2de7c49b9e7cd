-- What stands in a line that is written without blanks.
use Rattle.std.specs.Prelude.{◌≡◌, ℕ, List, true, Option, Some}
use Rattle.json.specs.Token.{Token}
use Rattle.json.specs.Print.{print_from, ArePrintable}
use Rattle.phaser_judge.specs.declared.event.Named.{Named}
use Rattle.judge_job.specs.Fronts.{◌>>=◌, word_front}
use Rattle.judge_job.specs.Forms.{named_in}

-- what happened, by the name that stands first
abbrev pub happened_in : List Token → Option Named
happened_in ts = word_front ts >>= λ w. named_in w.0 w.1

-- after an item, the bytes are what is printed of tokens that say that this happened
abbrev pub Spells : Named → List ℕ → Type 0
Spells e bytes = (ts : List Token) × (bytes ≡ print_from true ts) × ArePrintable ts × (happened_in ts ≡ Some e)
