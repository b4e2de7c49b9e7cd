use Rattle.std.proofs.Common.{◌≡◌, true, take}
use Rattle.std.specs.List.{list_all}
use Rattle.trace_text.specs.Text.{is_number}
use Rattle.trace_text.proofs.forms.pairs_fit.Given as goal

abbrev pub invariant-loop-pair : goal.invariant-loop-pair
invariant-loop-pair l = list_all (λ p. is_number p.phaser) (take l.pair-index l.pair-items) ≡ true
