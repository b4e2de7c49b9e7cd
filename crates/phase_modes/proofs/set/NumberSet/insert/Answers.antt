use Rattle.std.proofs.Common.{◌/◌, ◌<◌, length, refl, sym, arith}
use Rattle.std.proofs.lemmas.Option.{slice_get_read, get_or_from_slice_get}
use Rattle.phase_modes.proofs.Setting.{bit_set}
use Rattle.phase_modes.proofs.set.NumberSet.insert.Goals as goal

pub returns-clause-has : goal.returns-clause-has
returns-clause-has c = λ n.
    let s = c.self.inside in
    let ws = s.words.items in
    let k = c.args.number in
    let low : k < s.size = rw (← c.self.view_is) at c.requires in
    let inside : k / 64 < length ws = omega (arith, low, c.self.invariant) in
    let word = c.index_mut.result.now in
    let read = slice_get_read ws (length ws) (k / 64) word refl inside c.index_mut.ensures.value in
    rw (← c.self.view_is) (bit_set ws k n word inside (sym (get_or_from_slice_get ws (k / 64) word 0 read)))
