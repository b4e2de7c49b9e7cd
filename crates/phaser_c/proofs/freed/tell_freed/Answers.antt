use Rattle.std.proofs.Common.{◌≡◌, ℕ, ◌<◌, ◌+◌, List, [], ◌∷◌, ◌++◌, slice_set, length, map, drop, sym, ap, ◌∙◌, arith}
use Rattle.std.proofs.lemmas.List.{length-append, length_push, append_assoc}
use Rattle.long_locks.specs.declared.answer.Freed.{Freed}
use Rattle.phaser_c.specs.Freed.{given_freed}
use Rattle.phaser_c.specs.declared.freed.GivenFreed.{GivenFreed}
use Rattle.phaser_c.proofs.Telling.{told_more}
use Rattle.phaser_c.proofs.freed.tell_freed.Goals as goal

-- src/freed.rt
pub loop-next-preserved : goal.loop-next-preserved
loop-next-preserved c =
    let was = c.loop-next.invariant in
    let done = was.0 in
    let f = c.in-Some.next in
    let rest = c.take.new.self in
    let room = c.args.room.now in
    let all : c.args.freed.now ≡ done ++ f ∷ rest = was.1 ∙ ap (λ (fs : List Freed). done ++ fs) c.in-Some.ensures in
    let many : length c.args.freed.now ≡ length done + length (f ∷ rest) = ap (λ (fs : List Freed). length fs) all ∙ length-append done (f ∷ rest) in
    let fits = c.requires in
    let less : length done < length room = omega (arith, many, fits) in
    let told = was.2 in
    let more = length_push done f in (
      done ++ f ∷ [],
      all ∙ sym (append_assoc done (f ∷ []) rest),
      omega (arith, told, more),
      ap (λ (r : List GivenFreed). slice_set r c.loop-next.told c.of.result) was.3
          ∙ (ap (λ (n : ℕ). slice_set (map given_freed done ++ drop (length done) room) n c.of.result) (sym told)
          ∙ (ap (λ (x : GivenFreed). slice_set (map given_freed done ++ drop (length done) room) (length done) x) c.of.ensures
          ∙ told_more done f room less)),
    )
