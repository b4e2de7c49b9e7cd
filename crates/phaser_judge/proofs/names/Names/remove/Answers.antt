use Rattle.std.proofs.Common.{◌≡◌, ◌<◌, ◌∙◌, ap, length, nat_eq, arith, ◌≤◌, List, ℕ}
use Rattle.std.specs.Map.{remove_entry}
use Rattle.phaser_judge.proofs.Removing.{taken_out, none_out}
use Rattle.phaser_judge.proofs.names.Names.remove.Goals as goal

pub returns-then-index-name : goal.returns-then-index-name
returns-then-index-name c =
    let xs = c.loop-place.self.tasks.items in
    let t = c.args.name in
    let same : xs ≡ c.args.self.now.tasks.items = c.loop-place.invariant.same in
    let within : c.loop-place.place < length xs =
    omega (arith, c.loop-place-test.true, c.len-place-end.ensures, ap (length {A = ℕ × ℕ}) c.loop-place.invariant.same) in
    c.remove.ensures.by_index.2
    ∙ (taken_out t c.loop-place.place c.index.result.now xs within c.index.ensures c.if-index-name.true c.loop-place.invariant.before
    ∙ ap (λ (ys : List (ℕ × ℕ)). remove_entry (nat_eq t) ys) same)

pub returns : goal.returns
returns c =
    let xs = c.loop-place.self.tasks.items in
    let t = c.args.name in
    let same : xs ≡ c.args.self.now.tasks.items = c.loop-place.invariant.same in
    let all : length xs ≤ c.loop-place.place =
    omega (arith, c.loop-place-test.false, c.len-place-end.ensures, ap (length {A = ℕ × ℕ}) c.loop-place.invariant.same) in
    none_out t c.loop-place.place xs all c.loop-place.invariant.before
    ∙ ap (λ (ys : List (ℕ × ℕ)). remove_entry (nat_eq t) ys) same
