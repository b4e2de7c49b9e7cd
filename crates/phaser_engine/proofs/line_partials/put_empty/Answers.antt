use Rattle.std.proofs.Common.{◌≡◌, ℕ, ◌+◌, ◌-◌, ◌<◌, ◌≤◌, Bool, if◌then◌else◌, List, length, take, ap, ◌∙◌, arith, Vec, Global}
use Rattle.std.specs.List.{insert}
use Rattle.std.specs.Vec.{vec_len, vec_capacity}
use Rattle.std.proofs.lemmas.List.{length-take-le, take-take}
use Rattle.acc_cells.specs.declared.cell.Cell.{Cell}
use Rattle.acc_cells.specs.declared.partial.Partial.{Partial}
use Rattle.acc_cells.specs.Cells.{no_partial}
use Rattle.phaser_engine.proofs.InUse.{insert_in_use}
use Rattle.phaser_engine.proofs.line_partials.put_empty.Goals as goal
use Rattle.phaser_engine.proofs.line_partials.put_empty.Goals.{then-used-len, else-used-len}

-- an empty partial among those in use, which are those that were
put : (used place : ℕ) (old now : List (List Cell)) → place < used → used ≤ length now
    → take used now ≡ take used old
    → take (used + 1) (insert now place no_partial) ≡ insert (take used old) place no_partial
put used place old now inside within same =
    insert_in_use used now place no_partial (omega (arith, inside)) within
    ∙ ap (λ us. insert us place no_partial) same

pub returns-clause-items : goal.returns-clause-items
returns-clause-items c =
    let used = c.args.used in
    let place = c.args.place in
    let old = c.args.all.now in
    let now = c.if-used-len.all in
    let items : vec_len now < vec_capacity now
    → c.insert.new.self.items ≡ insert now.items place no_partial = λ few.
    c.insert.ensures.items
    ∙ (ap (λ (b : Bool). if b then insert now.items place c.new.result else now.items)
    (c.insert.ensures.succeeds few)
    ∙ ap (λ (q : List Cell). insert now.items place q) c.new.ensures)
    in
    elim c.if-used-len.branch [
      | then-used-len w ↦
          let rest : now.items ≡ take (vec_len old - 1) old.items =
          ap (λ (v : Vec Partial Global). v.items) w.all-is ∙ w.pop-spare.ensures.rest in
          let same : take used now.items ≡ take used old.items =
          ap (λ (qs : List (List Cell)). take used qs) rest
          ∙ take-take used (vec_len old - 1) old.items (omega (arith, w.if-used-len.true, c.len.ensures))
          in
          let long : length now.items ≡ vec_len old - 1 = ap (λ (qs : List (List Cell)). length qs) rest
          ∙ length-take-le (vec_len old - 1) old.items (omega (arith, old.ok.0)) in
          let room : vec_capacity now ≡ vec_capacity old =
          ap (λ (v : Vec Partial Global). vec_capacity v) w.all-is ∙ w.pop-spare.ensures.capacity in
          ap (λ (qs : List (List Cell)). take (used + 1) qs)
          (items (omega (arith, now.ok.0, long, room, old.ok.1, w.if-used-len.true, c.len.ensures)))
          ∙ put used place old.items now.items c.requires.place
          (omega (arith, long, w.if-used-len.true, c.len.ensures)) same
      | else-used-len w ↦
          let here : now.items ≡ old.items = ap (λ (v : Vec Partial Global). v.items) w.all-is in
          let long : length now.items ≡ length old.items = ap (λ (qs : List (List Cell)). length qs) here in
          let room : vec_capacity now ≡ vec_capacity old =
          ap (λ (v : Vec Partial Global). vec_capacity v) w.all-is in
          ap (λ (qs : List (List Cell)). take (used + 1) qs)
          (items (omega (
            arith,
            now.ok.0,
            long,
            room,
            old.ok.0,
            w.if-used-len.false,
            c.len.ensures,
            c.requires.room,
            c.requires.are.room,
          )))
          ∙ put used place old.items now.items c.requires.place (omega (arith, long, c.requires.are.within))
          (ap (λ (qs : List (List Cell)). take used qs) here)
    ]
