use Rattle.std.proofs.Common.{◌≡◌, ℕ, ◌<◌, List, length, arith}
use Rattle.std.specs.List.{remove}
use Rattle.std.proofs.lemmas.List.Edits.{length-remove}
use Rattle.reg_table.specs.declared.table.Entry.{Entry}
use Rattle.reg_table.specs.Lines.{IsTable}
use Rattle.reg_table.proofs.Edits.{remove_ascends, remove_next}
use Rattle.reg_table.proofs.table.Table.remove.Goals as goal

-- what is left of a table once a line went
left : (xs ys : List Entry) (i m n : ℕ) → IsTable xs m → ys ≡ remove xs i → i < length xs → n ≡ m
    → IsTable ys n
left xs ys i m n was is inside same = rw (is, same) (record {
  ascending = remove_ascends xs i was.ascending;
  few = omega (arith, length-remove xs i inside, was.few);
  next = remove_next xs i was.next;
  room = was.room;
})

pub invariant_of-self : goal.invariant_of-self
invariant_of-self c =
    let xs = c.self.inside.lines.items in
    left xs c.remove-gone.new.self.items c.args.place _ _ c.self.invariant c.remove-gone.ensures.items
    (rw (← c.self.view_is) at c.requires) c.remove-gone.ensures.capacity
