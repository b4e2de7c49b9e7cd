-- What contracts see of a seat.
use Rattle.std.specs.Prelude.{ℕ, List}
use Rattle.std.specs.declared.alloc.Global.{Global}
use Rattle.atomic_blocks.specs.Lent.{RowsId}

-- whose it is, which deque is its own and which are all workers', what it put, what it took from its own
-- deque, and what it took from each
pub record Account (T : Type 0) : Type 0 where
  pub worker : ℕ
  pub own : RowsId × Global
  pub deques : List (RowsId × Global)
  pub put : List T
  pub popped : List T
  pub stolen : List (List T)
