use Rattle.std.proofs.Common.{length}
use Rattle.command_words.proofs.Listed.{ReadSoFar}
use Rattle.command_words.proofs.lists.list_of.Given as goal

abbrev pub invariant-loop-piece : goal.invariant-loop-piece
invariant-loop-piece l = record {
  next : (goal.iterator-loop-piece).can_next l.piece-iterator;
  finite : (goal.iterator-loop-piece).is_finite l.piece-iterator;
  read : ReadSoFar l.most l.greatest l.list (length l.yielded) l.numbers.items;
}
