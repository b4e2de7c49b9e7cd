-- Each piece is the next of the list's, and what was read of those before it stays.
use Rattle.std.proofs.Common.{◌≡◌, ◌++◌, [], ◌∷◌, rules, arith, refl, inr, length}
use Rattle.std.proofs.lemmas.Bool.Decides.{nat_tests}
use Rattle.std.proofs.lemmas.Iterator.Consumers.{YieldsList-end, YieldsList-turn}
use Rattle.std.proofs.lemmas.Iterator.Splits.{YieldsList-from_str_split}
use Rattle.std.proofs.lemmas.List.{length_push}
use Rattle.command_words.proofs.Listed.{all_read, bad_piece, one_more, too_many}
use Rattle.command_words.proofs.lists.list_of.Goals as goal

pub returns-in_default-clause-none : goal.returns-in_default-clause-none
returns-in_default-clause-none c =
    let next =
    YieldsList-turn (YieldsList-from_str_split 44 c.args.list.now (omega arith) (cc) (cc) (cc))
    c.loop-piece.yielded _
    c.loop-piece.yielded_by _ _ c.in-Some.piece c.in-Some.is c.next.ensures.steps in
    inr (
      refl,
      bad_piece c.args.most c.args.greatest c.args.list.now (length c.loop-piece.yielded) c.loop-piece.numbers.items c.in-Some.piece.now
          c.loop-piece.invariant.read next (search rules),
    )

pub returns-then-len-most-clause-none : goal.returns-then-len-most-clause-none
returns-then-len-most-clause-none c =
    let next =
    YieldsList-turn (YieldsList-from_str_split 44 c.args.list.now (omega arith) (cc) (cc) (cc))
    c.loop-piece.yielded _
    c.loop-piece.yielded_by _ _ c.in-Some.piece c.in-Some.is c.next.ensures.steps in
    inr (
      refl,
      too_many c.args.most c.args.greatest c.args.list.now (length c.loop-piece.yielded) c.in-Some.piece.now next
          (grind (
            arith,
            nat_tests,
            c.loop-piece.invariant.read.many,
            c.len.ensures,
            c.if-len-most.true,
            c.loop-piece.numbers.ok,
          )),
    )

pub loop-piece-preserved : goal.loop-piece-preserved
loop-piece-preserved c =
    let next =
    YieldsList-turn (YieldsList-from_str_split 44 c.args.list.now (omega arith) (cc) (cc) (cc))
    c.loop-piece.yielded _
    c.loop-piece.yielded_by _ _ c.in-Some.piece c.in-Some.is c.next.ensures.steps in
    let more =
    one_more c.args.most c.args.greatest c.args.list.now (length c.loop-piece.yielded) c.loop-piece.numbers.items c.in-Some.piece.now
    c.in-Some-number_within.number c.loop-piece.invariant.read next (search rules)
    (grind (
      arith,
      nat_tests,
      c.loop-piece.invariant.read.many,
      c.loop-piece.invariant.read.few,
      c.len.ensures,
      c.if-len-most.false,
      c.loop-piece.numbers.ok,
    )) in
    let items : c.push.new.self.items ≡ c.loop-piece.numbers.items ++ c.in-Some-number_within.number ∷ [] =
    search rules in
    record {
      next = tt;
      finite = tt;
      read = rw (length_push c.loop-piece.yielded c.in-Some.piece, items) more;
    }

pub returns-clause-numbers : goal.returns-clause-numbers
returns-clause-numbers c =
    let end =
    YieldsList-end (YieldsList-from_str_split 44 c.args.list.now (omega arith) (cc) (cc) (cc))
    c.loop-piece.yielded _
    c.loop-piece.yielded_by _ _ c.in-None.is c.next.ensures.steps in
    all_read c.args.most c.args.greatest c.args.list.now (length c.loop-piece.yielded) c.loop-piece.numbers.items
    c.loop-piece.invariant.read end.1
