use Rattle.std.proofs.Common.{List, ◌∷◌, [], length, ap, ◌∙◌, subst, arith}
use Rattle.std.proofs.lemmas.List.{length-append}
use Rattle.std.proofs.Math.Logic.{∥∥₁_map}
use Rattle.told_history.specs.Tails.{IsTail}
use Rattle.long_locks.specs.Crews.{HasSeen}
use Rattle.long_locks.proofs.Gifts.{all_more}
use Rattle.long_locks.proofs.entry.given_of.Goals as goal

pub loop-one-preserved : goal.loop-one-preserved
loop-one-preserved g c =
    let past = c.args.cell.now.cell.state.story.past in
    let inv = c.loop-one.invariant in
    let one = c.in-Some.one in
    let begins : IsTail one.front past = subst (λ x. IsTail one.front x.state.story.past) inv.kept c.includes.ensures.begins in
    let holds : ∥ HasSeen g.C.Crew.shows g.J.Naming.terms past one.given ∥₁ = ∥∥₁_map one.shows (λ shows. (one.front, shows, begins)) in
    record {
      given = omega (arith, inv.given, ap (λ (xs : List _). length xs) c.in_ok-push.ensures.items, length-append c.loop-one.all_given.items (one.given ∷ []), length-append c.loop-one.yielded (one ∷ []), c.push.new.self.ok.0, c.loop-one.all_given.ok.0);
      kept = c.includes.ensures.same.0 ∙ inv.kept;
      shown = all_more (λ x. ∥ HasSeen g.C.Crew.shows g.J.Naming.terms past x ∥₁) c.loop-one.all_given.items c.push.new.self.items one.given c.in_ok-push.ensures.items inv.shown holds;
    }
