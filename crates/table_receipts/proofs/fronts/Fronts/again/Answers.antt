use Rattle.std.proofs.Common.{◌≡◌, ℕ, ◌+◌, List, [], ◌∷◌, ◌++◌, length, sym, ap, subst, ◌∙◌, length-append, arith}
use Rattle.table_receipts.specs.Logs.{Sight}
use Rattle.table_receipts.specs.Seen.{story_at, IsNamed}
use Rattle.table_receipts.proofs.Stories.{named_more, copies_more, copies_all}
use Rattle.table_receipts.proofs.fronts.Fronts.again.Goals as goal

pub loop-phaser-preserved : goal.loop-phaser-preserved
loop-phaser-preserved g c =
    let inv = c.loop-phaser.invariant in
    let xs = c.loop-phaser.fronts.items in
    let ys = c.args.self.now in
    let zs = c.push.new.self.items in
    let x = c.get.result in
    let names = g.K.Logs.logs in
    let is : zs ≡ xs ++ x ∷ [] = c.in_ok-push.ensures.items in
    let long : length zs ≡ length xs + 1 = ap (λ (l : List Sight). length l) is ∙ length-append xs (x ∷ []) in
    let log : x.log ≡ names (length xs) = c.get.ensures.log ∙ ap (λ (n : ℕ). names n) (sym inv.all) in
    let story : x.story ≡ story_at ys (length xs) =
    c.get.ensures.story
    ∙ (ap (λ (l : List Sight). story_at l c.loop-phaser.phaser) inv.kept ∙ ap (λ (n : ℕ). story_at ys n) (sym inv.all)) in
    record {
      kept = c.get.ensures.same ∙ inv.kept;
      all = omega (arith, long, inv.all);
      named = subst (λ (l : List Sight). IsNamed names l) (sym is) (named_more names xs x inv.named log);
      each = λ n within. copies_more xs ys zs x inv.each is story n (omega (arith, within, long));
    }

pub returns-clause-each : goal.returns-clause-each
returns-clause-each g c =
    let inv = c.loop-phaser.invariant in
    let xs = c.loop-phaser.fronts.items in
    let ys = c.args.self.now in
    let long : length xs ≡ length ys =
    omega (arith, inv.all, c.loop-phaser-test.false, c.loop-phaser.auto.phaser-end, c.len-phaser-end.ensures, c.self.inside.fronts.ok.0, ap (λ (l : List Sight). length l) c.self.view_is) in
    copies_all xs ys long inv.each
