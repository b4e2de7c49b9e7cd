use Rattle.std.proofs.Common.{◌≡◌, ◌<◌, List, length, sym, ap, ◌∙◌, subst, arith}
use Rattle.phase_model.specs.Rules.{Story}
use Rattle.table_receipts.specs.Logs.{Sight}
use Rattle.told_history.specs.Stories.{GoesOn}
use Rattle.table_receipts.specs.Seen.{story_at}
use Rattle.table_receipts.proofs.Stories.{at_same, unset, begins_more, same_more}
use Rattle.table_receipts.proofs.fronts.Fronts.begin.Goals as goal

pub loop-phaser-preserved : goal.loop-phaser-preserved
loop-phaser-preserved g c =
    let i = c.loop-phaser.phaser in
    let fronts = c.args.self.now in
    let logs = c.args.logs.now.items in
    let inv = c.loop-phaser.invariant in
    let long : length c.loop-phaser.logs.items ≡ length logs = ap (λ (xs : List Sight). length xs) inv.kept in
    let within : i < length c.loop-phaser.logs.items = omega (arith, long, c.loop-phaser-test.true, c.len-phaser-end.ensures, c.args.logs.now.ok.0) in
    let same = unset c.loop-phaser.logs.items i c.includes.new.self c.index_mut.result.now within c.index_mut.ensures.value c.includes.ensures.same.0 in
    let a : c.get-seen.result.story ≡ story_at fronts i = c.get-seen.ensures.story ∙ ap (λ (xs : List Sight). story_at xs i) inv.fronts in
    let b : c.index_mut.result.now.story ≡ story_at logs i = at_same c.loop-phaser.logs.items i c.index_mut.result.now within c.index_mut.ensures.value ∙ ap (λ (xs : List Sight). story_at xs i) inv.kept in
    record {
      fronts = c.get-seen.ensures.same ∙ inv.fronts;
      kept = same ∙ inv.kept;
      all = ap (λ (xs : List Sight). length xs) same ∙ (inv.all ∙ ap (λ (xs : List Sight). length xs) (sym c.get-seen.ensures.same));
      limits = same_more (λ n. (story_at logs n).limits ≡ g.K.Logs.limits) i inv.limits (subst (λ (v : Story). v.limits ≡ g.K.Logs.limits) b c.includes.ensures.limits);
      begin = begins_more fronts logs i inv.begin (subst (λ (v : Story). GoesOn v (story_at logs i)) a (subst (λ (v : Story). GoesOn c.get-seen.result.story v) b c.includes.ensures.begins));
    }

pub returns-clause-begin : goal.returns-clause-begin
returns-clause-begin g c = λ n within.
    c.loop-phaser.invariant.begin n (omega (arith, within, c.loop-phaser-test.false, c.len-phaser-end.ensures, c.requires.all, c.args.logs.now.ok.0))

pub returns-clause-limits : goal.returns-clause-limits
returns-clause-limits g c = λ n within.
    c.loop-phaser.invariant.limits n (omega (arith, within, c.loop-phaser-test.false, c.len-phaser-end.ensures, c.requires.all, c.args.logs.now.ok.0))
