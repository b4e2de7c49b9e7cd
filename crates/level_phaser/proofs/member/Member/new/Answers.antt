use Rattle.std.proofs.Common.{sym, rules, ◌≡◌, ℕ, ◌+◌, ap, ◌∙◌, arith}
use Rattle.std.proofs.lemmas.Grind.{common_steps}
use Rattle.level_phaser.proofs.Rows.{rows_clear, others_clear}
use Rattle.level_phaser.proofs.Seats.{starts}
use Rattle.level_phaser.proofs.member.Member.new.Goals as goal

pub new-requires : goal.new-requires
new-requires g c = let j = c.in-Some.ensures.joined in
    let one : g.S.LevelState.count c.join.new.self ≡ 1 = j.0.1 ∙ ap (λ (z : ℕ). z + 1) c.requires.nobody in
    starts g.S.LevelState.events g.S.LevelState.registered g.S.LevelState.count g.S.LevelState.width g.S.LevelState.newest
    g.S.LevelState.replies g.S.LevelState.ready _ _ _ c.join.new.self _
    (first_of (search rules, grind (arith, common_steps)))
    (first_of (search rules, grind (arith, common_steps)))
    (first_of (search rules, grind (arith, common_steps)))
    (others_clear _ _ 2080 c.as_slice.ensures.value (search rules) 17 (omega arith) (omega arith))
    (first_of (search rules, grind (arith, common_steps)))
    j.0.3 j.0.4 one c.in-Some.ensures.ready (c.width-width.ensures.0 ∙ sym j.0.6)
    (rows_clear _ _ 2080 c.as_slice.ensures.value (search rules))
    (λ t few. others_clear _ _ 2080 c.as_slice.ensures.value (search rules) (24 + t) (omega arith) (omega arith))
    (let narrow = c.width-width.ensures in let same = j.0.6 in omega arith)
