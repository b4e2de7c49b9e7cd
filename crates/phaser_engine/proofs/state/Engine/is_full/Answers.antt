use Rattle.std.proofs.Common.{◌≡◌, ℕ, ◌+◌, nat_le, nat_lt, not, length, ap, sym, ◌∙◌, arith, inl, inr, subst}
use Rattle.std.proofs.lemmas.Bool.{cases_Bool, leb-true, leb-false, lt-ltb, le-ltb}
use Rattle.phase_model.specs.Tasks.{live_count}
use Rattle.phase_model.specs.Singles.{reserve}
use Rattle.phase_model.specs.Rules.{is_full}
use Rattle.phaser_engine.specs.Phaser.{Working}
use Rattle.phaser_engine.proofs.Reading.{count_is}
use Rattle.phaser_engine.proofs.SinglesKept.{reserve_is}
use Rattle.phaser_engine.proofs.state.Engine.is_full.Goals as goal

not_leb : (x y : ℕ) → not (nat_le x y) ≡ nat_lt y x
not_leb x y =
    elim (cases_Bool (nat_le x y)) [
      | inl e ↦ rw e (sym (le-ltb y x (leb-true x y e)))
      | inr e ↦ rw e (sym (lt-ltb y x (leb-false x y e)))
    ]

pub returns : goal.returns
returns c =
    let p = c.self.inside in
    let s = p.history in
    let stands = c.self.invariant.stands in
    let used : length s.past + 1 + c.len.result + c.reserve.result
    ≡ length s.past + 1 + live_count s.past + reserve s.past =
    omega (
      arith,
      c.len.ensures,
      count_is s p.table.lines p.single stands,
      c.reserve.ensures,
      reserve_is s.limits s.terms s.past stands.legal p.single stands.last,
    )
    in
    subst (λ (v : Working). not c.has_room.result ≡ is_full v.story.limits v.story.past) c.self.view_is
    (ap (λ b. not b) c.has_room.ensures
    ∙ (not_leb (length s.past + 1 + c.len.result + c.reserve.result) s.limits.history
    ∙ ap (λ n. nat_lt s.limits.history n) used))
