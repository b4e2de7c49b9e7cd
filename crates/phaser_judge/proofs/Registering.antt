-- A registration that has its numbers, in the view of a judged phaser.
use Rattle.std.proofs.Common.{◌≡◌, ℕ, Result, Ok, ap, sym, subst, ◌∙◌}
use Rattle.phase_modes.specs.declared.reg.Mode.{Mode}
use Rattle.phase_model.specs.declared.history.Event.TheVariants.{Reg}
use Rattle.phase_model.specs.Rules.{Story}
use Rattle.phaser_judge.specs.declared.event.Named.{Named}
use Rattle.phaser_judge.specs.declared.refused.Refused.{Refused}
use Rattle.phaser_judge.specs.Standings.{Standing, renamed_event}
use Rattle.phaser_judge.specs.Reasons.{said, said_of, verdict}
use Rattle.phaser_judge.specs.inner.Steps.{left, left_by}

-- it is told as the story's phaser tells it
pub reg_told : (v s : Standing) → v ≡ s → (e : Named) (q : ℕ) (m : Mode) (r : Result (Unit {0}) Refused)
    → renamed_event s e ≡ Ok (Reg q s.next m) → said v.story (Reg q v.next m) ≡ r → r ≡ verdict s e
reg_told v s same e q m r k l =
    sym (ap (λ x. said_of s.story x) k ∙ subst (λ (w : Standing). said w.story (Reg q w.next m) ≡ r) same l)

-- and left as it leaves it
pub reg_left : (v s : Standing) → v ≡ s → (e : Named) (q : ℕ) (m : Mode) (t : Story)
    → renamed_event s e ≡ Ok (Reg q s.next m) → t ≡ left v.story (Reg q v.next m)
    → t ≡ left_by s.story (renamed_event s e)
reg_left v s same e q m t k l =
    subst (λ (w : Standing). t ≡ left w.story (Reg q w.next m)) same l ∙ sym (ap (λ x. left_by s.story x) k)
