-- What a round leaves behind a phaser's lock.
use Rattle.std.proofs.Common.{◌≡◌, refl, ap, ◌∙◌, ℕ, Bool, true, false, ◌&&◌, if◌then◌else◌, Option, None, Some, List, [], ◌∷◌}
use Rattle.std.specs.Prelude.{slice_get, unwrap_or}
use Rattle.phase_modes.specs.Lists.{is_empty}
use Rattle.phase_model.specs.Ordering.{IsOrdered}
use Rattle.phase_model.specs.Phases.{waits}
use Rattle.phase_model.specs.Registration.{registration}
use Rattle.phase_model.specs.Rules.{Story, is_legal}
use Rattle.phaser_core.specs.declared.parked.Parked.{Parked}
use Rattle.phaser_core.specs.Settled.{IsSettled}
use Rattle.long_locks.specs.declared.cell.LongCell.{LongCell}
use Rattle.long_locks.specs.declared.course.Then.{Then}
use Rattle.level_phaser.specs.Rounds.{are_level}
use Rattle.phaser_c.specs.Rounds.{level_of}

-- what a phaser's lock guards while nobody is parked
pub settled_alone : (s t : Story) (ps : List (Parked Then)) → ps ≡ [] → t.limits ≡ s.limits → IsSettled s ps
    → is_legal t.limits t.terms t.past ≡ true → IsOrdered t.past → IsSettled t ps
settled_alone s t ps none same k legal ordered =
    rw none (record {
      regs = rw same k.regs;
      legal = legal;
      ordered = ordered;
      waiting = refl;
      once = refl;
    })

-- if the first of these tasks isn't registered, they don't stand level
pub none_level : (t : ℕ) (ts : List ℕ) (c : LongCell Then) → slice_get ts 0 ≡ Some t
    → registration t c.state.story.past ≡ None → level_of ts c ≡ None
none_level t [] c is none = refl
none_level t (u ∷ us) c is none =
    let same : u ≡ t = ap (λ (o : Option ℕ). unwrap_or o u) is in
    let absent : registration u c.state.story.past ≡ None = ap (λ (x : ℕ). registration x c.state.story.past) same ∙ none in
    rw absent (nothing (is_empty c.parked.items) (are_level (waits u c.state.story.past) c.state.story us) (waits u c.state.story.past))
  where
    nothing : (a b : Bool) (p : ℕ) → (if a && (false && b) then Some p else None) ≡ None
    nothing true b p = refl
    nothing false b p = refl
