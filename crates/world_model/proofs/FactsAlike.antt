-- Where two answer alike what is asked of a task, an act is refused by the same.
use Rattle.std.proofs.Common.{◌≡◌, ℕ, ◌==◌, Bool, true, false, not, nat_lt, cond, List, [], ◌∷◌, Option, Some, refl, ap}
use Rattle.std.specs.List.{list_any}
use Rattle.phase_modes.specs.declared.limits.Limits.{Limits}
use Rattle.phase_modes.specs.declared.reg.Mode.{Mode}
use Rattle.phase_modes.specs.declared.phased.Pair.{Pair}
use Rattle.phase_modes.specs.declared.refusal.Refusal.{Refusal}
use Rattle.phase_modes.specs.declared.refusal.Refusal.TheVariants.{NotRegistered, AlreadySignalled, NotSignalled, MoreThanParent, OutsideScope, RegisteredTwice, TasksFull, FinishOpen, NoFinish}
use Rattle.phase_modes.specs.Refusal.{first_refusal}
use Rattle.world_model.specs.declared.event.Begun.{Begun}
use Rattle.world_model.specs.declared.event.Begun.TheVariants.{Async, Signal, Wait, Next, NextSingle, Shut, End}
use Rattle.world_model.specs.declared.event.Tried.{Tried}
use Rattle.world_model.specs.declared.event.Tried.TheVariants.{Begun as Beginning, New, Open, Send, Look}
use Rattle.world_model.specs.ActConditions.{Facts, pair_conditions, begin_conditions, own_conditions}

-- they answer alike; of a phaser that the task isn't on no more is asked
pub record Alike (k q : Facts) : Type 0 where
  pub is_on : (n : ℕ) → k.is_on n ≡ q.is_on n
  pub may_give : (m : Mode) (n : ℕ) → q.is_on n ≡ true → k.may_give m n ≡ q.may_give m n
  pub is_inside : (n : ℕ) → q.is_on n ≡ true → k.is_inside n ≡ q.is_inside n
  pub phasers : k.phasers ≡ q.phasers
  pub leads : k.leads ≡ q.leads
  pub owes : k.owes ≡ q.owes
  pub has_singles : k.has_singles ≡ q.has_singles
  pub all_shut : k.all_shut ≡ q.all_shut
  pub acts : k.acts ≡ q.acts

-- the four conditions of a pair
four : (a b c d e f : Bool) (o p : Option Refusal) → (a ≡ true → b ≡ e) → (a ≡ true → c ≡ f) → o ≡ p
    → cond a (cond b (cond c (cond d o (Some RegisteredTwice)) (Some OutsideScope)) (Some MoreThanParent))
    (Some NotRegistered)
    ≡ cond a (cond e (cond f (cond d p (Some RegisteredTwice)) (Some OutsideScope)) (Some MoreThanParent))
    (Some NotRegistered)
four false b c d e f o p x y z = refl
four true b c d e f o p x y z = rw (x refl, y refl, z) refl

module _ (l : Limits) (k q : Facts) (same : Alike k q) where
  pairs_alike : (named : List ℕ) (ps : List Pair)
      → first_refusal (pair_conditions k named ps) ≡ first_refusal (pair_conditions q named ps)
  pairs_alike named [] = refl
  pairs_alike named (p ∷ ps) =
      let n = p.phaser in
      rw (same.is_on n)
      (four (q.is_on n) (k.may_give p.mode n) (k.is_inside n) (not (list_any (λ m. m == n) named))
      (q.may_give p.mode n) (q.is_inside n) _ _ (same.may_give p.mode n) (same.is_inside n)
      (pairs_alike (n ∷ named) ps))

  begin_alike : (b : Begun) → first_refusal (begin_conditions l k b) ≡ first_refusal (begin_conditions l q b)
  begin_alike (Async c pairs) = ap (λ o. cond (nat_lt c l.tasks) o (Some TasksFull)) (pairs_alike [] pairs)
  begin_alike Signal = ap (λ b. first_refusal ((AlreadySignalled, not b) ∷ [])) same.leads
  begin_alike Wait = ap (λ b. first_refusal ((NotSignalled, not b) ∷ [])) same.owes
  begin_alike Next = refl
  begin_alike (NextSingle x) = rw (same.phasers, same.has_singles, same.leads) refl
  begin_alike Shut = ap (λ b. first_refusal ((NoFinish, not b) ∷ [])) same.all_shut
  begin_alike End = ap (λ b. first_refusal ((FinishOpen, b) ∷ [])) same.all_shut

  pub own_alike : (a : Tried) → first_refusal (own_conditions l k a) ≡ first_refusal (own_conditions l q a)
  own_alike (Beginning b) = begin_alike b
  own_alike (New n m terms) = rw (same.phasers) refl
  own_alike (Open f) = refl
  own_alike (Send n a v) = refl
  own_alike (Look n a) = refl
