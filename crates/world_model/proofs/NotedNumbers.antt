-- An entry that says that a task was refused, or gave up, has the number of a refusal.
use Rattle.std.proofs.Common.{ℕ, ◌≡◌, Bool, true, false, ◌||◌, ◌==◌, List, refl, sym, subst}
use Rattle.std.specs.Prelude.{is_some, not, ◌&&◌, Ok, Err}
use Rattle.std.proofs.lemmas.Bool.{eqb-true, false≢true, and_parts}
use Rattle.phase_modes.specs.declared.limits.Limits.{Limits}
use Rattle.phase_modes.specs.declared.refusal.Refusal.{Refusal}
use Rattle.phase_modes.specs.declared.refusal.Refusal.TheVariants.{NotRegistered, NoSignal, NoWait, NoSingle, AlreadySignalled, NotSignalled, SingleMismatch, OnePhaserOnly, NoAccumulator, NoPhaseYet, MoreThanParent, OutsideScope, RegisteredTwice, RegsFull, HistoryFull, PhasersFull, TasksFull, FinishesFull, ActsFull, FinishOpen, NoFinish, NotNow, Memory, BadText, NotExplained, SharesDiffer}
use Rattle.phase_modes.specs.Refusal.{number_of}
use Rattle.phase_modes.specs.RefusalNumbers.{refusal_with}
use Rattle.world_model.specs.declared.event.WorldEvent.{WorldEvent}
use Rattle.world_model.specs.Acts.{act_reply}
use Rattle.world_model.specs.GivingUp.{is_refused_by, may_fail, may_refuse}

has_number : (r : Refusal) → is_some (refusal_with (number_of r)) ≡ true
has_number NotRegistered = refl
has_number NoSignal = refl
has_number NoWait = refl
has_number NoSingle = refl
has_number AlreadySignalled = refl
has_number NotSignalled = refl
has_number SingleMismatch = refl
has_number OnePhaserOnly = refl
has_number NoAccumulator = refl
has_number NoPhaseYet = refl
has_number MoreThanParent = refl
has_number OutsideScope = refl
has_number RegisteredTwice = refl
has_number RegsFull = refl
has_number HistoryFull = refl
has_number PhasersFull = refl
has_number TasksFull = refl
has_number FinishesFull = refl
has_number ActsFull = refl
has_number FinishOpen = refl
has_number NoFinish = refl
has_number NotNow = refl
has_number Memory = refl
has_number (BadText p) = refl
has_number (NotExplained p) = refl
has_number SharesDiffer = refl

refused_number : (n : ℕ) (r : _) → is_refused_by n r ≡ true → is_some (refusal_with n) ≡ true
refused_number n (Ok x) k = absurd (false≢true k)
refused_number n (Err r) k = subst (λ m. is_some (refusal_with m) ≡ true) (eqb-true (number_of r) n k) (has_number r)

pub number_of_refuse : (l : Limits) (w : List WorldEvent) (t n : ℕ) (a : _) → may_refuse l w t a n ≡ true
    → is_some (refusal_with n) ≡ true
number_of_refuse l w t n a k =
    refused_number n (act_reply l w t a)
    (and_parts (is_refused_by n (act_reply l w t a)) (not (n == 22))
    (and_parts (is_refused_by n (act_reply l w t a) && not (n == 22)) (not (n == 23)) k).0).0

given : (n m : ℕ) → (n == m) ≡ true → is_some (refusal_with m) ≡ true → is_some (refusal_with n) ≡ true
given n m k some = subst (λ v. is_some (refusal_with v) ≡ true) (sym (eqb-true n m k)) some

pub number_of_fail : (l : Limits) (w : List WorldEvent) (t n : ℕ) → may_fail l w t n ≡ true
    → is_some (refusal_with n) ≡ true
number_of_fail l w t n k = by (n == 7) (n == 15) (n == 14) (n == 23) _ _ _ refl refl refl refl k
  where
    by : (a b c d x y z : Bool) → (n == 7) ≡ a → (n == 15) ≡ b → (n == 14) ≡ c → (n == 23) ≡ d
        → ((((a || b) && x) || (c && y)) || (d && z)) ≡ true → is_some (refusal_with n) ≡ true
    by true b c d x y z p q r s h = given n 7 p refl
    by false true c d x y z p q r s h = given n 15 q refl
    by false false true d x y z p q r s h = given n 14 r refl
    by false false false true x y z p q r s h = given n 23 s refl
    by false false false false x y z p q r s h = absurd (false≢true h)
