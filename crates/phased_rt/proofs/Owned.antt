-- Whose the entries of a run's parts are.
use Rattle.std.proofs.Common.{◌≡◌, ◌≢◌, ℕ, ◌+◌, false, List, [], ◌∷◌, sym, subst, refl}
use Rattle.std.specs.List.{All}
use Rattle.std.proofs.lemmas.List.Elements.{All-nil, All-cons, All-weaker}
use Rattle.phase_model.specs.Amounts.{Amount}
use Rattle.trace_model.specs.declared.event.TracedEvent.{TracedEvent}
use Rattle.trace_model.specs.declared.event.TracedEvent.TheVariants.{Phaser, Finish, Begin, Refuse, Fail}
use Rattle.trace_model.specs.Run.{Entry}
use Rattle.trace_model.specs.Projections.{Whose, phaser, finish, log, whose, AreOf}
use Rattle.trace_model.proofs.Owners.{phasers_tell, finishes_tell}
use Rattle.phaser_cell.specs.Telling.{ArePhaserParts}
use Rattle.scope_locks.specs.Telling.{AreFinishParts, untold}
use Rattle.task_remains.specs.Remaining.{AreLogsOf}
use Rattle.phased_rt.specs.Totals.{is_phasers}

-- parts of the owners of this number, the next and so on
abbrev pub AreOfEach : (ℕ → Whose) → ℕ → List (List Entry) → Type 0
AreOfEach w n [] = Unit {0}
AreOfEach w n (p ∷ ps) = AreOf (w n) p × AreOfEach w (n + 1) ps

pub phasers_owned : (n : ℕ) (ps : List (List Entry)) (sums : List Amount)
    → ArePhaserParts n ps sums → AreOfEach phaser n ps
phasers_owned n [] [] are = are
phasers_owned n (p ∷ ps) (a ∷ sums) are =
    let is = are.0 in
    let own = subst (λ (es : List Entry). AreOf (phaser n) es) (sym is.told)
    (phasers_tell n is.story is.tickets) in
    (own, phasers_owned (n + 1) ps sums are.1)
phasers_owned n [] (a ∷ sums) are = absurd are
phasers_owned n (p ∷ ps) [] are = absurd are

pub finishes_owned : (n : ℕ) (ps : List (List Entry)) (ended : List ℕ)
    → AreFinishParts n ps ended → AreOfEach finish n ps
finishes_owned n [] [] are = are
finishes_owned n (p ∷ ps) (k ∷ ended) are =
    let is = are.0 in
    let own = subst (λ (es : List Entry). AreOf (finish n) es) (sym is.told)
    (finishes_tell n is.past is.tickets (untold n)) in
    (own, finishes_owned (n + 1) ps ended are.1)
finishes_owned n [] (k ∷ ended) are = absurd are
finishes_owned n (p ∷ ps) [] are = absurd are

-- ---- which are no phaser's

-- none of the entries is of a phaser
abbrev pub IsApart : List Entry → Type 0
IsApart es = All (λ e. is_phasers e.1 ≡ false) es

no_phasers : (w : Whose) → ((n : ℕ) → phaser n ≢ w) → (e : TracedEvent) → whose e ≡ w → is_phasers e ≡ false
no_phasers w other (Phaser n s) is = absurd (other n is)
no_phasers w other (Finish f x) is = refl
no_phasers w other (Begin t b) is = refl
no_phasers w other (Refuse t a k) is = refl
no_phasers w other (Fail t k) is = refl

others_apart : (w : Whose) → ((n : ℕ) → phaser n ≢ w) → (es : List Entry) → AreOf w es → IsApart es
others_apart w other es own =
    All-weaker (λ (e : Entry). whose e.1 ≡ w) (λ e. is_phasers e.1 ≡ false)
    (λ e is. no_phasers w other e.1 is) es own

pub no_finish : (n f : ℕ) → phaser n ≢ finish f
no_finish n f same = cc

pub no_log : (n t : ℕ) → phaser n ≢ log t
no_log n t same = cc

pub finishes_apart : (n : ℕ) (ps : List (List Entry)) (ended : List ℕ)
    → AreFinishParts n ps ended → All (λ p. IsApart p) ps
finishes_apart n ps ended are = each_apart n ps (finishes_owned n ps ended are)
  where
    each_apart : (n : ℕ) (ps : List (List Entry)) → AreOfEach finish n ps → All (λ p. IsApart p) ps
    each_apart n [] are = All-nil (λ p. IsApart p)
    each_apart n (p ∷ ps) are =
        All-cons (λ q. IsApart q) p ps (others_apart (finish n) (λ m. no_finish m n) p are.0)
        (each_apart (n + 1) ps are.1)

pub logs_apart : (ts : List ℕ) (ps : List (List Entry)) → AreLogsOf ts ps → All (λ p. IsApart p) ps
logs_apart [] [] own = All-nil (λ p. IsApart p)
logs_apart (t ∷ ts) (p ∷ ps) own =
    All-cons (λ q. IsApart q) p ps (others_apart (log t) (λ m. no_log m t) p own.0) (logs_apart ts ps own.1)
logs_apart [] (p ∷ ps) own = absurd own
logs_apart (t ∷ ts) [] own = absurd own
