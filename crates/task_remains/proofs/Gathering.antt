-- One log more, of a task that has none yet.
use Rattle.std.proofs.Common.{◌≡◌, ◌≢◌, ℕ, ◌+◌, true, false, ◌||◌, ◌==◌, List, [], ◌∷◌, ◌++◌, Some, length, length-append, refl, sym, ap, subst, ◌∙◌}
use Rattle.std.specs.Prelude.{slice_get}
use Rattle.std.specs.List.{All}
use Rattle.std.proofs.lemmas.Bool.{eq-eqb, or_left, or_right, true≢false}
use Rattle.std.proofs.lemmas.List.Elements.{All-nil, All-head, All-tail, All-weaker, All-push}
use Rattle.phase_modes.specs.Numbers.{Numbers, has_number}
use Rattle.trace_model.specs.Projections.{log, whose, AreOf}
use Rattle.trace_model.specs.Run.{Entry}
use Rattle.table_receipts.specs.Logs.{Sight}
use Rattle.task_remains.specs.Remaining.{AreLogsOf, AreDifferent}
use Rattle.tasks_in_flight.specs.Heard.{Seen}
use Rattle.tasks_in_flight.specs.Said.{has_end}
use Rattle.task_remains.specs.inner.Logs.{AreGathered, AreAllLogs, IsToldIn}

logs_more : (ts : List ℕ) (ps : List (List Entry)) (t : ℕ) (p : List Entry) → AreLogsOf ts ps → AreOf (log t) p
    → AreLogsOf (ts ++ t ∷ []) (ps ++ p ∷ [])
logs_more [] [] t p own one = (one, tt)
logs_more (u ∷ us) (q ∷ qs) t p own one = (own.0, logs_more us qs t p own.1 one)
logs_more [] (q ∷ qs) t p own one = absurd own
logs_more (u ∷ us) [] t p own one = absurd own

different_more : (ts : List ℕ) (t : ℕ) → AreDifferent ts → All (λ u. u ≢ t) ts → AreDifferent (ts ++ t ∷ [])
different_more [] t different new = (All-nil (λ u. u ≢ t), tt)
different_more (u ∷ us) t different new = (
  All-push (λ v. v ≢ u) us t different.0 (λ same. All-head (λ v. v ≢ t) u us new (sym same)),
  different_more us t different.1 (All-tail (λ v. v ≢ t) u us new),
)

-- before any log
pub none_gathered : (s : Numbers) → AreGathered s []
none_gathered s = ([], tt, tt, All-nil (λ t. has_number s t ≡ true))

-- the log of a task that was not in the set, and now is
pub one_gathered : (s s' : Numbers) (ps : List (List Entry)) (t : ℕ) (p : List Entry) → AreGathered s ps → AreOf (log t) p
    → has_number s t ≡ false → ((n : ℕ) → has_number s' n ≡ (t == n || has_number s n)) → AreGathered s' (ps ++ p ∷ [])
one_gathered s s' ps t p before own absent has =
    let ts = before.0 in
    let new : All (λ u. u ≢ t) ts =
    All-weaker (λ u. has_number s u ≡ true) (λ u. u ≢ t)
    (λ u there same. true≢false (sym there ∙ (ap (λ n. has_number s n) same ∙ absent))) ts before.3 in (
      ts ++ t ∷ [],
      logs_more ts ps t p before.1 own,
      different_more ts t before.2 new,
      All-push (λ u. has_number s' u ≡ true) ts t
          (All-weaker (λ u. has_number s u ≡ true) (λ u. has_number s' u ≡ true)
          (λ u there. has u ∙ or_right (t == u) (has_number s u) there) ts before.3)
          (has t ∙ or_left (t == t) (has_number s t) (eq-eqb t t refl)),
    )

-- ---- whose a log is

one_log : (t u : ℕ) → log t ≡ log u → t ≡ u
one_log t u same = cc

-- a log that has its task's end is of one task
pub one_owner : (t u : ℕ) (p : List Entry) → AreOf (log t) p → AreOf (log u) p → has_end p ≡ true → t ≡ u
one_owner t u [] its own ended = absurd (true≢false (sym ended))
one_owner t u (e ∷ p) its own ended =
    one_log t u (sym (All-head (λ (x : Entry). whose x.1 ≡ log t) e p its) ∙ All-head (λ (x : Entry). whose x.1 ≡ log u) e p own)

-- ---- where the phasers' logs stay

pub all_logs : (names : ℕ → ℕ) (phasers : ℕ) (xs ys : List Sight) → ys ≡ xs → AreAllLogs names phasers xs → AreAllLogs names phasers ys
all_logs names phasers xs ys same are = subst (λ (zs : List Sight). AreAllLogs names phasers zs) (sym same) are

pub told_there : (P : Type 0) (Told : ℕ → Seen → Type 0) (ps : List (List Entry)) (xs ys : List Sight) → ys ≡ xs
    → All (IsToldIn P Told xs) ps → All (IsToldIn P Told ys) ps
told_there P Told ps xs ys same told = subst (λ (zs : List Sight). All (IsToldIn P Told zs) ps) (sym same) told

-- of no part everything is told
pub none_told : (P : Type 0) (Told : ℕ → Seen → Type 0) (logs : List Sight) (ps : List (List Entry)) → ps ≡ []
    → All (IsToldIn P Told logs) ps
none_told P Told logs ps none =
    subst (λ (qs : List (List Entry)). All (IsToldIn P Told logs) qs) (sym none) (All-nil (IsToldIn P Told logs))

-- ---- where a part is added at the end

pub one_longer : (ps qs : List (List Entry)) (p : List Entry) → qs ≡ ps ++ p ∷ [] → length qs ≡ length ps + 1
one_longer ps qs p added = ap (λ (xs : List (List Entry)). length xs) added ∙ length-append ps (p ∷ [])

pub at_the_end : (ps : List (List Entry)) (p : List Entry) → slice_get (ps ++ p ∷ []) (length ps) ≡ Some p
at_the_end [] p = refl
at_the_end (q ∷ ps) p = at_the_end ps p

pub last_of : (ps qs : List (List Entry)) (p : List Entry) (n : ℕ) → qs ≡ ps ++ p ∷ [] → length ps ≡ n → slice_get qs n ≡ Some p
last_of ps qs p n added many =
    ap (λ (xs : List (List Entry)). slice_get xs n) added ∙ (ap (λ k. slice_get (ps ++ p ∷ []) k) (sym many) ∙ at_the_end ps p)
