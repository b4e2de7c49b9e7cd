-- What a run's trace has of each phaser, each finish and each task is exactly its part.
use Rattle.std.proofs.Common.{◌≡◌, ◌≢◌, ℕ, ◌+◌, ◌≤◌, List, [], ◌∷◌, ◌++◌, length, map, refl, sym, ap₂, subst, ◌∙◌, append_assoc, arith}
use Rattle.std.specs.List.{All, range_with_len}
use Rattle.std.proofs.lemmas.List.Elements.{All-nil, All-cons, All-head, All-tail, All-append, All-push, All-weaker}
use Rattle.phase_modes.specs.declared.limits.Limits.{Limits}
use Rattle.phase_model.specs.Amounts.{Amount}
use Rattle.share_book.specs.declared.gathering.Totals.{Totals}
use Rattle.world_model.specs.Report.{below}
use Rattle.trace_model.specs.Run.{Entry}
use Rattle.trace_model.specs.Parts.{IsTraceOf, StandIn}
use Rattle.trace_model.specs.Projections.{Whose, phaser, finish, log, whose, projection, AreOf, AreNotOf}
use Rattle.trace_model.proofs.Owners.{projection_is_part}
use Rattle.phaser_cell.specs.Telling.{ArePhaserParts}
use Rattle.scope_locks.specs.Telling.{AreFinishParts}
use Rattle.task_remains.specs.Remaining.{AreLogsOf, AreDifferent}
use Rattle.phased_rt.specs.Told.{IsToldBy}
use Rattle.phased_rt.proofs.Owned.{AreOfEach, phasers_owned, finishes_owned}

-- ---- entries of another

of_another : (w v : Whose) (p : List Entry) → AreOf v p → v ≢ w → AreNotOf w p
of_another w v p own other =
    All-weaker (λ (e : Entry). whose e.1 ≡ v) (λ e. whose e.1 ≢ w) (λ e is same. other (sym is ∙ same)) p own

-- none of these parts is of an owner that has none of their numbers
of_others : (w : ℕ → Whose) (v : Whose) (n : ℕ) (ps : List (List Entry))
    → ((m : ℕ) → n ≤ m → w m ≢ v) → AreOfEach w n ps → All (AreNotOf v) ps
of_others w v n [] other own = All-nil (AreNotOf v)
of_others w v n (p ∷ ps) other own =
    All-cons (AreNotOf v) p ps (of_another v (w n) p own.0 (other n (omega arith)))
    (of_others w v (n + 1) ps (λ m above. other m (omega (arith, above))) own.1)

of_logs : (v : Whose) → ((t : ℕ) → log t ≢ v) → (ts : List ℕ) (ps : List (List Entry)) → AreLogsOf ts ps
    → All (AreNotOf v) ps
of_logs v other [] [] own = All-nil (AreNotOf v)
of_logs v other (t ∷ ts) (p ∷ ps) own =
    All-cons (AreNotOf v) p ps (of_another v (log t) p own.0 (other t)) (of_logs v other ts ps own.1)
of_logs v other [] (p ∷ ps) own = absurd own
of_logs v other (t ∷ ts) [] own = absurd own

-- ---- of owners in a row

each_traced : (w : ℕ → Whose) → ((m n : ℕ) → w m ≡ w n → m ≡ n)
    → (n : ℕ) (before ps after : List (List Entry)) (es : List Entry)
    → IsTraceOf (before ++ (ps ++ after)) es → AreOfEach w n ps
    → ((m : ℕ) → n ≤ m → All (AreNotOf (w m)) before) → ((m : ℕ) → All (AreNotOf (w m)) after)
    → map (λ k. projection (w k) es) (range_with_len n (length ps)) ≡ ps
each_traced w one n before [] after es trace own front back = refl
each_traced w one n before (p ∷ ps) after es trace own front back =
    let rest : All (AreNotOf (w n)) ps =
    of_others w (w n) (n + 1) ps (λ m above same. absurd (omega (arith, above, one m n same))) own.1 in
    let none : All (AreNotOf (w n)) (before ++ (ps ++ after)) =
    All-append (AreNotOf (w n)) before (ps ++ after) (front n (omega arith))
    (All-append (AreNotOf (w n)) ps after rest (back n)) in
    let moved : IsTraceOf ((before ++ p ∷ []) ++ (ps ++ after)) es =
    subst (λ (l : List (List Entry)). IsTraceOf l es) (sym (append_assoc before (p ∷ []) (ps ++ after))) trace
    in
    ap₂ (λ (x : List Entry) (xs : List (List Entry)). x ∷ xs)
    (projection_is_part (w n) p before (ps ++ after) es trace own.0 none)
    (each_traced w one (n + 1) (before ++ p ∷ []) ps after es moved own.1
    (λ m above. All-push (AreNotOf (w m)) before p (front m (omega (arith, above)))
    (of_another (w m) (w n) p own.0 (λ same. absurd (omega (arith, above, one n m same)))))
    back)

one_log : (t u : ℕ) → log t ≡ log u → t ≡ u
one_log t u same = cc

-- none of these logs is of a task that is none of theirs
of_other_logs : (t : ℕ) (ts : List ℕ) (ps : List (List Entry)) → All (λ u. u ≢ t) ts → AreLogsOf ts ps
    → All (AreNotOf (log t)) ps
of_other_logs t [] [] other own = All-nil (AreNotOf (log t))
of_other_logs t (u ∷ us) (p ∷ ps) other own =
    All-cons (AreNotOf (log t)) p ps
    (of_another (log t) (log u) p own.0 (λ same. All-head (λ v. v ≢ t) u us other (one_log u t same)))
    (of_other_logs t us ps (All-tail (λ v. v ≢ t) u us other) own.1)
of_other_logs t [] (p ∷ ps) other own = absurd own
of_other_logs t (u ∷ us) [] other own = absurd own

-- parts before these logs, and one log more
longer : (t : ℕ) (ts : List ℕ) (p : List Entry) (before : List (List Entry)) → AreOf (log t) p → All (λ u. u ≢ t) ts
    → All (λ u. All (AreNotOf (log u)) before) ts → All (λ u. All (AreNotOf (log u)) (before ++ p ∷ [])) ts
longer t [] p before own other front = All-nil (λ u. All (AreNotOf (log u)) (before ++ p ∷ []))
longer t (u ∷ us) p before own other front =
    All-cons (λ v. All (AreNotOf (log v)) (before ++ p ∷ [])) u us
    (All-push (AreNotOf (log u)) before p (All-head (λ v. All (AreNotOf (log v)) before) u us front)
    (of_another (log u) (log t) p own (λ same. All-head (λ v. v ≢ t) u us other (sym (one_log t u same)))))
    (longer t us p before own (All-tail (λ v. v ≢ t) u us other) (All-tail (λ v. All (AreNotOf (log v)) before) u us front))

-- of tasks' logs, after parts that are none of theirs
each_log_traced : (ts : List ℕ) (before ps : List (List Entry)) (es : List Entry) → IsTraceOf (before ++ ps) es → AreLogsOf ts ps
    → AreDifferent ts → All (λ t. All (AreNotOf (log t)) before) ts → map (λ t. projection (log t) es) ts ≡ ps
each_log_traced [] before [] es trace own different front = refl
each_log_traced (t ∷ ts) before (p ∷ ps) es trace own different front =
    let rest : All (AreNotOf (log t)) ps = of_other_logs t ts ps different.0 own.1 in
    let mine : All (AreNotOf (log t)) before = All-head (λ u. All (AreNotOf (log u)) before) t ts front in
    let moved : IsTraceOf ((before ++ p ∷ []) ++ ps) es =
    subst (λ (l : List (List Entry)). IsTraceOf l es) (sym (append_assoc before (p ∷ []) ps)) trace in
    ap₂ (λ (x : List Entry) (xs : List (List Entry)). x ∷ xs)
    (projection_is_part (log t) p before ps es trace own.0 (All-append (AreNotOf (log t)) before ps mine rest))
    (each_log_traced ts (before ++ p ∷ []) ps es moved own.1 different.1
    (longer t ts p before own.0 different.0 (All-tail (λ u. All (AreNotOf (log u)) before) t ts front)))
each_log_traced [] before (p ∷ ps) es trace own different front = absurd own
each_log_traced (t ∷ ts) before [] es trace own different front = absurd own

one_phaser : (m n : ℕ) → phaser m ≡ phaser n → m ≡ n
one_phaser m n same = cc

one_finish : (m n : ℕ) → finish m ≡ finish n → m ≡ n
one_finish m n same = cc

finish_no_phaser : (f n : ℕ) → finish f ≢ phaser n
finish_no_phaser f n same = cc

phaser_no_finish : (n f : ℕ) → phaser n ≢ finish f
phaser_no_finish n f same = cc

log_no_phaser : (t n : ℕ) → log t ≢ phaser n
log_no_phaser t n same = cc

log_no_finish : (t f : ℕ) → log t ≢ finish f
log_no_finish t f same = cc

-- ---- of a run

-- by the parts alone
pub phasers_from : (phasers finishes logs : List (List Entry)) (owners : List ℕ) (sums : List Amount) (ended : List ℕ) (es : List Entry)
    → IsTraceOf ((phasers ++ finishes) ++ logs) es → ArePhaserParts 0 phasers sums → AreFinishParts 0 finishes ended
    → AreLogsOf owners logs
    → map (λ n. projection (phaser n) es) (range_with_len 0 (length phasers)) ≡ phasers
phasers_from phasers finishes logs owners sums ended es merged of_phasers of_finishes of_tasks =
    let parted : IsTraceOf ([] ++ (phasers ++ (finishes ++ logs))) es =
    subst (λ (ps : List (List Entry)). IsTraceOf ps es) (append_assoc phasers finishes logs) merged in
    each_traced phaser one_phaser 0 [] phasers (finishes ++ logs) es parted
    (phasers_owned 0 phasers sums of_phasers) (λ m above. All-nil (AreNotOf (phaser m)))
    (λ m. All-append (AreNotOf (phaser m)) finishes logs
    (of_others finish (phaser m) 0 finishes (λ f above. finish_no_phaser f m)
    (finishes_owned 0 finishes ended of_finishes))
    (of_logs (phaser m) (λ t. log_no_phaser t m) owners logs of_tasks))

pub finishes_from : (phasers finishes logs : List (List Entry)) (owners : List ℕ) (sums : List Amount) (ended : List ℕ) (es : List Entry)
    → IsTraceOf ((phasers ++ finishes) ++ logs) es → ArePhaserParts 0 phasers sums → AreFinishParts 0 finishes ended
    → AreLogsOf owners logs
    → map (λ f. projection (finish f) es) (range_with_len 0 (length finishes)) ≡ finishes
finishes_from phasers finishes logs owners sums ended es merged of_phasers of_finishes of_tasks =
    let parted : IsTraceOf (phasers ++ (finishes ++ logs)) es =
    subst (λ (ps : List (List Entry)). IsTraceOf ps es) (append_assoc phasers finishes logs) merged in
    each_traced finish one_finish 0 phasers finishes logs es parted
    (finishes_owned 0 finishes ended of_finishes)
    (λ m above. of_others phaser (finish m) 0 phasers (λ n from. phaser_no_finish n m)
    (phasers_owned 0 phasers sums of_phasers))
    (λ m. of_logs (finish m) (λ t. log_no_finish t m) owners logs of_tasks)

pub phasers_traced : (l : Limits) (es : List Entry) (t : Totals) (told : IsToldBy l es t)
    → map (λ n. projection (phaser n) es) (below l.phasers) ≡ told.phasers
phasers_traced l es t told =
    subst (λ (k : ℕ). map (λ n. projection (phaser n) es) (range_with_len 0 k) ≡ told.phasers)
    told.all_phasers
    (phasers_from told.phasers told.finishes told.logs told.owners told.sums told.ended es told.merged
    told.of_phasers told.of_finishes told.of_tasks)

pub finishes_traced : (l : Limits) (es : List Entry) (t : Totals) (told : IsToldBy l es t)
    → map (λ f. projection (finish f) es) (below l.finishes) ≡ told.finishes
finishes_traced l es t told =
    subst (λ (k : ℕ). map (λ f. projection (finish f) es) (range_with_len 0 k) ≡ told.finishes)
    told.all_finishes
    (finishes_from told.phasers told.finishes told.logs told.owners told.sums told.ended es told.merged
    told.of_phasers told.of_finishes told.of_tasks)

-- no phaser's part and no finish's is of a task's log
no_logs : (u : ℕ) (phasers finishes : List (List Entry)) (sums : List Amount) (ended : List ℕ)
    → ArePhaserParts 0 phasers sums → AreFinishParts 0 finishes ended → All (AreNotOf (log u)) (phasers ++ finishes)
no_logs u phasers finishes sums ended of_phasers of_finishes =
    All-append (AreNotOf (log u)) phasers finishes
    (of_others phaser (log u) 0 phasers (λ n from same. log_no_phaser u n (sym same)) (phasers_owned 0 phasers sums of_phasers))
    (of_others finish (log u) 0 finishes (λ f from same. log_no_finish u f (sym same)) (finishes_owned 0 finishes ended of_finishes))

-- by the parts alone
pub logs_from : (phasers finishes logs : List (List Entry)) (owners : List ℕ) (sums : List Amount) (ended : List ℕ) (es : List Entry)
    → IsTraceOf ((phasers ++ finishes) ++ logs) es → ArePhaserParts 0 phasers sums → AreFinishParts 0 finishes ended
    → AreLogsOf owners logs → AreDifferent owners
    → map (λ u. projection (log u) es) owners ≡ logs
logs_from phasers finishes logs owners sums ended es merged of_phasers of_finishes of_tasks of_each =
    each_log_traced owners (phasers ++ finishes) logs es merged of_tasks of_each (of_all owners)
  where
    of_all : (us : List ℕ) → All (λ u. All (AreNotOf (log u)) (phasers ++ finishes)) us
    of_all [] = All-nil (λ u. All (AreNotOf (log u)) (phasers ++ finishes))
    of_all (u ∷ us) =
        All-cons (λ v. All (AreNotOf (log v)) (phasers ++ finishes)) u us
        (no_logs u phasers finishes sums ended of_phasers of_finishes) (of_all us)

pub logs_traced : (l : Limits) (es : List Entry) (t : Totals) (told : IsToldBy l es t)
    → map (λ u. projection (log u) es) told.owners ≡ told.logs
logs_traced l es t told =
    logs_from told.phasers told.finishes told.logs told.owners told.sums told.ended es told.merged
    told.of_phasers told.of_finishes told.of_tasks told.of_each

-- a task that left none of the logs has no entry in the trace
pub none_of_task : (t : ℕ) (phasers finishes logs : List (List Entry)) (owners : List ℕ) (sums : List Amount) (ended : List ℕ) (es : List Entry)
    → IsTraceOf ((phasers ++ finishes) ++ logs) es → ArePhaserParts 0 phasers sums → AreFinishParts 0 finishes ended
    → AreLogsOf owners logs → All (λ u. u ≢ t) owners
    → projection (log t) es ≡ []
none_of_task t phasers finishes logs owners sums ended es merged of_phasers of_finishes of_tasks other =
    let parts = (phasers ++ finishes) ++ logs in
    let longer : IsTraceOf ([] ∷ parts) es =
    record { as_often = merged.as_often; in_order = All-cons (λ p. StandIn p es) [] parts tt merged.in_order } in
    projection_is_part (log t) [] [] parts es longer (All-nil (λ (e : Entry). whose e.1 ≡ log t))
    (All-append (AreNotOf (log t)) (phasers ++ finishes) logs
    (no_logs t phasers finishes sums ended of_phasers of_finishes) (of_other_logs t owners logs other of_tasks))
