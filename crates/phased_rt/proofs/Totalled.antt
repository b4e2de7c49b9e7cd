-- What a run's trace and its report add up to is what its phasers' parts do.
use Rattle.std.proofs.Common.{◌≡◌, ℕ, Bool, true, false, ◌==◌, not, List, [], ◌∷◌, ◌++◌, length, map, reverse, count_by, refl, ap, sym, ◌∙◌, append_assoc, arith}
use Rattle.std.specs.Prelude.{if◌then◌else◌}
use Rattle.std.specs.List.{sum_by, filter, flat_map, range_with_len, All}
use Rattle.std.proofs.lemmas.List.Elements.{All-append}
use Rattle.std.proofs.lemmas.List.Sums.{sum_by-append}
use Rattle.std.proofs.lemmas.List.Sorted.{sum_by-IsPermutation}
use Rattle.std.proofs.lemmas.Bool.{true≢false}
use Rattle.phase_modes.specs.declared.limits.Limits.{Limits}
use Rattle.phase_modes.specs.Lists.{is_empty}
use Rattle.phase_model.specs.declared.history.Event.{Event}
use Rattle.phase_model.specs.Amounts.{Amount, totals}
use Rattle.world_model.specs.declared.event.WorldEvent.{WorldEvent}
use Rattle.world_model.specs.Numbers.{is_phaser}
use Rattle.world_model.specs.Parts.{phaser_past}
use Rattle.world_model.specs.Report.{Report, below, report_of}
use Rattle.trace_model.specs.declared.event.TracedStep.TheVariants.{Make, Reg, Sig, Claim, Did, Pass, Send, Look, Drop}
use Rattle.trace_model.specs.declared.event.TracedEvent.{TracedEvent}
use Rattle.trace_model.specs.declared.event.TracedEvent.TheVariants.{Phaser, Finish, Begin, Refuse, Fail}
use Rattle.trace_model.specs.Run.{Entry}
use Rattle.trace_model.specs.Explained.{past}
use Rattle.trace_model.specs.Parts.{IsTraceOf}
use Rattle.phaser_cell.specs.Telling.{ArePhaserParts}
use Rattle.share_book.specs.declared.gathering.Totals.{Totals}
use Rattle.share_book.specs.Accounts.{sum, amount_of}
use Rattle.phased_rt.specs.Told.{IsToldBy}
use Rattle.phased_rt.specs.Totals.{is_phasers, all_totals, AreTotals}
use Rattle.task_remains.proofs.Sums.{sum_map, same_amounts}
use Rattle.phased_rt.proofs.Sums.{sum_same, sum_reverse, sum_flat, sum_filter}
use Rattle.phased_rt.proofs.Adding.{IsPart, weight, weigh, past_weighs, parts_weigh, all_weigh, others_weigh}
use Rattle.phased_rt.proofs.Owned.{IsApart, finishes_apart, logs_apart}

-- the trace weighs what the phasers' parts do
trace_weighs : (f : Amount → ℕ) → IsPart f → (test : ℕ → Bool) (phasers others : List (List Entry)) (es : List Entry)
    → IsTraceOf (phasers ++ others) es → All (λ p. IsApart p) others
    → weigh f test es ≡ sum_by (λ p. weigh f test p) phasers
trace_weighs f part test phasers others es is apart =
    let each : Entry → ℕ = λ e. f (weight test e.1) in
    omega (
      arith,
      sum_by-IsPermutation each (flat_map (λ p. p) (phasers ++ others)) es is.as_often,
      sum_flat each (phasers ++ others),
      sum_by-append (λ p. sum_by each p) phasers others,
      others_weigh f part test others apart,
    )

-- by one of the three numbers
histories_add : (f : Amount → ℕ) → IsPart f → (all : ℕ) (phasers others : List (List Entry)) (sums : List Amount) (es : List Entry)
    → IsTraceOf (phasers ++ others) es → All (λ p. IsApart p) others → ArePhaserParts 0 phasers sums → length phasers ≡ all
    → sum_by f (map (λ n. totals (phaser_past n (past (reverse es)))) (range_with_len 0 all)) ≡ sum_by f sums
histories_add f part all phasers others sums es is apart are whole =
    let w = past (reverse es) in
    let numbers = range_with_len 0 all in
    sum_map f (λ n. totals (phaser_past n w)) numbers
    ∙ (sum_same (λ n. f (totals (phaser_past n w))) (λ n. sum_by (λ p. weigh f (λ m. m == n) p) phasers) numbers
    (λ n. past_weighs f part n (reverse es)
    ∙ (sum_reverse (λ (e : Entry). f (weight (λ m. m == n) e.1)) es
    ∙ trace_weighs f part (λ m. m == n) phasers others es is apart))
    ∙ parts_weigh f part all 0 phasers sums are (omega arith))

are_events : IsPart (λ a. a.events)
are_events = record { adds = λ a b. refl; none = refl }

are_up : IsPart (λ a. a.up)
are_up = record { adds = λ a b. refl; none = refl }

are_down : IsPart (λ a. a.down)
are_down = record { adds = λ a b. refl; none = refl }

-- the histories of all phasers in the trace add up to what the phasers' parts do
pub totalled : (l : Limits) (phasers others : List (List Entry)) (sums : List Amount) (es : List Entry)
    → IsTraceOf (phasers ++ others) es → All (λ p. IsApart p) others → ArePhaserParts 0 phasers sums → length phasers ≡ l.phasers
    → all_totals l (past (reverse es)) ≡ sum sums
totalled l phasers others sums es is apart are whole =
    same_amounts (all_totals l (past (reverse es))) (sum sums)
    (histories_add (λ a. a.events) are_events l.phasers phasers others sums es is apart are whole)
    (histories_add (λ a. a.up) are_up l.phasers phasers others sums es is apart are whole)
    (histories_add (λ a. a.down) are_down l.phasers phasers others sums es is apart are whole)

-- ---- how many events are on phasers

weighs_one : (e : TracedEvent) → (weight (λ m. true) e).events ≡ (if is_phasers e then 1 else 0)
weighs_one (Phaser m (Make t mode terms)) = refl
weighs_one (Phaser m (Reg q t mode)) = refl
weighs_one (Phaser m (Sig t x)) = refl
weighs_one (Phaser m (Claim t)) = refl
weighs_one (Phaser m (Did t)) = refl
weighs_one (Phaser m (Pass t)) = refl
weighs_one (Phaser m (Send t a v)) = refl
weighs_one (Phaser m (Look t a x)) = refl
weighs_one (Phaser m (Drop t)) = refl
weighs_one (Finish g e) = refl
weighs_one (Begin t b) = refl
weighs_one (Refuse t a k) = refl
weighs_one (Fail t k) = refl

pub events_counted : (phasers others : List (List Entry)) (sums : List Amount) (es : List Entry)
    → IsTraceOf (phasers ++ others) es → All (λ p. IsApart p) others → ArePhaserParts 0 phasers sums
    → count_by (λ e. is_phasers e.1) es ≡ (sum sums).events
events_counted phasers others sums es is apart are =
    let counted : count_by (λ (e : Entry). is_phasers e.1) es ≡ weigh (λ a. a.events) (λ m. true) es =
    sum_same (λ (e : Entry). if is_phasers e.1 then 1 else 0) (λ (e : Entry). (weight (λ m. true) e.1).events) es
    (λ e. sym (weighs_one e.1))
    in
    counted
    ∙ (trace_weighs (λ a. a.events) are_events (λ m. true) phasers others es is apart
    ∙ all_weigh (λ a. a.events) are_events 0 phasers sums are)

-- ---- in the report

nothing_of : (f : Amount → ℕ) → IsPart f → (h : List Event) → not (is_empty h) ≡ false → f (totals h) ≡ 0
nothing_of f part [] none = part.none
nothing_of f part (e ∷ h) none = absurd (true≢false none)

-- a phaser that nobody made adds nothing
line_adds : (f : Amount → ℕ) → IsPart f → (l : Limits) (w : List WorldEvent)
    → sum_by (λ (h : List Event). f (totals h)) (map (λ n. phaser_past n w) (filter (λ n. is_phaser n w) (below l.phasers)))
    ≡ sum_by f (map (λ n. totals (phaser_past n w)) (below l.phasers))
line_adds f part l w =
    sum_map (λ (h : List Event). f (totals h)) (λ n. phaser_past n w) (filter (λ n. is_phaser n w) (below l.phasers))
    ∙ (sum_filter (λ n. f (totals (phaser_past n w))) (λ n. is_phaser n w) (below l.phasers)
    (λ n none. nothing_of f part (phaser_past n w) none)
    ∙ sym (sum_map f (λ n. totals (phaser_past n w)) (below l.phasers)))

-- the report's line has these sums
pub up_reported : (l : Limits) (w : List WorldEvent) → (report_of l w).totals.up ≡ (all_totals l w).up
up_reported l w = line_adds (λ a. a.up) are_up l w

pub down_reported : (l : Limits) (w : List WorldEvent) → (report_of l w).totals.down ≡ (all_totals l w).down
down_reported l w = line_adds (λ a. a.down) are_down l w

-- ---- of a run

-- what a run says of its totals, by what its trace was put together from
pub told_totals : (l : Limits) (es : List Entry) (t : Totals) (world : Report) → IsToldBy l es t → world ≡ report_of l (past (reverse es))
    → AreTotals l es world.totals t
told_totals l es t world told is =
    let others : List (List Entry) = told.finishes ++ told.logs in
    let merged : IsTraceOf (told.phasers ++ others) es = rw append_assoc at told.merged in
    let apart : All (λ p. IsApart p) others =
    All-append (λ p. IsApart p) told.finishes told.logs (finishes_apart 0 told.finishes told.ended told.of_finishes) (logs_apart told.owners told.logs told.of_tasks)
    in
    let all : amount_of t ≡ all_totals l (past (reverse es)) =
    told.added ∙ sym (totalled l told.phasers others told.sums es merged apart told.of_phasers told.all_phasers)
    in
    record {
      sums = all;
      events = ap (λ (a : Amount). a.events) told.added ∙ sym (events_counted told.phasers others told.sums es merged apart told.of_phasers);
      up = ap (λ (a : Amount). a.up) all ∙ (sym (up_reported l (past (reverse es))) ∙ ap (λ (r : Report). r.totals.up) (sym is));
      down = ap (λ (a : Amount). a.down) all ∙ (sym (down_reported l (past (reverse es))) ∙ ap (λ (r : Report). r.totals.down) (sym is));
    }
