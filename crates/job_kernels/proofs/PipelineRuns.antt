-- The tasks of a pipeline go by it.
use Rattle.std.proofs.Common.{ℕ, zero, suc, pos, ◌+◌, ◌*◌, ◌≡◌, ◌≤◌, ◌<◌, Bool, true, false, List, ◌∷◌, ◌++◌, flat_map, Option, Some, None, refl, sym, ap, subst, arith, ℤ}
use Rattle.std.specs.List.{range_with_len}
use Rattle.std.proofs.Math.Nat.{min-eq_left}
use Rattle.std.proofs.lemmas.Bool.{le-leb, lt-ltb, le-ltb}
use Rattle.phase_model.specs.declared.op.Look.{Look}
use Rattle.phase_model.specs.declared.op.Look.TheVariants.{Value}
use Rattle.job_script.specs.declared.act.Act.TheVariants.{Send, End}
use Rattle.job_script.specs.declared.act.Answer.{Answer}
use Rattle.job_script.specs.declared.act.Answer.TheVariants.{Started, Done, Saw}
use Rattle.job_kernels.specs.declared.pipeline_body.Moment.{Moment}
use Rattle.job_kernels.specs.declared.pipeline_body.Moment.TheVariants.{Turns, Hears}
use Rattle.job_kernels.specs.declared.pipeline_body.Role.TheVariants as kinds
use Rattle.job_kernels.specs.declared.pipeline_body.PipelineBody.{PipelineBody}
use Rattle.job_kernels.specs.Pipeline.{pipeline_item}
use Rattle.job_kernels.specs.Tasks.{Does, Line, GoesBy}
use Rattle.job_kernels.specs.PipelineTasks.{greatest, most_items, stage_turns, pipeline_next}
use Rattle.job_kernels.specs.PipelineLines.{number_at, shown, items_at, sending, source_lines, sink_lines, stage_lines, SourceGoesBy, StageGoesBy, SinkGoesBy}

abbrev pub Goes : Does PipelineBody → List (Line PipelineBody) → Type 0
Goes does lines = GoesBy pipeline_next does lines

-- ---- the items

-- item i stands i - 1 phases behind the first
number_counts : (k p i : ℕ) → number_at k p ≡ Some i → i + k ≡ p + 1
number_counts zero p i e =
    let same : p + 1 ≡ i = cc e in
    omega (arith, same)
number_counts (suc k) zero i e = cc e
number_counts (suc k) (suc p) i e = omega (arith, number_counts k p i e)

number_from : (k p : ℕ) → number_at k (k + p) ≡ Some (p + 1)
number_from zero p =
    let same : 0 + p ≡ p = omega arith in
    ap (λ q. Some (q + 1)) same
number_from (suc k) p =
    let P : ℕ → Type 0 = λ q. number_at (suc k) q ≡ Some (p + 1) in
    let same : suc (k + p) ≡ suc k + p = omega arith in
    subst P same (number_from k p)

pub items_in_order : (k p : ℕ) → items_at k (k + p) ≡ Value (pos (pipeline_item k (p + 1)))
items_in_order k p = ap (shown k) (number_from k p)

-- an item stays small
item_at_most : (k i : ℕ) → i ≤ most_items → k ≤ 15 → pipeline_item k i ≤ i + 15 * k
item_at_most zero i h few = omega arith
item_at_most (suc k) i h few =
    let before : pipeline_item k i ≤ i + 15 * k = item_at_most k i h (omega arith) in
    omega (arith, before)

pub item_small : (k i : ℕ) → i ≤ most_items → k ≤ 15 → pipeline_item k i ≤ greatest
item_small k i h few = omega (arith, item_at_most k i h few)

-- ---- the source

abbrev pub source : ℕ → ℕ → Bool → PipelineBody
source items sent sends = record {
  role = kinds.Source (record {
    items = items;
    sent = sent;
    sends = sends;
  });
}

pub source_sends : (heard : Answer) (items sent : ℕ) → items ≤ most_items → sent < items →
    pipeline_next heard (source items sent true) ≡ (Send 0 0 (pos (sent + 1)), source items (sent + 1) false)
source_sends heard items sent few h =
    let small : sent + 1 ≤ greatest = omega (arith, few, h) in rw (lt-ltb sent items h, min-eq_left small) refl

source_ends : (heard : Answer) (items : ℕ) → (pipeline_next heard (source items items true)).0 ≡ End
source_ends heard items = rw (le-ltb items items (omega arith)) refl

source_goes : (items c p : ℕ) (heard : Answer) → items ≤ most_items → p + c ≡ items →
    Goes (pipeline_next heard (source items p true)) (flat_map (source_lines items_at) (range_with_len p c))
source_goes items zero p heard few e =
    let P : ℕ → Type 0 = λ u. (pipeline_next heard (source items u true)).0 ≡ End in
    let same : items ≡ p = omega (arith, e) in
    subst P same (source_ends heard items)
source_goes items (suc c) p heard few e =
    let lines : List (Line PipelineBody) = flat_map (source_lines items_at) (range_with_len (p + 1) c) in
    let P : Does PipelineBody → Type 0 = λ d. Goes d (source_lines items_at p ++ lines) in
    subst P (sym (source_sends heard items p few (omega (arith, e))))
    (refl, (refl, source_goes items c (p + 1) Done few (omega (arith, e))))

pub source_goes_by_pipeline : (items : ℕ) → items ≤ most_items → SourceGoesBy items_at items
source_goes_by_pipeline items few = source_goes items items 0 Started few (omega arith)

-- ---- a stage

-- the stage behind phaser k with these fields
abbrev pub stage : ℕ → ℕ → Moment → PipelineBody
stage k turns m = record {
  role = kinds.Stage (record {
    before = k;
    turns = turns;
    moment = m;
  });
}

-- what it does where its turn ends
abbrev pub stage_does : ℕ → ℕ → Moment → Does PipelineBody
stage_does k turns m =
    let does = stage_turns turns (record { before = k; turns = turns; moment = m }) in
    (does.0, record { role = kinds.Stage does.1 })

pub stage_hears : (k turns x : ℕ) → x ≤ greatest →
    pipeline_next (Saw (Value (pos x))) (stage k turns Hears)
    ≡ (Send (k + 1) 0 (pos (x + (k + 1))), stage k turns Turns)
stage_hears k turns x h = rw (le-leb x greatest h) refl

heard_goes : (o : Option ℕ) (k turns : ℕ) (lines : List (Line PipelineBody)) →
    ((i : ℕ) → o ≡ Some i → i ≤ most_items) → k < 15 → ((m : Moment) → Goes (stage_does k turns m) lines) →
    Goes (pipeline_next (Saw (shown k o)) (stage k turns Hears)) (sending (k + 1) (shown (suc k) o) ++ lines)
heard_goes None k turns lines few small rest = rest Hears
heard_goes (Some i) k turns lines few small rest =
    let x : ℕ = pipeline_item k i in
    let P : Does PipelineBody → Type 0 = λ d. Goes d ((Send (k + 1) 0 (pos (x + (k + 1))), Done) ∷ lines) in
    subst P (sym (stage_hears k turns x (item_small k i (few i refl) (omega arith)))) (refl, rest Turns)

-- which items may stand in a phase
pub few_items : (k p c i : ℕ) → p + suc c ≤ most_items + k → number_at k p ≡ Some i → i ≤ most_items
few_items k p c i h e = omega (arith, number_counts k p i e)

stage_goes : (k c p : ℕ) (m : Moment) → p + c ≤ most_items + k → k < 15 →
    Goes (stage_does k c m) (flat_map (stage_lines items_at k) (range_with_len p c))
stage_goes k zero p m few small = refl
stage_goes k (suc c) p m few small = (
  refl,
  (
    refl,
    heard_goes (number_at k p) k c (flat_map (stage_lines items_at k) (range_with_len (p + 1) c))
        (λ i e. few_items k p c i few e) small (λ w. stage_goes k c (p + 1) w (omega (arith, few)) small),
  ),
)

pub stages_go_by_pipeline : (items k : ℕ) → items ≤ most_items → k < 15 → StageGoesBy items_at items k
stages_go_by_pipeline items k few small = (refl, stage_goes k (items + k) 0 Turns (omega (arith, few)) small)

-- ---- the sink

abbrev sink : ℕ → ℕ → Bool → PipelineBody
sink k turns looks = record {
  role = kinds.Sink (record {
    phaser = k;
    turns = turns;
    looks = looks;
  });
}

sink_goes : (sent : ℕ → ℕ → Look ℤ) (k c p : ℕ) (heard : Answer) →
    Goes (pipeline_next heard (sink k c false)) (flat_map (sink_lines sent k) (range_with_len p c))
sink_goes sent k zero p heard = refl
sink_goes sent k (suc c) p heard = (refl, (refl, sink_goes sent k c (p + 1) (Saw (sent k p))))

pub sink_sees_all : (items stages : ℕ) (sent : ℕ → ℕ → Look ℤ) → SinkGoesBy sent items stages
sink_sees_all items stages sent = sink_goes sent stages (items + stages) 0 Started
