-- Whatever the tasks of a pipeline send, it is the pipeline, where each sees what was sent.
use Rattle.std.proofs.Common.{ℕ, ℤ, zero, suc, pos, ◌+◌, ◌≡◌, ◌≤◌, ◌<◌, true, false, List, [], ◌∷◌, ◌++◌, flat_map, Option, Some, None, refl, ap, subst, arith}
use Rattle.std.specs.List.{range_with_len}
use Rattle.phase_model.specs.declared.op.Look.{Look}
use Rattle.phase_model.specs.declared.op.Look.TheVariants.{Value, Nothing}
use Rattle.job_script.specs.declared.act.Act.TheVariants.{Send, Next}
use Rattle.job_script.specs.declared.act.Answer.{Answer}
use Rattle.job_script.specs.declared.act.Answer.TheVariants.{Started, Done, Saw}
use Rattle.job_kernels.specs.declared.pipeline_body.Moment.{Moment}
use Rattle.job_kernels.specs.declared.pipeline_body.Moment.TheVariants.{Turns, Hears}
use Rattle.job_kernels.specs.declared.pipeline_body.PipelineBody.{PipelineBody}
use Rattle.job_kernels.specs.Pipeline.{pipeline_item}
use Rattle.job_kernels.specs.Tasks.{Does, Line}
use Rattle.job_kernels.specs.PipelineTasks.{most_items, pipeline_next}
use Rattle.job_kernels.specs.PipelineLines.{number_at, shown, items_at, sending, source_lines, stage_lines, SourceGoesBy, StageGoesBy}
use Rattle.job_kernels.proofs.PipelineRuns.{Goes, source, source_sends, stage, stage_does, stage_hears, item_small, few_items}

-- ---- the source

-- the source sent what comes next
record SourceSent (items p : ℕ) (x : Look ℤ) (lines : List (Line PipelineBody)) : Type 0 where
  sends : x ≡ Value (pos (p + 1))
  goes : Goes (pipeline_next Done (source items (p + 1) true)) lines

source_sent : (items p : ℕ) (x : Look ℤ) (lines : List (Line PipelineBody)) →
    Goes (Send 0 0 (pos (p + 1)), source items (p + 1) false) ((sending 0 x ++ (Next, Done) ∷ []) ++ lines) →
    SourceSent items p x lines
source_sent items p Nothing lines goes = absurd (cc goes.0)
source_sent items p (Value v) lines goes =
    let value : v ≡ pos (p + 1) = cc goes.0 in
    record { sends = ap Value value; goes = goes.1.1 }

source_step : (items : ℕ) (sent : ℕ → ℕ → Look ℤ) (c p : ℕ) (heard : Answer) → items ≤ most_items → p + suc c ≡ items →
    Goes (pipeline_next heard (source items p true)) (flat_map (source_lines sent) (range_with_len p (suc c))) →
    SourceSent items p (sent 0 p) (flat_map (source_lines sent) (range_with_len (p + 1) c))
source_step items sent c p heard few e goes =
    let lines : List (Line PipelineBody) = flat_map (source_lines sent) (range_with_len (p + 1) c) in
    let P : Does PipelineBody → Type 0 = λ does. Goes does (source_lines sent p ++ lines) in
    source_sent items p (sent 0 p) lines (subst P (source_sends heard items p few (omega (arith, e))) goes)

source_sends_items : (items : ℕ) (sent : ℕ → ℕ → Look ℤ) (c p : ℕ) (heard : Answer) → items ≤ most_items → p + c ≡ items →
    Goes (pipeline_next heard (source items p true)) (flat_map (source_lines sent) (range_with_len p c)) →
    (d : ℕ) → d < c → sent 0 (p + d) ≡ items_at 0 (p + d)
source_sends_items items sent zero p heard few e goes d lt = absurd (omega arith)
source_sends_items items sent (suc c) p heard few e goes zero lt =
    let P : ℕ → Type 0 = λ q. sent 0 q ≡ items_at 0 q in
    let same : p ≡ p + 0 = omega arith in
    subst P same (source_step items sent c p heard few e goes).sends
source_sends_items items sent (suc c) p heard few e goes (suc d) lt =
    let P : ℕ → Type 0 = λ q. sent 0 q ≡ items_at 0 q in
    let same : p + 1 + d ≡ p + suc d = omega arith in
    subst P same (source_sends_items items sent c (p + 1) Done few (omega (arith, e)) (source_step items sent c p heard few e goes).goes d (omega (arith, lt)))

-- ---- a stage

-- a stage that heard of item o sent it on, if there is one
record StageSent (k c : ℕ) (o : Option ℕ) (x : Look ℤ) (lines : List (Line PipelineBody)) : Type 0 where
  sends : x ≡ shown (suc k) o
  moment : Moment
  goes : Goes (stage_does k c moment) lines

-- where the next line is that of a turn, or the end, no value was sent
abbrev later : (ℕ → ℕ → Look ℤ) → ℕ → ℕ → ℕ → List (Line PipelineBody)
later sent k p c = flat_map (stage_lines sent k) (range_with_len p c)

no_send : (sent : ℕ → ℕ → Look ℤ) (k p c ph : ℕ) (v : ℤ) (task : PipelineBody) → Goes (Send ph 0 v, task) (later sent k p c) → ⊥
no_send sent k p zero ph v task goes = cc goes
no_send sent k p (suc c) ph v task goes = cc goes.0

no_turn : (k c ph : ℕ) (m : Moment) (v : ℤ) (lines : List (Line PipelineBody)) → Goes (stage_does k c m) ((Send ph 0 v, Done) ∷ lines) → ⊥
no_turn k zero ph m v lines goes = cc goes.0
no_turn k (suc c) ph m v lines goes = cc goes.0

stage_sent : (sent : ℕ → ℕ → Look ℤ) (k c p : ℕ) (o : Option ℕ) (x : Look ℤ) →
    ((i : ℕ) → o ≡ Some i → i ≤ most_items) → k < 15 →
    Goes (pipeline_next (Saw (shown k o)) (stage k c Hears)) (sending (k + 1) x ++ later sent k p c) →
    StageSent k c o x (later sent k p c)
stage_sent sent k c p None Nothing few small goes = record { sends = refl; moment = Hears; goes = goes }
stage_sent sent k c p None (Value v) few small goes = absurd (no_turn k c (k + 1) Hears v (later sent k p c) goes)
stage_sent sent k c p (Some i) Nothing few small goes =
    let x : ℕ = pipeline_item k i in
    let P : Does PipelineBody → Type 0 = λ does. Goes does (later sent k p c) in
    let heard : P (Send (k + 1) 0 (pos (x + (k + 1))), stage k c Turns) =
    subst P (stage_hears k c x (item_small k i (few i refl) (omega arith))) goes in
    absurd (no_send sent k p c (k + 1) (pos (x + (k + 1))) (stage k c Turns) heard)
stage_sent sent k c p (Some i) (Value v) few small goes =
    let x : ℕ = pipeline_item k i in
    let P : Does PipelineBody → Type 0 = λ does. Goes does ((Send (k + 1) 0 v, Done) ∷ later sent k p c) in
    let heard : P (Send (k + 1) 0 (pos (x + (k + 1))), stage k c Turns) =
    subst P (stage_hears k c x (item_small k i (few i refl) (omega arith))) goes in
    let value : v ≡ pos (x + (k + 1)) = cc heard.0 in
    record { sends = ap Value value; moment = Turns; goes = heard.1 }

stage_step : (sent : ℕ → ℕ → Look ℤ) (k c p : ℕ) (m : Moment) → p + suc c ≤ most_items + k → k < 15 →
    sent k p ≡ items_at k p → Goes (stage_does k (suc c) m) (later sent k p (suc c)) →
    StageSent k c (number_at k p) (sent (suc k) (suc p)) (later sent k (p + 1) c)
stage_step sent k c p m few small seen goes =
    let lines : List (Line PipelineBody) = sending (k + 1) (sent (suc k) (suc p)) ++ later sent k (p + 1) c in
    let P : Look ℤ → Type 0 = λ x. Goes (pipeline_next (Saw x) (stage k c Hears)) lines in
    stage_sent sent k c (p + 1) (number_at k p) (sent (suc k) (suc p)) (λ i e. few_items k p c i few e) small
    (subst P seen goes.1.1)

stage_sends_items : (sent : ℕ → ℕ → Look ℤ) (k c p : ℕ) (m : Moment) → p + c ≤ most_items + k → k < 15 →
    ((q : ℕ) → q < p + c → sent k q ≡ items_at k q) → Goes (stage_does k c m) (later sent k p c) →
    (d : ℕ) → d < c → sent (suc k) (suc (p + d)) ≡ items_at (suc k) (suc (p + d))
stage_sends_items sent k zero p m few small seen goes d lt = absurd (omega arith)
stage_sends_items sent k (suc c) p m few small seen goes zero lt =
    let P : ℕ → Type 0 = λ q. sent (suc k) (suc q) ≡ items_at (suc k) (suc q) in
    let same : p ≡ p + 0 = omega arith in
    subst P same (stage_step sent k c p m few small (seen p (omega arith)) goes).sends
stage_sends_items sent k (suc c) p m few small seen goes (suc d) lt =
    let P : ℕ → Type 0 = λ q. sent (suc k) (suc q) ≡ items_at (suc k) (suc q) in
    let same : p + 1 + d ≡ p + suc d = omega arith in
    let at : StageSent k c (number_at k p) (sent (suc k) (suc p)) (later sent k (p + 1) c) =
    stage_step sent k c p m few small (seen p (omega arith)) goes in
    subst P same (stage_sends_items sent k c (p + 1) at.moment (omega (arith, few)) small
    (λ q below. seen q (omega (arith, below))) at.goes d (omega (arith, lt)))

-- ---- all of them

pub tasks_send_pipeline : (items stages : ℕ) (sent : ℕ → ℕ → Look ℤ) → items ≤ most_items → stages ≤ 15 →
    SourceGoesBy sent items → ((k : ℕ) → k < stages → StageGoesBy sent items k) →
    (k p : ℕ) → k ≤ stages → p < items + k → sent k p ≡ items_at k p
tasks_send_pipeline items stages sent few small begun all zero p le lt =
    let P : ℕ → Type 0 = λ q. sent 0 q ≡ items_at 0 q in
    let same : 0 + p ≡ p = omega arith in
    subst P same (source_sends_items items sent items 0 Started few (omega arith) begun p (omega (arith, lt)))
tasks_send_pipeline items stages sent few small begun all (suc k) zero le lt = (all k (omega arith)).0
tasks_send_pipeline items stages sent few small begun all (suc k) (suc p) le lt =
    let P : ℕ → Type 0 = λ q. sent (suc k) (suc q) ≡ items_at (suc k) (suc q) in
    let same : 0 + p ≡ p = omega arith in
    let before : (q : ℕ) → q < 0 + (items + k) → sent k q ≡ items_at k q =
    λ q below. tasks_send_pipeline items stages sent few small begun all k q (omega arith) (omega (arith, below)) in
    subst P same (stage_sends_items sent k (items + k) 0 Turns (omega (arith, few)) (omega arith) before
    (all k (omega arith)).1 p (omega (arith, lt)))
