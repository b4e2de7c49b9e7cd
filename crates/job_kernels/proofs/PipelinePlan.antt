-- The plan of a pipeline: what its root, source, stages and sink do next, and what they have left after that.
use Rattle.std.proofs.Common.{ℕ, ℤ, zero, suc, pos, ◌+◌, ◌≡◌, ◌≤◌, ◌<◌, ◌==◌, ◌∙◌, ◌⊎◌, inl, inr, Bool, true, false, cond, List, [], ◌∷◌, ◌++◌, flat_map, nat_le, nat_lt, refl, sym, ap, subst, add-one, arith}
use Rattle.std.specs.List.{range_with_len}
use Rattle.std.proofs.lemmas.Bool.{cases_Bool, eq-eqb, ne_eqb, le-leb, lt-leb, lt-ltb, ltb-true, ltb-false}
use Rattle.phase_modes.specs.declared.phased.Pair.{Pair}
use Rattle.phase_modes.specs.declared.reg.Mode.TheVariants.{Sig, Wait}
use Rattle.phase_model.specs.declared.op.Look.{Look as Looked}
use Rattle.phase_model.specs.declared.op.Look.TheVariants.{Value, Nothing}
use Rattle.phase_model.specs.declared.op.Op.TheVariants.{Least}
use Rattle.phase_model.specs.Values.{fold}
use Rattle.job_script.specs.declared.act.Act.TheVariants as acts
use Rattle.job_script.specs.declared.act.Act.TheVariants.{Async}
use Rattle.job_script.specs.declared.act.Answer.TheVariants.{Started, Done, Saw}
use Rattle.job_kernels.specs.declared.pipeline_body.Role.TheVariants as kinds
use Rattle.job_kernels.specs.declared.pipeline_body.PipelineBody.{PipelineBody}
use Rattle.job_kernels.specs.Results.{value_seen}
use Rattle.job_kernels.specs.Tasks.{Does, Line, GoesBy, pair_on}
use Rattle.job_kernels.specs.PipelineTasks.{most_items, source_task, stage_task, sink_task, spawn, pipeline_next}
use Rattle.job_kernels.specs.PipelineLines.{items_at, sending, source_lines, stage_lines, sink_lines, RootSpawnsStages}
use Rattle.job_kernels.proofs.PipelineRuns.{source_goes_by_pipeline, stages_go_by_pipeline, sink_sees_all}
use Rattle.job_kernels.proofs.Numbers.{le_next, le_self, lt_next_le, next_on, none_below_zero, not_its_next, part_le, without_zero, zero_least, zero_plus}
use Rattle.job_kernels.proofs.Joining.{HasOwn}
use Rattle.job_kernels.proofs.Plans.{Shape, TaskStep, Starts, Rooted, Plan, root_goes}

-- ---- the root

-- the child of a place, and the phasers that it is handed
abbrev task_of : ℕ → ℕ → ℕ → PipelineBody
task_of stages items zero = source_task items
task_of stages items (suc j) = cond (nat_lt j stages) (stage_task items j) (sink_task items stages)

-- its phasers
abbrev pub pairs_of : ℕ → ℕ → List Pair
pairs_of stages zero = pair_on 0 Sig ∷ []
pairs_of stages (suc j) =
    cond (nat_lt j stages) (pair_on j Wait ∷ pair_on (j + 1) Sig ∷ []) (pair_on stages Wait ∷ [])

-- what the root spawns
spawn_is : (stages items i : ℕ) → spawn items stages i ≡ Async (task_of stages items i) (pairs_of stages i)
spawn_is stages items zero = refl
spawn_is stages items (suc j) = by_test (nat_lt j stages)
  where
    by_test : (b : Bool) → cond b (Async (stage_task items j) (pair_on j Wait ∷ pair_on (j + 1) Sig ∷ []))
        (Async (sink_task items stages) (pair_on stages Wait ∷ []))
        ≡ Async (cond b (stage_task items j) (sink_task items stages))
        (cond b (pair_on j Wait ∷ pair_on (j + 1) Sig ∷ []) (pair_on stages Wait ∷ []))
    by_test true = refl
    by_test false = refl

-- the root after so many phasers and children
abbrev root_body : ℕ → ℕ → ℕ → ℕ → PipelineBody
root_body stages items m s =
    record { role = kinds.Root (record { stages = stages; items = items; made = m; spawned = s }) }

-- ---- lines

-- a task goes by these lines
abbrev pub Goes : Does PipelineBody → List (Line PipelineBody) → Type 0
Goes d lines = GoesBy pipeline_next d lines

-- what the source has left, from a phase on
abbrev pub source_left : ℕ → ℕ → List (Line PipelineBody)
source_left k r = flat_map (source_lines items_at) (range_with_len k r)

-- what a stage sends on, and the sink doesn't
abbrev pub sends_of : ℕ → ℕ → ℕ → List (Line PipelineBody)
sends_of stages j p = cond (nat_lt j stages) (sending (j + 1) (items_at (suc j) (suc p))) []

-- a turn of the task behind phaser j
abbrev pub lines_of : ℕ → ℕ → ℕ → List (Line PipelineBody)
lines_of stages j p = (acts.Next, Done) ∷ (acts.Look j 0, Saw (items_at j p)) ∷ sends_of stages j p

-- what a stage or the sink has left, from a phase on
abbrev pub reader_left : ℕ → ℕ → ℕ → ℕ → List (Line PipelineBody)
reader_left stages j k r = flat_map (lines_of stages j) (range_with_len k r)

-- that of a stage
stage_left : (stages j : ℕ) (ns : List ℕ) → nat_lt j stages ≡ true
    → flat_map (stage_lines items_at j) ns ≡ flat_map (lines_of stages j) ns
stage_left stages j [] e = refl
stage_left stages j (n ∷ ns) e =
    rw e (ap (λ xs. (acts.Next, Done) ∷ (acts.Look j 0, Saw (items_at j n))
    ∷ sending (j + 1) (items_at (suc j) (suc n)) ++ xs) (stage_left stages j ns e))

-- that of the sink
sink_left : (stages j : ℕ) (ns : List ℕ) → nat_lt j stages ≡ false
    → flat_map (sink_lines items_at j) ns ≡ flat_map (lines_of stages j) ns
sink_left stages j [] e = refl
sink_left stages j (n ∷ ns) e =
    rw e (ap (λ xs. (acts.Next, Done) ∷ (acts.Look j 0, Saw (items_at j n)) ∷ xs) (sink_left stages j ns e))

-- ---- where a task stands

-- the values of phaser i for a phase; the sink, in the place behind the last stage, has no phaser
abbrev pub out : ℕ → ℕ → ℕ → List ℤ
out stages i p = cond (nat_le i stages) (value_seen (items_at i p)) []

-- how many turns a task takes
abbrev pub total : ℕ → ℕ → ℕ
total items zero = items
total items (suc j) = items + j

-- the source, that has begun k turns and is done with so many phases of its phaser
pub data SourceAt (items k done : ℕ) (d : Does PipelineBody) : Type 0 where
  sends : (r : ℕ) → k + suc r ≡ items → done ≡ k
      → Goes d ((acts.Send 0 0 (pos (k + 1)), Done) ∷ (acts.Next, Done) ∷ source_left (k + 1) r)
      → SourceAt items k done d
  turns : (r : ℕ) → k + suc r ≡ items → done ≡ k + 1 → Goes d ((acts.Next, Done) ∷ source_left (k + 1) r)
      → SourceAt items k done d
  ends : k ≡ items → done ≡ k → Goes d [] → SourceAt items k done d

-- and so the stage behind phaser j, or the sink
pub data ReaderAt (stages items j k done : ℕ) (d : Does PipelineBody) : Type 0 where
  turns : (r : ℕ) → k + suc r ≡ items + j → done ≡ k + 1
      → Goes d (lines_of stages j k ++ reader_left stages j (k + 1) r) → ReaderAt stages items j k done d
  looks : (p r : ℕ) → k ≡ p + 1 → k + r ≡ items + j → done ≡ k
      → Goes d ((acts.Look j 0, Saw (items_at j p)) ∷ sends_of stages j p ++ reader_left stages j k r)
      → ReaderAt stages items j k done d
  sends : (r : ℕ) (v : ℤ) → suc j ≤ stages → k + r ≡ items + j → done ≡ k → items_at (suc j) k ≡ Value v
      → Goes d ((acts.Send (suc j) 0 v, Done) ∷ reader_left stages j k r) → ReaderAt stages items j k done d
  ends : k ≡ items + j → done ≡ k + 1 → Goes d [] → ReaderAt stages items j k done d

-- the task of a place
abbrev pub TaskAt : ℕ → ℕ → ℕ → ℕ → ℕ → Does PipelineBody → Type 0
TaskAt stages items zero k done d = SourceAt items k done d
TaskAt stages items (suc j) k done d = ReaderAt stages items j k done d

-- the tasks of a pipeline, place by place
abbrev pub pipeline_shape : ℕ → ℕ → Shape
pipeline_shape stages items = record {
  Body = PipelineBody;
  next = pipeline_next;
  op = Least;
  phasers = stages + 1;
  children = stages + 2;
  root = root_body stages items;
  task = task_of stages items;
  pairs = pairs_of stages;
  out = out stages;
  seen = items_at;
  phases = λ i. items + i;
  turns_of = total items;
  At = TaskAt stages items;
}

-- the root goes by its counts
rooted : (stages items : ℕ) → Rooted (pipeline_shape stages items)
rooted stages items =
    record {
      makes = λ x m n lt. rw (le-leb m stages (inside m stages lt)) refl;
      spawns = λ x m n all lt. rw (
        lt-leb m stages (beyond m stages all),
        le-leb n (stages + 1)
            (second n stages lt),
      )
          (ap (λ b. (b, root_body stages items m (n + 1))) (spawn_is stages items n));
      ends = λ x m n all full.
          rw (lt-leb m stages (beyond m stages all), lt-leb n (stages + 1) (behind n stages full)) refl;
    }
  where
    inside : (m n : ℕ) → m < n + 1 → m ≤ n
    inside m n h = omega arith

    beyond : (m n : ℕ) → n + 1 ≤ m → n < m
    beyond m n h = omega arith

    second : (m n : ℕ) → m < n + 2 → m ≤ n + 1
    second m n h = omega arith

    behind : (m n : ℕ) → n + 2 ≤ m → n + 1 < m
    behind m n h = omega arith

-- so it spawns the stages
pub root_spawns_stages : RootSpawnsStages
root_spawns_stages items stages =
    root_goes (pipeline_shape stages items) (rooted stages items) (spawn items stages) (spawn_is stages items)

-- ---- from one line to the next

module _ (stages items : ℕ) where
  -- the source between two phases
  source_at : (k r : ℕ) (d : Does PipelineBody) → k + r ≡ items → Goes d (source_left k r) → SourceAt items k k d
  source_at k zero d e goes = SourceAt.ends (without_zero k items e) refl goes
  source_at k (suc r) d e goes = SourceAt.sends r e refl goes

  -- a reader between two turns
  reader_at : (j k r : ℕ) (d : Does PipelineBody) → k + r ≡ items + j → Goes d (reader_left stages j k r)
      → ReaderAt stages items j k (k + 1) d
  reader_at j k zero d e goes = ReaderAt.ends (without_zero k (items + j) e) refl goes
  reader_at j k (suc r) d e goes = ReaderAt.turns r e refl goes

  -- what comes of a look
  record Seen (j k : ℕ) (d : Does PipelineBody) : Type 0 where
    next : ℕ
    least : k ≤ next
    most : next ≤ k + 1
    so : (next ≡ k) ⊎ ((next ≡ k + 1) × (out stages (suc j) k ≡ []))
    at : ReaderAt stages items j k next d

  -- a stage sends on what it saw, if it saw an item
  seen_by : (j p r : ℕ) (d : Does PipelineBody) (b : Bool) (x : Looked ℤ) → nat_lt j stages ≡ b
      → items_at (suc j) (suc p) ≡ x → (p + 1) + r ≡ items + j
      → Goes d (cond b (sending (j + 1) x) [] ++ reader_left stages j (p + 1) r) → Seen j (p + 1) d
  seen_by j p r d true (Value v) lt is e goes =
      record {
        next = p + 1;
        least = le_self (p + 1);
        most = le_next (p + 1);
        so = inl refl;
        at = ReaderAt.sends r v (lt_next_le j stages (ltb-true j stages lt)) e refl
            (ap (λ q. items_at (suc j) q) (add-one p) ∙ is)
            (subst (λ q. Goes d ((acts.Send q 0 v, Done) ∷ reader_left stages j (p + 1) r)) (add-one j) goes);
      }
  seen_by j p r d true Nothing lt is e goes =
      record {
        next = (p + 1) + 1;
        least = le_next (p + 1);
        most = le_self ((p + 1) + 1);
        so = inr (refl, nothing_out (nat_le (suc j) stages));
        at = reader_at j (p + 1) r d e goes;
      }
    where
      nothing_out : (b : Bool) → cond b (value_seen (items_at (suc j) (p + 1))) [] ≡ []
      nothing_out true = ap (λ y. value_seen y) (ap (λ q. items_at (suc j) q) (add-one p) ∙ is)
      nothing_out false = refl
  seen_by j p r d false x lt is e goes =
      record {
        next = (p + 1) + 1;
        least = le_next (p + 1);
        most = le_self ((p + 1) + 1);
        so = inr (refl, no_phaser);
        at = reader_at j (p + 1) r d e goes;
      }
    where
      beyond : (j n : ℕ) → n ≤ j → n < suc j
      beyond j n h = omega arith

      no_phaser : out stages (suc j) (p + 1) ≡ []
      no_phaser = rw (lt-leb (suc j) stages (beyond j stages (ltb-false j stages lt))) refl

  -- a value that is sent is that of its place
  out_is : (i k : ℕ) (v : ℤ) → i ≤ stages → items_at i k ≡ Value v → out stages i k ≡ v ∷ []
  out_is i k v le is = rw (le-leb i stages le) (ap (λ y. value_seen y) is)

  -- by what the source has left
  source_step : (k done : ℕ) (d : Does PipelineBody) → SourceAt items k done d
      → TaskStep (pipeline_shape stages items) 0 k done d
  source_step k done d (SourceAt.sends r e c goes) =
      TaskStep.to_send (pos (k + 1)) goes.0 (out_is 0 k (pos (k + 1)) (zero_least stages) refl) c
      (omega (arith, e)) (SourceAt.turns r e refl goes.1)
  source_step k done d (SourceAt.turns r e c goes) =
      TaskStep.to_turn goes.0 (subst (λ x. k + 1 ≤ x) (sym c) (le_self (k + 1)))
      (subst (λ x. SourceAt items (k + 1) x (pipeline_next Done d.1)) (sym c)
      (source_at (k + 1) r (pipeline_next Done d.1) (next_on k r items e) goes.1))
  source_step k done d (SourceAt.ends e c goes) = TaskStep.to_end goes (omega (arith, e, c)) e

  -- by what a reader has left
  reader_step : (j k done : ℕ) (d : Does PipelineBody) → suc j < stages + 2 → ReaderAt stages items j k done d
      → TaskStep (pipeline_shape stages items) (suc j) k done d
  reader_step j k done d lt (ReaderAt.turns r e c goes) =
      TaskStep.to_turn goes.0 (subst (λ x. k + 1 ≤ x) (sym c) (le_self (k + 1)))
      (ReaderAt.looks k r refl (next_on k r (items + j) e) c goes.1)
  reader_step j k done d lt (ReaderAt.looks p r t e c goes) =
      let heard = pipeline_next (Saw (items_at j p)) d.1 in
      let after : Goes heard (sends_of stages j p ++ reader_left stages j (p + 1) r) =
      subst (λ x. Goes heard (sends_of stages j p ++ reader_left stages j x r)) t goes.1 in
      let s : Seen j (p + 1) heard =
      seen_by j p r heard (nat_lt j stages) (items_at (suc j) (suc p)) refl refl
      (subst (λ x. x + r ≡ items + j) t e) after in
      let same : done ≡ p + 1 = c ∙ t in
      TaskStep.to_look j p s.next goes.0 (omega (arith, lt)) t (part_le k r (items + j) e)
      (subst (λ x. x ≤ s.next) (sym t) s.least) (omega (arith, s.most, t, e))
      (elim s.so [
        | inl y ↦ inl (y ∙ sym same)
        | inr y ↦ inr (y.0 ∙ ap (λ x. x + 1) (sym same), subst (λ x. out stages (suc j) x ≡ []) (sym same) y.1)
      ])
      (subst (λ x. ReaderAt stages items j x s.next heard) (sym t) s.at)
  reader_step j k done d lt (ReaderAt.sends r v le e c is goes) =
      TaskStep.to_send v goes.0 (out_is (suc j) k v le is) c (omega (arith, e))
      (reader_at j k r (pipeline_next Done d.1) e goes.1)
  reader_step j k done d lt (ReaderAt.ends e c goes) = TaskStep.to_end goes (omega (arith, e, c)) e

  task_step : (i k done : ℕ) (d : Does PipelineBody) → i < stages + 2 → TaskAt stages items i k done d
      → TaskStep (pipeline_shape stages items) i k done d
  task_step zero k done d lt at = source_step k done d at
  task_step (suc j) k done d lt at = reader_step j k done d lt at

-- ---- at its start

-- no stage has an item for phase 0
none_at_first : (stages j p : ℕ) → p < 0 + 1 → out stages (suc j) p ≡ []
none_at_first stages j zero lt = nothing (nat_le (suc j) stages)
  where
    nothing : (b : Bool) → cond b (value_seen (items_at (suc j) 0)) [] ≡ []
    nothing true = refl
    nothing false = refl
none_at_first stages j (suc p) lt = absurd (no_more p lt)
  where
    no_more : (p : ℕ) → suc p < 0 + 1 → ⊥
    no_more p h = omega arith

-- each begins with all its lines
task_starts : (stages items i : ℕ) → items ≤ most_items → stages ≤ 15 → i < stages + 2
    → Starts (pipeline_shape stages items) i
task_starts stages items zero few small lt =
    record {
      done = 0;
      at = source_at stages items 0 items (pipeline_next Started (source_task items)) (zero_plus items)
          (source_goes_by_pipeline items few);
      most = zero_least (items + 0);
      none = λ p below. absurd (none_below_zero p below);
    }
task_starts stages items (suc j) few small lt =
    record {
      done = 0 + 1;
      at = reader_at stages items j 0 (items + j) (pipeline_next Started (task_of stages items (suc j)))
          (zero_plus (items + j)) goes;
      most = room items j;
      none = λ p below. none_at_first stages j p below;
    }
  where
    room : (n j : ℕ) → 0 + 1 ≤ n + suc j
    room n j = omega arith

    below : (j : ℕ) → j < stages → stages ≤ 15 → j < 15
    below j a b = omega arith

    last : (j n : ℕ) → suc j < n + 2 → n ≤ j → j ≡ n
    last j n a b = omega arith

    goes : Goes (pipeline_next Started (task_of stages items (suc j))) (reader_left stages j 0 (items + j))
    goes =
        elim (cases_Bool (nat_lt j stages)) [
          | inl e ↦
              subst (λ b. Goes (pipeline_next Started (cond b (stage_task items j) (sink_task items stages)))
              (reader_left stages j 0 (items + j))) (sym e)
              (subst (λ xs. Goes (pipeline_next Started (stage_task items j)) xs)
              (stage_left stages j (range_with_len 0 (items + j)) e)
              (stages_go_by_pipeline items j few (below j (ltb-true j stages e) small)).1)
          | inr e ↦
              let same : j ≡ stages = last j stages lt (ltb-false j stages e) in
              subst (λ b. Goes (pipeline_next Started (cond b (stage_task items j) (sink_task items stages)))
              (reader_left stages j 0 (items + j))) (sym e)
              (subst (λ xs. Goes (pipeline_next Started (sink_task items stages)) xs)
              (ap (λ x. flat_map (sink_lines items_at x) (range_with_len 0 (items + x))) (sym same)
              ∙ sink_left stages j (range_with_len 0 (items + j)) e)
              (sink_sees_all items stages items_at))
        ]

-- ---- the phasers of a task

-- the source, and the stage behind each phaser but the last, can signal on the phaser of their place
has_own : (stages i : ℕ) → i ≤ stages → HasOwn (pairs_of stages i) i
has_own stages zero le =
    record { there = λ c. rw (eq-eqb c c refl) refl; strong = λ c. rw (eq-eqb c c refl) refl }
has_own stages (suc j) le =
    let next : (j + 1 == suc j) ≡ true = eq-eqb (j + 1) (suc j) (add-one j) in
    let apart : (j == suc j) ≡ false = ne_eqb j (suc j) (λ e. not_its_next j e) in
    let inside : nat_lt j stages ≡ true = lt-ltb j stages (within j stages le) in
    record {
      there = λ c. rw (inside, apart, next, eq-eqb c c refl) refl;
      strong = λ c. rw (inside, apart, next, eq-eqb c c refl) refl;
    }
  where
    within : (j n : ℕ) → suc j ≤ n → j < n
    within j n h = omega arith

-- ---- all of it

-- a look sees the value that was sent, if one was
pub least_seen : (x : Looked ℤ) → fold Least (value_seen x) ≡ x
least_seen (Value v) = refl
least_seen Nothing = refl

-- the plan of a pipeline that is small enough
pub pipeline_plan : (stages items : ℕ) → items ≤ most_items → stages ≤ 15 → Plan (pipeline_shape stages items)
pipeline_plan stages items few small =
    record {
      rooted = rooted stages items;
      starts = λ i lt. task_starts stages items i few small lt;
      steps = task_step stages items;
      enough = one_more stages;
      own = λ i lt. has_own stages i (inside i stages lt);
      folds = λ i p lt. rw (le-leb i stages (inside i stages lt)) (least_seen (items_at i p));
      silent = λ i p far lt. rw (lt-leb i stages (beyond i stages far)) refl;
    }
  where
    one_more : (n : ℕ) → n + 1 ≤ n + 2
    one_more n = omega arith

    inside : (m n : ℕ) → m < n + 1 → m ≤ n
    inside m n h = omega arith

    beyond : (m n : ℕ) → n + 1 ≤ m → n < m
    beyond m n h = omega arith
