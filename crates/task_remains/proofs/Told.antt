-- What is told of tasks that ended, once their bodies are no more: of the logs, and of the parts.
use Rattle.std.proofs.Common.{ℕ, ◌≡◌, ◌<◌, true, List, length, map, sym, ap, ◌∙◌, subst, arith}
use Rattle.std.specs.List.{All}
use Rattle.std.proofs.lemmas.List.Elements.{All-weaker}
use Rattle.std.proofs.Math.Logic.{∥∥₁_map}
use Rattle.phase_modes.specs.declared.limits.Limits.{Limits}
use Rattle.phase_model.specs.Rules.{Story}
use Rattle.trace_model.specs.Projections.{log, AreOf}
use Rattle.trace_model.specs.Run.{Entry}
use Rattle.trace_model.specs.TaskLog.{TaskLog}
use Rattle.table_receipts.specs.Logs.{Sight}
use Rattle.told_history.specs.Stories.{GoesOn}
use Rattle.table_receipts.specs.Parts.{AreLogged, HasShown}
use Rattle.table_receipts.specs.Seen.{story_at}
use Rattle.told_history.proofs.Goes.{goes_far}
use Rattle.table_receipts.proofs.Logged.{told_at_each}
use Rattle.tasks_in_flight.specs.Heard.{Seen}
use Rattle.tasks_in_flight.specs.Said.{AreSaid, IsSeenBy, has_end}
use Rattle.task_remains.specs.inner.Logs.{IsToldIn}
use Rattle.tasks_in_flight.specs.inner.Ready.{IsTold, seen_at_end}
use Rattle.tasks_in_flight.proofs.OnTheWay.{sees_of}
use Rattle.tasks_in_flight.proofs.Saying.{own_now}
use Rattle.task_remains.proofs.Gathering.{one_owner}

module _ {P : Type 0} (Told : ℕ → Seen → Type 0) where
  -- what is told of what this log's task has seen is told of what begins the phasers' logs, and its own
  pub told_in_logs : (logs fronts : List Sight) (own : TaskLog) (task : ℕ) (part : List Entry) → length logs ≡ length fronts
      → ((n : ℕ) → n < length fronts → GoesOn (story_at fronts n) (story_at logs n)) → AreOf (log task) part → part ≡ own.entries
      → (has_end part ≡ true → ∥ (P → IsTold Told task (seen_at_end task fronts own)) ∥₁) → IsToldIn P Told logs part
  told_in_logs logs fronts own task part many begin its_own all told = λ t its ended.
      let same : t ≡ task = one_owner t task part its its_own ended in
      ∥∥₁_map (told ended) (λ f p.
      let s = f p in
      let now = seen_at_end task fronts own in (
        s.0.stories,
        (
          s.0.holding,
          s.0.log,
          s.2.1.0,
          subst (λ (u : ℕ). Told u (record { own = λ n. u; stories = s.0.stories; holding = s.0.holding; log = s.0.log })) (sym same)
              (own_now (Told task) s.0 now s.2 s.1),
          ap (λ (es : List Entry). map (λ (e : Entry). e.1) es) all ∙ s.2.1.1,
        ),
        λ n lt. goes_far (s.0.stories n) (story_at fronts n) (story_at logs n) (sees_of s.0 now n s.2).0 (begin n (omega (arith, lt, many))),
      ))

  -- and so it is told of the stories that the parts tell
  pub are_said : (l : Limits) (names : ℕ → ℕ) (parts of_tasks : List (List Entry)) (logs : List Sight)
      → AreLogged names 0 parts logs → length logs ≡ length parts → ((n : ℕ) → n < length logs → (story_at logs n).limits ≡ l)
      → All (IsToldIn P Told logs) of_tasks → P → AreSaid Told l parts of_tasks
  are_said l names parts of_tasks logs logged many limits told p =
      let within : (n : ℕ) → n < length parts → n < length logs = λ n lt. omega (arith, lt, many) in
      let stories : ℕ → Story = λ n. story_at logs n in (
        stories,
        (λ n lt. (told_at_each names parts logs logged n lt, limits n (within n lt))),
        All-weaker (IsToldIn P Told logs)
            (λ part. (task : ℕ) → AreOf (log task) part → has_end part ≡ true
            → ∥ HasShown (λ t s. IsSeenBy t (Told t) part s) (length parts) stories task ∥₁)
            (λ part is task own ended. ∥∥₁_map (is task own ended) (λ f. let s = f p in (s.0, s.1, λ n lt. s.2 n (within n lt)))) of_tasks told,
      )
