use Rattle.std.proofs.Common.{ℕ, Result, Ok, Err}
use Rattle.std.specs.Prelude.{IfOk}
use Rattle.phase_modes.specs.declared.refusal.Refusal.{Refusal}
use Rattle.job_script.specs.declared.act.Act.{Act}
use Rattle.table_receipts.specs.Seen.{story_at}
use Rattle.tasks_in_flight.specs.Heard.{nothing, at_start, asked_by, IsSpawned}
use Rattle.tasks_in_flight.specs.inner.Ready.{seen_by}
use Rattle.task_worker.proofs.acts.TeamActsTaskBusy.next_act.Goals as goal

-- what is so of what was given is so of the act, if that is one
of_act : {A : Type 0} (P Q : Result A Refusal → Type 0) (r : Result A Refusal) → P r → Q r → IfOk r (λ a. P (Ok a) × Q (Ok a))
of_act P Q (Ok a) p q = (p, q)
of_act P Q (Err e) p q = tt

pub returns-clause-asks : goal.returns-clause-asks
returns-clause-asks g c =
    let new = c.next_act-given.new.self in
    of_act (λ (a : Result (Act g.row.B.Denot) Refusal). ∥ (g.K.Supposing.supposed → g.B.Body.shows new.body new.log.task (asked_by a) (seen_by new.fronts new.standing new.log.log)) ∥₁)
    (λ (a : Result (Act g.row.B.Denot) Refusal). (child : g.row.B.Denot) (its : ℕ) → IsSpawned child a
    → ∥ (g.K.Supposing.supposed → (own : ℕ → ℕ) → g.B.Body.shows child its nothing (at_start own (λ n. story_at new.fronts n))) ∥₁)
    c.in-Some.given c.in-Some.ensures.says c.in-Some.ensures.child
