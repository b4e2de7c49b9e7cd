use Rattle.std.proofs.Common.{Result, Ok, Err}
use Rattle.std.specs.Prelude.{IfOk}
use Rattle.phase_modes.specs.declared.refusal.Refusal.{Refusal}
use Rattle.job_script.specs.declared.act.Act.{Act}
use Rattle.live_rt.specs.inner.Says.{HasStepped}
use Rattle.live_rt.proofs.acts.TeamActsTaskWorker.next_act.Goals as goal

-- what is so of what was given is so of the act, if that is one
of_act : {A : Type 0} (P : Result A Refusal → Type 0) (r : Result A Refusal) → P r → IfOk r (λ a. P (Ok a))
of_act P (Ok a) p = p
of_act P (Err e) p = tt

pub returns-clause-asks : goal.returns-clause-asks
returns-clause-asks g c =
    let new = c.next_act-given.new.self in
    of_act (λ (a : Result (Act g.row.B.Denot) Refusal). ∥ (g.J.Supposing.supposed → HasStepped g.B.Body.shows new.body a new.places new.standing) ∥₁)
    c.in-Some.given c.in-Some.ensures.stepped
