use Rattle.std.proofs.Common.{◌≡◌, ◌∷◌, ◌++◌, [], length, refl, ◌∙◌, Result, Ok, Err, ap}
use Rattle.std.specs.Prelude.{OnOk, OnErr}
use Rattle.phase_modes.specs.declared.refusal.Refusal.{Refusal}
use Rattle.task_standing.specs.Known.{Known}
use Rattle.tasks_in_flight.proofs.Saying.{ready_newborn, says_known}
use Rattle.tasks_in_flight.specs.Heard.{ends}
use Rattle.tasks_in_flight.proofs.task.Task.join.Goals as goal

-- whether it joined or not it is about the same
about_same : (r : Result (Unit {0}) Refusal) (old joined new : Known) (P : Type 0) → joined.plan ≡ old.plan → joined.number ≡ old.number
    → OnOk r (new ≡ joined) → OnErr r (P × (new ≡ old)) → (new.plan ≡ old.plan) × (new.number ≡ old.number)
about_same (Ok u) old joined new P same number done full =
    (ap (λ (k : Known). k.plan) done ∙ same, ap (λ (k : Known). k.number) done ∙ number)
about_same (Err e) old joined new P same number done full =
    (ap (λ (k : Known). k.plan) full.1, ap (λ (k : Known). k.number) full.1)

pub invariant_of-self-clause-ready : goal.invariant_of-self-clause-ready
invariant_of-self-clause-ready g c =
    let old = c.args.self.now in
    let same = about_same c.join.result old.standing (record old.standing { holding = old.standing.holding ++ c.args.held ∷ [] }) c.join.new.self
    (length old.standing.holding ≡ 16) refl refl c.join.ensures.joined c.join.ensures.full in
    ready_newborn g.B.Body.shows old.body old.log.task old.answer old.fronts old.standing c.join.new.self old.log.log
    same.0 same.1 c.requires.newborn old.ready

pub invariant_of-self-clause-end : goal.invariant_of-self-clause-end
invariant_of-self-clause-end g c = λ ended.
    let old = c.args.self.now in
    let same = about_same c.join.result old.standing (record old.standing { holding = old.standing.holding ++ c.args.held ∷ [] }) c.join.new.self
    (length old.standing.holding ≡ 16) refl refl c.join.ensures.joined c.join.ensures.full in
    says_known g.B.Body.shows old.body old.log.task ends old.fronts old.standing c.join.new.self old.log.log same.1 (old.end ended)
