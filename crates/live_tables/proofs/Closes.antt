-- Where a pass is answered by a phase, that phase is closed.
use Rattle.std.proofs.Common.{◌≡◌, ℕ, true, List, [], ◌∷◌, sym, ap, ◌∙◌, subst}
use Rattle.phase_modes.specs.Mode.{can_wait}
use Rattle.phase_modes.specs.Refusal.{first_refusal}
use Rattle.phase_model.specs.declared.call.Call.TheVariants.{Pass as pass}
use Rattle.phase_model.specs.declared.history.Event.{Event}
use Rattle.phase_model.specs.declared.history.Event.TheVariants.{Claim, Pass}
use Rattle.phase_model.specs.Conditions.{conditions}
use Rattle.phase_model.specs.Laws.{IsLegal}
use Rattle.phase_model.specs.Phases.{IsClosed}
use Rattle.phase_model.specs.Replies.{event_for, must_wait}
use Rattle.phase_model.specs.Rules.{Story, has_room, is_permitted}
use Rattle.phase_model.specs.Tasks.{has_mode}
use Rattle.phase_model.proofs.OrderingLaw.{legal_is_ordered}
use Rattle.phase_model.specs.Answers.{pass_result}
use Rattle.phaser_core.specs.declared.answer.PassAnswer.{PassAnswer}
use Rattle.phaser_core.specs.declared.answer.PassAnswer.TheVariants.{Passed, Claimed, Parked as Waits, Refused}
use Rattle.long_locks.specs.Told.{IsPassAnswer, IfPassed}
use Rattle.long_locks.proofs.Closes.{passed_is}
use Rattle.told_history.specs.Stories.{IsAnswered}

pub pass_closes : {T : Type 0} (seen now : Story) (t : ℕ) (x : T) (a : PassAnswer T ℕ)
    → IsAnswered (λ h r. IsPassAnswer x (pass_result h r) a) (pass t) seen now → IsLegal now
    → IfPassed a (λ p. has_mode can_wait t now.past ≡ true → IsClosed p now.past)
pass_closes seen now t x (Claimed y n) told legal = tt
pass_closes seen now t x Waits told legal = tt
pass_closes seen now t x (Refused y r) told legal = tt
pass_closes seen now t x (Passed y p) told legal = λ waiter.
    let s = told.0 in
    let before = s.past in
    let one =
    passed_is s t p x y
    (first_refusal (conditions s.limits s.terms before (pass t)))
    (must_wait s.limits s.terms before (pass t))
    (has_room s.limits (event_for s.limits s.terms before (pass t) ∷ before))
    (is_permitted s.limits s.terms before (Claim t))
    told.2.0 (sym told.2.1) in
    let all : now.past ≡ Pass t ∷ before = ap (λ (v : Story). v.past) told.3 ∙ one.0 in
    let waits_there : has_mode can_wait t (Pass t ∷ before) ≡ true = subst (λ (h : List Event). has_mode can_wait t h ≡ true) all waiter in
    let closed = (legal_is_ordered now.limits now.terms now.past legal [] [] before t all waits_there).1 in
    subst (λ (h : List Event). IsClosed p h) (sym all) (subst (λ (q : ℕ). IsClosed q (Pass t ∷ before)) one.1 closed)
