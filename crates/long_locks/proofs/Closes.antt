-- Where a pass is answered by a phase, that phase is closed.
use Rattle.std.proofs.Common.{if◌then◌else◌, ◌≡◌, ℕ, Bool, true, false, List, [], ◌∷◌, Option, Some, None, refl, sym, ◌∙◌, subst}
use Rattle.phase_modes.specs.declared.refusal.Refusal.{Refusal}
use Rattle.phase_modes.specs.Mode.{can_wait}
use Rattle.phase_modes.specs.Refusal.{first_refusal}
use Rattle.phase_model.specs.declared.call.Call.TheVariants.{Pass as pass}
use Rattle.phase_model.specs.declared.history.Event.{Event}
use Rattle.phase_model.specs.declared.history.Event.TheVariants.{Claim, Pass}
use Rattle.phase_model.specs.declared.terms.Terms.{Terms}
use Rattle.phase_model.specs.Conditions.{conditions}
use Rattle.phase_model.specs.Phases.{waits, IsClosed}
use Rattle.phase_model.specs.Replies.{after, decided, event_for, must_wait}
use Rattle.phase_model.specs.Rules.{Story, has_room, is_legal, is_permitted}
use Rattle.phase_model.specs.Tasks.{has_mode}
use Rattle.phase_model.proofs.OrderingLaw.{legal_is_ordered}
use Rattle.phase_model.specs.Answers.{pass_result}
use Rattle.phaser_core.specs.declared.answer.PassAnswer.{PassAnswer}
use Rattle.phaser_core.specs.declared.answer.PassAnswer.TheVariants.{Passed, Claimed, Parked as Waits, Refused}
use Rattle.phaser_core.specs.Parking.{locked_pass}
use Rattle.phaser_core.specs.LongLife.{long_limits}
use Rattle.long_locks.specs.Told.{story_of, IsAnswered, IsPassAnswer, IfPassed}

-- the answer names the phase that the event ended
pub passed_is : {T : Type 0} (s : Story) (t p : ℕ) (x y : T) (o : Option Refusal) (w r b again : Bool)
    → locked_pass (pass_result s.past (decided o w r (if b then Claim t else Pass t))) again x ≡ Passed y p
    → ((after s (decided o w r (if b then Claim t else Pass t))).past ≡ Pass t ∷ s.past) × (waits t s.past ≡ p)
passed_is s t p x y (Some e) w r b again is = absurd (cc is)
passed_is s t p x y None true r b true is = absurd (cc is)
passed_is s t p x y None true r b false is = absurd (cc is)
passed_is s t p x y None false false b again is = absurd (cc is)
passed_is s t p x y None false true true again is = absurd (cc is)
passed_is s t p x y None false true false again is = (refl, cc is)

pub pass_closes : {T : Type 0} (terms : Terms) (seen now : List Event) (t : ℕ) (x : T) (a : PassAnswer T ℕ)
    → IsAnswered (λ h r. IsPassAnswer x (pass_result h r) a) terms (pass t) seen now → is_legal long_limits terms now ≡ true
    → IfPassed a (λ p. has_mode can_wait t now ≡ true → IsClosed p now)
pass_closes terms seen now t x (Claimed y n) told legal = tt
pass_closes terms seen now t x Waits told legal = tt
pass_closes terms seen now t x (Refused y r) told legal = tt
pass_closes terms seen now t x (Passed y p) told legal = λ waiter.
    let before = told.0 in
    let one =
    passed_is (story_of terms before) t p x y
    (first_refusal (conditions long_limits terms before (pass t)))
    (must_wait long_limits terms before (pass t))
    (has_room long_limits (event_for long_limits terms before (pass t) ∷ before))
    (is_permitted long_limits terms before (Claim t))
    told.2.0 (sym told.2.1) in
    let all : now ≡ Pass t ∷ before = told.3 ∙ one.0 in
    let waits_there : has_mode can_wait t (Pass t ∷ before) ≡ true = subst (λ (h : List Event). has_mode can_wait t h ≡ true) all waiter in
    let closed = (legal_is_ordered long_limits terms now legal [] [] before t all waits_there).1 in
    subst (λ (h : List Event). IsClosed p h) (sym all) (subst (λ (q : ℕ). IsClosed q (Pass t ∷ before)) one.1 closed)
