-- Who was answered so was replied to with its step, after a legal history that goes on from what was seen.
use Rattle.std.specs.Prelude.{ℤ}
use Rattle.std.proofs.Common.{ℕ, ◌≡◌, Bool, true, false, if◌then◌else◌, List, [], ◌∷◌, Option, Some, None, Ok, refl, ap, subst, ◌∙◌}
use Rattle.phase_modes.specs.declared.limits.Limits.{Limits}
use Rattle.phase_modes.specs.declared.refusal.Refusal.{Refusal}
use Rattle.phase_modes.specs.declared.reg.Mode.{Mode}
use Rattle.phase_modes.specs.Refusal.{first_refusal}
use Rattle.phase_model.specs.Conditions.{conditions}
use Rattle.phase_model.specs.declared.call.Call.TheVariants as calls
use Rattle.phase_model.specs.declared.history.Event.{Event}
use Rattle.phase_model.specs.declared.history.Event.TheVariants.{Make, Reg, Sig, Claim, Pass, Send, Drop}
use Rattle.phase_model.specs.declared.op.Look.{Look}
use Rattle.phase_model.specs.declared.terms.Terms.{Terms}
use Rattle.phase_model.specs.Laws.{IsLegal}
use Rattle.phase_model.specs.Replies.{Reply, refused, not_yet, done, reply, after, decided, done_result, event_for, must_wait}
use Rattle.phase_model.specs.Rules.{Story, has_room, is_legal, is_permitted}
use Rattle.phase_model.specs.Answers.{made_with, signal_result, pass_result, look_result}
use Rattle.phase_model.proofs.OrderingLaw.{is_legal-rest}
use Rattle.phaser_core.specs.declared.answer.SignalAnswer.{SignalAnswer}
use Rattle.phaser_core.specs.declared.answer.SignalAnswer.TheVariants.{Signalled}
use Rattle.phaser_core.specs.declared.answer.PassAnswer.{PassAnswer}
use Rattle.phaser_core.specs.declared.answer.PassAnswer.TheVariants.{Passed, Claimed, Parked, Refused}
use Rattle.phaser_core.specs.Parking.{locked_signal, locked_pass, IsBack}
use Rattle.long_locks.specs.Told.{IsSignalAnswer, IsPassAnswer}
use Rattle.world_model.specs.declared.event.Step.TheVariants as steps
use Rattle.told_history.specs.Stories.{GoesOn, IsAnswered, IsMade}
use Rattle.told_history.proofs.Goes.{answered_goes}
use Rattle.table_receipts.specs.Logs.{Sight}
use Rattle.table_receipts.specs.Seen.{story_at}
use Rattle.task_standing.specs.Known.{Known}
use Rattle.tasks_in_flight.specs.inner.GoingOn.{IsOfPass}
use Rattle.task_worker.specs.inner.Driven.{IsReplied, Replies}

-- what came before a call is legal if what it left is
legal_before : (s now : Story) (r : Reply) → now ≡ after s r → IsLegal now → IsLegal s
legal_before s now (refused e) is legal = subst (λ (v : Story). IsLegal v) is legal
legal_before s now not_yet is legal = subst (λ (v : Story). IsLegal v) is legal
legal_before s now (done e) is legal =
    is_legal-rest s.limits s.terms (e ∷ []) s.past (subst (λ (v : Story). IsLegal v) is legal)

-- before a phaser is made there is no event
unmade_is_legal : (l : Limits) (terms : Terms) (h : List Event) (t : ℕ) (m : Mode) (e : Event)
    → reply (record { limits = l; terms = terms; past = h }) (calls.Make t m) ≡ done e → is_legal l terms h ≡ true
unmade_is_legal l terms [] t m e is = refl
unmade_is_legal l terms (f ∷ h) t m e is = absurd cc

legal_before_making : (s now : Story) (terms : Terms) (t : ℕ) (m : Mode) (r : Reply) → reply s (calls.Make t m) ≡ r
    → now ≡ made_with s terms r → IsLegal now → IsLegal s
legal_before_making s now terms t m (refused e) replied is legal = subst (λ (v : Story). IsLegal v) is legal
legal_before_making s now terms t m not_yet replied is legal = subst (λ (v : Story). IsLegal v) is legal
legal_before_making s now terms t m (done e) replied is legal = unmade_is_legal s.limits s.terms s.past t m e replied

done_is : (e : Event) (o : Option Refusal) (w r : Bool) → Ok tt ≡ done_result (decided o w r e) → decided o w r e ≡ done e
done_is e (Some x) w r is = absurd (cc is)
done_is e None true r is = absurd (cc is)
done_is e None false false is = absurd (cc is)
done_is e None false true is = refl

pub registration_replied : (seen now : Story) (t child : ℕ) (m : Mode)
    → IsAnswered (λ _ r. Ok tt ≡ done_result r) (calls.Register t child m) seen now → IsLegal now
    → IsReplied seen (steps.Reg t child m)
registration_replied seen now t child m told legal =
    let s = told.0 in
    let e = Reg t child m in (
      s,
      legal_before s now (reply s (calls.Register t child m)) told.3 legal,
      told.1,
      done_is e (first_refusal (conditions s.limits s.terms s.past (calls.Register t child m))) false (has_room s.limits (e ∷ s.past)) told.2,
    )

pub drop_replied : (seen now : Story) (t : ℕ) → IsAnswered (λ _ r. Ok tt ≡ done_result r) (calls.Drop t) seen now
    → IsLegal now → IsReplied seen (steps.Drop t)
drop_replied seen now t told legal =
    let s = told.0 in
    let e = Drop t in (
      s,
      legal_before s now (reply s (calls.Drop t)) told.3 legal,
      told.1,
      done_is e (first_refusal (conditions s.limits s.terms s.past (calls.Drop t))) false (has_room s.limits (e ∷ s.past)) told.2,
    )

signalled : {T : Type 0} (x y : T) (again : Bool) (e : Event) (o : Option Refusal) (w r : Bool)
    → Signalled y ≡ locked_signal (signal_result (decided o w r e)) again x → decided o w r e ≡ done e
signalled x y again e (Some f) w r is = absurd (cc is)
signalled x y true e None true r is = absurd (cc is)
signalled x y false e None true r is = absurd (cc is)
signalled x y again e None false false is = absurd (cc is)
signalled x y again e None false true is = refl

pub signal_replied : {T : Type 0} (x y : T) (seen now : Story) (t : ℕ) (n : Option ℕ)
    → IsAnswered (λ _ r. IsSignalAnswer x (signal_result r) (Signalled y)) (calls.Signal t n) seen now
    → IsLegal now → IsReplied seen (steps.Sig t n)
signal_replied x y seen now t n told legal =
    let s = told.0 in
    let c = calls.Signal t n in
    let e = Sig t n in (
      s,
      legal_before s now (reply s c) told.3 legal,
      told.1,
      signalled x y told.2.0 e (first_refusal (conditions s.limits s.terms s.past c)) (must_wait s.limits s.terms s.past c)
          (has_room s.limits (e ∷ s.past)) told.2.1,
    )

passed : {T : Type 0} (x y : T) (p : ℕ) (h : List Event) (again : Bool) (t : ℕ) (o : Option Refusal) (w r claims : Bool)
    → Passed y p ≡ locked_pass (pass_result h (decided o w r (if claims then Claim t else Pass t))) again x
    → decided o w r (if claims then Claim t else Pass t) ≡ done (Pass t)
passed x y p h again t (Some f) w r claims is = absurd (cc is)
passed x y p h true t None true r claims is = absurd (cc is)
passed x y p h false t None true r claims is = absurd (cc is)
passed x y p h again t None false false claims is = absurd (cc is)
passed x y p h again t None false true true is = absurd (cc is)
passed x y p h again t None false true false is = refl

claimed : {T : Type 0} (x y : T) (n : ℕ) (h : List Event) (again : Bool) (t : ℕ) (o : Option Refusal) (w r claims : Bool)
    → Claimed y n ≡ locked_pass (pass_result h (decided o w r (if claims then Claim t else Pass t))) again x
    → decided o w r (if claims then Claim t else Pass t) ≡ done (Claim t)
claimed x y n h again t (Some f) w r claims is = absurd (cc is)
claimed x y n h true t None true r claims is = absurd (cc is)
claimed x y n h false t None true r claims is = absurd (cc is)
claimed x y n h again t None false false claims is = absurd (cc is)
claimed x y n h again t None false true true is = refl
claimed x y n h again t None false true false is = absurd (cc is)

pub pass_replied : {T : Type 0} (x y : T) (p : ℕ) (seen now : Story) (t : ℕ)
    → IsAnswered (λ h r. IsPassAnswer x (pass_result h r) (Passed y p)) (calls.Pass t) seen now → IsLegal now
    → IsReplied seen (steps.Pass t)
pass_replied x y p seen now t told legal =
    let s = told.0 in
    let c = calls.Pass t in (
      s,
      legal_before s now (reply s c) told.3 legal,
      told.1,
      passed x y p s.past told.2.0 t (first_refusal (conditions s.limits s.terms s.past c)) (must_wait s.limits s.terms s.past c)
          (has_room s.limits (event_for s.limits s.terms s.past c ∷ s.past)) (is_permitted s.limits s.terms s.past (Claim t)) told.2.1,
    )

pub claim_replied : {T : Type 0} (x y : T) (n : ℕ) (seen now : Story) (t : ℕ)
    → IsAnswered (λ h r. IsPassAnswer x (pass_result h r) (Claimed y n)) (calls.Pass t) seen now → IsLegal now
    → IsReplied seen (steps.Claim t)
claim_replied x y n seen now t told legal =
    let s = told.0 in
    let c = calls.Pass t in (
      s,
      legal_before s now (reply s c) told.3 legal,
      told.1,
      claimed x y n s.past told.2.0 t (first_refusal (conditions s.limits s.terms s.past c)) (must_wait s.limits s.terms s.past c)
          (has_room s.limits (event_for s.limits s.terms s.past c ∷ s.past)) (is_permitted s.limits s.terms s.past (Claim t)) told.2.1,
    )

pub send_replied : (seen now : Story) (t a : ℕ) (v : ℤ) → IsAnswered (λ _ r. Ok tt ≡ done_result r) (calls.Send t a v) seen now
    → IsLegal now → IsReplied seen (steps.Send t a v)
send_replied seen now t a v told legal =
    let s = told.0 in
    let e = Send t a v in (
      s,
      legal_before s now (reply s (calls.Send t a v)) told.3 legal,
      told.1,
      done_is e (first_refusal (conditions s.limits s.terms s.past (calls.Send t a v))) false (has_room s.limits (e ∷ s.past)) told.2,
    )

pub make_replied : (seen now : Story) (t : ℕ) (m : Mode) (terms : Terms) → IsMade (Ok tt) (calls.Make t m) terms seen now
    → IsLegal now → IsReplied seen (steps.Make t m terms)
make_replied seen now t m terms told legal =
    let s = told.0 in
    let e = Make t m in (
      s,
      legal_before_making s now terms t m (reply s (calls.Make t m)) refl told.3 legal,
      told.1,
      done_is e (first_refusal (conditions s.limits s.terms s.past (calls.Make t m))) false (has_room s.limits (e ∷ s.past)) told.2,
    )

looked : (x : Look ℤ) (e : Event) (o : Option Refusal) (w r : Bool) → Ok x ≡ look_result (decided o w r e) → decided o w r e ≡ done e
looked x e (Some f) w r is = absurd (cc is)
looked x e None true r is = absurd (cc is)
looked x e None false false is = absurd (cc is)
looked x e None false true is = refl

pub look_replied : (x : Look ℤ) (seen now : Story) (t a : ℕ) → IsAnswered (λ _ r. Ok x ≡ look_result r) (calls.Look t a) seen now
    → IsLegal now → IsReplied seen (steps.Look t a)
look_replied x seen now t a told legal =
    let s = told.0 in
    let c = calls.Look t a in
    let e = event_for s.limits s.terms s.past c in (
      s,
      legal_before s now (reply s c) told.3 legal,
      told.1,
      looked x e (first_refusal (conditions s.limits s.terms s.past c)) false (has_room s.limits (e ∷ s.past)) told.2,
    )

-- what was seen goes on to what a signal leaves, and to what a pass does
pub signal_goes : {T : Type 0} (x : T) (a : SignalAnswer T) (before now : Story) (t : ℕ) (n : Option ℕ)
    → IsAnswered (λ _ r. IsSignalAnswer x (signal_result r) a) (calls.Signal t n) before now → GoesOn before now
signal_goes x a before now t n told = answered_goes (λ _ r. IsSignalAnswer x (signal_result r) a) (calls.Signal t n) before now told

pub pass_goes : {T : Type 0} (x : T) (a : PassAnswer T ℕ) (before now : Story) (t : ℕ)
    → IsAnswered (λ h r. IsPassAnswer x (pass_result h r) a) (calls.Pass t) before now → GoesOn before now
pass_goes x a before now t told = answered_goes (λ h r. IsPassAnswer x (pass_result h r) a) (calls.Pass t) before now told

-- what a pass that has passed no phase says of the item that it was given
pub pass_is_of : {T : Type 0} (a : PassAnswer T ℕ) (known : T → Known) (k : Known) (x : T) (before now : Story) (fronts : List Sight) (n t : ℕ)
    → ((y : T) (p : ℕ) → a ≡ Passed y p → ⊥)
    → known x ≡ k → before ≡ story_at fronts n → IsBack x a → IsAnswered (λ h r. IsPassAnswer x (pass_result h r) a) (calls.Pass t) before now
    → IsLegal now → IsOfPass known k (Replies fronts) n t a
pass_is_of (Passed y p) known k x before now fronts n t never same there back told legal = absurd (never y p refl)
pass_is_of (Claimed y m) known k x before now fronts n t never same there back told legal =
    (ap known back ∙ same, subst (λ (s : Story). IsReplied s (steps.Claim t)) there (claim_replied x y m before now t told legal))
pass_is_of Parked known k x before now fronts n t never same there back told legal = tt
pass_is_of (Refused y r) known k x before now fronts n t never same there back told legal = ap known back ∙ same
