-- What a call's answer is to a body that asked for it.
use Rattle.std.proofs.Common.{ℕ, ◌≡◌, Bool, true, false, if◌then◌else◌, List, [], ◌∷◌, Option, Some, None, Ok, refl, sym, ap, subst, ◌∙◌}
use Rattle.std.specs.Prelude.{ℤ}
use Rattle.phase_modes.specs.declared.limits.Limits.{Limits}
use Rattle.phase_modes.specs.declared.refusal.Refusal.{Refusal}
use Rattle.phase_modes.specs.declared.reg.Mode.{Mode}
use Rattle.phase_modes.specs.Mode.{can_wait}
use Rattle.phase_modes.specs.Refusal.{first_refusal}
use Rattle.phase_model.specs.Conditions.{conditions}
use Rattle.phase_model.specs.declared.call.Call.TheVariants as calls
use Rattle.phase_model.specs.declared.history.Event.{Event}
use Rattle.phase_model.specs.declared.history.Event.TheVariants.{Make, Reg, Sig, Claim, Pass, Send}
use Rattle.phase_model.specs.declared.terms.Terms.{Terms}
use Rattle.phase_model.specs.Phases.{waits, IsClosed}
use Rattle.phase_model.specs.Replies.{reply, after, decided, done_result, event_for, must_wait}
use Rattle.phase_model.specs.Rules.{Story, has_room, is_permitted}
use Rattle.phase_model.specs.Tasks.{has_mode}
use Rattle.phase_model.specs.Answers.{made_with, signal_result, pass_result}
use Rattle.phaser_core.specs.declared.answer.SignalAnswer.TheVariants.{Signalled}
use Rattle.phaser_core.specs.declared.answer.PassAnswer.TheVariants.{Passed}
use Rattle.phaser_core.specs.Parking.{locked_signal, locked_pass}
use Rattle.long_locks.specs.Told.{IsSignalAnswer, IsPassAnswer}
use Rattle.told_history.specs.Stories.{IsAnswered, IsMade}
use Rattle.tasks_in_flight.specs.Heard.{HasMade, HasSent, IsOwn}
use Rattle.tasks_in_flight.specs.inner.Ready.{HasJustDone, HasJustPassed}

-- ---- by what was answered

-- a call that is done adds its event
done_adds : (s : Story) (e : Event) (o : Option Refusal) (w r : Bool)
    → Ok tt ≡ done_result (decided o w r e) → (after s (decided o w r e)).past ≡ e ∷ s.past
done_adds s e (Some x) w r is = absurd (cc is)
done_adds s e None true r is = absurd (cc is)
done_adds s e None false false is = absurd (cc is)
done_adds s e None false true is = refl

pub has_sent : (seen now : Story) (t a : ℕ) (v : ℤ) → IsAnswered (λ _ r. Ok tt ≡ done_result r) (calls.Send t a v) seen now
    → HasSent t a v seen now
has_sent seen now t a v told =
    let s = told.0 in
    let c = calls.Send t a v in
    let e = Send t a v in (
      [],
      s.past,
      ap (λ (x : Story). x.past) told.3
          ∙ done_adds s e (first_refusal (conditions s.limits s.terms s.past c)) false (has_room s.limits (e ∷ s.past)) told.2,
      told.1.1,
    )

pub registration_is_own : (seen now : Story) (t child : ℕ) (m : Mode)
    → IsAnswered (λ _ r. Ok tt ≡ done_result r) (calls.Register t child m) seen now → IsOwn t now.past
registration_is_own seen now t child m told =
    let s = told.0 in
    let c = calls.Register t child m in
    let e = Reg t child m in
    subst (λ (h : List Event). IsOwn t h)
    (sym (ap (λ (x : Story). x.past) told.3
    ∙ done_adds s e (first_refusal (conditions s.limits s.terms s.past c)) false (has_room s.limits (e ∷ s.past)) told.2)) refl

makes : (s : Story) (terms : Terms) (e : Event) (o : Option Refusal) (r : Bool) → Ok tt ≡ done_result (decided o false r e)
    → ((made_with s terms (decided o false r e)).past ≡ e ∷ s.past) × ((made_with s terms (decided o false r e)).terms ≡ terms)
makes s terms e (Some x) r is = absurd (cc is)
makes s terms e None false is = absurd (cc is)
makes s terms e None true is = (refl, refl)

-- only a phaser that nobody has made is made
first_made : (l : Limits) (old terms : Terms) (h : List Event) (t : ℕ) (m : Mode)
    → Ok tt ≡ done_result (reply (record { limits = l; terms = old; past = h }) (calls.Make t m))
    → HasMade t m terms (made_with (record { limits = l; terms = old; past = h }) terms (reply (record { limits = l; terms = old; past = h }) (calls.Make t m)))
first_made l old terms [] t m is =
    makes (record { limits = l; terms = old; past = [] }) terms (Make t m) (first_refusal (conditions l old [] (calls.Make t m))) (has_room l (Make t m ∷ [])) is
first_made l old terms (e ∷ h) t m is = absurd (cc is)

pub has_made : (seen now : Story) (t : ℕ) (m : Mode) (terms : Terms) → IsMade (Ok tt) (calls.Make t m) terms seen now → HasMade t m terms now
has_made seen now t m terms told =
    let s = told.0 in
    subst (λ (x : Story). HasMade t m terms x) (sym told.3) (first_made s.limits s.terms terms s.past t m told.2)

signal_adds : {T : Type 0} (x y : T) (again : Bool) (s : Story) (e : Event) (o : Option Refusal) (w r : Bool)
    → Signalled y ≡ locked_signal (signal_result (decided o w r e)) again x → (after s (decided o w r e)).past ≡ e ∷ s.past
signal_adds x y again s e (Some f) w r is = absurd (cc is)
signal_adds x y true s e None true r is = absurd (cc is)
signal_adds x y false s e None true r is = absurd (cc is)
signal_adds x y again s e None false false is = absurd (cc is)
signal_adds x y again s e None false true is = refl

pub just_signalled : {T : Type 0} (x y : T) (seen now : Story) (t : ℕ) (n : Option ℕ)
    → IsAnswered (λ _ r. IsSignalAnswer x (signal_result r) (Signalled y)) (calls.Signal t n) seen now → HasJustDone (Sig t n) seen now
just_signalled x y seen now t n told =
    let s = told.0 in
    let c = calls.Signal t n in
    let e = Sig t n in (
      s.past,
      ap (λ (v : Story). v.past) told.3
          ∙ signal_adds x y told.2.0 s e (first_refusal (conditions s.limits s.terms s.past c)) (must_wait s.limits s.terms s.past c)
          (has_room s.limits (e ∷ s.past)) told.2.1,
      told.1.1,
    )

-- who is answered that it has passed has, in the phase in which it was
pass_adds : {T : Type 0} (x y : T) (p : ℕ) (again : Bool) (s : Story) (t : ℕ) (o : Option Refusal) (w r claims : Bool)
    → Passed y p ≡ locked_pass (pass_result s.past (decided o w r (if claims then Claim t else Pass t))) again x
    → (p ≡ waits t s.past) × ((after s (decided o w r (if claims then Claim t else Pass t))).past ≡ Pass t ∷ s.past)
pass_adds x y p again s t (Some f) w r claims is = absurd (cc is)
pass_adds x y p true s t None true r claims is = absurd (cc is)
pass_adds x y p false s t None true r claims is = absurd (cc is)
pass_adds x y p again s t None false false claims is = absurd (cc is)
pass_adds x y p again s t None false true true is = absurd (cc is)
pass_adds x y p again s t None false true false is = (cc is, refl)

pub just_passed : {T : Type 0} (x y : T) (p : ℕ) (seen now : Story) (t : ℕ)
    → IsAnswered (λ h r. IsPassAnswer x (pass_result h r) (Passed y p)) (calls.Pass t) seen now
    → (has_mode can_wait t now.past ≡ true → IsClosed p now.past) → HasJustPassed t seen now
just_passed x y p seen now t told closed =
    let s = told.0 in
    let c = calls.Pass t in
    let added =
    pass_adds x y p told.2.0 s t (first_refusal (conditions s.limits s.terms s.past c)) (must_wait s.limits s.terms s.past c)
    (has_room s.limits (event_for s.limits s.terms s.past c ∷ s.past)) (is_permitted s.limits s.terms s.past (Claim t)) told.2.1 in
    let past : now.past ≡ Pass t ∷ s.past = ap (λ (v : Story). v.past) told.3 ∙ added.1 in (
      s.past,
      past,
      told.1.1,
      λ can. subst (λ (k : ℕ). IsClosed k (Pass t ∷ s.past)) added.0
          (subst (λ (h : List Event). IsClosed p h) past (closed (subst (λ (h : List Event). has_mode can_wait t h ≡ true) (sym past) can))),
    )
