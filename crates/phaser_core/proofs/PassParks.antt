-- A signal and a pass: who is parked after it.
use Rattle.std.proofs.Common.{◌≡◌, ℕ, ◌<◌, Bool, true, false, List, Option, Result, Ok, Err, length, ap, sym, refl, ◌∙◌, arith}
use Rattle.phase_modes.specs.declared.refusal.Refusal.{Refusal}
use Rattle.phase_model.specs.declared.history.Event.{Event}
use Rattle.phase_model.specs.declared.history.Event.TheVariants.{Pass, Claim}
use Rattle.phase_model.specs.Rules.{Story}
use Rattle.phase_model.specs.declared.call.Call.TheVariants.{Signal as signal, Pass as pass}
use Rattle.phase_model.specs.Replies.{Reply, refused, not_yet, done, reply, after}
use Rattle.phase_model.specs.Waiting.{would_wait, signal_would_wait, is_not_yet}
use Rattle.phase_model.specs.declared.answer.Signalling.{Signalling}
use Rattle.phase_model.specs.declared.answer.Signalling.TheVariants.{Signalled as Sent, NotYet as Held}
use Rattle.phase_model.specs.declared.answer.Passing.{Passing}
use Rattle.phase_model.specs.declared.answer.Passing.TheVariants.{Passed, Claimed, NotYet}
use Rattle.phase_model.specs.Answers.{signal_result, pass_result}
use Rattle.phaser_core.specs.declared.parked.Parked.{Parked}
use Rattle.phaser_core.specs.declared.parked.ParkedCall.TheVariants.{Pass as ToPass, Signal as ToSignal}
use Rattle.phaser_core.specs.Settled.{IsSettled}
use Rattle.phaser_core.specs.Parking.{is_parked, are_parked_once, would_park, all_wait, waiting, has_to_wait, is_held, locked_pass, locked_signal, parking}
use Rattle.phaser_core.proofs.Parks.{all_kept, all_push, once_push, one_place_more}

parked_wait : {T : Type 0} (v : Story) (waits again : Bool) (p : Parked T) (ps : List (Parked T)) → (waits ≡ true → would_park v p.task p.call ≡ true) → all_wait v ps ≡ true → all_wait v (parking waits again p ps) ≡ true
parked_wait v true true p ps k w = w
parked_wait v true false p ps k w = all_push v ps p w (k refl)
parked_wait v false again p ps k w = w

parked_once : {T : Type 0} (waits again : Bool) (p : Parked T) (ps : List (Parked T)) → is_parked p.task ps ≡ again → are_parked_once ps ≡ true → are_parked_once (parking waits again p ps) ≡ true
parked_once true true p ps k w = w
parked_once true false p ps k w = once_push ps p w k
parked_once false again p ps k w = w

-- all who are parked after a call wait
pub parking_waits : {T : Type 0} (s' : Story) (waits : Bool) (p : Parked T) (ps qs : List (Parked T)) → (waits ≡ true → would_park s' p.task p.call ≡ true) → all_wait s' ps ≡ true → qs ≡ parking waits (is_parked p.task ps) p ps → all_wait s' qs ≡ true
parking_waits s' waits p ps qs k w left =
    ap (λ (l : List (Parked _)). all_wait s' l) left ∙ parked_wait s' waits (is_parked p.task ps) p ps k w

-- each once
pub parking_once : {T : Type 0} (waits : Bool) (p : Parked T) (ps qs : List (Parked T)) → are_parked_once ps ≡ true → qs ≡ parking waits (is_parked p.task ps) p ps → are_parked_once qs ≡ true
parking_once waits p ps qs w left = ap (λ (l : List (Parked _)). are_parked_once l) left ∙ parked_once waits (is_parked p.task ps) p ps refl w

held_up_by : (h : List Event) (r : Reply) → has_to_wait (pass_result h r) ≡ true → r ≡ not_yet
held_up_by h (refused x) k = absurd cc
held_up_by h not_yet k = refl
held_up_by h (done (Pass t)) k = absurd cc
held_up_by h (done (Claim t)) k = absurd cc
held_up_by h (done e) k = absurd cc

-- a pass that has to wait changes nothing, and waits after it
pub pass_waits : (s s' : Story) (t : ℕ) → s' ≡ after s (reply s (pass t)) → has_to_wait (pass_result s.past (reply s (pass t))) ≡ true → (s' ≡ s) × (would_park s' t ToPass ≡ true)
pass_waits s s' t is k =
    let not_yet_is = held_up_by s.past (reply s (pass t)) k in
    let same : s' ≡ s = is ∙ ap (after s) not_yet_is in
    (same, ap (λ (v : Story). would_wait v t) same ∙ ap (λ r. is_not_yet r) not_yet_is)

held_by : (r : Reply) → is_held (signal_result r) ≡ true → r ≡ not_yet
held_by (refused x) k = absurd cc
held_by not_yet k = refl
held_by (done e) k = absurd cc

-- so does a signal that is held
pub signal_waits : (s s' : Story) (t : ℕ) (x : Option ℕ) → s' ≡ after s (reply s (signal t x)) → is_held (signal_result (reply s (signal t x))) ≡ true → (s' ≡ s) × (would_park s' t (ToSignal x) ≡ true)
signal_waits s s' t x is k =
    let not_yet_is = held_by (reply s (signal t x)) k in
    let same : s' ≡ s = is ∙ ap (after s) not_yet_is in
    (same, ap (λ (v : Story). signal_would_wait v t x) same ∙ ap (λ r. is_not_yet r) not_yet_is)

-- where nothing has changed, all parked ones are kept
pub kept_where_same : {T : Type 0} (s s' : Story) (ps qs : List (Parked T)) → IsSettled s ps → s' ≡ s → qs ≡ waiting s' ps → qs ≡ ps
kept_where_same s s' ps qs k same left = left ∙ (ap (λ (v : Story). waiting v ps) same ∙ all_kept s ps k.waiting)

-- and there is a place for one more
pub place_where_same : {T : Type 0} (s s' : Story) (p : Parked T) (ps qs : List (Parked T)) → IsSettled s ps → s' ≡ s → would_park s' p.task p.call ≡ true → qs ≡ ps → is_parked p.task qs ≡ false → length qs < 256
place_where_same s s' p ps qs k same waits all out =
    let few : length ps < 256 = one_place_more s ps p k.regs k.legal k.waiting k.once (ap (λ (v : Story). would_park v p.task p.call) (sym same) ∙ waits) (ap (λ (l : List (Parked _)). is_parked p.task l) (sym all) ∙ out) in
    omega (arith, few, ap (λ (l : List (Parked _)). length l) all)

-- whether the task is parked already counts only where it has to wait
pub parking_same : {T : Type 0} (waits : Bool) (p : Parked T) (ps qs : List (Parked T)) → (waits ≡ true → qs ≡ ps) → parking waits (is_parked p.task qs) p qs ≡ parking waits (is_parked p.task ps) p qs
parking_same true p ps qs k = ap (λ (l : List (Parked _)). parking true (is_parked p.task l) p qs) (k refl)
parking_same false p ps qs k = refl

pub pass_same : {T P : Type 0} (a : Result (Passing P) Refusal) (t : ℕ) (x : T) (ps qs : List (Parked T)) → (has_to_wait a ≡ true → qs ≡ ps) → locked_pass a (is_parked t qs) x ≡ locked_pass a (is_parked t ps) x
pass_same (Ok (Passed n)) t x ps qs k = refl
pass_same (Ok (Claimed n)) t x ps qs k = refl
pass_same (Ok NotYet) t x ps qs k = ap (λ (l : List (Parked _)). locked_pass (Ok NotYet) (is_parked t l) x) (k refl)
pass_same (Err r) t x ps qs k = refl

pub signal_same : {T : Type 0} (a : Result Signalling Refusal) (t : ℕ) (x : T) (ps qs : List (Parked T)) → (is_held a ≡ true → qs ≡ ps) → locked_signal a (is_parked t qs) x ≡ locked_signal a (is_parked t ps) x
signal_same (Ok Sent) t x ps qs k = refl
signal_same (Ok Held) t x ps qs k = ap (λ (l : List (Parked _)). locked_signal (Ok Held) (is_parked t l) x) (k refl)
signal_same (Err r) t x ps qs k = refl
