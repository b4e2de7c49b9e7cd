-- Where a task stands on its phasers between its turns, as it looks and sends.
use Rattle.std.proofs.Common.{◌≡◌, ℕ, ◌<◌, true, ◌&&◌, nat_lt, List, [], ◌∷◌, length, ap}
use Rattle.std.specs.Prelude.{ℤ}
use Rattle.std.proofs.lemmas.Bool.{and_parts, ltb-true}
use Rattle.phase_modes.specs.declared.limits.Limits.{Limits}
use Rattle.phase_modes.specs.Mode.{can_signal, can_wait}
use Rattle.phase_model.specs.declared.history.Event.TheVariants.{Look as Looked, Send as Sent}
use Rattle.phase_model.specs.Tasks.{is_live, has_mode}
use Rattle.phase_model.specs.Phases.{waits, signals}
use Rattle.phase_model.specs.Rules.{is_permitted, has_room, look_of, same_look}
use Rattle.world_model.specs.declared.event.Step.TheVariants.{Send, Look}
use Rattle.world_model.specs.declared.event.Tried.TheVariants.{Send as Sending, Look as Looking}
use Rattle.world_model.specs.declared.event.WorldEvent.{WorldEvent}
use Rattle.world_model.specs.declared.event.WorldEvent.TheVariants.{Phaser}
use Rattle.world_model.specs.Parts.{terms_of, phaser_past}
use Rattle.world_model.specs.Due.{due, is_idle}
use Rattle.world_model.specs.ClockLaws.{is_pass_on}
use Rattle.world_model.specs.Replies.{is_accepted}
use Rattle.world_model.proofs.AbleComputed.{idle_in_act}
use Rattle.world_model.proofs.AbruptEnds.{nothing_due}
use Rattle.world_model.proofs.SmallWords.{empty_is}
use Rattle.world_model.proofs.PhasersLegal.{step_allowed}
use Rattle.world_model.proofs.TurnsStand.{is_sig_on, how_many}
use Rattle.job_kernels.proofs.Numbers.{without_none}
use Rattle.job_kernels.proofs.Plain.{IsPlain, turns}
use Rattle.job_kernels.proofs.Paces.{paces}

-- what a look was asked
pub record LookAsked (n t : ℕ) (w : List WorldEvent) : Type 0 where
  pub live : is_live t (phaser_past n w) ≡ true
  pub waiter : has_mode can_wait t (phaser_past n w) ≡ true
  pub turned : 0 < waits t (phaser_past n w)

pub look_asked : (l : Limits) (w : List WorldEvent) (n t a : ℕ) → is_accepted l w (Phaser n (Look t a)) ≡ true
    → LookAsked n t w
look_asked l w n t a ok =
    let h = phaser_past n w in
    let terms = terms_of n w in
    let x = look_of terms.ops a (waits t h) h in
    let f =
    (and_parts (is_permitted l terms h (Looked t a x)) (has_room l (Looked t a x ∷ h))
    (step_allowed l w n (Look t a) ok)).0 in
    let b =
    and_parts (is_live t h && has_mode can_wait t h && nat_lt a (length terms.ops) && nat_lt 0 (waits t h))
    (same_look x x) f in
    let c =
    and_parts (is_live t h && has_mode can_wait t h && nat_lt a (length terms.ops)) (nat_lt 0 (waits t h)) b.0 in
    let d = and_parts (is_live t h && has_mode can_wait t h) (nat_lt a (length terms.ops)) c.0 in
    let e = and_parts (is_live t h) (has_mode can_wait t h) d.0 in
    record { live = e.0; waiter = e.1; turned = ltb-true 0 (waits t h) c.1 }

-- what a send was asked
pub record SendAsked (n t : ℕ) (w : List WorldEvent) : Type 0 where
  pub live : is_live t (phaser_past n w) ≡ true
  pub signaller : has_mode can_signal t (phaser_past n w) ≡ true

pub send_asked : (l : Limits) (w : List WorldEvent) (n t a : ℕ) (v : ℤ)
    → is_accepted l w (Phaser n (Send t a v)) ≡ true → SendAsked n t w
send_asked l w n t a v ok =
    let h = phaser_past n w in
    let terms = terms_of n w in
    let f =
    (and_parts (is_permitted l terms h (Sent t a v)) (has_room l (Sent t a v ∷ h))
    (step_allowed l w n (Send t a v) ok)).0 in
    let c = and_parts (is_live t h && has_mode can_signal t h) (nat_lt a (length terms.ops)) f in
    let d = and_parts (is_live t h) (has_mode can_signal t h) c.0 in
    record { live = d.0; signaller = d.1 }

-- a task in no act stands where it has come
pub waits_idle : (l : Limits) (w : List WorldEvent) → IsPlain l w → (n t : ℕ) → is_idle t w ≡ true
    → is_live t (phaser_past n w) ≡ true → waits t (phaser_past n w) ≡ turns t w
waits_idle l w k n t idle v =
    let gone : due t w ≡ [] = empty_is (due t w) (nothing_due t w idle).0 in
    without_none (waits t (phaser_past n w)) (how_many (is_pass_on n) (due t w)) (turns t w)
    (paces l w k t n v).waited
    (ap (λ ds. how_many (is_pass_on n) ds) gone)

pub signals_idle : (l : Limits) (w : List WorldEvent) → IsPlain l w → (n t : ℕ) → is_idle t w ≡ true
    → is_live t (phaser_past n w) ≡ true → has_mode can_signal t (phaser_past n w) ≡ true
    → signals t (phaser_past n w) ≡ turns t w
signals_idle l w k n t idle v m =
    let gone : due t w ≡ [] = empty_is (due t w) (nothing_due t w idle).0 in
    without_none (signals t (phaser_past n w)) (how_many (is_sig_on n) (due t w)) (turns t w)
    ((paces l w k t n v).signalled m) (ap (λ ds. how_many (is_sig_on n) ds) gone)

pub waits_in_look : (l : Limits) (w : List WorldEvent) → IsPlain l w → (n t a : ℕ)
    → is_accepted l w (Phaser n (Look t a)) ≡ true → waits t (phaser_past n w) ≡ turns t w
waits_in_look l w k n t a ok =
    waits_idle l w k n t (idle_in_act l w t (Looking n a) ok) (look_asked l w n t a ok).live

pub signals_in_send : (l : Limits) (w : List WorldEvent) → IsPlain l w → (n t a : ℕ) (v : ℤ)
    → is_accepted l w (Phaser n (Send t a v)) ≡ true → signals t (phaser_past n w) ≡ turns t w
signals_in_send l w k n t a v ok =
    let s = send_asked l w n t a v ok in
    signals_idle l w k n t (idle_in_act l w t (Sending n a v) ok) s.live s.signaller
