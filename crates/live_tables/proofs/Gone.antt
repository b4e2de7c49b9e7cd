-- On a phaser on which nobody is registered each call of a task is refused.
use Rattle.std.proofs.Common.{if◌then◌else◌, ◌≡◌, ℕ, Bool, false, List, [], ◌∷◌, length, Option, Some, refl, sym, ap, ◌∙◌, subst}
use Rattle.phase_modes.specs.declared.refusal.Refusal.{Refusal}
use Rattle.phase_modes.specs.declared.refusal.Refusal.TheVariants.{NotRegistered}
use Rattle.phase_modes.specs.Refusal.{first_refusal}
use Rattle.phase_model.specs.declared.call.Call.{Call}
use Rattle.phase_model.specs.declared.history.Event.{Event}
use Rattle.phase_model.specs.Conditions.{conditions}
use Rattle.phase_model.specs.Replies.{Reply, refused, reply, after, decided, event_for, must_wait}
use Rattle.phase_model.specs.Rules.{Story, has_room}
use Rattle.phase_model.specs.Tasks.{is_live, live_tasks, live_count}
use Rattle.phase_model.proofs.LiveTasks.{has, has-live_tasks}
use Rattle.told_history.specs.Stories.{GoesOn, IsAnswered}
use Rattle.told_history.proofs.Goes.{goes_far}

none_in : (ts : List ℕ) → length ts ≡ 0 → ts ≡ []
none_in [] none = refl
none_in (t ∷ ts) none = absurd (cc none)

pub not_live : (t : ℕ) (h : List Event) → live_count h ≡ 0 → is_live t h ≡ false
not_live t h none = sym (has-live_tasks t h) ∙ ap (λ (ts : List ℕ). has t ts) (none_in (live_tasks h) none)

-- the call asks first whether the task is registered
pub is_refused : (s : Story) (c : Call) (t : ℕ) (rest : List (Refusal × Bool))
    → conditions s.limits s.terms s.past c ≡ (NotRegistered, is_live t s.past) ∷ rest → live_count s.past ≡ 0 → reply s c ≡ refused NotRegistered
is_refused s c t rest asks none =
    let e = event_for s.limits s.terms s.past c in
    let rep : Option Refusal → Reply = λ o. decided o (must_wait s.limits s.terms s.past c) (has_room s.limits (e ∷ s.past)) e in
    ap (λ (cs : List (Refusal × Bool)). rep (first_refusal cs)) asks
    ∙ ap (λ (b : Bool). rep (if b then first_refusal rest else Some NotRegistered)) (not_live t s.past none)

pub answered_gone : (Is : List Event → Reply → Type 0) (c : Call) (t : ℕ) (seen now : Story) (rest : List (Refusal × Bool))
    → GoesOn seen now → live_count now.past ≡ 0 → conditions now.limits now.terms now.past c ≡ (NotRegistered, is_live t now.past) ∷ rest
    → Is now.past (refused NotRegistered) → IsAnswered Is c seen now
answered_gone Is c t seen now rest goes none asks holds =
    let is = is_refused now c t rest asks none in
    (now, goes, subst (λ (r : Reply). Is now.past r) (sym is) holds, sym (ap (λ (r : Reply). after now r) is))

-- what was answered at a place that comes later
pub answered_later : (Is : List Event → Reply → Type 0) (c : Call) (seen further now : Story) → GoesOn seen further → IsAnswered Is c further now → IsAnswered Is c seen now
answered_later Is c seen further now goes told = (told.0, goes_far seen further told.0 goes told.1, told.2, told.3)
