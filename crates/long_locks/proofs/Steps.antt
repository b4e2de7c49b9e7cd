-- One call of a task: where it leaves the story as it was, where its task has to wait, and what it keeps.
use Rattle.std.proofs.Common.{◌≡◌, ℕ, suc, ◌+◌, ◌≤◌, true, false, not, List, [], ◌∷◌, ◌++◌, Result, Ok, Err, length, drop, refl, ap, sym, ◌∙◌, arith}
use Rattle.std.proofs.lemmas.Bool.{and_parts, not-true}
use Rattle.std.proofs.lemmas.List.{length_push, drop-append-le}
use Rattle.phase_modes.specs.declared.refusal.Refusal.{Refusal}
use Rattle.phase_modes.specs.Limits.{is_between}
use Rattle.phase_model.specs.Rules.{Story, is_legal}
use Rattle.phase_model.specs.declared.call.Call.TheVariants.{Signal as signal, Pass as pass}
use Rattle.phase_model.specs.declared.call.Call.{Call}
use Rattle.phase_model.specs.Replies.{Reply, refused, not_yet, done, reply, after}
use Rattle.phase_model.proofs.Replied.{legal_after}
use Rattle.phase_model.specs.declared.answer.Signalling.{Signalling}
use Rattle.phase_model.specs.declared.answer.Signalling.TheVariants.{Signalled as Sent, NotYet as Held}
use Rattle.phase_model.specs.declared.answer.Passing.{Passing}
use Rattle.phase_model.specs.declared.answer.Passing.TheVariants.{Passed as Past, Claimed as Run, NotYet}
use Rattle.phaser_core.specs.declared.parked.Parked.{Parked}
use Rattle.phaser_core.specs.declared.parked.ParkedCall.{ParkedCall}
use Rattle.phaser_core.specs.declared.parked.ParkedCall.TheVariants.{Pass as ToPass, Signal as ToSignal}
use Rattle.phaser_core.specs.Firsts.{has_gone_on, is_made}
use Rattle.phaser_core.specs.Parking.{answered, answered_is, signal_answered, signal_answered_is, is_parked, are_parked_once, would_park, all_wait, has_to_wait, is_held}
use Rattle.phaser_core.proofs.Parks.{once_push, all_push}
use Rattle.phaser_core.proofs.PassParks.{pass_waits, signal_waits}
use Rattle.phaser_core.proofs.Steps.{pass_leaves, signal_leaves}
use Rattle.long_locks.specs.declared.answer.Freed.{Freed}
use Rattle.long_locks.specs.declared.course.Then.{Then}
use Rattle.long_locks.specs.declared.course.Then.TheVariants.{Return, Pass as ThenPass}
use Rattle.long_locks.specs.declared.course.Course.{Course}
use Rattle.long_locks.specs.declared.course.Course.TheVariants.{Over, HasSignalled, Waits}
use Rattle.long_locks.specs.Courses.{call_for, story_after, pass_course, signal_course, course, has_moved}
use Rattle.long_locks.specs.Turns.{to_pass, queue_after, gone_after, IsSound}

-- a pass adds an event where it has gone on
pub moves_pass : (r : Result (Passing ℕ) Refusal) → has_moved (pass_course r) ≡ has_gone_on r
moves_pass (Ok (Past p)) = refl
moves_pass (Ok (Run n)) = refl
moves_pass (Ok NotYet) = refl
moves_pass (Err r) = refl

-- and a signal where it is made
pub moves_signal : (a : Then) (r : Result Signalling Refusal) → has_moved (signal_course a r) ≡ is_made r
moves_signal Return (Ok Sent) = refl
moves_signal ThenPass (Ok Sent) = refl
moves_signal a (Ok Held) = refl
moves_signal a (Err r) = refl

-- a call that adds no event leaves the story as it was
pub still_story : (s : Story) (t : ℕ) (c : ParkedCall) (a : Then) → has_moved (course s t c a) ≡ false
    → story_after s t c ≡ s
unfolding story_after
still_story s t ToPass a k =
    pass_leaves s t
    (ap (λ (r : Result (Passing ℕ) Refusal). has_gone_on r) (answered_is s t)
    ∙ (sym (moves_pass (answered s t)) ∙ k))
still_story s t (ToSignal x) a k =
    signal_leaves s (reply s (signal t x))
    (ap (λ (r : Result Signalling Refusal). is_made r) (signal_answered_is s t x)
    ∙ (sym (moves_signal a (signal_answered s t x)) ∙ k))

waits_to_pass : (r : Result (Passing ℕ) Refusal) → pass_course r ≡ Waits → has_to_wait r ≡ true
waits_to_pass (Ok (Past p)) k = absurd cc
waits_to_pass (Ok (Run n)) k = absurd cc
waits_to_pass (Ok NotYet) k = refl
waits_to_pass (Err r) k = absurd cc

waits_to_signal : (a : Then) (r : Result Signalling Refusal) → signal_course a r ≡ Waits → is_held r ≡ true
waits_to_signal Return (Ok Sent) k = absurd cc
waits_to_signal ThenPass (Ok Sent) k = absurd cc
waits_to_signal a (Ok Held) k = refl
waits_to_signal a (Err r) k = absurd cc

-- a task that has to wait would be answered so again
pub parks_where : (s : Story) (t : ℕ) (c : ParkedCall) (a : Then) → course s t c a ≡ Waits
    → would_park s t c ≡ true
parks_where s t ToPass a k =
    let w =
    pass_waits s (after s (reply s (pass t))) t refl
    (ap (λ (r : Result (Passing ℕ) Refusal). has_to_wait r) (answered_is s t)
    ∙ waits_to_pass (answered s t) k) in
    ap (λ (v : Story). would_park v t ToPass) (sym w.0) ∙ w.1
parks_where s t (ToSignal x) a k =
    let w =
    signal_waits s (after s (reply s (signal t x))) t x refl
    (ap (λ (r : Result Signalling Refusal). is_held r) (signal_answered_is s t x)
    ∙ waits_to_signal a (signal_answered s t x) k) in
    ap (λ (v : Story). would_park v t (ToSignal x)) (sym w.0) ∙ w.1

limits_stay : (s : Story) (r : Reply) → (after s r).limits ≡ s.limits
limits_stay s (refused x) = refl
limits_stay s not_yet = refl
limits_stay s (done e) = refl

-- each call leaves the limits
pub regs_by : (s : Story) (c : Call) → is_between 1 s.limits.regs 256 ≡ true
    → is_between 1 (after s (reply s c)).limits.regs 256 ≡ true
regs_by s c k = ap (λ l. is_between 1 l.regs 256) (limits_stay s (reply s c)) ∙ k

-- and so do those for which a task is parked; they leave a legal history legal
pub regs_after : (s : Story) (t : ℕ) (c : ParkedCall) → is_between 1 s.limits.regs 256 ≡ true
    → is_between 1 (story_after s t c).limits.regs 256 ≡ true
unfolding story_after
regs_after s t c k = regs_by s (call_for t c) k

pub legal_by : (s : Story) (t : ℕ) (c : ParkedCall) → is_legal s.limits s.terms s.past ≡ true
    → is_legal (story_after s t c).limits (story_after s t c).terms (story_after s t c).past ≡ true
unfolding story_after
legal_by s t c k = legal_after s (call_for t c) k

-- who is parked once more wasn't before
pub once_by : (c : Course) (p : Parked Then) (ps : List (Parked Then)) → are_parked_once ps ≡ true
    → is_parked p.task ps ≡ false → are_parked_once (queue_after c p ps) ≡ true
once_by (Over e) p ps once out = once
once_by HasSignalled p ps once out = once_push ps (to_pass p.task) once out
once_by Waits p ps once out = once_push ps p once out

-- the call of a task that isn't parked keeps what is sound
pub sound_by : (s : Story) (c : Course) (p : Parked Then) (ps : List (Parked Then)) → IsSound s ps
    → is_parked p.task ps ≡ false → IsSound (story_after s p.task p.call) (queue_after c p ps)
sound_by s c p ps k out = record {
  regs = regs_after s p.task p.call k.regs;
  legal = legal_by s p.task p.call k.legal;
  once = once_by c p ps k.once out;
}

-- so does that of the first who is parked
pub sound_turn : (s : Story) (c : Course) (p : Parked Then) (ps : List (Parked Then)) → IsSound s (p ∷ ps)
    → IsSound (story_after s p.task p.call) (queue_after c p ps)
sound_turn s c p ps k =
    let parts = and_parts (not (is_parked p.task ps)) (are_parked_once ps) k.once in
    sound_by s c p ps (record { regs = k.regs; legal = k.legal; once = parts.1 })
    (not-true (is_parked p.task ps) parts.0)

-- nobody is lost: who was parked is parked or freed
pub same_count : (c : Course) (p : Parked Then) (ps : List (Parked Then)) (fs : List Freed)
    → length (queue_after c p ps) + length (gone_after c p.task fs) ≡ suc (length ps) + length fs
same_count (Over e) p ps fs =
    let f : Freed = record { task = p.task; ended = e } in
    let more = length_push fs f in
    omega (arith, more)
same_count HasSignalled p ps fs = let more = length_push ps (to_pass p.task) in omega (arith, more)
same_count Waits p ps fs = let more = length_push ps p in omega (arith, more)

wait_on : (s : Story) (c : Course) (p : Parked Then) (ps : List (Parked Then)) (n : ℕ) → n ≤ length ps
    → has_moved c ≡ false → (c ≡ Waits → would_park s p.task p.call ≡ true) → all_wait s (drop n ps) ≡ true
    → all_wait s (drop n (queue_after c p ps)) ≡ true
wait_on s (Over e) p ps n le still waits all = all
wait_on s HasSignalled p ps n le still waits all = absurd cc
wait_on s Waits p ps n le still waits all =
    ap (λ (l : List (Parked Then)). all_wait s l) (drop-append-le n ps (p ∷ []) le)
    ∙ all_push s (drop n ps) p all (waits refl)

-- after a call that adds no event those wait on who did, and its task with them where it is parked
pub waiting_by : (s : Story) (p : Parked Then) (ps : List (Parked Then)) (n : ℕ) → n ≤ length ps
    → has_moved (course s p.task p.call p.item) ≡ false → all_wait s (drop n ps) ≡ true
    → all_wait (story_after s p.task p.call) (drop n (queue_after (course s p.task p.call p.item) p ps)) ≡
    true
waiting_by s p ps n le still all =
    let c = course s p.task p.call p.item in
    ap (λ (v : Story). all_wait v (drop n (queue_after c p ps))) (still_story s p.task p.call p.item still)
    ∙ wait_on s c p ps n le still (parks_where s p.task p.call p.item) all

-- how many events the call of a parked task may still add
abbrev pub cost : ParkedCall → ℕ
cost ToPass = 1
cost (ToSignal x) = 2

-- and those of all of them
abbrev pub weight : List (Parked Then) → ℕ
weight [] = 0
weight (p ∷ ps) = cost p.call + weight ps

weight-push : (ps : List (Parked Then)) (p : Parked Then) → weight (ps ++ p ∷ []) ≡ weight ps + cost p.call
weight-push [] p = omega arith
weight-push (q ∷ qs) p = let rest = weight-push qs p in omega (arith, rest)

cost_some : (c : ParkedCall) → 1 ≤ cost c
cost_some ToPass = omega arith
cost_some (ToSignal x) = omega arith

pub pass_never_signals : (r : Result (Passing ℕ) Refusal) → pass_course r ≡ HasSignalled → ⊥
pass_never_signals (Ok (Past p)) k = cc
pass_never_signals (Ok (Run n)) k = cc
pass_never_signals (Ok NotYet) k = cc
pass_never_signals (Err r) k = cc

-- only who was parked for its signal has signalled
signals_by : (s : Story) (t : ℕ) (c : ParkedCall) (a : Then) → course s t c a ≡ HasSignalled → cost c ≡ 2
signals_by s t ToPass a k = absurd (pass_never_signals (answered s t) k)
signals_by s t (ToSignal x) a k = refl

lighter_by : (c : Course) (p : Parked Then) (ps : List (Parked Then)) → (c ≡ HasSignalled → cost p.call ≡ 2)
    → has_moved c ≡ true → weight (queue_after c p ps) + 1 ≤ cost p.call + weight ps
lighter_by (Over e) p ps two k = let some = cost_some p.call in omega (arith, some)
lighter_by HasSignalled p ps two k =
    let is = two refl in
    let more = weight-push ps (to_pass p.task) in
    omega (arith, is, more)
lighter_by Waits p ps two k = absurd cc

no_heavier_by : (c : Course) (p : Parked Then) (ps : List (Parked Then))
    → (c ≡ HasSignalled → cost p.call ≡ 2)
    → weight (queue_after c p ps) ≤ cost p.call + weight ps
no_heavier_by (Over e) p ps two = omega arith
no_heavier_by HasSignalled p ps two =
    let is = two refl in
    let more = weight-push ps (to_pass p.task) in
    omega (arith, is, more)
no_heavier_by Waits p ps two = let more = weight-push ps p in omega (arith, more)

-- a call that adds an event leaves fewer to come
pub lighter : (s : Story) (p : Parked Then) (ps : List (Parked Then))
    → has_moved (course s p.task p.call p.item) ≡ true
    → weight (queue_after (course s p.task p.call p.item) p ps) + 1 ≤ cost p.call + weight ps
lighter s p ps k =
    lighter_by (course s p.task p.call p.item) p ps (signals_by s p.task p.call p.item) k

-- and no call leaves more
pub no_heavier : (s : Story) (p : Parked Then) (ps : List (Parked Then))
    → weight (queue_after (course s p.task p.call p.item) p ps) ≤ cost p.call + weight ps
no_heavier s p ps = no_heavier_by (course s p.task p.call p.item) p ps (signals_by s p.task p.call p.item)
