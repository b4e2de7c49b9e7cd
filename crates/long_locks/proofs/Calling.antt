-- A task's own call, and what it leaves for those who are parked.
use Rattle.std.proofs.Common.{◌≡◌, ℕ, ◌<◌, Bool, true, false, ◌&&◌, List, [], ◌∷◌, Option, Result, Ok, Err, length, refl, ap, sym, ◌∙◌, subst}
use Rattle.std.specs.Prelude.{OnErr}
use Rattle.std.specs.Result.{is_ok}
use Rattle.std.proofs.lemmas.Bool.{and_left}
use Rattle.phase_modes.specs.declared.refusal.Refusal.{Refusal}
use Rattle.phase_model.specs.Rules.{Story}
use Rattle.phase_model.specs.Tasks.{is_live}
use Rattle.phase_model.specs.declared.history.Event.{Event}
use Rattle.phase_model.specs.declared.history.Event.TheVariants.{Sig}
use Rattle.phase_model.specs.declared.call.Call.{Call}
use Rattle.phase_model.specs.declared.call.Call.TheVariants.{Signal as signal}
use Rattle.phase_model.specs.Replies.{Reply, refused, not_yet, done, reply, after, done_result}
use Rattle.phase_model.proofs.Replied.{legal_after}
use Rattle.phase_model.specs.declared.answer.Passing.{Passing}
use Rattle.phase_model.specs.declared.answer.Passing.TheVariants.{Passed as Past, Claimed as Run, NotYet}
use Rattle.phaser_core.specs.declared.parked.Parked.{Parked}
use Rattle.phaser_core.specs.declared.parked.ParkedCall.{ParkedCall}
use Rattle.phaser_core.specs.declared.parked.ParkedCall.TheVariants.{Pass as ToPass, Signal as ToSignal}
use Rattle.phaser_core.specs.Parking.{is_parked, all_wait, would_park, answered}
use Rattle.phaser_core.specs.Settled.{IsSettled}
use Rattle.phaser_core.proofs.Parks.{all_push, one_place_more, parked_live, place_for_live}
use Rattle.phaser_core.proofs.Steps.{event_is, leaves, settled}
use Rattle.long_locks.specs.declared.answer.Ended.TheVariants.{Signalled, Passed, Claimed, Refused}
use Rattle.long_locks.specs.declared.course.Then.{Then}
use Rattle.long_locks.specs.declared.course.Then.TheVariants.{Return}
use Rattle.long_locks.specs.declared.course.Course.{Course}
use Rattle.long_locks.specs.declared.course.Course.TheVariants.{Over, HasSignalled, Waits}
use Rattle.long_locks.specs.Courses.{call_for, story_after, pass_course, course, has_moved, is_over, is_refused}
use Rattle.long_locks.specs.Turns.{standing, to_pass, queue_after, IsSound}
use Rattle.long_locks.specs.Calls.{Called, called_once, called_on, called, standing_after, is_turned_away}
use Rattle.long_locks.proofs.Steps.{still_story, parks_where, regs_by, regs_after, legal_by, sound_by, pass_never_signals}

pub sound_of : (s : Story) (ps : List (Parked Then)) → IsSettled s ps → IsSound s ps
sound_of s ps k = record { regs = k.regs; legal = k.legal; once = k.once }

-- any call on the phaser leaves those who are parked as they are
pub sound_after : (s s' : Story) (c : Call) (ps : List (Parked Then)) → IsSettled s ps
    → s' ≡ after s (reply s c)
    → IsSound s' ps
sound_after s s' c ps k is =
    subst (λ (v : Story). IsSound v ps) (sym is)
    (record { regs = regs_by s c k.regs; legal = legal_after s c k.legal; once = k.once })

-- and changes nothing where it is refused
pub same_after : (s s' : Story) (c : Call) → s' ≡ after s (reply s c)
    → is_ok (done_result (reply s c)) ≡ false → s' ≡ s
same_after s s' c is failed = is ∙ leaves s (reply s c) failed

story_sound : (s : Story) (t : ℕ) (c : ParkedCall) (ps : List (Parked Then)) → IsSound s ps
    → IsSound (story_after s t c) ps
story_sound s t c ps k =
    record { regs = regs_after s t c k.regs; legal = legal_by s t c k.legal; once = k.once }

sound_on : (s : Story) (c : Course) (p : Parked Then) (ps : List (Parked Then)) → IsSound s ps
    → is_parked p.task ps ≡ false
    → let k = called_on c (story_after s p.task p.call) p in IsSound k.story
    (queue_after k.course k.waiter ps)
sound_on s (Over e) p ps k out = sound_by s (Over e) p ps k out
sound_on s HasSignalled p ps k out =
    let s' = story_after s p.task p.call in
    sound_by s' (course s' p.task ToPass Return) (to_pass p.task) ps (story_sound s p.task p.call ps k) out
sound_on s Waits p ps k out = sound_by s Waits p ps k out

-- after the own call of a task that wasn't parked
pub called_sound : (s : Story) (p : Parked Then) (ps : List (Parked Then)) → IsSettled s ps
    → is_parked p.task ps ≡ false
    → IsSound (called s p).story (queue_after (called s p).course (called s p).waiter ps)
called_sound s p ps k out = sound_on s (course s p.task p.call p.item) p ps (sound_of s ps k) out

once_where : (c : Course) (s : Story) (p : Parked Then) → has_moved c ≡ false
    → called_on c s p ≡ record { course = c; story = s; waiter = p }
once_where (Over e) s p still = refl
once_where HasSignalled s p still = absurd cc
once_where Waits s p still = refl

-- where no event was added there was one call on the phaser
called_still : (s : Story) (p : Parked Then) → has_moved (course s p.task p.call p.item) ≡ false
    → called s p ≡ called_once s p
called_still s p still = once_where (course s p.task p.call p.item) (story_after s p.task p.call) p still

-- what holds where a call is refused
pub on_refusal : (a : Result (Unit {0}) Refusal) (P : Type 0) → (is_ok a ≡ false → P) → OnErr a P
on_refusal (Ok u) P k = tt
on_refusal (Err r) P k = k refl

-- nobody is near after a pass that hasn't gone on
pub none_near : (bounded gone far : Bool) → gone ≡ false → (bounded && gone && far) ≡ false
none_near true true far k = absurd cc
none_near true false far k = refl
none_near false gone far k = refl

-- all wait on after a call that isn't made, or frees nobody
pub waiting_either : (s s' : Story) (ps : List (Parked Then)) (made leaves : Bool) → IsSettled s ps
    → (made ≡ false → s' ≡ s) → (leaves ≡ false → all_wait s' ps ≡ true) → (made && leaves) ≡ false
    → all_wait s' ps ≡ true
waiting_either s s' ps true leaves k same quiet n = quiet n
waiting_either s s' ps false leaves k same quiet n = ap (λ (v : Story). all_wait v ps) (same refl) ∙ k.waiting

-- where all wait on after a call, what is kept is kept
pub settled_step : (s s' : Story) (t : ℕ) (c : ParkedCall) (ps : List (Parked Then)) → IsSettled s ps
    → s' ≡ story_after s t c → all_wait s' ps ≡ true → IsSettled s' ps
unfolding story_after
settled_step s s' t c ps k is waiting = settled s s' ps ps (call_for t c) k is waiting k.once

-- who has to wait would be answered so again after the call
parks_then : (s : Story) (t : ℕ) (c : ParkedCall) (a : Then) → course s t c a ≡ Waits
    → would_park (story_after s t c) t c ≡ true
parks_then s t c a waits =
    ap (λ (v : Story). would_park v t c) (still_story s t c a (ap (λ (k : Course). has_moved k) waits))
    ∙ parks_where s t c a waits

parks_on : (s : Story) (p : Parked Then) (c : Course) → course s p.task p.call p.item ≡ c
    → let k = called_on c (story_after s p.task p.call) p in
    k.course ≡ Waits → would_park k.story k.waiter.task k.waiter.call ≡ true
parks_on s p (Over e) is waits = absurd cc
parks_on s p HasSignalled is waits = parks_then (story_after s p.task p.call) p.task ToPass Return waits
parks_on s p Waits is waits = parks_then s p.task p.call p.item is

ends_on : (s : Story) (p : Parked Then) (c : Course) → (called_on c s p).course ≡ HasSignalled → ⊥
ends_on s p (Over e) k = cc
ends_on s p HasSignalled k = pass_never_signals (answered s p.task) k
ends_on s p Waits k = cc

queue_waits : (s : Story) (c : Course) (p : Parked Then) (ps : List (Parked Then)) → all_wait s ps ≡ true
    → (c ≡ Waits → would_park s p.task p.call ≡ true) → (c ≡ HasSignalled → ⊥)
    → all_wait s (queue_after c p ps) ≡ true
queue_waits s (Over e) p ps all waits never = all
queue_waits s HasSignalled p ps all waits never = absurd (never refl)
queue_waits s Waits p ps all waits never = all_push s ps p all (waits refl)

-- where all who were parked wait on after a task's own call, so does the task where it is parked
pub called_queue : (s : Story) (p : Parked Then) (ps : List (Parked Then))
    → all_wait (called s p).story ps ≡ true
    → all_wait (called s p).story (queue_after (called s p).course (called s p).waiter ps) ≡ true
called_queue s p ps all =
    queue_waits (called s p).story (called s p).course (called s p).waiter ps all
    (parks_on s p (course s p.task p.call p.item) refl)
    (ends_on (story_after s p.task p.call) p (course s p.task p.call p.item))

-- who is live after a signal was live before it
live_before : (s : Story) (t : ℕ) (x : Option ℕ) → is_live t (story_after s t (ToSignal x)).past ≡ true
    → is_live t s.past ≡ true
unfolding story_after
live_before s t x live = go (reply s (signal t x)) refl live
  where
    go : (r : Reply) → reply s (signal t x) ≡ r → is_live t (after s r).past ≡ true → is_live t s.past ≡ true
    go (refused y) e l = l
    go not_yet e l = l
    go (done f) e l =
        let same : Sig t x ≡ f = event_is s (signal t x) f e in
        ap (λ (g : Event). is_live t (g ∷ s.past)) same ∙ l

waits_by_pass : (r : Result (Passing ℕ) Refusal) → is_over (pass_course r) ≡ false → pass_course r ≡ Waits
waits_by_pass (Ok (Past p)) k = absurd cc
waits_by_pass (Ok (Run n)) k = absurd cc
waits_by_pass (Ok NotYet) k = refl
waits_by_pass (Err r) k = absurd cc

-- who has signalled and waits to pass is live
live_where : (s : Story) (t : ℕ) (c : ParkedCall) (a : Then) → course s t c a ≡ HasSignalled
    → is_over (course (story_after s t c) t ToPass Return) ≡ false → is_live t s.past ≡ true
live_where s t ToPass a has more = absurd (pass_never_signals (answered s t) has)
live_where s t (ToSignal x) a has more =
    let s' = story_after s t (ToSignal x) in
    live_before s t x
    (parked_live s' t ToPass (parks_where s' t ToPass Return (waits_by_pass (answered s' t) more)))

place_on : (s : Story) (p : Parked Then) (ps : List (Parked Then)) (c : Course) → IsSettled s ps
    → is_parked p.task ps ≡ false → course s p.task p.call p.item ≡ c
    → is_over (called_on c (story_after s p.task p.call) p).course ≡ false → length ps < 256
place_on s p ps (Over e) k out is more = absurd cc
place_on s p ps HasSignalled k out is more =
    place_for_live s ps p k.regs k.legal k.waiting k.once (live_where s p.task p.call p.item is more) out
place_on s p ps Waits k out is more =
    one_place_more s ps p k.regs k.legal k.waiting k.once (parks_where s p.task p.call p.item is) out

-- there is a place for the task where it has to wait
pub place_for_called : (s : Story) (p : Parked Then) (ps : List (Parked Then)) → IsSettled s ps
    → is_parked p.task ps ≡ false → is_over (called s p).course ≡ false → length ps < 256
place_for_called s p ps k out more = place_on s p ps (course s p.task p.call p.item) k out refl more

-- what the own call left is what the definitions say
pub start_is : (again : Bool) (k : Called) (s v : Story) (ps qs : List (Parked Then)) (c : Course)
    (p : Parked Then)
    → again ≡ false → c ≡ k.course → p ≡ k.waiter → v ≡ k.story → qs ≡ queue_after c p ps
    → standing v qs [] ≡ standing_after again k s ps
start_is again k s v ps qs c p other course waiter story queue =
    ap (λ (u : Story). standing u qs []) story
    ∙ (ap (λ (l : List (Parked Then)). standing k.story l []) queue
    ∙ (ap (λ (x : Course). standing k.story (queue_after x p ps) []) course
    ∙ (ap (λ (q : Parked Then). standing k.story (queue_after k.course q ps) []) waiter
    ∙ ap (λ b. standing_after b k s ps) (sym other))))

refused_still : (c : Course) → is_refused c ≡ true → has_moved c ≡ false
refused_still (Over Signalled) k = absurd cc
refused_still (Over (Passed p)) k = absurd cc
refused_still (Over (Claimed n)) k = absurd cc
refused_still (Over (Refused r)) k = refl
refused_still HasSignalled k = absurd cc
refused_still Waits k = absurd cc

refused_queue : (c : Course) (p : Parked Then) (ps : List (Parked Then)) → is_refused c ≡ true
    → queue_after c p ps ≡ ps
refused_queue (Over e) p ps k = refl
refused_queue HasSignalled p ps k = absurd cc
refused_queue Waits p ps k = absurd cc

away_by : (again : Bool) (c : Course) → again ≡ false → is_turned_away again c ≡ true → is_refused c ≡ true
away_by true c other k = absurd cc
away_by false c other k = k

-- a call that is refused adds no event
pub away_still : (again : Bool) (c : Course) → again ≡ false → is_turned_away again c ≡ true
    → has_moved c ≡ false
away_still again c other k = refused_still c (away_by again c other k)

-- and leaves all as it was
pub away_same : (again : Bool) (s : Story) (p : Parked Then) (ps : List (Parked Then)) → again ≡ false
    → is_turned_away again (course s p.task p.call p.item) ≡ true
    → standing_after again (called s p) s ps ≡ standing s ps []
away_same again s p ps other k =
    let c = course s p.task p.call p.item in
    let away = away_by again c other k in
    let still = refused_still c away in
    ap (λ b. standing_after b (called s p) s ps) other
    ∙ (ap (λ (v : Called). standing v.story (queue_after v.course v.waiter ps) []) (called_still s p still)
    ∙ (ap (λ (v : Story). standing v (queue_after c p ps) []) (still_story s p.task p.call p.item still)
    ∙ ap (λ (l : List (Parked Then)). standing s l []) (refused_queue c p ps away)))
