-- The event that is noted by the answer is the one that the reply adds.
use Rattle.std.proofs.Common.{if◌then◌else◌, ◌≡◌, ℕ, ℤ, Bool, true, false, ◌∷◌, Option, Some, None, Result, refl, ap, ◌∙◌, sym}
use Rattle.phase_modes.specs.declared.refusal.Refusal.{Refusal}
use Rattle.phase_modes.specs.declared.reg.Mode.{Mode}
use Rattle.phase_modes.specs.Refusal.{first_refusal}
use Rattle.phase_model.specs.declared.call.Call.{Call}
use Rattle.phase_model.specs.declared.call.Call.TheVariants.{Make as make, Register as register, Signal as signal, Pass as pass, SingleDone as single_done, Send as send, Look as look, Drop as drop_task}
use Rattle.phase_model.specs.declared.history.Event.TheVariants.{Make, Reg, Sig, Claim, Did, Pass, Send, Look as Looked, Drop}
use Rattle.phase_model.specs.declared.op.Look.{Look}
use Rattle.phase_model.specs.Conditions.{conditions}
use Rattle.phase_model.specs.Phases.{waits}
use Rattle.phase_model.specs.Replies.{reply, after, decided, done_result, event_for, must_wait}
use Rattle.phase_model.specs.Rules.{Story, has_room, is_permitted, look_of}
use Rattle.phase_model.specs.Answers.{signal_result, pass_result, look_result}
use Rattle.phaser_core.specs.declared.answer.SignalAnswer.{SignalAnswer}
use Rattle.phaser_core.specs.declared.answer.PassAnswer.{PassAnswer}
use Rattle.phaser_core.specs.Parking.{locked_pass, locked_signal}
use Rattle.told_history.specs.declared.wide.LongEvent.{LongEvent}
use Rattle.told_history.specs.declared.wide.LongEvent.TheVariants as long
use Rattle.told_history.specs.Wide.{event_of}
use Rattle.long_locks.specs.Events.{with_one, make_event, register_event, signal_event, pass_event, look_event, done_event}
use Rattle.long_locks.specs.Told.{numbered, IsSignalAnswer, IsPassAnswer}

-- the event adds to the story what the reply adds
abbrev pub Adds : Story → Call → Option LongEvent → Type 0
Adds s c o = (after s (reply s c)).past ≡ with_one o s.past

signalled : {T : Type 0} (s : Story) (t : ℕ) (x : Option ℕ) (y : T) (o : Option Refusal) (w r again : Bool)
    → (after s (decided o w r (Sig t x))).past ≡ with_one (signal_event t x (locked_signal (signal_result (decided o w r (Sig t x))) again y)) s.past
signalled s t x y (Some e) w r again = refl
signalled s t x y None true r true = refl
signalled s t x y None true r false = refl
signalled s t x y None false true again = refl
signalled s t x y None false false again = refl

passed : {T : Type 0} (s : Story) (t : ℕ) (y : T) (o : Option Refusal) (w r b again : Bool)
    → let e = if b then Claim t else Pass t in
    (after s (decided o w r e)).past ≡ with_one (pass_event t (locked_pass (pass_result s.past (decided o w r e)) again y)) s.past
passed s t y (Some e) w r b again = refl
passed s t y None true r b true = refl
passed s t y None true r b false = refl
passed s t y None false true true again = refl
passed s t y None false true false again = refl
passed s t y None false false b again = refl

looked : (s : Story) (t a : ℕ) (x : Look ℤ) (o : Option Refusal) (r : Bool)
    → (after s (decided o false r (Looked t a x))).past ≡ with_one (look_event t a (look_result (decided o false r (Looked t a x)))) s.past
looked s t a x (Some e) r = refl
looked s t a x None true = refl
looked s t a x None false = refl

just_done : (s : Story) (e : LongEvent) (o : Option Refusal) (r : Bool)
    → (after s (decided o false r (event_of e))).past ≡ with_one (done_event e (done_result (decided o false r (event_of e)))) s.past
just_done s e (Some q) r = refl
just_done s e None true = refl
just_done s e None false = refl

made : (s : Story) (t : ℕ) (m : Mode) (o : Option Refusal) (r : Bool)
    → (after s (decided o false r (Make t m))).past ≡ with_one (make_event m (numbered t (done_result (decided o false r (Make t m))))) s.past
made s t m (Some q) r = refl
made s t m None true = refl
made s t m None false = refl

registered : (s : Story) (q t : ℕ) (m : Mode) (o : Option Refusal) (r : Bool)
    → (after s (decided o false r (Reg q t m))).past ≡ with_one (register_event q m (numbered t (done_result (decided o false r (Reg q t m))))) s.past
registered s q t m (Some k) r = refl
registered s q t m None true = refl
registered s q t m None false = refl

-- of an answer and of the event that is noted by it
by_answer : {A : Type 0} (event_by : A → Option LongEvent) (s : Story) (c : Call) (a b : A) (o : Option LongEvent)
    → Adds s c (event_by b) → a ≡ b → o ≡ event_by a → Adds s c o
by_answer event_by s c a b o adds is noted = adds ∙ ap (λ (q : Option LongEvent). with_one q s.past) (ap event_by (sym is) ∙ sym noted)

pub signal_adds : {T : Type 0} (s : Story) (t : ℕ) (x : Option ℕ) (y : T) (a : SignalAnswer T) (o : Option LongEvent)
    → IsSignalAnswer y (signal_result (reply s (signal t x))) a → o ≡ signal_event t x a → Adds s (signal t x) o
signal_adds s t x y a o is noted =
    by_answer (signal_event t x) s (signal t x) a _ o
    (signalled s t x y
    (first_refusal (conditions s.limits s.terms s.past (signal t x)))
    (must_wait s.limits s.terms s.past (signal t x))
    (has_room s.limits (Sig t x ∷ s.past)) is.0)
    is.1 noted

pub pass_adds : {T : Type 0} (s : Story) (t : ℕ) (y : T) (a : PassAnswer T ℕ) (o : Option LongEvent)
    → IsPassAnswer y (pass_result s.past (reply s (pass t))) a → o ≡ pass_event t a → Adds s (pass t) o
pass_adds s t y a o is noted =
    by_answer (pass_event t) s (pass t) a _ o
    (passed s t y
    (first_refusal (conditions s.limits s.terms s.past (pass t)))
    (must_wait s.limits s.terms s.past (pass t))
    (has_room s.limits (event_for s.limits s.terms s.past (pass t) ∷ s.past))
    (is_permitted s.limits s.terms s.past (Claim t)) is.0)
    is.1 noted

pub look_adds : (s : Story) (t a : ℕ) (answer : Result (Look ℤ) Refusal) (o : Option LongEvent)
    → answer ≡ look_result (reply s (look t a)) → o ≡ look_event t a answer → Adds s (look t a) o
look_adds s t a answer o is noted =
    by_answer (look_event t a) s (look t a) answer _ o
    (looked s t a (look_of s.terms.ops a (waits t s.past) s.past)
    (first_refusal (conditions s.limits s.terms s.past (look t a)))
    (has_room s.limits (event_for s.limits s.terms s.past (look t a) ∷ s.past)))
    is noted

pub send_adds : (s : Story) (t a : ℕ) (v : ℤ) (answer : Result (Unit {0}) Refusal) (o : Option LongEvent)
    → answer ≡ done_result (reply s (send t a v)) → o ≡ done_event (long.Send t a v) answer → Adds s (send t a v) o
send_adds s t a v answer o is noted =
    by_answer (done_event (long.Send t a v)) s (send t a v) answer _ o
    (just_done s (long.Send t a v)
    (first_refusal (conditions s.limits s.terms s.past (send t a v)))
    (has_room s.limits (Send t a v ∷ s.past)))
    is noted

pub single_done_adds : (s : Story) (t : ℕ) (answer : Result (Unit {0}) Refusal) (o : Option LongEvent)
    → answer ≡ done_result (reply s (single_done t)) → o ≡ done_event (long.Did t) answer → Adds s (single_done t) o
single_done_adds s t answer o is noted =
    by_answer (done_event (long.Did t)) s (single_done t) answer _ o
    (just_done s (long.Did t)
    (first_refusal (conditions s.limits s.terms s.past (single_done t)))
    (has_room s.limits (Did t ∷ s.past)))
    is noted

pub leave_adds : (s : Story) (t : ℕ) (answer : Result (Unit {0}) Refusal) (o : Option LongEvent)
    → answer ≡ done_result (reply s (drop_task t)) → o ≡ done_event (long.Drop t) answer → Adds s (drop_task t) o
leave_adds s t answer o is noted =
    by_answer (done_event (long.Drop t)) s (drop_task t) answer _ o
    (just_done s (long.Drop t)
    (first_refusal (conditions s.limits s.terms s.past (drop_task t)))
    (has_room s.limits (Drop t ∷ s.past)))
    is noted

pub make_adds : (s : Story) (t : ℕ) (m : Mode) (answer : Result ℕ Refusal) (o : Option LongEvent)
    → answer ≡ numbered t (done_result (reply s (make t m))) → o ≡ make_event m answer → Adds s (make t m) o
make_adds s t m answer o is noted =
    by_answer (make_event m) s (make t m) answer _ o
    (made s t m
    (first_refusal (conditions s.limits s.terms s.past (make t m)))
    (has_room s.limits (Make t m ∷ s.past)))
    is noted

pub register_adds : (s : Story) (q t : ℕ) (m : Mode) (answer : Result ℕ Refusal) (o : Option LongEvent)
    → answer ≡ numbered t (done_result (reply s (register q t m))) → o ≡ register_event q m answer → Adds s (register q t m) o
register_adds s q t m answer o is noted =
    by_answer (register_event q m) s (register q t m) answer _ o
    (registered s q t m
    (first_refusal (conditions s.limits s.terms s.past (register q t m)))
    (has_room s.limits (Reg q t m ∷ s.past)))
    is noted
