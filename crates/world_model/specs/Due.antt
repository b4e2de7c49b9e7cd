-- The events that a task still has to make: what its last entry fixed, less what it made since.
use Rattle.std.specs.Prelude.{ℕ, Bool, true, false, ◌&&◌, ◌==◌, not, if◌then◌else◌, List, [], ◌∷◌, ◌++◌, map, drop, filter, filter_map, flat_map, slice_get, Option, Some, None, option_map}
use Rattle.phase_modes.specs.declared.limits.Limits.{Limits}
use Rattle.phase_modes.specs.Mode.{can_signal}
use Rattle.phase_modes.specs.Lists.{is_empty}
use Rattle.phase_model.specs.declared.history.Event.{Event}
use Rattle.phase_model.specs.Tasks.{has_mode}
use Rattle.phase_model.specs.Rules.{is_permitted}
use Rattle.phase_model.specs.Phases.{waits, signals}
use Rattle.phase_model.specs.declared.history.Event.TheVariants.{Claim as Claimed, Did as Done}
use Rattle.finish_core.specs.declared.event.FinishEvent.TheVariants.{Spawned, Ended, Shut as Shutting}
use Rattle.world_model.specs.declared.event.Begun.{Begun}
use Rattle.world_model.specs.declared.event.WorldEvent.{WorldEvent}
use Rattle.world_model.specs.declared.event.Step.TheVariants.{Reg, Sig, Claim, Did, Pass, Drop}
use Rattle.world_model.specs.declared.event.Begun.TheVariants.{Async, Signal, Wait, Next, NextSingle, Shut, End}
use Rattle.world_model.specs.declared.event.WorldEvent.TheVariants.{Phaser, Finish, Begin, Refuse, Fail}
use Rattle.world_model.specs.Actors.{actor}
use Rattle.world_model.specs.Scopes.{inner, enclosing, open_finishes}
use Rattle.world_model.specs.Tasks.{phasers_of, is_born, is_ended, home}
use Rattle.world_model.specs.Parts.{phaser_past, terms_of}

-- t can signal on the phaser of this history, and has signalled since its last turn
abbrev pub is_ahead : ℕ → List Event → Bool
is_ahead t h = has_mode can_signal t h && not (signals t h == waits t h)

-- t can signal on it, and hasn't
abbrev pub is_behind : ℕ → List Event → Bool
is_behind t h = has_mode can_signal t h && signals t h == waits t h

-- a signal wherever t can signal and hasn't,
-- a pass and a drop on each phaser of t, in the order of its registrations
abbrev pub signals_due : ℕ → Option ℕ → List WorldEvent → List WorldEvent
signals_due t x w =
    map (λ n. Phaser n (Sig t x)) (filter (λ n. is_behind t (phaser_past n w)) (phasers_of t w))

abbrev pub passes_due : ℕ → List WorldEvent → List WorldEvent
passes_due t w = map (λ n. Phaser n (Pass t)) (phasers_of t w)

abbrev pub drops_due : ℕ → List WorldEvent → List WorldEvent
drops_due t w = map (λ n. Phaser n (Drop t)) (phasers_of t w)

-- what leads to t's end: it leaves its phasers, shuts its open finishes, the innermost first, and ends; the
-- shut of finish 0 is the root's end
abbrev pub ending : ℕ → List WorldEvent → List WorldEvent
ending t w =
    drops_due t w
    ++ map (λ f. Finish f Shutting) (open_finishes t w)
    ++ (if t == 0 then Finish 0 Shutting else Finish (home t w) (Ended t)) ∷ []

-- the child that the event names for t
abbrev pub named_by : ℕ → WorldEvent → Option ℕ
named_by t (Begin u (Async c pairs)) = if u == t then Some c else None
named_by t _ = None

-- the children that t named and that were never spawned
abbrev pub unborn : ℕ → List WorldEvent → List ℕ
unborn t w = filter (λ c. not (is_born c w)) (filter_map (named_by t) w)

-- what an act fixes that t begins
abbrev pub fixed_by : ℕ → Begun → List WorldEvent → List WorldEvent
fixed_by t (Async c pairs) w =
    map (λ p. Phaser p.phaser (Reg t c p.mode)) pairs ++ Finish (inner t w) (Spawned c) ∷ []
fixed_by t Signal w = signals_due t None w
fixed_by t Wait w = passes_due t w
fixed_by t Next w = signals_due t None w ++ passes_due t w
fixed_by t (NextSingle n) w = signals_due t (Some n) w ++ passes_due t w
fixed_by t Shut w =
    map (λ n. Phaser n (Drop t)) (filter (λ n. enclosing n w == inner t w) (phasers_of t w))
    ++ Finish (inner t w) Shutting ∷ []
fixed_by t End w = ending t w

-- what an entry of a task's log fixes: a refusal and a failure lead to the task's end, and a child that is
-- half spawned leaves its phasers first
abbrev pub fixed : WorldEvent → List WorldEvent → List WorldEvent
fixed (Begin t b) w = fixed_by t b w
fixed (Refuse t a n) w = ending t w
fixed (Fail t n) w = flat_map (λ c. drops_due c w) (unborn t w) ++ ending t w
fixed _ w = []

-- the event is an entry of t's log
abbrev pub is_entry : ℕ → WorldEvent → Bool
is_entry t (Begin u b) = u == t
is_entry t (Refuse u a n) = u == t
is_entry t (Fail u n) = u == t
is_entry t _ = false

-- a claim and its report: they come before the pass that is due, and stand for none
abbrev pub is_of_single : WorldEvent → Bool
is_of_single (Phaser n (Claim t)) = true
is_of_single (Phaser n (Did t)) = true
is_of_single _ = false

-- what t's last entry fixed, less what t made since
abbrev pub due : ℕ → List WorldEvent → List WorldEvent
due t [] = []
due t (e ∷ w) =
    if is_entry t e then fixed e w
    else (if actor w e == t && not (is_of_single e) then drop 1 (due t w)
    else due t w)

-- if a pass is due: the claim if t may claim, the report if t claimed, else the pass
abbrev pub before_pass : Limits → ℕ → ℕ → List WorldEvent → WorldEvent
before_pass l n t w =
    if is_permitted l (terms_of n w) (phaser_past n w) (Claimed t) then Phaser n (Claim t)
    else (if is_permitted l (terms_of n w) (phaser_past n w) (Done t) then Phaser n (Did t)
    else Phaser n (Pass t))

abbrev pub or_single : Limits → List WorldEvent → WorldEvent → WorldEvent
or_single l w (Phaser n (Pass t)) = before_pass l n t w
or_single l w e = e

-- the event that continues t's act
abbrev pub next_event : Limits → ℕ → List WorldEvent → Option WorldEvent
next_event l t w = option_map (or_single l w) (slice_get (due t w) 0)

-- t may begin an act
abbrev pub is_idle : ℕ → List WorldEvent → Bool
is_idle t w = is_born t w && not (is_ended t w) && is_empty (due t w)
