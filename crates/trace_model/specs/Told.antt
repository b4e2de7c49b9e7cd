-- What the history of a phaser and that of a finish tell a trace, each event with its ticket.
use Rattle.std.specs.Prelude.{ℕ, List, map, reverse}
use Rattle.std.specs.List.{zip}
use Rattle.phase_model.specs.declared.terms.Terms.{Terms}
use Rattle.phase_model.specs.declared.history.Event.{Event}
use Rattle.phase_model.specs.declared.history.Event.TheVariants as plain
use Rattle.phase_model.specs.Rules.{Story}
use Rattle.finish_core.specs.declared.event.FinishEvent.{FinishEvent}
use Rattle.trace_model.specs.declared.event.TracedStep.{TracedStep}
use Rattle.trace_model.specs.declared.event.TracedStep.TheVariants.{Make, Reg, Sig, Claim, Did, Pass, Send, Look, Drop}
use Rattle.trace_model.specs.declared.event.TracedEvent.TheVariants.{Phaser, Finish}
use Rattle.trace_model.specs.Run.{Entry}

-- the step of a phaser's event: a making has the terms too
abbrev pub step_told : Terms → Event → TracedStep
step_told terms (plain.Make t m) = Make t m terms
step_told terms (plain.Reg q t m) = Reg q t m
step_told terms (plain.Sig t x) = Sig t x
step_told terms (plain.Claim t) = Claim t
step_told terms (plain.Did t) = Did t
step_told terms (plain.Pass t) = Pass t
step_told terms (plain.Send t a v) = Send t a v
step_told terms (plain.Look t a x) = Look t a x
step_told terms (plain.Drop t) = Drop t

-- the events of phaser n, the oldest first, with these tickets
abbrev pub phaser_told : ℕ → Story → List ℕ → List Entry
phaser_told n s tickets = zip tickets (map (λ e. Phaser n (step_told s.terms e)) (reverse s.past))

-- the events of finish f, the oldest first, with these tickets
abbrev pub finish_told : ℕ → List FinishEvent → List ℕ → List Entry
finish_told f h tickets = zip tickets (map (λ e. Finish f e) (reverse h))
