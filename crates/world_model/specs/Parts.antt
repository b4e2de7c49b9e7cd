-- A world's history, and what of it is one phaser's and one finish's.
--
-- The history is a list of events with the newest first: in `e ∷ w` the event e came after all of w, so w is
-- what was there when e was made.
use Rattle.std.specs.Prelude.{ℕ, ◌==◌, if◌then◌else◌, List, [], ◌∷◌, None}
use Rattle.phase_modes.specs.declared.limits.Limits.{Limits}
use Rattle.phase_model.specs.declared.history.Event.{Event}
use Rattle.phase_model.specs.declared.op.Op.{Op}
use Rattle.phase_model.specs.declared.terms.Terms.{Terms}
use Rattle.phase_model.specs.Rules.{Story, look_of}
use Rattle.phase_model.specs.Phases.{waits}
use Rattle.phase_model.specs.declared.history.Event.TheVariants.{Make, Reg, Sig, Claim, Did, Pass, Send, Look, Drop}
use Rattle.finish_core.specs.declared.event.FinishEvent.{FinishEvent}
use Rattle.finish_core.specs.declared.event.FinishEvent.TheVariants.{Opened}
use Rattle.world_model.specs.declared.event.Step.{Step}
use Rattle.world_model.specs.declared.event.WorldEvent.{WorldEvent}
use Rattle.world_model.specs.declared.event.Step.TheVariants.{Make as Making, Reg as Registering, Sig as Signing, Claim as Claiming, Did as Doing, Pass as Passing, Send as Sending, Look as Looking, Drop as Dropping}
use Rattle.world_model.specs.declared.event.WorldEvent.TheVariants.{Phaser, Finish}

-- with what phaser n was made: its operators, and its bound if it has one
abbrev pub terms_of : ℕ → List WorldEvent → Terms
terms_of n [] = record { ops = []; bound = None }
terms_of n (Phaser m (Making t mode terms) ∷ w) = if m == n then terms else terms_of n w
terms_of n (_ ∷ w) = terms_of n w

-- its operators
abbrev pub ops_of : ℕ → List WorldEvent → List Op
ops_of n w = (terms_of n w).ops

-- the event that a step adds to a phaser's history: a look's has what it saw
abbrev pub event_for : Terms → List Event → Step → Event
event_for terms h (Making t m o) = Make t m
event_for terms h (Registering q t m) = Reg q t m
event_for terms h (Signing t x) = Sig t x
event_for terms h (Claiming t) = Claim t
event_for terms h (Doing t) = Did t
event_for terms h (Passing t) = Pass t
event_for terms h (Sending t a v) = Send t a v
event_for terms h (Looking t a) = Look t a (look_of terms.ops a (waits t h) h)
event_for terms h (Dropping t) = Drop t

-- the history of phaser n
abbrev pub phaser_past : ℕ → List WorldEvent → List Event
phaser_past n [] = []
phaser_past n (Phaser m s ∷ w) =
    if m == n then event_for (terms_of n w) (phaser_past n w) s ∷ phaser_past n w else phaser_past n w
phaser_past n (_ ∷ w) = phaser_past n w

-- the same, with its limits and what it was made with
abbrev pub story_of : Limits → ℕ → List WorldEvent → Story
story_of l n w = record { limits = l; terms = terms_of n w; past = phaser_past n w }

-- the history of finish f; task 0 opened finish 0 before all else
abbrev pub finish_past : ℕ → List WorldEvent → List FinishEvent
finish_past f [] = if f == 0 then Opened 0 ∷ [] else []
finish_past f (Finish g e ∷ w) = if g == f then e ∷ finish_past f w else finish_past f w
finish_past f (_ ∷ w) = finish_past f w
