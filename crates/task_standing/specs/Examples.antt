-- A history and what its root knows then, small enough to be checked by hand.
use Rattle.std.specs.Prelude.{◌≡◌, true, List, [], ◌∷◌, None}
use Rattle.phase_modes.specs.Limits.{default_limits}
use Rattle.phase_modes.specs.declared.reg.Mode.TheVariants.{SigWait}
use Rattle.finish_core.specs.declared.event.FinishEvent.TheVariants.{Opened}
use Rattle.world_model.specs.declared.event.Begun.TheVariants.{Next}
use Rattle.world_model.specs.declared.event.Step.TheVariants.{Make, Sig, Pass}
use Rattle.world_model.specs.declared.event.WorldEvent.{WorldEvent}
use Rattle.world_model.specs.declared.event.WorldEvent.TheVariants.{Phaser, Finish, Begin}
use Rattle.world_model.specs.Due.{due}
use Rattle.world_model.specs.Replies.{is_legal_world}
use Rattle.task_standing.specs.declared.plan.Plan.TheVariants.{Signalling}
use Rattle.task_standing.specs.Known.{Known}
use Rattle.task_standing.specs.Standing.{fresh}
use Rattle.task_standing.specs.Histories.{IsAbout}
use Rattle.task_standing.specs.AfterEvents.{known_later}

-- the root opened finish 1, made phaser 0 in it, began a turn, and signalled; the newest event is first
abbrev pub half_a_turn : List WorldEvent
half_a_turn =
    Phaser 0 (Sig 0 None)
    ∷ Begin 0 Next
    ∷ Phaser 0 (Make 0 SigWait (record { ops = []; bound = None }))
    ∷ Finish 1 (Opened 0)
    ∷ []

-- it is in a turn, and ahead on phaser 0; it has finish 1 open, and has begun three acts
abbrev pub known_then : Known
known_then = record {
  number = 0;
  plan = Signalling None true;
  holding = record { phaser = 0; finish = 1; mode = SigWait; ahead = true } ∷ [];
  finishes = 1 ∷ [];
  home = 0;
  acts = 3;
}

-- the history is legal; that is what the root knows then; a pass is all that is due; and that is what comes of noting
-- the four events, one by one
abbrev pub HalfATurn : Type 0
HalfATurn =
    (is_legal_world default_limits half_a_turn ≡ true)
    × IsAbout half_a_turn known_then
    × (due 0 half_a_turn ≡ Phaser 0 (Pass 0) ∷ [])
    × (known_later half_a_turn [] (fresh 0 0) ≡ known_then)
