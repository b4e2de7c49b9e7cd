-- A round: in one call what was sent is told, and each of these tasks signals and passes.
use Rattle.std.specs.Prelude.{ℕ, ◌+◌, Bool, true, false, ◌&&◌, ◌==◌, not, if◌then◌else◌, List, [], ◌∷◌, ◌++◌, map, Option, Some, None, Result, Ok, Err}
use Rattle.std.specs.List.{list_all}
use Rattle.phase_modes.specs.declared.refusal.Refusal.{Refusal}
use Rattle.phase_modes.specs.declared.reg.Mode.{Mode}
use Rattle.phase_modes.specs.declared.reg.Mode.TheVariants.{Sig, Wait, SigWait, Single}
use Rattle.phase_modes.specs.declared.reg.Reg.{Reg}
use Rattle.phase_model.specs.Registration.{registration}
use Rattle.phase_model.specs.Rules.{Story}
use Rattle.phase_model.specs.declared.call.Call.{Call}
use Rattle.phase_model.specs.declared.call.Call.TheVariants.{Signal as signal, Pass as pass, Send as send}
use Rattle.phase_model.specs.declared.answer.Signalling.{Signalling}
use Rattle.phase_model.specs.declared.answer.Signalling.TheVariants.{Signalled, NotYet as Held}
use Rattle.phase_model.specs.declared.answer.Passing.{Passing}
use Rattle.phase_model.specs.declared.answer.Passing.TheVariants.{Passed, Claimed, NotYet}
use Rattle.phase_model.specs.Replies.{Reply, refused, not_yet, done, reply, after}
use Rattle.phase_model.specs.Answers.{pass_result}
use Rattle.level_phaser.specs.declared.round.RoundCourse.{RoundCourse}
use Rattle.level_phaser.specs.declared.round.GivenSend.{GivenSend}

-- the calls of a round, in their order: what was sent, a signal of each task but the first, a signal and a pass of the
-- first, a pass of each other. So it would be if each made its own `next`, the first of them last
abbrev pub round_calls : List Call → List ℕ → List Call
round_calls sends [] = sends
round_calls sends (t ∷ ts) = sends ++ map (λ u. signal u None) ts ++ signal t None ∷ pass t ∷ map (λ u. pass u) ts

-- the call was done
abbrev pub is_done : Reply → Bool
is_done (refused r) = false
is_done not_yet = false
is_done (done e) = true

-- the pass ended the turn of phase p
abbrev pub ends_turn : ℕ → Result (Passing ℕ) Refusal → Bool
ends_turn p (Ok (Passed q)) = q == p
ends_turn p (Ok (Claimed n)) = false
ends_turn p (Ok NotYet) = false
ends_turn p (Err r) = false

-- the signal was made
abbrev pub is_sent : Result Signalling Refusal → Bool
is_sent (Ok Signalled) = true
is_sent (Ok Held) = false
is_sent (Err r) = false

-- the call is answered as in a round of phase p: a pass ends the turn of this phase, and any other is done
abbrev pub is_of_round : ℕ → Story → Call → Bool
is_of_round p s (pass t) = ends_turn p (pass_result s.past (reply s (pass t)))
is_of_round p s c = is_done (reply s c)

-- how far a round has come: the story, how many calls were made, and whether each was answered as in a round
pub record Round : Type 0 where
  pub story : Story
  pub made : ℕ
  pub is_whole : Bool

-- the same, as the code has it
abbrev pub round_of : Story → RoundCourse → Round
round_of s c = record { story = s; made = c.made; is_whole = c.is_whole }

-- the call that a value was sent by
abbrev pub send_of : GivenSend → Call
send_of g = send g.task g.accumulator g.value

-- one call more, unless one before it was answered otherwise
abbrev pub with_call : ℕ → Round → Call → Round
with_call p r c =
    if r.is_whole
    then record { story = after r.story (reply r.story c); made = r.made + 1; is_whole = is_of_round p r.story c }
    else r

-- these calls more
abbrev pub with_calls : ℕ → Round → List Call → Round
with_calls p r [] = r
with_calls p r (c ∷ cs) = with_calls p (with_call p r c) cs

-- the round of phase p from this story on
abbrev pub round : ℕ → Story → List Call → List ℕ → Round
round p s sends ts = with_calls p (record { story = s; made = 0; is_whole = true }) (round_calls sends ts)

-- the task signals and waits
abbrev pub is_sig_wait : Mode → Bool
is_sig_wait Sig = false
is_sig_wait Wait = false
is_sig_wait SigWait = true
is_sig_wait Single = false

-- who is registered so stands level in phase p: it signals and waits, and hasn't signalled this phase
abbrev pub is_level : ℕ → Option (Reg ℕ) → Bool
is_level p None = false
is_level p (Some r) = is_sig_wait r.mode && r.phase == p && not r.ahead

-- each of these tasks stands level in phase p
abbrev pub are_level : ℕ → Story → List ℕ → Bool
are_level p s ts = list_all (λ t. is_level p (registration t s.past)) ts
