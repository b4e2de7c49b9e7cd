-- A round, call by call: it ends as if each of its tasks made its own `next`, the first of them last.
use Rattle.std.specs.Prelude.{ℕ, ◌≡◌, true, List, [], ◌∷◌, length, map, None}
use Rattle.std.specs.List.{list_all}
use Rattle.phase_model.specs.declared.call.Call.{Call}
use Rattle.phase_model.specs.Rules.{Story}
use Rattle.phase_model.specs.Laws.{IsLegal, after_calls}
use Rattle.phaser_core.specs.Parking.{is_parked, all_wait}
use Rattle.long_locks.specs.declared.answer.Ended.TheVariants.{Passed}
use Rattle.long_locks.specs.declared.answer.Freed.{Freed}
use Rattle.long_locks.specs.declared.answer.AskAnswer.{AskAnswer}
use Rattle.long_locks.specs.declared.answer.AskAnswer.TheVariants.{Ended as HasEnded, Parked as IsParked}
use Rattle.long_locks.specs.Turns.{Standing, standing, IsTurned}
use Rattle.long_locks.specs.Calls.{to_go_on, called, answer_to, standing_after}
use Rattle.level_phaser.specs.Rounds.{round_calls, round}
use Rattle.level_phaser.specs.RoundLaws.{StandLevel, is_send_of, HasRoomFor}

-- what t is answered to its own `next`
abbrev pub next_answer : ℕ → Standing → AskAnswer
next_answer t v = answer_to (is_parked t v.queue) (called v.story (to_go_on t None))

-- how things stand after it, before those who are parked make their calls
abbrev pub after_next : ℕ → Standing → Standing
after_next t v = standing_after (is_parked t v.queue) (called v.story (to_go_on t None)) v.story v.queue

-- these tasks make their own `next` one after the other: each is parked, and all who are parked have to wait
abbrev pub AreParked : List ℕ → Standing → Standing → Type 0
AreParked [] v w = v ≡ w
AreParked (t ∷ ts) v w =
    let x = after_next t v in
    (next_answer t v ≡ IsParked) × (all_wait x.story x.queue ≡ true) × AreParked ts x w

-- by calls of those who were parked the one standing becomes the other, and no third one in which all wait
abbrev pub EndsIn : Standing → Standing → Type 0
EndsIn v w = IsTurned v w × ((x : Standing) → IsTurned v x → all_wait x.story x.queue ≡ true → x ≡ w)

-- these tasks are freed in their order: each has ended its turn of phase p
abbrev pub all_passed : ℕ → List ℕ → List Freed
all_passed p ts = map (λ u. record { task = u; ended = Passed p }) ts

-- from a level story in which nobody is parked, and once all values are sent, each of ts is parked by its own `next`.
-- By that of t it passes, and then all others do. The story is that of the round
abbrev pub RoundIsCalls : Type 0
RoundIsCalls = (p : ℕ) (s : Story) (sends : List Call) (t : ℕ) (ts : List ℕ) → IsLegal s → StandLevel p (t ∷ ts) s
    → list_all (is_send_of s.terms (t ∷ ts)) sends ≡ true
    → HasRoomFor (length (round_calls sends (t ∷ ts))) (t ∷ ts) s
    → (v : Standing) × AreParked ts (standing (after_calls s sends) [] []) v
    × (next_answer t v ≡ HasEnded (Passed p))
    × EndsIn (after_next t v) (standing (round p s sends (t ∷ ts)).story [] (all_passed p ts))
