-- The numbers by which C is answered.
use Rattle.std.specs.Prelude.{ℕ, ℤ, Bool, true, false, Option, None, Some}
use Rattle.phase_modes.specs.Refusal.{number_of}
use Rattle.phase_model.specs.declared.op.Look.{Look}
use Rattle.phase_model.specs.declared.op.Look.TheVariants.{Value, Nothing as Unseen}
use Rattle.phase_model.specs.declared.call.Reply.{Reply}
use Rattle.phase_model.specs.declared.call.Reply.TheVariants as replies
use Rattle.phaser_c.specs.declared.answer.ExportAnswer.{ExportAnswer}
use Rattle.phaser_c.specs.declared.answer.ExportAnswer.TheVariants.{Done, Refused, NotYet, Claimed, Nothing, NotKept, TooGreat, Closed, Open, Short, BadMode, BadLimits, BadOperators, BadBound, BadTickets, BadKind, NotMade, MadeAlready, RegisteredAlready, HadToWait, ClaimsInstead, PassesInstead, SawOther, Over}

-- the number of each answer; a refusal has its own, 1 to 26
abbrev pub number_of_answer : ExportAnswer → ℕ
number_of_answer Done = 0
number_of_answer (Refused r) = number_of r
number_of_answer NotYet = 32
number_of_answer Claimed = 33
number_of_answer Nothing = 34
number_of_answer NotKept = 35
number_of_answer TooGreat = 36
number_of_answer Closed = 65
number_of_answer Open = 66
number_of_answer Short = 67
number_of_answer BadMode = 68
number_of_answer BadLimits = 69
number_of_answer BadOperators = 70
number_of_answer BadBound = 71
number_of_answer BadTickets = 72
number_of_answer BadKind = 73
number_of_answer NotMade = 80
number_of_answer MadeAlready = 81
number_of_answer RegisteredAlready = 82
number_of_answer HadToWait = 83
number_of_answer ClaimsInstead = 84
number_of_answer PassesInstead = 85
number_of_answer SawOther = 86
number_of_answer Over = 87

-- what is answered if a call on a phaser returns this
abbrev pub answer_for : Reply → ExportAnswer
answer_for replies.Done = Done
answer_for (replies.Phase p) = Done
answer_for (replies.Claim n) = Claimed
answer_for (replies.Saw (Value v)) = Done
answer_for (replies.Saw Unseen) = Nothing
answer_for replies.NotYet = NotYet
answer_for (replies.Refused r) = Refused r

-- the phase or the single's number that a reply gives; if it gives none, what was there before
abbrev pub number_given : ℕ → Option Reply → ℕ
number_given old (Some (replies.Phase p)) = p
number_given old (Some (replies.Claim n)) = n
number_given old _ = old

-- the value that a reply gives; if it gives none, what was there before
abbrev pub value_given : ℤ → Option Reply → ℤ
value_given old (Some (replies.Saw (Value v))) = v
value_given old _ = old

-- the number that answers a call on what a handle holds, if none means that it holds no phaser
abbrev pub number_for : Option Reply → ℕ
number_for None = number_of_answer Closed
number_for (Some r) = number_of_answer (answer_for r)

-- the number that answers a question to what a handle holds
abbrev pub number_of_read : {X : Type 0} → Option X → ℕ
number_of_read None = number_of_answer Closed
number_of_read (Some x) = number_of_answer Done

-- 1 for yes
abbrev pub bit_for : Bool → ℕ
bit_for false = 0
bit_for true = 1

-- the number that answers for what is kept of a fold
abbrev pub number_of_fold : Option (Look ℤ) → ℕ
number_of_fold None = number_of_answer NotKept
number_of_fold (Some (Value v)) = number_of_answer Done
number_of_fold (Some Unseen) = number_of_answer Nothing

-- the value of a fold; if it has none, what was there before
abbrev pub value_of_fold : ℤ → Option (Look ℤ) → ℤ
value_of_fold old (Some (Value v)) = v
value_of_fold old _ = old
