-- What a judge in a handle does with an event, and what it tells.
use Rattle.std.specs.Prelude.{◌≡◌, ◌≢◌, ◌⊎◌, ℕ, Bool, true, false, List, [], ◌∷◌, Option, None, Some, Result, Ok, Err}
use Rattle.phase_modes.specs.declared.refusal.Refusal.TheVariants as refusals
use Rattle.phaser_judge.specs.declared.event.NamedEvent.{NamedEvent}
use Rattle.phaser_judge.specs.declared.refused.Refused.{Refused}
use Rattle.phaser_judge.specs.declared.refused.Refused.TheVariants as why
use Rattle.phaser_judge.specs.declared.totals.Totals.{Totals}
use Rattle.phaser_judge.specs.Courses.{Course, AreThere, totals_of}
use Rattle.phaser_judge.specs.Standings.{standing, may_come}
use Rattle.phaser_judge.specs.Reasons.{verdict_at}
use Rattle.phaser_judge.specs.Renaming.{AreLegal}
use Rattle.phaser_c.specs.Answers.{number_of_answer, bit_for}
use Rattle.phaser_c.specs.declared.answer.ExportAnswer.{ExportAnswer}
use Rattle.phaser_c.specs.declared.answer.ExportAnswer.TheVariants.{Done, Open, Closed, Refused as refused, NotMade, MadeAlready, RegisteredAlready, HadToWait, ClaimsInstead, PassesInstead, SawOther, Over}
use Rattle.phaser_c.specs.declared.judge.GivenTotals.{GivenTotals}

-- what is answered if an event is refused for this reason
abbrev pub answer_why : Refused → ExportAnswer
answer_why why.NotMade = NotMade
answer_why why.MadeAlready = MadeAlready
answer_why why.NotRegistered = refused refusals.NotRegistered
answer_why why.RegisteredAlready = RegisteredAlready
answer_why (why.Rule r) = refused r
answer_why why.HadToWait = HadToWait
answer_why why.ClaimsInstead = ClaimsInstead
answer_why why.PassesInstead = PassesInstead
answer_why (why.SawOther x) = SawOther
answer_why why.Memory = refused refusals.Memory
answer_why why.Over = Over

-- what is answered if this is said of an event
abbrev pub answer_said : Result (Unit {0}) Refused → ExportAnswer
answer_said (Ok u) = Done
answer_said (Err r) = answer_why r

-- what a judge that isn't over says of an event after those: it may come next, and all are legal; or it may not, for
-- this reason, if it isn't for want of memory
abbrev pub IsVerdict : List NamedEvent → NamedEvent → Result (Unit {0}) Refused → Type 0
IsVerdict es e (Ok u) = (may_come (standing e.phaser es) e.event ≡ true) × AreLegal (e ∷ es)
IsVerdict es e (Err r) =
    r ≢ why.Memory
    → (may_come (standing e.phaser es) e.event ≡ false) × (verdict_at (standing e.phaser es) e.event ≡ Err r)
    × (AreLegal (e ∷ es) → ⊥)

-- what a judge says of an event: one that is over says that it is
abbrev pub IsSaid : Course → NamedEvent → Result (Unit {0}) Refused → Type 0
IsSaid c e r = (c.over ≡ true → r ≡ Err why.Over) × (c.over ≡ false → IsVerdict c.events e r)

-- the course after this was said: an accepted event is the newest; for want of memory all is as before; else it is over
abbrev pub IsCourseAfter : Course → NamedEvent → Result (Unit {0}) Refused → Course → Type 0
IsCourseAfter c e (Ok u) d = d ≡ record { events = e ∷ c.events; over = c.over }
IsCourseAfter c e (Err r) d =
    (r ≡ why.Memory → d ≡ c) × (r ≢ why.Memory → d ≡ record { events = c.events; over = true })

-- how an event is judged: if its numbers are none, the answer says why, and all is as before; so it is if the handle
-- holds no judge; else the judge says something of it, which is answered, and goes on; it is as before also if the
-- answer is that memory was refused
abbrev pub IsJudged : Result NamedEvent ExportAnswer → Option Course → Option Course → ExportAnswer → Type 0
IsJudged (Err why) old new a = (a ≡ why) × (new ≡ old)
IsJudged (Ok e) None new a = (a ≡ Closed) × (new ≡ None)
IsJudged (Ok e) (Some c) new a =
    (r : Result (Unit {0}) Refused) × (d : Course) × IsSaid c e r × IsCourseAfter c e r d × (a ≡ answer_said r)
    × (new ≡ Some d) × (a ≡ refused refusals.Memory → new ≡ Some c)

-- how a judge is made for a handle: one that holds a judge keeps it; else it holds one before the first event, unless
-- memory is refused
abbrev pub IsJudgeMade : Option Course → Option Course → ExportAnswer → Type 0
IsJudgeMade (Some c) new a = (a ≡ Open) × (new ≡ Some c)
IsJudgeMade None new a =
    ((a ≡ Done) × (new ≡ Some (record { events = []; over = false }))) ⊎ ((a ≡ refused refusals.Memory) × (new ≡ None))

-- what is told of a judge with these totals
abbrev pub totals_given : Totals → ℕ → Bool → GivenTotals
totals_given n there over = record {
  events = n.events;
  made = n.made;
  there = there;
  registrations = n.registrations;
  signals = n.signals;
  passes = n.passes;
  drops = n.drops;
  sends = n.sends;
  over = bit_for over;
}

-- what is told of a judge, and the number that answers; if there is no judge, what was there before
abbrev pub AreTotals : Option Course → GivenTotals → GivenTotals → ℕ → Type 0
AreTotals None old new number = (new ≡ old) × (number ≡ number_of_answer Closed)
AreTotals (Some c) old new number =
    (there : ℕ) × (c.over ≡ false → AreThere (λ p. standing p c.events) there)
    × (new ≡ totals_given (totals_of c.events) there c.over) × (number ≡ number_of_answer Done)
