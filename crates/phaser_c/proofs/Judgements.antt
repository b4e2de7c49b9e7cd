-- What `Judge::event` promises is what is said of an event, and the course after it.
use Rattle.std.proofs.Common.{◌≡◌, ◌≢◌, Bool, true, false, ◌∷◌, Option, Some, Result, Ok, Err, IfOk, IfErr, refl, sym, ap, ◌∙◌, subst}
use Rattle.phase_modes.specs.declared.refusal.Refusal.{Refusal}
use Rattle.phase_modes.specs.declared.refusal.Refusal.TheVariants as refusals
use Rattle.phaser_judge.specs.declared.event.NamedEvent.{NamedEvent}
use Rattle.phaser_judge.specs.declared.refused.Refused.{Refused}
use Rattle.phaser_judge.specs.declared.refused.Refused.TheVariants as why
use Rattle.phaser_judge.specs.Courses.{Course}
use Rattle.phaser_judge.specs.Standings.{standing, may_come}
use Rattle.phaser_judge.specs.Reasons.{verdict_at}
use Rattle.phaser_judge.specs.Renaming.{AreLegal}
use Rattle.phaser_c.specs.declared.answer.ExportAnswer.{ExportAnswer}
use Rattle.phaser_c.specs.declared.answer.ExportAnswer.TheVariants.{Refused as answer_refused}
use Rattle.phaser_c.proofs.NoMemory.{is_other, rule_is_other}
use Rattle.phaser_c.specs.Judged.{IsSaid, IsCourseAfter, IsJudged, answer_said}

-- by the clauses of `Judge::event`, in their order
pub said_of : (c : Course) (e : NamedEvent) (r : Result (Unit {0}) Refused) (d : Course)
    → IfOk r (λ _. may_come (standing e.phaser c.events) e.event ≡ true)
    → IfOk r (λ _. d ≡ record { events = e ∷ c.events; over = c.over })
    → (c.over ≡ false → IfErr r (λ w. w ≢ why.Memory → may_come (standing e.phaser c.events) e.event ≡ false))
    → (c.over ≡ false → IfErr r (λ w. w ≢ why.Memory → verdict_at (standing e.phaser c.events) e.event ≡ Err w))
    → IfErr r (λ w. w ≢ why.Memory → d ≡ record { events = c.events; over = true })
    → (c.over ≡ true → r ≡ Err why.Over)
    → (r ≡ Err why.Memory → d ≡ c)
    → AreLegal d.events
    → (c.over ≡ false → IfErr r (λ w. w ≢ why.Memory → AreLegal (e ∷ c.events) → ⊥))
    → IsSaid c e r × IsCourseAfter c e r d
said_of c e (Ok u) d come added refused reason ended over memory legal illegal =
    ((over, λ f. (come, subst (λ (x : Course). AreLegal x.events) added legal)), added)
said_of c e (Err w) d come added refused reason ended over memory legal illegal =
    ((over, λ f n. (refused f n, reason f n, illegal f n)), (λ is. memory (ap Err is), ended))

either_way : {A : Type 0} (b : Bool) → (b ≡ true → A) → (b ≡ false → A) → A
either_way true f g = f refl
either_way false f g = g refl

-- a rule that refuses is none of memory
no_rule : (c : Course) (e : NamedEvent) (x : Refusal) → IsSaid c e (Err (why.Rule x)) → x ≡ refusals.Memory → ⊥
no_rule c e x said is =
    either_way c.over (λ f. let wrong = said.0 f in absurd cc) (λ f.
    let other : is_other x ≡ true = rule_is_other (standing e.phaser c.events) e.event x (said.1 f (λ k. absurd cc)).1 in
    let no : is_other x ≡ false = ap is_other is in absurd cc)

-- the answer that memory was refused leaves the course as it was
kept : (c : Course) (e : NamedEvent) (r : Result (Unit {0}) Refused) (d : Course) → IsSaid c e r → IsCourseAfter c e r d
    → answer_said r ≡ answer_refused refusals.Memory → d ≡ c
kept c e (Ok u) d said after is = absurd cc
kept c e (Err why.NotMade) d said after is = absurd cc
kept c e (Err why.MadeAlready) d said after is = absurd cc
kept c e (Err why.NotRegistered) d said after is = absurd cc
kept c e (Err why.RegisteredAlready) d said after is = absurd cc
kept c e (Err (why.Rule x)) d said after is = absurd (no_rule c e x said cc)
kept c e (Err why.HadToWait) d said after is = absurd cc
kept c e (Err why.ClaimsInstead) d said after is = absurd cc
kept c e (Err why.PassesInstead) d said after is = absurd cc
kept c e (Err (why.SawOther x)) d said after is = absurd cc
kept c e (Err why.Memory) d said after is = after.0 refl
kept c e (Err why.Over) d said after is = absurd cc

-- an event that was given to a judge in a handle
pub judged_of : (given : Result NamedEvent ExportAnswer) (old new : Option Course) (e : NamedEvent) (c d : Course)
    (r : Result (Unit {0}) Refused) (a : ExportAnswer) → given ≡ Ok e → old ≡ Some c → new ≡ Some d
    → IsSaid c e r × IsCourseAfter c e r d → a ≡ answer_said r → IsJudged given old new a
judged_of given old new e c d r a is was becomes said answer =
    let same : a ≡ answer_refused refusals.Memory → new ≡ Some c = λ k. becomes ∙ ap (λ (x : Course). Some x) (kept c e r d said.0 said.1 (sym answer ∙ k)) in
    subst (λ (g : Result NamedEvent ExportAnswer). IsJudged g old new a) (sym is)
    (subst (λ (o : Option Course). IsJudged (Ok e) o new a) (sym was) (r, d, said.0, said.1, answer, becomes, same))
