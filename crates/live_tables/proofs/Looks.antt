-- What a look saw is a fold.
use Rattle.std.proofs.Common.{◌≡◌, ℕ, ℤ, [], ◌∷◌, Result, Ok, Err, IfOk, sym, ap, ◌∙◌}
use Rattle.phase_modes.specs.declared.refusal.Refusal.{Refusal}
use Rattle.phase_modes.specs.Refusal.{first_refusal}
use Rattle.phase_model.specs.declared.call.Call.TheVariants.{Look as look}
use Rattle.phase_model.specs.declared.history.Event.TheVariants.{Look as Looked}
use Rattle.phase_model.specs.declared.op.Look.{Look}
use Rattle.phase_model.specs.Conditions.{conditions}
use Rattle.phase_model.specs.Phases.{waits}
use Rattle.phase_model.specs.Replies.{event_for}
use Rattle.phase_model.specs.Rules.{Story, has_room, look_of}
use Rattle.phase_model.specs.Answers.{look_result}
use Rattle.world_model.specs.Laws.{IsFolded}
use Rattle.long_locks.specs.Told.{HasLooked}
use Rattle.long_locks.proofs.Looks.{looked_is}
use Rattle.told_history.specs.Stories.{IsAnswered}

pub look_shows : (seen now : Story) (t a : ℕ) (r : Result (Look ℤ) Refusal)
    → IsAnswered (λ _ q. r ≡ look_result q) (look t a) seen now → IsFolded now.terms.ops now.past → IfOk r (λ x. HasLooked now.terms.ops t a now.past x)
look_shows seen now t a (Err e) told folded = tt
look_shows seen now t a (Ok x) told folded =
    let s = told.0 in
    let all : now.past ≡ Looked t a x ∷ s.past =
    ap (λ (v : Story). v.past) told.3
    ∙ looked_is s t a x (look_of s.terms.ops a (waits t s.past) s.past)
    (first_refusal (conditions s.limits s.terms s.past (look t a)))
    (has_room s.limits (event_for s.limits s.terms s.past (look t a) ∷ s.past))
    (sym told.2) in
    let law = folded.seen [] s.past t a x all in (s.past, all, law.0, law.1)
