-- What a look saw is a fold.
use Rattle.std.proofs.Common.{◌≡◌, ℕ, ℤ, Bool, true, false, List, [], ◌∷◌, Option, Some, None, Result, Ok, Err, IfOk, sym, ap, ◌∙◌}
use Rattle.phase_modes.specs.declared.refusal.Refusal.{Refusal}
use Rattle.phase_modes.specs.Refusal.{first_refusal}
use Rattle.phase_model.specs.declared.call.Call.TheVariants.{Look as look}
use Rattle.phase_model.specs.declared.history.Event.{Event}
use Rattle.phase_model.specs.declared.history.Event.TheVariants.{Look as Looked}
use Rattle.phase_model.specs.declared.op.Look.{Look}
use Rattle.phase_model.specs.declared.terms.Terms.{Terms}
use Rattle.phase_model.specs.Conditions.{conditions}
use Rattle.phase_model.specs.Phases.{waits}
use Rattle.phase_model.specs.Replies.{after, decided, event_for}
use Rattle.phase_model.specs.Rules.{Story, has_room, look_of}
use Rattle.phase_model.specs.Answers.{look_result}
use Rattle.world_model.specs.Laws.{IsFolded}
use Rattle.phaser_core.specs.LongLife.{long_limits}
use Rattle.long_locks.specs.Told.{story_of, IsAnswered, HasLooked}

pub looked_is : (s : Story) (t a : ℕ) (x y : Look ℤ) (o : Option Refusal) (r : Bool)
    → look_result (decided o false r (Looked t a y)) ≡ Ok x → (after s (decided o false r (Looked t a y))).past ≡ Looked t a x ∷ s.past
looked_is s t a x y (Some e) r is = absurd (cc is)
looked_is s t a x y None false is = absurd (cc is)
looked_is s t a x y None true is = ap (λ (z : Look ℤ). Looked t a z ∷ s.past) (cc is)

pub look_shows : (terms : Terms) (seen now : List Event) (t a : ℕ) (r : Result (Look ℤ) Refusal)
    → IsAnswered (λ _ q. r ≡ look_result q) terms (look t a) seen now → IsFolded terms.ops now → IfOk r (λ x. HasLooked terms.ops t a now x)
look_shows terms seen now t a (Err e) told folded = tt
look_shows terms seen now t a (Ok x) told folded =
    let before = told.0 in
    let all : now ≡ Looked t a x ∷ before =
    told.3
    ∙ looked_is (story_of terms before) t a x (look_of terms.ops a (waits t before) before)
    (first_refusal (conditions long_limits terms before (look t a)))
    (has_room long_limits (event_for long_limits terms before (look t a) ∷ before))
    (sym told.2) in
    let law = folded.seen [] before t a x all in (before, all, law.0, law.1)
