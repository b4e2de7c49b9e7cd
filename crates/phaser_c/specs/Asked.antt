-- What is asked of a phaser that stays as it is.
use Rattle.std.specs.Prelude.{◌≡◌, ◌<◌, ℕ, ℤ, true, length, is_some, IfSome, Option, None, Some, slice_get}
use Rattle.std.specs.Option.{option_map}
use Rattle.phase_model.specs.declared.op.Look.{Look}
use Rattle.phase_model.specs.Phases.{is_closed}
use Rattle.phase_model.specs.Values.{fold, sent}
use Rattle.phaser_engine.specs.Phaser.{Phaser}
use Rattle.phaser_engine.specs.Window.{is_needed}
use Rattle.phaser_c.specs.Answers.{number_of_answer, number_of_fold, value_of_fold}
use Rattle.phaser_c.specs.declared.answer.ExportAnswer.TheVariants.{Closed}

-- what a phaser is asked for; if there is no phaser, what was there before
abbrev pub asked : {X : Type 0} → Option Phaser → X → (Phaser → X) → X
asked None old f = old
asked (Some p) old f = f p

-- what `PhaserState::fold_at` promises of its answer
abbrev pub IsFoldAt : Phaser → ℕ → ℕ → Option (Look ℤ) → Type 0
IsFoldAt p accumulator phase r =
    IfSome r (λ x. accumulator < length p.story.terms.ops)
    × IfSome r (λ x. phase < p.story.limits.history)
    × (accumulator < length p.story.terms.ops → phase < p.story.limits.history
    → is_needed phase p.story.past ≡ true → is_some r ≡ true)
    × IfSome r (λ x. is_closed phase p.story.past ≡ true → Some x
    ≡ option_map (λ op. fold op (sent accumulator phase p.story.past)) (slice_get p.story.terms.ops accumulator))

-- the number and the value that answer for a fold
abbrev pub IsFold : Option Phaser → ℕ → ℕ → ℤ → ℤ → ℕ → Type 0
IsFold None accumulator phase old new number = (new ≡ old) × (number ≡ number_of_answer Closed)
IsFold (Some p) accumulator phase old new number =
    (r : Option (Look ℤ)) × IsFoldAt p accumulator phase r × (new ≡ value_of_fold old r) × (number ≡ number_of_fold r)
