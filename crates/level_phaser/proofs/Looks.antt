-- Who stand in one phase see the same.
use Rattle.std.proofs.Common.{◌≡◌, ℕ, List, Bool, true, false, cond, nat_lt, ◌∷◌, length, Some, None, refl, ap, sym, ◌∙◌, ℤ, Result}
use Rattle.std.proofs.lemmas.Bool.{and_parts, and_from}
use Rattle.std.specs.Option.{option_map_or}
use Rattle.phase_modes.specs.declared.refusal.Refusal.{Refusal}
use Rattle.phase_modes.specs.declared.refusal.Refusal.TheVariants.{NotRegistered, NoWait, NoAccumulator, NoPhaseYet}
use Rattle.phase_modes.specs.Mode.{can_wait}
use Rattle.phase_model.specs.declared.history.Event.TheVariants.{Look as Looked}
use Rattle.phase_model.specs.declared.op.Look.{Look}
use Rattle.phase_model.specs.declared.op.Look.TheVariants.{Nothing}
use Rattle.phase_model.specs.declared.call.Call.TheVariants.{Look as look}
use Rattle.phase_model.specs.Tasks.{is_live, has_mode}
use Rattle.phase_model.specs.Phases.{waits}
use Rattle.phase_model.specs.Rules.{Story, has_room, look_of}
use Rattle.phase_model.specs.Replies.{decided, reply}
use Rattle.phase_model.specs.Answers.{look_result}
use Rattle.level_phaser.specs.RoundLaws.{can_look, LevelLooks, StandLevel}
use Rattle.level_phaser.proofs.LevelTasks.{level_by}

-- what a look answers, by its parts
abbrev looked : Bool → Bool → Bool → Bool → Bool → ℕ → ℕ → Look ℤ → Result (Look ℤ) Refusal
looked live wait there begun room t a x =
    look_result (decided (cond live (cond wait (cond there (cond begun None (Some NoPhaseYet)) (Some NoAccumulator))
    (Some NoWait)) (Some NotRegistered)) false room (Looked t a x))

-- it doesn't name the task
unnamed : (there begun room : Bool) (t u a : ℕ) (x : Look ℤ)
    → looked true true there begun room t a x ≡ looked true true there begun room u a x
unnamed true true true t u a x = refl
unnamed true true false t u a x = refl
unnamed true false room t u a x = refl
unnamed false begun room t u a x = refl

-- what a task answers that may look, by its phase
as_looked : (s : Story) (t a w : ℕ) → can_look t s.past ≡ true → waits t s.past ≡ w
    → look_result (reply s (look t a)) ≡ looked true true (nat_lt a (length s.terms.ops)) (nat_lt 0 w)
    (has_room s.limits (Looked 0 a Nothing ∷ s.past)) t a (look_of s.terms.ops a w s.past)
as_looked s t a w may at =
    let h = s.past in
    let there = nat_lt a (length s.terms.ops) in
    let room = has_room s.limits (Looked 0 a Nothing ∷ h) in
    let parts = and_parts (is_live t h) (has_mode can_wait t h) may in
    let v = waits t h in
    ap (λ b. looked b (has_mode can_wait t h) there (nat_lt 0 v) room t a (look_of s.terms.ops a v h)) parts.0
    ∙ (ap (λ b. looked true b there (nat_lt 0 v) room t a (look_of s.terms.ops a v h)) parts.1
    ∙ ap (λ x. looked true true there (nat_lt 0 x) room t a (look_of s.terms.ops a x h)) at)

pub level_looks : LevelLooks
level_looks s t u a may too same =
    let w = waits u s.past in
    as_looked s t a w may same
    ∙ (unnamed (nat_lt a (length s.terms.ops)) (nat_lt 0 w) (has_room s.limits (Looked 0 a Nothing ∷ s.past)) t u a
    (look_of s.terms.ops a w s.past)
    ∙ sym (as_looked s u a w too refl))

-- so do all that stand level
pub level_alike : (p : ℕ) (ts : List ℕ) (s : Story) (t u a : ℕ) → StandLevel p ts s → is_live t s.past ≡ true
    → is_live u s.past ≡ true → look_result (reply s (look t a)) ≡ look_result (reply s (look u a))
level_alike p ts s t u a stand live live' =
    let h = s.past in
    let x = level_by p ts s stand.level t (stand.all t live) in
    let y = level_by p ts s stand.level u (stand.all u live') in
    level_looks s t u a
    (and_from (is_live t h) (has_mode can_wait t h) x.live (ap (λ o. option_map_or can_wait o false) x.mode))
    (and_from (is_live u h) (has_mode can_wait u h) y.live (ap (λ o. option_map_or can_wait o false) y.mode))
    (x.turns ∙ sym y.turns)
