-- What a `single_done` and a `drop_task` are answered, cause by cause.
use Rattle.std.proofs.Common.{◌≡◌, ℕ, Bool, true, false, ◌&&◌, not, cond, ◌∷◌, None, Some, refl, ap, ◌∙◌}
use Rattle.std.proofs.lemmas.Bool.{and_parts}
use Rattle.phase_modes.specs.declared.refusal.Refusal.TheVariants.{NotRegistered, NotNow}
use Rattle.phase_modes.specs.Refusal.{first_refusal}
use Rattle.phase_model.specs.declared.history.Event.TheVariants.{Did, Drop}
use Rattle.phase_model.specs.Tasks.{is_live}
use Rattle.phase_model.specs.Phases.{waits}
use Rattle.phase_model.specs.Singles.{has_claimed, is_done, owes_nothing}
use Rattle.phase_model.specs.Rules.{Story, has_room}
use Rattle.phase_model.specs.declared.call.Call.TheVariants.{SingleDone as single_done, Drop as drop_task}
use Rattle.phase_model.specs.Conditions.{conditions}
use Rattle.phase_model.specs.Replies.{reply, refused, done, decided}
use Rattle.phase_model.proofs.Replied.{reply_by}

not_now : (a b : Bool) → (a && not b) ≡ false
    → cond a (cond (not b) None (Some NotNow)) (Some NotNow) ≡ Some NotNow
not_now true true k = refl
not_now true false k = absurd cc
not_now false b k = refl

module _ (s : Story) (t : ℕ) where
  pub unknown : is_live t s.past ≡ false → reply s (single_done t) ≡ refused NotRegistered
  unknown a = rw a refl

  pub unknown_drop : is_live t s.past ≡ false → reply s (drop_task t) ≡ refused NotRegistered
  unknown_drop a = rw a refl

  module _ (live : is_live t s.past ≡ true) where
    pub not_claimer : (has_claimed t (waits t s.past) s.past && not (is_done (waits t s.past) s.past)) ≡ false
        → reply s (single_done t) ≡ refused NotNow
    not_claimer a =
        let first : first_refusal (conditions s.limits s.terms s.past (single_done t)) ≡ Some NotNow =
        rw live (not_now (has_claimed t (waits t s.past) s.past) (is_done (waits t s.past) s.past) a) in
        reply_by s (single_done t) (Some NotNow) false (Did t) first refl refl

    pub reports : (has_claimed t (waits t s.past) s.past && not (is_done (waits t s.past) s.past)) ≡ true
        → has_room s.limits (Did t ∷ s.past) ≡ true
        → reply s (single_done t) ≡ done (Did t)
    reports a room =
        let parts =
        and_parts (has_claimed t (waits t s.past) s.past) (not (is_done (waits t s.past) s.past)) a in
        let none : first_refusal (conditions s.limits s.terms s.past (single_done t)) ≡ None =
        rw (live, parts.0, parts.1) refl in
        reply_by s (single_done t) None false (Did t) none refl refl
        ∙ ap (λ b. decided None false b (Did t)) room

    pub owes_single : owes_nothing t s.past ≡ false → reply s (drop_task t) ≡ refused NotNow
    owes_single a = rw (live, a) refl

    pub drops : owes_nothing t s.past ≡ true → has_room s.limits (Drop t ∷ s.past) ≡ true
        → reply s (drop_task t) ≡ done (Drop t)
    drops a room =
        let none : first_refusal (conditions s.limits s.terms s.past (drop_task t)) ≡ None =
        rw (live, a) refl in
        reply_by s (drop_task t) None false (Drop t) none refl refl
        ∙ ap (λ b. decided None false b (Drop t)) room
