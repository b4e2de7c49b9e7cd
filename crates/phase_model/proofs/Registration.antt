-- What is asked of a live task's mode is asked of the mode of its registration.
use Rattle.std.proofs.Common.{◌≡◌, ℕ, Bool, true, false, not, List, Some, None, is_some, unwrap_or, refl, ◌∙◌}
use Rattle.std.specs.Option.{option_map_or}
use Rattle.std.proofs.lemmas.Bool.{and_parts, false≢true}
use Rattle.phase_modes.specs.declared.reg.Mode.{Mode}
use Rattle.phase_modes.specs.declared.reg.Mode.TheVariants.{Wait}
use Rattle.phase_model.specs.declared.history.Event.{Event}
use Rattle.phase_model.specs.Tasks.{is_registered, is_dropped, is_live, has_mode, mode_of}
use Rattle.phase_model.proofs.LiveTasks.{mode_known}

pub mode_of_live : (t : ℕ) (h : List Event) → is_live t h ≡ true → (test : Mode → Bool)
    → has_mode test t h ≡ test (unwrap_or (mode_of t h) Wait)
mode_of_live t h live test =
    let known : is_some (mode_of t h) ≡ true =
    mode_known t h ∙ (and_parts (is_registered t h) (not (is_dropped t h)) live).0 in
    (elim (mode_of t h) as (λ o. is_some o ≡ true → option_map_or test o false ≡ test (unwrap_or o Wait)) [
      | Some m ↦ λ _. refl
      | None ↦ λ e. absurd (false≢true e)
    ]) known
