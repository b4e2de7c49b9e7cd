-- Once the root is on its way to its end, the child of each place is on the phaser of its place. Where a phase is closed
-- there, whoever has not left it has taken a turn more.
use Rattle.std.proofs.Common.{◌≡◌, ℕ, ◌<◌, ◌≤◌, true, false, List, Some, refl, sym, subst, ◌∙◌, inl, inr}
use Rattle.std.specs.List.{list_any}
use Rattle.std.proofs.lemmas.Bool.{or_cases, or_left, true≢false}
use Rattle.phase_modes.specs.declared.limits.Limits.{Limits}
use Rattle.phase_modes.specs.declared.phased.Pair.{Pair}
use Rattle.phase_modes.specs.Mode.{can_signal}
use Rattle.phase_model.specs.Tasks.{is_live, is_registered, is_dropped, has_mode}
use Rattle.phase_model.specs.Phases.{signals, IsClosed}
use Rattle.world_model.specs.declared.event.WorldEvent.{WorldEvent}
use Rattle.world_model.specs.Parts.{phaser_past}
use Rattle.world_model.specs.Due.{due}
use Rattle.world_model.specs.TaskConditions.{last_entry}
use Rattle.world_model.proofs.TurnsStand.{is_sig_on, how_many}
use Rattle.world_model.proofs.LeavingList.{ends_act}
use Rattle.world_model.proofs.ShutterDropsFirst.{shuts_act}
use Rattle.world_model.proofs.DropsStandAlways.{leaves_only}
use Rattle.job_kernels.proofs.Numbers.{lt_le, none_below_zero, part_le}
use Rattle.job_kernels.proofs.Plain.{IsPlain, turns, spawned, child_at, root_turns}
use Rattle.job_kernels.proofs.Paces.{paces}
use Rattle.job_kernels.proofs.Children.{there_is}
use Rattle.job_kernels.proofs.Joining.{SpawnsBy, HasOwn, Joined, joined, is_reg_for, no_leave_is}

-- the child of place j is registered on phaser j, and can signal there
pub record IsThere (j : ℕ) (w : List WorldEvent) : Type 0 where
  pub task : ℕ
  pub child : child_at j w ≡ Some task
  pub registered : is_registered task (phaser_past j w) ≡ true
  pub mode : has_mode can_signal task (phaser_past j w) ≡ true

module _ (l : Limits) (w : List WorldEvent) (k : IsPlain l w) where
  pub child_there : (pairs : ℕ → List Pair) → SpawnsBy pairs w → ends_act (last_entry 0 w) ≡ true → (j : ℕ)
      → HasOwn (pairs j) j → j < spawned w → IsThere j w
  child_there pairs spawns ending j own lt =
      let u = there_is j w lt in
      let p : Joined j u.0 w = joined l pairs (λ i. i) w k spawns j u.0 own u.1 in
      let none : list_any (is_reg_for j u.0) (due 0 w) ≡ false =
      no_leave_is (is_reg_for j u.0) (λ m x. refl) (λ f x. refl) (due 0 w)
      (leaves_only l 0 w k.legal (or_left (ends_act (last_entry 0 w)) (shuts_act (last_entry 0 w)) ending)) in
      let there : is_registered u.0 (phaser_past j w) ≡ true =
      elim (or_cases (is_registered u.0 (phaser_past j w)) (list_any (is_reg_for j u.0) (due 0 w)) p.there) [
        | inl y ↦ y
        | inr y ↦ absurd (true≢false (sym y ∙ none))
      ] in
      record { task = u.0; child = u.1; registered = there; mode = p.mode there }

  pub turned_past : (t j p : ℕ) → is_registered t (phaser_past j w) ≡ true → has_mode can_signal t (phaser_past j w) ≡ true
      → is_dropped t (phaser_past j w) ≡ false → IsClosed p (phaser_past j w) → p < turns t w
  turned_past t j p there mode stays closed =
      let h = phaser_past j w in
      let live : is_live t h ≡ true = rw (there, stays) refl in
      let now : signals t h ≤ turns t w =
      part_le (signals t h) (how_many (is_sig_on j) (due t w)) (turns t w) ((paces l w k t j live).signalled mode) in
      lt_le p (signals t h) (turns t w) (closed t live mode) now

  -- the root takes no turn: so it has left
  pub root_left : (j p : ℕ) → is_registered 0 (phaser_past j w) ≡ true → has_mode can_signal 0 (phaser_past j w) ≡ true
      → is_dropped 0 (phaser_past j w) ≡ false → IsClosed p (phaser_past j w) → ⊥
  root_left j p there mode stays closed =
      none_below_zero p (subst (λ n. p < n) (root_turns w k.plain) (turned_past 0 j p there mode stays closed))
