-- What a whole run counts: registrations and drops, passes and signals, by what its spawns hand out and by the turns
-- that its tasks took.
use Rattle.std.proofs.Common.{◌≡◌, ℕ, ◌+◌, Bool, true, false, ◌&&◌, not, cond, List, [], ◌∷◌, Some, is_some, refl, sym, ap, ◌∙◌, inl, inr, arith}
use Rattle.std.specs.Prelude.{count_by}
use Rattle.std.specs.List.{list_all, sum_by}
use Rattle.std.specs.Option.{option_map_or}
use Rattle.std.proofs.lemmas.Bool.{and_parts, cases_Bool, or_left, true≢false, false≢true}
use Rattle.phase_modes.specs.declared.limits.Limits.{Limits}
use Rattle.phase_modes.specs.declared.reg.Mode.{Mode}
use Rattle.phase_modes.specs.Mode.{can_signal}
use Rattle.phase_model.specs.Phases.{waits, signals}
use Rattle.phase_model.specs.Tasks.{is_registered, is_dropped, mode_of, has_mode, registered_by}
use Rattle.world_model.specs.declared.event.Step.TheVariants.{Drop}
use Rattle.world_model.specs.declared.event.WorldEvent.{WorldEvent}
use Rattle.world_model.specs.declared.event.WorldEvent.TheVariants.{Phaser, Finish}
use Rattle.world_model.specs.ClockLaws.{is_pass_on}
use Rattle.world_model.specs.Due.{due}
use Rattle.world_model.specs.Parts.{phaser_past, terms_of}
use Rattle.world_model.specs.Report.{is_sig, is_pass, is_drop}
use Rattle.world_model.specs.TaskConditions.{last_entry}
use Rattle.world_model.specs.Tasks.{is_ended}
use Rattle.world_model.proofs.DropsStandAlways.{leaves_only}
use Rattle.world_model.proofs.LeavesAtEnds.{is_leave}
use Rattle.world_model.proofs.LeavingList.{ends_act}
use Rattle.world_model.proofs.ShutterDropsFirst.{shuts_act}
use Rattle.world_model.proofs.PhasersLegal.{phasers_legal}
use Rattle.world_model.proofs.RootEndsLast.{ended_roots_leave_nobody}
use Rattle.world_model.proofs.TurnsStand.{is_sig_on, how_many}
use Rattle.job_kernels.proofs.Numbers.{without_none}
use Rattle.job_kernels.proofs.Plain.{IsPlain, turns, root_turns}
use Rattle.job_kernels.proofs.Endings.{dropped_ends, ended_ends}
use Rattle.job_kernels.proofs.Joined.{joined, joined_same, IsGood, passes_in_all, signals_in_all, drops_in_all, never_signals}
use Rattle.job_kernels.proofs.Paces.{paced}
use Rattle.job_kernels.proofs.Weights.{weigh, by_made, pasts, all_same, registrations, counted, made_none, handed, regs_handed, still_past}

-- who leaves moves no more
still_leaves : (n : ℕ) (ds : List WorldEvent) → list_all is_leave ds ≡ true
    → (how_many (is_pass_on n) ds ≡ 0) × (how_many (is_sig_on n) ds ≡ 0)
still_leaves n [] k = (refl, refl)
still_leaves n (Phaser m (Drop u) ∷ ds) k = still_leaves n ds k
still_leaves n (Finish f s ∷ ds) k = still_leaves n ds (and_parts (is_leave (Finish f s)) (list_all is_leave ds) k).1
still_leaves n (d ∷ ds) k = absurd (false≢true k)

module _ (l : Limits) (w : List WorldEvent) (k : IsPlain l w) (over : is_ended 0 w ≡ true) where
  must_drop : (a b : Bool) → (a && not b) ≡ false → a ≡ true → b ≡ true
  must_drop true true e r = refl
  must_drop true false e r = absurd (true≢false e)
  must_drop false b e r = absurd (false≢true r)

  -- each task has left each phaser on which it was registered
  has_left : (t n : ℕ) → is_registered t (phaser_past n w) ≡ true → is_dropped t (phaser_past n w) ≡ true
  has_left t n r =
      must_drop (is_registered t (phaser_past n w)) (is_dropped t (phaser_past n w))
      ((ended_roots_leave_nobody l w k.legal over).1 t n) r

  leaves : (t : ℕ) → ends_act (last_entry t w) ≡ true → list_all is_leave (due t w) ≡ true
  leaves t q =
      leaves_only l t w k.legal (or_left (ends_act (last_entry t w)) (shuts_act (last_entry t w)) q)

  -- it has passed and signalled there as often as it took a turn
  all_waited : (t n : ℕ) → is_registered t (phaser_past n w) ≡ true → waits t (phaser_past n w) ≡ turns t w
  all_waited t n r =
      without_none (waits t (phaser_past n w)) (how_many (is_pass_on n) (due t w)) (turns t w) (paced l w k t n r).waited
      (still_leaves n (due t w) (leaves t (dropped_ends l t n w k (has_left t n r)))).0

  all_signalled : (t n : ℕ) → is_registered t (phaser_past n w) ≡ true
      → has_mode can_signal t (phaser_past n w) ≡ true → signals t (phaser_past n w) ≡ turns t w
  all_signalled t n r m =
      without_none (signals t (phaser_past n w)) (how_many (is_sig_on n) (due t w)) (turns t w)
      ((paced l w k t n r).signalled m)
      (still_leaves n (due t w) (leaves t (dropped_ends l t n w k (has_left t n r)))).1

  good : (n : ℕ) → IsGood l (terms_of n w) (phaser_past n w)
  good n = record { legal = phasers_legal l w k.legal n; still = still_past l n w k }

  root_leaves : list_all is_leave (due 0 w) ≡ true
  root_leaves = leaves 0 (ended_ends l 0 w k over)

  -- a sum over the registrations to which the root's own add nothing
  by_hands : (g : ℕ → Mode → ℕ) → ((m : Mode) → g 0 m ≡ 0) → sum_by (joined g) (pasts l w) ≡ handed g w
  by_hands g none =
      omega (arith, registrations l g w k.legal, made_none g w k.plain none, regs_handed g l w k root_leaves)

  all_joined : sum_by (joined (λ t m. 1)) (pasts l w) ≡ weigh (by_made (λ t m. 1)) w + handed (λ t m. 1) w
  all_joined =
      registrations l (λ t m. 1) w k.legal
      ∙ ap (λ x. weigh (by_made (λ t m. 1)) w + x) (regs_handed (λ t m. 1) l w k root_leaves)

  -- ---- the counts

  pub registered_in_all : sum_by (count_by (λ e. is_some (registered_by e))) (pasts l w)
      ≡ weigh (by_made (λ t m. 1)) w + handed (λ t m. 1) w
  registered_in_all =
      all_same l w (count_by (λ e. is_some (registered_by e))) (joined (λ t m. 1)) (λ n. counted (phaser_past n w))
      ∙ all_joined

  pub dropped_in_all : sum_by (count_by is_drop) (pasts l w) ≡ weigh (by_made (λ t m. 1)) w + handed (λ t m. 1) w
  dropped_in_all =
      all_same l w (count_by is_drop) (joined (λ t m. 1))
      (λ n. drops_in_all l (terms_of n w) (phaser_past n w) (good n)
      ∙ joined_same l (terms_of n w) (λ t m. cond (is_dropped t (phaser_past n w)) 1 0) (λ t m. 1) (phaser_past n w)
      (good n).legal (λ t m r is. ap (λ b. cond b 1 0) (has_left t n r)))
      ∙ all_joined

  pub passed_in_all : sum_by (count_by is_pass) (pasts l w) ≡ handed (λ t m. turns t w) w
  passed_in_all =
      all_same l w (count_by is_pass) (joined (λ t m. turns t w))
      (λ n. passes_in_all l (terms_of n w) (phaser_past n w) (good n)
      ∙ joined_same l (terms_of n w) (λ t m. waits t (phaser_past n w)) (λ t m. turns t w) (phaser_past n w)
      (good n).legal (λ t m r is. all_waited t n r))
      ∙ by_hands (λ t m. turns t w) (λ m. root_turns w k.plain)

  -- what a task signals that is registered in this mode
  abbrev pub signals_of : ℕ → Mode → ℕ
  signals_of t m = cond (can_signal m) (turns t w) 0

  pub signalled_in_all : sum_by (count_by is_sig) (pasts l w) ≡ handed signals_of w
  signalled_in_all =
      all_same l w (count_by is_sig) (joined signals_of)
      (λ n. signals_in_all l (terms_of n w) (phaser_past n w) (good n)
      ∙ joined_same l (terms_of n w) (λ t m. signals t (phaser_past n w)) signals_of (phaser_past n w)
      (good n).legal (λ t m r is. by_mode n t m r is))
      ∙ by_hands signals_of none
    where
      none : (m : Mode) → signals_of 0 m ≡ 0
      none m = by_test (can_signal m)
        where
          by_test : (b : Bool) → cond b (turns 0 w) 0 ≡ 0
          by_test true = root_turns w k.plain
          by_test false = refl

      by_mode : (n t : ℕ) (m : Mode) → is_registered t (phaser_past n w) ≡ true → mode_of t (phaser_past n w) ≡ Some m
          → signals t (phaser_past n w) ≡ signals_of t m
      by_mode n t m r is =
          let able : has_mode can_signal t (phaser_past n w) ≡ can_signal m =
          ap (λ o. option_map_or can_signal o false) is in
          elim (cases_Bool (can_signal m)) [
            | inl e ↦ all_signalled t n r (able ∙ e) ∙ sym (ap (λ b. cond b (turns t w) 0) e)
            | inr e ↦
                never_signals l (terms_of n w) t (phaser_past n w) (good n) (able ∙ e)
                ∙ sym (ap (λ b. cond b (turns t w) 0) e)
          ]
