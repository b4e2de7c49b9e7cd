-- What holds of each history in which the tasks of a plan go on, and of a whole one.
use Rattle.std.proofs.Common.{ℕ, zero, suc, ◌≡◌, ◌≤◌, ◌<◌, ◌∙◌, true, false, not, List, [], ◌∷◌, ◌++◌, Some, refl, ap, arith}
use Rattle.std.proofs.lemmas.Bool.{false≢true}
use Rattle.std.proofs.lemmas.Option.{none-some}
use Rattle.phase_modes.specs.Lists.{is_empty}
use Rattle.phase_modes.specs.declared.limits.Limits.{Limits}
use Rattle.phase_model.specs.Values.{sent}
use Rattle.job_script.specs.declared.act.Answer.TheVariants.{Started}
use Rattle.world_model.specs.declared.event.Step.TheVariants.{Look}
use Rattle.world_model.specs.declared.event.WorldEvent.{WorldEvent}
use Rattle.world_model.specs.declared.event.WorldEvent.TheVariants.{Phaser}
use Rattle.world_model.specs.Parts.{ops_of, phaser_past}
use Rattle.world_model.specs.Numbers.{is_phaser}
use Rattle.world_model.specs.Replies.{is_legal_world, is_accepted}
use Rattle.world_model.specs.TaskConditions.{last_entry}
use Rattle.world_model.proofs.LeavingList.{ends_act}
use Rattle.world_model.proofs.MadeMeans.{last_accepted}
use Rattle.world_model.proofs.PairsAsked.{some_registered}
use Rattle.trace_walk.specs.Whole.{IsWhole}
use Rattle.job_kernels.proofs.Numbers.{le_both_ways, lt_next_le, zero_least}
use Rattle.job_kernels.proofs.Goes.{smoothly}
use Rattle.job_kernels.proofs.Plain.{IsPlain, turns, spawned, child_at}
use Rattle.job_kernels.proofs.AllBorn.{all_end}
use Rattle.job_kernels.proofs.Children.{child_named, child_no_root}
use Rattle.job_kernels.proofs.Endings.{ended_ends}
use Rattle.job_kernels.proofs.Making.{made, phaser_fits}
use Rattle.job_kernels.proofs.Telling.{smooth_before}
use Rattle.job_kernels.proofs.OwnPhasers.{IsThere}
use Rattle.job_kernels.proofs.Plans.{Shape, Plan}
use Rattle.job_kernels.proofs.Going.{phasers_made, LooksSaw, TaskStands, Standing, out_if}
use Rattle.job_kernels.proofs.Acts.{Smooth, stand}
use Rattle.job_kernels.proofs.Sees.{look_sees, all_there}

-- if each number below n is below m, n is at most m
all_below : (n m : ℕ) → ((j : ℕ) → j < n → j < m) → n ≤ m
all_below zero m f = omega arith
all_below (suc n) m f = lt_next_le n m (f n (self n))
  where
    self : (n : ℕ) → n < suc n
    self n = omega arith

module _ (s : Shape) (p : Plan s) (l : Limits) where
  open s use {next, op, phasers, children, root, out, phases, turns_of}

  -- ---- each history

  -- the tasks stand as the plan says, and each look saw what it was to see
  pub record Holds (w : List WorldEvent) : Type 0 where
    pub saw : LooksSaw s w
    pub stands : Standing s w

  -- before the first event
  at_first : Holds []
  at_first =
      record {
        saw = tt;
        stands = record {
          plain = refl;
          handed = tt;
          made = tt;
          at = record {
            heard = Started;
            is = refl;
            within = zero_least phasers;
            below = zero_least children;
          };
          over = λ n. absurd (false≢true n);
          tasks = λ i c h. absurd (none-some c h);
          unsent = λ i q h. refl;
        };
      }

  -- so did the last event, if it is a look
  saw_step : (e : WorldEvent) (w : List WorldEvent) → Holds w → Smooth s p l (e ∷ w)
      → is_accepted l w e ≡ true → is_legal_world l w ≡ true → LooksSaw s (e ∷ w)
  saw_step (Phaser n (Look t a)) w h g ok k = (look_sees s p l w h.stands k n t a ok g.goes.0, h.saw)
  saw_step (Phaser n x) w h g ok k = h.saw
  saw_step e w h g ok k = h.saw

  -- so it is in each history
  pub holds : (w : List WorldEvent) → Smooth s p l w → Holds w
  holds [] g = at_first
  holds (e ∷ w) g =
      let a = last_accepted l e w g.legal in
      let h = holds w (smooth_before next (root 0 0) l e w g) in
      let saw : LooksSaw s (e ∷ w) = saw_step e w h g a.0 a.1 in
      record { saw = saw; stands = stand s p l e w h.stands g saw a.0 a.1 }

  -- a history at each earlier moment
  pub earlier : (later : List WorldEvent) (w : List WorldEvent) → Smooth s p l (later ++ w) → Smooth s p l w
  earlier [] w g = g
  earlier (e ∷ later) w g = earlier later w (smooth_before next (root 0 0) l e (later ++ w) g)

  -- ---- a whole run

  module _ (w : List WorldEvent) (whole : IsWhole next (root 0 0) l w) where
    -- where the tasks stand at its end
    pub at_end : Standing s w
    at_end = (holds w (smoothly next (root 0 0) l w whole.smooth)).stands

    -- it is a plain one
    pub plain : IsPlain l w
    plain = record { legal = whole.smooth.legal; plain = at_end.plain }

    -- the root made all phasers and spawned all children
    pub full : (phasers_made w ≡ phasers) × (spawned w ≡ children)
    full = at_end.over (ended_ends l 0 w plain whole.ended)

    -- the child of a phaser was registered there
    there : (i : ℕ) → i < phasers → IsThere i w
    there i lt = all_there s p l w at_end whole.smooth.legal (ended_ends l 0 w plain whole.ended) i lt

    -- so there is such a phaser
    some : (i : ℕ) → i < phasers → is_empty (phaser_past i w) ≡ false
    some i lt = let t = there i lt in some_registered t.task (phaser_past i w) t.registered

    -- it was made
    pub is_made : (i : ℕ) → i < phasers → is_phaser i w ≡ true
    is_made i lt = ap (λ b. not b) (some i lt)

    -- for its values to be combined so
    pub ops : (i : ℕ) → i < phasers → ops_of i w ≡ op ∷ []
    ops i lt = (made l op i w plain at_end.made (some i lt)).ops

    -- the limit has room for all of them
    pub fits : phasers ≤ l.phasers
    fits = all_below phasers l.phasers (λ j lt. phaser_fits l j w whole.smooth.legal (is_made j lt))

    -- each child took all its turns, and sent all its values
    ended : (i c : ℕ) → child_at i w ≡ Some c → ends_act (last_entry c w) ≡ true
    ended i c at =
        all_end l w plain whole.ended c (child_no_root l i c w whole.smooth.legal at) (child_named i c w at)

    -- it took all its turns
    pub turned : (i c : ℕ) → child_at i w ≡ Some c → turns c w ≡ turns_of i
    turned i c at = (at_end.tasks i c at).turned (ended i c at)

    -- and sent all its values
    pub values_of_child : (i c : ℕ) → child_at i w ≡ Some c → (q : ℕ) → sent 0 q (phaser_past i w)
        ≡ out_if s i (phases i) q
    values_of_child i c at q =
        let t : TaskStands s i c w = at_end.tasks i c at in
        t.values q ∙ ap (λ m. out_if s i m q) (le_both_ways t.done (phases i) t.most (t.over (ended i c at)))

    -- so each phaser has the values of its place
    pub values : (i : ℕ) → i < phasers → (q : ℕ) → sent 0 q (phaser_past i w) ≡ out_if s i (phases i) q
    values i lt q = let t = there i lt in values_of_child i t.task t.child q
