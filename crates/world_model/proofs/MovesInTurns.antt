-- Signals and passes are due only in an act that signals or turns.
use Rattle.std.proofs.Common.{◌≡◌, ℕ, Bool, true, false, ◌==◌, not, cond, List, [], ◌∷◌, ◌++◌, map, Some, refl, sym, subst, ap, ◌∙◌, inl, inr}
use Rattle.std.specs.Prelude.{filter, flat_map}
use Rattle.std.specs.List.{list_any}
use Rattle.std.proofs.lemmas.Bool.{or_parts, cases_Bool, true≢false, false≢true}
use Rattle.phase_modes.specs.declared.limits.Limits.{Limits}
use Rattle.finish_core.specs.declared.event.FinishEvent.TheVariants.{Spawned, Ended, Shut as Shutting}
use Rattle.world_model.specs.declared.event.Step.TheVariants.{Reg, Sig, Pass, Drop}
use Rattle.world_model.specs.declared.event.Begun.{Begun}
use Rattle.world_model.specs.declared.event.Begun.TheVariants.{Async, Shut, End}
use Rattle.world_model.specs.declared.event.WorldEvent.{WorldEvent}
use Rattle.world_model.specs.declared.event.WorldEvent.TheVariants.{Phaser, Finish, Begin, Refuse, Fail}
use Rattle.world_model.specs.Tasks.{home, phasers_of}
use Rattle.world_model.specs.Scopes.{inner, enclosing, open_finishes}
use Rattle.world_model.specs.Due.{due, fixed, fixed_by, ending, drops_due, unborn, is_entry}
use Rattle.world_model.specs.Replies.{is_legal_world}
use Rattle.world_model.specs.TaskConditions.{last_entry}
use Rattle.world_model.proofs.DueHolds.{due_has}
use Rattle.world_model.proofs.LeavesAtEnds.{none_in_map, none_in_both, none_in_drop}
use Rattle.world_model.proofs.SignalsComeFirst.{moves_act}

-- a signal or a pass
abbrev pub is_any_move : WorldEvent → Bool
is_any_move (Phaser n (Sig t x)) = true
is_any_move (Phaser n (Pass t)) = true
is_any_move _ = false

abbrev IsStill : List WorldEvent → Type 0
IsStill ds = list_any is_any_move ds ≡ false

drops_still : (t : ℕ) (w : List WorldEvent) → IsStill (drops_due t w)
drops_still t w = none_in_map is_any_move (λ n. Phaser n (Drop t)) (phasers_of t w) (λ n. refl)

flat_still : (w : List WorldEvent) (cs : List ℕ) → IsStill (flat_map (λ c. drops_due c w) cs)
flat_still w [] = refl
flat_still w (c ∷ cs) =
    none_in_both is_any_move (drops_due c w) (flat_map (λ x. drops_due x w) cs)
    (drops_still c w) (flat_still w cs)

ending_still : (t : ℕ) (w : List WorldEvent) → IsStill (ending t w)
ending_still t w =
    let shuts = map (λ f. Finish f Shutting) (open_finishes t w) in
    none_in_both is_any_move (drops_due t w ++ shuts)
    (cond (t == 0) (Finish 0 Shutting) (Finish (home t w) (Ended t)) ∷ [])
    (none_in_both is_any_move (drops_due t w) shuts (drops_still t w)
    (none_in_map is_any_move (λ f. Finish f Shutting) (open_finishes t w) (λ f. refl)))
    (last_still (t == 0))
  where
    last_still : (b : Bool) → IsStill (cond b (Finish 0 Shutting) (Finish (home t w) (Ended t)) ∷ [])
    last_still true = refl
    last_still false = refl

fixed_still : (u : ℕ) (b : Begun) (w : List WorldEvent) → not (moves_act (Some (Begin u b))) ≡ true
    → IsStill (fixed_by u b w)
fixed_still u (Async c ps) w k =
    none_in_both is_any_move (map (λ p. Phaser p.phaser (Reg u c p.mode)) ps) (Finish (inner u w) (Spawned c)
    ∷ []) (none_in_map is_any_move (λ p. Phaser p.phaser (Reg u c p.mode)) ps (λ p. refl)) refl
fixed_still u Shut w k =
    let ns = filter (λ n. enclosing n w == inner u w) (phasers_of u w) in
    none_in_both is_any_move (map (λ n. Phaser n (Drop u)) ns) (Finish (inner u w) Shutting ∷ [])
    (none_in_map is_any_move (λ n. Phaser n (Drop u)) ns (λ n. refl)) refl
fixed_still u End w k = ending_still u w
fixed_still u b w k = absurd (false≢true k)

entry_still : (t : ℕ) (e : WorldEvent) (w : List WorldEvent) → is_entry t e ≡ true
    → not (moves_act (Some e)) ≡ true → IsStill (fixed e w)
entry_still t (Begin u b) w n k = fixed_still u b w k
entry_still t (Refuse u b x) w n k = ending_still u w
entry_still t (Fail u x) w n k =
    none_in_both is_any_move (flat_map (λ c. drops_due c w) (unborn u w)) (ending u w)
    (flat_still w (unborn u w)) (ending_still u w)
entry_still t (Phaser m s) w n k = refl
entry_still t (Finish f s) w n k = refl

pub nobody_moves : (l : Limits) (t : ℕ) (w : List WorldEvent) → is_legal_world l w ≡ true
    → not (moves_act (last_entry t w)) ≡ true → list_any is_any_move (due t w) ≡ false
nobody_moves l t w k q =
    due_has l t (λ o. not (moves_act o)) (λ ds. list_any is_any_move ds ≡ false) refl
    (none_in_drop is_any_move) (λ e v h x y. entry_still t e v x y) w k q

-- the act in which one of these is due
pub move_act : (l : Limits) (t : ℕ) (w ds : List WorldEvent) (e : WorldEvent) → is_legal_world l w ≡ true
    → due t w ≡ e ∷ ds → is_any_move e ≡ true → moves_act (last_entry t w) ≡ true
move_act l t w ds e k here y =
    elim (cases_Bool (moves_act (last_entry t w))) [
      | inl a ↦ a
      | inr a ↦
          absurd (true≢false (sym y ∙ (or_parts (is_any_move e) (list_any is_any_move ds) (subst (λ xs.
          list_any is_any_move xs ≡ false) here (nobody_moves l t w k (ap (λ b. not b) a)))).0))
    ]
