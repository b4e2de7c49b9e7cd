-- What the first event of a plan is not, and the first event that is due.
use Rattle.std.proofs.Common.{◌≡◌, ℕ, Bool, true, false, ◌==◌, cond, List, [], ◌∷◌, ◌++◌, map, drop, filter, Option, refl, sym, ap, ◌∙◌}
use Rattle.std.proofs.lemmas.Bool.{true≢false}
use Rattle.phase_modes.specs.declared.limits.Limits.{Limits}
use Rattle.phase_modes.specs.declared.phased.Pair.{Pair}
use Rattle.finish_core.specs.declared.event.FinishEvent.TheVariants.{Spawned, Ended, Shut as Shutting}
use Rattle.world_model.specs.declared.event.Step.TheVariants.{Reg, Sig, Pass, Drop}
use Rattle.world_model.specs.declared.event.WorldEvent.{WorldEvent}
use Rattle.world_model.specs.declared.event.WorldEvent.TheVariants.{Phaser, Finish}
use Rattle.world_model.specs.Actors.{actor}
use Rattle.world_model.specs.Due.{due, is_entry, is_of_single}
use Rattle.world_model.proofs.MadeMeans.{IsNext}
use Rattle.world_model.proofs.DueStays.{IsFirstDue, first_is}
use Rattle.world_model.proofs.OthersLeave.{due_own}
use Rattle.world_model.proofs.SmallWords.{eq_self}
use Rattle.task_standing.specs.declared.held.Held.{Held}
use Rattle.task_standing.specs.declared.plan.Plan.TheVariants as plan
use Rattle.task_standing.specs.Known.{Known}
use Rattle.task_standing.specs.Standing.{owes, inner_of}
use Rattle.task_standing.specs.StillToMake.{planned, passes_of, end_of}

-- the first event passes the test
abbrev pub starts : (WorldEvent → Bool) → List WorldEvent → Bool
starts p [] = false
starts p (e ∷ es) = p e

pub never_starts : (p : WorldEvent → Bool) (ds rest : List WorldEvent) (e : WorldEvent) → ds ≡ e ∷ rest → p e ≡ true
    → starts p ds ≡ false → ⊥
never_starts p ds rest e d y n = absurd (true≢false (sym (ap (λ es. starts p es) d ∙ y) ∙ n))

starts_map : {X : Type 0} (p : WorldEvent → Bool) (f : X → WorldEvent) (xs : List X) (ys : List WorldEvent)
    → ((x : X) → p (f x) ≡ false) → starts p ys ≡ false → starts p (map f xs ++ ys) ≡ false
starts_map p f [] ys n e = e
starts_map p f (x ∷ xs) ys n e = n x

starts_alone : {X : Type 0} (p : WorldEvent → Bool) (f : X → WorldEvent) (xs : List X)
    → ((x : X) → p (f x) ≡ false) → starts p (map f xs) ≡ false
starts_alone p f [] n = refl
starts_alone p f (x ∷ xs) n = n x

module _ (p : WorldEvent → Bool) (k : Known) where
  pub turning_not : (next : ℕ) → ((n : ℕ) → p (Phaser n (Pass k.number)) ≡ false)
      → starts p (planned k (plan.Turning next)) ≡ false
  turning_not next n = starts_alone {X = Held} p (λ h. Phaser h.phaser (Pass k.number)) (drop next k.holding) (λ h. n h.phaser)

  pub signalling_not : (x : Option ℕ) (turns : Bool) → ((n : ℕ) → p (Phaser n (Sig k.number x)) ≡ false)
      → ((n : ℕ) → p (Phaser n (Pass k.number)) ≡ false) → starts p (planned k (plan.Signalling x turns)) ≡ false
  signalling_not x true s n =
      starts_map {X = Held} p (λ h. Phaser h.phaser (Sig k.number x)) (filter owes k.holding) (passes_of k.number k.holding) (λ h. s h.phaser)
      (starts_alone {X = Held} p (λ h. Phaser h.phaser (Pass k.number)) k.holding (λ h. n h.phaser))
  signalling_not x false s n =
      starts_map {X = Held} p (λ h. Phaser h.phaser (Sig k.number x)) (filter owes k.holding) [] (λ h. s h.phaser) refl

  pub spawning_not : (c : ℕ) (pairs : List Pair) (made : ℕ)
      → ((q : Pair) → p (Phaser q.phaser (Reg k.number c q.mode)) ≡ false) → ((f : ℕ) → p (Finish f (Spawned c)) ≡ false)
      → starts p (planned k (plan.Spawning c pairs made)) ≡ false
  spawning_not c pairs made r b = starts_map {X = Pair} p (λ q. Phaser q.phaser (Reg k.number c q.mode)) (drop made pairs) (Finish (inner_of k) (Spawned c) ∷ []) r (b (inner_of k))

  pub shutting_not : ((n : ℕ) → p (Phaser n (Drop k.number)) ≡ false) → ((f : ℕ) → p (Finish f Shutting) ≡ false)
      → starts p (planned k plan.Shutting) ≡ false
  shutting_not d s =
      starts_map {X = Held} p (λ h. Phaser h.phaser (Drop k.number)) (filter (λ h. h.finish == inner_of k) k.holding)
      (Finish (inner_of k) Shutting ∷ []) (λ h. d h.phaser) (s (inner_of k))

  end_not : ((f : ℕ) → p (Finish f Shutting) ≡ false) → ((f u : ℕ) → p (Finish f (Ended u)) ≡ false)
      → starts p (end_of k ∷ []) ≡ false
  end_not s u =
      elim (k.number == 0) as (λ b. p (cond b (Finish 0 Shutting) (Finish k.home (Ended k.number))) ≡ false) [
        | true ↦ s 0
        | false ↦ u k.home k.number
      ]

  -- what comes after the drops of an end
  pub closing_not : ((f : ℕ) → p (Finish f Shutting) ≡ false) → ((f u : ℕ) → p (Finish f (Ended u)) ≡ false)
      → starts p (map (λ f. Finish f Shutting) k.finishes ++ end_of k ∷ []) ≡ false
  closing_not s u = starts_map {X = ℕ} p (λ f. Finish f Shutting) k.finishes (end_of k ∷ []) (λ f. s f) (end_not s u)

  pub ending_not : ((n : ℕ) → p (Phaser n (Drop k.number)) ≡ false) → ((f : ℕ) → p (Finish f Shutting) ≡ false)
      → ((f u : ℕ) → p (Finish f (Ended u)) ≡ false) → starts p (planned k plan.Ending) ≡ false
  ending_not d s u =
      starts_map {X = Held} p (λ h. Phaser h.phaser (Drop k.number)) k.holding
      (map (λ f. Finish f Shutting) k.finishes ++ end_of k ∷ []) (λ h. d h.phaser)
      (closing_not s u)

-- what is due of a task before and after it makes the event that is next
pub record Continues (t : ℕ) (e : WorldEvent) (w : List WorldEvent) : Type 0 where
  pub rest : List WorldEvent
  pub before : due t w ≡ e ∷ rest
  pub after : due t (e ∷ w) ≡ rest

pub continuing : (l : Limits) (e : WorldEvent) (w : List WorldEvent) (t : ℕ) → actor w e ≡ t → IsNext l w e
    → is_entry t e ≡ false → is_of_single e ≡ false → Continues t e w
continuing l e w t by n i s =
    let f : IsFirstDue (actor w e) w e = first_is l w e n s in
    let here : due t w ≡ e ∷ f.rest = ap (λ u. due u w) (sym by) ∙ f.is in
    record {
      rest = f.rest;
      before = here;
      after = due_own t e w i (ap (λ u. u == t) by ∙ eq_self t) s ∙ ap (λ ds. drop 1 ds) here;
    }
