-- The event that continues a task's act, and its condition, are read off the world's state as they are off the history.
use Rattle.std.proofs.Common.{◌≡◌, ℕ, zero, suc, ◌==◌, Bool, true, false, cond, List, [], ◌∷◌, ◌++◌, map, drop, Option, Some, slice_get, refl, sym, ap, ◌∙◌}
use Rattle.std.specs.Prelude.{option_map, if◌then◌else◌}
use Rattle.phase_modes.specs.declared.phased.Pair.{Pair}
use Rattle.phase_model.specs.Rules.{Story}
use Rattle.finish_core.specs.declared.event.FinishEvent.TheVariants.{Spawned, Ended, Shut as Shutting}
use Rattle.world_model.specs.declared.event.Step.TheVariants.{Reg, Sig, Claim, Did, Pass, Drop}
use Rattle.world_model.specs.declared.event.Begun.TheVariants.{Async, Signal, Wait, Next, NextSingle, Shut, End}
use Rattle.world_model.specs.declared.event.WorldEvent.{WorldEvent}
use Rattle.world_model.specs.declared.event.WorldEvent.TheVariants.{Phaser, Finish, Begin, Refuse, Fail}
use Rattle.world_records.specs.declared.plan.Plan.{Plan}
use Rattle.world_records.specs.declared.plan.Plan.TheVariants as plan
use Rattle.world_records.specs.TaskState.{TaskState}
use Rattle.world_records.specs.WorldState.{WorldState}
use Rattle.world_records.specs.Kept.{task_at, inner_at}
use Rattle.world_model.specs.Scopes.{open_finishes}
use Rattle.world_model.specs.Due.{due, or_single, before_pass, next_event}
use Rattle.world_model.specs.declared.condition.Condition.{Condition}
use Rattle.world_model.specs.declared.condition.Condition.TheVariants as condition
use Rattle.world_model.specs.TaskConditions.{last_entry, condition_in, condition_of}
use Rattle.world_model.specs.TaskConditions as history
use Rattle.world_records.specs.inner.Steps.{may_claim, may_report}
use Rattle.world_records.specs.StandsFor.{StandsFor, IsChain, inner_of, end_of, due_by}
use Rattle.world_records.specs.Plans.{fits_plan, has_left}
use Rattle.world_records.specs.inner.Queries.{turn_event, drop_or, reg_or, shut_or, next_by, kept_next, kept_condition}
use Rattle.world_records.specs.inner.Queries as kept

-- the head of a chain
pub inner_top : (outers : List (Option ℕ)) (k : TaskState) (fs : List ℕ) → IsChain outers k.innermost fs → inner_of k fs ≡ inner_at k
inner_top outers k [] c = rw c refl
inner_top outers k (f ∷ fs) c = rw c.0 refl

turn_is : (s : WorldState) (w : List WorldEvent) (t n : ℕ) → StandsFor w s → turn_event s t n ≡ before_pass s.limits n t w
turn_is s w t n st = ap (λ (y : Story). cond (may_claim y t) (Phaser n (Claim t)) (cond (may_report y t) (Phaser n (Did t)) (Phaser n (Pass t)))) (st.phasers n).story

module _ (s : WorldState) (w : List WorldEvent) (st : StandsFor w s) (t : ℕ) (k : TaskState) (fs : List ℕ) (chain : IsChain s.outers k.innermost fs) where
  abbrev first_of : List WorldEvent → Option WorldEvent
  first_of ds = option_map (or_single s.limits w) (slice_get ds 0)

  after_drops : (u : ℕ) (ns : List ℕ) (rest : List WorldEvent) (e : WorldEvent) → Some e ≡ first_of rest → Some (drop_or u (slice_get ns 0) e) ≡ first_of (map (λ n. Phaser n (Drop u)) ns ++ rest)
  after_drops u [] rest e h = h
  after_drops u (n ∷ ns) rest e h = refl

  after_regs : (c : ℕ) (ps : List Pair) (made : ℕ) (f : ℕ) → Some (reg_or t c (slice_get ps made) (Finish f (Spawned c))) ≡ first_of (map (λ p. Phaser p.phaser (Reg t c p.mode)) (drop made ps) ++ Finish f (Spawned c) ∷ [])
  after_regs c [] zero f = refl
  after_regs c [] (suc made) f = refl
  after_regs c (p ∷ ps) zero f = refl
  after_regs c (p ∷ ps) (suc made) f = after_regs c ps made f

  end_plain : Some (end_of t k) ≡ first_of (end_of t k ∷ [])
  end_plain = elim (t == 0) as (λ b. Some (cond b (Finish 0 Shutting) (Finish k.home (Ended t))) ≡ first_of (cond b (Finish 0 Shutting) (Finish k.home (Ended t)) ∷ [])) [ true ↦ refl | false ↦ refl ]

  after_shuts : (gs : List ℕ) → IsChain s.outers k.innermost gs → Some (shut_or k.innermost (end_of t k)) ≡ first_of (map (λ f. Finish f Shutting) gs ++ end_of t k ∷ [])
  after_shuts [] c = rw c end_plain
  after_shuts (f ∷ gs) c = rw c.0 refl

  next_in : (p : Plan) (left : List ℕ) → k.left ≡ left → has_left p left ≡ true → next_by s t k p ≡ first_of (due_by t k fs p)
  next_in plan.Idle left e h = refl
  next_in (plan.Signalling x turn) [] e h = absurd cc
  next_in (plan.Signalling x turn) (n ∷ ns) e h = rw e refl
  next_in plan.Turning [] e h = absurd cc
  next_in plan.Turning (n ∷ ns) e h = rw e (ap (λ d. Some d) (turn_is s w t n st))
  next_in (plan.Spawning c pairs made) left e h = rw (inner_top s.outers k fs chain) (after_regs c pairs made (inner_at k))
  next_in plan.Shutting left e h = rw (inner_top s.outers k fs chain) (after_drops t k.left (Finish (inner_at k) Shutting ∷ []) (Finish (inner_at k) Shutting) refl)
  next_in (plan.Ending c) left e h =
      after_drops c k.left (map (λ n. Phaser n (Drop t)) k.phasers ++ (map (λ f. Finish f Shutting) fs ++ end_of t k ∷ [])) (drop_or t (slice_get k.phasers 0) (shut_or k.innermost (end_of t k)))
      (after_drops t k.phasers (map (λ f. Finish f Shutting) fs ++ end_of t k ∷ []) (shut_or k.innermost (end_of t k)) (after_shuts fs chain))

pub next_is : (s : WorldState) (t : ℕ) (w : List WorldEvent) → StandsFor w s → kept_next s t ≡ next_event s.limits t w
next_is s t w st =
    let k = task_at s t in
    let line = st.tasks t in
    next_in s w st t k (open_finishes t w) line.chain k.plan k.left refl line.left
    ∙ ap (λ ds. option_map (or_single s.limits w) (slice_get ds 0)) (sym line.due_is)

-- where each event of a list comes from this condition, the list does
behind : (o : Option WorldEvent) (c : Condition) → ((d : WorldEvent) → c ≡ condition_in o d) → (xs ys : List WorldEvent) → c ≡ history.condition_by o ys → c ≡ history.condition_by o (xs ++ ys)
behind o c each [] ys h = h
behind o c each (x ∷ xs) ys h = each x

module _ (t : ℕ) (k : TaskState) (fs : List ℕ) where
  signalling : (o : Option WorldEvent) (n : ℕ) (x : Option ℕ) (turn : Bool) (ds : List WorldEvent) → fits_plan (plan.Signalling x turn) o ≡ true
      → condition.Signalling ≡ history.condition_by o (Phaser n (Sig t x) ∷ ds)
  signalling (Some (Begin u Signal)) n x turn ds h = refl
  signalling (Some (Begin u Next)) n x turn ds h = refl
  signalling (Some (Begin u (NextSingle i))) n x turn ds h = refl
  signalling o n x turn ds h = absurd cc

  turning : (o : Option WorldEvent) (n : ℕ) (ds : List WorldEvent) → fits_plan plan.Turning o ≡ true → condition.Turning ≡ history.condition_by o (Phaser n (Pass t) ∷ ds)
  turning (Some (Begin u Wait)) n ds h = refl
  turning (Some (Begin u Next)) n ds h = refl
  turning (Some (Begin u (NextSingle i))) n ds h = refl
  turning o n ds h = absurd cc

  spawning : (o : Option WorldEvent) (c : ℕ) (pairs : List Pair) (made : ℕ) (xs : List WorldEvent) (y : WorldEvent) → fits_plan (plan.Spawning c pairs made) o ≡ true → condition.Spawning ≡ history.condition_by o (xs ++ y ∷ [])
  spawning (Some (Begin u (Async d ps))) c pairs made xs y h = behind (Some (Begin u (Async d ps))) condition.Spawning (λ e. refl) xs (y ∷ []) refl
  spawning o c pairs made xs y h = absurd cc

  shutting : (o : Option WorldEvent) (xs : List WorldEvent) (y : WorldEvent) → fits_plan plan.Shutting o ≡ true → condition.Shutting ≡ history.condition_by o (xs ++ y ∷ [])
  shutting (Some (Begin u Shut)) xs y h = behind (Some (Begin u Shut)) condition.Shutting (λ e. refl) xs (y ∷ []) refl
  shutting o xs y h = absurd cc

  ending_in : (o : Option WorldEvent) → ((d : WorldEvent) → condition.Ending ≡ condition_in o d) → (xs ys zs : List WorldEvent) (y : WorldEvent) → condition.Ending ≡ history.condition_by o (xs ++ (ys ++ (zs ++ y ∷ [])))
  ending_in o each xs ys zs y =
      behind o condition.Ending each xs (ys ++ (zs ++ y ∷ [])) (behind o condition.Ending each ys (zs ++ y ∷ []) (behind o condition.Ending each zs (y ∷ []) (each y)))

  ending : (o : Option WorldEvent) (c : ℕ) (xs ys zs : List WorldEvent) (y : WorldEvent) → fits_plan (plan.Ending c) o ≡ true → condition.Ending ≡ history.condition_by o (xs ++ (ys ++ (zs ++ y ∷ [])))
  ending (Some (Begin u End)) c xs ys zs y h = ending_in (Some (Begin u End)) (λ d. refl) xs ys zs y
  ending (Some (Refuse u a n)) c xs ys zs y h = ending_in (Some (Refuse u a n)) (λ d. refl) xs ys zs y
  ending (Some (Fail u n)) c xs ys zs y h = ending_in (Some (Fail u n)) (λ d. refl) xs ys zs y
  ending o c xs ys zs y h = absurd cc

  by_plan : (o : Option WorldEvent) (p : Plan) (left : List ℕ) → k.left ≡ left → has_left p left ≡ true → fits_plan p o ≡ true → kept.condition_by p ≡ history.condition_by o (due_by t k fs p)
  by_plan o plan.Idle left e h f = refl
  by_plan o (plan.Signalling x turn) [] e h f = absurd cc
  by_plan o (plan.Signalling x turn) (n ∷ ns) e h f = rw e (signalling o n x turn (map (λ m. Phaser m (Sig t x)) ns ++ (if turn then map (λ m. Phaser m (Pass t)) k.phasers else [])) f)
  by_plan o plan.Turning [] e h f = absurd cc
  by_plan o plan.Turning (n ∷ ns) e h f = rw e (turning o n (map (λ m. Phaser m (Pass t)) ns) f)
  by_plan o (plan.Spawning c pairs made) left e h f = spawning o c pairs made (map (λ p. Phaser p.phaser (Reg t c p.mode)) (drop made pairs)) (Finish (inner_of k fs) (Spawned c)) f
  by_plan o plan.Shutting left e h f = shutting o (map (λ n. Phaser n (Drop t)) k.left) (Finish (inner_of k fs) Shutting) f
  by_plan o (plan.Ending c) left e h f = ending o c (map (λ n. Phaser n (Drop c)) k.left) (map (λ n. Phaser n (Drop t)) k.phasers) (map (λ f. Finish f Shutting) fs) (end_of t k) f

pub condition_is : (s : WorldState) (t : ℕ) (w : List WorldEvent) → StandsFor w s → kept_condition (task_at s t) ≡ condition_of t w
condition_is s t w st =
    let k = task_at s t in
    let line = st.tasks t in
    let same : kept.condition_by k.plan ≡ history.condition_by (last_entry t w) (due t w) =
    by_plan t k (open_finishes t w) (last_entry t w) k.plan k.left refl line.left line.plan ∙ ap (λ ds. history.condition_by (last_entry t w) ds) (sym line.due_is)
    in
    rw (line.ended, line.born, same) refl
