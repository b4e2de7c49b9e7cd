-- Where a task gives up, the child that its plan names is the only one that it named and that was never born.
use Rattle.std.proofs.Common.{◌≡◌, ℕ, ◌==◌, Bool, true, false, not, cond, List, [], ◌∷◌, ◌++◌, map, drop, Option, Some, refl, sym, ap, subst, ◌∙◌, inl, inr}
use Rattle.std.specs.Prelude.{filter}
use Rattle.std.specs.List.{list_any}
use Rattle.std.proofs.lemmas.Bool.{cases_Bool, eqb-true, or_parts, true≢false, false≢true}
use Rattle.phase_modes.specs.Lists.{is_empty}
use Rattle.phase_modes.specs.declared.limits.Limits.{Limits}
use Rattle.phase_modes.specs.declared.phased.Pair.{Pair}
use Rattle.finish_core.specs.declared.event.FinishEvent.TheVariants.{Spawned, Ended, Shut as Shutting}
use Rattle.world_model.specs.declared.event.Begun.TheVariants.{Async, Signal, Wait, Next, NextSingle}
use Rattle.world_model.specs.declared.event.Step.TheVariants.{Reg, Sig, Pass, Drop}
use Rattle.world_model.specs.declared.event.WorldEvent.{WorldEvent}
use Rattle.world_model.specs.declared.event.WorldEvent.TheVariants.{Phaser, Finish, Begin, Fail}
use Rattle.world_model.specs.Due.{due, unborn}
use Rattle.world_model.specs.GivingUp.{may_fail}
use Rattle.world_model.specs.Replies.{is_legal_world}
use Rattle.world_model.specs.TaskConditions.{last_entry}
use Rattle.world_model.specs.Tasks.{is_born}
use Rattle.world_model.proofs.AbleComputed.{made_done_where}
use Rattle.world_model.proofs.BornWhereNamed.{unborn_child}
use Rattle.world_model.proofs.HalfSpawnedChild.{child_of, is_failure, idle_unborn, unborn_is}
use Rattle.world_model.proofs.LeaversNeverFail.{leavers_never_fail}
use Rattle.world_model.proofs.LeavesAtEnds.{is_leave, leave_act}
use Rattle.world_model.proofs.MadeMeans.{last_accepted}
use Rattle.world_model.proofs.MovesInTurns.{is_any_move, move_act}
use Rattle.world_model.proofs.NextIsDue.{IsChildless, childless}
use Rattle.world_model.proofs.PassesInTurns.{fail_born}
use Rattle.world_model.proofs.SignalsComeFirst.{moves_act}
use Rattle.world_model.proofs.SmallWords.{empty_is, eq_self}
use Rattle.world_model.proofs.SpawnUnderWay.{begins_spawn, is_child_event}
use Rattle.task_standing.specs.declared.held.Held.{Held}
use Rattle.task_standing.specs.declared.plan.Plan.{Plan}
use Rattle.task_standing.specs.declared.plan.Plan.TheVariants as plan
use Rattle.task_standing.specs.Known.{Known}
use Rattle.task_standing.specs.Standing.{owes, inner_of}
use Rattle.task_standing.specs.StillToMake.{planned, passes_of, shuts_of, end_of}
use Rattle.task_standing.specs.Laws.{named_child, UnbornAreNamed}
use Rattle.task_standing.proofs.Starts.{starts}

-- a list that isn't empty starts as all of it does
all_start : {X : Type 0} (p : WorldEvent → Bool) (f : X → WorldEvent) (xs : List X) (ys : List WorldEvent)
    → ((x : X) → p (f x) ≡ true) → (is_empty ys ≡ false → starts p ys ≡ true)
    → is_empty (map f xs ++ ys) ≡ false → starts p (map f xs ++ ys) ≡ true
all_start p f [] ys y e some = e some
all_start p f (x ∷ xs) ys y e some = y x

alone_start : {X : Type 0} (p : WorldEvent → Bool) (f : X → WorldEvent) (xs : List X)
    → ((x : X) → p (f x) ≡ true) → is_empty (map f xs) ≡ false → starts p (map f xs) ≡ true
alone_start p f [] y some = absurd (true≢false some)
alone_start p f (x ∷ xs) y some = y x

record Starts (p : WorldEvent → Bool) (ds : List WorldEvent) : Type 0 where
  first : WorldEvent
  rest : List WorldEvent
  is : ds ≡ first ∷ rest
  passes : p first ≡ true

start_of : (p : WorldEvent → Bool) (ds : List WorldEvent) → starts p ds ≡ true → Starts p ds
start_of p [] s = absurd (false≢true s)
start_of p (d ∷ ds) s = record { first = d; rest = ds; is = refl; passes = s }

module _ (k : Known) where
  signals_start : (x : Option ℕ) (b : Bool) → is_empty (planned k (plan.Signalling x b)) ≡ false
      → starts is_any_move (planned k (plan.Signalling x b)) ≡ true
  signals_start x true =
      all_start {X = Held} is_any_move (λ h. Phaser h.phaser (Sig k.number x)) (filter owes k.holding) (passes_of k.number k.holding) (λ h. refl)
      (alone_start {X = Held} is_any_move (λ h. Phaser h.phaser (Pass k.number)) k.holding (λ h. refl))
  signals_start x false =
      all_start {X = Held} is_any_move (λ h. Phaser h.phaser (Sig k.number x)) (filter owes k.holding) [] (λ h. refl) (λ e. absurd (true≢false e))

  passes_start : (next : ℕ) → is_empty (planned k (plan.Turning next)) ≡ false → starts is_any_move (planned k (plan.Turning next)) ≡ true
  passes_start next = alone_start {X = Held} is_any_move (λ h. Phaser h.phaser (Pass k.number)) (drop next k.holding) (λ h. refl)

  shut_starts : is_empty (planned k plan.Shutting) ≡ false → starts is_leave (planned k plan.Shutting) ≡ true
  shut_starts =
      all_start {X = Held} is_leave (λ h. Phaser h.phaser (Drop k.number)) (filter (λ h. h.finish == inner_of k) k.holding)
      (Finish (inner_of k) Shutting ∷ []) (λ h. refl) (λ e. refl)

  last_starts : starts is_leave (end_of k ∷ []) ≡ true
  last_starts =
      elim (k.number == 0) as (λ b. is_leave (cond b (Finish 0 Shutting) (Finish k.home (Ended k.number))) ≡ true) [
        | true ↦ refl
        | false ↦ refl
      ]

  end_starts : is_empty (planned k plan.Ending) ≡ false → starts is_leave (planned k plan.Ending) ≡ true
  end_starts =
      all_start {X = Held} is_leave (λ h. Phaser h.phaser (Drop k.number)) k.holding (shuts_of k.finishes ++ end_of k ∷ []) (λ h. refl)
      (all_start {X = ℕ} is_leave (λ f. Finish f Shutting) k.finishes (end_of k ∷ []) (λ f. refl) (λ e. last_starts))

  -- a spawn has the child's birth still to make
  birth_there : (c : ℕ) (t f : ℕ) (qs : List Pair)
      → IsChildless c (map (λ q. Phaser q.phaser (Reg t c q.mode)) qs ++ Finish f (Spawned c) ∷ []) → ⊥
  birth_there c t f [] h = true≢false (sym (eq_self c) ∙ (or_parts (c == c) false h).0)
  birth_there c t f (q ∷ qs) h =
      birth_there c t f qs (or_parts (c == c)
      (list_any (is_child_event c) (map (λ p. Phaser p.phaser (Reg t c p.mode)) qs ++ Finish f (Spawned c) ∷ [])) h).1

  spawn_some : (c t f : ℕ) (qs : List Pair)
      → is_empty (map (λ q. Phaser q.phaser (Reg t c q.mode)) qs ++ Finish f (Spawned c) ∷ []) ≡ false
  spawn_some c t f [] = refl
  spawn_some c t f (q ∷ qs) = refl

moves_name_none : (o : Option WorldEvent) → moves_act o ≡ true → (is_failure o ≡ false) × (child_of o ≡ [])
moves_name_none (Some (Begin t Signal)) m = (refl, refl)
moves_name_none (Some (Begin t Wait)) m = (refl, refl)
moves_name_none (Some (Begin t Next)) m = (refl, refl)
moves_name_none (Some (Begin t (NextSingle x))) m = (refl, refl)
moves_name_none o m = absurd (false≢true m)

spawn_names : (c : ℕ) (o : Option WorldEvent) → begins_spawn c o ≡ true → (is_failure o ≡ false) × (child_of o ≡ c ∷ [])
spawn_names c (Some (Begin t (Async x ps))) b = (refl, ap (λ i. i ∷ []) (eqb-true x c b))
spawn_names c o b = absurd (false≢true b)

module _ (l : Limits) (w : List WorldEvent) (k : Known) (n : ℕ) (legal : is_legal_world l w ≡ true)
    (fails : may_fail l w k.number n ≡ true) (some : is_empty (due k.number w) ≡ false) where
  moving : starts is_any_move (due k.number w) ≡ true → unborn k.number w ≡ []
  moving s =
      let f : Starts is_any_move (due k.number w) = start_of is_any_move (due k.number w) s in
      let none = moves_name_none (last_entry k.number w) (move_act l k.number w f.rest f.first legal f.is f.passes) in
      unborn_is l k.number w legal none.0 ∙ ap (λ cs. filter (λ c. not (is_born c w)) cs) none.1

  leaving : starts is_leave (due k.number w) ≡ true → ⊥
  leaving s =
      let f : Starts is_leave (due k.number w) = start_of is_leave (due k.number w) s in
      leavers_never_fail l k.number w n legal (leave_act l k.number w f.rest f.first legal f.is f.passes) some fails

  spawning : (c : ℕ) → (IsChildless c (due k.number w) → ⊥) → unborn k.number w ≡ c ∷ []
  spawning c there =
      elim (cases_Bool (begins_spawn c (last_entry k.number w))) [
        | inl b ↦
            let one = spawn_names c (last_entry k.number w) b in
            let not_born : is_born c w ≡ false = unborn_child l k.number c w legal b some in
            unborn_is l k.number w legal one.0
            ∙ (ap (λ cs. filter (λ i. not (is_born i w)) cs) one.1
            ∙ ap (λ x. cond (not x) (c ∷ []) []) not_born)
        | inr b ↦ absurd (there (childless l c k.number w legal (ap (λ x. not x) b)))
      ]

  by_plan : (p : Plan) → due k.number w ≡ planned k p → unborn k.number w ≡ named_child p
  by_plan plan.Idle e = absurd (true≢false (sym (ap (λ ds. is_empty ds) e) ∙ some))
  by_plan (plan.Signalling x b) e =
      moving (ap (λ ds. starts is_any_move ds) e ∙ signals_start k x b (ap (λ ds. is_empty ds) (sym e) ∙ some))
  by_plan (plan.Turning next) e =
      moving (ap (λ ds. starts is_any_move ds) e ∙ passes_start k next (ap (λ ds. is_empty ds) (sym e) ∙ some))
  by_plan (plan.Spawning c pairs made) e =
      spawning c (λ h. birth_there k c k.number (inner_of k) (drop made pairs) (subst (λ ds. IsChildless c ds) e h))
  by_plan plan.Shutting e =
      absurd (leaving (ap (λ ds. starts is_leave ds) e ∙ shut_starts k (ap (λ ds. is_empty ds) (sym e) ∙ some)))
  by_plan plan.Ending e =
      absurd (leaving (ap (λ ds. starts is_leave ds) e ∙ end_starts k (ap (λ ds. is_empty ds) (sym e) ∙ some)))

-- a plan of which nothing is left names no child
done_names_none : (k : Known) (p : Plan) → planned k p ≡ [] → named_child p ≡ []
done_names_none k (plan.Spawning c pairs made) e =
    absurd (true≢false (sym (ap (λ ds. is_empty ds) e) ∙ spawn_some k c k.number (inner_of k) (drop made pairs)))
done_names_none k plan.Idle e = refl
done_names_none k (plan.Signalling x b) e = refl
done_names_none k (plan.Turning next) e = refl
done_names_none k plan.Shutting e = refl
done_names_none k plan.Ending e = refl

pub unborn_are_named : UnbornAreNamed
unborn_are_named l w k n legal st =
    let a = last_accepted l (Fail k.number n) w legal in
    let fails : may_fail l w k.number n ≡ true = made_done_where (may_fail l w k.number n) a.0 in
    elim (cases_Bool (is_empty (due k.number w))) [
      | inl e ↦
          let none : due k.number w ≡ [] = empty_is (due k.number w) e in
          idle_unborn l k.number w a.1 (fail_born l w k.number n none fails)
          ∙ sym (done_names_none k k.plan (sym st.due_is ∙ none))
      | inr e ↦ by_plan l w k n a.1 fails e k.plan st.due_is
    ]
