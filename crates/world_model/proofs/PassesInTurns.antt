-- Passes belong to turns, entries to tasks that were born, registrations to tasks that were named.
use Rattle.phase_modes.specs.Lists.{is_empty}
use Rattle.std.proofs.Common.{◌≡◌, ℕ, Bool, true, false, ◌&&◌, ◌||◌, ◌==◌, not, cond, List, [], ◌∷◌, ◌++◌, map, Option, Some, None, refl, sym, subst, ap, ◌∙◌, inl, inr}
use Rattle.std.specs.Prelude.{drop, filter, flat_map, slice_get, option_map}
use Rattle.std.specs.List.{list_any}
use Rattle.std.specs.Option.{option_map_or}
use Rattle.std.proofs.lemmas.Bool.{or_cases, or_from, or_parts, cases_Bool, eqb-true, true≢false, not-true}
use Rattle.phase_modes.specs.declared.limits.Limits.{Limits}
use Rattle.phase_model.specs.declared.history.Event.{Event}
use Rattle.phase_model.specs.declared.history.Event.TheVariants.{Make as Made, Reg as Registered, Claim as Claimed, Did as Done}
use Rattle.phase_model.specs.Tasks.{registers, is_registered}
use Rattle.phase_model.specs.Rules.{is_permitted}
use Rattle.finish_core.specs.declared.event.FinishEvent.TheVariants.{Spawned, Ended, Shut as Shutting}
use Rattle.world_model.specs.declared.event.Step.TheVariants.{Make, Reg, Sig, Claim, Did, Pass, Drop}
use Rattle.world_model.specs.declared.event.Begun.{Begun}
use Rattle.world_model.specs.declared.event.Begun.TheVariants.{Async, Signal, Shut, End}
use Rattle.world_model.specs.declared.event.Tried.TheVariants.{Begun as Beginning, New}
use Rattle.world_model.specs.declared.event.WorldEvent.{WorldEvent}
use Rattle.world_model.specs.declared.event.WorldEvent.TheVariants.{Phaser, Finish, Begin, Refuse, Fail}
use Rattle.world_model.specs.Parts.{terms_of, phaser_past, event_for}
use Rattle.world_model.specs.Scopes.{inner, open_finishes, enclosing}
use Rattle.world_model.specs.Tasks.{home, phasers_of, is_born, is_ended, spawns}
use Rattle.world_model.specs.Numbers.{is_named}
use Rattle.world_model.specs.Actors.{actor}
use Rattle.world_model.specs.Due.{due, fixed, fixed_by, ending, unborn, is_entry, is_of_single, is_idle, next_event, or_single, drops_due, is_behind}
use Rattle.world_model.specs.Clock.{is_turn}
use Rattle.world_model.specs.Replies.{is_legal_world, is_accepted}
use Rattle.world_model.specs.GivingUp.{may_fail, is_refused_by, is_reg}
use Rattle.world_model.specs.Continuing.{next_done}
use Rattle.world_model.specs.TaskConditions.{last_entry}
use Rattle.world_model.specs.ClockLaws.{begins_turn}
use Rattle.world_model.proofs.MadeMeans.{last_accepted, part_made}
use Rattle.world_model.proofs.AbleComputed.{idle_in_act, refuse_idle, made_done_where}
use Rattle.world_model.proofs.DueHolds.{due_has}
use Rattle.world_model.proofs.NextIsDue.{First, first_due}
use Rattle.world_model.proofs.SpawnUnderWay.{named_by_spawn, named_later}
use Rattle.world_model.proofs.BornWhereNamed.{born_named, registering}

abbrev pub is_any_pass : WorldEvent → Bool
is_any_pass (Phaser n (Pass t)) = true
is_any_pass _ = false

abbrev pub HasNoPass : List WorldEvent → Type 0
HasNoPass ds = list_any is_any_pass ds ≡ false

none_map : {X : Type 0} (f : X → WorldEvent) (xs : List X) → ((x : X) → is_any_pass (f x) ≡ false) → HasNoPass (map f xs)
none_map f [] k = refl
none_map f (x ∷ xs) k = or_from (is_any_pass (f x)) (list_any is_any_pass (map f xs)) (k x) (none_map f xs k)

none_append : (xs ys : List WorldEvent) → HasNoPass xs → HasNoPass ys → HasNoPass (xs ++ ys)
none_append [] ys p q = q
none_append (x ∷ xs) ys p q =
    let a = or_parts (is_any_pass x) (list_any is_any_pass xs) p in
    or_from (is_any_pass x) (list_any is_any_pass (xs ++ ys)) a.0 (none_append xs ys a.1 q)

none_drop : (ds : List WorldEvent) → HasNoPass ds → HasNoPass (drop 1 ds)
none_drop [] p = refl
none_drop (x ∷ xs) p = (or_parts (is_any_pass x) (list_any is_any_pass xs) p).1

none_flat : (f : ℕ → List WorldEvent) (xs : List ℕ) → ((x : ℕ) → HasNoPass (f x)) → HasNoPass (flat_map f xs)
none_flat f [] k = refl
none_flat f (x ∷ xs) k = none_append (f x) (flat_map f xs) (k x) (none_flat f xs k)

none_drops : (t : ℕ) (w : List WorldEvent) → HasNoPass (drops_due t w)
none_drops t w = none_map (λ n. Phaser n (Drop t)) (phasers_of t w) (λ n. refl)

none_end : (b : Bool) (t f : ℕ) → HasNoPass (cond b (Finish 0 Shutting) (Finish f (Ended t)) ∷ [])
none_end true t f = refl
none_end false t f = refl

none_ending : (t : ℕ) (w : List WorldEvent) → HasNoPass (ending t w)
none_ending t w =
    let shuts = map (λ f. Finish f Shutting) (open_finishes t w) in
    none_append (drops_due t w ++ shuts) (cond (t == 0) (Finish 0 Shutting) (Finish (home t w) (Ended t)) ∷ [])
    (none_append (drops_due t w) shuts (none_drops t w) (none_map (λ f. Finish f Shutting) (open_finishes t w) (λ f. refl)))
    (none_end (t == 0) t (home t w))

none_fixed_by : (t : ℕ) (b : Begun) (w : List WorldEvent) → is_turn b ≡ false → HasNoPass (fixed_by t b w)
none_fixed_by t (Async x ps) w k =
    none_append (map (λ p. Phaser p.phaser (Reg t x p.mode)) ps) (Finish (inner t w) (Spawned x) ∷ []) (none_map (λ p. Phaser p.phaser (Reg t x p.mode)) ps (λ p. refl)) refl
none_fixed_by t Signal w k = none_map (λ n. Phaser n (Sig t None)) (filter (λ n. is_behind t (phaser_past n w)) (phasers_of t w)) (λ n. refl)
none_fixed_by t Shut w k =
    let ns = filter (λ n. enclosing n w == inner t w) (phasers_of t w) in
    none_append (map (λ n. Phaser n (Drop t)) ns) (Finish (inner t w) Shutting ∷ []) (none_map (λ n. Phaser n (Drop t)) ns (λ n. refl)) refl
none_fixed_by t End w k = none_ending t w
none_fixed_by t b w k = absurd cc

none_fixed : (t : ℕ) (e : WorldEvent) (w : List WorldEvent) → is_entry t e ≡ true → not (begins_turn (Some e)) ≡ true → HasNoPass (fixed e w)
none_fixed t (Begin u b) w n k = none_fixed_by u b w (not-true (is_turn b) k)
none_fixed t (Refuse u a x) w n k = none_ending u w
none_fixed t (Fail u x) w n k = none_append (flat_map (λ y. drops_due y w) (unborn u w)) (ending u w) (none_flat (λ y. drops_due y w) (unborn u w) (λ y. none_drops y w)) (none_ending u w)
none_fixed t (Phaser m s) w n k = refl
none_fixed t (Finish f s) w n k = refl

pub passless : (l : Limits) (t : ℕ) (w : List WorldEvent) → is_legal_world l w ≡ true → not (begins_turn (last_entry t w)) ≡ true → HasNoPass (due t w)
passless l t w k s = due_has l t (λ o. not (begins_turn o)) HasNoPass refl none_drop (λ e v h x y. none_fixed t e v x y) w k s

pass_of : (b c : Bool) (m u n t : ℕ) → cond b (Phaser m (Claim u)) (cond c (Phaser m (Did u)) (Phaser m (Pass u))) ≡ Phaser n (Pass t) → Phaser m (Pass u) ≡ Phaser n (Pass t)
pass_of true c m u n t k = absurd cc
pass_of false true m u n t k = absurd cc
pass_of false false m u n t k = k

pass_due : (l : Limits) (w : List WorldEvent) (d : WorldEvent) (n t : ℕ) → or_single l w d ≡ Phaser n (Pass t) → d ≡ Phaser n (Pass t)
pass_due l w (Phaser m (Pass u)) n t k = pass_of (is_permitted l (terms_of m w) (phaser_past m w) (Claimed u)) (is_permitted l (terms_of m w) (phaser_past m w) (Done u)) m u n t k
pass_due l w d n t k = k

-- a pass is made in a turn, and is what is due
pub record IsPassing (n t : ℕ) (w : List WorldEvent) : Type 0 where
  pub turn : begins_turn (last_entry t w) ≡ true
  pub rest : List WorldEvent
  pub here : due t w ≡ Phaser n (Pass t) ∷ rest

pub passing : (l : Limits) (w : List WorldEvent) (n t : ℕ) → is_legal_world l w ≡ true → is_accepted l w (Phaser n (Pass t)) ≡ true → IsPassing n t w
passing l w n t k a =
    let e = Phaser n (Pass t) in
    let first : First l w (due t w) e = first_due l w e (part_made l w e a).0 in
    let here : due t w ≡ e ∷ first.rest = subst (λ d. due t w ≡ d ∷ first.rest) (pass_due l w first.due n t first.stands) first.is in
    record {
      turn = elim (cases_Bool (begins_turn (last_entry t w))) [
        | inl q ↦ q
        | inr q ↦ absurd (true≢false (subst HasNoPass here (passless l t w k (ap (λ b. not b) q))))
      ];
      rest = first.rest;
      here = here;
    }

-- without an entry nothing is due
pub no_entry_due : (t : ℕ) (w : List WorldEvent) → last_entry t w ≡ None → due t w ≡ []
no_entry_due t [] k = refl
no_entry_due t (e ∷ w) k =
    (elim (cases_Bool (is_entry t e)) as (λ x. last_entry t (e ∷ w) ≡ None → due t (e ∷ w) ≡ []) [
      | inl n ↦ rw n (λ r. absurd (some_none e r))
      | inr n ↦ rw n (λ r. rw (no_entry_due t w r) (elim (actor w e == t && not (is_of_single e)) as (λ b. cond b (drop {A = WorldEvent} 1 []) [] ≡ []) [ true ↦ refl | false ↦ refl ]))
    ]) k
  where
    some_none : (d : WorldEvent) → Some d ≡ None → ⊥
    some_none d h = absurd cc

idle_born : (b e d : Bool) → (b && not e && d) ≡ true → b ≡ true
idle_born true e d k = refl
idle_born false e d k = absurd cc

pub idle_is_born : (t : ℕ) (w : List WorldEvent) → is_idle t w ≡ true → is_born t w ≡ true
idle_is_born t w k = idle_born (is_born t w) (is_ended t w) (is_empty (due t w)) k

born_later : (t : ℕ) (e : WorldEvent) (w : List WorldEvent) → is_born t (e ∷ w) ≡ false → is_born t w ≡ false
born_later t e w h =
    let p = or_parts (t == 0) (spawns t e || list_any (spawns t) w) h in
    or_from (t == 0) (list_any (spawns t) w) p.0 (or_parts (spawns t e) (list_any (spawns t) w) p.1).1

-- a task without an entry fails only in an idle moment
pub fail_born : (l : Limits) (w : List WorldEvent) (t n : ℕ) → due t w ≡ [] → may_fail l w t n ≡ true → is_idle t w ≡ true
fail_born l w t n d k = last_part ((n == 7) || (n == 15)) (n == 14) (n == 23) (is_idle t w) (next_event l t w) (ap (λ ds. option_map (or_single l w) (slice_get ds 0)) d) k
  where
    last_part : (x y z i : Bool) (o : Option WorldEvent) → o ≡ None
        → (((x && option_map_or (λ e. is_refused_by n (next_done l w e)) o false) || (y && option_map_or is_reg o false)) || (z && i)) ≡ true → i ≡ true
    last_part x y z i o e h = only x y z i (subst (λ p. (((x && option_map_or (λ e. is_refused_by n (next_done l w e)) p false) || (y && option_map_or is_reg p false)) || (z && i)) ≡ true) e h)
      where
        only : (x y z i : Bool) → (((x && false) || (y && false)) || (z && i)) ≡ true → i ≡ true
        only x y z true h = refl
        only true true true false h = absurd cc
        only true true false false h = absurd cc
        only true false true false h = absurd cc
        only true false false false h = absurd cc
        only false true true false h = absurd cc
        only false true false false h = absurd cc
        only false false true false h = absurd cc
        only false false false false h = absurd cc

pub entry_born : (l : Limits) (w : List WorldEvent) (t : ℕ) (e : WorldEvent) → is_accepted l w e ≡ true → is_entry t e ≡ true → last_entry t w ≡ None → is_born t w ≡ true
entry_born l w t (Begin u b) a n s = subst (λ v. is_born v w ≡ true) (eqb-true u t n) (idle_is_born u w (idle_in_act l w u (Beginning b) a))
entry_born l w t (Refuse u b x) a n s = subst (λ v. is_born v w ≡ true) (eqb-true u t n) (idle_is_born u w (refuse_idle l w u b x (made_done_where _ a)))
entry_born l w t (Fail u x) a n s =
    let same : u ≡ t = eqb-true u t n in
    idle_is_born t w (fail_born l w t x (no_entry_due t w s) (subst (λ v. may_fail l w v x ≡ true) same (made_done_where (may_fail l w u x) a)))
entry_born l w t (Phaser m r) a n s = absurd cc
entry_born l w t (Finish f r) a n s = absurd cc

-- a task that isn't born has no entry
pub unborn_none : (l : Limits) (t : ℕ) (w : List WorldEvent) → is_legal_world l w ≡ true → is_born t w ≡ false → last_entry t w ≡ None
unborn_none l t [] k b = refl
unborn_none l t (e ∷ w) k b =
    let a = last_accepted l e w k in
    let before : last_entry t w ≡ None = unborn_none l t w a.1 (born_later t e w b) in
    elim (cases_Bool (is_entry t e)) [
      | inl n ↦ absurd (true≢false (sym (entry_born l w t e a.0 n before) ∙ born_later t e w b))
      | inr n ↦ rw n before
    ]

-- who was registered was named
pub registered_named : (l : Limits) (t n : ℕ) (w : List WorldEvent) → is_legal_world l w ≡ true → is_registered t (phaser_past n w) ≡ true → is_named t w ≡ true
registered_named l t n [] k r = absurd cc
registered_named l t n (e ∷ w) k r =
    let a = last_accepted l e w k in
    elim (cases_Bool (is_registered t (phaser_past n w))) [
      | inl b ↦ named_later t e w (registered_named l t n w a.1 b)
      | inr b ↦ named_later t e w (by_step e a.0 b r)
    ]
  where
    in_step : (m : ℕ) (v : Event) → is_registered t (phaser_past n w) ≡ false → is_registered t (cond (m == n) (v ∷ phaser_past n w) (phaser_past n w)) ≡ true → registers t v ≡ true
    in_step m v b h =
        (elim (m == n) as (λ c. is_registered t (cond c (v ∷ phaser_past n w) (phaser_past n w)) ≡ true → registers t v ≡ true) [
          | true ↦ λ g. elim (or_cases (registers t v) (is_registered t (phaser_past n w)) g) [ inl x ↦ x | inr x ↦ absurd (true≢false (sym x ∙ b)) ]
          | false ↦ λ g. absurd (true≢false (sym g ∙ b))
        ]) h

    by_step : (d : WorldEvent) → is_accepted l w d ≡ true → is_registered t (phaser_past n w) ≡ false → is_registered t (phaser_past n (d ∷ w)) ≡ true → is_named t w ≡ true
    by_step (Phaser m (Make u mode terms)) h b g =
        subst (λ v. is_named v w ≡ true) (eqb-true u t (in_step m (Made u mode) b g)) (born_named l u w (last_accepted l e w k).1 (idle_is_born u w (idle_in_act l w u (New m mode terms) h)))
    by_step (Phaser m (Reg q u mode)) h b g =
        let kw = (last_accepted l e w k).1 in
        subst (λ v. is_named v w ≡ true) (eqb-true u t (in_step m (Registered q u mode) b g)) (named_by_spawn l q u w kw (registering l w m q u mode kw h).begun).0
    by_step (Phaser m s) h b g = absurd (true≢false (sym (in_step m (event_for (terms_of n w) (phaser_past n w) s) b g)))
    by_step d h b g = absurd (true≢false (sym g ∙ b))
