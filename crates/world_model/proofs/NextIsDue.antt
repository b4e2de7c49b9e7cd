-- The event that continues an act is the first due, or comes before the pass that is.
use Rattle.std.proofs.Common.{◌≡◌, ℕ, Bool, true, false, ◌==◌, not, cond, List, [], ◌∷◌, ◌++◌, map, Option, Some, None, refl, ◌∙◌}
use Rattle.std.specs.Prelude.{drop, slice_get, option_map, flat_map}
use Rattle.std.specs.List.{list_any}
use Rattle.std.proofs.lemmas.Bool.{or_from, or_parts, not-true}
use Rattle.phase_modes.specs.declared.limits.Limits.{Limits}
use Rattle.finish_core.specs.declared.event.FinishEvent.TheVariants.{Spawned, Ended, Shut as Shutting}
use Rattle.world_model.specs.declared.event.Step.TheVariants.{Reg, Sig, Pass, Drop}
use Rattle.world_model.specs.declared.event.Begun.{Begun}
use Rattle.world_model.specs.declared.event.Begun.TheVariants.{Async, Signal, Wait, Next, NextSingle, Shut, End}
use Rattle.world_model.specs.declared.event.WorldEvent.{WorldEvent}
use Rattle.world_model.specs.declared.event.WorldEvent.TheVariants.{Phaser, Finish, Begin, Refuse, Fail}
use Rattle.world_model.specs.Parts.{phaser_past}
use Rattle.world_model.specs.Scopes.{inner, open_finishes, enclosing}
use Rattle.world_model.specs.Tasks.{home, phasers_of}
use Rattle.world_model.specs.Actors.{actor}
use Rattle.world_model.specs.Due.{due, fixed, fixed_by, ending, unborn, is_entry, next_event, or_single, signals_due, passes_due, drops_due, is_behind}
use Rattle.world_model.specs.Replies.{is_legal_world}
use Rattle.world_model.specs.Continuing.{same_event}
use Rattle.world_model.specs.TaskConditions.{last_entry}
use Rattle.world_model.proofs.MadeMeans.{IsNext}
use Rattle.world_model.proofs.AbleComputed.{same_events, found}
use Rattle.world_model.proofs.DueHolds.{due_has}
use Rattle.world_model.proofs.SpawnUnderWay.{begins_spawn, is_child_event}
use Rattle.std.specs.Prelude.{filter}

-- the first of what is due, and the event that it stands for
pub record First (l : Limits) (w : List WorldEvent) (ds : List WorldEvent) (e : WorldEvent) : Type 0 where
  pub due : WorldEvent
  pub rest : List WorldEvent
  pub is : ds ≡ due ∷ rest
  pub stands : or_single l w due ≡ e

first_of_list : (l : Limits) (w ds : List WorldEvent) (e d : WorldEvent)
    → option_map (or_single l w) (slice_get ds 0) ≡ Some d → d ≡ e → First l w ds e
first_of_list l w [] e d k s = absurd cc
first_of_list l w (x ∷ xs) e d k s =
    record { due = x; rest = xs; is = refl; stands = some_same (or_single l w x) d k ∙ s }
  where
    some_same : (a b : WorldEvent) → Some a ≡ Some b → a ≡ b
    some_same a b h = cc

pub first_due : (l : Limits) (w : List WorldEvent) (e : WorldEvent) → IsNext l w e
    → First l w (due (actor w e) w) e
first_due l w e k =
    let f = found (λ d. same_event d e) (next_event l (actor w e) w) k in
    first_of_list l w (due (actor w e) w) e f.0 f.1 (same_events f.0 e f.2)

-- no child is spawned here
abbrev pub IsChildless : ℕ → List WorldEvent → Type 0
IsChildless c ds = list_any (is_child_event c) ds ≡ false

none_map : {X : Type 0} (c : ℕ) (f : X → WorldEvent) (xs : List X)
    → ((x : X) → is_child_event c (f x) ≡ false) → IsChildless c (map f xs)
none_map c f [] k = refl
none_map c f (x ∷ xs) k =
    or_from (is_child_event c (f x)) (list_any (is_child_event c) (map f xs)) (k x) (none_map c f xs k)

none_append : (c : ℕ) (xs ys : List WorldEvent) → IsChildless c xs → IsChildless c ys
    → IsChildless c (xs ++ ys)
none_append c [] ys p q = q
none_append c (x ∷ xs) ys p q =
    let a = or_parts (is_child_event c x) (list_any (is_child_event c) xs) p in
    or_from (is_child_event c x) (list_any (is_child_event c) (xs ++ ys)) a.0 (none_append c xs ys a.1 q)

none_drop : (c : ℕ) (ds : List WorldEvent) → IsChildless c ds → IsChildless c (drop 1 ds)
none_drop c [] p = refl
none_drop c (x ∷ xs) p = (or_parts (is_child_event c x) (list_any (is_child_event c) xs) p).1

none_flat : (c : ℕ) (f : ℕ → List WorldEvent) (xs : List ℕ) → ((x : ℕ) → IsChildless c (f x))
    → IsChildless c (flat_map f xs)
none_flat c f [] k = refl
none_flat c f (x ∷ xs) k = none_append c (f x) (flat_map f xs) (k x) (none_flat c f xs k)

none_signals : (c t : ℕ) (x : Option ℕ) (w : List WorldEvent) → IsChildless c (signals_due t x w)
none_signals c t x w =
    none_map c (λ n. Phaser n (Sig t x))
    (filter (λ n. is_behind t (phaser_past n w)) (phasers_of t w)) (λ n. refl)

none_passes : (c t : ℕ) (w : List WorldEvent) → IsChildless c (passes_due t w)
none_passes c t w = none_map c (λ n. Phaser n (Pass t)) (phasers_of t w) (λ n. refl)

none_drops : (c t : ℕ) (w : List WorldEvent) → IsChildless c (drops_due t w)
none_drops c t w = none_map c (λ n. Phaser n (Drop t)) (phasers_of t w) (λ n. refl)

none_end : (c : ℕ) (b : Bool) (t f : ℕ) → IsChildless c (cond b (Finish 0 Shutting) (Finish f (Ended t)) ∷ [])
none_end c true t f = refl
none_end c false t f = refl

none_ending : (c t : ℕ) (w : List WorldEvent) → IsChildless c (ending t w)
none_ending c t w =
    let shuts = map (λ f. Finish f Shutting) (open_finishes t w) in
    none_append c (drops_due t w ++ shuts)
    (cond (t == 0) (Finish 0 Shutting) (Finish (home t w) (Ended t)) ∷ [])
    (none_append c (drops_due t w) shuts (none_drops c t w)
    (none_map c (λ f. Finish f Shutting) (open_finishes t w) (λ f. refl)))
    (none_end c (t == 0) t (home t w))

none_fixed_by : (c t : ℕ) (b : Begun) (w : List WorldEvent) → begins_spawn c (Some (Begin t b)) ≡ false
    → IsChildless c (fixed_by t b w)
none_fixed_by c t (Async x ps) w k =
    none_append c (map (λ p. Phaser p.phaser (Reg t x p.mode)) ps) (Finish (inner t w) (Spawned x) ∷ [])
    (none_map c (λ p. Phaser p.phaser (Reg t x p.mode)) ps (λ p. k)) (rw k refl)
none_fixed_by c t Signal w k = none_signals c t None w
none_fixed_by c t Wait w k = none_passes c t w
none_fixed_by c t Next w k =
    none_append c (signals_due t None w) (passes_due t w) (none_signals c t None w) (none_passes c t w)
none_fixed_by c t (NextSingle n) w k =
    none_append c (signals_due t (Some n) w) (passes_due t w) (none_signals c t (Some n) w)
    (none_passes c t w)
none_fixed_by c t Shut w k =
    let ns = filter (λ n. enclosing n w == inner t w) (phasers_of t w) in
    none_append c (map (λ n. Phaser n (Drop t)) ns) (Finish (inner t w) Shutting ∷ [])
    (none_map c (λ n. Phaser n (Drop t)) ns (λ n. refl)) refl
none_fixed_by c t End w k = none_ending c t w

none_fixed : (c t : ℕ) (e : WorldEvent) (w : List WorldEvent) → is_entry t e ≡ true
    → not (begins_spawn c (Some e)) ≡ true → IsChildless c (fixed e w)
none_fixed c t (Begin u b) w n k = none_fixed_by c u b w (not-true (begins_spawn c (Some (Begin u b))) k)
none_fixed c t (Refuse u a n) w e k = none_ending c u w
none_fixed c t (Fail u n) w e k =
    none_append c (flat_map (λ x. drops_due x w) (unborn u w)) (ending u w)
    (none_flat c (λ x. drops_due x w) (unborn u w) (λ x. none_drops c x w)) (none_ending c u w)
none_fixed c t (Phaser n s) w e k = refl
none_fixed c t (Finish f s) w e k = refl

-- a spawn of c is due only in the act that began it
pub childless : (l : Limits) (c t : ℕ) (w : List WorldEvent) → is_legal_world l w ≡ true
    → not (begins_spawn c (last_entry t w)) ≡ true → IsChildless c (due t w)
childless l c t w k s =
    due_has l t (λ o. not (begins_spawn c o)) (IsChildless c) refl (none_drop c)
    (λ e v h x y. none_fixed c t e v x y) w k s
