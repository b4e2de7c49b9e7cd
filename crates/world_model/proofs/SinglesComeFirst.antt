-- No claim and no report is due by itself: each comes before a pass.
use Rattle.std.proofs.Common.{◌≡◌, ℕ, Bool, true, false, ◌&&◌, not, cond, List, [], ◌∷◌, ◌++◌, map, Option, Some, None, refl, subst}
use Rattle.std.specs.Prelude.{drop, slice_get, flat_map}
use Rattle.std.specs.List.{list_all}
use Rattle.std.proofs.lemmas.Bool.{and_parts, and_from}
use Rattle.finish_core.specs.declared.event.FinishEvent.TheVariants.{Spawned, Ended, Shut as Shutting}
use Rattle.world_model.specs.declared.event.Step.TheVariants.{Reg, Sig, Pass, Drop}
use Rattle.world_model.specs.declared.event.Begun.{Begun}
use Rattle.world_model.specs.declared.event.Begun.TheVariants.{Async, Signal, Wait, Next, NextSingle, Shut, End}
use Rattle.world_model.specs.declared.event.WorldEvent.{WorldEvent}
use Rattle.world_model.specs.declared.event.WorldEvent.TheVariants.{Phaser, Finish, Begin, Refuse, Fail}
use Rattle.world_model.specs.Tasks.{home, phasers_of}
use Rattle.world_model.specs.Scopes.{open_finishes, inner, enclosing}
use Rattle.world_model.specs.Actors.{actor}
use Rattle.world_model.specs.Due.{due, fixed, fixed_by, ending, is_entry, is_of_single, signals_due, passes_due, drops_due, unborn, is_behind}
use Rattle.world_model.specs.Parts.{phaser_past}
use Rattle.std.specs.Prelude.{◌==◌, filter}

abbrev pub is_plain : WorldEvent → Bool
is_plain e = not (is_of_single e)

abbrev pub AllPlain : List WorldEvent → Type 0
AllPlain ds = list_all is_plain ds ≡ true

plain_map : {X : Type 0} (f : X → WorldEvent) (xs : List X) → ((x : X) → is_plain (f x) ≡ true)
    → AllPlain (map f xs)
plain_map f [] k = refl
plain_map f (x ∷ xs) k = and_from (is_plain (f x)) (list_all is_plain (map f xs)) (k x) (plain_map f xs k)

plain_append : (xs ys : List WorldEvent) → AllPlain xs → AllPlain ys → AllPlain (xs ++ ys)
plain_append [] ys p q = q
plain_append (x ∷ xs) ys p q =
    let a = and_parts (is_plain x) (list_all is_plain xs) p in
    and_from (is_plain x) (list_all is_plain (xs ++ ys)) a.0 (plain_append xs ys a.1 q)

plain_drop : (xs : List WorldEvent) → AllPlain xs → AllPlain (drop 1 xs)
plain_drop [] p = refl
plain_drop (x ∷ xs) p = (and_parts (is_plain x) (list_all is_plain xs) p).1

plain_flat : (f : ℕ → List WorldEvent) (xs : List ℕ) → ((x : ℕ) → AllPlain (f x)) → AllPlain (flat_map f xs)
plain_flat f [] k = refl
plain_flat f (x ∷ xs) k = plain_append (f x) (flat_map f xs) (k x) (plain_flat f xs k)

plain_signals : (t : ℕ) (x : Option ℕ) (w : List WorldEvent) → AllPlain (signals_due t x w)
plain_signals t x w =
    plain_map (λ n. Phaser n (Sig t x))
    (filter (λ n. is_behind t (phaser_past n w)) (phasers_of t w)) (λ n. refl)

plain_passes : (t : ℕ) (w : List WorldEvent) → AllPlain (passes_due t w)
plain_passes t w = plain_map (λ n. Phaser n (Pass t)) (phasers_of t w) (λ n. refl)

plain_drops : (t : ℕ) (w : List WorldEvent) → AllPlain (drops_due t w)
plain_drops t w = plain_map (λ n. Phaser n (Drop t)) (phasers_of t w) (λ n. refl)

plain_end : (b : Bool) (t f : ℕ) → AllPlain (cond b (Finish 0 Shutting) (Finish f (Ended t)) ∷ [])
plain_end true t f = refl
plain_end false t f = refl

plain_ending : (t : ℕ) (w : List WorldEvent) → AllPlain (ending t w)
plain_ending t w =
    let shuts = map (λ f. Finish f Shutting) (open_finishes t w) in
    let last = cond (t == 0) (Finish 0 Shutting) (Finish (home t w) (Ended t)) ∷ [] in
    plain_append (drops_due t w ++ shuts) last
    (plain_append (drops_due t w) shuts (plain_drops t w)
    (plain_map (λ f. Finish f Shutting) (open_finishes t w) (λ f. refl)))
    (plain_end (t == 0) t (home t w))

plain_fixed_by : (t : ℕ) (b : Begun) (w : List WorldEvent) → AllPlain (fixed_by t b w)
plain_fixed_by t (Async c pairs) w =
    plain_append (map (λ p. Phaser p.phaser (Reg t c p.mode)) pairs) (Finish (inner t w) (Spawned c) ∷ [])
    (plain_map (λ p. Phaser p.phaser (Reg t c p.mode)) pairs (λ p. refl)) refl
plain_fixed_by t Signal w = plain_signals t None w
plain_fixed_by t Wait w = plain_passes t w
plain_fixed_by t Next w =
    plain_append (signals_due t None w) (passes_due t w) (plain_signals t None w) (plain_passes t w)
plain_fixed_by t (NextSingle n) w =
    plain_append (signals_due t (Some n) w) (passes_due t w) (plain_signals t (Some n) w) (plain_passes t w)
plain_fixed_by t Shut w =
    let ns = filter (λ n. enclosing n w == inner t w) (phasers_of t w) in
    plain_append (map (λ n. Phaser n (Drop t)) ns) (Finish (inner t w) Shutting ∷ [])
    (plain_map (λ n. Phaser n (Drop t)) ns (λ n. refl)) refl
plain_fixed_by t End w = plain_ending t w

plain_fixed : (e : WorldEvent) (w : List WorldEvent) → AllPlain (fixed e w)
plain_fixed (Begin t b) w = plain_fixed_by t b w
plain_fixed (Refuse t a n) w = plain_ending t w
plain_fixed (Fail t n) w =
    plain_append (flat_map (λ c. drops_due c w) (unborn t w)) (ending t w)
    (plain_flat (λ c. drops_due c w) (unborn t w) (λ c. plain_drops c w)) (plain_ending t w)
plain_fixed (Phaser n s) w = refl
plain_fixed (Finish f e) w = refl

plain_cond : (b : Bool) (xs ys : List WorldEvent) → AllPlain xs → AllPlain ys → AllPlain (cond b xs ys)
plain_cond true xs ys p q = p
plain_cond false xs ys p q = q

pub plain_due : (t : ℕ) (w : List WorldEvent) → AllPlain (due t w)
plain_due t [] = refl
plain_due t (e ∷ w) =
    plain_cond (is_entry t e) (fixed e w)
    (cond (actor w e == t && not (is_of_single e)) (drop 1 (due t w)) (due t w)) (plain_fixed e w)
    (plain_cond (actor w e == t && not (is_of_single e)) (drop 1 (due t w)) (due t w)
    (plain_drop (due t w) (plain_due t w)) (plain_due t w))

-- the first that is due
pub plain_first : (ds : List WorldEvent) → AllPlain ds → (d : WorldEvent) → slice_get ds 0 ≡ Some d
    → is_plain d ≡ true
plain_first [] p d k = absurd cc
plain_first (x ∷ xs) p d k =
    subst (λ e. is_plain e ≡ true) (some_same x d k) (and_parts (is_plain x) (list_all is_plain xs) p).0
  where
    some_same : (x d : WorldEvent) → Some x ≡ Some d → x ≡ d
    some_same x d k = cc
