-- What continues an act is never itself the begin of one.
use Rattle.std.proofs.Common.{ℕ, ◌≡◌, Bool, true, false, ◌&&◌, ◌==◌, not, if◌then◌else◌, List, [], ◌∷◌, ◌++◌, map, Option, Some, None, refl, subst}
use Rattle.std.specs.Prelude.{drop, filter, flat_map, slice_get, option_map, is_some}
use Rattle.std.proofs.lemmas.Bool.{and_from, and_parts, not-true}
use Rattle.phase_modes.specs.declared.limits.Limits.{Limits}
use Rattle.phase_modes.specs.declared.phased.Pair.{Pair}
use Rattle.phase_model.specs.declared.history.Event.TheVariants.{Claim as Claimed, Did as Done}
use Rattle.phase_model.specs.Rules.{is_permitted}
use Rattle.finish_core.specs.declared.event.FinishEvent.TheVariants.{Spawned, Ended, Shut as Shutting}
use Rattle.world_model.specs.declared.event.Step.TheVariants.{Reg, Sig, Claim, Did, Pass, Drop}
use Rattle.world_model.specs.declared.event.Begun.{Begun}
use Rattle.world_model.specs.declared.event.Begun.TheVariants.{Async, Signal, Wait, Next, NextSingle, Shut, End}
use Rattle.world_model.specs.declared.event.WorldEvent.{WorldEvent}
use Rattle.world_model.specs.declared.event.WorldEvent.TheVariants.{Phaser, Finish, Begin, Refuse, Fail}
use Rattle.world_model.specs.Parts.{phaser_past, terms_of}
use Rattle.world_model.specs.Scopes.{open_finishes, inner, enclosing}
use Rattle.world_model.specs.Tasks.{phasers_of, home}
use Rattle.world_model.specs.Actors.{actor}
use Rattle.world_model.specs.Due.{due, fixed, fixed_by, ending, is_entry, is_of_single, is_behind, unborn, drops_due, signals_due, passes_due, or_single, next_event}
use Rattle.trace_walk.specs.Scripts.{Made, act_of}

-- no event of the list is the first of an act
abbrev pub continue_only : List WorldEvent → Bool
continue_only [] = true
continue_only (d ∷ ds) = not (is_some (act_of d)) && continue_only ds

joined : (xs ys : List WorldEvent) → continue_only xs ≡ true → continue_only ys ≡ true → continue_only (xs ++ ys) ≡ true
joined [] ys h k = k
joined (x ∷ xs) ys h k =
    let p = and_parts (not (is_some (act_of x))) (continue_only xs) h in
    and_from (not (is_some (act_of x))) (continue_only (xs ++ ys)) p.0 (joined xs ys p.1 k)

fewer : (ds : List WorldEvent) → continue_only ds ≡ true → continue_only (drop 1 ds) ≡ true
fewer [] h = refl
fewer (d ∷ ds) h = (and_parts (not (is_some (act_of d))) (continue_only ds) h).1

-- ---- what an entry fixes

registrations : (t c : ℕ) (ps : List Pair) → continue_only (map (λ p. Phaser p.phaser (Reg t c p.mode)) ps) ≡ true
registrations t c [] = refl
registrations t c (p ∷ ps) = registrations t c ps

signals : (t : ℕ) (x : Option ℕ) (ns : List ℕ) → continue_only (map (λ n. Phaser n (Sig t x)) ns) ≡ true
signals t x [] = refl
signals t x (n ∷ ns) = signals t x ns

passes : (t : ℕ) (ns : List ℕ) → continue_only (map (λ n. Phaser n (Pass t)) ns) ≡ true
passes t [] = refl
passes t (n ∷ ns) = passes t ns

drops : (t : ℕ) (ns : List ℕ) → continue_only (map (λ n. Phaser n (Drop t)) ns) ≡ true
drops t [] = refl
drops t (n ∷ ns) = drops t ns

shuts : (fs : List ℕ) → continue_only (map (λ f. Finish f Shutting) fs) ≡ true
shuts [] = refl
shuts (f ∷ fs) = shuts fs

last_of : (b : Bool) (f t : ℕ) → continue_only ((if b then Finish 0 Shutting else Finish f (Ended t)) ∷ []) ≡ true
last_of true f t = refl
last_of false f t = refl

ends : (t : ℕ) (w : List WorldEvent) → continue_only (ending t w) ≡ true
ends t w =
    joined (drops_due t w ++ map (λ f. Finish f Shutting) (open_finishes t w)) ((if t == 0 then Finish 0 Shutting else Finish (home t w) (Ended t)) ∷ [])
    (joined (drops_due t w) (map (λ f. Finish f Shutting) (open_finishes t w)) (drops t (phasers_of t w)) (shuts (open_finishes t w)))
    (last_of (t == 0) (home t w) t)

children : (w : List WorldEvent) (cs : List ℕ) → continue_only (flat_map (λ c. drops_due c w) cs) ≡ true
children w [] = refl
children w (c ∷ cs) = joined (drops_due c w) (flat_map (λ u. drops_due u w) cs) (drops c (phasers_of c w)) (children w cs)

abbrev behind : ℕ → List WorldEvent → List ℕ
behind t w = filter (λ n. is_behind t (phaser_past n w)) (phasers_of t w)

-- the phasers that t leaves with its innermost finish
abbrev inside : ℕ → List WorldEvent → List ℕ
inside t w = filter (λ n. enclosing n w == inner t w) (phasers_of t w)

begun : (t : ℕ) (b : Begun) (w : List WorldEvent) → continue_only (fixed_by t b w) ≡ true
begun t (Async c ps) w = joined (map (λ p. Phaser p.phaser (Reg t c p.mode)) ps) (Finish (inner t w) (Spawned c) ∷ []) (registrations t c ps) refl
begun t Signal w = signals t None (behind t w)
begun t Wait w = passes t (phasers_of t w)
begun t Next w = joined (signals_due t None w) (passes_due t w) (signals t None (behind t w)) (passes t (phasers_of t w))
begun t (NextSingle n) w = joined (signals_due t (Some n) w) (passes_due t w) (signals t (Some n) (behind t w)) (passes t (phasers_of t w))
begun t Shut w =
    joined (map (λ n. Phaser n (Drop t)) (inside t w)) (Finish (inner t w) Shutting ∷ []) (drops t (inside t w)) refl
begun t End w = ends t w

entry : (e : WorldEvent) (w : List WorldEvent) → continue_only (fixed e w) ≡ true
entry (Begin t b) w = begun t b w
entry (Refuse t a n) w = ends t w
entry (Fail t n) w = joined (flat_map (λ c. drops_due c w) (unborn t w)) (ending t w) (children w (unborn t w)) (ends t w)
entry (Phaser n s) w = refl
entry (Finish f e) w = refl

-- ---- what is due

one_of : (b : Bool) (xs ys : List WorldEvent) → continue_only xs ≡ true → continue_only ys ≡ true → continue_only (if b then xs else ys) ≡ true
one_of true xs ys h k = h
one_of false xs ys h k = k

due_continues : (t : ℕ) (w : List WorldEvent) → continue_only (due t w) ≡ true
due_continues t [] = refl
due_continues t (e ∷ w) =
    let before = due_continues t w in
    one_of (is_entry t e) (fixed e w) (if actor w e == t && not (is_of_single e) then drop 1 (due t w) else due t w) (entry e w)
    (one_of (actor w e == t && not (is_of_single e)) (drop 1 (due t w)) (due t w) (fewer (due t w) before) before)

passing : (b c : Bool) (n t : ℕ) → is_some (act_of (if b then Phaser n (Claim t) else (if c then Phaser n (Did t) else Phaser n (Pass t)))) ≡ false
passing true c n t = refl
passing false true n t = refl
passing false false n t = refl

-- a claim and its report are no acts either
with_single : (l : Limits) (w : List WorldEvent) (d : WorldEvent) → is_some (act_of d) ≡ false → is_some (act_of (or_single l w d)) ≡ false
with_single l w (Phaser n (Pass t)) h = passing (is_permitted l (terms_of n w) (phaser_past n w) (Claimed t)) (is_permitted l (terms_of n w) (phaser_past n w) (Done t)) n t
with_single l w d h = h

none_is : (o : Option Made) → is_some o ≡ false → o ≡ None
none_is None h = refl
none_is (Some m) h = absurd cc

first_of : (l : Limits) (w ds : List WorldEvent) (e : WorldEvent) → continue_only ds ≡ true → option_map (or_single l w) (slice_get ds 0) ≡ Some e → is_some (act_of e) ≡ false
first_of l w [] e h k = absurd cc
first_of l w (d ∷ ds) e h k =
    let p = and_parts (not (is_some (act_of d))) (continue_only ds) h in
    subst (λ o. is_some (act_of o) ≡ false) (got (or_single l w d) e k) (with_single l w d (not-true (is_some (act_of d)) p.0))
  where
    got : (x y : WorldEvent) → Some x ≡ Some y → x ≡ y
    got x y h = cc

pub next-continues : (l : Limits) (t : ℕ) (w : List WorldEvent) (e : WorldEvent) → next_event l t w ≡ Some e → act_of e ≡ None
next-continues l t w e k = none_is (act_of e) (first_of l w (due t w) e (due_continues t w) k)
