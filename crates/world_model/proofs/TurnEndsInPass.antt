-- What is due in a turn: signals and passes, and a pass at the end.
use Rattle.phase_modes.specs.Lists.{is_empty}
use Rattle.std.proofs.Common.{◌≡◌, ℕ, Bool, true, false, ◌&&◌, ◌||◌, ◌==◌, not, cond, List, [], ◌∷◌, ◌++◌, map, Option, Some, None, refl, subst, inl, inr}
use Rattle.std.specs.Prelude.{drop, filter}
use Rattle.std.proofs.lemmas.Bool.{and_parts, cases_Bool, eqb-true}
use Rattle.world_model.specs.declared.event.Step.TheVariants.{Sig, Pass}
use Rattle.world_model.specs.declared.event.Begun.{Begun}
use Rattle.world_model.specs.declared.event.Begun.TheVariants.{Wait, Next, NextSingle}
use Rattle.world_model.specs.declared.event.WorldEvent.{WorldEvent}
use Rattle.world_model.specs.declared.event.WorldEvent.TheVariants.{Phaser, Finish, Begin, Refuse, Fail}
use Rattle.world_model.specs.Parts.{phaser_past}
use Rattle.world_model.specs.Tasks.{phasers_of}
use Rattle.world_model.specs.Actors.{actor}
use Rattle.world_model.specs.Due.{due, fixed, fixed_by, is_entry, is_of_single, is_behind}
use Rattle.world_model.specs.Clock.{is_turn}
use Rattle.world_model.specs.TaskConditions.{last_entry}
use Rattle.world_model.specs.ClockLaws.{begins_turn}
use Rattle.world_model.proofs.SmallWords.{eq_self}

abbrev pub is_pass : ℕ → WorldEvent → Bool
is_pass t (Phaser n (Pass u)) = u == t
is_pass t _ = false

abbrev pub is_sig : ℕ → WorldEvent → Bool
is_sig t (Phaser n (Sig u x)) = u == t
is_sig t _ = false

-- passes of t, and signals of t that something follows
abbrev pub is_turn_list : ℕ → List WorldEvent → Bool
is_turn_list t [] = true
is_turn_list t (d ∷ ds) = (is_pass t d || (is_sig t d && not (is_empty ds))) && is_turn_list t ds

passes_turn : (t : ℕ) (ns : List ℕ) → is_turn_list t (map (λ n. Phaser n (Pass t)) ns) ≡ true
passes_turn t [] = refl
passes_turn t (n ∷ ns) = rw (eq_self t) (passes_turn t ns)

not_empty_after : (xs : List WorldEvent) (y : WorldEvent) (ys : List WorldEvent)
    → is_empty (xs ++ y ∷ ys) ≡ false
not_empty_after [] y ys = refl
not_empty_after (x ∷ xs) y ys = refl

signals_turn : (t : ℕ) (x : Option ℕ) (ns : List ℕ) (y : WorldEvent) (ys : List WorldEvent)
    → is_turn_list t (y ∷ ys) ≡ true
    → is_turn_list t (map (λ n. Phaser n (Sig t x)) ns ++ y ∷ ys) ≡ true
signals_turn t x [] y ys k = k
signals_turn t x (n ∷ ns) y ys k =
    rw (eq_self t, not_empty_after (map (λ m. Phaser m (Sig t x)) ns) y ys) (signals_turn t x ns y ys k)

both_turn : (t : ℕ) (x : Option ℕ) (p : ℕ → Bool) (ns : List ℕ)
    → is_turn_list t (map (λ n. Phaser n (Sig t x)) (filter p ns) ++ map (λ n. Phaser n (Pass t)) ns) ≡ true
both_turn t x p [] = refl
both_turn t x p (n ∷ ns) =
    signals_turn t x (filter p (n ∷ ns)) (Phaser n (Pass t)) (map (λ m. Phaser m (Pass t)) ns)
    (passes_turn t (n ∷ ns))

fixed_turn : (t : ℕ) (b : Begun) (w : List WorldEvent) → is_turn b ≡ true
    → is_turn_list t (fixed_by t b w) ≡ true
fixed_turn t Wait w k = passes_turn t (phasers_of t w)
fixed_turn t Next w k = both_turn t None (λ n. is_behind t (phaser_past n w)) (phasers_of t w)
fixed_turn t (NextSingle n) w k = both_turn t (Some n) (λ m. is_behind t (phaser_past m w)) (phasers_of t w)
fixed_turn t b w k = absurd cc

drop_turn : (t : ℕ) (ds : List WorldEvent) → is_turn_list t ds ≡ true → is_turn_list t (drop 1 ds) ≡ true
drop_turn t [] k = refl
drop_turn t (d ∷ ds) k =
    (and_parts (is_pass t d || (is_sig t d && not (is_empty ds))) (is_turn_list t ds) k).1

-- what is due before and after an event that is no entry
cond_turn : (t : ℕ) (b : Bool) (ds : List WorldEvent) → is_turn_list t ds ≡ true
    → is_turn_list t (cond b (drop 1 ds) ds) ≡ true
cond_turn t true ds k = drop_turn t ds k
cond_turn t false ds k = k

rest_turn : (t : ℕ) (e : WorldEvent) (w : List WorldEvent) → is_entry t e ≡ false
    → (begins_turn (last_entry t w) ≡ true → is_turn_list t (due t w) ≡ true)
    → begins_turn (last_entry t (e ∷ w)) ≡ true → is_turn_list t (due t (e ∷ w)) ≡ true
rest_turn t e w n h =
    rw n (λ k. cond_turn t (actor w e == t && not (is_of_single e)) (due t w) (h k))

entry_turn : (t : ℕ) (e : WorldEvent) (w : List WorldEvent) → is_entry t e ≡ true
    → begins_turn (Some e) ≡ true → is_turn_list t (fixed e w) ≡ true
entry_turn t (Begin u b) w e k =
    subst (λ v. is_turn_list v (fixed_by u b w) ≡ true) (eqb-true u t e) (fixed_turn u b w k)
entry_turn t (Refuse u a n) w e k = absurd cc
entry_turn t (Fail u n) w e k = absurd cc
entry_turn t (Phaser n s) w e k = absurd cc
entry_turn t (Finish f s) w e k = absurd cc

-- in a turn, what is due is a turn's
pub due_turn : (t : ℕ) (w : List WorldEvent) → begins_turn (last_entry t w) ≡ true
    → is_turn_list t (due t w) ≡ true
due_turn t [] k = absurd cc
due_turn t (e ∷ w) k =
    (elim (cases_Bool (is_entry t e))
    as (λ x. begins_turn (last_entry t (e ∷ w)) ≡ true → is_turn_list t (due t (e ∷ w)) ≡ true) [
      | inl h ↦ rw h (entry_turn t e w h)
      | inr h ↦ rest_turn t e w h (due_turn t w)
    ]) k
