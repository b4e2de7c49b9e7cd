-- What calls on phasers answer to a task, by the places that it holds.
use Rattle.std.proofs.Common.{ℕ, ◌≡◌, List, Option, Some, Result, Ok, Err, refl, sym, subst}
use Rattle.std.specs.Prelude.{IfSome}
use Rattle.std.proofs.Math.Logic.{∥∥₁_map}
use Rattle.phase_modes.specs.declared.reg.Mode.{Mode}
use Rattle.phase_modes.specs.declared.refusal.Refusal.{Refusal}
use Rattle.phase_model.specs.declared.call.Call.TheVariants as calls
use Rattle.phase_model.specs.Replies.{done_result, reply}
use Rattle.phase_model.specs.Rules.{Story}
use Rattle.told_history.specs.Stories.{GoesOn}
use Rattle.long_locks.specs.Told.{numbered}
use Rattle.live_tables.specs.declared.noted.SlotNoted.{SlotNoted}
use Rattle.live_tables.specs.Slots.{told_of, IsNumbered}
use Rattle.tasks_in_flight.specs.Heard.{IsOwn}
use Rattle.tasks_in_flight.specs.Said.{Saying}
use Rattle.tasks_in_flight.proofs.Heard.{registration_is_own}
use Rattle.live_rt.specs.inner.Places.{Spot, spot, story_of, in_slot, IsFurther, HaveGoneOn}
use Rattle.live_rt.specs.inner.Says.{IsUnborn}
use Rattle.live_rt.proofs.Seen.{some_map, in_its_slot}
use Rattle.live_rt.proofs.About.{unborn_known}

pub at_slot : (n : ℕ) (places : List Spot) (p : Spot) → in_slot n places ≡ Some p → in_slot p.at.slot places ≡ Some p
at_slot n places p there = subst (λ (m : ℕ). in_slot m places ≡ Some p) (sym (in_its_slot n places p there)) there

-- more was seen of a phaser that is held
pub is_further : (n : ℕ) (places : List Spot) (p : Spot) (items : List SlotNoted) → in_slot n places ≡ Some p
    → GoesOn (story_of p) (told_of p.at.number items) → IsFurther (spot p.at p.me items) places
is_further n places p items there goes = (p, at_slot n places p there, refl, refl, goes)

-- who is answered a number has registered
numbered_ok : (n m : ℕ) (r : Result (Unit {0}) Refusal) → Ok m ≡ numbered n r → Ok tt ≡ r
numbered_ok n m (Ok u) is = refl
numbered_ok n m (Err e) is = absurd (cc is)

pub registered_own : (m t : ℕ) (mode : Mode) (seen now : Story) → IsNumbered (Ok m) (λ n. calls.Register t n mode) seen now → IsOwn t now.past
registered_own m t mode seen now told =
    let it = told.1 in
    registration_is_own seen now t told.0 mode
    (it.0, it.1, numbered_ok told.0 m (done_result (reply it.0 (calls.Register t told.0 mode))) it.2, it.3)

-- what is said of a child that isn't born, where no less is seen by its parent
pub items_go_on : {B C : Type 0} (Shows : Saying B) (P : Type 0) (o : Option C) (body : C → B) (its : C → ℕ) (places : C → List Spot)
    (parents parents' : List Spot) → HaveGoneOn parents parents'
    → ∥ (P → IfSome o (λ c. IsUnborn Shows (body c) (its c) (places c) parents)) ∥₁
    → ∥ (P → IfSome o (λ c. IsUnborn Shows (body c) (its c) (places c) parents')) ∥₁
items_go_on Shows P o body its places parents parents' goes says =
    ∥∥₁_map says (λ f p. some_map (λ c. IsUnborn Shows (body c) (its c) (places c) parents) (λ c. IsUnborn Shows (body c) (its c) (places c) parents') o
    (λ c is. unborn_known Shows {b = body c} (its c) (places c) parents parents' goes is) (f p))
