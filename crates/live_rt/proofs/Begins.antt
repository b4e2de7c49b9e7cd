-- What a task's body asks for by its acts, as they are begun.
use Rattle.std.proofs.Common.{ℕ, ◌≡◌, inl, inr, List, [], map, Some, None, Ok, refl, sym, ap, subst}
use Rattle.phase_modes.specs.declared.phased.Pair.{Pair}
use Rattle.world_model.specs.declared.event.Begun.{Begun}
use Rattle.job_script.specs.declared.act.Act.TheVariants as acts
use Rattle.task_standing.specs.Known.{Known}
use Rattle.task_standing.specs.Standing.{fresh, pair_of}
use Rattle.tasks_in_flight.specs.Said.{Saying}
use Rattle.live_rt.specs.inner.Places.{Spot}
use Rattle.live_rt.specs.inner.Says.{AsksFor, AsksToSpawn, HasStepped, IsUnborn}
use Rattle.live_rt.proofs.About.{unborn_kept, unborn_parents, unborn_spawned}

module _ {B : Type 0} (Shows : Saying B) where
  -- of what has stayed it asks for the same
  pub asks_for_kept : (b b' : B) (begun : Begun) (places places' : List Spot) (k k' : Known) → b' ≡ b → places' ≡ places → k' ≡ k
      → AsksFor Shows b begun places k → AsksFor Shows b' begun places' k'
  asks_for_kept b b' begun places places' k k' body same standing asks =
      subst (λ (x : B). AsksFor Shows x begun places' k') (sym body)
      (subst (λ (ps : List Spot). AsksFor Shows b begun ps k') (sym same)
      (subst (λ (x : Known). AsksFor Shows b begun places x) (sym standing) asks))

  -- who steps by these acts asks for a child
  pub spawns_on : (b child : B) (pairs : List Pair) (places : List Spot) (k : Known)
      → HasStepped Shows b (Ok (acts.Async child pairs)) places k → AsksToSpawn Shows b child pairs places k
  spawns_on b child pairs places k is =
      record { to = Some pairs; same = refl; asks = is.asks; bears = is.bears child (inl (pairs, refl)) }

  pub spawns_on_all : (b child : B) (pairs : List Pair) (places : List Spot) (k : Known) → pairs ≡ map pair_of k.holding
      → HasStepped Shows b (Ok (acts.AsyncAll child)) places k → AsksToSpawn Shows b child pairs places k
  spawns_on_all b child pairs places k same is = record { to = None; same = same; asks = is.asks; bears = is.bears child (inr refl) }

  -- the child, once it is there
  pub unborn_new : (b child : B) (pairs : List Pair) (places : List Spot) (k : Known) (its home : ℕ) (body : B) (standing : Known)
      (places' parents : List Spot) → body ≡ child → standing ≡ fresh its home → places' ≡ [] → parents ≡ places
      → AsksToSpawn Shows b child pairs places k → IsUnborn Shows body standing.number places' parents
  unborn_new b child pairs places k its home body standing places' parents same fresh none stays spawns =
      unborn_kept Shows body its standing.number places' parents same (ap (λ (x : Known). x.number) fresh)
      (subst (λ (ps : List Spot). IsUnborn Shows child its ps parents) (sym none)
      (unborn_parents Shows its [] places parents stays (unborn_spawned Shows b child pairs places k its spawns)))
