-- What a body says that has asked for its task's end.
use Rattle.std.proofs.Common.{ℕ, ◌≡◌, List, refl, subst}
use Rattle.world_model.specs.declared.event.Begun.TheVariants.{End}
use Rattle.task_standing.specs.declared.held.Held.{Held}
use Rattle.task_standing.specs.Known.{Known}
use Rattle.tasks_in_flight.specs.Heard as heard
use Rattle.tasks_in_flight.specs.Heard.{Asked, Seen}
use Rattle.tasks_in_flight.specs.Said.{Saying}
use Rattle.tasks_in_flight.specs.inner.Ready.{IsAskedFor}
use Rattle.live_rt.specs.Said.{HasAskedForEnd}
use Rattle.live_rt.specs.inner.Places.{Spot}
use Rattle.live_rt.specs.inner.Says.{AsksFor, seen_as}

-- an end is begun of a task alone whose body has asked for it
asked_end : (hs : List Held) (asked : Asked) → IsAskedFor End hs asked → asked ≡ heard.ends
asked_end hs heard.ends is = refl
asked_end hs asked is = absurd is

module _ {B : Type 0} (Shows : Saying B) (b : B) where
  pub asked_for_end : (places : List Spot) (k : Known) → AsksFor Shows b End places k → HasAskedForEnd Shows b
  asked_for_end places k for =
      let asks = for.asks in
      let seen = seen_as asks.own asks.stories asks.log k in
      (k.number, seen, subst (λ (a : Asked). Shows b k.number a seen) (asked_end k.holding for.asked for.fits) asks.says, asks.seen.legal)

  -- a statement takes nothing back
  pub said_once_more : (b' : B) → ((task : ℕ) (asked : Asked) (seen : Seen) → Shows b task asked seen → Shows b' task asked seen)
      → HasAskedForEnd Shows b → HasAskedForEnd Shows b'
  said_once_more b' stays said = (said.0, said.1, stays said.0 heard.ends said.1 said.2, said.3)
