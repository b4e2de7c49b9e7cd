use Rattle.std.proofs.Common.{Some, None, inl, inr, refl}
use Rattle.std.proofs.Math.Logic.{∥∥₁_map}
use Rattle.task_worker.proofs.acts.TeamActsTaskBusy.spawn.Goals as goal

pub spawn-requires : goal.spawn-requires
spawn-requires g c =
    let asks = rw c.in-Some.is at c.requires in record {
      says = ∥∥₁_map asks.0 (λ f q. (Some c.in-Some.pairs, refl, f q));
      child = λ its. asks.1 c.args.body its (inl (c.in-Some.pairs, refl));
    }

pub spawn-requires-in-None : goal.spawn-requires-in-None
spawn-requires-in-None g c =
    let asks = rw c.in-None.is at c.requires in record {
      says = ∥∥₁_map asks.0 (λ f q. (None, c.pairs-pairs.ensures, f q));
      child = λ its. asks.1 c.args.body its (inr refl);
    }
