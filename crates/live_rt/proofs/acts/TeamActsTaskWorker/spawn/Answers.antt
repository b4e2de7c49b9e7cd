use Rattle.std.proofs.Common.{◌≡◌, Some}
use Rattle.std.proofs.Math.Logic.{∥∥₁_map}
use Rattle.job_script.specs.declared.act.Answer.TheVariants.{Started}
use Rattle.live_rt.specs.inner.Says.{IsUnborn}
use Rattle.live_rt.proofs.Seen.{both}
use Rattle.live_rt.proofs.Begins.{spawns_on, spawns_on_all}
use Rattle.live_rt.proofs.acts.TeamActsTaskWorker.spawn.Goals as goal

pub spawn-requires : goal.spawn-requires
spawn-requires g c =
    let task = c.args.task.now in record {
      says = ∥∥₁_map (rw c.in-Some.is at c.requires) (λ f p. spawns_on g.B.Body.shows task.body c.args.body c.in-Some.pairs task.places task.standing (f p));
    }

pub spawn-requires-in-None : goal.spawn-requires-in-None
spawn-requires-in-None g c =
    let task = c.args.task.now in record {
      says = ∥∥₁_map (rw c.in-None.is at c.requires) (λ f p. spawns_on_all g.B.Body.shows task.body c.args.body c.pairs-pairs.result task.places task.standing c.pairs-pairs.ensures (f p));
    }

pub returns-in-Some-clause-bears : goal.returns-in-Some-clause-bears
returns-in-Some-clause-bears g c =
    let new = c.spawn.new.task in
    both (λ x. ∥ x.value.answer ≡ Some Started ∥₁) (λ x. ∥ (g.J.Supposing.supposed → IsUnborn g.B.Body.shows x.value.body x.value.standing.number x.value.places new.places) ∥₁)
    c.spawn.result c.spawn.ensures.newborn c.spawn.ensures.says

pub returns-in-None-clause-bears : goal.returns-in-None-clause-bears
returns-in-None-clause-bears g c =
    let new = c.spawn-in-None.new.task in
    both (λ x. ∥ x.value.answer ≡ Some Started ∥₁) (λ x. ∥ (g.J.Supposing.supposed → IsUnborn g.B.Body.shows x.value.body x.value.standing.number x.value.places new.places) ∥₁)
    c.spawn-in-None.result c.spawn-in-None.ensures.newborn c.spawn-in-None.ensures.says
