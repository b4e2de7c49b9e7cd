use Rattle.std.proofs.Math.Logic.{∥∥₁_map}
use Rattle.world_model.specs.declared.event.Begun.TheVariants.{Async}
use Rattle.tasks_in_flight.specs.inner.GoingOn.{any_step}
use Rattle.tasks_in_flight.proofs.GoingOn.{acts_no_more, begins}
use Rattle.live_rt.proofs.About.{unborn_spawned, unborn_alone, asks_to_spawn}
use Rattle.live_rt.proofs.Begins.{unborn_new}
use Rattle.live_rt.proofs.shared.Shared.spawn.Goals as goal

-- before it was handed any phaser
pub new-requires : goal.new-requires
new-requires g c =
    let task = c.args.task.now in
    let its = c.of-its.result in record {
      says = ∥∥₁_map c.requires.says (λ f p. unborn_alone g.B.Body.shows its task.places
          (unborn_spawned g.B.Body.shows task.body c.args.body c.args.pairs task.places task.standing its (f p)));
    }

pub begin-requires : goal.begin-requires
begin-requires g c =
    let task = c.args.task.now in
    ∥∥₁_map c.requires.says (λ f p. asks_to_spawn g.B.Body.shows task.body c.args.body c.args.pairs task.places task.standing c.child_number-number.result (f p))

pub returns-then-begin : goal.returns-then-begin
returns-then-begin g c =
    let task = c.args.task.now in
    let child = c.in-Ok.child.value in record {
      acted = begins any_step (Async c.child_number-number.result c.args.pairs) c.begin.result task.standing c.begin.new.task.standing c.begin.ensures.begun;
      newborn = ∣ c.in-Ok.ensures.answer ∣₁;
      says = ∥∥₁_map c.requires.says (λ f p. unborn_new g.B.Body.shows task.body c.args.body c.args.pairs task.places task.standing
          c.of-its.result c.of-home.result child.body child.standing child.places c.begin.new.task.places
          c.in-Ok.ensures.body c.in-Ok.ensures.standing c.in-Ok.ensures.places c.begin.ensures.places (f p));
    }

pub returns-else-begin-clause-acted : goal.returns-else-begin-clause-acted
returns-else-begin-clause-acted g c =
    begins any_step (Async c.child_number-number.result c.args.pairs) c.begin.result c.args.task.now.standing c.begin.new.task.standing c.begin.ensures.begun

pub returns-in_default-clause-acted : goal.returns-in_default-clause-acted
returns-in_default-clause-acted g c =
    acts_no_more any_step c.args.task.now.standing c.give_up.new.self.standing c.give_up.ensures.given_up
