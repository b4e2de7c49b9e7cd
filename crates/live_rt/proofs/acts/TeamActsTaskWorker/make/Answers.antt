use Rattle.std.proofs.Common.{Bool, ap, ◌∙◌}
use Rattle.std.proofs.Math.Logic.{∥∥₁_map}
use Rattle.tasks_in_flight.specs.Heard.{make}
use Rattle.tasks_in_flight.specs.inner.GoingOn.{any_step, given_up, tried_by}
use Rattle.tasks_in_flight.proofs.GoingOn.{acts_no_more, not_tried}
use Rattle.live_rt.proofs.About.{asks_kept}
use Rattle.live_rt.proofs.acts.TeamActsTaskWorker.make.Goals as goal

pub make_on-requires : goal.make_on-requires
make_on-requires g c =
    let old = c.args.task.now in
    let new = c.may_try.new.task in record {
      says = ∥∥₁_map c.requires (λ f p. asks_kept g.B.Body.shows old.body new.body (make c.args.mode (record { ops = c.args.ops; bound = c.args.bound })) old.places new.places
          old.standing new.standing c.may_try.ensures.body c.may_try.ensures.places
          (c.may_try.ensures.standing ∙ ap (λ (b : Bool). tried_by b old.standing) c.if-not-may_try.false) (f p).asks);
    }

pub returns-then-not-may_try-clause-acts : goal.returns-then-not-may_try-clause-acts
returns-then-not-may_try-clause-acts g c =
    not_tried any_step c.may_try.result c.args.task.now.standing c.may_try.new.task.standing c.if-not-may_try.true c.may_try.ensures.standing

pub returns-in-Err-clause-acts : goal.returns-in-Err-clause-acts
returns-in-Err-clause-acts g c =
    let old = c.args.task.now.standing in
    acts_no_more any_step old c.give_up.new.self.standing (c.give_up.ensures.given_up
    ∙ ap given_up (c.in-Err.ensures.refused ∙ (c.may_try.ensures.standing ∙ ap (λ (b : Bool). tried_by b old) c.if-not-may_try.false)))
