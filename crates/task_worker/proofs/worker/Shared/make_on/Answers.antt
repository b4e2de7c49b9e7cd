use Rattle.std.proofs.Common.{ℕ, ◌≡◌, Ok, refl, sym, ap, subst, ◌∙◌}
use Rattle.phase_model.specs.declared.call.Call.TheVariants as calls
use Rattle.phase_model.specs.Rules.{Story}
use Rattle.told_history.specs.Stories.{GoesOn, IsMade}
use Rattle.table_receipts.specs.Seen.{story_at}
use Rattle.told_history.proofs.Goes.{made_goes}
use Rattle.tasks_in_flight.specs.Heard.{make, HasMade}
use Rattle.tasks_in_flight.proofs.Heard.{has_made}
use Rattle.tasks_in_flight.proofs.Saying.{shows_kept}
use Rattle.world_model.specs.declared.event.WorldEvent.TheVariants.{Phaser}
use Rattle.world_model.specs.declared.event.Step.TheVariants as steps
use Rattle.task_standing.specs.Known.{Known}
use Rattle.task_standing.specs.Noted.{noted}
use Rattle.tasks_in_flight.specs.inner.GoingOn.{HasActed}
use Rattle.task_worker.specs.inner.Driven.{IsReplied, Replies}
use Rattle.tasks_in_flight.proofs.GoingOn.{if_ok}
use Rattle.task_worker.proofs.Replied.{make_replied}
use Rattle.task_worker.proofs.worker.Shared.make_on.Goals as goal

pub made-requires-clause-asked : goal.made-requires-clause-asked
made-requires-clause-asked g c =
    let old = c.args.task.now in
    let mid = c.front-me.new.self in
    let m = c.args.mode in
    let terms = c.args.terms.now in
    let t = c.number-maker.result in
    let before = c.front-me.result.story in
    let now = c.make.new.me.story in
    let told : IsMade (Ok tt) (calls.Make t m) terms before now =
    subst (λ (x : _). IsMade x (calls.Make t m) terms before now) c.in_ok-make.was c.make.ensures.told in
    let own : t ≡ mid.log.task = c.number-maker.ensures.log ∙ sym c.front-me.ensures.task in (
      terms,
      subst (λ (u : ℕ). HasMade u m terms now) own (has_made before now t m terms told),
      shows_kept g.B.Body.shows old.body mid.body old.log.task mid.log.task (make m terms) old.fronts mid.fronts old.standing mid.standing old.log.log mid.log.log
          c.front-me.ensures.body c.front-me.ensures.task c.front-me.ensures.fronts c.front-me.ensures.standing
          (ap (λ d. d.log) c.front-me.ensures.log_kept) c.requires.says,
    )

pub made-requires-clause-more : goal.made-requires-clause-more
made-requires-clause-more g c =
    let old = c.args.task.now in
    let mid = c.front-me.new.self in
    let before = c.front-me.result.story in
    let there : before ≡ story_at mid.fronts c.args.phaser =
    c.front-me.ensures.story
    ∙ (ap (λ (k : ℕ). story_at old.fronts k) c.in_ok-number.ensures.same ∙ sym (ap (λ xs. story_at xs c.args.phaser) c.front-me.ensures.fronts)) in
    subst (λ (s : Story). GoesOn s c.make.new.me.story) there
    (made_goes c.make.result c.number-maker.result c.args.mode c.args.terms.now before c.make.new.me.story c.make.ensures.told)

pub returns-clause-acted : goal.returns-clause-acted
returns-clause-acted g c =
    let old = c.args.task.now in
    let n = c.args.phaser in
    let m = c.args.mode in
    let terms = c.args.terms.now in
    let t = c.number-maker.result in
    let before = c.front-me.result.story in
    let now = c.make.new.me.story in
    let told : IsMade (Ok tt) (calls.Make t m) terms before now =
    subst (λ (x : _). IsMade x (calls.Make t m) terms before now) c.in_ok-make.was c.make.ensures.told in
    let there : before ≡ story_at old.fronts n = c.front-me.ensures.story ∙ ap (λ (k : ℕ). story_at old.fronts k) c.in_ok-number.ensures.same in
    let e = Phaser n (steps.Make old.standing.number m terms) in
    let mid = c.front-me.new.self.standing in
    let new = c.made.new.self.standing in
    if_ok (new ≡ noted (Phaser n (steps.Make old.standing.number m terms)) mid) (HasActed (Replies old.fronts) old.standing new)
    (λ is. (
      e,
      refl,
      subst (λ (u : ℕ). IsReplied (story_at old.fronts n) (steps.Make u m terms)) c.number-maker.ensures.standing
          (subst (λ (s : Story). IsReplied s (steps.Make t m terms)) there (make_replied before now t m terms told c.is_legal.ensures.legal)),
      is ∙ ap (λ (k : Known). noted e k) c.front-me.ensures.standing,
    ))
    c.made.result c.made.ensures.made
