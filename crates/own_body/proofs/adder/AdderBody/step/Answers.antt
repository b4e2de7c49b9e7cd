use Rattle.std.proofs.Common.{◌≡◌, sym, ap, subst, ◌∙◌}
use Rattle.std.specs.Prelude.{ℤ}
use Rattle.std.proofs.lemmas.Bool.{true≢false}
use Rattle.phase_model.specs.declared.op.Look.{Look}
use Rattle.own_body.specs.declared.adder.Next.TheVariants.{Sends, Looks, Hears}
use Rattle.own_body.specs.declared.counts.Counts.{Counts}
use Rattle.own_body.specs.Sums.{IsSeen}
use Rattle.own_body.specs.Turns.{AreCounted}
use Rattle.tasks_in_flight.specs.Heard.{nothing, ends, at_start}
use Rattle.own_body.proofs.Sums.{heard_still_seen, heard_has_looked}
use Rattle.own_body.proofs.Turns.{counted_at_first}
use Rattle.own_body.proofs.adder.AdderBody.step.Goals as goal

apart : Sends ≡ Hears → ⊥
apart same = cc

apart_too : Sends ≡ Looks → ⊥
apart_too same = cc

unasked : nothing ≡ ends → ⊥
unasked same = cc

pub returns-clause-shows : goal.returns-clause-shows
returns-clause-shows c = λ task asked seen now shows heard.
    let was = c.count.ensures.next in
    let before = heard_still_seen task asked c.args.answer seen now c.args.self.now.saw shows.7 shows.0 heard in (
      subst (λ (x : Look ℤ). IsSeen (now.own 0) (now.stories 0) x) (sym c.act.ensures.saw)
          (c.hear.ensures.saw task asked seen now (λ hears. shows.1 (sym was ∙ hears)) heard.1
          (subst (λ (x : Look ℤ). IsSeen (now.own 0) (now.stories 0) x) (sym c.count.ensures.saw) before)),
      c.act.ensures.looks,
      (λ end. heard_has_looked task asked c.args.answer seen now (shows.1 (sym was ∙ (sym c.hear.ensures.next ∙ c.act.ensures.end end))) heard.1),
      subst (λ (x : Counts). AreCounted task x now) (sym (c.act.ensures.counts ∙ c.hear.ensures.counts))
          (c.count.ensures.counts task asked seen now shows.4 shows.5 shows.3 heard),
      c.act.ensures.turns,
      (λ held. c.act.ensures.takes),
      (λ makes. absurd (c.act.ensures.made makes)),
      λ mode terms asks.
          let makes = sym c.hear.ensures.next ∙ c.act.ensures.makes mode terms asks in
          c.act.ensures.saw ∙ (c.hear.ensures.same makes ∙ (c.count.ensures.saw ∙ shows.6 (sym was ∙ makes))),
    )

pub returns-clause-child : goal.returns-clause-child
returns-clause-child c = λ task asked seen now shows heard child its own spawned.
    let new = c.act.ensures.child child spawned in (
      subst (λ (x : Look ℤ). IsSeen (own 0) (now.stories 0) x) (sym new.0) tt,
      (λ hears. absurd (apart (sym new.1 ∙ hears))),
      (λ end. absurd (unasked end)),
      counted_at_first its child.counts (at_start own now.stories) new.2,
      (λ looks. absurd (apart_too (sym new.1 ∙ looks))),
      (λ held. absurd (true≢false (sym held ∙ ap (λ (x : Counts). x.holds) new.2))),
      (λ makes. new.0),
      λ mode terms asks. new.0,
    )
