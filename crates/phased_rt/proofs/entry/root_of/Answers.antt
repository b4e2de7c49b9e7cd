use Rattle.std.proofs.Common.{ℕ, sym, subst}
use Rattle.phase_model.specs.Rules.{Story}
use Rattle.table_receipts.specs.Seen.{story_at}
use Rattle.tasks_in_flight.specs.Heard.{nothing, at_start}
use Rattle.tasks_in_flight.proofs.OnTheWay.{sees_itself}
use Rattle.phased_rt.proofs.entry.root_of.Goals as goal

-- whatever was seen, the root says nothing false before its first act
pub new-requires-clause-says : goal.new-requires-clause-says
new-requires-clause-says g c =
    let now : ℕ → Story = λ n. story_at c.in_ok-fronts.fronts n in
    ∣ (λ supposed. (
      at_start (λ n. c.of-number.result) now,
      subst (λ (t : ℕ). g.B.Body.shows c.args.root t nothing (at_start (λ n. t) now)) (sym c.of-number.ensures) (c.requires.root supposed now),
      sees_itself (at_start (λ n. c.of-number.result) now),
    )) ∣₁
