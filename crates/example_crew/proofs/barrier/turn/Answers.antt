use Rattle.std.proofs.Common.{List, sym, subst}
use Rattle.phase_model.specs.declared.history.Event.{Event}
use Rattle.example_crew.specs.Sums.{IsSeen}
use Rattle.example_crew.proofs.Sums.{still_seen, always}
use Rattle.example_crew.proofs.barrier.turn.Goals as goal

pub returns-in_default : goal.returns-in_default
returns-in_default g c = record {
  seen = subst (λ (h : List Event). IsSeen h c.args.tally.now.last) (sym c.next.ensures.seen)
      (still_seen c.args.worker.now.me c.pass.new.worker.me c.args.tally.now.last c.pass.ensures.more c.requires.seen);
}

pub returns : goal.returns
returns g c =
    let now = still_seen c.look.new.worker.me c.go_on.new.worker.me c.in_ok-seen.seen c.go_on.ensures.more c.in_ok-seen.ensures.seen in
    let noted : IsSeen c.go_on.new.worker.me c.note.new.tally.last = subst (λ x. IsSeen c.go_on.new.worker.me x) (sym c.note.ensures) now in
    record { seen = always c.go_on.result _ (λ _. noted) }
