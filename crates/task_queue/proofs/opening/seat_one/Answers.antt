use Rattle.std.proofs.Common.{◌≡◌, [], List, ap}
use Rattle.std.proofs.lemmas.List.Elements.{All-map}
use Rattle.task_queue.specs.Reaches.{stolen_of}
use Rattle.task_queue.proofs.opening.seat_one.Goals as goal

pub returns-clause-fresh : goal.returns-clause-fresh
returns-clause-fresh g c =
    let spare = c.requires.spare.0 in (
      ap (λ v. v.put) spare,
      ap (λ v. v.taken) spare,
      All-map (λ (l : List g.row.T.Denot). l ≡ []) stolen_of c.args.reaches.items (λ k d lt. ap (λ v. v.taken) (c.requires.unused k d lt).1),
    )
