use Rattle.std.proofs.Common.{refl, ◌∷◌, [], ◌∙◌, arith, length-append, None}
use Rattle.schedule_run.proofs.Seats.{place_more, root_stands}
use Rattle.schedule_run.proofs.bodies.Bodies.new.Goals as goal

pub loop-unnamed-init : goal.loop-unnamed-init
loop-unnamed-init c =
    rw (c.in_ok-push.ensures.items, c.new-seats.ensures.items) (record {
      stand =
          root_stands c.args.program.now c.begun.result (c.begun.ensures.body ∙ c.root.ensures)
          c.begun.ensures.heard;
      places = refl;
    })

pub loop-unnamed-preserved : goal.loop-unnamed-preserved
loop-unnamed-preserved c =
    rw c.in_ok-push-2.ensures.items (record {
      stand = place_more c.args.program.now [] c.loop-unnamed.seats.items c.loop-unnamed.invariant.stand;
      places =
          omega (
            arith,
            c.loop-unnamed.invariant.places,
            length-append c.loop-unnamed.seats.items
                (None ∷ []),
          );
    })
