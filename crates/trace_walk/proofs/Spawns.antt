-- The bodies after a spawn: its child has the one that was handed to it.
use Rattle.std.proofs.Common.{ℕ, ◌≡◌, true, List, ◌∷◌, Option, Some, sym, ap, subst, ◌∙◌}
use Rattle.std.proofs.lemmas.Bool.{eqb-true}
use Rattle.job_script.specs.declared.act.Act.{Act}
use Rattle.job_script.specs.declared.act.Act.TheVariants as acts
use Rattle.job_script.specs.declared.act.Answer.{Answer}
use Rattle.job_script.specs.declared.act.Answer.TheVariants.{Started}
use Rattle.world_model.specs.declared.event.Begun.TheVariants.{Async}
use Rattle.world_model.specs.declared.event.WorldEvent.{WorldEvent}
use Rattle.world_model.specs.declared.event.WorldEvent.TheVariants as world
use Rattle.trace_walk.specs.Scripts.{act_of, is_of}
use Rattle.trace_model.specs.Explained.{event_of}
use Rattle.trace_model.specs.declared.event.TracedEvent.{TracedEvent}
use Rattle.trace_walk.specs.Walking.{Does, told_by}
use Rattle.trace_walk.specs.declared.seats.Seat.{Seat}
use Rattle.trace_walk.specs.inner.Seats.{body_handed, child_named, IsSeated}
use Rattle.trace_walk.proofs.Events.{BeginsSpawn, begins_spawn}
use Rattle.trace_walk.specs.Going.{child_does, does}
use Rattle.trace_walk.proofs.Gone.{spawned, BodiesGo, HaveGone}

module _ {B : Type 0} (next : Answer → B → Does B) where
  handed_does : (act : Act B) (body : B) (before : Does B) → body_handed act ≡ Some body
      → child_does next act before ≡ next Started body
  handed_does (acts.Async b pairs) body before k = ap (λ (x : B). next Started x) (same b body k)
    where
      same : (x y : B) → Some x ≡ Some y → x ≡ y
      same x y h = cc
  handed_does (acts.AsyncAll b) body before k = ap (λ (x : B). next Started x) (same b body k)
    where
      same : (x y : B) → Some x ≡ Some y → x ≡ y
      same x y h = cc
  handed_does acts.OpenFinish body before k = absurd cc
  handed_does acts.ShutFinish body before k = absurd cc
  handed_does (acts.New m ops bound) body before k = absurd cc
  handed_does acts.Signal body before k = absurd cc
  handed_does acts.Wait body before k = absurd cc
  handed_does acts.Next body before k = absurd cc
  handed_does (acts.NextSingle n) body before k = absurd cc
  handed_does (acts.Send n a v) body before k = absurd cc
  handed_does (acts.Look n a) body before k = absurd cc
  handed_does acts.End body before k = absurd cc

  module _ (root : B) (w : List WorldEvent) (e : TracedEvent) (t c : ℕ) (act : Act B)
      (gives : act ≡ (does next root w t).0) (of : is_of t (act_of (event_of e)) ≡ true)
      (child : child_named e ≡ Some c) where
    spawn : BeginsSpawn e c
    spawn = begins_spawn e c child

    own : spawn.task ≡ t
    own = eqb-true spawn.task t
        (subst (λ (x : TracedEvent). is_of t (act_of (event_of x)) ≡ true) spawn.is of)

    -- the bodies after a spawn, where its child has a seat
    pub after_spawn : (body : B) (at after : ℕ → Option (Seat B)) → HaveGone next root w t (told_by e) at
        → body_handed act ≡ Some body → IsSeated c body at after → BodiesGo next root (event_of e ∷ w) after
    after_spawn body at after gone handed seated =
        subst (λ (x : TracedEvent). BodiesGo next root (event_of x ∷ w) after) (sym spawn.is)
        (subst (λ (u : ℕ). BodiesGo next root (world.Begin u (Async c spawn.pairs) ∷ w) after) (sym own)
        (spawned next root w t c spawn.pairs body (told_by e) at after gone
        (ap (λ (x : TracedEvent). told_by x) spawn.is)
        (handed_does (does next root w t).0 body (does next root w c)
        (sym (ap (λ (a : Act B). body_handed a) gives) ∙ handed))
        seated))
