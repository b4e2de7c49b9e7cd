-- Whose act an event of a legal world is was named: the root, or a child that some spawn named.
use Rattle.std.proofs.Common.{ℕ, ◌≡◌, true, List, Some, subst}
use Rattle.phase_modes.specs.declared.limits.Limits.{Limits}
use Rattle.finish_core.specs.declared.event.FinishEvent.TheVariants.{Opened, Spawned, Ended, Shut as Shutting}
use Rattle.world_model.specs.declared.event.Step.TheVariants.{Make, Reg, Sig, Claim, Did, Pass, Send, Look, Drop}
use Rattle.world_model.specs.declared.event.Tried.TheVariants.{Begun as Beginning, New, Open, Send as Sending, Look as Looking}
use Rattle.world_model.specs.declared.event.Tried.{Tried}
use Rattle.world_model.specs.declared.event.WorldEvent.{WorldEvent}
use Rattle.world_model.specs.declared.event.WorldEvent.TheVariants.{Phaser, Finish, Begin, Refuse, Fail}
use Rattle.world_model.specs.Due.{is_idle}
use Rattle.world_model.specs.GivingUp.{may_refuse}
use Rattle.world_model.specs.Numbers.{is_named}
use Rattle.world_model.specs.Replies.{is_accepted, is_legal_world}
use Rattle.world_model.proofs.AbleComputed.{idle_in_act, made_done_where, refuse_idle}
use Rattle.world_model.proofs.BornWhereNamed.{born_named}
use Rattle.world_model.proofs.PassesInTurns.{idle_is_born}
use Rattle.trace_walk.specs.Scripts.{Made, act_of}

-- what is said of the task of one act holds of the other's
of : (w : List WorldEvent) (t : ℕ) (m : Made) (a : Tried) → Some (record { task = t; act = a }) ≡ Some m
    → is_idle t w ≡ true → is_idle m.task w ≡ true
of w t m a is k = subst (λ (u : ℕ). is_idle u w ≡ true) (same (record { task = t; act = a }) m is) k
  where
    same : (x y : Made) → Some x ≡ Some y → x.task ≡ y.task
    same x y h = cc

-- it is idle
actor_idle : (l : Limits) (w : List WorldEvent) (e : WorldEvent) (m : Made) → is_accepted l w e ≡ true
    → act_of e ≡ Some m → is_idle m.task w ≡ true
actor_idle l w (Phaser n (Make t mode terms)) m k is = of w t m (New n mode terms) is (idle_in_act l w t (New n mode terms) k)
actor_idle l w (Phaser n (Send t a v)) m k is = of w t m (Sending n a v) is (idle_in_act l w t (Sending n a v) k)
actor_idle l w (Phaser n (Look t a)) m k is = of w t m (Looking n a) is (idle_in_act l w t (Looking n a) k)
actor_idle l w (Phaser n (Reg q t mode)) m k is = absurd cc
actor_idle l w (Phaser n (Sig t x)) m k is = absurd cc
actor_idle l w (Phaser n (Claim t)) m k is = absurd cc
actor_idle l w (Phaser n (Did t)) m k is = absurd cc
actor_idle l w (Phaser n (Pass t)) m k is = absurd cc
actor_idle l w (Phaser n (Drop t)) m k is = absurd cc
actor_idle l w (Finish f (Opened t)) m k is = of w t m (Open f) is (idle_in_act l w t (Open f) k)
actor_idle l w (Finish f (Spawned t)) m k is = absurd cc
actor_idle l w (Finish f (Ended t)) m k is = absurd cc
actor_idle l w (Finish f Shutting) m k is = absurd cc
actor_idle l w (Begin t b) m k is = of w t m (Beginning b) is (idle_in_act l w t (Beginning b) k)
actor_idle l w (Refuse t a n) m k is =
    of w t m a is (refuse_idle l w t a n (made_done_where (may_refuse l w t a n) k))
actor_idle l w (Fail t n) m k is = absurd cc

pub actor_named : (l : Limits) (w : List WorldEvent) (e : WorldEvent) (m : Made) → is_legal_world l w ≡ true
    → is_accepted l w e ≡ true → act_of e ≡ Some m → is_named m.task w ≡ true
actor_named l w e m legal k is = born_named l m.task w legal (idle_is_born m.task w (actor_idle l w e m k is))
