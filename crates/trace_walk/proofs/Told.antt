-- What an event of an explained trace tells its task is what the world's history says that it hears.
use Rattle.std.proofs.Common.{ℕ, ◌≡◌, true, false, List, ◌∷◌, Option, Some, None, refl, ap, sym, ℤ}
use Rattle.std.proofs.lemmas.Bool.{false≢true}
use Rattle.std.proofs.lemmas.Bool.Decides.{Decides-int_eq}
use Rattle.phase_modes.specs.declared.limits.Limits.{Limits}
use Rattle.phase_modes.specs.declared.refusal.Refusal.{Refusal}
use Rattle.phase_modes.specs.Refusal.{first_refusal}
use Rattle.phase_model.specs.Conditions.{conditions}
use Rattle.phase_model.specs.declared.call.Call.TheVariants.{Look as look}
use Rattle.phase_model.specs.declared.history.Event.TheVariants.{Look as Looked}
use Rattle.phase_model.specs.declared.op.Look.{Look}
use Rattle.phase_model.specs.declared.op.Look.TheVariants as looks
use Rattle.phase_model.specs.Phases.{waits}
use Rattle.phase_model.specs.Replies.{decided}
use Rattle.phase_model.specs.Rules.{has_room, look_of, same_look}
use Rattle.job_script.specs.declared.act.Answer.TheVariants.{Saw}
use Rattle.world_model.specs.declared.event.Begun.TheVariants.{Async, Signal, Wait, Next, NextSingle, Shut, End}
use Rattle.world_model.specs.declared.event.Tried.TheVariants.{Look as TriedLook}
use Rattle.world_model.specs.declared.event.WorldEvent.{WorldEvent}
use Rattle.world_model.specs.Acts.{act_conditions, unless}
use Rattle.world_model.specs.PartReplies.{returned}
use Rattle.world_model.specs.Parts.{ops_of, phaser_past, terms_of}
use Rattle.world_model.specs.Replies.{reply}
use Rattle.trace_model.specs.Explained.{event_of, is_answered, is_seen}
use Rattle.trace_model.specs.declared.event.TracedEvent.{TracedEvent}
use Rattle.trace_model.specs.declared.event.TracedEvent.TheVariants.{Phaser, Finish, Begin, Refuse, Fail}
use Rattle.trace_model.specs.declared.event.TracedStep.TheVariants.{Make, Reg, Sig, Claim, Did, Pass, Send, Look as Seen, Drop}
use Rattle.trace_walk.specs.Going.{heard}
use Rattle.trace_walk.specs.Walking.{told_by}

same_looks : (x y : Look ℤ) → same_look x y ≡ true → x ≡ y
same_looks (looks.Value v) (looks.Value w) k = ap (λ z. looks.Value z) ((Decides-int_eq v w).0 k)
same_looks looks.Nothing looks.Nothing k = refl
same_looks (looks.Value v) looks.Nothing k = absurd (false≢true k)
same_looks looks.Nothing (looks.Value w) k = absurd (false≢true k)

-- a look that was answered with what it saw
look_told : (l : Limits) (w : List WorldEvent) (n t a : ℕ) (x : Look ℤ)
    → is_answered (Phaser n (Seen t a x)) (reply l w (event_of (Phaser n (Seen t a x)))) ≡ true
    → told_by (Phaser n (Seen t a x)) ≡ heard w (event_of (Phaser n (Seen t a x)))
look_told l w n t a x k =
    ap Saw (by (first_refusal (act_conditions l w t (TriedLook n a)))
    (first_refusal (conditions l (terms_of n w) (phaser_past n w) (look t a)))
    (has_room l (Looked t a seen ∷ phaser_past n w)) k)
  where
    seen : Look ℤ
    seen = look_of (ops_of n w) a (waits t (phaser_past n w)) (phaser_past n w)

    by : (o c : Option Refusal) (room : _)
        → is_seen x (unless o (returned (phaser_past n w) (decided c false room (Looked t a seen)))) ≡ true → x ≡ seen
    by (Some r) c room h = absurd (false≢true h)
    by None (Some r) room h = absurd (false≢true h)
    by None None true h = sym (same_looks seen x h)
    by None None false h = absurd (false≢true h)

pub told_heard : (l : Limits) (w : List WorldEvent) (e : TracedEvent) → is_answered e (reply l w (event_of e)) ≡ true
    → told_by e ≡ heard w (event_of e)
told_heard l w (Phaser n (Make t m terms)) k = refl
told_heard l w (Phaser n (Reg q t m)) k = refl
told_heard l w (Phaser n (Sig t y)) k = refl
told_heard l w (Phaser n (Claim t)) k = refl
told_heard l w (Phaser n (Did t)) k = refl
told_heard l w (Phaser n (Pass t)) k = refl
told_heard l w (Phaser n (Send t a v)) k = refl
told_heard l w (Phaser n (Seen t a x)) k = look_told l w n t a x k
told_heard l w (Phaser n (Drop t)) k = refl
told_heard l w (Finish f e) k = refl
told_heard l w (Begin t (Async c pairs)) k = refl
told_heard l w (Begin t Signal) k = refl
told_heard l w (Begin t Wait) k = refl
told_heard l w (Begin t Next) k = refl
told_heard l w (Begin t (NextSingle n)) k = refl
told_heard l w (Begin t Shut) k = refl
told_heard l w (Begin t End) k = refl
told_heard l w (Refuse t a n) k = refl
told_heard l w (Fail t n) k = refl
