-- The events of an explained trace are a legal history.
use Rattle.std.proofs.Common.{◌≡◌, true, List, [], ◌∷◌, reverse, Result, Ok, Err, refl, ℤ}
use Rattle.std.proofs.lemmas.Bool.{and_parts, false≢true}
use Rattle.phase_modes.specs.declared.limits.Limits.{Limits}
use Rattle.phase_modes.specs.declared.refusal.Refusal.{Refusal}
use Rattle.phase_model.specs.declared.op.Look.{Look}
use Rattle.world_model.specs.declared.reply.Reply.{Reply}
use Rattle.world_model.specs.declared.reply.Reply.TheVariants.{Done, Phase, Value, NotYet}
use Rattle.world_model.specs.Replies.{reply, is_made, is_legal_world}
use Rattle.trace_model.specs.declared.event.TracedStep.TheVariants as step
use Rattle.trace_model.specs.declared.event.TracedEvent.{TracedEvent}
use Rattle.trace_model.specs.declared.event.TracedEvent.TheVariants.{Phaser, Finish, Begin, Refuse, Fail}
use Rattle.trace_model.specs.Run.{Entry, Run}
use Rattle.trace_model.specs.Explained.{event_of, past, is_seen, is_answered, is_later, may_follow, all_follow, is_over, is_explained}

-- what a look saw was answered, so it was made
seen_made : (x : Look ℤ) (r : Result Reply Refusal) → is_seen x r ≡ true → is_made r ≡ true
seen_made x (Err e) h = absurd (false≢true h)
seen_made x (Ok Done) h = absurd (false≢true h)
seen_made x (Ok (Phase p)) h = absurd (false≢true h)
seen_made x (Ok (Value y)) h = refl
seen_made x (Ok NotYet) h = absurd (false≢true h)

pub answered_made : (e : TracedEvent) (r : Result Reply Refusal) → is_answered e r ≡ true → is_made r ≡ true
answered_made (Phaser n (step.Make t m terms)) r h = h
answered_made (Phaser n (step.Reg q t m)) r h = h
answered_made (Phaser n (step.Sig t x)) r h = h
answered_made (Phaser n (step.Claim t)) r h = h
answered_made (Phaser n (step.Did t)) r h = h
answered_made (Phaser n (step.Pass t)) r h = h
answered_made (Phaser n (step.Send t a v)) r h = h
answered_made (Phaser n (step.Look t a x)) r h = seen_made x r h
answered_made (Phaser n (step.Drop t)) r h = h
answered_made (Finish f e) r h = h
answered_made (Begin t b) r h = h
answered_made (Refuse t a n) r h = h
answered_made (Fail t n) r h = h

pub following_is_legal : (l : Limits) (es : List Entry) → all_follow l es ≡ true → is_legal_world l (past es) ≡ true
following_is_legal l [] h = refl
following_is_legal l (e ∷ es) h =
    let parts = and_parts (may_follow l es e) (all_follow l es) h in
    let made = answered_made e.1 (reply l (past es) (event_of e.1)) (and_parts (is_later e.0 es) (is_answered e.1 (reply l (past es) (event_of e.1))) parts.0).1 in
    rw (made) (following_is_legal l es parts.1)

pub explained_legal : (r : Run) → is_explained r ≡ true → is_legal_world r.limits (past (reverse r.events)) ≡ true
explained_legal r h = following_is_legal r.limits (reverse r.events) (and_parts (all_follow r.limits (reverse r.events)) (is_over (reverse r.events)) h).0
