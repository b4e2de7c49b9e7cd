-- What follows where an answer says that the event was made.
use Rattle.std.proofs.Common.{◌≡◌, ℕ, Bool, true, false, ◌||◌, not, nat_lt, cond, List, ◌∷◌, Option, Some, None, refl, sym, subst}
use Rattle.std.specs.Prelude.{Result, Err}
use Rattle.std.specs.Option.{option_map_or}
use Rattle.std.proofs.lemmas.Bool.{and_parts}
use Rattle.phase_modes.specs.declared.limits.Limits.{Limits}
use Rattle.phase_modes.specs.declared.refusal.Refusal.{Refusal}
use Rattle.phase_modes.specs.declared.refusal.Refusal.TheVariants.{NotNow, ActsFull}
use Rattle.phase_modes.specs.Refusal.{first_refusal}
use Rattle.phase_model.specs.declared.history.Event.{Event}
use Rattle.phase_model.specs.Rules.{Story, is_allowed, has_room}
use Rattle.phase_model.specs.Replies as phaser
use Rattle.phase_model.specs.Conditions.{conditions}
use Rattle.phase_model.specs.declared.call.Call.{Call}
use Rattle.phase_model.proofs.Replied.{settled_done, done_is_allowed}
use Rattle.world_model.specs.declared.event.WorldEvent.{WorldEvent}
use Rattle.world_model.specs.declared.event.Begun.{Begun}
use Rattle.world_model.specs.declared.event.Tried.{Tried}
use Rattle.world_model.specs.declared.event.Tried.TheVariants.{Begun as Beginning}
use Rattle.world_model.specs.declared.event.WorldEvent.TheVariants.{Begin}
use Rattle.world_model.specs.declared.reply.Reply.{Reply}
use Rattle.world_model.specs.Actors.{actor}
use Rattle.world_model.specs.Due.{next_event, is_idle}
use Rattle.world_model.specs.Tasks.{acts}
use Rattle.world_model.specs.PartReplies.{returned}
use Rattle.world_model.specs.Replies.{is_made, is_accepted, is_legal_world}
use Rattle.world_model.specs.Acts.{unless, act_conditions, act_done, act_reply, facts, is_number_used}
use Rattle.world_model.specs.ActConditions.{begin_conditions, is_counted}
use Rattle.world_model.specs.Continuing.{same_event, next_done, next_reply}

-- the last event of a legal world was accepted, and what came before it is legal
pub last_accepted : (l : Limits) (e : WorldEvent) (w : List WorldEvent) → is_legal_world l (e ∷ w) ≡ true
    → (is_accepted l w e ≡ true) × (is_legal_world l w ≡ true)
last_accepted l e w k = and_parts (is_accepted l w e) (is_legal_world l w) k

done_made : (h : List Event) (r : phaser.Reply) → is_made (returned h r) ≡ true
    → (e : Event) × (r ≡ phaser.done e)
done_made h (phaser.refused r) k = absurd cc
done_made h phaser.not_yet k = absurd cc
done_made h (phaser.done e) k = (e, refl)

-- where a phaser made an event, its history allowed it
pub call_allowed : (s : Story) (c : Call) → is_made (returned s.past (phaser.reply s c)) ≡ true
    → is_allowed s.limits s.terms s.past (phaser.event_for s.limits s.terms s.past c) ≡ true
call_allowed s c k =
    let m = done_made s.past (phaser.reply s c) k in
    let f = phaser.event_for s.limits s.terms s.past c in
    let d =
    settled_done (first_refusal (conditions s.limits s.terms s.past c))
    (phaser.must_wait s.limits s.terms s.past c) (has_room s.limits (f ∷ s.past)) f m.0 m.1 in
    subst (λ g. is_allowed s.limits s.terms s.past g ≡ true) (sym d.1) (done_is_allowed s c m.0 m.1)

unless_made : (o : Option Refusal) (r : Result Reply Refusal) → is_made (unless o r) ≡ true
    → (o ≡ None) × (is_made r ≡ true)
unless_made None r k = (refl, k)
unless_made (Some x) r k = absurd cc

-- an act that was begun met no refusal
pub act_made : (l : Limits) (w : List WorldEvent) (t : ℕ) (a : Tried) → is_made (act_reply l w t a) ≡ true
    → (first_refusal (act_conditions l w t a) ≡ None) × (is_made (act_done l w t a) ≡ true)
act_made l w t a k = unless_made (first_refusal (act_conditions l w t a)) (act_done l w t a) k

-- where nothing is refused, each condition is met
pub no_refusal : (r : Refusal) (b : Bool) (cs : List (Refusal × Bool)) → first_refusal ((r, b) ∷ cs) ≡ None
    → (b ≡ true) × (first_refusal cs ≡ None)
no_refusal r true cs k = (refl, k)
no_refusal r false cs k = absurd cc

-- an accepted act met none of its own refusals
pub begin_asked : (l : Limits) (w : List WorldEvent) (t : ℕ) (b : Begun) → is_accepted l w (Begin t b) ≡ true
    → first_refusal (begin_conditions l (facts w t) b) ≡ None
begin_asked l w t b a =
    let counted : Refusal × Bool = (ActsFull, not (is_counted (Beginning b)) || nat_lt (acts t w) l.acts) in
    let free : Refusal × Bool = (NotNow, not (is_number_used w (Beginning b))) in
    (no_refusal ActsFull counted.1 (begin_conditions l (facts w t) b)
    (no_refusal NotNow free.1 (counted ∷ begin_conditions l (facts w t) b)
    (no_refusal NotNow (is_idle t w) (free ∷ counted ∷ begin_conditions l (facts w t) b)
    (act_made l w t (Beginning b) a).0).1).1).1

made_where : (b : Bool) (r : Result Reply Refusal) → is_made (cond b r (Err NotNow)) ≡ true
    → (b ≡ true) × (is_made r ≡ true)
made_where true r k = (refl, k)
made_where false r k = absurd cc

-- the event is the one that continues its task's act
abbrev pub IsNext : Limits → List WorldEvent → WorldEvent → Type 0
IsNext l w e = option_map_or (λ d. same_event d e) (next_event l (actor w e) w) false ≡ true

-- an event that continues an act was the one to come
pub part_made : (l : Limits) (w : List WorldEvent) (e : WorldEvent) → is_made (next_reply l w e) ≡ true
    → IsNext l w e × (is_made (next_done l w e) ≡ true)
part_made l w e k =
    made_where (option_map_or (λ d. same_event d e) (next_event l (actor w e) w) false) (next_done l w e) k
