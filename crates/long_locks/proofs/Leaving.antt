-- A parked task that leaves is freed, and told that it isn't registered.
use Rattle.std.proofs.Common.{◌≡◌, ◌⊎◌, ℕ, zero, suc, ◌==◌, Bool, true, false, ◌||◌, ◌&&◌, not, cond, List, [], ◌∷◌, ◌++◌, Option, Some, Ok, refl, ap, sym, ◌∙◌, subst, inl, inr}
use Rattle.std.specs.List.{Contains}
use Rattle.std.proofs.lemmas.Bool.{eq-eqb, eqb-true, or_cases, and_parts, false≢true}
use Rattle.std.proofs.lemmas.List.Elements.{Contains-append_left, Contains-push}
use Rattle.phase_modes.specs.declared.refusal.Refusal.{Refusal}
use Rattle.phase_modes.specs.declared.refusal.Refusal.TheVariants.{NotRegistered}
use Rattle.phase_model.specs.declared.history.Event.{Event}
use Rattle.phase_model.specs.declared.history.Event.TheVariants.{Claim, Pass, Drop}
use Rattle.phase_model.specs.Tasks.{is_registered, is_dropped, is_live}
use Rattle.phase_model.specs.Rules.{Story, is_permitted}
use Rattle.phase_model.specs.declared.call.Call.TheVariants.{Signal as signal, Pass as pass, Drop as drop_task}
use Rattle.phase_model.specs.Replies.{Reply, refused, not_yet, done, decided, reply, after, done_result}
use Rattle.phase_model.specs.Answers.{signal_result, pass_result}
use Rattle.phaser_core.specs.declared.parked.Parked.{Parked}
use Rattle.phaser_core.specs.declared.parked.ParkedCall.{ParkedCall}
use Rattle.phaser_core.specs.declared.parked.ParkedCall.TheVariants.{Pass as ToPass, Signal as ToSignal}
use Rattle.phaser_core.specs.Parking.{answered_is, signal_answered_is, is_parked, would_park, all_wait}
use Rattle.phaser_core.specs.Settled.{IsSettled}
use Rattle.phaser_core.proofs.Parks.{parked_live}
use Rattle.phaser_core.proofs.Steps.{event_is}
use Rattle.long_locks.specs.declared.answer.Freed.{Freed}
use Rattle.long_locks.specs.declared.answer.Ended.TheVariants.{Refused}
use Rattle.long_locks.specs.declared.course.Then.{Then}
use Rattle.long_locks.specs.declared.course.Course.{Course}
use Rattle.long_locks.specs.declared.course.Course.TheVariants.{Over, HasSignalled, Waits}
use Rattle.long_locks.specs.Courses.{story_after, pass_course, signal_course, course}
use Rattle.long_locks.specs.Turns.{Standing, standing, to_pass, queue_after, gone_after, turn_of, turns, IsTurned}

-- what a task is told that isn't registered
abbrev told : ℕ → Freed
told t = record { task = t; ended = Refused NotRegistered }

refused_first : (b : Bool) (o : Option Refusal) (w r : Bool) (e : Event) → b ≡ false
    → decided (cond b o (Some NotRegistered)) w r e ≡ refused NotRegistered
refused_first true o w r e k = absurd cc
refused_first false o w r e k = refl

-- whatever it is parked for
unknown_course : (s : Story) (t : ℕ) (c : ParkedCall) (a : Then) → is_live t s.past ≡ false
    → course s t c a ≡ Over (Refused NotRegistered)
unknown_course s t ToPass a out =
    let is : reply s (pass t) ≡ refused NotRegistered = refused_first (is_live t s.past) _ _ _ _ out in
    ap (λ r. pass_course r) (sym (answered_is s t) ∙ ap (λ r. pass_result s.past r) is)
unknown_course s t (ToSignal x) a out =
    let is : reply s (signal t x) ≡ refused NotRegistered = refused_first (is_live t s.past) _ _ _ _ out in
    ap (λ r. signal_course a r) (sym (signal_answered_is s t x) ∙ ap (λ r. signal_result r) is)

-- no call for which a task is parked registers anybody
unknown_after : (s : Story) (t u : ℕ) (c : ParkedCall) → is_live t s.past ≡ false
    → is_live t (story_after s u c).past ≡ false
unfolding story_after
unknown_after s t u ToPass out = go (reply s (pass u)) refl
  where
    by_event : (b : Bool) (f : Event) → cond b (Claim u) (Pass u) ≡ f → is_live t (f ∷ s.past) ≡ false
    by_event true f i = ap (λ g. is_live t (g ∷ s.past)) (sym i) ∙ out
    by_event false f i = ap (λ g. is_live t (g ∷ s.past)) (sym i) ∙ out

    go : (r : Reply) → reply s (pass u) ≡ r → is_live t (after s r).past ≡ false
    go (refused y) e = out
    go not_yet e = out
    go (done f) e = by_event (is_permitted s.limits s.terms s.past (Claim u)) f (event_is s (pass u) f e)
unknown_after s t u (ToSignal x) out = go (reply s (signal u x)) refl
  where
    go : (r : Reply) → reply s (signal u x) ≡ r → is_live t (after s r).past ≡ false
    go (refused y) e = out
    go not_yet e = out
    go (done f) e = ap (λ g. is_live t (g ∷ s.past)) (sym (event_is s (signal u x) f e)) ∙ out

-- who has left is parked still, or was told
record HasLeft (t : ℕ) (w : Standing) : Type 0 where
  unknown : is_live t w.story.past ≡ false
  heard : (is_parked t w.queue ≡ true) ⊎ Contains w.gone (told t)

parked_more : (t : ℕ) (ps : List (Parked Then)) (p : Parked Then) → is_parked t ps ≡ true
    → is_parked t (ps ++ p ∷ []) ≡ true
parked_more t [] p k = absurd cc
parked_more t (q ∷ qs) p k = go (q.task == t) k (parked_more t qs p)
  where
    go : (b : Bool) → (b || is_parked t qs) ≡ true
        → (is_parked t qs ≡ true → is_parked t (qs ++ p ∷ []) ≡ true)
        → (b || is_parked t (qs ++ p ∷ [])) ≡ true
    go true k more = refl
    go false k more = more k

parked_after : (t : ℕ) (c : Course) (p : Parked Then) (ps : List (Parked Then)) → is_parked t ps ≡ true
    → is_parked t (queue_after c p ps) ≡ true
parked_after t (Over e) p ps k = k
parked_after t HasSignalled p ps k = parked_more t ps (to_pass p.task) k
parked_after t Waits p ps k = parked_more t ps p k

heard_after : (c : Course) (t : ℕ) (fs : List Freed) (f : Freed) → Contains fs f
    → Contains (gone_after c t fs) f
heard_after (Over e) t fs f k = Contains-append_left fs _ f k
heard_after HasSignalled t fs f k = k
heard_after Waits t fs f k = k

left_turn : (t : ℕ) (s : Story) (q : List (Parked Then)) (fs : List Freed) → HasLeft t (standing s q fs)
    → HasLeft t (turn_of s q fs)
left_turn t s [] fs k = k
left_turn t s (p ∷ ps) fs k =
    let c = course s p.task p.call p.item in
    record {
      unknown = unknown_after s t p.task p.call k.unknown;
      heard = elim k.heard [
        | inl parked ↦ elim (or_cases (p.task == t) (is_parked t ps) parked) [
          | inl same ↦
              let is = eqb-true p.task t same in
              let over =
              unknown_course s p.task p.call p.item
              (subst (λ u. is_live u s.past ≡ false) (sym is) k.unknown) in
              inr
              (subst (λ x. Contains (gone_after x p.task fs) (told t)) (sym over)
              (subst (λ u. Contains (fs ++ told p.task ∷ []) (told u)) is (Contains-push fs (told p.task))))
          | inr later ↦ inl (parked_after t c p ps later)
        ]
        | inr has ↦ inr (heard_after c p.task fs (told t) has)
      ];
    }

left_turns : (t n : ℕ) (v : Standing) → HasLeft t v → HasLeft t (turns n v)
left_turns t zero v k = k
left_turns t (suc n) v k =
    let w = turns n v in
    left_turn t w.story w.queue w.gone (left_turns t n v k)

live_where_parked : (s : Story) (t : ℕ) (ps : List (Parked Then)) → all_wait s ps ≡ true
    → is_parked t ps ≡ true
    → is_live t s.past ≡ true
live_where_parked s t [] all k = absurd cc
live_where_parked s t (p ∷ ps) all k =
    let parts = and_parts (would_park s p.task p.call) (all_wait s ps) all in
    elim (or_cases (p.task == t) (is_parked t ps) k) [
      | inl same ↦
          subst (λ u. is_live u s.past ≡ true) (eqb-true p.task t same) (parked_live s p.task p.call parts.0)
      | inr later ↦ live_where_parked s t ps parts.1 later
    ]

dead : (t : ℕ) (h : List Event) → is_live t (Drop t ∷ h) ≡ false
dead t h =
    ap (λ b. is_registered t h && not (b || is_dropped t h)) (eq-eqb t t refl) ∙ neither (is_registered t h)
  where
    neither : (b : Bool) → (b && false) ≡ false
    neither true = refl
    neither false = refl

unknown_after_drop : (s : Story) (t : ℕ) → done_result (reply s (drop_task t)) ≡ Ok tt
    → is_live t (after s (reply s (drop_task t))).past ≡ false
unknown_after_drop s t k = go (reply s (drop_task t)) refl k
  where
    go : (r : Reply) → reply s (drop_task t) ≡ r → done_result r ≡ Ok tt → is_live t (after s r).past ≡ false
    go (refused y) e k = absurd cc
    go not_yet e k = absurd cc
    go (done f) e k =
        ap (λ g. is_live t (g ∷ s.past)) (sym (event_is s (drop_task t) f e)) ∙ dead t s.past

-- a task that was parked when it left has been told so once all wait again
pub told_of_leaving : (s s' : Story) (t : ℕ) (ps : List (Parked Then)) (w : Standing)
    → s' ≡ after s (reply s (drop_task t)) → done_result (reply s (drop_task t)) ≡ Ok tt
    → is_parked t ps ≡ true → IsTurned (standing s' ps []) w → IsSettled w.story w.queue
    → Contains w.gone (record { task = t; ended = Refused NotRegistered })
told_of_leaving s s' t ps w is ok parked turned kept =
    let first : HasLeft t (standing s' ps []) = record {
      unknown = subst (λ (v : Story). is_live t v.past ≡ false) (sym is) (unknown_after_drop s t ok);
      heard = inl parked;
    } in
    let last : HasLeft t w =
    subst (λ u. HasLeft t u) turned.1 (left_turns t turned.0 (standing s' ps []) first) in
    elim last.heard [
      | inl still ↦
          absurd (false≢true (sym last.unknown ∙ live_where_parked w.story t w.queue kept.waiting still))
      | inr has ↦ has
    ]
