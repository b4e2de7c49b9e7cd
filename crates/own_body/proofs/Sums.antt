-- A sum that was seen stays seen, and is a fold of all in a legal story.
use Rattle.std.proofs.Common.{◌≡◌, ◌<◌, ◌≤◌, ℕ, inl, inr, true, List, [], ◌∷◌, ◌++◌, map, reverse, sym, subst, ap, ◌∙◌, arith}
use Rattle.std.specs.Prelude.{ℤ}
use Rattle.std.proofs.lemmas.List.{append_assoc}
use Rattle.std.proofs.Math.Logic.{∥∥₁_map, ∥∥₁_elim}
use native.Mathlib.Bridge.{le_prop}
use Rattle.phase_modes.specs.declared.limits.Limits.{Limits}
use Rattle.phase_modes.specs.declared.reg.Mode.{Mode}
use Rattle.phase_model.specs.declared.history.Event.TheVariants.{Look as Looked}
use Rattle.phase_model.specs.declared.op.Look.{Look}
use Rattle.phase_model.specs.declared.op.Look.TheVariants.{Value, Nothing}
use Rattle.phase_model.specs.declared.terms.Terms.{Terms}
use Rattle.phase_model.specs.Laws.{IsLegal}
use Rattle.phase_model.specs.Rules.{Story}
use Rattle.world_model.specs.Replies.{is_legal_world}
use Rattle.world_model.proofs.PhasersFolded.{legal_is_folded}
use Rattle.world_model.proofs.PhasersLegal.{phasers_legal}
use Rattle.trace_model.specs.declared.event.TracedEvent.{TracedEvent}
use Rattle.trace_model.specs.Explained.{past}
use Rattle.trace_model.specs.Projections.{log, projection}
use Rattle.trace_model.specs.Run.{Entry}
use Rattle.long_locks.specs.Told.{HasLooked}
use Rattle.told_history.specs.Stories.{GoesOn}
use Rattle.job_script.specs.declared.act.Answer.{Answer}
use Rattle.job_script.specs.declared.act.Answer.TheVariants.{Started, Done, Made, Spawned, Saw}
use Rattle.tasks_in_flight.specs.Heard.{Asked, Seen, make, look, ends, IsAnswerTo, IsHeard}
use Rattle.tasks_in_flight.specs.Said.{Saying}
use Rattle.phased_rt.specs.Says.{story_in, SaysOfTrace, SaysOfEach, HasEnded}
use Rattle.own_body.specs.Sums.{IsSeen, IsSum, HasLookedOnce, HasSeenSum}
use Rattle.own_body.specs.Turns.{passes, spawns, is_pass, is_spawn}
use Rattle.own_body.proofs.Turns.{many, no_fewer, made_is, asked_to_make}

-- it is still seen in a story that goes on
pub still_seen : (t : ℕ) (a b : Story) (x : Look ℤ) → GoesOn a b → IsSeen t a x → IsSeen t b x
still_seen t a b Nothing goes seen = tt
still_seen t a b (Value v) goes seen =
    let e = Looked t 0 (Value v) in (
      goes.1.0 ++ seen.0,
      seen.1,
      goes.1.1 ∙ (ap (λ h. goes.1.0 ++ h) seen.2 ∙ sym (append_assoc goes.1.0 seen.0 (e ∷ seen.1))),
    )

-- with what is heard it is still seen on phaser 0, if a body that asked for a phaser has seen no sum
pub heard_still_seen : (t : ℕ) (asked : Asked) (answer : Answer) (seen now : Seen) (x : Look ℤ)
    → ((mode : Mode) (terms : Terms) → asked ≡ make mode terms → x ≡ Nothing) → IsSeen (seen.own 0) (seen.stories 0) x
    → IsHeard t asked answer seen now → IsSeen (now.own 0) (now.stories 0) x
heard_still_seen t asked answer seen now x unseen was is =
    elim (is.0.0 0) [
      | inl made ↦
          let asks =
          asked_to_make t 0 asked seen now (subst (λ (a : Answer). IsAnswerTo t asked a seen now) (made_is answer 0 made) is.1) in
          subst (λ (y : Look ℤ). IsSeen (now.own 0) (now.stories 0) y) (sym (unseen asks.0 asks.1 asks.2)) tt
      | inr more ↦
          subst (λ (own : ℕ). IsSeen own (now.stories 0) x) (sym more.1)
          (still_seen (seen.own 0) (seen.stories 0) (now.stories 0) x more.0 was)
    ]

-- what a look has just seen is seen
pub just_seen : (t : ℕ) (s : Story) (x : Look ℤ) → HasLooked s.terms.ops t 0 s.past x → IsSeen t s x
just_seen t s Nothing looked = tt
just_seen t s (Value v) looked = ([], looked.0, looked.1)

-- what is seen in a legal story is the fold of all values of a closed phase
pub seen_is_sum : (t : ℕ) (s : Story) (x : Look ℤ) → IsLegal s → IsSeen t s x → IsSum t s x
seen_is_sum t s Nothing legal seen = tt
seen_is_sum t s (Value v) legal seen =
    let r = (legal_is_folded s.limits s.terms s.past legal).seen seen.0 seen.1 t 0 (Value v) seen.2 in
    (seen.0, seen.1, seen.2, r.1, r.0)

-- the stories of a legal world are legal
pub story_is_legal : (l : Limits) (es : List Entry) (n : ℕ) → is_legal_world l (past (reverse es)) ≡ true → IsLegal (story_in l es n)
story_is_legal l es n legal = phasers_legal l (past (reverse es)) legal n

-- what a task hears of its look on phaser 0 is seen
pub heard_is_seen : (t : ℕ) (asked : Asked) (answer : Answer) (x : Look ℤ) (seen now : Seen) → asked ≡ look 0 0 → answer ≡ Saw x
    → IsAnswerTo t asked answer seen now → IsSeen (now.own 0) (now.stories 0) x
heard_is_seen t asked answer x seen now looks saw is =
    let told : IsAnswerTo t (look 0 0) (Saw x) seen now =
    subst (λ (b : Answer). IsAnswerTo t (look 0 0) b seen now) saw (subst (λ (a : Asked). IsAnswerTo t a answer seen now) looks is) in
    just_seen (now.own 0) (now.stories 0) x told.0.0

-- who says that what it saw is seen has seen a sum, in the story of a legal trace
pub says_sum : {B : Type 0} (saw : B → Look ℤ) (Shows : Saying B) (l : Limits) (es : List Entry) (root : B)
    → ((b : B) (t : ℕ) (asked : Asked) (seen : Seen) → Shows b t asked seen → IsSeen (seen.own 0) (seen.stories 0) (saw b))
    → is_legal_world l (past (reverse es)) ≡ true → 0 < l.phasers
    → SaysOfTrace Shows l es root → ∥ IsSum 0 (story_in l es 0) (saw root) ∥₁
says_sum saw Shows l es root is legal some says =
    ∥∥₁_map says (λ x.
    seen_is_sum 0 (story_in l es 0) (saw root) (story_is_legal l es 0 legal)
    (still_seen 0 (x.0 0) (story_in l es 0) (saw root) (x.2 0 some) (is root 0 x.1.3.0 _ x.1.3.1)))

-- ---- of each task that has ended

-- that it has looked stays so
pub still_looked : (t : ℕ) (a b : Story) → GoesOn a b → HasLookedOnce t a → HasLookedOnce t b
still_looked t a b goes looked =
    let e = Looked t 0 looked.0 in (
      looked.0,
      goes.1.0 ++ looked.1,
      looked.2,
      goes.1.1 ∙ (ap (λ h. goes.1.0 ++ h) looked.3 ∙ sym (append_assoc goes.1.0 looked.1 (e ∷ looked.2))),
    )

-- who hears of its look has looked, since nothing else is an answer to it
heard_of_look : (t : ℕ) (answer : Answer) (seen now : Seen) → IsAnswerTo t (look 0 0) answer seen now → HasLookedOnce (now.own 0) (now.stories 0)
heard_of_look t (Saw x) seen now is = (x, [], is.0.0.0, is.0.0.1)
heard_of_look t Started seen now is = absurd is.0
heard_of_look t Done seen now is = absurd is.0
heard_of_look t (Made n) seen now is = absurd is.0
heard_of_look t (Spawned n) seen now is = absurd is.0

pub heard_has_looked : (t : ℕ) (asked : Asked) (answer : Answer) (seen now : Seen) → asked ≡ look 0 0
    → IsAnswerTo t asked answer seen now → HasLookedOnce (now.own 0) (now.stories 0)
heard_has_looked t asked answer seen now looks is =
    heard_of_look t answer seen now (subst (λ (a : Asked). IsAnswerTo t a answer seen now) looks is)

-- who has looked in a legal story has seen the fold of all values of a closed phase
looked_is_sum : (t : ℕ) (s : Story) → IsLegal s → HasLookedOnce t s → HasSeenSum t s
looked_is_sum t s legal looked =
    let r = (legal_is_folded s.limits s.terms s.past legal).seen looked.1 looked.2 t 0 looked.0 looked.3 in
    (looked.0, looked.1, looked.2, looked.3, r.1, r.0)

-- where who asks for its end says that its task has looked, each that has ended has seen a sum
pub each_has_seen : {B : Type 0} (Shows : Saying B) (l : Limits) (es : List Entry)
    → ((b : B) (t : ℕ) (seen : Seen) → Shows b t ends seen → HasLookedOnce (seen.own 0) (seen.stories 0))
    → is_legal_world l (past (reverse es)) ≡ true → 0 < l.phasers
    → SaysOfEach Shows l es → (t : ℕ) → HasEnded t es → ∥ HasSeenSum t (story_in l es 0) ∥₁
each_has_seen Shows l es is legal some says t ended =
    ∥∥₁_map (says t ended) (λ x.
    looked_is_sum t (story_in l es 0) (story_is_legal l es 0 legal)
    (still_looked t (x.0 0) (story_in l es 0) (x.2 0 some) (is x.1.3.0 t _ x.1.3.1)))

-- ---- of the root's counts

-- who says that its task has passed so often has done so in the trace
pub says_turns : {B : Type 0} (turns : B → ℕ) (Shows : Saying B) (l : Limits) (es : List Entry) (root : B)
    → ((b : B) (t : ℕ) (asked : Asked) (seen : Seen) → Shows b t asked seen → turns b ≤ passes (seen.own 0) (seen.stories 0).past)
    → 0 < l.phasers → SaysOfTrace Shows l es root → turns root ≤ passes 0 (story_in l es 0).past
says_turns turns Shows l es root is some says =
    ∥∥₁_elim says (λ a b. le_prop a b) (λ x.
    let goes = x.2 0 some in
    omega (
      arith,
      is root 0 x.1.3.0 _ x.1.3.1,
      no_fewer (λ e. is_pass 0 e) goes.1.0 (x.0 0).past (story_in l es 0).past goes.1.1,
    ))

-- who says that its task has spawned so many children has done so by its log in the trace
pub says_children : {B : Type 0} (children : B → ℕ) (Shows : Saying B) (l : Limits) (es : List Entry) (root : B)
    → ((b : B) (t : ℕ) (asked : Asked) (seen : Seen) → Shows b t asked seen → children b ≤ spawns t seen.log)
    → SaysOfTrace Shows l es root → children root ≤ spawns 0 (map (λ (e : Entry). e.1) (projection (log 0) es))
says_children children Shows l es root is says =
    ∥∥₁_elim says (λ a b. le_prop a b) (λ x.
    let noted = x.1.1 in
    let more = x.1.2 in
    omega (
      arith,
      is root 0 x.1.3.0 _ x.1.3.1,
      ap (λ (events : List TracedEvent). spawns 0 events) x.1.4,
      many (λ e. is_spawn 0 e) noted more,
    ))
