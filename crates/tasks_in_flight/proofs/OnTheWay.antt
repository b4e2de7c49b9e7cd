-- How far an act has come, from one event of its task to the next, until its body hears of it.
use Rattle.std.proofs.Common.{ℕ, zero, suc, ◌+◌, ◌≡◌, ◌⊎◌, ◌==◌, ◌<◌, ◌≤◌, Bool, true, false, if◌then◌else◌, inl, inr, List, [], ◌∷◌, ◌++◌, Option, Some, None, refl, sym, ap, subst, ◌∙◌, arith, map, filter, drop, append-nil}
use Rattle.std.specs.Prelude.{find, is_some, min, option_map, slice_get}
use Rattle.std.proofs.lemmas.Bool.{cases_lt, eq-eqb, eqb-true, true≢false}
use Rattle.std.proofs.lemmas.List.{append_assoc}
use Rattle.std.proofs.lemmas.Option.{slice_get-map, same_Some}
use Rattle.phase_model.specs.declared.history.Event.{Event}
use Rattle.phase_model.specs.declared.history.Event.TheVariants as events
use Rattle.phase_model.specs.Rules.{Story}
use Rattle.std.proofs.Math.Nat.{min-le_left}
use Rattle.phase_modes.specs.declared.phased.Pair.{Pair}
use Rattle.finish_core.specs.declared.event.FinishEvent.TheVariants.{Spawned as Born}
use Rattle.world_model.specs.declared.event.Begun.{Begun}
use Rattle.world_model.specs.declared.event.Begun.TheVariants as begun
use Rattle.world_model.specs.declared.event.Step.TheVariants.{Sig, Pass, Drop}
use Rattle.world_model.specs.declared.event.WorldEvent.TheVariants.{Phaser, Finish}
use Rattle.trace_model.specs.declared.event.TracedEvent.{TracedEvent}
use Rattle.trace_model.specs.declared.event.TracedEvent.TheVariants.{Begin}
use Rattle.job_script.specs.declared.act.Answer.{Answer}
use Rattle.job_script.specs.declared.act.Answer.TheVariants.{Started, Done, Made, Spawned, Saw}
use Rattle.told_history.specs.Stories.{GoesOn}
use Rattle.table_receipts.specs.Seen.{HasSeenMore}
use Rattle.told_history.proofs.Goes.{goes_itself, goes_far}
use Rattle.task_standing.specs.declared.held.Held.{Held}
use Rattle.task_standing.specs.declared.plan.Plan.{Plan}
use Rattle.task_standing.specs.declared.plan.Plan.TheVariants.{Idle, Signalling, Spawning, Shutting, Ending}
use Rattle.task_standing.specs.Known.{Known}
use Rattle.task_standing.specs.Noted.{plan_of}
use Rattle.task_standing.specs.Standing.{owes, pair_of, marked, passed_by, registered_by, shut_by}
use Rattle.tasks_in_flight.specs.Heard.{Asked, Seen, SeesMoreOf, SeesMoreBut, HasDone, HasPassed, HasPassedAll, HasSignalledAll, HoldsTheSame, IsOwn, IsOwnOfEach, IsToldOf, IsCarriedOut, IsAnswerTo}
use Rattle.tasks_in_flight.specs.Heard as heard
use Rattle.tasks_in_flight.specs.inner.Ready.{SeesMore, HasJustDone, HasJustPassed, IsSignalling, IsTurning, IsAsFar, IsAskedFor, IsPending, IsDue, answer_of, is_of_each}
use Rattle.tasks_in_flight.proofs.FirstDue.{OwesNone, StandsAt, IsNextPass, IsOver, signals_with, passes_next, spawns_at_birth, birth_lives, shuts_at_leaving, idle_lives, is_over}

-- ---- seeing more

pub sees_itself : (now : Seen) → SeesMore now now
sees_itself now = ((λ n. inr (goes_itself (now.stories n), refl)), ([], sym (append-nil now.log)))

-- where none was made, no less was seen of any
pub sees_of : (seen now : Seen) (n : ℕ) → SeesMore seen now → SeesMoreOf n seen now
sees_of seen now n sees = elim (sees.0 n) [
  | inl made ↦ absurd (cc made)
  | inr there ↦ there
]

pub sees_far : (made : Option ℕ) (seen now new : Seen) → SeesMoreBut made seen now → SeesMore now new → SeesMoreBut made seen new
sees_far made seen now new one two = (
  (λ n. elim (one.0 n) [
    | inl is ↦ inl is
    | inr first ↦ (let next = sees_of now new n two in inr (
      goes_far (seen.stories n) (now.stories n) (new.stories n) first.0 next.0,
      next.1 ∙ first.1,
    ))
  ]),
  (
    one.1.0 ++ two.1.0,
    two.1.1 ∙ (ap (λ l. l ++ two.1.0) one.1.1 ∙ append_assoc seen.log one.1.0 two.1.0),
  ),
)

-- what was done stays done, and what was passed stays passed
still_done : (e : Event) (seen now new : Story) → GoesOn now new → HasDone e seen now → HasDone e seen new
still_done e seen now new goes done = (
  goes.1.0 ++ done.0,
  done.1,
  goes.1.1 ∙ (ap (λ (h : List Event). goes.1.0 ++ h) done.2 ∙ sym (append_assoc goes.1.0 done.0 (e ∷ done.1))),
  done.3,
)

still_passed : (task : ℕ) (seen now new : Story) → GoesOn now new → HasPassed task seen now → HasPassed task seen new
still_passed task seen now new goes passed = (
  goes.1.0 ++ passed.0,
  passed.1,
  goes.1.1 ∙ (ap (λ (h : List Event). goes.1.0 ++ h) passed.2 ∙ sym (append_assoc goes.1.0 passed.0 (events.Pass task ∷ passed.1))),
  passed.3,
  passed.4,
)

-- where of one phaser more was seen, up to the task's own newest event, each phaser's is its own as before
own_again : (k : ℕ) (seen now : Seen) (new : ℕ → Story) → HasSeenMore k now.stories new → IsOwn (now.own k) (new k).past
    → IsOwnOfEach seen now
    → IsOwnOfEach seen (record { own = now.own; stories = new; holding = now.holding; log = now.log })
own_again k seen now new more own is = λ n. by_number n (n == k) refl
  where
    by_number : (n : ℕ) (b : Bool) → n == k ≡ b → (new n ≡ seen.stories n) ⊎ IsOwn (now.own n) (new n).past
    by_number n true same = inr (subst (λ (j : ℕ). IsOwn (now.own j) (new j).past) (sym (eqb-true n k same)) own)
    by_number n false other =
        subst (λ (s : Story). (s ≡ seen.stories n) ⊎ IsOwn (now.own n) s.past) (sym (more.1 n other)) (is n)

-- ---- of one phaser more was seen

module _ (task k : ℕ) (seen now : Seen) (new : ℕ → Story) (more : HasSeenMore k now.stories new) (own : IsOwn (now.own k) (new k).past) where
  abbrev later : Seen
  later = record { own = now.own; stories = new; holding = now.holding; log = now.log }

  told_more : (asked : Asked) (answer : Answer) → is_of_each (Some answer) ≡ true
      → IsToldOf task asked answer seen now → IsToldOf task asked answer seen later
  told_more heard.signal Done each is = (is.0, own_again k seen now new more own is.1)
  told_more heard.wait Done each is = (is.0, own_again k seen now new more own is.1)
  told_more (heard.next x) Done each is = (is.0, own_again k seen now new more own is.1)
  told_more (heard.spawn to) (Spawned c) each is = (is.0, is.1, own_again k seen now new more own is.2)
  told_more (heard.send n a v) Done each is =
      (still_done (events.Send (now.own n) a v) (seen.stories n) (now.stories n) (new n) (more.0 n) is.0, is.1)
  told_more heard.opens Done each is = is
  told_more heard.shuts Done each is = is
  told_more heard.nothing Done each is = absurd is
  told_more heard.nothing (Spawned c) each is = absurd is
  told_more (heard.make m terms) Done each is = absurd is
  told_more (heard.make m terms) (Spawned c) each is = absurd is
  told_more (heard.send n a v) (Spawned c) each is = absurd is
  told_more (heard.look n a) Done each is = absurd is
  told_more (heard.look n a) (Spawned c) each is = absurd is
  told_more heard.signal (Spawned c) each is = absurd is
  told_more heard.wait (Spawned c) each is = absurd is
  told_more (heard.next x) (Spawned c) each is = absurd is
  told_more (heard.spawn to) Done each is = absurd is
  told_more heard.opens (Spawned c) each is = absurd is
  told_more heard.shuts (Spawned c) each is = absurd is
  told_more heard.ends Done each is = absurd is
  told_more heard.ends (Spawned c) each is = absurd is
  told_more asked Started each is = absurd (true≢false (sym each))
  told_more asked (Made n) each is = absurd (true≢false (sym each))
  told_more asked (Saw x) each is = absurd (true≢false (sym each))

  signalling_more : (x : Option ℕ) → IsSignalling x seen now → IsSignalling x seen later
  signalling_more x is = λ i h h' at there owed. elim (is i h h' at there owed) [
    | inl still ↦ inl still
    | inr done ↦ inr (still_done (events.Sig (now.own h.phaser) x) (seen.stories h.phaser) (now.stories h.phaser) (new h.phaser)
        (more.0 h.phaser) done)
  ]

  signalled_more : (x : Option ℕ) → HasSignalledAll x seen now → HasSignalledAll x seen later
  signalled_more x is = λ i h at owed.
      still_done (events.Sig (now.own h.phaser) x) (seen.stories h.phaser) (now.stories h.phaser) (new h.phaser) (more.0 h.phaser)
      (is i h at owed)

  turning_more : (many : ℕ) → IsTurning many seen now → IsTurning many seen later
  turning_more many is = λ i h lt at.
      still_passed (now.own h.phaser) (seen.stories h.phaser) (now.stories h.phaser) (new h.phaser) (more.0 h.phaser) (is i h lt at)

  far_more : (p : Plan) (asked : Asked) → IsAsFar p asked seen now → IsAsFar p asked seen later
  far_more p heard.signal is = (is.0, is.1, signalling_more None is.2)
  far_more p heard.wait is = (is.0, is.1, is.2, turning_more is.0 is.3)
  far_more p (heard.next x) (inl is) = inl (is.0, is.1, signalling_more x is.2)
  far_more p (heard.next x) (inr is) = inr (is.0, is.1, is.2, signalled_more x is.3, turning_more is.0 is.4)
  far_more p (heard.spawn to) is = is
  far_more p heard.shuts is = is
  far_more p heard.ends is = absurd is
  far_more p heard.nothing is = is
  far_more p (heard.make m terms) is = is
  far_more p (heard.send n a v) is = is
  far_more p (heard.look n a) is = is
  far_more p heard.opens is = is

  pub pending_more : (p : Plan) (asked : Asked) (answer : Option Answer) → is_of_each answer ≡ true
      → IsPending task p asked answer seen now → IsPending task p asked answer seen later
  pending_more p asked (Some answer) each is = λ lives. let it = is lives in (told_more asked answer each it.0, far_more p asked it.1)
  pending_more p asked None each is = tt

-- ---- what a plan comes to

-- what is of the lists' places stays where each held phaser keeps its number and its mode
same_place : (hs hs' : List Held) (i : ℕ) → map pair_of hs' ≡ map pair_of hs
    → option_map pair_of (slice_get hs' i) ≡ option_map pair_of (slice_get hs i)
same_place hs hs' i same = sym (slice_get-map pair_of hs' i) ∙ (ap (λ l. slice_get l i) same ∙ slice_get-map pair_of hs i)

-- a phaser that is held now was held then, under its number
held_then : (hs hs' : List Held) (i : ℕ) (h' : Held) → map pair_of hs' ≡ map pair_of hs → slice_get hs' i ≡ Some h'
    → (h : Held) × (slice_get hs i ≡ Some h) × (h.phaser ≡ h'.phaser)
held_then hs hs' i h' same at = there (slice_get hs i) refl
  where
    there : (o : Option Held) → slice_get hs i ≡ o → (h : Held) × (slice_get hs i ≡ Some h) × (h.phaser ≡ h'.phaser)
    there (Some h) is =
        let one : Some (pair_of h') ≡ Some (pair_of h) =
        sym (ap (λ o. option_map pair_of o) at) ∙ (same_place hs hs' i same ∙ ap (λ o. option_map pair_of o) is) in
        (h, is, sym (ap (λ p. p.phaser) (same_Some _ _ one)))
    there None is = absurd (cc (sym (ap (λ o. option_map pair_of o) at) ∙ (same_place hs hs' i same ∙ ap (λ o. option_map pair_of o) is)))

-- and one that was held then is held now
held_now : (hs hs' : List Held) (i : ℕ) (h : Held) → map pair_of hs' ≡ map pair_of hs → slice_get hs i ≡ Some h
    → (h' : Held) × (slice_get hs' i ≡ Some h')
held_now hs hs' i h same at = there (slice_get hs' i) refl
  where
    there : (o : Option Held) → slice_get hs' i ≡ o → (h' : Held) × (slice_get hs' i ≡ Some h')
    there (Some h') is = (h', is)
    there None is = absurd (cc (sym (ap (λ o. option_map pair_of o) is) ∙ (same_place hs hs' i same ∙ ap (λ o. option_map pair_of o) at)))

-- a mark changes neither number nor mode
mark_keeps : (n : ℕ) (ahead : Bool) (hs : List Held) → map pair_of (map (marked n ahead) hs) ≡ map pair_of hs
mark_keeps n ahead [] = refl
mark_keeps n ahead (h ∷ hs) =
    ap (λ p. p ∷ map pair_of (map (marked n ahead) hs)) (one (h.phaser == n)) ∙ ap (λ ps. pair_of h ∷ ps) (mark_keeps n ahead hs)
  where
    one : (b : Bool) → pair_of (if b then record h { ahead = ahead } else h) ≡ pair_of h
    one true = refl
    one false = refl

-- who owes no signal owes none at any place
owes_at_none : (hs : List Held) (i : ℕ) (h : Held) → OwesNone hs → slice_get hs i ≡ Some h → owes h ≡ true → ⊥
owes_at_none [] i h none at owed = cc at
owes_at_none (x ∷ hs) zero h none at owed = first (owes x) refl
  where
    first : (b : Bool) → owes x ≡ b → ⊥
    first true is = absurd (cc (sym (ap (λ c. if c then x ∷ filter owes hs else filter owes hs) is) ∙ none))
    first false is = true≢false (sym owed ∙ (sym (ap (λ y. owes y) (same_Some _ _ at)) ∙ is))
owes_at_none (x ∷ hs) (suc i) h none at owed = owes_at_none hs i h (rest (owes x) refl) at owed
  where
    rest : (b : Bool) → owes x ≡ b → filter owes hs ≡ []
    rest true is = absurd (cc (sym (ap (λ c. if c then x ∷ filter owes hs else filter owes hs) is) ∙ none))
    rest false is = sym (ap (λ c. if c then x ∷ filter owes hs else filter owes hs) is) ∙ none

-- nothing stands past the end of a list
before_end : (hs : List Held) (k i : ℕ) (h : Held) → drop k hs ≡ [] → slice_get hs i ≡ Some h → i < k
before_end [] k i h none at = absurd (cc at)
before_end (x ∷ hs) zero i h none at = absurd (cc none)
before_end (x ∷ hs) (suc k) zero h none at = omega arith
before_end (x ∷ hs) (suc k) (suc i) h none at = omega (arith, before_end hs k i h none at)

-- a phaser that isn't found isn't held
pub none_held : (hs : List Held) (n : ℕ) → is_some (find (λ h. h.phaser == n) hs) ≡ false → (i : ℕ) (h : Held) → slice_get hs i ≡ Some h
    → h.phaser ≡ n → ⊥
none_held [] n none i h at is = cc at
none_held (x ∷ hs) n none zero h at is =
    let here = eq-eqb x.phaser n (ap (λ (y : Held). y.phaser) (same_Some _ _ at) ∙ is) in
    true≢false (ap (λ (b : Bool). is_some (if b then Some x else find (λ h. h.phaser == n) hs)) (sym here) ∙ none)
none_held (x ∷ hs) n none (suc i) h at is = none_held hs n (rest (x.phaser == n) refl) i h at is
  where
    rest : (b : Bool) → (x.phaser == n) ≡ b → is_some (find (λ h. h.phaser == n) hs) ≡ false
    rest true here =
        absurd (true≢false (ap (λ (b : Bool). is_some (if b then Some x else find (λ h. h.phaser == n) hs)) (sym here) ∙ none))
    rest false other = sym (ap (λ (b : Bool). is_some (if b then Some x else find (λ h. h.phaser == n) hs)) other) ∙ none

-- the same phaser has one number
phaser_of : (hs : List Held) (i : ℕ) (h g : Held) → slice_get hs i ≡ Some h → slice_get hs i ≡ Some g → h.phaser ≡ g.phaser
phaser_of hs i h g one two = ap (λ x. x.phaser) (same_Some _ _ (sym one ∙ two))

is_least : (a b : ℕ) (i : ℕ) → i < min a b → i < a
is_least a b i lt = omega (arith, lt, min-le_left a b)

-- ---- what was just done

done_now : (e : Event) (seen now new : Story) → GoesOn seen now → HasJustDone e now new → HasDone e seen new
done_now e seen now new goes just = (
  [],
  just.0,
  just.1,
  (just.2.0 ++ goes.1.0, just.2.1 ∙ (ap (λ (h : List Event). just.2.0 ++ h) goes.1.1 ∙ sym (append_assoc just.2.0 goes.1.0 seen.past))),
)

passed_now : (task : ℕ) (seen now new : Story) → GoesOn seen now → HasJustPassed task now new → HasPassed task seen new
passed_now task seen now new goes just = (
  [],
  just.0,
  just.1,
  (just.2.0 ++ goes.1.0, just.2.1 ∙ (ap (λ (h : List Event). just.2.0 ++ h) goes.1.1 ∙ sym (append_assoc just.2.0 goes.1.0 seen.past))),
  just.3,
)

pub signal_own : (task : ℕ) (x : Option ℕ) (now new : Story) → HasJustDone (events.Sig task x) now new → IsOwn task new.past
signal_own task x now new just = subst (λ (h : List Event). IsOwn task h) (sym just.1) refl

pub pass_own : (task : ℕ) (now new : Story) → HasJustPassed task now new → IsOwn task new.past
pass_own task now new just = subst (λ (h : List Event). IsOwn task h) (sym just.1) (refl, just.3)

-- ---- from event to event

module _ (task : ℕ) (made : Option ℕ) (seen : Seen) (k : Known) (own : ℕ → ℕ) (stories : ℕ → Story) (log : List TracedEvent) where
  abbrev now : Seen
  now = record { own = own; stories = stories; holding = k.holding; log = log }

  -- of a phaser that it has just made the body hears that it made it, so of one of which it hears otherwise it saw no less
  goes_if_done : (n : ℕ) (answer : Answer) → ((m : ℕ) → made ≡ Some m → Some answer ≡ Some (Made m)) → SeesMoreBut made seen now
      → answer ≡ Done → GoesOn (seen.stories n) (stories n)
  goes_if_done n answer fits sees done = elim (sees.0 n) [
    | inl is ↦ absurd (cc (sym (fits n is) ∙ ap (λ a. Some a) done))
    | inr there ↦ there.0
  ]

  -- it has signalled everywhere once it owes no signal
  all_signalled : (x : Option ℕ) → HoldsTheSame seen now → OwesNone k.holding → IsSignalling x seen now → HasSignalledAll x seen now
  all_signalled x same none is = λ i h at owed.
      let there = held_now seen.holding k.holding i h same at in
      elim (is i h there.0 at there.1 owed) [
        | inl still ↦ absurd (owes_at_none k.holding i there.0 none there.1 still)
        | inr done ↦ done
      ]

  -- and has passed everywhere once nothing stands past the place to which it has come
  all_passed : (many : ℕ) → HoldsTheSame seen now → drop many k.holding ≡ [] → IsTurning many seen now → HasPassedAll seen now
  all_passed many same none is = λ i h at.
      let there = held_now seen.holding k.holding i h same at in
      is i h (before_end k.holding many i there.0 none there.1) at

  none_passed : HoldsTheSame seen now → k.holding ≡ [] → HasPassedAll seen now
  none_passed same none = λ i h at.
      let there = held_now seen.holding k.holding i h same at in
      absurd (cc (sym there.1 ∙ ap (λ hs. slice_get hs i) none))

  -- once nothing is left to make, what it hears is an answer
  carried_out : (asked : Asked) → IsDue None k → IsAsFar k.plan asked seen now → IsCarriedOut asked seen now
  carried_out heard.signal due is =
      let over = subst (λ (p : Plan). IsOver k.holding p) is.0 (is_over k due) in
      (is.1, all_signalled None is.1 over is.2)
  carried_out heard.wait due is =
      let over = subst (λ (p : Plan). IsOver k.holding p) is.1 (is_over k due) in
      (is.2, all_passed is.0 is.2 over is.3)
  carried_out (heard.next x) due (inl is) =
      let over = subst (λ (p : Plan). IsOver k.holding p) is.0 (is_over k due) in
      (is.1, all_signalled x is.1 over.0 is.2, none_passed is.1 over.1)
  carried_out (heard.next x) due (inr is) =
      let over = subst (λ (p : Plan). IsOver k.holding p) is.1 (is_over k due) in
      (is.2, is.3, all_passed is.0 is.2 over is.4)
  carried_out heard.nothing due is = tt
  carried_out (heard.make m terms) due is = tt
  carried_out (heard.send n a v) due is = tt
  carried_out (heard.look n a) due is = tt
  carried_out (heard.spawn to) due is = tt
  carried_out heard.opens due is = tt
  carried_out heard.shuts due is = tt
  carried_out heard.ends due is = tt

  pub is_answered : (asked : Asked) (answer : Answer) → IsDue None k → IsPending task k.plan asked (Some answer) seen now
      → IsAnswerTo task asked answer seen now
  is_answered asked answer due is =
      let it = is (idle_lives k due) in (it.0, carried_out asked due it.1)

  -- ---- it signals

  module _ (n : ℕ) (x : Option ℕ) (new : ℕ → Story) (more : HasSeenMore n stories new)
      (just : HasJustDone (events.Sig (own n) x) (stories n) (new n)) where
    abbrev signalled : Seen
    signalled = record { own = own; stories = new; holding = map (marked n true) k.holding; log = log }

    own_then : IsOwnOfEach seen now → IsOwnOfEach seen signalled
    own_then is = own_again n seen now new more (signal_own (own n) x (stories n) (new n) just) is

    holds_then : HoldsTheSame seen now → HoldsTheSame seen signalled
    holds_then same = mark_keeps n true k.holding ∙ same

    -- where it signals a phaser it owes there no more
    one_less : GoesOn (seen.stories n) (stories n) → HoldsTheSame seen now → IsSignalling x seen now → IsSignalling x seen signalled
    one_less goes same is = λ i h h' at there owed.
        by_place i h h' at owed (slice_get k.holding i) refl (sym (slice_get-map (marked n true) k.holding i) ∙ there)
      where
        by_number : (i : ℕ) (h g h' : Held) → slice_get seen.holding i ≡ Some h → slice_get k.holding i ≡ Some g → owes h ≡ true
            → marked n true g ≡ h' → (b : Bool) → (g.phaser == n) ≡ b
            → (owes h' ≡ true) ⊎ HasDone (events.Sig (own h.phaser) x) (seen.stories h.phaser) (new h.phaser)
        by_number i h g h' at before owed marks true here =
            let first = held_then seen.holding k.holding i g same before in
            let number : h.phaser ≡ n = phaser_of seen.holding i h first.0 at first.1 ∙ (first.2 ∙ eqb-true g.phaser n here) in
            inr (subst (λ (m : ℕ). HasDone (events.Sig (own m) x) (seen.stories m) (new m)) (sym number)
            (done_now (events.Sig (own n) x) (seen.stories n) (stories n) (new n) goes just))
        by_number i h g h' at before owed marks false other =
            let stays : g ≡ h' = sym (ap (λ (b : Bool). if b then record g { ahead = true } else g) other) ∙ marks in
            elim (is i h g at before owed) [
              | inl still ↦ inl (sym (ap (λ (y : Held). owes y) stays) ∙ still)
              | inr done ↦ inr (still_done (events.Sig (own h.phaser) x) (seen.stories h.phaser) (stories h.phaser) (new h.phaser)
                  (more.0 h.phaser) done)
            ]

        by_place : (i : ℕ) (h h' : Held) → slice_get seen.holding i ≡ Some h → owes h ≡ true → (o : Option Held) → slice_get k.holding i ≡ o
            → option_map (marked n true) (slice_get k.holding i) ≡ Some h'
            → (owes h' ≡ true) ⊎ HasDone (events.Sig (own h.phaser) x) (seen.stories h.phaser) (new h.phaser)
        by_place i h h' at owed (Some g) before marks =
            by_number i h g h' at before owed
            (same_Some _ _ (sym (ap (λ o. option_map (marked n true) o) before) ∙ marks)) (g.phaser == n) refl
        by_place i h h' at owed None before marks =
            absurd (cc (sym (ap (λ o. option_map (marked n true) o) before) ∙ marks))

    signals_on : (turns : Bool) → k.plan ≡ Signalling x turns → (asked : Asked) (answer : Answer)
        → (answer ≡ Done → GoesOn (seen.stories n) (stories n))
        → IsToldOf task asked answer seen now → IsAsFar k.plan asked seen now
        → IsToldOf task asked answer seen signalled × IsAsFar k.plan asked seen signalled
    signals_on turns with_it heard.signal Done goes told is =
        let number : x ≡ None = cc (sym with_it ∙ is.0) in (
          (told.0, own_then told.1),
          (
            is.0,
            holds_then is.1,
            subst (λ (y : Option ℕ). IsSignalling y seen signalled) number
                (one_less (goes refl) is.1 (subst (λ (y : Option ℕ). IsSignalling y seen now) (sym number) is.2)),
          ),
        )
    signals_on turns with_it (heard.next y) Done goes told (inl is) =
        let number : x ≡ y = cc (sym with_it ∙ is.0) in (
          (told.0, own_then told.1),
          inl (
            is.0,
            holds_then is.1,
            subst (λ (z : Option ℕ). IsSignalling z seen signalled) number
                (one_less (goes refl) is.1 (subst (λ (z : Option ℕ). IsSignalling z seen now) (sym number) is.2)),
          ),
        )
    signals_on turns with_it (heard.next y) Done goes told (inr is) = absurd (cc (sym with_it ∙ is.1))
    signals_on turns with_it heard.wait answer goes told is = absurd (cc (sym with_it ∙ is.1))
    signals_on turns with_it (heard.spawn to) answer goes told (inl is) = absurd (cc (sym with_it ∙ is))
    signals_on turns with_it (heard.spawn to) answer goes told (inr is) = absurd (cc (sym with_it ∙ is.3))
    signals_on turns with_it heard.shuts answer goes told (inl is) = absurd (cc (sym with_it ∙ is))
    signals_on turns with_it heard.shuts answer goes told (inr is) = absurd (cc (sym with_it ∙ is))
    signals_on turns with_it heard.ends answer goes told is = absurd is
    signals_on turns with_it heard.nothing answer goes told is = absurd (cc (sym with_it ∙ is))
    signals_on turns with_it (heard.make m terms) answer goes told is = absurd (cc (sym with_it ∙ is))
    signals_on turns with_it (heard.send m a v) answer goes told is = absurd (cc (sym with_it ∙ is))
    signals_on turns with_it (heard.look m a) answer goes told is = absurd (cc (sym with_it ∙ is))
    signals_on turns with_it heard.opens answer goes told is = absurd (cc (sym with_it ∙ is))
    signals_on turns with_it heard.signal Started goes told is = absurd told
    signals_on turns with_it heard.signal (Made m) goes told is = absurd told
    signals_on turns with_it heard.signal (Spawned c) goes told is = absurd told
    signals_on turns with_it heard.signal (Saw y) goes told is = absurd told
    signals_on turns with_it (heard.next y) Started goes told is = absurd told
    signals_on turns with_it (heard.next y) (Made m) goes told is = absurd told
    signals_on turns with_it (heard.next y) (Spawned c) goes told is = absurd told
    signals_on turns with_it (heard.next y) (Saw z) goes told is = absurd told

    pub pending_signalled : (asked : Asked) (answer : Option Answer)
        → ((m : ℕ) → made ≡ Some m → answer ≡ Some (Made m)) → SeesMoreBut made seen now
        → IsDue (Some (Phaser n (Sig k.number x))) k
        → IsPending task k.plan asked answer seen now → IsPending task k.plan asked answer seen signalled
    pending_signalled asked (Some answer) fits sees due is = λ lives.
        let with_it = signals_with k n x due lives in
        let it = is lives in
        signals_on with_it.0 with_it.1 asked answer (goes_if_done n answer fits sees) it.0 it.1
    pending_signalled asked None fits sees due is = tt

  -- ---- it passes

  module _ (n : ℕ) (new : ℕ → Story) (more : HasSeenMore n stories new) (just : HasJustPassed (own n) (stories n) (new n)) where
    abbrev turned : Seen
    turned = record { own = own; stories = new; holding = map (marked n false) k.holding; log = log }

    own_turned : IsOwnOfEach seen now → IsOwnOfEach seen turned
    own_turned is = own_again n seen now new more (pass_own (own n) (stories n) (new n) just) is

    holds_turned : HoldsTheSame seen now → HoldsTheSame seen turned
    holds_turned same = mark_keeps n false k.holding ∙ same

    signalled_turned : (x : Option ℕ) → HasSignalledAll x seen now → HasSignalledAll x seen turned
    signalled_turned x is = λ i h at owed.
        still_done (events.Sig (own h.phaser) x) (seen.stories h.phaser) (stories h.phaser) (new h.phaser) (more.0 h.phaser)
        (is i h at owed)

    -- at the place to which it had come it has passed now
    here_passed : (i : ℕ) → GoesOn (seen.stories n) (stories n) → HoldsTheSame seen now → StandsAt n i k.holding
        → (h : Held) → slice_get seen.holding i ≡ Some h
        → HasPassed (own h.phaser) (seen.stories h.phaser) (new h.phaser)
    here_passed i goes same stands h at =
        let first = held_then seen.holding k.holding i stands.0 same stands.1 in
        let number : h.phaser ≡ n = phaser_of seen.holding i h first.0 at first.1 ∙ (first.2 ∙ stands.2) in
        subst (λ (m : ℕ). HasPassed (own m) (seen.stories m) (new m)) (sym number)
        (passed_now (own n) (seen.stories n) (stories n) (new n) goes just)

    one_more : (i : ℕ) → GoesOn (seen.stories n) (stories n) → HoldsTheSame seen now → StandsAt n i k.holding → IsTurning i seen now
        → IsTurning (min (i + 1) 4294967295) seen turned
    one_more i goes same stands is = λ j h lt at. by_place j h lt at (cases_lt j i)
      where
        by_place : (j : ℕ) (h : Held) → j < min (i + 1) 4294967295 → slice_get seen.holding j ≡ Some h → (j < i) ⊎ (i ≤ j)
            → HasPassed (own h.phaser) (seen.stories h.phaser) (new h.phaser)
        by_place j h lt at (inl before) =
            still_passed (own h.phaser) (seen.stories h.phaser) (stories h.phaser) (new h.phaser) (more.0 h.phaser) (is j h before at)
        by_place j h lt at (inr from) =
            let least : j < i + 1 = is_least (i + 1) 4294967295 j lt in
            let there : j ≡ i = omega (arith, least, from) in
            here_passed i goes same stands h (sym (ap (λ m. slice_get seen.holding m) there) ∙ at)

    first_of_turn : GoesOn (seen.stories n) (stories n) → HoldsTheSame seen now → StandsAt n 0 k.holding → IsTurning 1 seen turned
    first_of_turn goes same stands = λ j h lt at.
        let there : j ≡ 0 = omega (arith, lt) in
        here_passed 0 goes same stands h (sym (ap (λ m. slice_get seen.holding m) there) ∙ at)

    passes_on : IsNextPass n k k.plan → (asked : Asked) (answer : Answer) → (answer ≡ Done → GoesOn (seen.stories n) (stories n))
        → IsToldOf task asked answer seen now
        → IsAsFar k.plan asked seen now
        → IsToldOf task asked answer seen turned × IsAsFar (passed_by k.plan) asked seen turned
    passes_on (inl first) (heard.next x) Done goes told (inl is) = (
      (told.0, own_turned told.1),
      inr (
        1,
        ap (λ p. passed_by p) is.0,
        holds_turned is.1,
        signalled_turned x (all_signalled x is.1 first.2 is.2),
        first_of_turn (goes refl) is.1 first.3,
      ),
    )
    passes_on (inl first) (heard.next x) Done goes told (inr is) = absurd (cc (sym first.1 ∙ is.1))
    passes_on (inr later) (heard.next x) Done goes told (inl is) = absurd (cc (sym later.1 ∙ is.0))
    passes_on (inr later) (heard.next x) Done goes told (inr is) =
        let place : later.0 ≡ is.0 = cc (sym later.1 ∙ is.1) in
        let stands = subst (λ (i : ℕ). StandsAt n i k.holding) place later.2 in (
          (told.0, own_turned told.1),
          inr (
            min (is.0 + 1) 4294967295,
            ap (λ p. passed_by p) is.1,
            holds_turned is.2,
            signalled_turned x is.3,
            one_more is.0 (goes refl) is.2 stands is.4,
          ),
        )
    passes_on (inl first) heard.wait Done goes told is = absurd (cc (sym first.1 ∙ is.1))
    passes_on (inr later) heard.wait Done goes told is =
        let place : later.0 ≡ is.0 = cc (sym later.1 ∙ is.1) in
        let stands = subst (λ (i : ℕ). StandsAt n i k.holding) place later.2 in (
          (told.0, own_turned told.1),
          (min (is.0 + 1) 4294967295, ap (λ p. passed_by p) is.1, holds_turned is.2, one_more is.0 (goes refl) is.2 stands is.3),
        )
    passes_on (inl first) heard.signal answer goes told is = absurd (cc (sym first.1 ∙ is.0))
    passes_on (inr later) heard.signal answer goes told is = absurd (cc (sym later.1 ∙ is.0))
    passes_on (inl first) (heard.spawn to) answer goes told (inl is) = absurd (cc (sym first.1 ∙ is))
    passes_on (inl first) (heard.spawn to) answer goes told (inr is) = absurd (cc (sym first.1 ∙ is.3))
    passes_on (inr later) (heard.spawn to) answer goes told (inl is) = absurd (cc (sym later.1 ∙ is))
    passes_on (inr later) (heard.spawn to) answer goes told (inr is) = absurd (cc (sym later.1 ∙ is.3))
    passes_on (inl first) heard.shuts answer goes told (inl is) = absurd (cc (sym first.1 ∙ is))
    passes_on (inl first) heard.shuts answer goes told (inr is) = absurd (cc (sym first.1 ∙ is))
    passes_on (inr later) heard.shuts answer goes told (inl is) = absurd (cc (sym later.1 ∙ is))
    passes_on (inr later) heard.shuts answer goes told (inr is) = absurd (cc (sym later.1 ∙ is))
    passes_on np heard.ends answer goes told is = absurd is
    passes_on (inl first) heard.nothing answer goes told is = absurd (cc (sym first.1 ∙ is))
    passes_on (inr later) heard.nothing answer goes told is = absurd (cc (sym later.1 ∙ is))
    passes_on (inl first) (heard.make m terms) answer goes told is = absurd (cc (sym first.1 ∙ is))
    passes_on (inr later) (heard.make m terms) answer goes told is = absurd (cc (sym later.1 ∙ is))
    passes_on (inl first) (heard.send m a v) answer goes told is = absurd (cc (sym first.1 ∙ is))
    passes_on (inr later) (heard.send m a v) answer goes told is = absurd (cc (sym later.1 ∙ is))
    passes_on (inl first) (heard.look m a) answer goes told is = absurd (cc (sym first.1 ∙ is))
    passes_on (inr later) (heard.look m a) answer goes told is = absurd (cc (sym later.1 ∙ is))
    passes_on (inl first) heard.opens answer goes told is = absurd (cc (sym first.1 ∙ is))
    passes_on (inr later) heard.opens answer goes told is = absurd (cc (sym later.1 ∙ is))
    passes_on np (heard.next x) Started goes told is = absurd told
    passes_on np (heard.next x) (Made m) goes told is = absurd told
    passes_on np (heard.next x) (Spawned c) goes told is = absurd told
    passes_on np (heard.next x) (Saw y) goes told is = absurd told
    passes_on np heard.wait Started goes told is = absurd told
    passes_on np heard.wait (Made m) goes told is = absurd told
    passes_on np heard.wait (Spawned c) goes told is = absurd told
    passes_on np heard.wait (Saw y) goes told is = absurd told

    pub pending_passed : (asked : Asked) (answer : Option Answer)
        → ((m : ℕ) → made ≡ Some m → answer ≡ Some (Made m)) → SeesMoreBut made seen now
        → IsDue (Some (Phaser n (Pass k.number))) k
        → IsPending task k.plan asked answer seen now → IsPending task (passed_by k.plan) asked answer seen turned
    pending_passed asked (Some answer) fits sees due is = λ lives.
        let lived = λ (e : k.plan ≡ Ending). lives (ap (λ p. passed_by p) e) in
        let it = is lived in
        passes_on (passes_next k n due lived) asked answer (goes_if_done n answer fits sees) it.0 it.1
    pending_passed asked None fits sees due is = tt

  -- ---- it leaves a phaser

  leaves_on : k.plan ≡ Shutting → (holding : List Held) (asked : Asked) (answer : Answer) → IsToldOf task asked answer seen now
      → IsAsFar k.plan asked seen now
      → IsToldOf task asked answer seen (record { own = own; stories = stories; holding = holding; log = log })
      × IsAsFar k.plan asked seen (record { own = own; stories = stories; holding = holding; log = log })
  leaves_on with_it holding heard.shuts Done told is = (told, is)
  leaves_on with_it holding heard.shuts Started told is = absurd told
  leaves_on with_it holding heard.shuts (Made m) told is = absurd told
  leaves_on with_it holding heard.shuts (Spawned c) told is = absurd told
  leaves_on with_it holding heard.shuts (Saw y) told is = absurd told
  leaves_on with_it holding heard.signal answer told is = absurd (cc (sym with_it ∙ is.0))
  leaves_on with_it holding heard.wait answer told is = absurd (cc (sym with_it ∙ is.1))
  leaves_on with_it holding (heard.next y) answer told (inl is) = absurd (cc (sym with_it ∙ is.0))
  leaves_on with_it holding (heard.next y) answer told (inr is) = absurd (cc (sym with_it ∙ is.1))
  leaves_on with_it holding (heard.spawn to) answer told (inl is) = absurd (cc (sym with_it ∙ is))
  leaves_on with_it holding (heard.spawn to) answer told (inr is) = absurd (cc (sym with_it ∙ is.3))
  leaves_on with_it holding heard.ends answer told is = absurd is
  leaves_on with_it holding heard.nothing answer told is = absurd (cc (sym with_it ∙ is))
  leaves_on with_it holding (heard.make m terms) answer told is = absurd (cc (sym with_it ∙ is))
  leaves_on with_it holding (heard.send m a v) answer told is = absurd (cc (sym with_it ∙ is))
  leaves_on with_it holding (heard.look m a) answer told is = absurd (cc (sym with_it ∙ is))
  leaves_on with_it holding heard.opens answer told is = absurd (cc (sym with_it ∙ is))

  pub pending_left : (n : ℕ) (holding : List Held) (asked : Asked) (answer : Option Answer) → IsDue (Some (Phaser n (Drop k.number))) k
      → IsPending task k.plan asked answer seen now
      → IsPending task k.plan asked answer seen (record { own = own; stories = stories; holding = holding; log = log })
  pending_left n holding asked (Some answer) due is = λ lives.
      let it = is lives in
      leaves_on (shuts_at_leaving k n k.number due lives) holding asked answer it.0 it.1
  pending_left n holding asked None due is = tt

-- ---- where the plan alone changes

module _ (task : ℕ) (seen now : Seen) where
  registers_on : (p : Plan) (asked : Asked) → IsAsFar p asked seen now → IsAsFar (registered_by p) asked seen now
  registers_on p heard.signal is = (ap (λ q. registered_by q) is.0, is.1, is.2)
  registers_on p heard.wait is = (is.0, ap (λ q. registered_by q) is.1, is.2, is.3)
  registers_on p (heard.next x) (inl is) = inl (ap (λ q. registered_by q) is.0, is.1, is.2)
  registers_on p (heard.next x) (inr is) = inr (is.0, ap (λ q. registered_by q) is.1, is.2, is.3, is.4)
  registers_on p (heard.spawn to) (inl is) = inl (ap (λ q. registered_by q) is)
  registers_on p (heard.spawn to) (inr is) = inr (is.0, is.1, min (is.2 + 1) 4294967295, ap (λ q. registered_by q) is.3)
  registers_on p heard.shuts (inl is) = inl (ap (λ q. registered_by q) is)
  registers_on p heard.shuts (inr is) = inr (ap (λ q. registered_by q) is)
  registers_on p heard.ends is = absurd is
  registers_on p heard.nothing is = ap (λ q. registered_by q) is
  registers_on p (heard.make m terms) is = ap (λ q. registered_by q) is
  registers_on p (heard.send n a v) is = ap (λ q. registered_by q) is
  registers_on p (heard.look n a) is = ap (λ q. registered_by q) is
  registers_on p heard.opens is = ap (λ q. registered_by q) is

  pub pending_registered : (p : Plan) (asked : Asked) (answer : Option Answer) → IsPending task p asked answer seen now
      → IsPending task (registered_by p) asked answer seen now
  pending_registered p asked (Some answer) is = λ lives.
      let it = is (λ e. lives (ap (λ q. registered_by q) e)) in (it.0, registers_on p asked it.1)
  pending_registered p asked None is = tt

  shuts_on : (p : Plan) (asked : Asked) → IsAsFar p asked seen now → IsAsFar (shut_by p) asked seen now
  shuts_on p heard.signal is = (ap (λ q. shut_by q) is.0, is.1, is.2)
  shuts_on p heard.wait is = (is.0, ap (λ q. shut_by q) is.1, is.2, is.3)
  shuts_on p (heard.next x) (inl is) = inl (ap (λ q. shut_by q) is.0, is.1, is.2)
  shuts_on p (heard.next x) (inr is) = inr (is.0, ap (λ q. shut_by q) is.1, is.2, is.3, is.4)
  shuts_on p (heard.spawn to) (inl is) = inl (ap (λ q. shut_by q) is)
  shuts_on p (heard.spawn to) (inr is) = inr (is.0, is.1, is.2, ap (λ q. shut_by q) is.3)
  shuts_on p heard.shuts (inl is) = inl (ap (λ q. shut_by q) is)
  shuts_on p heard.shuts (inr is) = inl (ap (λ q. shut_by q) is)
  shuts_on p heard.ends is = absurd is
  shuts_on p heard.nothing is = ap (λ q. shut_by q) is
  shuts_on p (heard.make m terms) is = ap (λ q. shut_by q) is
  shuts_on p (heard.send n a v) is = ap (λ q. shut_by q) is
  shuts_on p (heard.look n a) is = ap (λ q. shut_by q) is
  shuts_on p heard.opens is = ap (λ q. shut_by q) is

  pub pending_shut : (p : Plan) (asked : Asked) (answer : Option Answer) → IsPending task p asked answer seen now
      → IsPending task (shut_by p) asked answer seen now
  pending_shut p asked (Some answer) is = λ lives.
      let it = is (λ e. lives (ap (λ q. shut_by q) e)) in (it.0, shuts_on p asked it.1)
  pending_shut p asked None is = tt

  bears_on : (c : ℕ) (ps : List Pair) (made : ℕ) (p : Plan) → p ≡ Spawning c ps made → (asked : Asked) → IsAsFar p asked seen now
      → IsAsFar Idle asked seen now
  bears_on c ps made p with_it heard.signal is = absurd (cc (sym with_it ∙ is.0))
  bears_on c ps made p with_it heard.wait is = absurd (cc (sym with_it ∙ is.1))
  bears_on c ps made p with_it (heard.next x) (inl is) = absurd (cc (sym with_it ∙ is.0))
  bears_on c ps made p with_it (heard.next x) (inr is) = absurd (cc (sym with_it ∙ is.1))
  bears_on c ps made p with_it (heard.spawn to) is = inl refl
  bears_on c ps made p with_it heard.shuts (inl is) = absurd (cc (sym with_it ∙ is))
  bears_on c ps made p with_it heard.shuts (inr is) = absurd (cc (sym with_it ∙ is))
  bears_on c ps made p with_it heard.ends is = absurd is
  bears_on c ps made p with_it heard.nothing is = refl
  bears_on c ps made p with_it (heard.make m terms) is = refl
  bears_on c ps made p with_it (heard.send n a v) is = refl
  bears_on c ps made p with_it (heard.look n a) is = refl
  bears_on c ps made p with_it heard.opens is = refl

  pub pending_born : (k : Known) (f c : ℕ) (asked : Asked) (answer : Option Answer) → IsDue (Some (Finish f (Born c))) k
      → IsPending task k.plan asked answer seen now → IsPending task Idle asked answer seen now
  pending_born k f c asked (Some answer) due is = λ lives.
      let lived = birth_lives k f c due in
      let it = is lived in
      let with_it = spawns_at_birth k f c due lived in
      (it.0, bears_on with_it.0 with_it.1 with_it.2 k.plan with_it.3 asked it.1)
  pending_born k f c asked None due is = tt

-- a child that was never born may be handed a phaser, or taken off one
pub pending_newborn : (task : ℕ) (seen now new : Seen) (p : Plan) (asked : Asked) → new.log ≡ now.log
    → IsPending task p asked (Some Started) seen now → IsPending task p asked (Some Started) seen new
pending_newborn task seen now new p heard.nothing same is = λ lives. let it = is lives in (same ∙ it.0, it.1)
pending_newborn task seen now new p heard.signal same is = λ lives. absurd (is lives).0
pending_newborn task seen now new p heard.wait same is = λ lives. absurd (is lives).0
pending_newborn task seen now new p (heard.next x) same is = λ lives. absurd (is lives).0
pending_newborn task seen now new p (heard.spawn to) same is = λ lives. absurd (is lives).0
pending_newborn task seen now new p heard.shuts same is = λ lives. absurd (is lives).0
pending_newborn task seen now new p heard.ends same is = λ lives. absurd (is lives).0
pending_newborn task seen now new p (heard.make m terms) same is = λ lives. absurd (is lives).0
pending_newborn task seen now new p (heard.send n a v) same is = λ lives. absurd (is lives).0
pending_newborn task seen now new p (heard.look n a) same is = λ lives. absurd (is lives).0
pending_newborn task seen now new p heard.opens same is = λ lives. absurd (is lives).0

-- who comes to its end is about to hear nothing
pub pending_at_end : (task : ℕ) (seen now : Seen) (asked : Asked) (answer : Option Answer) → IsPending task Ending asked answer seen now
pending_at_end task seen now asked (Some answer) = λ lives. absurd (lives refl)
pending_at_end task seen now asked None = tt

-- ---- an act is begun

same_owes : (x : Option ℕ) (now new : Seen) → new.holding ≡ now.holding → IsSignalling x now new
same_owes x now new same = λ i h h' at there owed.
    inl (ap (λ (y : Held). owes y) (same_Some _ _ (sym there ∙ (ap (λ hs. slice_get hs i) same ∙ at))) ∙ owed)

module _ (task : ℕ) (k : Known) (own : ℕ → ℕ) (stories : ℕ → Story) (log : List TracedEvent) where
  abbrev knows : Seen
  knows = record { own = own; stories = stories; holding = k.holding; log = log }

  abbrev begins : Begun → Seen
  begins b = record { own = own; stories = stories; holding = k.holding; log = log ++ Begin task b ∷ [] }

  pub pending_begun : (b : Begun) (asked : Asked) → IsAskedFor b k.holding asked
      → IsPending task (plan_of b) asked (answer_of b) knows (begins b)
  pending_begun begun.Signal heard.signal is = λ lives. ((refl, λ n. inl refl), (refl, refl, same_owes None knows (begins begun.Signal) refl))
  pending_begun begun.Wait heard.wait is = λ lives. ((refl, λ n. inl refl), (0, refl, refl, λ i h lt at. absurd (omega (arith, lt))))
  pending_begun begun.Next (heard.next None) is = λ lives.
      ((refl, λ n. inl refl), inl (refl, refl, same_owes None knows (begins begun.Next) refl))
  pending_begun (begun.NextSingle n) (heard.next (Some m)) is = λ lives. (
    (ap (λ i. log ++ Begin task (begun.NextSingle i) ∷ []) is, λ n. inl refl),
    inl (ap (λ i. Signalling (Some i) true) is, refl, same_owes (Some m) knows (begins (begun.NextSingle n)) refl),
  )
  pending_begun (begun.Async c ps) (heard.spawn to) is = λ lives. (
    (ap (λ qs. log ++ Begin task (begun.Async c qs) ∷ []) is, refl, λ n. inl refl),
    inr (c, ps, 0, refl),
  )
  pending_begun begun.Shut heard.shuts is = λ lives. (refl, inr refl)
  pending_begun begun.End heard.ends is = tt
  pending_begun b asked is = absurd is
