-- What a task counts stays right with what it hears.
use Rattle.std.proofs.Common.{◌≡◌, ◌≤◌, ◌+◌, ℕ, zero, suc, inl, inr, Bool, true, false, cond, List, [], ◌∷◌, ◌++◌, length, length-append, filter, map, Some, None, slice_get, refl, sym, subst, ap, ◌∙◌, arith}
use Rattle.std.proofs.lemmas.Bool.{cases_Bool, eq-eqb, true≢false}
use Rattle.std.proofs.lemmas.List.Elements.{filter-append}
use Rattle.std.proofs.lemmas.Option.{same_Some}
use Rattle.phase_modes.specs.declared.phased.Pair.{Pair}
use Rattle.phase_modes.specs.declared.reg.Mode.{Mode}
use Rattle.phase_model.specs.declared.history.Event.{Event}
use Rattle.phase_model.specs.declared.history.Event.TheVariants.{Pass}
use Rattle.phase_model.specs.declared.terms.Terms.{Terms}
use Rattle.phase_model.specs.Rules.{Story}
use Rattle.world_model.specs.declared.event.Begun.TheVariants as begun
use Rattle.trace_model.specs.declared.event.TracedEvent.{TracedEvent}
use Rattle.trace_model.specs.declared.event.TracedEvent.TheVariants.{Begin}
use Rattle.job_script.specs.declared.act.Answer.{Answer}
use Rattle.job_script.specs.declared.act.Answer.TheVariants.{Started, Done, Made, Spawned, Saw}
use Rattle.task_standing.specs.declared.held.Held.{Held}
use Rattle.task_standing.specs.Standing.{pair_of}
use Rattle.tasks_in_flight.specs.Heard.{Asked, Seen, SeesMoreOf, HasPassed, HoldsMore, HoldsNot, IsAnswerTo, IsHeard, made_by, pairs_for}
use Rattle.tasks_in_flight.specs.Heard as heard
use Rattle.own_body.specs.declared.counts.Counts.{Counts}
use Rattle.own_body.specs.Turns.{none as uncounted, passes, spawns, is_pass, is_spawn, HoldsFirst, TakesNone, AreCounted}

-- ---- how many of a list pass a test

pub many : {X : Type 0} (test : X → Bool) (xs ys : List X) → length (filter test (xs ++ ys)) ≡ length (filter test xs) + length (filter test ys)
many {X} test xs ys = ap (λ (zs : List X). length zs) (filter-append test xs ys) ∙ length-append (filter test xs) (filter test ys)

-- no fewer with more before them, and one more with one that passes
pub no_fewer : {X : Type 0} (test : X → Bool) (newer old now : List X) → now ≡ newer ++ old → length (filter test old) ≤ length (filter test now)
no_fewer {X} test newer old now is =
    omega (arith, ap (λ (zs : List X). length (filter test zs)) is, many test newer old)

one_more : {X : Type 0} (test : X → Bool) (x : X) (xs : List X) → test x ≡ true → length (filter test (x ∷ xs)) ≡ length (filter test xs) + 1
one_more {X} test x xs is =
    let one : length (filter test (x ∷ xs)) ≡ length (x ∷ filter test xs) =
    ap (λ (b : Bool). length (cond b (x ∷ filter test xs) (filter test xs))) is in
    omega (arith, one)

-- ---- a phaser that is made

-- who hears of a phaser that was made hears that it made it
pub made_is : (answer : Answer) (n : ℕ) → made_by answer ≡ Some n → answer ≡ Made n
made_is (Made k) n is = ap (λ (m : ℕ). Made m) (same_Some _ _ is)
made_is Started n is = absurd (cc is)
made_is Done n is = absurd (cc is)
made_is (Spawned c) n is = absurd (cc is)
made_is (Saw x) n is = absurd (cc is)

-- and asked for it
pub asked_to_make : (task n : ℕ) (asked : Asked) (seen now : Seen) → IsAnswerTo task asked (Made n) seen now
    → (m : Mode) × (terms : Terms) × (asked ≡ heard.make m terms)
asked_to_make task n (heard.make m terms) seen now is = (m, terms, refl)
asked_to_make task n heard.nothing seen now is = absurd is.0
asked_to_make task n (heard.send k a v) seen now is = absurd is.0
asked_to_make task n (heard.look k a) seen now is = absurd is.0
asked_to_make task n heard.signal seen now is = absurd is.0
asked_to_make task n heard.wait seen now is = absurd is.0
asked_to_make task n (heard.next x) seen now is = absurd is.0
asked_to_make task n (heard.spawn to) seen now is = absurd is.0
asked_to_make task n heard.opens seen now is = absurd is.0
asked_to_make task n heard.shuts seen now is = absurd is.0
asked_to_make task n heard.ends seen now is = absurd is.0

-- and holds none of its number
not_held : (task n : ℕ) (asked : Asked) (seen now : Seen) → IsAnswerTo task asked (Made n) seen now → HoldsNot n seen
not_held task n asked seen now is =
    let asks = asked_to_make task n asked seen now is in
    let to_make : IsAnswerTo task (heard.make asks.0 asks.1) (Made n) seen now =
    subst (λ (a : Asked). IsAnswerTo task a (Made n) seen now) asks.2 is in
    to_make.0.2

-- who holds phaser 0 sees no less of it
held_goes_on : (task : ℕ) (asked : Asked) (answer : Answer) (seen now : Seen) → HoldsFirst seen → IsHeard task asked answer seen now
    → SeesMoreOf 0 seen now
held_goes_on task asked answer seen now holds is =
    elim (is.0.0 0) [
      | inl made ↦
          absurd (not_held task 0 asked seen now (subst (λ (a : Answer). IsAnswerTo task asked a seen now) (made_is answer 0 made) is.1)
          holds.0 holds.1 holds.2 holds.3)
      | inr more ↦ more
    ]

-- ---- turns

-- a task that passed has passed once more than it had seen
passed_again : (task : ℕ) (seen now : Story) → HasPassed task seen now → passes task seen.past + 1 ≤ passes task now.past
passed_again task seen now passed =
    let test : Event → Bool = λ e. is_pass task e in
    let before = passed.1 in
    omega (
      arith,
      no_fewer test passed.3.0 seen.past before passed.3.1,
      one_more test (Pass task) before (eq-eqb task task refl),
      no_fewer test passed.0 (Pass task ∷ before) now.past passed.2,
    )

-- who asked for its next phase, and held phaser 0, has passed there
passes_first : (task : ℕ) (asked : Asked) (answer : Answer) (seen now : Seen) → asked ≡ heard.next None → HoldsFirst seen
    → IsAnswerTo task asked answer seen now → HasPassed (now.own 0) (seen.stories 0) (now.stories 0)
passes_first task asked answer seen now turns holds is =
    let to_next : IsAnswerTo task (heard.next None) answer seen now = subst (λ (a : Asked). IsAnswerTo task a answer seen now) turns is in
    subst (λ (n : ℕ). HasPassed (now.own n) (seen.stories n) (now.stories n)) holds.3 (to_next.1.2 holds.0 holds.1 holds.2)

-- it has passed phaser 0 no less often than it counts, also with what is heard; before it holds that no turn is counted
pub turns_on : (task turns new : ℕ) (held one : Bool) (asked : Asked) (answer : Answer) (seen now : Seen)
    → (one ≡ true → asked ≡ heard.next None) → (held ≡ true → HoldsFirst seen) → (held ≡ false → turns ≡ 0)
    → (held ≡ false → one ≡ false) → (one ≡ false → new ≡ turns) → new ≤ turns + 1
    → turns ≤ passes (seen.own 0) (seen.stories 0).past
    → IsHeard task asked answer seen now → new ≤ passes (now.own 0) (now.stories 0).past
turns_on task turns new held one asked answer seen now next holds uncounted_yet unheld same more right is =
    elim (cases_Bool held) [
      | inr not ↦ omega (arith, same (unheld not), uncounted_yet not)
      | inl is_held ↦
          let sees = held_goes_on task asked answer seen now (holds is_held) is in
          let goes = sees.0 in
          let known : turns ≤ passes (now.own 0) (seen.stories 0).past =
          subst (λ (own : ℕ). turns ≤ passes own (seen.stories 0).past) (sym sees.1) right in
          elim (cases_Bool one) [
            | inl is_one ↦
                omega (
                  arith,
                  more,
                  known,
                  passed_again (now.own 0) (seen.stories 0) (now.stories 0) (passes_first task asked answer seen now (next is_one) (holds is_held) is.1),
                )
            | inr none ↦
                omega (
                  arith,
                  same none,
                  known,
                  no_fewer (λ e. is_pass (now.own 0) e) goes.1.0 (seen.stories 0).past (now.stories 0).past goes.1.1,
                )
          ]
    ]

-- ---- children

-- who hears of a child has spawned one more
spawned_again : (task child : ℕ) (asked : Asked) (seen now : Seen) → IsAnswerTo task asked (Spawned child) seen now
    → spawns task now.log ≡ spawns task seen.log + 1
spawned_again task child (heard.spawn to) seen now is =
    let test : TracedEvent → Bool = λ e. is_spawn task e in
    let e = Begin task (begun.Async child (pairs_for to seen.holding)) in
    omega (
      arith,
      ap (λ (l : List TracedEvent). length (filter test l)) is.0.0,
      many test seen.log (e ∷ []),
      one_more test e [] (eq-eqb task task refl),
    )
spawned_again task child heard.nothing seen now is = absurd is.0
spawned_again task child (heard.make m terms) seen now is = absurd is.0
spawned_again task child (heard.send n a v) seen now is = absurd is.0
spawned_again task child (heard.look n a) seen now is = absurd is.0
spawned_again task child heard.signal seen now is = absurd is.0
spawned_again task child heard.wait seen now is = absurd is.0
spawned_again task child (heard.next x) seen now is = absurd is.0
spawned_again task child heard.opens seen now is = absurd is.0
spawned_again task child heard.shuts seen now is = absurd is.0
spawned_again task child heard.ends seen now is = absurd is.0

pub children_on : (task children new : ℕ) (one : Bool) (asked : Asked) (answer : Answer) (seen now : Seen)
    → (one ≡ true → (child : ℕ) × (answer ≡ Spawned child)) → (one ≡ false → new ≡ children) → new ≤ children + 1
    → children ≤ spawns task seen.log → IsHeard task asked answer seen now → new ≤ spawns task now.log
children_on task children new one asked answer seen now spawned same more right is =
    elim (cases_Bool one) [
      | inl is_one ↦
          let child = spawned is_one in
          omega (arith, more, right, spawned_again task child.0 asked seen now (subst (λ (a : Answer). IsAnswerTo task asked a seen now) child.1 is.1))
      | inr none ↦
          let longer = is.0.1 in
          omega (
            arith,
            same none,
            right,
            ap (λ (l : List TracedEvent). spawns task l) longer.1,
            many (λ e. is_spawn task e) seen.log longer.0,
          )
    ]

-- ---- what it holds

-- a place that has this keeps it where the list grows, and where the pairs are the same
still_there : {X : Type 0} (xs ys : List X) (i : ℕ) (x : X) → slice_get xs i ≡ Some x → slice_get (xs ++ ys) i ≡ Some x
still_there [] ys i x at = absurd (cc at)
still_there (y ∷ xs) ys zero x at = at
still_there (y ∷ xs) ys (suc i) x at = still_there xs ys i x at

last_there : {X : Type 0} (xs : List X) (x : X) → slice_get (xs ++ x ∷ []) (length xs) ≡ Some x
last_there [] x = refl
last_there (y ∷ xs) x = last_there xs x

pair_there : (hs : List Held) (i : ℕ) (h : Held) → slice_get hs i ≡ Some h → slice_get (map pair_of hs) i ≡ Some (pair_of h)
pair_there [] i h at = absurd (cc at)
pair_there (x ∷ hs) zero h at = ap (λ (y : Held). Some (pair_of y)) (same_Some _ _ at)
pair_there (x ∷ hs) (suc i) h at = pair_there hs i h at

held_there : (hs : List Held) (i : ℕ) (p : Pair) → slice_get (map pair_of hs) i ≡ Some p
    → (h : Held) × (slice_get hs i ≡ Some h) × (pair_of h ≡ p)
held_there [] i p at = absurd (cc at)
held_there (x ∷ hs) zero p at = (x, refl, same_Some _ _ at)
held_there (x ∷ hs) (suc i) p at = held_there hs i p at

holds_same : (seen now : Seen) → now.holding ≡ seen.holding → HoldsFirst seen → HoldsFirst now
holds_same seen now same holds = (holds.0, holds.1, ap (λ (hs : List Held). slice_get hs holds.0) same ∙ holds.2, holds.3)

holds_pairs : (seen now : Seen) → map pair_of now.holding ≡ map pair_of seen.holding → HoldsFirst seen → HoldsFirst now
holds_pairs seen now same holds =
    let it =
    held_there now.holding holds.0 (pair_of holds.1)
    (ap (λ (ps : List Pair). slice_get ps holds.0) same ∙ pair_there seen.holding holds.0 holds.1 holds.2) in
    (holds.0, it.0, it.1, ap (λ (p : Pair). p.phaser) it.2 ∙ holds.3)

holds_more : (n : ℕ) (m : Mode) (seen now : Seen) → HoldsMore n m seen now → HoldsFirst seen → HoldsFirst now
holds_more n m seen now more holds = (
  holds.0,
  holds.1,
  ap (λ (hs : List Held). slice_get hs holds.0) more.0.1 ∙ still_there seen.holding _ holds.0 holds.1 holds.2,
  holds.3,
)

-- what it held it still holds, unless it asked for nothing or to shut a finish
pub holds_still : (task : ℕ) (asked : Asked) (answer : Answer) (seen now : Seen) → TakesNone asked → HoldsFirst seen
    → IsAnswerTo task asked answer seen now → HoldsFirst now
holds_still task heard.nothing answer seen now takes holds is = absurd takes
holds_still task heard.shuts answer seen now takes holds is = absurd takes
holds_still task heard.signal answer seen now takes holds is = holds_pairs seen now is.1.0 holds
holds_still task heard.wait answer seen now takes holds is = holds_pairs seen now is.1.0 holds
holds_still task (heard.next x) answer seen now takes holds is = holds_pairs seen now is.1.0 holds
holds_still task (heard.make m terms) (Made n) seen now takes holds is = holds_more n m seen now is.0.1 holds
holds_still task (heard.make m terms) Started seen now takes holds is = absurd is.0
holds_still task (heard.make m terms) Done seen now takes holds is = absurd is.0
holds_still task (heard.make m terms) (Spawned c) seen now takes holds is = absurd is.0
holds_still task (heard.make m terms) (Saw x) seen now takes holds is = absurd is.0
holds_still task (heard.send n a v) Done seen now takes holds is = holds_same seen now is.0.1.0 holds
holds_still task (heard.send n a v) Started seen now takes holds is = absurd is.0
holds_still task (heard.send n a v) (Made m) seen now takes holds is = absurd is.0
holds_still task (heard.send n a v) (Spawned c) seen now takes holds is = absurd is.0
holds_still task (heard.send n a v) (Saw x) seen now takes holds is = absurd is.0
holds_still task (heard.look n a) (Saw x) seen now takes holds is = holds_same seen now is.0.1.0 holds
holds_still task (heard.look n a) Started seen now takes holds is = absurd is.0
holds_still task (heard.look n a) Done seen now takes holds is = absurd is.0
holds_still task (heard.look n a) (Made m) seen now takes holds is = absurd is.0
holds_still task (heard.look n a) (Spawned c) seen now takes holds is = absurd is.0
holds_still task (heard.spawn to) (Spawned c) seen now takes holds is = holds_same seen now is.0.1 holds
holds_still task (heard.spawn to) Started seen now takes holds is = absurd is.0
holds_still task (heard.spawn to) Done seen now takes holds is = absurd is.0
holds_still task (heard.spawn to) (Made m) seen now takes holds is = absurd is.0
holds_still task (heard.spawn to) (Saw x) seen now takes holds is = absurd is.0
holds_still task heard.opens Done seen now takes holds is = holds_same seen now is.0.0 holds
holds_still task heard.opens Started seen now takes holds is = absurd is.0
holds_still task heard.opens (Made m) seen now takes holds is = absurd is.0
holds_still task heard.opens (Spawned c) seen now takes holds is = absurd is.0
holds_still task heard.opens (Saw x) seen now takes holds is = absurd is.0
holds_still task heard.ends answer seen now takes holds is = absurd is.0

-- who hears that it made phaser 0 holds it
holds_made : (task : ℕ) (asked : Asked) (seen now : Seen) → IsAnswerTo task asked (Made 0) seen now → HoldsFirst now
holds_made task (heard.make m terms) seen now is =
    let more = is.0.1 in
    (length seen.holding, _, ap (λ (hs : List Held). slice_get hs (length seen.holding)) more.0.1 ∙ last_there seen.holding _, refl)
holds_made task heard.nothing seen now is = absurd is.0
holds_made task (heard.send n a v) seen now is = absurd is.0
holds_made task (heard.look n a) seen now is = absurd is.0
holds_made task heard.signal seen now is = absurd is.0
holds_made task heard.wait seen now is = absurd is.0
holds_made task (heard.next x) seen now is = absurd is.0
holds_made task (heard.spawn to) seen now is = absurd is.0
holds_made task heard.opens seen now is = absurd is.0
holds_made task heard.shuts seen now is = absurd is.0
holds_made task heard.ends seen now is = absurd is.0

pub made_first : (task : ℕ) (asked : Asked) (answer : Answer) (seen now : Seen) → answer ≡ Made 0 → IsAnswerTo task asked answer seen now
    → HoldsFirst now
made_first task asked answer seen now first is =
    holds_made task asked seen now (subst (λ (a : Answer). IsAnswerTo task asked a seen now) first is)

-- ---- before its first act

none_counted : (task : ℕ) (seen : Seen) → AreCounted task uncounted seen
none_counted task seen = (omega arith, omega arith, (λ held. absurd (true≢false (sym held))), λ unheld. refl)

pub counted_at_first : (task : ℕ) (c : Counts) (seen : Seen) → c ≡ uncounted → AreCounted task c seen
counted_at_first task c seen is = subst (λ (d : Counts). AreCounted task d seen) (sym is) (none_counted task seen)
