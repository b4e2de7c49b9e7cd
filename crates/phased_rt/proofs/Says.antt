-- What bodies say of the parts they say of the trace.
use Rattle.std.proofs.Common.{◌≡◌, ◌≢◌, ◌⊎◌, inl, inr, ℕ, zero, suc, ◌+◌, ◌<◌, ◌==◌, true, List, [], ◌∷◌, ◌++◌, length, map, reverse, Some, slice_get, refl, sym, ap, subst, ◌∙◌, arith}
use Rattle.std.specs.List.{All, range_with_len}
use Rattle.std.proofs.lemmas.Bool.{cases_Bool, eqb-true, eq-eqb, true≢false}
use Rattle.std.proofs.lemmas.List.Elements.{All-nil, All-cons, All-head, All-tail}
use Rattle.std.proofs.lemmas.Option.{same_Some}
use Rattle.std.proofs.Math.Logic.{∥∥₁_map}
use Rattle.phase_modes.specs.declared.limits.Limits.{Limits}
use Rattle.phase_model.specs.Rules.{Story}
use Rattle.trace_model.specs.Explained.{past}
use Rattle.trace_model.specs.declared.event.TracedEvent.{TracedEvent}
use Rattle.trace_model.specs.Projections.{phaser, log, whose, projection, AreOf}
use Rattle.trace_model.specs.Run.{Entry}
use Rattle.told_history.specs.Stories.{GoesOn}
use Rattle.table_receipts.specs.Parts.{IsToldAt, HasShown}
use Rattle.told_history.proofs.Goes.{some_more}
use Rattle.tasks_in_flight.specs.Heard.{Seen}
use Rattle.task_remains.specs.Remaining.{AreLogsOf}
use Rattle.tasks_in_flight.specs.Said.{Saying, IsSaid, IsSeenBy, IsSaidOfRoot, IsSaidOf, AreSaid, has_end}
use Rattle.phased_rt.specs.Says.{story_in, SaysOfTrace, SaysOfEach}
use Rattle.phased_rt.proofs.Limited.{IsHad, told_is_had}

-- what a list of all numbers from k on has at place n
at_place : {X : Type 0} (f : ℕ → X) (k many n : ℕ) → n < many → slice_get (map f (range_with_len k many)) n ≡ Some (f (k + n))
at_place f k zero n within = absurd (omega (arith, within))
at_place f k (suc many) zero within =
    let same : k ≡ k + 0 = omega arith in ap (λ m. Some (f m)) same
at_place f k (suc many) (suc n) within =
    let same : k + 1 + n ≡ k + suc n = omega arith in
    at_place f (k + 1) many n (omega (arith, within)) ∙ ap (λ m. Some (f m)) same

-- what was seen begins the story that the trace tells, where it begins the one that the part does
goes_had : (l : Limits) (es : List Entry) (n : ℕ) (a s : Story) → GoesOn a s → s.limits ≡ l
    → IsHad n s (past (reverse es)) → GoesOn a (story_in l es n)
goes_had l es n a s goes limits had = (
  sym limits ∙ goes.0,
  (goes.1.0, had.events ∙ goes.1.1),
  λ some. had.terms (some_more goes.1.0 a.past s.past goes.1.1 some) ∙ goes.2 some,
)

-- the parts tell these stories, which are legal under these limits
abbrev AreStories : Limits → List (List Entry) → (ℕ → Story) → Type 0
AreStories l parts stories = (n : ℕ) → n < length parts → IsToldAt n (stories n) parts × ((stories n).limits ≡ l)

-- what is said of beginnings of the parts' stories is said of the trace
shown_of_trace : {G : Type 0} (Shows : G → (ℕ → Story) → Type 0) (l : Limits) (parts : List (List Entry)) (es : List Entry) (stories : ℕ → Story)
    → map (λ n. projection (phaser n) es) (range_with_len 0 (length parts)) ≡ parts → length parts ≡ l.phasers
    → AreStories l parts stories
    → (x : G) → ∥ HasShown Shows (length parts) stories x ∥₁ → ∥ HasShown Shows l.phasers (λ n. story_in l es n) x ∥₁
shown_of_trace Shows l parts es stories traced many are x shown =
    ∥∥₁_map shown (λ s. (s.0, s.1, λ n lt. begins n (s.0 n) (omega (arith, lt, many)) (s.2 n (omega (arith, lt, many)))))
  where
    own : (n : ℕ) → n < length parts → Some (projection (phaser n) es) ≡ slice_get parts n
    own n lt =
        let same : n ≡ 0 + n = omega arith in
        ap (λ (m : ℕ). Some (projection (phaser m) es)) same
        ∙ (sym (at_place (λ m. projection (phaser m) es) 0 (length parts) n lt)
        ∙ ap (λ (ps : List (List Entry)). slice_get ps n) traced)

    begins : (n : ℕ) (a : Story) → n < length parts → GoesOn a (stories n) → GoesOn a (story_in l es n)
    begins n a lt goes =
        let told = are n lt in
        let part = told.0 in
        goes_had l es n a (stories n) goes told.1
        (told_is_had n (stories n) part.0 es (same_Some _ _ (own n lt ∙ part.1)) part.2 part.3)

head_same : {X : Type 0} (x y : X) (xs ys : List X) → x ∷ xs ≡ y ∷ ys → x ≡ y
head_same x y xs ys same = cc

tail_same : {X : Type 0} (x y : X) (xs ys : List X) → x ∷ xs ≡ y ∷ ys → xs ≡ ys
tail_same x y xs ys same = cc

-- ---- what a task had noted

-- a part that is this task's, and is one of the logs as they were left, has no entry or is what the trace has of the task
own_traced : (es : List Entry) (t : ℕ) (ts : List ℕ) (ps : List (List Entry)) (i : ℕ) (own : List Entry)
    → map (λ u. projection (log u) es) ts ≡ ps → AreLogsOf ts ps → slice_get ps i ≡ Some own → AreOf (log t) own
    → (own ≡ []) ⊎ (projection (log t) es ≡ own)
own_traced es t [] [] i own traced of_tasks there its = absurd (cc there)
own_traced es t [] (p ∷ ps) i own traced of_tasks there its = absurd of_tasks
own_traced es t (u ∷ us) [] i own traced of_tasks there its = absurd of_tasks
own_traced es t (u ∷ us) (p ∷ ps) (suc i) own traced of_tasks there its =
    own_traced es t us ps i own (tail_same _ _ _ _ traced) of_tasks.1 there its
own_traced es t (u ∷ us) (p ∷ ps) zero [] traced of_tasks there its = inl refl
own_traced es t (u ∷ us) (p ∷ ps) zero (e ∷ own) traced of_tasks there its =
    inr (subst (λ (v : ℕ). projection (log v) es ≡ e ∷ own) (one_log u t same) (head_same _ _ _ _ traced ∙ all))
  where
    all : p ≡ e ∷ own
    all = same_Some _ _ there

    one_log : (u t : ℕ) → log u ≡ log t → u ≡ t
    one_log u t same = cc

    same : log u ≡ log t
    same =
        sym (All-head (λ (x : Entry). whose x.1 ≡ log u) e own (subst (λ (q : List Entry). AreOf (log u) q) all of_tasks.0))
        ∙ All-head (λ (x : Entry). whose x.1 ≡ log t) e own its

-- what a task had noted that has no entry begins any log
begins_any : (noted more all : List TracedEvent) → [] ≡ noted ++ more → all ≡ noted ++ all
begins_any [] more all none = refl
begins_any (x ∷ noted) more all none = absurd (cc none)

-- what it had noted, with which its part begins, begins what the trace has of it
seen_in_trace : (task : ℕ) (Holds : Seen → Type 0) (own all : List Entry) (stories : ℕ → Story) → (own ≡ []) ⊎ (all ≡ own)
    → IsSeenBy task Holds own stories → IsSeenBy task Holds all stories
seen_in_trace task Holds own all stories (inr same) seen = subst (λ (es : List Entry). IsSeenBy task Holds es stories) (sym same) seen
seen_in_trace task Holds own all stories (inl none) seen = (
  seen.0,
  seen.1,
  map (λ (e : Entry). e.1) all,
  seen.3,
  begins_any seen.1 seen.2 (map (λ (e : Entry). e.1) all) (sym (ap (λ (es : List Entry). map (λ (e : Entry). e.1) es) none) ∙ seen.4),
)

-- what the root's body says of the parts it says of the trace, which has each log as it was left
pub says_of_trace : {B : Type 0} (Shows : Saying B) (l : Limits) (parts logs : List (List Entry)) (owners : List ℕ) (es : List Entry) (root : B)
    → map (λ n. projection (phaser n) es) (range_with_len 0 (length parts)) ≡ parts → length parts ≡ l.phasers
    → map (λ t. projection (log t) es) owners ≡ logs → AreLogsOf owners logs
    → IsSaid Shows l parts logs root → SaysOfTrace Shows l es root
says_of_trace {B} Shows l parts logs owners es root traced many left own said =
    let noted = own_traced es 0 owners logs said.2.0 said.2.1 left own said.2.2 said.2.3 in
    shown_of_trace (λ (b : B) s. IsSeenBy 0 (λ seen. IsSaidOfRoot Shows b seen) (projection (log 0) es) s) l parts es said.0 traced many said.1 root
    (∥∥₁_map said.2.4 (λ s. (
      s.0,
      seen_in_trace 0 (λ seen. IsSaidOfRoot Shows root seen) said.2.1 (projection (log 0) es) s.0 noted s.1,
      s.2,
    )))

-- ---- of each task that has ended

-- this is so of the trace's entries of this task, which are a part of their own, or the task is none of these
part_or_none : (Is : List Entry → Type 0) (es : List Entry) (t : ℕ) (ts : List ℕ) (ps : List (List Entry))
    → map (λ u. projection (log u) es) ts ≡ ps → AreLogsOf ts ps → All Is ps
    → (Is (projection (log t) es) × AreOf (log t) (projection (log t) es)) ⊎ All (λ u. u ≢ t) ts
part_or_none Is es t [] ps traced own all = inr (All-nil (λ u. u ≢ t))
part_or_none Is es t (u ∷ us) [] traced own all = absurd own
part_or_none Is es t (u ∷ us) (p ∷ ps) traced own all =
    elim (cases_Bool (u == t)) [
      | inl same ↦ inl (subst (λ (v : ℕ). Is (projection (log v) es) × AreOf (log v) (projection (log v) es)) (eqb-true u t same) here)
      | inr other ↦ elim (part_or_none Is es t us ps (tail_same _ _ _ _ traced) own.1 (All-tail Is p ps all)) [
        | inl is ↦ inl is
        | inr others ↦ inr (All-cons (λ v. v ≢ t) u us (λ same. true≢false (sym (eq-eqb u t same) ∙ other)) others)
      ]
    ]
  where
    here : Is (projection (log u) es) × AreOf (log u) (projection (log u) es)
    here = (
      subst Is (sym (head_same _ _ _ _ traced)) (All-head Is p ps all),
      subst (λ (q : List Entry). AreOf (log u) q) (sym (head_same _ _ _ _ traced)) own.0,
    )

-- what is told of each task whose log has its end is told of each that has ended in the trace, which has each log as it
-- was left, and no entry of others
pub each_of_trace : {B : Type 0} (Shows : Saying B) (l : Limits) (parts logs : List (List Entry)) (owners : List ℕ) (es : List Entry)
    → map (λ n. projection (phaser n) es) (range_with_len 0 (length parts)) ≡ parts → length parts ≡ l.phasers
    → map (λ t. projection (log t) es) owners ≡ logs → AreLogsOf owners logs
    → ((t : ℕ) → All (λ u. u ≢ t) owners → projection (log t) es ≡ [])
    → AreSaid (IsSaidOf Shows) l parts logs → SaysOfEach Shows l es
each_of_trace {B} Shows l parts logs owners es traced many left own none said t ended =
    elim (part_or_none Is es t owners logs left own said.2) [
      | inl is ↦
          shown_of_trace (λ u s. IsSeenBy u (IsSaidOf Shows u) (projection (log t) es) s) l parts es said.0 traced many said.1 t (is.0 t is.1 ended)
      | inr others ↦ absurd (true≢false (sym ended ∙ ap has_end (none t others)))
    ]
  where
    Is : List Entry → Type 0
    Is p =
        (task : ℕ) → AreOf (log task) p → has_end p ≡ true
        → ∥ HasShown (λ u s. IsSeenBy u (IsSaidOf Shows u) p s) (length parts) said.0 task ∥₁
