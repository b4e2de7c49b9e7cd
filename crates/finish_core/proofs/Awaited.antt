-- In a legal history nothing follows the shut, and each task that was spawned has ended by then.
use Rattle.std.proofs.Common.{◌≡◌, ℕ, zero, ◌==◌, true, false, ◌||◌, not, List, [], ◌∷◌, ◌++◌, refl, ap, sym, ◌∙◌, inl, inr, subst, arith}
use Rattle.std.specs.List.{list_any, Contains}
use Rattle.std.proofs.lemmas.Bool.{and_parts, and_right, or_cases, or_left, or_right, false≢true, eqb-true, eq-eqb, false_from_ne_true}
use Rattle.std.proofs.lemmas.List.Folds.{list_any-append}
use Rattle.std.proofs.lemmas.List.Elements.{Contains-append_right}
use Rattle.phase_modes.specs.Lists.{is_empty}
use Rattle.finish_core.specs.declared.event.FinishEvent.{FinishEvent}
use Rattle.finish_core.specs.declared.event.FinishEvent.TheVariants.{Opened, Spawned, Ended, Shut}
use Rattle.finish_core.specs.Finish.{shuts, ends, is_open, is_spawned, has_ended, all_ended, is_allowed, is_legal_finish}
use Rattle.finish_core.specs.Laws.{EachSpawnedEnds, ShutAwaitsAll}
use Rattle.finish_core.proofs.Legal.{last_follows, spawn_follows, end_follows, ended_was_spawned, is_legal_finish-rest}
use Rattle.finish_core.proofs.Standing.{all_ended_at}

-- what stands in a list stands in a longer one
pub later_contains : (e : FinishEvent) (h : List FinishEvent) (x : FinishEvent) → Contains h x
    → Contains (e ∷ h) x
later_contains e h x k = Contains-append_right (e ∷ []) h x k

-- the test for an end finds it
contains_end : (h : List FinishEvent) (t : ℕ) → has_ended t h ≡ true → Contains h (Ended t)
contains_end [] t is = absurd cc
contains_end (Opened u ∷ h) t is = later_contains (Opened u) h (Ended t) (contains_end h t is)
contains_end (Spawned u ∷ h) t is = later_contains (Spawned u) h (Ended t) (contains_end h t is)
contains_end (Ended u ∷ h) t is =
    elim (or_cases (u == t) (has_ended t h) is) [
      | inl e ↦ (zero, omega arith, ap Ended (eqb-true u t e))
      | inr e ↦ later_contains (Ended u) h (Ended t) (contains_end h t e)
    ]
contains_end (Shut ∷ h) t is = later_contains Shut h (Ended t) (contains_end h t is)

-- what was spawned is spawned at each later moment
spawned_later : (later h : List FinishEvent) (t : ℕ) → is_spawned t h ≡ true
    → is_spawned t (later ++ h) ≡ true
spawned_later [] h t is = is
spawned_later (Opened u ∷ later) h t is = spawned_later later h t is
spawned_later (Spawned u ∷ later) h t is =
    or_right (u == t) (is_spawned t (later ++ h)) (spawned_later later h t is)
spawned_later (Ended u ∷ later) h t is = spawned_later later h t is
spawned_later (Shut ∷ later) h t is = spawned_later later h t is

-- a finish that was shut is not open
over : (later before : List FinishEvent) → is_open (later ++ Shut ∷ before) ≡ false
over later before =
    let h = later ++ Shut ∷ before in
    let shut : list_any shuts h ≡ true =
    list_any-append shuts later (Shut ∷ before) ∙ or_right (list_any shuts later) true refl in
    and_right (not (is_empty h)) (not (list_any shuts h)) (ap not shut)

-- nothing can follow a shut
nothing_follows : (tasks : ℕ) (later before : List FinishEvent) (e : FinishEvent)
    → is_allowed tasks (later ++ Shut ∷ before) e ≡ true → ⊥
nothing_follows tasks [] before (Opened u) k = false≢true k
nothing_follows tasks (d ∷ later) before (Opened u) k = false≢true k
nothing_follows tasks later before (Spawned u) k =
    false≢true (sym (over later before) ∙ (spawn_follows tasks (later ++ Shut ∷ before) u k).open_now)
nothing_follows tasks later before (Ended u) k =
    false≢true (sym (over later before) ∙ (end_follows tasks (later ++ Shut ∷ before) u k).open_now)
nothing_follows tasks later before Shut k =
    let h = later ++ Shut ∷ before in
    false≢true (sym (over later before) ∙ (and_parts (is_open h) (all_ended h) k).0)

-- where all have ended, each end came after its spawn
each_spawned_ends : (tasks : ℕ) (h : List FinishEvent) → is_legal_finish tasks h ≡ true → all_ended h ≡ true
    → EachSpawnedEnds h
each_spawned_ends tasks h k all later before t is =
    let whole = later ++ Spawned t ∷ before in
    let legal : is_legal_finish tasks whole ≡ true =
    subst (λ (g : List FinishEvent). is_legal_finish tasks g ≡ true) is k in
    let f =
    last_follows tasks before (Spawned t) (is_legal_finish-rest tasks later (Spawned t ∷ before) legal) in
    let new : is_spawned t before ≡ false = (spawn_follows tasks before t f.allowed).new in
    let not_before : has_ended t before ≡ false =
    false_from_ne_true (has_ended t before)
    (λ e. false≢true (sym new ∙ ended_was_spawned tasks before f.before t e))
    in
    let here : is_spawned t (Spawned t ∷ before) ≡ true =
    or_left (t == t) (is_spawned t before) (eq-eqb t t refl) in
    let spawned : is_spawned t h ≡ true =
    ap (λ (g : List FinishEvent). is_spawned t g) is ∙ spawned_later later (Spawned t ∷ before) t here in
    let ended : has_ended t whole ≡ true =
    ap (λ (g : List FinishEvent). has_ended t g) (sym is) ∙ all_ended_at h t all spawned in
    let either : (has_ended t later || has_ended t before) ≡ true =
    sym (list_any-append (ends t) later (Spawned t ∷ before)) ∙ ended in
    contains_end later t (
    elim (or_cases (has_ended t later) (has_ended t before) either) [
      | inl e ↦ e
      | inr e ↦ absurd (false≢true (sym not_before ∙ e))
    ]
    )

pub shut_awaits_all : ShutAwaitsAll
shut_awaits_all tasks h k [] before is =
    let legal : is_legal_finish tasks (Shut ∷ before) ≡ true =
    subst (λ (g : List FinishEvent). is_legal_finish tasks g ≡ true) is k in
    let f = last_follows tasks before Shut legal in (
      refl,
      each_spawned_ends tasks before f.before
          (and_parts (is_open before) (all_ended before) f.allowed).1,
    )
shut_awaits_all tasks h k (e ∷ later) before is =
    let legal : is_legal_finish tasks (e ∷ (later ++ Shut ∷ before)) ≡ true =
    subst (λ (g : List FinishEvent). is_legal_finish tasks g ≡ true) is k in
    absurd
    (nothing_follows tasks later before e (last_follows tasks (later ++ Shut ∷ before) e legal).allowed)
