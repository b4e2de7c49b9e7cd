-- In a legal history each event stands where it should.
use Rattle.std.proofs.Common.{◌≡◌, ℕ, zero, ◌==◌, Bool, true, false, List, [], ◌∷◌, ◌++◌, refl, ap, sym, ◌∙◌, inl, inr, subst, arith}
use Rattle.std.specs.List.{Contains}
use Rattle.std.specs.Option.{option_map_or}
use Rattle.std.proofs.lemmas.Bool.{or_cases, false≢true, eqb-true, eq-eqb}
use Rattle.std.proofs.lemmas.List.Folds.{list_any_at}
use Rattle.phase_modes.specs.Lists.{is_empty}
use Rattle.finish_core.specs.declared.event.FinishEvent.{FinishEvent}
use Rattle.finish_core.specs.declared.event.FinishEvent.TheVariants.{Opened, Spawned, Ended, Shut}
use Rattle.finish_core.specs.Finish.{spawned_by, ends, is_spawned, has_ended, is_legal_finish}
use Rattle.finish_core.specs.Laws.{IsOrderly, LegalIsOrderly}
use Rattle.finish_core.proofs.Past.{list_any-filter_map}
use Rattle.finish_core.proofs.Legal.{Follows, last_follows, spawn_follows, end_follows, is_legal_finish-rest}
use Rattle.finish_core.proofs.Awaited.{later_contains}

-- the test for a spawn finds it
contains_spawn : (h : List FinishEvent) (t : ℕ) → is_spawned t h ≡ true → Contains h (Spawned t)
contains_spawn [] t is = absurd cc
contains_spawn (Opened u ∷ h) t is = later_contains (Opened u) h (Spawned t) (contains_spawn h t is)
contains_spawn (Spawned u ∷ h) t is =
    elim (or_cases (u == t) (is_spawned t h) is) [
      | inl e ↦ (zero, omega arith, ap Spawned (eqb-true u t e))
      | inr e ↦ later_contains (Spawned u) h (Spawned t) (contains_spawn h t e)
    ]
contains_spawn (Ended u ∷ h) t is = later_contains (Ended u) h (Spawned t) (contains_spawn h t is)
contains_spawn (Shut ∷ h) t is = later_contains Shut h (Spawned t) (contains_spawn h t is)

-- and back
is_spawned-from_Contains : (h : List FinishEvent) (t : ℕ) → Contains h (Spawned t) → is_spawned t h ≡ true
is_spawned-from_Contains h t k =
    let test : FinishEvent → Bool = λ e. option_map_or (λ u. u == t) (spawned_by e) false in
    list_any-filter_map (λ u. u == t) spawned_by h
    ∙ list_any_at test h k.0 (Spawned t) k.1 (ap test k.2 ∙ eq-eqb t t refl)

-- an end that stands in it is found by the test
has_ended-from_Contains : (h : List FinishEvent) (t : ℕ) → Contains h (Ended t) → has_ended t h ≡ true
has_ended-from_Contains h t k = list_any_at (ends t) h k.0 (Ended t) k.1 (ap (ends t) k.2 ∙ eq-eqb t t refl)

empty : (h : List FinishEvent) → is_empty h ≡ true → h ≡ []
empty [] is = refl
empty (e ∷ h) is = absurd (false≢true is)

-- the first event of all is an opening
opens : (tasks : ℕ) (e : FinishEvent) → Follows tasks [] e → (t : ℕ) × (e ≡ Opened t)
opens tasks (Opened t) f = (t, refl)
opens tasks (Spawned t) f = absurd (false≢true f.allowed)
opens tasks (Ended t) f = absurd (false≢true f.allowed)
opens tasks Shut f = absurd (false≢true f.allowed)

module _ (tasks : ℕ) (h : List FinishEvent) (legal : is_legal_finish tasks h ≡ true) where
  -- what an event inside the history says
  follows_at : (later before : List FinishEvent) (e : FinishEvent) → h ≡ later ++ e ∷ before
      → Follows tasks before e
  follows_at later before e is =
      let whole : is_legal_finish tasks (later ++ e ∷ before) ≡ true =
      subst (λ (g : List FinishEvent). is_legal_finish tasks g ≡ true) is legal in
      last_follows tasks before e (is_legal_finish-rest tasks later (e ∷ before) whole)

  orderly : IsOrderly tasks h
  orderly = record {
    first_opens = λ later e is. opens tasks e (follows_at later [] e is);
    opens_first = λ later before t is. empty before (follows_at later before (Opened t) is).allowed;
    number_fits =
        λ later before t is.
        (spawn_follows tasks before t (follows_at later before (Spawned t) is).allowed).fits;
    spawned_once =
        λ later before t is k.
        false≢true (sym (spawn_follows tasks before t (follows_at later before (Spawned t) is).allowed).new
        ∙ is_spawned-from_Contains before t k);
    was_spawned =
        λ later before t is. contains_spawn before t
        (end_follows tasks before t (follows_at later before (Ended t) is).allowed).spawned;
    ended_once =
        λ later before t is k.
        false≢true (sym (end_follows tasks before t (follows_at later before (Ended t) is).allowed).running
        ∙ has_ended-from_Contains before t k);
  }

pub legal_is_orderly : LegalIsOrderly
legal_is_orderly tasks h legal = orderly tasks h legal
