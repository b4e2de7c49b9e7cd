-- What refuses an act by what the task knows is what refuses it by a history that has the task so.
use Rattle.std.proofs.Common.{◌≡◌, ℕ, suc, ◌+◌, ◌==◌, Bool, true, false, ◌&&◌, not, cond, List, [], ◌∷◌, map, length, Option, Some, None, is_some, unwrap_or, refl, ap, ◌∙◌, inl, inr, arith}
use Rattle.std.specs.Prelude.{find, slice_index_or}
use Rattle.std.specs.List.{list_any, list_all}
use Rattle.std.specs.Option.{option_map_or}
use Rattle.std.proofs.lemmas.Bool.{cases_Bool, eqb-true, false≢true}
use Rattle.phase_modes.specs.Lists.{is_empty}
use Rattle.phase_modes.specs.Mode.{can_signal, can_single, is_within}
use Rattle.phase_modes.specs.declared.limits.Limits.{Limits}
use Rattle.phase_modes.specs.declared.reg.Mode.{Mode}
use Rattle.phase_modes.specs.declared.reg.Mode.TheVariants.{Wait as Waiting}
use Rattle.phase_modes.specs.Refusal.{first_refusal}
use Rattle.phase_model.specs.declared.history.Event.{Event}
use Rattle.phase_model.specs.Tasks.{is_registered, is_live, is_dropped, mode_of, has_mode}
use Rattle.phase_model.specs.Phases.{waits, signals}
use Rattle.phase_model.proofs.LiveTasks.{mode_known}
use Rattle.world_model.specs.declared.event.Tried.{Tried}
use Rattle.world_model.specs.declared.event.WorldEvent.{WorldEvent}
use Rattle.world_model.specs.Parts.{phaser_past}
use Rattle.world_model.specs.Tasks.{phasers_of}
use Rattle.world_model.specs.Scopes.{open_finishes, inner}
use Rattle.world_model.specs.Due.{is_ahead, is_behind, is_idle}
use Rattle.world_model.specs.Acts as history
use Rattle.world_model.specs.Acts.{act_conditions, is_number_used}
use Rattle.world_model.specs.Replies.{is_legal_world}
use Rattle.world_model.proofs.FactsAlike.{Alike, own_alike}
use Rattle.world_model.proofs.PhasersOnce.{times, phasers_once}
use Rattle.task_standing.specs.declared.held.Held.{Held}
use Rattle.task_standing.specs.Known.{Known}
use Rattle.task_standing.specs.Standing.{owes, inner_of}
use Rattle.task_standing.specs.Histories.{held_in, IsOf}
use Rattle.task_standing.specs.inner.Conditions.{held_on, facts, try_conditions}

-- what is known of a phaser is found where it stands in the list
found_in : (w : List WorldEvent) (t n : ℕ) (ns : List ℕ)
    → find (λ h. h.phaser == n) (map (held_in w t) ns) ≡ cond (list_any (λ m. m == n) ns) (Some (held_in w t n)) None
found_in w t n [] = refl
found_in w t n (m ∷ ns) =
    elim (cases_Bool (m == n)) [
      | inl e ↦ rw e (ap (λ x. Some (held_in w t x)) (eqb-true m n e))
      | inr e ↦ rw e (found_in w t n ns)
    ]

-- it stands there where the task is registered on it now
is_times : (n : ℕ) (ns : List ℕ) (b : Bool) → times n ns ≡ cond b 1 0 → list_any (λ m. m == n) ns ≡ b
is_times n [] true e = absurd cc
is_times n [] false e = refl
is_times n (m ∷ ns) b e =
    elim (cases_Bool (m == n)) [
      | inl k ↦ rw k (some_times (times n ns) b (rw k at e))
      | inr k ↦ rw k (is_times n ns b (rw k at e))
    ]
  where
    some_times : (x : ℕ) (b : Bool) → x + 1 ≡ cond b 1 0 → true ≡ b
    some_times x true e = refl
    some_times x false e = absurd (omega (arith, e))

module _ (l : Limits) (w : List WorldEvent) (t : ℕ) (legal : is_legal_world l w ≡ true) where
  held_is : (n : ℕ) → find (λ h. h.phaser == n) (map (held_in w t) (phasers_of t w))
      ≡ cond (is_live t (phaser_past n w)) (Some (held_in w t n)) None
  held_is n =
      found_in w t n (phasers_of t w)
      ∙ ap (λ b. cond b (Some (held_in w t n)) None)
      (is_times n (phasers_of t w) (is_live t (phaser_past n w)) (phasers_once l w legal t n))

-- what a live task's mode says
mode_by : (o : Option Mode) (test : Mode → Bool) → is_some o ≡ true → test (unwrap_or o Waiting) ≡ option_map_or test o false
mode_by (Some m) test e = refl
mode_by None test e = absurd (false≢true e)

live_part : (a b : Bool) → (a && b) ≡ true → a ≡ true
live_part true b e = refl
live_part false b e = absurd cc

mode_is : (t : ℕ) (h : List Event) (test : Mode → Bool) → is_live t h ≡ true → test (unwrap_or (mode_of t h) Waiting) ≡ has_mode test t h
mode_is t h test live =
    mode_by (mode_of t h) test (mode_known t h ∙ live_part (is_registered t h) (not (is_dropped t h)) live)

single_by : (o : Option Mode) → can_single (unwrap_or o Waiting) ≡ option_map_or can_single o false
single_by None = refl
single_by (Some m) = refl

both_ways : (c e : Bool) → (c && not (c && not e)) ≡ (c && e)
both_ways true true = refl
both_ways true false = refl
both_ways false e = refl

owes_by : (o : Option Mode) (e : Bool)
    → (can_signal (unwrap_or o Waiting) && not (option_map_or can_signal o false && not e)) ≡ (option_map_or can_signal o false && e)
owes_by None e = refl
owes_by (Some m) e = both_ways (can_signal m) e

-- a test of what is known of each phaser is one of its history
any_is : (f : Held → Bool) (g : ℕ → Bool) (w : List WorldEvent) (t : ℕ) (ns : List ℕ)
    → ((n : ℕ) → f (held_in w t n) ≡ g n) → list_any f (map (held_in w t) ns) ≡ list_any g ns
any_is f g w t [] e = refl
any_is f g w t (n ∷ ns) e = rw (e n, any_is f g w t ns e) refl

all_is : (f : Held → Bool) (g : ℕ → Bool) (w : List WorldEvent) (t : ℕ) (ns : List ℕ)
    → ((n : ℕ) → f (held_in w t n) ≡ g n) → list_all f (map (held_in w t) ns) ≡ list_all g ns
all_is f g w t [] e = refl
all_is f g w t (n ∷ ns) e = rw (e n, all_is f g w t ns e) refl

as_many : (w : List WorldEvent) (t : ℕ) (ns : List ℕ) → length (map (held_in w t) ns) ≡ length ns
as_many w t [] = refl
as_many w t (n ∷ ns) = ap (λ x. suc x) (as_many w t ns)

module _ (l : Limits) (w : List WorldEvent) (k : Known) (legal : is_legal_world l w ≡ true) (is : IsOf w k) where
  abbrev t : ℕ
  t = k.number

  inner_is : inner_of k ≡ inner t w
  inner_is = ap (λ fs. slice_index_or fs 0 k.home) is.finishes ∙ ap (λ h. slice_index_or (open_finishes t w) 0 h) is.home

  known : (n : ℕ) → held_on n k ≡ cond (is_live t (phaser_past n w)) (Some (held_in w t n)) None
  known n = ap (λ hs. find (λ h. h.phaser == n) hs) is.holding ∙ held_is l w t legal n

  ahead_is : list_any (λ h. h.ahead) k.holding ≡ list_any (λ n. is_ahead t (phaser_past n w)) (phasers_of t w)
  ahead_is =
      ap (λ hs. list_any (λ h. h.ahead) hs) is.holding
      ∙ any_is (λ h. h.ahead) (λ n. is_ahead t (phaser_past n w)) w t (phasers_of t w) (λ n. refl)

  owes_is : list_any owes k.holding ≡ list_any (λ n. is_behind t (phaser_past n w)) (phasers_of t w)
  owes_is =
      ap (λ hs. list_any owes hs) is.holding
      ∙ any_is owes (λ n. is_behind t (phaser_past n w)) w t (phasers_of t w)
      (λ n. owes_by (mode_of t (phaser_past n w)) (signals t (phaser_past n w) == waits t (phaser_past n w)))

  singles_are : list_all (λ h. can_single h.mode) k.holding ≡ list_all (λ n. has_mode can_single t (phaser_past n w)) (phasers_of t w)
  singles_are =
      ap (λ hs. list_all (λ h. can_single h.mode) hs) is.holding
      ∙ all_is (λ h. can_single h.mode) (λ n. has_mode can_single t (phaser_past n w)) w t (phasers_of t w)
      (λ n. single_by (mode_of t (phaser_past n w)))

  alike : Alike (facts k) (history.facts w t)
  alike = record {
    is_on = λ n. rw (known n) (there (is_live t (phaser_past n w)) (held_in w t n));
    may_give = λ m n live. rw (known n, live) (mode_is t (phaser_past n w) (λ x. is_within m x) live);
    is_inside = λ n live. rw (known n, live, inner_is) refl;
    phasers = ap (λ hs. length hs) is.holding ∙ as_many w t (phasers_of t w);
    leads = ahead_is;
    owes = owes_is;
    has_singles = singles_are;
    all_shut = ap (λ fs. is_empty fs) is.finishes;
    acts = is.acts;
  }
    where
      there : (b : Bool) (h : Held) → is_some (cond b (Some h) None) ≡ b
      there true h = refl
      there false h = refl

  pub try_is : (a : Tried) → is_idle t w ≡ true → is_number_used w a ≡ false
      → first_refusal (try_conditions l k a) ≡ first_refusal (act_conditions l w t a)
  try_is a idle free = rw (idle, free, is.acts, own_alike l (facts k) (history.facts w t) alike a) refl
