-- The signals that a task's line says are owed are those that the history says are due.
use Rattle.std.proofs.Common.{◌≡◌, ℕ, zero, suc, ◌==◌, Bool, true, false, ◌&&◌, not, cond, List, [], ◌∷◌, Option, Some, None, unwrap_or, get_or, refl, sym, ap, ◌∙◌, inl, inr}
use Rattle.std.specs.Prelude.{filter}
use Rattle.std.specs.Option.{option_map_or}
use Rattle.std.proofs.lemmas.Bool.{cases_Bool}
use Rattle.phase_modes.specs.declared.reg.Mode.{Mode}
use Rattle.phase_modes.specs.declared.reg.Mode.TheVariants.{Wait}
use Rattle.phase_modes.specs.Mode.{can_signal}
use Rattle.phase_model.specs.declared.history.Event.{Event}
use Rattle.phase_model.specs.Tasks.{is_live, mode_of}
use Rattle.phase_model.specs.Phases.{waits, signals}
use Rattle.phase_model.specs.Rules.{Story}
use Rattle.world_model.specs.declared.event.WorldEvent.{WorldEvent}
use Rattle.world_records.specs.WorldState.{WorldState}
use Rattle.world_records.specs.Kept.{blank_story, past_in}
use Rattle.world_records.specs.inner.Facts.{owes}
use Rattle.world_records.specs.StandsFor.{PhaserStands}
use Rattle.world_model.specs.Parts.{phaser_past}
use Rattle.world_model.specs.Tasks.{phasers_of}
use Rattle.world_model.specs.Due.{is_behind}

-- a phaser past the table has no history, as a blank one
pub past_of_story : (stories : List Story) (n : ℕ) (d : Story) → d.past ≡ [] → past_in stories n ≡ (get_or stories n d).past
past_of_story [] n d e = sym e
past_of_story (x ∷ xs) zero d e = refl
past_of_story (x ∷ xs) (suc n) d e = past_of_story xs n d e

pub past_stands : (s : WorldState) (w : List WorldEvent) (n : ℕ) → PhaserStands s w n → past_in s.phasers n ≡ phaser_past n w
past_stands s w n st = past_of_story s.phasers n (blank_story s.limits) refl ∙ ap (λ (x : Story). x.past) st.story

both_ways : (c e : Bool) → (c && not (c && not e)) ≡ (c && e)
both_ways true true = refl
both_ways true false = refl
both_ways false e = refl

by_mode : (o : Option Mode) (e : Bool) → (can_signal (unwrap_or o Wait) && not (option_map_or can_signal o false && not e)) ≡ (option_map_or can_signal o false && e)
by_mode None e = refl
by_mode (Some m) e = both_ways (can_signal m) e

-- a live task owes a signal where it is behind
pub owes_is_behind : (t : ℕ) (h : List Event) → is_live t h ≡ true → owes t h ≡ is_behind t h
owes_is_behind t h live = rw live (by_mode (mode_of t h) (signals t h == waits t h))

-- two tests that agree where a third holds
filter_under : (p q r : ℕ → Bool) (xs : List ℕ) → ((n : ℕ) → r n ≡ true → p n ≡ q n) → filter p (filter r xs) ≡ filter q (filter r xs)
filter_under p q r [] e = refl
filter_under p q r (x ∷ xs) e =
    let rest : filter p (filter r xs) ≡ filter q (filter r xs) = filter_under p q r xs e in
    elim (cases_Bool (r x)) [
      | inl k ↦
          let here : p x ≡ q x = e x k in
          rw (k, here) (ap (λ ys. cond (q x) (x ∷ ys) ys) rest)
      | inr k ↦ rw k rest
    ]

pub signals_owed : (s : WorldState) (w : List WorldEvent) (t : ℕ) → ((n : ℕ) → PhaserStands s w n)
    → filter (λ n. owes t (past_in s.phasers n)) (phasers_of t w) ≡ filter (λ n. is_behind t (phaser_past n w)) (phasers_of t w)
signals_owed s w t st =
    filter_under (λ n. owes t (past_in s.phasers n)) (λ n. is_behind t (phaser_past n w)) (λ n. is_live t (phaser_past n w)) _
    (λ n live. ap (λ h. owes t h) (past_stands s w n (st n)) ∙ owes_is_behind t (phaser_past n w) live)
