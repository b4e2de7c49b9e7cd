-- In a round some task moves, as long as the root hasn't ended.
use Rattle.std.proofs.Common.{ℕ, zero, suc, ◌+◌, ◌<◌, ◌≤◌, ◌≡◌, ◌≢◌, ◌⊎◌, Bool, true, false, ◌&&◌, ◌==◌, not, List, [], ◌∷◌, length, refl, sym, subst, ap, ◌∙◌, inl, inr, if◌then◌else◌, arith}
use Rattle.std.specs.List.{list_any}
use Rattle.std.proofs.lemmas.Bool.{or_cases, or_left, cases_Bool, eqb-true, eqb-false, eq-eqb, false≢true, not-false}
use Rattle.phase_modes.specs.Limits.{limits_fit}
use Rattle.phase_modes.specs.declared.limits.Limits.{Limits}
use Rattle.job_script.specs.Program.{Program}
use Rattle.world_model.specs.declared.event.WorldEvent.{WorldEvent}
use Rattle.world_model.specs.Able.{is_able, tasks}
use Rattle.world_model.specs.Numbers.{is_named}
use Rattle.world_model.specs.Replies.{is_legal_world}
use Rattle.world_model.specs.Tasks.{is_born, is_ended}
use Rattle.world_model.proofs.BornWhereNamed.{born_named}
use Rattle.world_model.proofs.NeverStuck.{nobody_is_stuck}
use Rattle.world_model.proofs.NoneWaitsAlone.{tasks_born, found_in}
use Rattle.world_model.proofs.SpawnUnderWay.{named_later}
use Rattle.trace_walk.specs.Picks.{pick, picked, round_from, rounds, run_within}
use Rattle.trace_walk.specs.Laws.{RoundsMove}
use Rattle.trace_walk.proofs.Legal.{runs-legal}
use Rattle.trace_walk.proofs.Used.{named_by_one, used_below, task_below}
use Rattle.trace_walk.proofs.GoesOn.{Adds, picks_move, pick_adds}

-- ---- task numbers are drawn without gaps

abbrev pub Gapless : List WorldEvent → Type 0
Gapless w = (t u : ℕ) → t ≤ u → is_named u w ≡ true → is_named t w ≡ true

pub gapless_first : Gapless []
gapless_first t u le h =
    elim (or_cases (u == 0) false h) [
      | inl z ↦ or_left (t == 0) false (eq-eqb t 0 (none_less t u le (eqb-true u 0 z)))
      | inr z ↦ absurd (false≢true z)
    ]
  where
    none_less : (t u : ℕ) → t ≤ u → u ≡ 0 → t ≡ 0
    none_less t u le h = omega arith

gapless_event : (p : Program) (w : List WorldEvent) (e : WorldEvent) → Gapless w → Adds p w e → Gapless (e ∷ w)
gapless_event p w e g a t u le h =
    elim (named_by_one u e w h) [
      | inr old ↦ named_later t e w (g t u le old)
      | inl now ↦
          elim (cases_Bool (t == u)) [
            | inl same ↦ subst (λ v. is_named v (e ∷ w) ≡ true) (sym (eqb-true t u same)) h
            | inr other ↦
                named_later t e w (used_below (λ v. is_named v w) p.limits.tasks t
                (subst (λ v. t < v) (a.least u now) (less t u le (eqb-false t u other))))
          ]
    ]
  where
    less : (t u : ℕ) → t ≤ u → t ≢ u → t < u
    less t u le h = omega arith

pub gapless_pick : (p : Program) (w : List WorldEvent) (t : ℕ) → Gapless w → Gapless (pick p w t)
gapless_pick p w t g =
    elim (pick_adds p w t) [
      | inl same ↦ subst Gapless (sym same) g
      | inr (e, is, a) ↦ subst Gapless (sym is) (gapless_event p w e g a)
    ]

-- ---- a history never gets shorter

pub pick_keeps : (p : Program) (w : List WorldEvent) (t : ℕ) → length w ≤ length (pick p w t)
pick_keeps p w t =
    elim (pick_adds p w t) [
      | inl same ↦ omega (arith, ap (λ (v : List WorldEvent). length v) same)
      | inr (e, is, a) ↦ omega (arith, ap (λ (v : List WorldEvent). length v) is)
    ]

round_keeps : (left t : ℕ) (p : Program) (w : List WorldEvent) → length w ≤ length (round_from left t p w)
round_keeps zero t p w = omega arith
round_keeps (suc left) t p w =
    elim (cases_Bool (is_named t w)) [
      | inl h ↦ rw h (omega (arith, pick_keeps p w t, round_keeps left (t + 1) p (pick p w t)))
      | inr h ↦ rw h (omega arith)
    ]

-- ---- where a task that is able is among those that are still to be picked, the round moves

longer : (w : List WorldEvent) (e : WorldEvent) → w ≡ e ∷ w → ⊥
longer w e h = omega (arith, ap (λ (v : List WorldEvent). length v) h)

next_from : (t u : ℕ) → t ≤ u → t ≢ u → t + 1 ≤ u
next_from t u le h = omega arith

-- t is picked, and the round goes on
one_picked : (left t : ℕ) (p : Program) (w : List WorldEvent) (u : ℕ) → limits_fit p.limits ≡ true → is_legal_world p.limits w ≡ true → is_born u w ≡ true → is_able p.limits w u ≡ true → t ≤ u
    → (t + 1 ≤ u → length w < length (round_from left (t + 1) p w))
    → ((pick p w t ≡ w) ⊎ ((e : WorldEvent) × (pick p w t ≡ e ∷ w) × Adds p w e)) → length w < length (round_from left (t + 1) p (pick p w t))
one_picked left t p w u fit k born able from rest (inr (e, is, a)) = omega (arith, ap (λ (v : List WorldEvent). length v) is, round_keeps left (t + 1) p (pick p w t))
one_picked left t p w u fit k born able from rest (inl same) =
    elim (cases_Bool (t == u)) [
      | inl here ↦
          let more = picks_move p w t fit k (subst (λ v. is_born v w ≡ true) (sym (eqb-true t u here)) born) (subst (λ v. is_able p.limits w v ≡ true) (sym (eqb-true t u here)) able) in
          absurd (longer w more.0 (sym same ∙ more.1))
      | inr other ↦
          subst (λ (v : List WorldEvent). length w < length (round_from left (t + 1) p v)) (sym same)
          (rest (next_from t u from (eqb-false t u other)))
    ]

round_moves : (left t : ℕ) (p : Program) (w : List WorldEvent) (u : ℕ) → limits_fit p.limits ≡ true → is_legal_world p.limits w ≡ true → Gapless w → is_born u w ≡ true → is_able p.limits w u ≡ true → t ≤ u → u < t + left
    → length w < length (round_from left t p w)
round_moves zero t p w u fit k g born able from within = absurd (omega (arith, from, within))
round_moves (suc left) t p w u fit k g born able from within =
    let named : is_named t w ≡ true = g t u from (born_named p.limits u w k born) in
    rw named (one_picked left t p w u fit k born able from (λ later. round_moves left (t + 1) p w u fit k g born able later (omega (arith, within))) (pick_adds p w t))

-- some task is able
some_able : (l : Limits) (w : List WorldEvent) → is_legal_world l w ≡ true → is_ended 0 w ≡ false → (u : ℕ) × (is_born u w ≡ true) × (is_able l w u ≡ true)
some_able l w k going =
    let able = list_any (is_able l w) (tasks w) in
    let some : list_any (λ t. not (is_ended t w)) (tasks w) ≡ true = rw going refl in
    let found = found_in (is_able l w) (tasks w) (not-false able (subst (λ b. (b && not able) ≡ false) some (nobody_is_stuck l w k))) in
    (found.0, tasks_born found.0 w found.1, found.2)

-- so each round makes an event
pub rounds_move : (p : Program) (w : List WorldEvent) → limits_fit p.limits ≡ true → is_legal_world p.limits w ≡ true → Gapless w → is_ended 0 w ≡ false → length w < length (round_from p.limits.tasks 0 p w)
rounds_move p w fit k g going =
    let u = some_able p.limits w k going in
    let below : u.0 < p.limits.tasks = task_below p.limits u.0 w fit k (born_named p.limits u.0 w k u.1) in
    round_moves p.limits.tasks 0 p w u.0 fit k g u.1 u.2 (omega arith) (omega (arith, below))

-- ---- a run

picked-gapless : (p : Program) (w : List WorldEvent) (ts : List ℕ) → Gapless w → Gapless (picked p w ts)
picked-gapless p w [] g = g
picked-gapless p w (t ∷ ts) g = picked-gapless p (pick p w t) ts (gapless_pick p w t g)

either : (b : Bool) (v w : List WorldEvent) → Gapless v → Gapless w → Gapless (if b then v else w)
either true v w g h = g
either false v w g h = h

round-gapless : (left t : ℕ) (p : Program) (w : List WorldEvent) → Gapless w → Gapless (round_from left t p w)
round-gapless zero t p w g = g
round-gapless (suc left) t p w g = either (is_named t w) (round_from left (t + 1) p (pick p w t)) w (round-gapless left (t + 1) p (pick p w t) (gapless_pick p w t g)) g

rounds-gapless : (most : ℕ) (p : Program) (w : List WorldEvent) → Gapless w → Gapless (rounds most p w)
rounds-gapless zero p w g = g
rounds-gapless (suc more) p w g = either (is_ended 0 w) w (rounds more p (round_from p.limits.tasks 0 p w)) g (rounds-gapless more p (round_from p.limits.tasks 0 p w) (round-gapless p.limits.tasks 0 p w g))

pub run_rounds_move : RoundsMove
run_rounds_move p picks most fit going =
    rounds_move p (run_within most p picks) fit (runs-legal p picks most) (rounds-gapless most p (picked p [] picks) (picked-gapless p [] picks gapless_first)) going
