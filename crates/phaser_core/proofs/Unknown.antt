-- A number that no task can have is that of nobody, and nobody waits by it.
use Rattle.std.proofs.Common.{◌≡◌, ℕ, ◌≤◌, ◌<◌, ◌==◌, nat_lt, nat_le, true, false, ◌&&◌, not, List, [], ◌∷◌, ap, sym, ◌∙◌, inl, inr, arith}
use Rattle.std.proofs.lemmas.Bool.{and_parts, eqb-true, ltb-true, leb-true, or_cases, false_from_ne_true, false≢true}
use Rattle.phase_modes.specs.declared.limits.Limits.{Limits}
use Rattle.phase_modes.specs.Limits.{is_between, limits_fit}
use Rattle.phase_modes.specs.Lists.{is_empty}
use Rattle.phase_model.specs.declared.history.Event.{Event}
use Rattle.phase_model.specs.declared.history.Event.TheVariants.{Make, Reg}
use Rattle.phase_model.specs.declared.terms.Terms.{Terms}
use Rattle.phase_model.specs.Tasks.{is_registered, is_dropped, is_live}
use Rattle.phase_model.specs.Phases.{waits, is_closed}
use Rattle.phase_model.specs.Rules.{Story, is_legal}
use Rattle.phase_model.specs.Waiting.{is_in_open_phase}
use Rattle.phase_model.proofs.Legal.{last_follows, reg_follows}
use Rattle.phaser_core.specs.declared.parked.ParkedCall.{ParkedCall}
use Rattle.phaser_core.specs.Parking.{would_park}
use Rattle.phaser_core.proofs.Parks.{parked_live}

-- each task that was ever registered has a number below the limit
registered_below : (l : Limits) (terms : Terms) (h : List Event) (t : ℕ) → is_legal l terms h ≡ true → is_registered t h ≡ true → t < l.tasks
registered_below l terms [] t k known = absurd cc
registered_below l terms (Make u m ∷ h) t k known =
    let f = last_follows l terms h (Make u m) k in
    let fits = ltb-true u l.tasks (and_parts (is_empty h) (nat_lt u l.tasks) f.permitted).1 in
    elim (or_cases (u == t) (is_registered t h) known) [
      | inl same ↦ let is = eqb-true u t same in omega (arith, fits, is)
      | inr early ↦ registered_below l terms h t f.before early
    ]
registered_below l terms (Reg q u m ∷ h) t k known =
    let f = last_follows l terms h (Reg q u m) k in
    let fits = (reg_follows l terms h q u m f.permitted).task_fits in
    elim (or_cases (u == t) (is_registered t h) known) [
      | inl same ↦ let is = eqb-true u t same in omega (arith, fits, is)
      | inr early ↦ registered_below l terms h t f.before early
    ]
registered_below l terms (e ∷ h) t k known = registered_below l terms h t (last_follows l terms h e k).before known

-- so who has a number from there on isn't registered
pub unknown_from : (s : Story) (t : ℕ) → is_legal s.limits s.terms s.past ≡ true → s.limits.tasks ≤ t → is_live t s.past ≡ false
unknown_from s t legal large =
    false_from_ne_true (is_live t s.past)
    (λ live.
    let below = registered_below s.limits s.terms s.past t legal (and_parts (is_registered t s.past) (not (is_dropped t s.past)) live).0 in
    absurd (omega (arith, below, large)))

-- who isn't registered has to wait for nothing
pub unknown_waits_not : (s : Story) (t : ℕ) (c : ParkedCall) → is_live t s.past ≡ false → would_park s t c ≡ false
unknown_waits_not s t c unknown =
    false_from_ne_true (would_park s t c) (λ waits. false≢true (sym unknown ∙ parked_live s t c waits))

-- and stands in no phase
pub unknown_stands_nowhere : (s : Story) (t : ℕ) → is_live t s.past ≡ false → is_in_open_phase s t ≡ false
unknown_stands_nowhere s t unknown = ap (λ b. b && not (is_closed (waits t s.past) s.past)) unknown

-- a run has at most 4,096 tasks
pub tasks_fit : (l : Limits) → limits_fit l ≡ true → l.tasks ≤ 4096
tasks_fit l k =
    let a = is_between 1 l.acts 65536 in
    let b = is_between 1 l.finishes 1024 in
    let c = is_between 4 l.history 65536 in
    let d = is_between 1 l.phasers 64 in
    let e = is_between 1 l.regs 256 in
    let f = is_between 1 l.tasks 4096 in
    let most = and_parts (nat_le 1 l.tasks) (nat_le l.tasks 4096) (and_parts (a && b && c && d && e) f k).1 in
    leb-true l.tasks 4096 most.1
