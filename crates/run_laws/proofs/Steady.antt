-- A history in which luck has no part: nobody is refused, numbers are drawn in order, and it is roomy.
use Rattle.std.proofs.Common.{ℕ, zero, suc, ◌+◌, ◌<◌, ◌≤◌, ◌≡◌, ◌==◌, true, false, nat_lt, nat_le, cond, List, [], ◌∷◌, Option, Some, None, refl, ap, subst, ◌∙◌, inl, inr, arith}
use Rattle.std.specs.List.{list_all, range_with_len}
use Rattle.std.proofs.lemmas.Bool.{and_parts, and_from, cases_Bool, eqb-true, le-leb, ltb-true, or_cases, or_right, false≢true}
use Rattle.phase_modes.specs.declared.limits.Limits.{Limits}
use Rattle.finish_core.specs.declared.event.FinishEvent.TheVariants.{Shut}
use Rattle.world_model.specs.declared.event.WorldEvent.{WorldEvent}
use Rattle.world_model.specs.declared.event.WorldEvent.TheVariants.{Refuse, Fail}
use Rattle.world_model.specs.Report.{refused_by}
use Rattle.world_model.specs.Tasks.{ends, is_ended}
use Rattle.trace_walk.specs.Scripts.{act_of}
use Rattle.trace_model.specs.Run.{Entry}
use Rattle.trace_model.specs.Explained.{past, event_of, ends_run, is_over}
use Rattle.trace_model.specs.declared.event.TracedEvent.{TracedEvent}
use Rattle.trace_model.specs.declared.event.TracedEvent.TheVariants.{Finish}
use Rattle.run_laws.specs.Memory.{is_roomy, registrations}
use Rattle.run_laws.specs.Telling.{draws_next, draws_by, in_order}
use Rattle.run_laws.specs.Luck.{has_place, is_steady, is_all_steady, joined}
use Rattle.run_laws.specs.inner.Watched.{is_on}
use Rattle.run_laws.proofs.Drawn.{registered_more}

steady_draws : (l : Limits) (w : List WorldEvent) (e : WorldEvent) → is_steady l w e ≡ true
    → draws_next in_order w (act_of e) ≡ true
steady_draws l w (Refuse t a n) h = absurd (false≢true h)
steady_draws l w (Fail t n) h = absurd (false≢true h)
steady_draws l w e h = (and_parts (draws_next in_order w (act_of e)) (has_place l w (joined e)) h).0

steady_place : (l : Limits) (w : List WorldEvent) (e : WorldEvent) → is_steady l w e ≡ true
    → has_place l w (joined e) ≡ true
steady_place l w (Refuse t a n) h = refl
steady_place l w (Fail t n) h = refl
steady_place l w e h = (and_parts (draws_next in_order w (act_of e)) (has_place l w (joined e)) h).1

pub all_draw : (l : Limits) (w : List WorldEvent) → is_all_steady l w ≡ true → draws_by in_order w ≡ true
all_draw l [] h = refl
all_draw l (e ∷ w) h =
    let parts = and_parts (is_steady l w e) (is_all_steady l w) h in
    and_from (draws_next in_order w (act_of e)) (draws_by in_order w) (steady_draws l w e parts.0) (all_draw l w parts.1)

pub none_refused : (l : Limits) (w : List WorldEvent) → is_all_steady l w ≡ true → (t : ℕ) → refused_by t w ≡ None
none_refused l [] h t = refl
none_refused l (Refuse u a n ∷ w) h t = absurd (false≢true (and_parts false (is_all_steady l w) h).0)
none_refused l (Fail u n ∷ w) h t = absurd (false≢true (and_parts false (is_all_steady l w) h).0)
none_refused l (e ∷ w) h t = none_refused l w (and_parts (is_steady l w e) (is_all_steady l w) h).1 t

-- each phaser has in all no more tasks than may be on it at a time
few_registered : (l : Limits) (w : List WorldEvent) → is_all_steady l w ≡ true → (n : ℕ) → registrations n w ≤ l.regs
few_registered l [] h n = omega arith
few_registered l (e ∷ w) h n =
    let parts = and_parts (is_steady l w e) (is_all_steady l w) h in
    one_more (joined e) (registrations n (e ∷ w)) (few_registered l w parts.1 n) (registered_more n e w)
    (steady_place l w e parts.0)
  where
    one_more : (o : Option ℕ) (k : ℕ) → registrations n w ≤ l.regs → k ≡ cond (is_on n o) 1 0 + registrations n w
        → has_place l w o ≡ true → k ≤ l.regs
    one_more None k few more place = omega (arith, few, more)
    one_more (Some m) k few more place =
        elim (cases_Bool (m == n)) [
          | inl same ↦
              let is : m ≡ n = eqb-true m n same in
              let less : registrations n w < l.regs =
              ltb-true (registrations n w) l.regs (subst (λ i. nat_lt (registrations i w) l.regs ≡ true) is place) in
              let one : k ≡ 1 + registrations n w = more ∙ ap (λ b. cond b 1 0 + registrations n w) same in
              omega (arith, less, one)
          | inr other ↦
              let none : k ≡ 0 + registrations n w = more ∙ ap (λ b. cond b 1 0 + registrations n w) other in
              omega (arith, few, none)
        ]

pub all_roomy : (l : Limits) (w : List WorldEvent) → is_all_steady l w ≡ true → is_roomy l w ≡ true
all_roomy l w h = all_numbers 0 l.phasers
  where
    all_numbers : (a m : ℕ) → list_all (λ n. nat_le (registrations n w) l.regs) (range_with_len a m) ≡ true
    all_numbers a zero = refl
    all_numbers a (suc m) =
        and_from (nat_le (registrations a w) l.regs)
        (list_all (λ n. nat_le (registrations n w) l.regs) (range_with_len (a + 1) m))
        (le-leb (registrations a w) l.regs (few_registered l w h a)) (all_numbers (a + 1) m)

-- ---- the run has ended

ends_root : (e : TracedEvent) → ends_run e ≡ true → ends 0 (event_of e) ≡ true
ends_root (Finish f Shut) h = rw h refl
ends_root e h = absurd cc

pub over_ended : (es : List Entry) → is_over es ≡ true → is_ended 0 (past es) ≡ true
over_ended [] h = absurd (false≢true h)
over_ended (e ∷ es) h =
    elim (or_cases (ends_run e.1) (is_over es) h) [
      | inl x ↦ rw (ends_root e.1 x) refl
      | inr y ↦ or_right (ends 0 (event_of e.1)) (is_ended 0 (past es)) (over_ended es y)
    ]
