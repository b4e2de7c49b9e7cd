-- Beside a whole run: what a task is about to make there has room in its phaser's history here, and its
-- registration does where the run has no more of them in all than may stand at a time.
use Rattle.std.proofs.Common.{◌≡◌, ℕ, zero, suc, ◌+◌, ◌≤◌, ◌<◌, Bool, true, false, ◌==◌, not, nat_le, nat_lt, cond, List, [], ◌∷◌, ◌++◌, length, Option, Some, None, refl, sym, subst, ap, ◌∙◌, inl, inr, arith}
use Rattle.std.specs.Prelude.{is_some}
use Rattle.std.specs.List.{count_by, list_all, filter, range_with_len}
use Rattle.std.proofs.lemmas.Bool.{and_parts, or_cases, or_left, cases_order, eqb-true, eq-eqb, leb-true, le-leb, lt-ltb, false≢true}
use Rattle.std.proofs.lemmas.List.Sums.{sum_by-cons}
use Rattle.phase_modes.specs.Lists.{is_empty}
use Rattle.phase_modes.specs.declared.limits.Limits.{Limits}
use Rattle.phase_model.specs.declared.history.Event.{Event}
use Rattle.phase_model.specs.declared.history.Event.TheVariants as events
use Rattle.phase_model.specs.declared.terms.Terms.{Terms}
use Rattle.phase_model.specs.Phases.{signals}
use Rattle.phase_model.specs.Rules.{is_permitted, has_room}
use Rattle.phase_model.specs.Singles.{is_proposed}
use Rattle.phase_model.specs.Tasks.{is_live, live_count, registered_by, registered_tasks}
use Rattle.phase_model.proofs.LiveTasks.{has_room_now}
use Rattle.job_script.specs.declared.act.Answer.{Answer}
use Rattle.world_model.specs.declared.event.Step.{Step}
use Rattle.world_model.specs.declared.event.Step.TheVariants.{Make, Reg, Sig, Claim, Did, Pass, Send, Look, Drop}
use Rattle.world_model.specs.declared.event.WorldEvent.{WorldEvent}
use Rattle.world_model.specs.declared.event.WorldEvent.TheVariants.{Phaser}
use Rattle.world_model.specs.Actors.{actor}
use Rattle.world_model.specs.Due.{is_of_single}
use Rattle.world_model.specs.Numbers.{is_phaser}
use Rattle.world_model.specs.Parts.{phaser_past, terms_of, event_for}
use Rattle.world_model.specs.Tasks.{is_ended}
use Rattle.world_model.proofs.PhasersLegal.{phasers_legal}
use Rattle.trace_walk.specs.Walking.{Does}
use Rattle.trace_walk.specs.Scripts.{Numbers}
use Rattle.trace_walk.proofs.Used.{phaser_below}
use Rattle.run_laws.specs.Telling.{Told}
use Rattle.run_laws.specs.Memory.{registrations, is_roomy}
use Rattle.run_laws.proofs.Ahead.{proposed_there, weighs_less}
use Rattle.run_laws.proofs.Failures.{all_later}
use Rattle.run_laws.proofs.Main.{IsNextOf}
use Rattle.run_laws.proofs.Needs.{event_need, needs, used, passing, passing_within, proposed_below, step_need, legal_need}
use Rattle.run_laws.proofs.NextEvents.{IsGoing}
use Rattle.run_laws.proofs.Placing.{past_part}
use Rattle.run_laws.proofs.Sums.{all_told, weigh, on_weight, IsSum, sum_told, by_registered, registered_sum}

-- ---- what is added up

abbrev pub by_need : Step → ℕ
by_need (Make t m terms) = 2
by_need (Reg q t m) = 2
by_need (Claim t) = 0
by_need (Did t) = 0
by_need (Drop t) = 0
by_need _ = 1

need_agrees : (terms : Terms) (h : List Event) (s : Step) → event_need (event_for terms h s) ≡ by_need s
need_agrees terms h (Make t m o) = refl
need_agrees terms h (Reg q t m) = refl
need_agrees terms h (Sig t x) = refl
need_agrees terms h (Claim t) = refl
need_agrees terms h (Did t) = refl
need_agrees terms h (Pass t) = refl
need_agrees terms h (Send t a x) = refl
need_agrees terms h (Look t a) = refl
need_agrees terms h (Drop t) = refl

pub need_sum : IsSum needs event_need by_need
need_sum = record { none = refl; more = λ e h. refl; agrees = need_agrees; singles = singles }
  where
    singles : (m : ℕ) (s : Step) → is_of_single (Phaser m s) ≡ true → by_need s ≡ 0
    singles m (Claim t) e = refl
    singles m (Did t) e = refl
    singles m s e = absurd (false≢true e)

registered_count : (h : List Event)
    → count_by (λ e. is_some (registered_by e)) h ≡ length (registered_tasks h)
registered_count [] = refl
registered_count (e ∷ h) =
    sum_by-cons (λ d. cond (is_some (registered_by d)) 1 0) e h
    ∙ (ap (λ i. cond (is_some (registered_by e)) 1 0 + i) (registered_count h)
    ∙ by_task (registered_by e) refl)
  where
    by_task : (o : Option ℕ) → registered_by e ≡ o
        → cond (is_some o) 1 0 + length (registered_tasks h) ≡ length (registered_tasks (e ∷ h))
    by_task (Some t) k = rw k (omega arith)
    by_task None k = rw k (omega arith)

filter_less : (p : ℕ → Bool) (ts : List ℕ) → length (filter p ts) ≤ length ts
filter_less p [] = omega arith
filter_less p (t ∷ ts) =
    elim (p t) as (λ b. length (cond b (t ∷ filter p ts) (filter p ts)) ≤ suc (length ts)) [
      | true ↦ omega (arith, filter_less p ts)
      | false ↦ omega (arith, filter_less p ts)
    ]

-- what holds of all numbers below m holds of each
all_below : (p : ℕ → Bool) (a m n : ℕ) → list_all p (range_with_len a m) ≡ true → a ≤ n → n < a + m
    → p n ≡ true
all_below p a zero n k from to = absurd (omega (arith, from, to))
all_below p a (suc m) n k from to =
    let both = and_parts (p a) (list_all p (range_with_len (a + 1) m)) k in
    elim (cases_order a n) [
      | inl same ↦ subst (λ i. p i ≡ true) same both.0
      | inr (inl less) ↦ all_below p (a + 1) m n both.1 (omega (arith, less)) (omega (arith, to))
      | inr (inr more) ↦ absurd (omega (arith, from, more))
    ]

module _ {B : Type 0} (next : Answer → B → Does B) (root : B) (names : ℕ → List Told → Numbers) (l : Limits)
    (v : List WorldEvent) (going_v : IsGoing next root names l v) (over : is_ended 0 v ≡ true)
    (w : List WorldEvent) (going_w : IsGoing next root names l w) (t : ℕ)
    (f : IsNextOf next root names l t w v) (n : ℕ) (s : Step) (event : f.event ≡ Phaser n s) where
  -- what the event weighs, and all that the history's phaser does, is no more than what the run's phaser does
  sum_less : (sum : List Event → ℕ) (weight : Event → ℕ) (by : Step → ℕ) → IsSum sum weight by
      → by s + sum (phaser_past n w) ≤ sum (phaser_past n v)
  sum_less sum weight by k =
      let here : on_weight n by f.event ≡ by s =
      ap (λ e. on_weight n by e) event ∙ ap (λ b. cond b (by s) 0) (eq-eqb n n refl) in
      let mine : sum (phaser_past n w) ≡ weigh (on_weight n by) (all_told w) = sum_told sum weight by k n w in
      let theirs : sum (phaser_past n v) ≡ weigh (on_weight n by) (all_told v) =
      sum_told sum weight by k n v in
      let less = weighs_less next root names l v going_v over w going_w t f (on_weight n by) in
      omega (arith, here, mine, theirs, less)

  -- a phase that is proposed for, or is now to be, is so in the run
  proposed_then : (p : ℕ)
      → is_proposed p (event_for (terms_of n w) (phaser_past n w) s ∷ phaser_past n w) ≡ true
      → is_proposed p (phaser_past n v) ≡ true
  proposed_then p = by_step s event
    where
      h : List Event
      h = phaser_past n w

      old : is_proposed p (phaser_past n w) ≡ true → is_proposed p (phaser_past n v) ≡ true
      old k = proposed_there next root names l v going_v over w going_w n p k

      own : (u j : ℕ) → f.event ≡ Phaser n (Sig u (Some j)) → signals u (phaser_past n w) ≡ p
          → is_proposed p (phaser_past n v) ≡ true
      own u j is here =
          let mine : t ≡ u = sym (sym (ap (λ e. actor f.before e) is) ∙ f.mine) in
          let there : signals u (phaser_past n f.before) ≡ p =
          sym (subst (λ x. signals x (phaser_past n w) ≡ signals x (phaser_past n f.before)) mine
          (f.twin.own.on n).same.signalled) ∙ here in
          let part = past_part n f.after (Phaser n (Sig u (Some j)) ∷ f.before) in
          let whole : phaser_past n v ≡ part.more ++ events.Sig u (Some j) ∷ phaser_past n f.before =
          ap (λ x. phaser_past n x) (f.is ∙ ap (λ e. f.after ++ e ∷ f.before) is)
          ∙ (part.is ∙ ap (λ b. part.more
          ++ cond b (events.Sig u (Some j) ∷ phaser_past n f.before) (phaser_past n f.before)) (eq-eqb n n refl)) in
          subst (λ (g : List Event). is_proposed p g ≡ true) (sym whole)
          (all_later (λ x. x.phase == p) part.more (events.Sig u (Some j) ∷ phaser_past n f.before)
          (or_left (signals u (phaser_past n f.before) == p) (is_proposed p (phaser_past n f.before))
          (eq-eqb (signals u (phaser_past n f.before)) p there)))

      by_step : (r : Step) → f.event ≡ Phaser n r
          → is_proposed p (event_for (terms_of n w) (phaser_past n w) r ∷ phaser_past n w) ≡ true
          → is_proposed p (phaser_past n v) ≡ true
      by_step (Sig u (Some j)) is k =
          elim (or_cases (signals u (phaser_past n w) == p) (is_proposed p (phaser_past n w)) k) [
            | inl e ↦ own u j is (eqb-true (signals u (phaser_past n w)) p e)
            | inr e ↦ old e
          ]
      by_step (Sig u None) is k = old k
      by_step (Make u m o) is k = old k
      by_step (Reg q u m) is k = old k
      by_step (Claim u) is k = old k
      by_step (Did u) is k = old k
      by_step (Pass u) is k = old k
      by_step (Send u a x) is k = old k
      by_step (Look u a) is k = old k
      by_step (Drop u) is k = old k

  -- so the event has room, where nothing but room forbids it
  pub fits : (e : Event) → event_for (terms_of n w) (phaser_past n w) s ≡ e
      → is_permitted l (terms_of n w) (phaser_past n w) e ≡ true → has_room l (e ∷ phaser_past n w) ≡ true
  fits e is allowed =
      let h = phaser_past n w in
      let g = phaser_past n v in
      let m = length g + suc (length h) in
      let here : ℕ = passing (λ p. is_proposed p (e ∷ h)) m in
      let there : ℕ = passing (λ p. is_proposed p g) m in
      let legal_h = phasers_legal l w going_w.legal n in
      let legal_g = phasers_legal l v going_v.legal n in
      let before : used h ≡ needs h + (passing (λ p. is_proposed p h) m + passing (λ p. is_proposed p h) m) =
      legal_need l (terms_of n w) m h legal_h (λ p k. omega (arith, proposed_below p h k)) in
      let now : used (e ∷ h) ≡ needs (e ∷ h) + (here + here) =
      step_need l (terms_of n w) m h e legal_h allowed
      (λ p k. let b : p < suc (length h) = proposed_below p (e ∷ h) k in omega (arith, b)) before in
      let whole : used g ≡ needs g + (there + there) =
      legal_need l (terms_of n v) m g legal_g (λ p k. omega (arith, proposed_below p g k)) in
      let fewer : here ≤ there =
      passing_within (λ p. is_proposed p (e ∷ h)) (λ p. is_proposed p g) m
      (λ p k. proposed_then p (subst (λ d. is_proposed p (d ∷ h) ≡ true) (sym is) k)) in
      let own : event_need e ≡ by_need s =
      ap (λ d. event_need d) (sym is) ∙ need_agrees (terms_of n w) h s in
      let less : by_need s + needs h ≤ needs g = sum_less needs event_need by_need need_sum in
      let sum : needs (e ∷ h) ≡ event_need e + needs h = refl in
      let room : used g ≤ l.history = leb-true (used g) l.history (has_room_now l (terms_of n v) g legal_g) in
      le-leb (used (e ∷ h)) l.history (omega (arith, now, whole, fewer, own, less, sum, room))

  -- and there is room for one registration more, where the run is roomy
  pub registers_fit : by_registered s ≡ 1 → is_roomy l v ≡ true
      → nat_lt (live_count (phaser_past n w)) l.regs ≡ true
  registers_fit one roomy =
      let h = phaser_past n w in
      let g = phaser_past n v in
      let count : List Event → ℕ = count_by (λ e. is_some (registered_by e)) in
      let less : by_registered s + count h ≤ count g =
      sum_less (count_by (λ e. is_some (registered_by e))) (λ e. cond (is_some (registered_by e)) 1 0)
      by_registered registered_sum in
      let here : count h ≡ length (registered_tasks h) = registered_count h in
      let there : count g ≡ registrations n v = registered_count g in
      let live : live_count h ≤ length (registered_tasks h) =
      filter_less (λ u. is_live u h) (registered_tasks h) in
      let more : 0 < registrations n v = omega (arith, less, one, there) in
      let made : is_phaser n v ≡ true = ap (λ b. not b) (some g more) in
      let low : n < l.phasers = phaser_below l n v going_v.legal made in
      let few : registrations n v ≤ l.regs =
      leb-true (registrations n v) l.regs
      (all_below (λ i. nat_le (registrations i v) l.regs) 0 l.phasers n roomy (omega arith)
      (omega (arith, low))) in
      lt-ltb (live_count h) l.regs (omega (arith, less, one, here, there, live, few))
    where
      some : (g : List Event) → 0 < length (registered_tasks g) → is_empty g ≡ false
      some [] k = absurd (omega (arith, k))
      some (e ∷ g) k = refl
