-- Who holds a signal up: a waiter that is too many phases behind. Which events leave a task waiting to signal: all
-- but a proposal, a pass and a drop.
use Rattle.std.proofs.Common.{◌≡◌, ℕ, ◌+◌, ◌≤◌, ◌==◌, nat_lt, max, Bool, true, false, ◌||◌, ◌&&◌, not, cond, List, [], ◌∷◌, Option, Some, None, is_some, refl, ap, sym, ◌∙◌, subst, arith, inl, inr}
use Rattle.std.specs.List.{list_all, list_any}
use Rattle.std.specs.Option.{option_map_or}
use Rattle.std.proofs.lemmas.Bool.{cases_Bool, eq-eqb, eqb-true, ne_eqb, lt-ltb, ltb-false, ltb-true, and_parts, and_from, or_parts, or_left, or_right, not-true, not-false, false≢true, false_from_ne_true, or_from}
use Rattle.phase_modes.specs.declared.limits.Limits.{Limits}
use Rattle.phase_modes.specs.declared.reg.Mode.{Mode}
use Rattle.phase_modes.specs.declared.refusal.Refusal.{Refusal}
use Rattle.phase_modes.specs.Refusal.{first_refusal, are_met}
use Rattle.phase_modes.specs.Lists.{is_empty}
use Rattle.phase_modes.specs.Mode.{can_signal, can_wait, can_single}
use Rattle.phase_modes.proofs.FirstRefusal.{met_where_none, none_where_met}
use Rattle.phase_model.specs.declared.history.Event.{Event}
use Rattle.phase_model.specs.declared.history.Event.TheVariants.{Make, Reg, Sig, Claim, Did, Pass, Send, Look, Drop}
use Rattle.phase_model.specs.declared.terms.Terms.{Terms}
use Rattle.phase_model.specs.Tasks.{is_live, is_registered, is_dropped, has_mode, mode_of, live_tasks}
use Rattle.phase_model.specs.Phases.{waits, signals, is_near, is_within_bound}
use Rattle.phase_model.specs.Conditions.{conditions, is_other_proposed}
use Rattle.phase_model.specs.Singles.{Proposal, proposals}
use Rattle.phase_model.specs.Rules.{Story, with_event, is_permitted, is_legal, has_room}
use Rattle.phase_model.specs.declared.call.Call.TheVariants.{Signal as signal}
use Rattle.phase_model.specs.Replies.{decided, must_wait, reply}
use Rattle.phase_model.specs.Waiting.{is_not_yet, signal_would_wait, can_free_signal, OthersFreeNoSignaller}
use Rattle.phase_model.proofs.Legal.{last_follows, reg_follows, signal_is_within}
use Rattle.phase_model.proofs.LiveTasks.{has, has-live_tasks}
use Rattle.phase_model.proofs.Closing.{some_live}
use Rattle.phase_model.proofs.Proposers.{registered_live}
use Rattle.phase_model.proofs.Replied.{reply_by}

-- a task that is registered now and can wait, and that a signal of phase p would leave too far behind
pub record Behind (b p : ℕ) (h : List Event) : Type 0 where
  pub task : ℕ
  pub live : is_live task h ≡ true
  pub waiter : has_mode can_wait task h ≡ true
  pub far : waits task h + max 1 b ≤ p

-- one of the list that fails the test
one_failing : (f : ℕ → Bool) (ts : List ℕ) → list_all f ts ≡ false
    → (t : ℕ) × (has t ts ≡ true) × (f t ≡ false)
one_failing f [] k = absurd (false≢true (sym k))
one_failing f (t ∷ ts) k =
    elim (cases_Bool (f t)) [
      | inl e ↦
          let r = one_failing f ts (sym (ap (λ b. b && list_all f ts) e) ∙ k) in
          (r.0, or_right (t == r.0) (has r.0 ts) r.1, r.2)
      | inr e ↦ (t, or_left (t == t) (has t ts) (eq-eqb t t refl), e)
    ]

-- a signal that isn't within the bound is held up by somebody
pub some_behind : (b p : ℕ) (h : List Event) → is_within_bound (Some b) p h ≡ false → Behind b p h
some_behind b p h k =
    let r = one_failing (is_near (max 1 b) p h) (live_tasks h) k in
    let u = r.0 in
    let parts = or_parts (not (has_mode can_wait u h)) (nat_lt p (waits u h + max 1 b)) r.2 in
    record {
      task = u;
      live = sym (has-live_tasks u h) ∙ r.1;
      waiter = not-false (has_mode can_wait u h) parts.0;
      far = ltb-false p (waits u h + max 1 b) parts.1;
    }

-- one that stands in the list and fails the test
fails_at : (f : ℕ → Bool) (ts : List ℕ) (t : ℕ) → has t ts ≡ true → f t ≡ false → list_all f ts ≡ false
fails_at f [] t k e = absurd (false≢true k)
fails_at f (u ∷ ts) t k e =
    false_from_ne_true (list_all f (u ∷ ts)) (λ all.
    let parts = and_parts (f u) (list_all f ts) all in
    elim (cases_Bool (u == t)) [
      | inl same ↦ absurd (false≢true (sym e ∙ (ap f (sym (leb_same u t same)) ∙ parts.0)))
      | inr other ↦
          absurd (false≢true (sym (fails_at f ts t (sym (ap (λ b. b || has t ts) other) ∙ k) e) ∙ parts.1))
    ])
  where
    leb_same : (a b : ℕ) → (a == b) ≡ true → a ≡ b
    leb_same a b k = eqb-true a b k

-- and so the other way round
pub held_by_behind : (b p : ℕ) (h : List Event) → Behind b p h → is_within_bound (Some b) p h ≡ false
held_by_behind b p h k =
    fails_at (is_near (max 1 b) p h) (live_tasks h) k.task (has-live_tasks k.task h ∙ k.live)
    (or_from (not (has_mode can_wait k.task h)) (nat_lt p (waits k.task h + max 1 b))
    (ap (λ b. not b) k.waiter)
    (false_from_ne_true (nat_lt p (waits k.task h + max 1 b))
    (λ e. let less = ltb-true p (waits k.task h + max 1 b) e in let far = k.far in absurd (omega (arith, less, far)))))

settled_not_yet : (o : Option Refusal) (w b : Bool) (e : Event) → is_not_yet (decided o w b e) ≡ true
    → (o ≡ None) × (w ≡ true)
settled_not_yet (Some r) w b e k = absurd cc
settled_not_yet None true b e k = (refl, refl)
settled_not_yet None false true e k = absurd cc
settled_not_yet None false false e k = absurd cc

-- what a task that waits to signal meets: no refusal, and somebody who is behind
pub record Waits (l : Limits) (terms : Terms) (h : List Event) (t : ℕ) (x : Option ℕ) : Type 0 where
  pub live : is_live t h ≡ true
  pub signaller : has_mode can_signal t h ≡ true
  pub may_propose : not (is_some x && not (has_mode can_single t h)) ≡ true
  pub level : (signals t h == waits t h) ≡ true
  pub agrees : not (is_other_proposed x (signals t h) h) ≡ true
  pub beyond : is_within_bound terms.bound (signals t h) h ≡ false

waits_by : (s : Story) (t : ℕ) (x : Option ℕ) → signal_would_wait s t x ≡ true
    → Waits s.limits s.terms s.past t x
waits_by s t x k =
    let l = s.limits in
    let h = s.past in
    let b = is_within_bound s.terms.bound (signals t h) h in
    let parts =
    settled_not_yet (first_refusal (conditions l s.terms h (signal t x))) (not b)
    (has_room l (Sig t x ∷ h)) (Sig t x) k in
    let met = met_where_none (conditions l s.terms h (signal t x)) parts.0 in
    let a1 = is_live t h in
    let a2 = has_mode can_signal t h in
    let a3 = not (is_some x && not (has_mode can_single t h)) in
    let a4 = signals t h == waits t h in
    let a5 = not (is_other_proposed x (signals t h) h) in
    let k4 = and_parts (a1 && a2 && a3 && a4) a5 met in
    let k3 = and_parts (a1 && a2 && a3) a4 k4.0 in
    let k2 = and_parts (a1 && a2) a3 k3.0 in
    let k1 = and_parts a1 a2 k2.0 in
    record {
      live = k1.0;
      signaller = k1.1;
      may_propose = k2.1;
      level = k3.1;
      agrees = k4.1;
      beyond = not-true b parts.1;
    }

pub waits_where : (s : Story) (t : ℕ) (x : Option ℕ) → Waits s.limits s.terms s.past t x
    → signal_would_wait s t x ≡ true
waits_where s t x k =
    let l = s.limits in
    let h = s.past in
    let a1 = is_live t h in
    let a2 = has_mode can_signal t h in
    let a3 = not (is_some x && not (has_mode can_single t h)) in
    let a4 = signals t h == waits t h in
    let a5 = not (is_other_proposed x (signals t h) h) in
    let met : are_met (conditions l s.terms h (signal t x)) ≡ true =
    and_from (a1 && a2 && a3 && a4) a5 (and_from (a1 && a2 && a3) a4 (and_from (a1 && a2) a3
    (and_from a1 a2 k.live k.signaller) k.may_propose) k.level) k.agrees in
    ap is_not_yet (reply_by s (signal t x) None true (Sig t x)
    (none_where_met (conditions l s.terms h (signal t x)) met) (ap (λ b. not b) k.beyond) refl)

-- where the bound isn't kept there is one
bound_of : (o : Option ℕ) (p : ℕ) (h : List Event) → is_within_bound o p h ≡ false
    → (b : ℕ) × (o ≡ Some b) × Behind b p h
bound_of None p h k = absurd (false≢true (sym k))
bound_of (Some b) p h k = (b, refl, some_behind b p h k)

-- the same proposals, the same numbers
others_same : (y : Option ℕ) (p : ℕ) (g h : List Event) → proposals g ≡ proposals h
    → is_other_proposed y p g ≡ is_other_proposed y p h
others_same None p g h e = refl
others_same (Some n) p g h e = ap (λ xs. list_any (λ z. z.phase == p && not (z.number == n)) xs) e

other_task : (u t : ℕ) (h : List Event) → is_registered u h ≡ false → is_live t h ≡ true → (u == t) ≡ false
other_task u t h r live =
    ne_eqb u t (λ e. false≢true (sym r ∙ (ap (λ v. is_registered v h) e ∙ registered_live t h live)))

module _ (s : Story) (t : ℕ) (x : Option ℕ) (waiting : signal_would_wait s t x ≡ true) where
  here : Waits s.limits s.terms s.past t x
  here = waits_by s t x waiting

  held : (b : ℕ) × (s.terms.bound ≡ Some b) × Behind b (signals t s.past) s.past
  held = bound_of s.terms.bound (signals t s.past) s.past here.beyond

  -- who was behind is behind still
  still : (h : List Event) (b : ℕ) → s.terms.bound ≡ Some b → Behind b (signals t s.past) h
      → is_within_bound s.terms.bound (signals t s.past) h ≡ false
  still h b is k =
      subst (λ o. is_within_bound o (signals t s.past) h ≡ false) (sym is)
      (held_by_behind b (signals t s.past) h k)

  same_numbers : (g : List Event) → proposals g ≡ proposals s.past
      → not (is_other_proposed x (signals t s.past) g) ≡ true
  same_numbers g e = ap (λ b. not b) (others_same x (signals t s.past) g s.past e) ∙ here.agrees

  -- with the same registrations and turns the same one is behind
  as_before : (g : List Event) → is_live held.2.task g ≡ is_live held.2.task s.past
      → mode_of held.2.task g ≡ mode_of held.2.task s.past → waits held.2.task g ≡ waits held.2.task s.past
      → Behind held.0 (signals t s.past) g
  as_before g live mode turns = record {
    task = held.2.task;
    live = live ∙ held.2.live;
    waiter = ap (λ o. option_map_or can_wait o false) mode ∙ held.2.waiter;
    far = subst (λ n. n + max 1 held.0 ≤ signals t s.past) (sym turns) held.2.far;
  }

  -- an event that moves nobody
  unmoved : (e : Event) → ((v : ℕ) → is_live v (e ∷ s.past) ≡ is_live v s.past)
      → ((v : ℕ) → mode_of v (e ∷ s.past) ≡ mode_of v s.past)
      → ((v : ℕ) → waits v (e ∷ s.past) ≡ waits v s.past)
      → signals t (e ∷ s.past) ≡ signals t s.past → proposals (e ∷ s.past) ≡ proposals s.past
      → signal_would_wait (with_event s e) t x ≡ true
  unmoved e live mode turns level numbers =
      let g = e ∷ s.past in
      let v = held.2.task in
      waits_where (with_event s e) t x (record {
        live = live t ∙ here.live;
        signaller = ap (λ o. option_map_or can_signal o false) (mode t) ∙ here.signaller;
        may_propose =
            ap (λ o. not (is_some x && not (option_map_or can_single o false))) (mode t) ∙ here.may_propose;
        level =
            subst (λ n. (n == waits t g) ≡ true) (sym level)
            (subst (λ n. (signals t s.past == n) ≡ true) (sym (turns t)) here.level);
        agrees =
            subst (λ p. not (is_other_proposed x p g) ≡ true) (sym level) (same_numbers g numbers);
        beyond =
            subst (λ p. is_within_bound s.terms.bound p g ≡ false) (sym level)
            (still g held.0 held.1 (as_before g (live v) (mode v) (turns v)));
      })

  pub stays : (e : Event) → can_free_signal e ≡ false → is_legal s.limits s.terms (e ∷ s.past) ≡ true
      → signal_would_wait (with_event s e) t x ≡ true
  stays (Make u m) k legal =
      let f = last_follows s.limits s.terms s.past (Make u m) legal in
      absurd (false≢true (sym (some_live t s.past here.live)
      ∙ (and_parts (is_empty s.past) (nat_lt u s.limits.tasks) f.permitted).0))
  stays (Reg q u m) k legal =
      let h = s.past in
      let r =
      reg_follows s.limits s.terms h q u m (last_follows s.limits s.terms h (Reg q u m) legal).permitted in
      let other = other_task u t h r.unknown here.live in
      let at = held in
      let v = at.2.task in
      let apart = other_task u v h r.unknown at.2.live in
      let level : signals t (Reg q u m ∷ h) ≡ signals t h = ap (λ b. signals (cond b q t) h) other in
      let turns : waits t (Reg q u m ∷ h) ≡ waits t h = ap (λ b. waits (cond b q t) h) other in
      let behind : Behind at.0 (signals t h) (Reg q u m ∷ h) = record {
        task = v;
        live = ap (λ b. (b || is_registered v h) && not (is_dropped v h)) apart ∙ at.2.live;
        waiter =
            ap (λ b. option_map_or can_wait (cond b (Some m) (mode_of v h)) false) apart ∙ at.2.waiter;
        far = subst (λ n. n + max 1 at.0 ≤ signals t h) (sym (ap (λ b. waits (cond b q v) h) apart)) at.2.far;
      } in
      waits_where (with_event s (Reg q u m)) t x (record {
        live = ap (λ b. (b || is_registered t h) && not (is_dropped t h)) other ∙ here.live;
        signaller =
            ap (λ b. option_map_or can_signal (cond b (Some m) (mode_of t h)) false) other ∙ here.signaller;
        may_propose =
            ap (λ b. not (is_some x && not (option_map_or can_single (cond b (Some m) (mode_of t h)) false)))
            other ∙ here.may_propose;
        level = ap (λ b. signals (cond b q t) h == waits (cond b q t) h) other ∙ here.level;
        agrees =
            subst (λ p. not (is_other_proposed x p (Reg q u m ∷ h)) ≡ true) (sym level)
            (same_numbers (Reg q u m ∷ h) refl);
        beyond =
            subst (λ p. is_within_bound s.terms.bound p (Reg q u m ∷ h) ≡ false) (sym level)
            (still (Reg q u m ∷ h) at.0 at.1 behind);
      })
  stays (Sig u None) k legal =
      let h = s.past in
      let f = last_follows s.limits s.terms h (Sig u None) legal in
      let other : (u == t) ≡ false =
      ne_eqb u t (λ e. false≢true (sym here.beyond
      ∙ signal_is_within s.limits s.terms h t None
      (subst (λ v. is_permitted s.limits s.terms h (Sig v None) ≡ true) e f.permitted))) in
      let level : signals t (Sig u None ∷ h) ≡ signals t h =
      ap (λ b. cond b (signals t h + 1) (signals t h)) other in
      waits_where (with_event s (Sig u None)) t x (record {
        live = here.live;
        signaller = here.signaller;
        may_propose = here.may_propose;
        level = subst (λ n. (n == waits t h) ≡ true) (sym level) here.level;
        agrees =
            subst (λ p. not (is_other_proposed x p (Sig u None ∷ h)) ≡ true) (sym level)
            (same_numbers (Sig u None ∷ h) refl);
        beyond =
            subst (λ p. is_within_bound s.terms.bound p (Sig u None ∷ h) ≡ false) (sym level)
            (still (Sig u None ∷ h) held.0 held.1 (as_before (Sig u None ∷ h) refl refl refl));
      })
  stays (Sig u (Some n)) k legal = absurd (false≢true (sym k))
  stays (Claim u) k legal = unmoved (Claim u) (λ w. refl) (λ w. refl) (λ w. refl) refl refl
  stays (Did u) k legal = unmoved (Did u) (λ w. refl) (λ w. refl) (λ w. refl) refl refl
  stays (Pass u) k legal = absurd (false≢true (sym k))
  stays (Send u a v) k legal = unmoved (Send u a v) (λ w. refl) (λ w. refl) (λ w. refl) refl refl
  stays (Look u a y) k legal = unmoved (Look u a y) (λ w. refl) (λ w. refl) (λ w. refl) refl refl
  stays (Drop u) k legal = absurd (false≢true (sym k))

pub others_free_no_signaller : OthersFreeNoSignaller
others_free_no_signaller s e t x legal k waiting = stays s t x waiting e k legal
