-- Which events leave a waiting task waiting: all but a signal, a report and a drop.
use Rattle.std.proofs.Common.{◌≡◌, ℕ, ◌+◌, ◌≤◌, ◌==◌, nat_lt, Bool, true, false, ◌||◌, ◌&&◌, not, cond, List, [], ◌∷◌, Option, Some, None, is_some, refl, ap, sym, ◌∙◌, subst, arith}
use Rattle.std.specs.List.{list_all}
use Rattle.std.specs.Option.{option_map_or}
use Rattle.std.proofs.lemmas.Bool.{eq-eqb, ne_eqb, lt-ltb, and_parts, and_from, not-true, false≢true, or_right}
use Rattle.phase_modes.specs.declared.refusal.Refusal.{Refusal}
use Rattle.phase_modes.specs.declared.refusal.Refusal.TheVariants.{NotRegistered, NotSignalled}
use Rattle.phase_modes.specs.Refusal.{first_refusal}
use Rattle.phase_modes.specs.Lists.{is_empty}
use Rattle.phase_modes.specs.Mode.{can_signal, can_wait}
use Rattle.phase_model.specs.declared.history.Event.{Event}
use Rattle.phase_model.specs.declared.history.Event.TheVariants.{Make, Reg, Sig, Claim, Did, Pass, Send, Look, Drop}
use Rattle.phase_model.specs.Tasks.{is_live, is_registered, is_dropped, has_mode, mode_of, live_tasks}
use Rattle.phase_model.specs.Phases.{waits, signals, is_past, is_closed}
use Rattle.phase_model.specs.Singles.{has_proposed, is_claimed, is_settled}
use Rattle.phase_model.specs.Rules.{Story, with_event, is_permitted, is_legal, has_room}
use Rattle.phase_model.specs.declared.call.Call.TheVariants.{Pass as pass}
use Rattle.phase_model.specs.Conditions.{conditions}
use Rattle.phase_model.specs.Replies.{decided, must_wait, event_for}
use Rattle.phase_model.proofs.Legal.{last_follows, reg_follows, pass_follows}
use Rattle.phase_model.proofs.LiveTasks.{has, has-live_tasks}
use Rattle.phase_model.proofs.Closing.{implies, HaveSignalled, signalled_from_closed, some_live}
use Rattle.phase_model.proofs.Proposers.{registered_live}
use Rattle.phase_model.specs.Waiting.{is_not_yet, would_wait, can_free}

waits_settled : (o : Option Refusal) (w b : Bool) (e : Event)
    → is_not_yet (decided o w b e) ≡ (not (is_some o) && w)
waits_settled (Some r) w b e = refl
waits_settled None true b e = refl
waits_settled None false true e = refl
waits_settled None false false e = refl

-- live, signalled, a waiter, its phase not over, and nothing to claim
abbrev hold : Bool → Bool → Bool → Bool → Bool → Bool → Bool → Bool → Bool
hold live sig eq wait cl st pr cd =
    live && not (sig && not eq) && wait && not (cl && st) && not (pr && cl && not cd)

simple : (live sig eq wait cl st pr cd : Bool)
    → (not (is_some (cond live (cond (not sig || eq) None (Some NotSignalled)) (Some NotRegistered))) && (wait
    && not (live && (not sig || eq) && (not wait || (cl && st))) && not (live && pr && cl && not cd)))
    ≡ hold live sig eq wait cl st pr cd
simple false sig eq wait cl st pr cd = refl
simple true true false wait cl st pr cd = refl
simple true true true true cl st pr cd = refl
simple true true true false cl st pr cd = refl
simple true false eq true cl st pr cd = refl
simple true false eq false cl st pr cd = refl

abbrev holds : ℕ → ℕ → List Event → Bool
holds t w h =
    hold (is_live t h) (has_mode can_signal t h) (signals t h == w + 1) (has_mode can_wait t h)
    (is_closed w h) (is_settled w h) (has_proposed t w h) (is_claimed w h)

would_wait_is : (s : Story) (t : ℕ) → would_wait s t ≡ holds t (waits t s.past) s.past
would_wait_is s t =
    let h = s.past in
    let w = waits t h in
    waits_settled (first_refusal (conditions s.limits s.terms h (pass t))) (must_wait s.limits s.terms h (pass t))
    (has_room s.limits (event_for s.limits s.terms h (pass t) ∷ h)) (event_for s.limits s.terms h (pass t))
    ∙ simple (is_live t h) (has_mode can_signal t h) (signals t h == w + 1) (has_mode can_wait t h)
    (is_closed w h) (is_settled w h) (has_proposed t w h) (is_claimed w h)

-- what holds a task up
pub record Held (t w : ℕ) (h : List Event) : Type 0 where
  pub live : is_live t h ≡ true
  pub signalled : not (has_mode can_signal t h && not (signals t h == w + 1)) ≡ true
  pub waiter : has_mode can_wait t h ≡ true
  pub not_over : not (is_closed w h && is_settled w h) ≡ true
  pub no_claim : not (has_proposed t w h && is_closed w h && not (is_claimed w h)) ≡ true

held_by : (t w : ℕ) (h : List Event) → holds t w h ≡ true → Held t w h
held_by t w h k =
    let a = is_live t h in
    let b = not (has_mode can_signal t h && not (signals t h == w + 1)) in
    let c = has_mode can_wait t h in
    let d = not (is_closed w h && is_settled w h) in
    let e = not (has_proposed t w h && is_closed w h && not (is_claimed w h)) in
    let k4 = and_parts (a && b && c && d) e k in
    let k3 = and_parts (a && b && c) d k4.0 in
    let k2 = and_parts (a && b) c k3.0 in
    let k1 = and_parts a b k2.0 in
    record { live = k1.0; signalled = k1.1; waiter = k2.1; not_over = k3.1; no_claim = k4.1 }

holds_by : (t w : ℕ) (h : List Event) → Held t w h → holds t w h ≡ true
holds_by t w h k =
    let a = is_live t h in
    let b = not (has_mode can_signal t h && not (signals t h == w + 1)) in
    let c = has_mode can_wait t h in
    let d = not (is_closed w h && is_settled w h) in
    let e = not (has_proposed t w h && is_closed w h && not (is_claimed w h)) in
    and_from (a && b && c && d) e (and_from (a && b && c) d
    (and_from (a && b) c (and_from a b k.live k.signalled) k.waiter) k.not_over) k.no_claim

pub held : (s : Story) (t : ℕ) → would_wait s t ≡ true → Held t (waits t s.past) s.past
held s t k = held_by t (waits t s.past) s.past (sym (would_wait_is s t) ∙ k)

pub waits_where_held : (s : Story) (t : ℕ) → Held t (waits t s.past) s.past → would_wait s t ≡ true
waits_where_held s t k = would_wait_is s t ∙ holds_by t (waits t s.past) s.past k

-- a test that passes for each that stands in the list
all_in : (f : ℕ → Bool) (ts : List ℕ) → ((t : ℕ) → has t ts ≡ true → f t ≡ true) → list_all f ts ≡ true
all_in f [] k = refl
all_in f (t ∷ ts) k =
    and_from (f t) (list_all f ts) (k t (ap (λ b. b || has t ts) (eq-eqb t t refl)))
    (all_in f ts (λ u e. k u (or_right (t == u) (has u ts) e)))

pub closed_where_signalled : (p : ℕ) (h : List Event) → HaveSignalled (p + 1) h → is_closed p h ≡ true
closed_where_signalled p h k =
    all_in (is_past p h) (live_tasks h)
    (λ t e. implies (has_mode can_signal t h) (nat_lt p (signals t h))
    (λ signaller. lt-ltb p (signals t h) (omega (arith, k t (sym (has-live_tasks t h) ∙ e) signaller))))

-- the test of the other is no other's
other_task : (u t : ℕ) (h : List Event) → is_registered u h ≡ false → is_live t h ≡ true → (u == t) ≡ false
other_task u t h r live =
    ne_eqb u t (λ e. false≢true (sym r ∙ (ap (λ v. is_registered v h) e ∙ registered_live t h live)))

-- a registration opens or closes no phase: this half is all that is used
closed_before_reg : (p q u : ℕ) (m : _) (h : List Event) → is_registered u h ≡ false
    → is_closed p (Reg q u m ∷ h) ≡ true → is_closed p h ≡ true
closed_before_reg p q u m h r k =
    closed_where_signalled p h
    (λ t live signaller.
    let other = other_task u t h r live in
    let before : p + 1 ≤ signals t (Reg q u m ∷ h) =
    signalled_from_closed p (Reg q u m ∷ h) k t
    (ap (λ b. (b || is_registered t h) && not (is_dropped t h)) other ∙ live)
    (ap (λ b. option_map_or can_signal (cond b (Some m) (mode_of t h)) false) other ∙ signaller) in
    let same : signals t (Reg q u m ∷ h) ≡ signals t h = ap (λ b. signals (cond b q t) h) other in
    omega (arith, before, same))

less_closed : (cl cl' st : Bool) → (cl' ≡ true → cl ≡ true) → not (cl && st) ≡ true → not (cl' && st) ≡ true
less_closed cl true st k n = ap (λ b. not (b && st)) (sym (k refl)) ∙ n
less_closed cl false st k n = refl

less_claimable : (pr cl cl' cd cd' : Bool) → (cl' ≡ true → cl ≡ true) → (cd ≡ true → cd' ≡ true)
    → not (pr && cl && not cd) ≡ true → not (pr && cl' && not cd') ≡ true
less_claimable false cl cl' cd cd' k m n = refl
less_claimable true cl false cd cd' k m n = refl
less_claimable true cl true cd true k m n = refl
less_claimable true cl true true false k m n = absurd (false≢true (m refl))
less_claimable true cl true false false k m n =
    absurd (false≢true (sym (ap (λ b. not (b && true)) (k refl)) ∙ n))

-- an event that frees nobody leaves a waiting task waiting
module _ (s : Story) (t : ℕ) (waiting : would_wait s t ≡ true) where
  here : Held t (waits t s.past) s.past
  here = held s t waiting

  pub stays : (e : Event) → can_free e ≡ false → is_legal s.limits s.terms (e ∷ s.past) ≡ true
      → would_wait (with_event s e) t ≡ true
  stays (Make u m) k legal =
      let f = last_follows s.limits s.terms s.past (Make u m) legal in
      absurd (false≢true (sym (some_live t s.past here.live)
      ∙ (and_parts (is_empty s.past) (nat_lt u s.limits.tasks) f.permitted).0))
  stays (Reg q u m) k legal =
      let h = s.past in
      let w = waits t h in
      let r =
      reg_follows s.limits s.terms h q u m (last_follows s.limits s.terms h (Reg q u m) legal).permitted in
      let other = other_task u t h r.unknown here.live in
      let less : is_closed w (Reg q u m ∷ h) ≡ true → is_closed w h ≡ true =
      closed_before_reg w q u m h r.unknown in
      let same : waits t (Reg q u m ∷ h) ≡ w = ap (λ b. waits (cond b q t) h) other in
      waits_where_held (with_event s (Reg q u m)) t
      (subst (λ v. Held t v (Reg q u m ∷ h)) (sym same) (record {
        live = ap (λ b. (b || is_registered t h) && not (is_dropped t h)) other ∙ here.live;
        signalled =
            ap (λ b. not (option_map_or can_signal (cond b (Some m) (mode_of t h)) false
            && not (signals (cond b q t) h == w + 1))) other ∙ here.signalled;
        waiter = ap (λ b. option_map_or can_wait (cond b (Some m) (mode_of t h)) false) other ∙ here.waiter;
        not_over =
            less_closed (is_closed w h) (is_closed w (Reg q u m ∷ h)) (is_settled w h) less here.not_over;
        no_claim =
            less_claimable (has_proposed t w h) (is_closed w h) (is_closed w (Reg q u m ∷ h)) (is_claimed w h)
            (is_claimed w h) less (λ c. c) here.no_claim;
      }))
  stays (Sig u x) k legal = absurd cc
  stays (Claim u) k legal =
      let h = s.past in
      let w = waits t h in
      waits_where_held (with_event s (Claim u)) t (record {
        live = here.live;
        signalled = here.signalled;
        waiter = here.waiter;
        not_over = here.not_over;
        no_claim =
            less_claimable (has_proposed t w h) (is_closed w h) (is_closed w h) (is_claimed w h)
            ((waits u h == w) || is_claimed w h) (λ c. c)
            (or_right (waits u h == w) (is_claimed w h)) here.no_claim;
      })
  stays (Did u) k legal = absurd cc
  stays (Pass u) k legal =
      let h = s.past in
      let w = waits t h in
      let f = last_follows s.limits s.terms h (Pass u) legal in
      let other : (u == t) ≡ false =
      ne_eqb u t (λ e.
      let g =
      pass_follows s.limits s.terms h t
      (subst (λ v. is_permitted s.limits s.terms h (Pass v) ≡ true) e f.permitted) in
      false≢true (sym (not-true (is_closed w h && is_settled w h) here.not_over)
      ∙ and_from (is_closed w h) (is_settled w h) (g.closed here.waiter) (g.settled here.waiter)))
      in
      let same : waits t (Pass u ∷ h) ≡ w = ap (λ b. cond b (w + 1) w) other in
      waits_where_held (with_event s (Pass u)) t
      (subst (λ v. Held t v (Pass u ∷ h)) (sym same) (record {
        live = here.live;
        signalled = here.signalled;
        waiter = here.waiter;
        not_over = here.not_over;
        no_claim = here.no_claim;
      }))
  stays (Send u a v) k legal =
      waits_where_held (with_event s (Send u a v)) t (record {
        live = here.live;
        signalled = here.signalled;
        waiter = here.waiter;
        not_over = here.not_over;
        no_claim = here.no_claim;
      })
  stays (Look u a x) k legal =
      waits_where_held (with_event s (Look u a x)) t (record {
        live = here.live;
        signalled = here.signalled;
        waiter = here.waiter;
        not_over = here.not_over;
        no_claim = here.no_claim;
      })
  stays (Drop u) k legal = absurd cc
