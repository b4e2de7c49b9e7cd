-- All tasks that would wait stand in the same phase. So an event
-- that leaves it open frees nobody but a task that it drops.
use Rattle.std.proofs.Common.{◌≡◌, ℕ, ◌+◌, ◌<◌, ◌==◌, Bool, true, false, ◌||◌, ◌&&◌, not, cond, List, [], ◌∷◌, Option, Some, None, refl, ap, sym, ◌∙◌, arith, inl, inr}
use Rattle.std.proofs.lemmas.Bool.{cases_Bool, cases_lt, eq-eqb, ne_eqb, and_parts, and_from, or_parts, or_from, not-true, false≢true}
use Rattle.phase_modes.specs.Mode.{can_signal}
use Rattle.phase_model.specs.declared.history.Event.{Event}
use Rattle.phase_model.specs.declared.history.Event.TheVariants.{Sig, Drop}
use Rattle.phase_model.specs.Tasks.{is_live, is_registered, is_dropped, has_mode}
use Rattle.phase_model.specs.Phases.{waits, signals, is_closed}
use Rattle.phase_model.specs.Singles.{has_proposed, is_proposed, is_done, is_claimed, is_settled}
use Rattle.phase_model.specs.Rules.{Story, with_event, is_legal}
use Rattle.phase_model.proofs.Legal.{last_follows, sig_follows}
use Rattle.phase_model.proofs.Closing.{over_behind}
use Rattle.phase_model.specs.Waiting.{would_wait}
use Rattle.phase_model.proofs.Waiting.{held, waits_where_held, closed_where_signalled}

-- a task that would wait isn't behind another such task, for the phase that the other has passed is over
not_behind : (s : Story) (t u : ℕ) → is_legal s.limits s.terms s.past ≡ true → would_wait s t ≡ true
    → would_wait s u ≡ true → waits t s.past < waits u s.past → false ≡ true
not_behind s t u legal a b less =
    let h = s.past in
    let w = waits t h in
    let o = over_behind s.limits s.terms h legal u w (held s u b).waiter less in
    sym (not-true (is_closed w h && is_settled w h) (held s t a).not_over)
    ∙ and_from (is_closed w h) (is_settled w h) (closed_where_signalled w h o.closed) o.settled

-- all tasks that would wait stand in the same phase, also where they wait for its single only
pub same_phase : (s : Story) (t u : ℕ) → is_legal s.limits s.terms s.past ≡ true → would_wait s t ≡ true
    → would_wait s u ≡ true → waits t s.past ≡ waits u s.past
same_phase s t u legal a b =
    elim (cases_lt (waits t s.past) (waits u s.past)) [
      | inl less ↦ absurd (false≢true (not_behind s t u legal a b less))
      | inr more ↦ elim (cases_lt (waits u s.past) (waits t s.past)) [
        | inl less ↦ absurd (false≢true (not_behind s u t legal b a less))
        | inr fewer ↦ omega (arith, more, fewer)
      ]
    ]

-- in an open phase there is nothing to pass and nothing to claim
open_not_over : (cl st : Bool) → not cl ≡ true → not (cl && st) ≡ true
open_not_over true st k = absurd cc
open_not_over false st k = refl

open_no_claim : (pr cl cd : Bool) → not cl ≡ true → not (pr && cl && not cd) ≡ true
open_no_claim pr true cd k = absurd cc
open_no_claim true false cd k = refl
open_no_claim false false cd k = refl

-- a task that would wait signals nothing in its phase
signalled_still : (can sig eq : Bool) → can ≡ true → eq ≡ false → not (can && not eq) ≡ true → sig ≡ true
signalled_still true sig true a b k = absurd cc
signalled_still true sig false a b k = absurd cc
signalled_still false sig eq a b k = absurd cc

-- who signals isn't a task that would wait
other_signaller : (s : Story) (u : ℕ) (x : Option ℕ) (t : ℕ)
    → is_legal s.limits s.terms (Sig u x ∷ s.past) ≡ true → would_wait s t ≡ true → (u == t) ≡ false
other_signaller s u x t legal wait =
    let h = s.past in
    let w = waits t h in
    let k = held s t wait in
    let g = sig_follows s.limits s.terms h u x (last_follows s.limits s.terms h (Sig u x) legal).permitted in
    ne_eqb u t (λ e.
    let can : has_mode can_signal t h ≡ true = ap (λ v. has_mode can_signal v h) (sym e) ∙ g.signaller in
    let behind : signals t h ≡ w = ap (λ v. signals v h) (sym e) ∙ (g.behind ∙ ap (λ v. waits v h) e) in
    let ahead : (signals t h == w + 1) ≡ false =
    ne_eqb (signals t h) (w + 1) (λ d. omega (arith, d, behind)) in
    false≢true (signalled_still (has_mode can_signal t h) false (signals t h == w + 1) can ahead k.signalled))

-- a signal that leaves the phase open leaves a waiting task waiting
pub waits_past_signal : (s : Story) (u : ℕ) (x : Option ℕ) (t : ℕ)
    → is_legal s.limits s.terms (Sig u x ∷ s.past) ≡ true → would_wait s t ≡ true
    → not (is_closed (waits t s.past) (Sig u x ∷ s.past)) ≡ true
    → would_wait (with_event s (Sig u x)) t ≡ true
waits_past_signal s u x t legal wait still =
    let h = s.past in
    let w = waits t h in
    let now = Sig u x ∷ h in
    let k = held s t wait in
    let other = other_signaller s u x t legal wait in
    waits_where_held (with_event s (Sig u x)) t (record {
      live = k.live;
      signalled =
          ap (λ b. not (has_mode can_signal t h && not (cond b (signals t h + 1) (signals t h) == w + 1)))
          other ∙ k.signalled;
      waiter = k.waiter;
      not_over = open_not_over (is_closed w now) (is_settled w now) still;
      no_claim = open_no_claim (has_proposed t w now) (is_closed w now) (is_claimed w now) still;
    })

-- so does the drop of another task
pub waits_past_drop : (s : Story) (u t : ℕ) → would_wait s t ≡ true → (u == t) ≡ false
    → not (is_closed (waits t s.past) (Drop u ∷ s.past)) ≡ true → would_wait (with_event s (Drop u)) t ≡ true
waits_past_drop s u t wait other still =
    let h = s.past in
    let w = waits t h in
    let now = Drop u ∷ h in
    let k = held s t wait in
    waits_where_held (with_event s (Drop u)) t (record {
      live = ap (λ b. is_registered t h && not (b || is_dropped t h)) other ∙ k.live;
      signalled = k.signalled;
      waiter = k.waiter;
      not_over = open_not_over (is_closed w now) (is_settled w now) still;
      no_claim = open_no_claim (has_proposed t w now) (is_closed w now) (is_claimed w now) still;
    })

-- a phase that is closed already, so that its single is waited for: a signal and a drop change nothing there
closed_not_over : (cl cl' st st' : Bool) → cl ≡ true → (st ≡ false → st' ≡ false) → not (cl && st) ≡ true
    → not (cl' && st') ≡ true
closed_not_over true cl' true st' e k n = absurd cc
closed_not_over false cl' st st' e k n = absurd cc
closed_not_over true true false st' e k n = ap (λ b. not b) (k refl)
closed_not_over true false false st' e k n = refl

closed_no_claim : (pr cl cl' cd : Bool) → cl ≡ true → not (pr && cl && not cd) ≡ true
    → not (pr && cl' && not cd) ≡ true
closed_no_claim false cl cl' cd e n = refl
closed_no_claim true false cl' cd e n = absurd cc
closed_no_claim true true cl' false e n = absurd cc
closed_no_claim true true true true e n = refl
closed_no_claim true true false true e n = refl

unsettled_stays : (w u : ℕ) (x : Option ℕ) (h : List Event) → is_settled w h ≡ false
    → is_settled w (Sig u x ∷ h) ≡ false
unsettled_stays w u None h k = k
unsettled_stays w u (Some n) h k = more (signals u h == w) (is_proposed w h) (is_done w h) k
  where
    more : (a b c : Bool) → (not b || c) ≡ false → (not (a || b) || c) ≡ false
    more a false c e = absurd cc
    more true true c e = e
    more false true c e = e

proposed_same : (t w u : ℕ) (x : Option ℕ) (h : List Event) → (u == t) ≡ false
    → has_proposed t w (Sig u x ∷ h) ≡ has_proposed t w h
proposed_same t w u None h k = refl
proposed_same t w u (Some n) h k = ap (λ b. (b && signals u h == w) || has_proposed t w h) k

pub closed_past_signal : (s : Story) (u : ℕ) (x : Option ℕ) (t : ℕ) → is_legal s.limits s.terms
    (Sig u x ∷ s.past) ≡ true → would_wait s t ≡ true → is_closed (waits t s.past) s.past ≡ true
    → would_wait (with_event s (Sig u x)) t ≡ true
closed_past_signal s u x t legal wait closed =
    let h = s.past in
    let w = waits t h in
    let now = Sig u x ∷ h in
    let k = held s t wait in
    let other = other_signaller s u x t legal wait in
    waits_where_held (with_event s (Sig u x)) t (record {
      live = k.live;
      signalled =
          ap (λ b. not (has_mode can_signal t h && not (cond b (signals t h + 1) (signals t h) == w + 1)))
          other ∙ k.signalled;
      waiter = k.waiter;
      not_over =
          closed_not_over (is_closed w h) (is_closed w now) (is_settled w h) (is_settled w now) closed
          (unsettled_stays w u x h) k.not_over;
      no_claim =
          ap (λ b. not (b && is_closed w now && not (is_claimed w h))) (proposed_same t w u x h other)
          ∙ closed_no_claim (has_proposed t w h) (is_closed w h) (is_closed w now)
          (is_claimed w h) closed k.no_claim;
    })

pub closed_past_drop : (s : Story) (u t : ℕ) → would_wait s t ≡ true → (u == t) ≡ false
    → is_closed (waits t s.past) s.past ≡ true → would_wait (with_event s (Drop u)) t ≡ true
closed_past_drop s u t wait other closed =
    let h = s.past in
    let w = waits t h in
    let now = Drop u ∷ h in
    let k = held s t wait in
    waits_where_held (with_event s (Drop u)) t (record {
      live = ap (λ b. is_registered t h && not (b || is_dropped t h)) other ∙ k.live;
      signalled = k.signalled;
      waiter = k.waiter;
      not_over =
          closed_not_over (is_closed w h) (is_closed w now) (is_settled w h) (is_settled w h) closed
          (λ e. e) k.not_over;
      no_claim =
          closed_no_claim (has_proposed t w h) (is_closed w h) (is_closed w now)
          (is_claimed w h) closed k.no_claim;
    })
