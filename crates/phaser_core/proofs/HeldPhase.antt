-- All who wait to signal stand at one phase: the one that lies as far ahead of the slowest waiter as the bound says.
use Rattle.std.proofs.Common.{◌≡◌, ℕ, max, ◌+◌, ◌≤◌, ◌==◌, nat_lt, Bool, true, false, ◌||◌, not, cond, List, [], ◌∷◌, Option, Some, None, refl, ap, sym, ◌∙◌, subst, arith, inl, inr}
use Rattle.std.proofs.lemmas.Bool.{cases_Bool, cases_lt, eqb-true, ne_eqb, and_parts, and_from, false≢true}
use Rattle.phase_modes.specs.declared.limits.Limits.{Limits}
use Rattle.phase_modes.specs.Mode.{can_signal, can_wait}
use Rattle.phase_modes.specs.Lists.{is_empty}
use Rattle.phase_model.specs.declared.history.Event.{Event}
use Rattle.phase_model.specs.declared.history.Event.TheVariants.{Make, Reg, Sig, Pass, Drop}
use Rattle.phase_model.specs.declared.terms.Terms.{Terms}
use Rattle.phase_model.specs.Tasks.{is_live, is_registered, is_dropped, has_mode}
use Rattle.phase_model.specs.Conditions.{is_other_proposed}
use Rattle.phase_model.specs.Phases.{waits, signals, is_within_bound}
use Rattle.phase_model.specs.Rules.{Story, with_event, is_legal}
use Rattle.phase_model.specs.Waiting.{signal_would_wait}
use Rattle.phase_model.proofs.Legal.{last_follows, reg_follows, pass_follows, signal_is_within, parent_signals}
use Rattle.phase_model.proofs.Closing.{parent_waits}
use Rattle.phase_model.proofs.LiveTasks.{empty_is}
use Rattle.phase_model.proofs.Bounded.{some_behind, held_by_behind, waits_where}
use Rattle.phaser_core.proofs.Parks.{waits_by}

-- who is live after a drop was live before it
live_before_drop : (u t : ℕ) (h : List Event) → is_live t (Drop u ∷ h) ≡ true → is_live t h ≡ true
live_before_drop u t h live =
    let parts = and_parts (is_registered t h) (not ((u == t) || is_dropped t h)) live in
    and_from (is_registered t h) (not (is_dropped t h)) parts.0 (neither (u == t) (is_dropped t h) parts.1)
  where
    neither : (a b : Bool) → not (a || b) ≡ true → not b ≡ true
    neither true b k = absurd cc
    neither false b k = k

-- a signal that keeps within the bound leaves no waiter further behind than the bound
near_after : (b p u : ℕ) (h : List Event) → is_within_bound (Some b) p h ≡ true → is_live u h ≡ true
    → has_mode can_wait u h ≡ true → p + 1 ≤ waits u h + max 1 b
near_after b p u h within live waiter =
    elim (cases_lt p (waits u h + max 1 b)) [
      | inl less ↦ omega (arith, less)
      | inr far ↦
          absurd (false≢true (sym (held_by_behind b p h (record { task = u; live = live; waiter = waiter; far = far })) ∙ within))
    ]

-- no signaller of a legal history is further ahead of a waiter than the bound
pub near_all : (l : Limits) (terms : Terms) (b : ℕ) → terms.bound ≡ Some b → (h : List Event) → is_legal l terms h ≡ true → (t u : ℕ)
    → is_live t h ≡ true → has_mode can_signal t h ≡ true → is_live u h ≡ true → has_mode can_wait u h ≡ true
    → signals t h ≤ waits u h + max 1 b
near_all l terms b is [] k t u live signaller here waiter = absurd cc
near_all l terms b is (Make v m ∷ h) k t u live signaller here waiter =
    let empty : h ≡ [] = empty_is h (and_parts (is_empty h) (nat_lt v l.tasks) (last_follows l terms h (Make v m) k).permitted).0 in
    let none : signals t (Make v m ∷ h) ≡ 0 = ap (λ (g : List Event). signals t (Make v m ∷ g)) empty ∙ both (v == t) 0 in
    omega (arith, none)
  where
    both : (c : Bool) (n : ℕ) → cond c n n ≡ n
    both true n = refl
    both false n = refl
near_all l terms b is (Reg q v m ∷ h) k t u live signaller here waiter =
    let f = last_follows l terms h (Reg q v m) k in
    let r = reg_follows l terms h q v m f.permitted in
    elim (cases_Bool (v == t)) [
      | inl e ↦ elim (cases_Bool (v == u)) [
        | inl e' ↦ rw (e, e') (near_all l terms b is h f.before q q r.parent_live (parent_signals q m h r.within (rw e at signaller)) r.parent_live (parent_waits q m h r.within (rw e' at waiter)))
        | inr e' ↦ rw (e, e') (near_all l terms b is h f.before q u r.parent_live (parent_signals q m h r.within (rw e at signaller)) (rw e' at here) (rw e' at waiter))
      ]
      | inr e ↦ elim (cases_Bool (v == u)) [
        | inl e' ↦ rw (e, e') (near_all l terms b is h f.before t q (rw e at live) (rw e at signaller) r.parent_live (parent_waits q m h r.within (rw e' at waiter)))
        | inr e' ↦ rw (e, e') (near_all l terms b is h f.before t u (rw e at live) (rw e at signaller) (rw e' at here) (rw e' at waiter))
      ]
    ]
near_all l terms b is (Sig v x ∷ h) k t u live signaller here waiter =
    let f = last_follows l terms h (Sig v x) k in
    elim (cases_Bool (v == t)) [
      | inl e ↦
          let within : is_within_bound (Some b) (signals t h) h ≡ true =
          subst (λ o. is_within_bound o (signals t h) h ≡ true) is
          (subst (λ w. is_within_bound terms.bound (signals w h) h ≡ true) (eqb-true v t e) (signal_is_within l terms h v x f.permitted)) in
          rw e (near_after b (signals t h) u h within here waiter)
      | inr e ↦ rw e (near_all l terms b is h f.before t u live signaller here waiter)
    ]
near_all l terms b is (Pass v ∷ h) k t u live signaller here waiter =
    let before = near_all l terms b is h (last_follows l terms h (Pass v) k).before t u live signaller here waiter in
    elim (cases_Bool (v == u)) [ inl e ↦ rw e (omega (arith, before)) | inr e ↦ rw e before ]
near_all l terms b is (Drop v ∷ h) k t u live signaller here waiter =
    near_all l terms b is h (last_follows l terms h (Drop v) k).before t u (live_before_drop v t h live) signaller (live_before_drop v u h here) waiter
near_all l terms b is (e ∷ h) k t u live signaller here waiter =
    near_all l terms b is h (last_follows l terms h e k).before t u live signaller here waiter

-- two signallers who are held up stand at one phase
pub held_at_one_phase : (l : Limits) (terms : Terms) (h : List Event) → is_legal l terms h ≡ true → (t u : ℕ)
    → is_live t h ≡ true → has_mode can_signal t h ≡ true → is_within_bound terms.bound (signals t h) h ≡ false
    → is_live u h ≡ true → has_mode can_signal u h ≡ true → is_within_bound terms.bound (signals u h) h ≡ false
    → signals t h ≡ signals u h
held_at_one_phase l terms h k t u live signaller held live' signaller' held' = go terms.bound refl
  where
    go : (o : Option ℕ) → terms.bound ≡ o → signals t h ≡ signals u h
    go None e = absurd (false≢true (sym held ∙ ap (λ o. is_within_bound o (signals t h) h) e))
    go (Some b) e =
        let x = some_behind b (signals t h) h (sym (ap (λ o. is_within_bound o (signals t h) h) e) ∙ held) in
        let y = some_behind b (signals u h) h (sym (ap (λ o. is_within_bound o (signals u h) h) e) ∙ held') in
        let a = near_all l terms b e h k u x.task live' signaller' x.live x.waiter in
        let c = near_all l terms b e h k t y.task live signaller y.live y.waiter in
        omega (arith, x.far, y.far, a, c)

-- a pass proposes nothing
others_same : (y : Option ℕ) (p u : ℕ) (h : List Event) → is_other_proposed y p (Pass u ∷ h) ≡ is_other_proposed y p h
others_same None p u h = refl
others_same (Some n) p u h = refl

-- where one who waits to signal still does after a pass, so does another
pub held_past_pass : (s : Story) (u t q : ℕ) (x y : Option ℕ) → is_legal s.limits s.terms s.past ≡ true → is_legal s.limits s.terms (Pass u ∷ s.past) ≡ true
    → signal_would_wait s t x ≡ true → signal_would_wait (with_event s (Pass u)) t x ≡ true
    → signal_would_wait s q y ≡ true → signal_would_wait (with_event s (Pass u)) q y ≡ true
held_past_pass s u t q x y legal next before after other =
    let h = s.past in
    let a = waits_by s t x before in
    let c = waits_by s q y other in
    let now = waits_by (with_event s (Pass u)) t x after in
    let same = held_at_one_phase s.limits s.terms h legal t q a.live a.signaller a.beyond c.live c.signaller c.beyond in
    let f = pass_follows s.limits s.terms h u (last_follows s.limits s.terms h (Pass u) next).permitted in
    let apart : (u == q) ≡ false =
    ne_eqb u q (λ e.
    let ahead = f.signalled (subst (λ v. has_mode can_signal v h ≡ true) (sym e) c.signaller) in
    let level = eqb-true (signals q h) (waits q h) c.level in
    let over : signals q h ≡ waits q h + 1 = subst (λ v. signals v h ≡ waits v h + 1) e ahead in
    absurd (omega (arith, level, over))) in
    let turns : waits q (Pass u ∷ h) ≡ waits q h = ap (λ b. cond b (waits q h + 1) (waits q h)) apart in
    waits_where (with_event s (Pass u)) q y (record {
      live = c.live;
      signaller = c.signaller;
      may_propose = c.may_propose;
      level = subst (λ n. (signals q h == n) ≡ true) (sym turns) c.level;
      agrees = ap (λ b. not b) (others_same y (signals q h) u h) ∙ c.agrees;
      beyond = subst (λ p. is_within_bound s.terms.bound p (Pass u ∷ h) ≡ false) same now.beyond;
    })
