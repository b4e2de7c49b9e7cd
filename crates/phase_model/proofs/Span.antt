-- Each live signaller of a legal history stands within the bound of each live waiter.
use Rattle.std.proofs.Common.{◌≡◌, ℕ, ◌+◌, ◌-◌, ◌<◌, ◌==◌, nat_lt, max, Bool, true, false, ◌||◌, not, cond, List, [], ◌∷◌, Some, refl, sym, ◌∙◌, subst, arith, inl, inr}
use Rattle.std.specs.List.{list_all}
use Rattle.std.proofs.lemmas.Bool.{cases_Bool, cases_lt, eqb-true, ltb-true, and_parts, and_from, or_cases, false≢true, false_from_ne_true, both_ways}
use Rattle.phase_modes.specs.declared.reg.Mode.{Mode}
use Rattle.phase_modes.specs.declared.limits.Limits.{Limits}
use Rattle.phase_modes.specs.Lists.{is_empty}
use Rattle.phase_modes.specs.Mode.{can_signal, can_wait}
use Rattle.phase_model.specs.declared.history.Event.{Event}
use Rattle.phase_model.specs.declared.history.Event.TheVariants.{Make, Reg, Sig, Claim, Did, Pass, Send, Look, Drop}
use Rattle.phase_model.specs.declared.terms.Terms.{Terms}
use Rattle.phase_model.specs.Tasks.{is_registered, is_dropped, is_live, has_mode, live_tasks}
use Rattle.phase_model.specs.Phases.{waits, signals, is_near, is_within_bound}
use Rattle.phase_model.specs.Rules.{is_legal}
use Rattle.phase_model.proofs.Legal.{last_follows, reg_follows, parent_signals, signal_is_within, implied, pass_follows}
use Rattle.phase_model.proofs.LiveTasks.{has, has-live_tasks, empty_is}
use Rattle.phase_model.proofs.Closing.{parent_waits, over_behind, signalled_from_closed}
use Rattle.phase_model.specs.Span.{IsBehind, IsNear, LegalIsSpanned, NobodyWaits, NobodySignals, StaysOneSided, SignalStaysNear, PassStaysNear}

-- who is live after a drop was live before it
live_before_drop : (u t : ℕ) (h : List Event) → is_live t (Drop u ∷ h) ≡ true → is_live t h ≡ true
live_before_drop u t h live =
    let parts = and_parts (is_registered t h) (not ((u == t) || is_dropped t h)) live in
    and_from (is_registered t h) (not (is_dropped t h)) parts.0 (neither (u == t) (is_dropped t h) parts.1)
  where
    neither : (a b : Bool) → not (a || b) ≡ true → not b ≡ true
    neither true b k = absurd cc
    neither false b k = k

pub is_behind : (l : Limits) (terms : Terms) (h : List Event) → is_legal l terms h ≡ true → IsBehind h
is_behind l terms h k t u live signaller waiter =
    elim (cases_lt 0 (waits u h)) [
      | inl some ↦
          let over = (over_behind l terms h k u (waits u h - 1) waiter (omega (arith, some))).closed t live signaller in
          omega (arith, over, some)
      | inr none ↦ omega (arith, none)
    ]

-- what passes of each passes of one that stands in the list
all_at : (f : ℕ → Bool) (ts : List ℕ) → list_all f ts ≡ true → (t : ℕ) → has t ts ≡ true → f t ≡ true
all_at f [] a t k = absurd cc
all_at f (u ∷ ts) a t k =
    let b = and_parts (f u) (list_all f ts) a in
    elim (or_cases (u == t) (has t ts) k) [ inl e ↦ rw (eqb-true u t e) at b.0 | inr e ↦ all_at f ts b.1 t e ]

-- a signal within the bound leaves its task near each waiter
near_now : (b p u : ℕ) (h : List Event) → is_within_bound (Some b) p h ≡ true → is_live u h ≡ true
    → has_mode can_wait u h ≡ true → p < waits u h + max 1 b
near_now b p u h k live waiter =
    let near = all_at (is_near (max 1 b) p h) (live_tasks h) k u (has-live_tasks u h ∙ live) in
    ltb-true p (waits u h + max 1 b) (implied (has_mode can_wait u h) (nat_lt p (waits u h + max 1 b)) near waiter)

-- nobody has signalled where nothing has happened but the making
made_first : (v t : ℕ) (m : Mode) (h : List Event) → h ≡ [] → signals t (Make v m ∷ h) ≡ 0
made_first v t m h e =
    let none : ℕ = 0 in
    rw e (elim (v == t) as (λ c. cond c none none ≡ none) [ true ↦ refl | false ↦ refl ])

pub is_near_all : (l : Limits) (terms : Terms) (b : ℕ) → terms.bound ≡ Some b → (h : List Event)
    → is_legal l terms h ≡ true → IsNear b h
is_near_all l terms b is [] k t u live signaller alive waiter = absurd cc
is_near_all l terms b is (Make v m ∷ h) k t u live signaller alive waiter =
    let f = last_follows l terms h (Make v m) k in
    let empty : h ≡ [] = empty_is h (and_parts (is_empty h) (nat_lt v l.tasks) f.permitted).0 in
    omega (arith, made_first v t m h empty)
is_near_all l terms b is (Reg q v m ∷ h) k t u live signaller alive waiter =
    let f = last_follows l terms h (Reg q v m) k in
    let g = reg_follows l terms h q v m f.permitted in
    let near = is_near_all l terms b is h f.before in
    elim (cases_Bool (v == t)) [
      | inl mine ↦
          let able : has_mode can_signal q h ≡ true = parent_signals q m h g.within (rw mine at signaller) in
          elim (cases_Bool (v == u)) [
            | inl both ↦ rw (mine, both) (near q q g.parent_live able g.parent_live (parent_waits q m h g.within (rw both at waiter)))
            | inr other ↦ rw (mine, other) (near q u g.parent_live able (rw other at alive) (rw other at waiter))
          ]
      | inr apart ↦
          elim (cases_Bool (v == u)) [
            | inl both ↦ rw (apart, both) (near t q (rw apart at live) (rw apart at signaller) g.parent_live (parent_waits q m h g.within (rw both at waiter)))
            | inr other ↦ rw (apart, other) (near t u (rw apart at live) (rw apart at signaller) (rw other at alive) (rw other at waiter))
          ]
    ]
is_near_all l terms b is (Sig v x ∷ h) k t u live signaller alive waiter =
    let f = last_follows l terms h (Sig v x) k in
    let before = is_near_all l terms b is h f.before t u live signaller alive waiter in
    elim (cases_Bool (v == t)) [
      | inl mine ↦
          let within : is_within_bound (Some b) (signals v h) h ≡ true =
          subst (λ o. is_within_bound o (signals v h) h ≡ true) is (signal_is_within l terms h v x f.permitted) in
          let near = near_now b (signals v h) u h within alive waiter in
          rw mine (omega (arith, rw (eqb-true v t mine) at near))
      | inr other ↦ rw other before
    ]
is_near_all l terms b is (Pass v ∷ h) k t u live signaller alive waiter =
    let f = last_follows l terms h (Pass v) k in
    let before = is_near_all l terms b is h f.before t u live signaller alive waiter in
    elim (cases_Bool (v == u)) [
      | inl mine ↦ rw mine (omega (arith, before))
      | inr other ↦ rw other before
    ]
is_near_all l terms b is (Drop v ∷ h) k t u live signaller alive waiter =
    let f = last_follows l terms h (Drop v) k in
    is_near_all l terms b is h f.before t u (live_before_drop v t h live) signaller (live_before_drop v u h alive) waiter
is_near_all l terms b is (Claim v ∷ h) k t u live signaller alive waiter =
    is_near_all l terms b is h (last_follows l terms h (Claim v) k).before t u live signaller alive waiter
is_near_all l terms b is (Did v ∷ h) k t u live signaller alive waiter =
    is_near_all l terms b is h (last_follows l terms h (Did v) k).before t u live signaller alive waiter
is_near_all l terms b is (Send v a n ∷ h) k t u live signaller alive waiter =
    is_near_all l terms b is h (last_follows l terms h (Send v a n) k).before t u live signaller alive waiter
is_near_all l terms b is (Look v a n ∷ h) k t u live signaller alive waiter =
    is_near_all l terms b is h (last_follows l terms h (Look v a n) k).before t u live signaller alive waiter

pub legal_is_spanned : LegalIsSpanned
legal_is_spanned l terms h k = (is_behind l terms h k, λ b is. is_near_all l terms b is h k)

waits_stays : (l : Limits) (terms : Terms) (e : Event) (h : List Event) → is_legal l terms (e ∷ h) ≡ true
    → is_empty h ≡ false → NobodyWaits h → NobodyWaits (e ∷ h)
waits_stays l terms (Make v m) h k some nobody t live =
    absurd (false≢true (sym some
    ∙ (and_parts (is_empty h) (nat_lt v l.tasks) (last_follows l terms h (Make v m) k).permitted).0))
waits_stays l terms (Reg q v m) h k some nobody t live =
    let g = reg_follows l terms h q v m (last_follows l terms h (Reg q v m) k).permitted in
    false_from_ne_true (has_mode can_wait t (Reg q v m ∷ h)) (λ waiter.
    elim (cases_Bool (v == t)) [
      | inl mine ↦ absurd (both_ways (has_mode can_wait q h) (nobody q g.parent_live) (parent_waits q m h g.within (rw mine at waiter)))
      | inr other ↦ absurd (both_ways (has_mode can_wait t h) (nobody t (rw other at live)) (rw other at waiter))
    ])
waits_stays l terms (Drop v) h k some nobody t live = nobody t (live_before_drop v t h live)
waits_stays l terms e h k some nobody t live = nobody t live

signals_stays : (l : Limits) (terms : Terms) (e : Event) (h : List Event) → is_legal l terms (e ∷ h) ≡ true
    → is_empty h ≡ false → NobodySignals h → NobodySignals (e ∷ h)
signals_stays l terms (Make v m) h k some nobody t live =
    absurd (false≢true (sym some
    ∙ (and_parts (is_empty h) (nat_lt v l.tasks) (last_follows l terms h (Make v m) k).permitted).0))
signals_stays l terms (Reg q v m) h k some nobody t live =
    let g = reg_follows l terms h q v m (last_follows l terms h (Reg q v m) k).permitted in
    false_from_ne_true (has_mode can_signal t (Reg q v m ∷ h)) (λ able.
    elim (cases_Bool (v == t)) [
      | inl mine ↦ absurd (both_ways (has_mode can_signal q h) (nobody q g.parent_live) (parent_signals q m h g.within (rw mine at able)))
      | inr other ↦ absurd (both_ways (has_mode can_signal t h) (nobody t (rw other at live)) (rw other at able))
    ])
signals_stays l terms (Drop v) h k some nobody t live = nobody t (live_before_drop v t h live)
signals_stays l terms e h k some nobody t live = nobody t live

pub stays_one_sided : StaysOneSided
stays_one_sided l terms e h k some =
    (waits_stays l terms e h k some, signals_stays l terms e h k some)

pub signal_stays_near : SignalStaysNear
signal_stays_near l terms h t x b k may is u alive waiter v live signaller =
    let within : is_within_bound (Some b) (signals t h) h ≡ true =
    subst (λ o. is_within_bound o (signals t h) h ≡ true) is (signal_is_within l terms h t x may) in
    let near = near_now b (signals t h) u h within alive waiter in
    let behind = is_behind l terms h k v u live signaller waiter in
    omega (arith, near, behind)

pub pass_stays_near : PassStaysNear
pass_stays_near l terms h t b k may waiter is u live signaller v alive other =
    let f = pass_follows l terms h t may in
    let signalled = signalled_from_closed (waits t h) h (f.closed waiter) u live signaller in
    let near = is_near_all l terms b is h k u v live signaller alive other in
    omega (arith, signalled, near)
