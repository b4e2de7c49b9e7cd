-- How much of its room a phaser's history has used or keeps back: what each event needs, with its drop to come, and
-- two for each phase that has a single.
use Rattle.std.proofs.Common.{◌≡◌, ◌⊎◌, ℕ, zero, suc, ◌+◌, ◌<◌, ◌≤◌, Bool, true, false, ◌||◌, ◌==◌, not, nat_lt, cond, List, [], ◌∷◌, length, Some, None, refl, sym, subst, ap, ◌∙◌, inl, inr, arith}
use Rattle.std.specs.List.{list_any, filter}
use Rattle.std.proofs.lemmas.Bool.{and_parts, or_cases, or_parts, or_from, or_left, or_right, cases_Bool, cases_order, eqb-true, eq-eqb, ne_eqb, true≢false, false≢true, false_from_ne_true}
use Rattle.phase_modes.specs.Lists.{is_empty}
use Rattle.phase_modes.specs.Mode.{can_signal, can_wait}
use Rattle.phase_modes.specs.declared.limits.Limits.{Limits}
use Rattle.phase_model.specs.declared.history.Event.{Event}
use Rattle.phase_model.specs.declared.history.Event.TheVariants.{Make, Reg, Sig, Claim, Did, Pass, Send, Look, Drop}
use Rattle.phase_model.specs.declared.terms.Terms.{Terms}
use Rattle.phase_model.specs.Phases.{waits, signals}
use Rattle.phase_model.specs.Rules.{is_legal, is_permitted}
use Rattle.phase_model.specs.Singles.{Proposal, proposals, is_proposed, is_claimed, is_done, is_settled, owes_nothing, has_unclaimed, has_undone, reserve}
use Rattle.phase_model.specs.Tasks.{has_mode, is_live, live_tasks, live_count}
use Rattle.phase_model.proofs.Claims.{claimer_claims, claimed_is_proposed, claimed_signalled, done_is_claimed}
use Rattle.phase_model.proofs.Closing.{settled_behind}
use Rattle.phase_model.proofs.Legal.{last_follows, reg_follows, sig_follows}
use Rattle.phase_model.proofs.LiveTasks.{Apart, empty_is, has, has-live_tasks, live_apart, live_tasks-drop, live_tasks-reg}
use Rattle.phase_model.proofs.Proposals.{earlier_are_done, open_is_last, signals_past_proposals}
use Rattle.phase_model.proofs.Proposers.{proposer_proposes, single_waits}
use Rattle.phase_model.proofs.Reserves.{none_unclaimed, reserve_none, reserve_open}
use Rattle.phase_model.proofs.SingleRules.{claim_follows, did_follows, proposal_follows}

-- a registration needs room for itself and for the drop to come; a claim and a report come with their phase
abbrev pub event_need : Event → ℕ
event_need (Make t m) = 2
event_need (Reg q t m) = 2
event_need (Claim t) = 0
event_need (Did t) = 0
event_need (Drop t) = 0
event_need _ = 1

abbrev pub needs : List Event → ℕ
needs [] = 0
needs (e ∷ h) = event_need e + needs h

-- what has_room compares with the limit
abbrev pub used : List Event → ℕ
used h = length h + live_count h + reserve h

-- ---- how many numbers below m pass a test

abbrev pub passing : (ℕ → Bool) → ℕ → ℕ
passing f zero = 0
passing f (suc m) = cond (f m) 1 0 + passing f m

passing_same : (f g : ℕ → Bool) (m : ℕ) → ((p : ℕ) → p < m → f p ≡ g p) → passing f m ≡ passing g m
passing_same f g zero k = refl
passing_same f g (suc m) k =
    ap (λ b. cond b 1 0 + passing f m) (k m (omega arith))
    ∙ ap (λ i. cond (g m) 1 0 + i) (passing_same f g m (λ p less. k p (omega (arith, less))))

pub passing_within : (f g : ℕ → Bool) (m : ℕ) → ((p : ℕ) → f p ≡ true → g p ≡ true)
    → passing f m ≤ passing g m
passing_within f g zero k = omega arith
passing_within f g (suc m) k =
    let rest = passing_within f g m k in
    elim (cases_Bool (f m)) [
      | inl e ↦ rw (e, k m e) (omega (arith, rest))
      | inr e ↦
          rw e (elim (g m) as (λ b. 0 + passing f m ≤ cond b 1 0 + passing g m) [
            | true ↦ omega (arith, rest)
            | false ↦ omega (arith, rest)
          ])
    ]

-- one number more
passing_more : (f g : ℕ → Bool) (m p : ℕ) → p < m → f p ≡ false → g p ≡ true
    → ((q : ℕ) → (p == q) ≡ false → f q ≡ g q) → passing g m ≡ suc (passing f m)
passing_more f g zero p less a b k = absurd (omega (arith, less))
passing_more f g (suc m) p less a b k =
    elim (cases_Bool (p == m)) [
      | inl e ↦
          let is : p ≡ m = eqb-true p m e in
          let here_f : f m ≡ false = subst (λ q. f q ≡ false) is a in
          let here_g : g m ≡ true = subst (λ q. g q ≡ true) is b in
          let rest : passing f m ≡ passing g m =
          passing_same f g m (λ q below. k q (ne_eqb p q (λ s. absurd (omega (arith, s, is, below))))) in
          rw (here_f, here_g) (omega (arith, rest))
      | inr e ↦
          let rest : passing g m ≡ suc (passing f m) =
          passing_more f g m p (below e) a b k in
          ap (λ c. cond c 1 0 + passing g m) (sym (k m e)) ∙ omega (arith, rest)
    ]
  where
    below : (p == m) ≡ false → p < m
    below e =
        elim (cases_order p m) [
          | inl same ↦ absurd (true≢false (sym (eq-eqb p m same) ∙ e))
          | inr (inl under) ↦ under
          | inr (inr over) ↦ absurd (omega (arith, over, less))
        ]

-- ---- phases that are proposed for

signals_within : (t : ℕ) (h : List Event) → signals t h ≤ length h
signals_within t [] = omega arith
signals_within t (Make u m ∷ h) =
    elim (u == t) as (λ b. cond b 0 (signals t h) ≤ suc (length h)) [
      | true ↦ omega arith
      | false ↦ omega (arith, signals_within t h)
    ]
signals_within t (Reg q u m ∷ h) = omega (arith, signals_within (cond (u == t) q t) h)
signals_within t (Sig u x ∷ h) =
    elim (u == t) as (λ b. cond b (signals t h + 1) (signals t h) ≤ suc (length h)) [
      | true ↦ omega (arith, signals_within t h)
      | false ↦ omega (arith, signals_within t h)
    ]
signals_within t (e ∷ h) = omega (arith, signals_within t h)

-- they are below the history's length
pub proposed_below : (p : ℕ) (h : List Event) → is_proposed p h ≡ true → p < length h
proposed_below p [] k = absurd (false≢true k)
proposed_below p (Sig t (Some n) ∷ h) k =
    elim (or_cases (signals t h == p) (is_proposed p h) k) [
      | inl e ↦ omega (arith, signals_within t h, eqb-true (signals t h) p e)
      | inr e ↦ omega (arith, proposed_below p h e)
    ]
proposed_below p (e ∷ h) k = omega (arith, proposed_below p h k)

-- where a phase that is proposed for has no claim, a claim and a report are kept back
unclaimed_reserve : (p : ℕ) (h g : List Event) (xs : List Proposal) → list_any (λ x. x.phase == p) xs ≡ true
    → is_claimed p g ≡ false → has_unclaimed g xs ≡ true
unclaimed_reserve p h g [] s e = absurd (false≢true s)
unclaimed_reserve p h g (x ∷ xs) s e =
    elim (or_cases (x.phase == p) (list_any (λ y. y.phase == p) xs) s) [
      | inl here ↦
          or_left (not (is_claimed x.phase g)) (has_unclaimed g xs)
          (ap (λ b. not b) (subst (λ q. is_claimed q g ≡ false) (sym (eqb-true x.phase p here)) e))
      | inr there ↦
          or_right (not (is_claimed x.phase g)) (has_unclaimed g xs) (unclaimed_reserve p h g xs there e)
    ]

undone_reserve : (p : ℕ) (g : List Event) (xs : List Proposal) → list_any (λ x. x.phase == p) xs ≡ true
    → is_done p g ≡ false → has_undone g xs ≡ true
undone_reserve p g [] s e = absurd (false≢true s)
undone_reserve p g (x ∷ xs) s e =
    elim (or_cases (x.phase == p) (list_any (λ y. y.phase == p) xs) s) [
      | inl here ↦
          or_left (not (is_done x.phase g)) (has_undone g xs)
          (ap (λ b. not b) (subst (λ q. is_done q g ≡ false) (sym (eqb-true x.phase p here)) e))
      | inr there ↦ or_right (not (is_done x.phase g)) (has_undone g xs) (undone_reserve p g xs there e)
    ]

none_undone : (g : List Event) (xs : List Proposal)
    → ((q : ℕ) → list_any (λ x. x.phase == q) xs ≡ true → is_done q g ≡ true) → has_undone g xs ≡ false
none_undone g [] each = refl
none_undone g (x ∷ xs) each =
    or_from (not (is_done x.phase g)) (has_undone g xs)
    (ap (λ b. not b) (each x.phase (or_left (x.phase == x.phase) (list_any (λ y. y.phase == x.phase) xs)
    (eq-eqb x.phase x.phase refl))))
    (none_undone g xs (λ q k. each q (or_right (x.phase == q) (list_any (λ y. y.phase == q) xs) k)))

-- who is taken from a list leaves it shorter by one
no_other : (t : ℕ) (ts : List ℕ) → has t ts ≡ false → filter (λ u. not (t == u)) ts ≡ ts
no_other t [] k = refl
no_other t (u ∷ ts) k =
    let p = or_parts (u == t) (has t ts) k in
    let apart : (t == u) ≡ false =
    false_from_ne_true (t == u) (λ e. true≢false (sym (eq-eqb u t (sym (eqb-true t u e))) ∙ p.0)) in
    rw (apart, no_other t ts p.1) refl

one_taken : (t : ℕ) (ts : List ℕ) → Apart ts → has t ts ≡ true
    → length ts ≡ suc (length (filter (λ u. not (t == u)) ts))
one_taken t [] a k = absurd (false≢true k)
one_taken t (u ∷ ts) a k =
    elim (cases_Bool (u == t)) [
      | inl e ↦
          let is : u ≡ t = eqb-true u t e in
          let gone : has t ts ≡ false = subst (λ x. has x ts ≡ false) is a.0 in
          rw (eq-eqb t u (sym is), no_other t ts gone) refl
      | inr e ↦
          let apart : (t == u) ≡ false =
          false_from_ne_true (t == u) (λ d. true≢false (sym (eq-eqb u t (sym (eqb-true t u d))) ∙ e)) in
          let there : has t ts ≡ true = rw e at k in
          rw apart (ap (λ i. suc i) (one_taken t ts a.1 there))
    ]

-- ---- one event more

module _ (l : Limits) (terms : Terms) (m : ℕ) where
  -- for how many phases below m something is proposed
  abbrev pub singles : List Event → ℕ
  singles h = passing (λ p. is_proposed p h) m

  -- what the history has used and keeps back is what its events need, and two for each single
  abbrev pub IsNeed : List Event → Type 0
  IsNeed h = used h ≡ needs h + (singles h + singles h)

  all_done : (h : List Event) (t n : ℕ) → is_legal l terms h ≡ true
      → is_permitted l terms h (Sig t (Some n)) ≡ true
      → is_proposed (signals t h) h ≡ false → reserve h ≡ 0
  all_done h t n k a fresh =
      let s = sig_follows l terms h t (Some n) a in
      let w = single_waits t h (proposal_follows l terms h t n a).single in
      reserve_none l terms h k (λ q. by_test q (is_proposed q h) refl w s.live s.signaller s.behind)
    where
      by_test : (q : ℕ) (b : Bool) → is_proposed q h ≡ b → has_mode can_wait t h ≡ true → is_live t h ≡ true
          → has_mode can_signal t h ≡ true → signals t h ≡ waits t h → is_settled q h ≡ true
      by_test q false e w live signaller behind = rw e refl
      by_test q true e w live signaller behind =
          let within : q ≤ signals t h = signals_past_proposals l terms h k t q e live signaller in
          let apart : q ≡ signals t h → ⊥ =
          λ same. false≢true (sym fresh ∙ subst (λ p. is_proposed p h ≡ true) same e) in
          elim (cases_order q (signals t h)) [
            | inl same ↦ absurd (apart same)
            | inr (inl under) ↦ settled_behind l terms h k t q w (omega (arith, under, behind))
            | inr (inr over) ↦ absurd (omega (arith, within, over))
          ]

  signal_need : (h : List Event) (t n : ℕ) → is_legal l terms h ≡ true
      → is_permitted l terms h (Sig t (Some n)) ≡ true
      → signals t h < m → IsNeed h → IsNeed (Sig t (Some n) ∷ h)
  signal_need h t n k a less need =
      let s = sig_follows l terms h t (Some n) a in
      let p = signals t h in
      let unclaimed : is_claimed p h ≡ false =
      false_from_ne_true (is_claimed p h) (λ c. let past : p + 1 ≤ p =
      claimed_signalled l terms h k p c t s.live s.signaller in absurd (omega (arith, past))) in
      let now : reserve (Sig t (Some n) ∷ h) ≡ 2 =
      rw unclaimed refl in
      elim (cases_Bool (is_proposed p h)) [
        | inl e ↦
            let before : reserve h ≡ 2 = rw (unclaimed_reserve p h h (proposals h) e unclaimed) refl in
            let same : singles (Sig t (Some n) ∷ h) ≡ singles h =
            passing_same (λ q. is_proposed q (Sig t (Some n) ∷ h)) (λ q. is_proposed q h) m
            (λ q _. by_known e q (p == q) refl) in
            let live : live_count (Sig t (Some n) ∷ h) ≡ live_count h = refl in
            omega (arith, need, now, before, same, live)
        | inr e ↦
            let before : reserve h ≡ 0 = all_done h t n k a e in
            let more : singles (Sig t (Some n) ∷ h) ≡ suc (singles h) =
            passing_more (λ q. is_proposed q h) (λ q. is_proposed q (Sig t (Some n) ∷ h)) m p less e
            (or_left (p == p) (is_proposed p h) (eq-eqb p p refl))
            (λ q other. rw other refl) in
            let live : live_count (Sig t (Some n) ∷ h) ≡ live_count h = refl in
            omega (arith, need, now, before, more, live)
      ]
    where
      by_known : is_proposed (signals t h) h ≡ true → (q : ℕ) (b : Bool) → (signals t h == q) ≡ b
          → (b || is_proposed q h) ≡ is_proposed q h
      by_known e q true y = sym (subst (λ x. is_proposed x h ≡ true) (eqb-true (signals t h) q y) e)
      by_known e q false y = refl

  claim_need : (h : List Event) (t : ℕ) → is_legal l terms h ≡ true → is_permitted l terms h (Claim t) ≡ true
      → IsNeed h → IsNeed (Claim t ∷ h)
  claim_need h t k a need =
      let f = claim_follows l terms h t a in
      let p = waits t h in
      let s : is_proposed p h ≡ true = proposer_proposes t p h f.proposed in
      let d : is_done p h ≡ false =
      false_from_ne_true (is_done p h)
      (λ e. false≢true (sym f.unclaimed ∙ done_is_claimed l terms h k p e)) in
      let two : reserve h ≡ 2 = rw (unclaimed_reserve p h h (proposals h) s f.unclaimed) refl in
      let claimed : has_unclaimed (Claim t ∷ h) (proposals h) ≡ false =
      none_unclaimed l terms h (Claim t ∷ h) k p s d (or_left (p == p) (is_claimed p h) (eq-eqb p p refl))
      (λ q e. or_right (p == q) (is_claimed q h) e) in
      let one : reserve (Claim t ∷ h) ≡ 1 = rw (claimed, undone_reserve p h (proposals h) s d) refl in
      let live : live_count (Claim t ∷ h) ≡ live_count h = refl in
      let same : singles (Claim t ∷ h) ≡ singles h = refl in
      omega (arith, need, two, one, live, same)

  did_need : (h : List Event) (t : ℕ) → is_legal l terms h ≡ true → is_permitted l terms h (Did t) ≡ true
      → IsNeed h → IsNeed (Did t ∷ h)
  did_need h t k a need =
      let f = did_follows l terms h t a in
      let p = waits t h in
      let c : is_claimed p h ≡ true = claimer_claims t p h f.claimed in
      let s : is_proposed p h ≡ true = claimed_is_proposed l terms h k p c in
      let one : reserve h ≡ 1 = reserve_open l terms h k p s f.undone ∙ ap (λ b. cond b 1 2) c in
      let claimed : has_unclaimed (Did t ∷ h) (proposals h) ≡ false =
      none_unclaimed l terms h h k p s f.undone c (λ q e. e) in
      let done : has_undone (Did t ∷ h) (proposals h) ≡ false =
      none_undone (Did t ∷ h) (proposals h) (λ q e. by_order q e s f.undone (cases_order p q)) in
      let none : reserve (Did t ∷ h) ≡ 0 = rw (claimed, done) refl in
      let live : live_count (Did t ∷ h) ≡ live_count h = refl in
      let same : singles (Did t ∷ h) ≡ singles h = refl in
      omega (arith, need, one, none, live, same)
    where
      by_order : (q : ℕ) → is_proposed q h ≡ true → is_proposed (waits t h) h ≡ true
          → is_done (waits t h) h ≡ false
          → (waits t h ≡ q) ⊎ ((waits t h < q) ⊎ (q < waits t h)) → is_done q (Did t ∷ h) ≡ true
      by_order q e s d (inl same) = or_left (waits t h == q) (is_done q h) (eq-eqb (waits t h) q same)
      by_order q e s d (inr (inl less)) =
          absurd (false≢true (sym (open_is_last l terms h k (waits t h) q s d less) ∙ e))
      by_order q e s d (inr (inr more)) =
          or_right (waits t h == q) (is_done q h) (earlier_are_done l terms h k (waits t h) q s e more)

  drop_need : (h : List Event) (t : ℕ) → is_legal l terms h ≡ true → is_permitted l terms h (Drop t) ≡ true
      → IsNeed h → IsNeed (Drop t ∷ h)
  drop_need h t k a need =
      let live = (and_parts (is_live t h) (owes_nothing t h) a).0 in
      let fewer : live_count h ≡ suc (live_count (Drop t ∷ h)) =
      rw live_tasks-drop (one_taken t (live_tasks h) (live_apart l terms h k) (has-live_tasks t h ∙ live)) in
      let kept : reserve (Drop t ∷ h) ≡ reserve h = refl in
      let same : singles (Drop t ∷ h) ≡ singles h = refl in
      omega (arith, need, fewer, kept, same)

  -- so after each event that is permitted, room aside
  pub step_need : (h : List Event) (e : Event) → is_legal l terms h ≡ true → is_permitted l terms h e ≡ true
      → ((p : ℕ) → is_proposed p (e ∷ h) ≡ true → p < m) → IsNeed h → IsNeed (e ∷ h)
  step_need h (Make t o) k a below need =
      let empty : h ≡ [] = empty_is h (and_parts (is_empty h) (nat_lt t l.tasks) a).0 in
      (subst (λ (g : List Event). IsNeed g → IsNeed (Make t o ∷ g)) (sym empty) first) need
    where
      first : IsNeed [] → IsNeed (Make t o ∷ [])
      first none =
          let one : live_count (Make t o ∷ []) ≡ 1 = rw (eq-eqb t t refl) refl in
          let same : singles (Make t o ∷ []) ≡ singles [] = refl in
          omega (arith, none, one, same)
  step_need h (Reg q t o) k a below need =
      let f = reg_follows l terms h q t o a in
      let more : live_count (Reg q t o ∷ h) ≡ suc (live_count h) =
      ap (λ ts. length ts) (live_tasks-reg l terms h q t o k f.unknown) in
      let kept : reserve (Reg q t o ∷ h) ≡ reserve h = refl in
      let same : singles (Reg q t o ∷ h) ≡ singles h = refl in
      omega (arith, need, more, kept, same)
  step_need h (Sig t None) k a below need =
      let live : live_count (Sig t None ∷ h) ≡ live_count h = refl in
      let kept : reserve (Sig t None ∷ h) ≡ reserve h = refl in
      let same : singles (Sig t None ∷ h) ≡ singles h = refl in
      omega (arith, need, live, kept, same)
  step_need h (Sig t (Some n)) k a below need =
      signal_need h t n k a
      (below (signals t h) (or_left (signals t h == signals t h) (is_proposed (signals t h) h)
      (eq-eqb (signals t h) (signals t h) refl))) need
  step_need h (Claim t) k a below need = claim_need h t k a need
  step_need h (Did t) k a below need = did_need h t k a need
  step_need h (Pass t) k a below need =
      let live : live_count (Pass t ∷ h) ≡ live_count h = refl in
      let kept : reserve (Pass t ∷ h) ≡ reserve h = refl in
      let same : singles (Pass t ∷ h) ≡ singles h = refl in
      omega (arith, need, live, kept, same)
  step_need h (Send t b x) k a below need =
      let live : live_count (Send t b x ∷ h) ≡ live_count h = refl in
      let kept : reserve (Send t b x ∷ h) ≡ reserve h = refl in
      let same : singles (Send t b x ∷ h) ≡ singles h = refl in
      omega (arith, need, live, kept, same)
  step_need h (Look t b x) k a below need =
      let live : live_count (Look t b x ∷ h) ≡ live_count h = refl in
      let kept : reserve (Look t b x ∷ h) ≡ reserve h = refl in
      let same : singles (Look t b x ∷ h) ≡ singles h = refl in
      omega (arith, need, live, kept, same)
  step_need h (Drop t) k a below need = drop_need h t k a need

  later_proposed : (p : ℕ) (e : Event) (h : List Event) → is_proposed p h ≡ true
      → is_proposed p (e ∷ h) ≡ true
  later_proposed p (Sig t (Some n)) h k = or_right (signals t h == p) (is_proposed p h) k
  later_proposed p e h k = k

  -- of each legal history
  pub legal_need : (h : List Event) → is_legal l terms h ≡ true
      → ((p : ℕ) → is_proposed p h ≡ true → p < m) → IsNeed h
  legal_need [] k below =
      let none : passing (λ p. is_proposed p []) m ≡ 0 = passing_none m in
      omega (arith, none)
    where
      passing_none : (m : ℕ) → passing (λ p. false) m ≡ 0
      passing_none zero = refl
      passing_none (suc m) = omega (arith, passing_none m)
  legal_need (e ∷ h) k below =
      let f = last_follows l terms h e k in
      step_need h e f.before f.permitted below
      (legal_need h f.before (λ p s. below p (later_proposed p e h s)))
