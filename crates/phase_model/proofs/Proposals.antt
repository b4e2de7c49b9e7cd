-- The proposals of a legal history: they agree on each phase's number, and no phase is proposed for while an
-- earlier single is open.
use Rattle.std.proofs.Common.{◌≡◌, ℕ, ◌-◌, ◌≤◌, ◌<◌, Bool, true, false, ◌||◌, ◌&&◌, ◌==◌, not, List, [], ◌∷◌, Option, Some, None, refl, sym, ap, ◌∙◌, arith, inl, inr, subst}
use Rattle.std.specs.List.{list_any, find}
use Rattle.std.specs.Option.{option_map}
use Rattle.std.proofs.lemmas.Bool.{cases_Bool, cases_lt, eqb-true, or_cases, or_parts, ne_eqb, false≢true, not-false, false_from_ne_true}
use Rattle.phase_modes.specs.declared.limits.Limits.{Limits}
use Rattle.phase_modes.specs.Lists.{is_empty}
use Rattle.phase_modes.specs.Mode.{can_signal, can_wait}
use Rattle.phase_model.specs.declared.history.Event.{Event}
use Rattle.phase_model.specs.declared.history.Event.TheVariants.{Make, Reg, Sig}
use Rattle.phase_model.specs.declared.terms.Terms.{Terms}
use Rattle.phase_model.specs.Tasks.{is_registered, is_live, has_mode}
use Rattle.phase_model.specs.Phases.{waits, signals}
use Rattle.phase_model.specs.Singles.{Proposal, proposals, is_proposed, number_of, has_proposed, is_mismatch, has_claimed, is_done}
use Rattle.phase_model.specs.Rules.{is_legal}
use Rattle.phase_model.proofs.Legal.{last_follows, sig_follows, implied}
use Rattle.phase_model.proofs.Closing.{HaveSignalled, signalled_stays, IsOver, over_stays, over_behind, some_event}
use Rattle.phase_model.proofs.SingleRules.{proposal_follows}
use Rattle.phase_model.proofs.Proposers.{registered_live, single_waits, claimed_proposed}

-- where something is proposed, the history has begun
pub some_proposal : (p : ℕ) (h : List Event) → is_proposed p h ≡ true → is_empty h ≡ false
some_proposal p [] k = absurd cc
some_proposal p (e ∷ h) k = refl

none_of : (m p : ℕ) (xs : List Proposal) → option_map (λ x. x.number) (find (λ x. x.phase == p) xs) ≡ None
    → (list_any (λ x. x.phase == p) xs ≡ false)
    × (list_any (λ x. x.phase == p && not (x.number == m)) xs ≡ false)
none_of m p [] k = (refl, refl)
none_of m p (x ∷ xs) k =
    elim (cases_Bool (x.phase == p)) [
      | inl e ↦ absurd (some_is_not x.number (rw e at k))
      | inr e ↦ rw e (none_of m p xs (rw e at k))
    ]
  where
    some_is_not : (n : ℕ) → ◌≡◌ {A = Option ℕ} (Some n) None → ⊥
    some_is_not n e = cc

-- where a phase has no number, nobody proposed for it
pub no_number : (h : List Event) (m p : ℕ) → number_of p h ≡ None
    → (is_proposed p h ≡ false) × (is_mismatch m p h ≡ false)
no_number h m p k = none_of m p (proposals h) k

-- a phase that is proposed for has a number
pub has_number : (h : List Event) (p : ℕ) → is_proposed p h ≡ true → (n : ℕ) × (number_of p h ≡ Some n)
has_number h p k = go (number_of p h) refl
  where
    go : (o : Option ℕ) → number_of p h ≡ o → (n : ℕ) × (number_of p h ≡ Some n)
    go (Some n) e = (n, e)
    go None e = absurd (false≢true (sym (no_number h 0 p e).0 ∙ k))

-- where n is no mismatch, whichever number stands is n
one_number : (n m p : ℕ) (h : List Event)
    → ((i m : ℕ) → number_of p h ≡ Some i → is_mismatch m p h ≡ not (i == m)) → is_mismatch n p h ≡ false
    → (not (n == m) || is_mismatch m p h) ≡ not (n == m)
one_number n m p h each agrees = go (number_of p h) refl
  where
    once : (a b : Bool) → b ≡ false → (a || b) ≡ a
    once true b q = refl
    once false b q = q

    twice : (a b : Bool) → b ≡ a → (a || b) ≡ a
    twice true b q = refl
    twice false b q = q

    go : (o : Option ℕ) → number_of p h ≡ o → (not (n == m) || is_mismatch m p h) ≡ not (n == m)
    go None q = once (not (n == m)) (is_mismatch m p h) (no_number h m p q).1
    go (Some i) q =
        let same : i ≡ n = eqb-true i n (not-false (i == n) (sym (each i n q) ∙ agrees)) in
        twice (not (n == m)) (is_mismatch m p h) (each i m q ∙ ap (λ j. not (j == m)) same)

-- all numbers proposed for a phase are the same
pub numbers_agree : (l : Limits) (terms : Terms) (h : List Event) → is_legal l terms h ≡ true → (n m p : ℕ)
    → number_of p h ≡ Some n → is_mismatch m p h ≡ not (n == m)
numbers_agree l terms [] k n m p e = absurd cc
numbers_agree l terms (Sig u (Some j) ∷ h) k n m p e =
    let f = last_follows l terms h (Sig u (Some j)) k in
    elim (cases_Bool (signals u h == p)) [
      | inl now ↦
          let number : ◌≡◌ {A = Option ℕ} (Some j) (Some n) = rw now at e in
          let same : j ≡ n = cc in
          let agrees : is_mismatch j p h ≡ false =
          subst (λ q. is_mismatch j q h ≡ false) (eqb-true (signals u h) p now)
          (proposal_follows l terms h u j f.permitted).agrees in
          rw (now, same)
          (one_number n m p h (λ i v q. numbers_agree l terms h f.before i v p q) (rw same at agrees))
      | inr other ↦ rw other (numbers_agree l terms h f.before n m p (rw other at e))
    ]
numbers_agree l terms (x ∷ h) k n m p e = numbers_agree l terms h (last_follows l terms h x k).before n m p e

-- who was never registered proposed nothing
pub unknown_proposed_nothing : (l : Limits) (terms : Terms) (h : List Event) → is_legal l terms h ≡ true
    → (t p : ℕ) → is_registered t h ≡ false → has_proposed t p h ≡ false
unknown_proposed_nothing l terms [] k t p r = refl
unknown_proposed_nothing l terms (Make u m ∷ h) k t p r =
    unknown_proposed_nothing l terms h (last_follows l terms h (Make u m) k).before t p
    (or_parts (u == t) (is_registered t h) r).1
unknown_proposed_nothing l terms (Reg q u m ∷ h) k t p r =
    unknown_proposed_nothing l terms h (last_follows l terms h (Reg q u m) k).before t p
    (or_parts (u == t) (is_registered t h) r).1
unknown_proposed_nothing l terms (Sig u (Some n) ∷ h) k t p r =
    let f = last_follows l terms h (Sig u (Some n)) k in
    let known = registered_live u h (sig_follows l terms h u (Some n) f.permitted).live in
    let other : (u == t) ≡ false =
    ne_eqb u t (λ e. false≢true (sym r ∙ subst (λ v. is_registered v h ≡ true) e known)) in
    rw other (unknown_proposed_nothing l terms h f.before t p r)
unknown_proposed_nothing l terms (e ∷ h) k t p r =
    unknown_proposed_nothing l terms h (last_follows l terms h e k).before t p r

-- and claimed nothing
pub unknown_claimed_nothing : (l : Limits) (terms : Terms) (h : List Event) → is_legal l terms h ≡ true
    → (t p : ℕ) → is_registered t h ≡ false → has_claimed t p h ≡ false
unknown_claimed_nothing l terms h k t p r =
    false_from_ne_true (has_claimed t p h)
    (λ c. false≢true (sym (unknown_proposed_nothing l terms h k t p r) ∙ claimed_proposed l terms h k t p c))

-- no live signaller is behind a waiter
pub none_behind : (l : Limits) (terms : Terms) (h : List Event) → is_legal l terms h ≡ true → (t n : ℕ)
    → has_mode can_wait t h ≡ true → n ≤ waits t h → HaveSignalled n h
none_behind l terms h k t n w at u live signaller =
    elim (cases_lt 0 n) [
      | inl some ↦
          omega (arith, (over_behind l terms h k t (n - 1) w (omega (arith, some, at))).closed u live signaller)
      | inr none ↦ omega (arith, none)
    ]

-- who proposed n now stands at its phase
proposing_waits : (l : Limits) (terms : Terms) (h : List Event) (u n : ℕ)
    → is_legal l terms (Sig u (Some n) ∷ h) ≡ true → (has_mode can_wait u h ≡ true) × (signals u h ≡ waits u h)
proposing_waits l terms h u n k =
    let f = last_follows l terms h (Sig u (Some n)) k in (
      single_waits u h (proposal_follows l terms h u n f.permitted).single,
      (sig_follows l terms h u (Some n) f.permitted).behind,
    )

-- each live signaller has signalled the phases before one that is proposed for
pub proposed_signalled : (l : Limits) (terms : Terms) (h : List Event) → is_legal l terms h ≡ true → (p : ℕ)
    → is_proposed p h ≡ true → HaveSignalled p h
proposed_signalled l terms [] k p s = absurd cc
proposed_signalled l terms (Sig u (Some n) ∷ h) k p s =
    let f = last_follows l terms h (Sig u (Some n)) k in
    let w = proposing_waits l terms h u n k in
    signalled_stays l terms p (Sig u (Some n)) h k (some_event can_wait u h w.0)
    (elim (or_cases (signals u h == p) (is_proposed p h) s) [
      | inl e ↦ none_behind l terms h f.before u p w.0 (omega (arith, w.1, eqb-true (signals u h) p e))
      | inr e ↦ proposed_signalled l terms h f.before p e
    ])
proposed_signalled l terms (e ∷ h) k p s =
    signalled_stays l terms p e h k (some_proposal p h s)
    (proposed_signalled l terms h (last_follows l terms h e k).before p s)

-- so no live signaller is behind a proposal
pub signals_past_proposals : (l : Limits) (terms : Terms) (h : List Event)
    → is_legal l terms h ≡ true → (t p : ℕ)
    → is_proposed p h ≡ true → is_live t h ≡ true → has_mode can_signal t h ≡ true → p ≤ signals t h
signals_past_proposals l terms h k t p s live signaller = proposed_signalled l terms h k p s t live signaller

-- a phase before one that is proposed for is over
pub over_before : (l : Limits) (terms : Terms) (h : List Event) → is_legal l terms h ≡ true → (p q : ℕ)
    → is_proposed q h ≡ true → p < q → IsOver p h
over_before l terms [] k p q s less = absurd cc
over_before l terms (Sig u (Some n) ∷ h) k p q s less =
    let f = last_follows l terms h (Sig u (Some n)) k in
    let w = proposing_waits l terms h u n k in
    over_stays l terms p (Sig u (Some n)) h k (some_event can_wait u h w.0)
    (elim (or_cases (signals u h == q) (is_proposed q h) s) [
      | inl e ↦ over_behind l terms h f.before u p w.0 (omega (arith, less, w.1, eqb-true (signals u h) q e))
      | inr e ↦ over_before l terms h f.before p q e less
    ])
over_before l terms (e ∷ h) k p q s less =
    over_stays l terms p e h k (some_proposal q h s)
    (over_before l terms h (last_follows l terms h e k).before p q s less)

-- no phase after an open single's is proposed for
pub open_is_last : (l : Limits) (terms : Terms) (h : List Event) → is_legal l terms h ≡ true → (p q : ℕ)
    → is_proposed p h ≡ true → is_done p h ≡ false → p < q → is_proposed q h ≡ false
open_is_last l terms h k p q s d less =
    false_from_ne_true (is_proposed q h) (λ e. false≢true
    (sym d ∙ implied (is_proposed p h) (is_done p h) (over_before l terms h k p q e less).settled s))

-- where two phases are proposed for, the earlier one's single is done
pub earlier_are_done : (l : Limits) (terms : Terms) (h : List Event) → is_legal l terms h ≡ true → (p q : ℕ)
    → is_proposed p h ≡ true → is_proposed q h ≡ true → q < p → is_done q h ≡ true
earlier_are_done l terms h k p q s e less =
    implied (is_proposed q h) (is_done q h) (over_before l terms h k q p s less).settled e
