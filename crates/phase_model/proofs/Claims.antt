-- The claims and reports of a legal history: a phase is claimed once,
-- after a proposal for it, and reported after the claim.
use Rattle.std.proofs.Common.{◌≡◌, ℕ, ◌+◌, ◌<◌, Bool, true, false, ◌&&◌, ◌==◌, List, [], ◌∷◌, sym, ◌∙◌, inl, inr, subst}
use Rattle.std.proofs.lemmas.Bool.{eqb-true, and_parts, or_cases, or_left, or_right, false≢true}
use Rattle.phase_modes.specs.declared.limits.Limits.{Limits}
use Rattle.phase_model.specs.declared.history.Event.{Event}
use Rattle.phase_model.specs.declared.history.Event.TheVariants.{Claim, Did}
use Rattle.phase_model.specs.declared.terms.Terms.{Terms}
use Rattle.phase_model.specs.Phases.{waits}
use Rattle.phase_model.specs.Singles.{is_proposed, has_claimed, is_claimed, is_done}
use Rattle.phase_model.specs.Rules.{is_legal}
use Rattle.phase_model.proofs.Legal.{last_follows}
use Rattle.phase_model.proofs.Closing.{HaveSignalled, signalled_stays, signalled_from_closed, some_live}
use Rattle.phase_model.proofs.SingleRules.{claim_follows, did_follows}
use Rattle.phase_model.proofs.Proposers.{claimer, claimed_proposed, proposer_proposes}
use Rattle.phase_model.proofs.Proposals.{some_proposal, earlier_are_done}

-- what t claimed is claimed
pub claimer_claims : (t p : ℕ) (h : List Event) → has_claimed t p h ≡ true → is_claimed p h ≡ true
claimer_claims t p [] k = absurd cc
claimer_claims t p (Claim u ∷ h) k =
    elim (or_cases (u == t && waits u h == p) (has_claimed t p h) k) [
      | inl e ↦ or_left (waits u h == p) (is_claimed p h) (and_parts (u == t) (waits u h == p) e).1
      | inr e ↦ or_right (waits u h == p) (is_claimed p h) (claimer_claims t p h e)
    ]
claimer_claims t p (e ∷ h) k = claimer_claims t p h k

-- a claim is never taken back
pub still_claimed : (p : ℕ) (e : Event) (h : List Event) → is_claimed p h ≡ true → is_claimed p (e ∷ h) ≡ true
still_claimed p (Claim u) h k = or_right (waits u h == p) (is_claimed p h) k
still_claimed p e h k = k

-- nor is a report
pub still_done : (p : ℕ) (e : Event) (h : List Event) → is_done p h ≡ true → is_done p (e ∷ h) ≡ true
still_done p (Did u) h k = or_right (waits u h == p) (is_done p h) k
still_done p e h k = k

-- a phase whose single is claimed was proposed for
pub claimed_is_proposed : (l : Limits) (terms : Terms) (h : List Event) → is_legal l terms h ≡ true → (p : ℕ)
    → is_claimed p h ≡ true → is_proposed p h ≡ true
claimed_is_proposed l terms h k p c =
    let u = claimer p h c in
    proposer_proposes u.0 p h (claimed_proposed l terms h k u.0 p u.1)

-- a single that is done was claimed
pub done_is_claimed : (l : Limits) (terms : Terms) (h : List Event) → is_legal l terms h ≡ true → (p : ℕ)
    → is_done p h ≡ true → is_claimed p h ≡ true
done_is_claimed l terms [] k p d = absurd cc
done_is_claimed l terms (Did u ∷ h) k p d =
    let f = last_follows l terms h (Did u) k in
    elim (or_cases (waits u h == p) (is_done p h) d) [
      | inl e ↦
          subst (λ q. is_claimed q h ≡ true) (eqb-true (waits u h) p e)
          (claimer_claims u (waits u h) h (did_follows l terms h u f.permitted).claimed)
      | inr e ↦ done_is_claimed l terms h f.before p e
    ]
done_is_claimed l terms (e ∷ h) k p d =
    still_claimed p e h (done_is_claimed l terms h (last_follows l terms h e k).before p d)

-- so the singles of the phases before a proposed one are claimed
pub earlier_are_claimed : (l : Limits) (terms : Terms) (h : List Event) → is_legal l terms h ≡ true → (p q : ℕ)
    → is_proposed p h ≡ true → is_proposed q h ≡ true → q < p → is_claimed q h ≡ true
earlier_are_claimed l terms h k p q s e less =
    done_is_claimed l terms h k q (earlier_are_done l terms h k p q s e less)

-- a phase that is claimed now was not claimed before
fresh_claim : (l : Limits) (terms : Terms) (h : List Event) (u t v p : ℕ)
    → is_legal l terms (Claim u ∷ h) ≡ true
    → (u == t && waits u h == p) ≡ true → has_claimed v p h ≡ true → ⊥
fresh_claim l terms h u t v p k e c =
    let same : waits u h ≡ p = eqb-true (waits u h) p (and_parts (u == t) (waits u h == p) e).1 in
    let unclaimed = (claim_follows l terms h u (last_follows l terms h (Claim u) k).permitted).unclaimed in
    false≢true (sym (subst (λ q. is_claimed q h ≡ false) same unclaimed) ∙ claimer_claims v p h c)

-- one task claims a phase's single
pub one_claimer : (l : Limits) (terms : Terms) (h : List Event) → is_legal l terms h ≡ true → (t u p : ℕ)
    → has_claimed t p h ≡ true → has_claimed u p h ≡ true → t ≡ u
one_claimer l terms [] k t u p a b = absurd cc
one_claimer l terms (Claim v ∷ h) k t u p a b =
    let at : ℕ → Bool = λ w. v == w && waits v h == p in
    elim (or_cases (at t) (has_claimed t p h) a) [
      | inl c ↦
          elim (or_cases (at u) (has_claimed u p h) b) [
            | inl d ↦
                sym (eqb-true v t (and_parts (v == t) (waits v h == p) c).0)
                ∙ eqb-true v u (and_parts (v == u) (waits v h == p) d).0
            | inr d ↦ absurd (fresh_claim l terms h v t u p k c d)
          ]
      | inr c ↦
          elim (or_cases (at u) (has_claimed u p h) b) [
            | inl d ↦ absurd (fresh_claim l terms h v u t p k d c)
            | inr d ↦ one_claimer l terms h (last_follows l terms h (Claim v) k).before t u p c d
          ]
    ]
one_claimer l terms (e ∷ h) k t u p a b = one_claimer l terms h (last_follows l terms h e k).before t u p a b

-- a phase whose single is claimed is closed
pub claimed_signalled : (l : Limits) (terms : Terms) (h : List Event) → is_legal l terms h ≡ true → (p : ℕ)
    → is_claimed p h ≡ true → HaveSignalled (p + 1) h
claimed_signalled l terms [] k p c = absurd cc
claimed_signalled l terms (Claim u ∷ h) k p c =
    let f = last_follows l terms h (Claim u) k in
    let r = claim_follows l terms h u f.permitted in
    signalled_stays l terms (p + 1) (Claim u) h k (some_live u h r.live)
    (elim (or_cases (waits u h == p) (is_claimed p h) c) [
      | inl e ↦
          subst (λ q. HaveSignalled (q + 1) h) (eqb-true (waits u h) p e)
          (signalled_from_closed (waits u h) h r.closed)
      | inr e ↦ claimed_signalled l terms h f.before p e
    ])
claimed_signalled l terms (e ∷ h) k p c =
    let f = last_follows l terms h e k in
    signalled_stays l terms (p + 1) e h k (some_proposal p h (claimed_is_proposed l terms h f.before p c))
    (claimed_signalled l terms h f.before p c)
