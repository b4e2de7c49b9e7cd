-- The claims and reports of a legal history in order: one of each, after the signals of their phase and
-- before its waiters' passes.
use Rattle.std.proofs.Common.{◌≡◌, ℕ, ◌+◌, ◌≤◌, Bool, true, false, ◌==◌, List, [], ◌∷◌, ◌++◌, refl, sym, ◌∙◌, subst, arith}
use Rattle.std.proofs.lemmas.Bool.{eqb-true, and_parts, or_left, ne_eqb, false≢true}
use Rattle.phase_modes.specs.declared.limits.Limits.{Limits}
use Rattle.phase_modes.specs.Lists.{is_empty}
use Rattle.phase_modes.specs.Mode.{can_wait}
use Rattle.phase_model.specs.declared.history.Event.{Event}
use Rattle.phase_model.specs.declared.history.Event.TheVariants.{Sig, Claim, Did, Pass}
use Rattle.phase_model.specs.declared.terms.Terms.{Terms}
use Rattle.phase_model.specs.Tasks.{has_mode}
use Rattle.phase_model.specs.Phases.{waits, signals}
use Rattle.phase_model.specs.Singles.{is_proposed, is_claimed, is_done}
use Rattle.phase_model.specs.Rules.{is_legal}
use Rattle.phase_model.specs.SingleLaws.{is_signal, is_claim, is_report, is_pass, NoneAfter, OneClaimAndOneReport, SinglesStandBetween}
use Rattle.phase_model.proofs.Legal.{last_follows, sig_follows, pass_follows, implied}
use Rattle.phase_model.proofs.OrderingLaw.{is_legal-rest}
use Rattle.phase_model.proofs.Closing.{IsOver, over_stays, signalled_from_closed, some_live}
use Rattle.phase_model.proofs.SingleRules.{claim_follows, did_follows}
use Rattle.phase_model.proofs.Proposers.{proposer_proposes}
use Rattle.phase_model.proofs.Claims.{claimer_claims, claimed_is_proposed, done_is_claimed, still_claimed, still_done, claimed_signalled}

-- what an early event leaves stays, and bars each late one
pub record Bars (l : Limits) (terms : Terms) (late early : ℕ → List Event → Event → Bool)
    (Left : ℕ → List Event → Type 0) : Type 0 where
  pub left : (p : ℕ) (e : Event) (h : List Event) → is_legal l terms (e ∷ h) ≡ true
      → early p h e ≡ true → Left p (e ∷ h)
  pub stays : (p : ℕ) (e : Event) (h : List Event) → is_legal l terms (e ∷ h) ≡ true → Left p h → Left p (e ∷ h)
  pub bars : (p : ℕ) (e : Event) (h : List Event) → is_legal l terms (e ∷ h) ≡ true → Left p h
      → late p h e ≡ false

none_after : (l : Limits) (terms : Terms) (late early : ℕ → List Event → Event → Bool)
    (Left : ℕ → List Event → Type 0) → Bars l terms late early Left
    → (h : List Event) → is_legal l terms h ≡ true → NoneAfter late early h
none_after l terms late early Left b h k p later between before e f is found =
    let rest : is_legal l terms (f ∷ (between ++ e ∷ before)) ≡ true =
    is_legal-rest l terms later (f ∷ (between ++ e ∷ before))
    (subst (λ (g : List Event). is_legal l terms g ≡ true) is k) in
    b.bars p f (between ++ e ∷ before) rest
    (kept between (last_follows l terms (between ++ e ∷ before) f rest).before)
  where
    kept : (xs : List Event) → is_legal l terms (xs ++ e ∷ before) ≡ true → Left p (xs ++ e ∷ before)
    kept [] g = b.left p e before g found
    kept (x ∷ xs) g =
        b.stays p x (xs ++ e ∷ before) g (kept xs (last_follows l terms (xs ++ e ∷ before) x g).before)

-- a claim leaves the phase claimed
claim_leaves : (p : ℕ) (e : Event) (h : List Event) → is_claim p h e ≡ true → is_claimed p (e ∷ h) ≡ true
claim_leaves p (Claim t) h s = or_left (waits t h == p) (is_claimed p h) s
claim_leaves p e h s = absurd cc

-- a report leaves it done
report_leaves : (p : ℕ) (e : Event) (h : List Event) → is_report p h e ≡ true → is_done p (e ∷ h) ≡ true
report_leaves p (Did t) h s = or_left (waits t h == p) (is_done p h) s
report_leaves p e h s = absurd cc

-- phase p is over in a history that has begun
pub record HasEnded (p : ℕ) (h : List Event) : Type 0 where
  pub over : IsOver p h
  pub some : is_empty h ≡ false

module _ (l : Limits) (terms : Terms) where
  -- a waiter's pass leaves the phase over
  pass_leaves : (p : ℕ) (e : Event) (h : List Event) → is_legal l terms (e ∷ h) ≡ true → is_pass p h e ≡ true
      → HasEnded p (e ∷ h)
  pass_leaves p (Pass t) h k s =
      let f = pass_follows l terms h t (last_follows l terms h (Pass t) k).permitted in
      let d = and_parts (has_mode can_wait t h) (waits t h == p) s in
      let over : IsOver (waits t h) h =
      record { closed = signalled_from_closed (waits t h) h (f.closed d.0); settled = f.settled d.0 } in
      record {
        over = over_stays l terms p (Pass t) h k (some_live t h f.live)
            (subst (λ q. IsOver q h) (eqb-true (waits t h) p d.1) over);
        some = refl;
      }
  pass_leaves p e h k s = absurd cc

  ended_stays : (p : ℕ) (e : Event) (h : List Event) → is_legal l terms (e ∷ h) ≡ true → HasEnded p h
      → HasEnded p (e ∷ h)
  ended_stays p e h k o = record { over = over_stays l terms p e h k o.some o.over; some = refl }

  -- in a claimed phase no claim and no signal follow, in one that is done no report
  claim_barred : (p : ℕ) (e : Event) (h : List Event) → is_legal l terms (e ∷ h) ≡ true → is_claimed p h ≡ true
      → is_claim p h e ≡ false
  claim_barred p (Claim t) h k c =
      let f = claim_follows l terms h t (last_follows l terms h (Claim t) k).permitted in
      ne_eqb (waits t h) p (λ e. false≢true (sym (subst (λ q. is_claimed q h ≡ false) e f.unclaimed) ∙ c))
  claim_barred p e h k c = refl

  report_barred : (p : ℕ) (e : Event) (h : List Event) → is_legal l terms (e ∷ h) ≡ true → is_done p h ≡ true
      → is_report p h e ≡ false
  report_barred p (Did t) h k d =
      let f = did_follows l terms h t (last_follows l terms h (Did t) k).permitted in
      ne_eqb (waits t h) p (λ e. false≢true (sym (subst (λ q. is_done q h ≡ false) e f.undone) ∙ d))
  report_barred p e h k d = refl

  signal_barred : (p : ℕ) (e : Event) (h : List Event) → is_legal l terms (e ∷ h) ≡ true → is_claimed p h ≡ true
      → is_signal p h e ≡ false
  signal_barred p (Sig t x) h k c =
      let f = last_follows l terms h (Sig t x) k in
      let s = sig_follows l terms h t x f.permitted in
      let ahead : p + 1 ≤ signals t h = claimed_signalled l terms h f.before p c t s.live s.signaller in
      ne_eqb (signals t h) p (λ e. absurd (omega (arith, ahead, e)))
  signal_barred p e h k c = refl

  -- in a phase that is over, what was proposed is done
  ended_done : (p : ℕ) (h : List Event) → HasEnded p h → is_proposed p h ≡ true → is_done p h ≡ true
  ended_done p h o s = implied (is_proposed p h) (is_done p h) o.over.settled s

  ended_claim : (p : ℕ) (e : Event) (h : List Event) → is_legal l terms (e ∷ h) ≡ true → HasEnded p h
      → is_claim p h e ≡ false
  ended_claim p (Claim t) h k o =
      let g = last_follows l terms h (Claim t) k in
      let f = claim_follows l terms h t g.permitted in
      ne_eqb (waits t h) p (λ e.
      let s : is_proposed p h ≡ true =
      subst (λ q. is_proposed q h ≡ true) e (proposer_proposes t (waits t h) h f.proposed) in
      false≢true (sym (subst (λ q. is_claimed q h ≡ false) e f.unclaimed)
      ∙ done_is_claimed l terms h g.before p (ended_done p h o s)))
  ended_claim p e h k o = refl

  ended_report : (p : ℕ) (e : Event) (h : List Event) → is_legal l terms (e ∷ h) ≡ true → HasEnded p h
      → is_report p h e ≡ false
  ended_report p (Did t) h k o =
      let g = last_follows l terms h (Did t) k in
      let f = did_follows l terms h t g.permitted in
      ne_eqb (waits t h) p (λ e.
      let c : is_claimed p h ≡ true =
      subst (λ q. is_claimed q h ≡ true) e (claimer_claims t (waits t h) h f.claimed) in
      false≢true (sym (subst (λ q. is_done q h ≡ false) e f.undone)
      ∙ ended_done p h o (claimed_is_proposed l terms h g.before p c)))
  ended_report p e h k o = refl

abbrev Claimed : ℕ → List Event → Type 0
Claimed p h = is_claimed p h ≡ true

abbrev Done : ℕ → List Event → Type 0
Done p h = is_done p h ≡ true

pub one_claim_and_one_report : OneClaimAndOneReport
one_claim_and_one_report l terms h k = (
  none_after l terms is_claim is_claim Claimed (record {
    left = λ p e g _ s.
        claim_leaves p e g s;
    stays = λ p e g _ c. still_claimed p e g c;
    bars = claim_barred l terms;
  }) h k,
  none_after l terms is_report is_report Done (record {
    left = λ p e g _ s.
        report_leaves p e g s;
    stays = λ p e g _ d. still_done p e g d;
    bars = report_barred l terms;
  }) h k,
  none_after l terms is_claim is_report Claimed
      (record {
        left = λ p e g r s. done_is_claimed l terms (e ∷ g) r p (report_leaves p e g s);
        stays = λ p e g _ c. still_claimed p e g c;
        bars = claim_barred l terms;
      }) h k,
)

pub singles_stand_between : SinglesStandBetween
singles_stand_between l terms h k = (
  none_after l terms is_signal is_claim Claimed (record {
    left = λ p e g _ s.
        claim_leaves p e g s;
    stays = λ p e g _ c. still_claimed p e g c;
    bars = signal_barred l terms;
  }) h k,
  none_after l terms is_signal is_report Claimed
      (record {
        left = λ p e g r s. done_is_claimed l terms (e ∷ g) r p (report_leaves p e g s);
        stays = λ p e g _ c. still_claimed p e g c;
        bars = signal_barred l terms;
      }) h k,
  none_after l terms is_claim is_pass HasEnded
      (record { left = pass_leaves l terms; stays = ended_stays l terms; bars = ended_claim l terms }) h k,
  none_after l terms is_report is_pass HasEnded
      (record { left = pass_leaves l terms; stays = ended_stays l terms; bars = ended_report l terms }) h k,
)
