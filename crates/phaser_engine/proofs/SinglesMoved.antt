-- What the kept single is after each event.
use Rattle.std.proofs.Common.{◌≡◌, ℕ, ◌+◌, ◌≤◌, ◌<◌, ◌==◌, Bool, true, false, ◌&&◌, cond, List, ◌∷◌, Option, Some, None, Result, Ok, Err, refl, sym, ap, ◌∙◌, arith, inl, inr, subst}
use Rattle.std.specs.List.{list_any, find}
use Rattle.std.specs.Option.{option_map}
use Rattle.std.specs.Result.{is_err}
use Rattle.std.proofs.lemmas.Bool.{cases_Bool, cases_lt, eqb-true, eq-eqb, ne_eqb, or_left, or_from, false_from_ne_true, false≢true, and_parts, not-false}
use Rattle.phase_modes.specs.declared.limits.Limits.{Limits}
use Rattle.phase_modes.specs.declared.refusal.Refusal.{Refusal}
use Rattle.phase_modes.specs.declared.refusal.Refusal.TheVariants.{SingleMismatch}
use Rattle.phase_modes.specs.Mode.{can_signal}
use Rattle.phase_model.specs.declared.history.Event.{Event}
use Rattle.phase_model.specs.declared.history.Event.TheVariants.{Sig, Claim, Did}
use Rattle.phase_model.specs.declared.terms.Terms.{Terms}
use Rattle.phase_model.specs.Tasks.{is_live, has_mode}
use Rattle.phase_model.specs.Phases.{waits, signals}
use Rattle.phase_model.specs.Singles.{proposals, is_proposed, has_claimed, is_claimed, is_done, reserve}
use Rattle.phase_model.specs.Conditions.{is_other_proposed}
use Rattle.phase_model.specs.Rules.{is_legal}
use Rattle.phase_model.proofs.Claims.{claimed_signalled}
use Rattle.single_state.specs.declared.statement.Stage.{Stage}
use Rattle.single_state.specs.declared.statement.Stage.TheVariants.{Proposed, Claimed, Done}
use Rattle.single_state.specs.declared.statement.Statement.{Statement}
use Rattle.single_state.specs.Single.{is_unclaimed, is_claimable, reserve_of, stage_reserve, proposed, claimed, done}
use Rattle.single_state.specs.Single as single
use Rattle.phaser_engine.specs.Table.{IsAtStage, IsLast, IsLastSingle}
use Rattle.phaser_engine.specs.Turns.{proposing}
use Rattle.phaser_engine.proofs.SinglesKept.{stage_claimed, stage_done, mismatch_is, last_within, reserve_is, claimer_phase}

-- a history that says the same of singles
pub record SaysSame (g h : List Event) : Type 0 where
  pub made : proposals g ≡ proposals h
  pub claims : (p : ℕ) → is_claimed p g ≡ is_claimed p h
  pub reports : (p : ℕ) → is_done p g ≡ is_done p h
  pub claimers : (t p : ℕ) → has_claimed t p g ≡ has_claimed t p h

stage_same : (s : Stage) (p : ℕ) (g h : List Event) → ((q : ℕ) → is_claimed q g ≡ is_claimed q h)
    → ((q : ℕ) → is_done q g ≡ is_done q h)
    → ((t q : ℕ) → has_claimed t q g ≡ has_claimed t q h) → IsAtStage s p h → IsAtStage s p g
stage_same Proposed p g h a b c e = a p ∙ e
stage_same (Claimed t) p g h a b c e = (c t p ∙ e.0, b p ∙ e.1)
stage_same (Done t) p g h a b c e = b p ∙ e

-- the kept single stays where nothing is said of singles
pub last_stays : (o : Option Statement) (g h : List Event) → SaysSame g h → IsLastSingle o h → IsLastSingle o g
last_stays None g h k e = λ p. ap (λ xs. list_any (λ x. x.phase == p) xs) k.made ∙ e p
last_stays (Some x) g h k e = record {
  number = ap (λ xs. option_map (λ y. y.number) (find (λ y. y.phase == x.phase) xs)) k.made ∙ e.number;
  stage = stage_same x.stage x.phase g h k.claims k.reports k.claimers e.stage;
  later = λ q less. ap (λ xs. list_any (λ y. y.phase == q) xs) k.made ∙ e.later q less;
}

unclaimed_reserve : (s : Stage) → is_unclaimed s ≡ true → stage_reserve s ≡ 2
unclaimed_reserve Proposed k = refl
unclaimed_reserve (Claimed t) k = absurd cc
unclaimed_reserve (Done t) k = absurd cc

-- what a proposal that isn't refused says
pub record Proposes (o : Option Statement) (p n : ℕ) (after : Option Statement) : Type 0 where
  pub agrees : single.is_mismatch o p n ≡ false
  pub is_after : after ≡ proposed o p n

pub proposing_ok : (o : Option Statement) (p n : ℕ) (after : Option Statement)
    → proposing o p (Some n) ≡ Ok after → Proposes o p n after
proposing_ok o p n after k =
    let good : Result (Option Statement) Refusal = Ok (proposed o p n) in
    let bad : Result (Option Statement) Refusal = Err SingleMismatch in
    (elim (single.is_mismatch o p n) as (λ b. single.is_mismatch o p n ≡ b → cond b bad good ≡ Ok after
    → Proposes o p n after) [
      | true ↦ λ e q. absurd cc
      | false ↦ λ e q. record { agrees = e; is_after = cc }
    ]) refl k

abbrev if_ok : Bool → Option Statement → Result (Option Statement) Refusal
if_ok b o = cond b (Err SingleMismatch) (Ok o)

is_err_cond : (b : Bool) (o : Option Statement) → is_err (if_ok b o) ≡ b
is_err_cond true o = refl
is_err_cond false o = refl

module _ (l : Limits) (terms : Terms) (h : List Event) (legal : is_legal l terms h ≡ true) (t : ℕ)
    (live : is_live t h ≡ true) (signaller : has_mode can_signal t h ≡ true) where
  -- a number is refused where another stands for the phase
  pub other_is : (o : Option Statement) (x : Option ℕ) → IsLastSingle o h
      → is_other_proposed x (signals t h) h ≡ is_err (proposing o (signals t h) x)
  other_is o None k = refl
  other_is o (Some n) k = mismatch_is l terms h legal o t n k live signaller
      ∙ sym (is_err_cond (single.is_mismatch o (signals t h) n) (proposed o (signals t h) n))

  -- a phase that a live signaller hasn't signalled is unclaimed
  own_unclaimed : is_claimed (signals t h) h ≡ false
  own_unclaimed =
      false_from_ne_true (is_claimed (signals t h) h) (λ c. let past : signals t h + 1 ≤ signals t h =
      claimed_signalled l terms h legal (signals t h) c t live signaller in omega (arith, past))

  reserve_after : (o : Option Statement) (n : ℕ) → IsLastSingle o h
      → reserve_of (proposed o (signals t h) n) ≡ 2
  reserve_after None n k = refl
  reserve_after (Some x) n k =
      elim (cases_Bool (x.phase == signals t h)) [
        | inl e ↦
            let unclaimed : is_claimed x.phase h ≡ false =
            subst (λ q. is_claimed q h ≡ false) (sym (eqb-true x.phase (signals t h) e)) own_unclaimed in
            rw e (unclaimed_reserve x.stage
            (not-false (is_unclaimed x.stage)
            (sym (stage_claimed l terms h legal x.stage x.phase k.stage) ∙ unclaimed)))
        | inr e ↦ rw e refl
      ]

  -- how many events the single needs after the signal
  pub reserve_signal : (o after : Option Statement) (x : Option ℕ) → IsLastSingle o h
      → proposing o (signals t h) x ≡ Ok after → reserve (Sig t x ∷ h) ≡ reserve_of after
  reserve_signal o after None k e =
      let same : o ≡ after = cc in
      reserve_is l terms h legal o k ∙ ap reserve_of same
  reserve_signal o after (Some n) k e =
      rw (own_unclaimed, (proposing_ok o (signals t h) n after e).is_after) (sym (reserve_after o n k))

  proposed_number : (x : Statement) (n : ℕ) → IsLast x h → (x.phase == signals t h) ≡ true
      → single.is_mismatch (Some x) (signals t h) n ≡ false → n ≡ x.number
  proposed_number x n k e agrees = sym (eqb-true x.number n (not-false (x.number == n) (rw e at agrees)))

  -- the kept single after the proposal
  pub propose_is_last : (o : Option Statement) (n : ℕ) → IsLastSingle o h → single.is_mismatch o (signals t h) n
      ≡ false → IsLastSingle (proposed o (signals t h) n) (Sig t (Some n) ∷ h)
  propose_is_last None n k agrees = record {
    number = rw (eq-eqb (signals t h) (signals t h) refl) refl;
    stage = own_unclaimed;
    later = λ q less. or_from (signals t h == q) (is_proposed q h)
        (ne_eqb (signals t h) q (λ d. omega (arith, d, less))) (k q);
  }
  propose_is_last (Some x) n k agrees =
      let p = signals t h in
      elim (cases_Bool (x.phase == p)) [
        | inl e ↦
            let at : x.phase ≡ p = eqb-true x.phase p e in
            let last : IsLast x (Sig t (Some n) ∷ h) = record {
              number = rw (eq-eqb p x.phase (sym at)) (ap (λ m. Some m) (proposed_number x n k e agrees));
              stage = stage_same x.stage x.phase (Sig t (Some n) ∷ h) h (λ q. refl) (λ q. refl) (λ u q. refl)
                  k.stage;
              later = λ q less. or_from (p == q) (is_proposed q h)
                  (ne_eqb p q (λ d. omega (arith, d, at, less))) (k.later q less);
            } in
            rw e last
        | inr e ↦
            let within : x.phase ≤ p = last_within l terms h legal x t k live signaller in
            let apart : x.phase ≡ p → ⊥ = λ d. false≢true (sym e ∙ eq-eqb x.phase p d) in
            let less : x.phase < p = elim (cases_lt x.phase p) [
              | inl a ↦ a
              | inr a ↦ absurd (apart (omega (arith, a, within)))
            ] in
            let last : IsLast (record { phase = p; number = n; stage = Proposed }) (Sig t (Some n) ∷ h) =
            record {
              number = rw (eq-eqb p p refl) refl;
              stage = own_unclaimed;
              later = λ q far. or_from (p == q) (is_proposed q h) (ne_eqb p q (λ d. omega (arith, d, far)))
                  (k.later q (omega (arith, less, far)));
            } in
            rw e last
      ]

  pub signal_is_last : (o after : Option Statement) (x : Option ℕ) → IsLastSingle o h
      → proposing o (signals t h) x ≡ Ok after → IsLastSingle after (Sig t x ∷ h)
  signal_is_last o after None k e =
      let same : o ≡ after = cc in
      subst (λ a. IsLastSingle a (Sig t None ∷ h)) same
      (last_stays o (Sig t None ∷ h) h
      (record { made = refl; claims = λ q. refl; reports = λ q. refl; claimers = λ u q. refl }) k)
  signal_is_last o after (Some n) k e =
      let f = proposing_ok o (signals t h) n after e in
      subst (λ a. IsLastSingle a (Sig t (Some n) ∷ h)) (sym f.is_after) (propose_is_last o n k f.agrees)

module _ (l : Limits) (terms : Terms) (h : List Event) (legal : is_legal l terms h ≡ true) (t : ℕ) where
  stage_proposed : (s : Stage) (p : ℕ) → is_unclaimed s ≡ true → IsAtStage s p h → is_done p h ≡ false
  stage_proposed Proposed p u k = stage_done l terms h legal Proposed p k
  stage_proposed (Claimed v) p u k = absurd cc
  stage_proposed (Done v) p u k = absurd cc

  -- the kept single after a claim
  pub claim_is_last : (o : Option Statement) → IsLastSingle o h → is_claimable o (waits t h) ≡ true
      → IsLastSingle (claimed o t) (Claim t ∷ h)
  claim_is_last None k c = absurd cc
  claim_is_last (Some x) k c =
      let parts = and_parts (x.phase == waits t h) (is_unclaimed x.stage) c in
      let at : waits t h ≡ x.phase = sym (eqb-true x.phase (waits t h) parts.0) in
      record {
        number = k.number;
        stage = (
          or_left (t == t && waits t h == x.phase) (has_claimed t x.phase h)
              (rw (eq-eqb t t refl, eq-eqb (waits t h) x.phase at) refl),
          stage_proposed x.stage x.phase parts.1 k.stage,
        );
        later = k.later;
      }

  -- the kept single after a report
  pub report_is_last : (o : Option Statement) → IsLastSingle o h → (has_claimed t (waits t h) h ≡ true)
      → (is_done (waits t h) h ≡ false) → IsLastSingle (done o t) (Did t ∷ h)
  report_is_last None k c d = λ p. k p
  report_is_last (Some x) k c d =
      let at : waits t h ≡ x.phase = sym (claimer_phase l terms h legal x t (waits t h) k c d) in
      record {
        number = k.number;
        stage = or_left (waits t h == x.phase) (is_done x.phase h) (eq-eqb (waits t h) x.phase at);
        later = k.later;
      }
