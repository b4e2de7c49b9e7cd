-- What the rules ask of a proposal, a claim and a report, part by part.
use Rattle.std.proofs.Common.{◌≡◌, ℕ, Bool, true, false, ◌&&◌, ◌==◌, not, List, Some, refl}
use Rattle.std.proofs.lemmas.Bool.{and_parts, not-true}
use Rattle.phase_modes.specs.declared.limits.Limits.{Limits}
use Rattle.phase_modes.specs.Mode.{can_signal, can_single}
use Rattle.phase_model.specs.declared.history.Event.{Event}
use Rattle.phase_model.specs.declared.history.Event.TheVariants.{Sig, Claim, Did}
use Rattle.phase_model.specs.declared.terms.Terms.{Terms}
use Rattle.phase_model.specs.Tasks.{is_live, has_mode}
use Rattle.phase_model.specs.Phases.{waits, signals, is_closed, is_within_bound}
use Rattle.phase_model.specs.Singles.{has_proposed, is_mismatch, has_claimed, is_claimed, is_done}
use Rattle.phase_model.specs.Rules.{is_permitted}

-- of a proposal, besides what they ask of each signal
pub record ProposalFollows (h : List Event) (t n : ℕ) : Type 0 where
  pub single : has_mode can_single t h ≡ true
  pub agrees : is_mismatch n (signals t h) h ≡ false

pub proposal_follows : (l : Limits) (terms : Terms) (h : List Event) (t n : ℕ)
    → is_permitted l terms h (Sig t (Some n)) ≡ true → ProposalFollows h t n
proposal_follows l terms h t n k =
    let a = is_live t h in
    let b = has_mode can_signal t h in
    let c = not (true && not (has_mode can_single t h)) in
    let d = signals t h == waits t h in
    let e = not (is_mismatch n (signals t h) h) in
    let k5 = and_parts (a && b && c && d && e) (is_within_bound terms.bound (signals t h) h) k in
    let k4 = and_parts (a && b && c && d) e k5.0 in
    let k2 = and_parts (a && b) c (and_parts (a && b && c) d k4.0).0 in
    record {
      single = twice (has_mode can_single t h) k2.1;
      agrees = not-true (is_mismatch n (signals t h) h) k4.1;
    }
  where
    twice : (x : Bool) → not (true && not x) ≡ true → x ≡ true
    twice true h = refl
    twice false h = absurd cc

-- of a claim
pub record ClaimFollows (h : List Event) (t : ℕ) : Type 0 where
  pub live : is_live t h ≡ true
  pub proposed : has_proposed t (waits t h) h ≡ true
  pub closed : is_closed (waits t h) h ≡ true
  pub unclaimed : is_claimed (waits t h) h ≡ false

pub claim_follows : (l : Limits) (terms : Terms) (h : List Event) (t : ℕ)
    → is_permitted l terms h (Claim t) ≡ true → ClaimFollows h t
claim_follows l terms h t k =
    let a = is_live t h in
    let b = has_proposed t (waits t h) h in
    let c = is_closed (waits t h) h in
    let d = not (is_claimed (waits t h) h) in
    let k3 = and_parts (a && b && c) d k in
    let k2 = and_parts (a && b) c k3.0 in
    let k1 = and_parts a b k2.0 in
    record {
      live = k1.0;
      proposed = k1.1;
      closed = k2.1;
      unclaimed = not-true (is_claimed (waits t h) h) k3.1;
    }

-- of a report
pub record DidFollows (h : List Event) (t : ℕ) : Type 0 where
  pub live : is_live t h ≡ true
  pub claimed : has_claimed t (waits t h) h ≡ true
  pub undone : is_done (waits t h) h ≡ false

pub did_follows : (l : Limits) (terms : Terms) (h : List Event) (t : ℕ)
    → is_permitted l terms h (Did t) ≡ true → DidFollows h t
did_follows l terms h t k =
    let a = is_live t h in
    let b = has_claimed t (waits t h) h in
    let k2 = and_parts (a && b) (not (is_done (waits t h) h)) k in
    let k1 = and_parts a b k2.0 in
    record { live = k1.0; claimed = k1.1; undone = not-true (is_done (waits t h) h) k2.1 }
