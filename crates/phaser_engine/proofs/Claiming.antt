-- What the table says of a claim.
use Rattle.std.proofs.Common.{◌≡◌, ℕ, Bool, true, false, ◌&&◌, not, cond, List, Option, Some, None, refl, ap}
use Rattle.phase_model.specs.declared.history.Event.TheVariants.{Claim}
use Rattle.phase_model.specs.Phases.{waits, is_closed}
use Rattle.phase_model.specs.Singles.{has_proposed, is_claimed}
use Rattle.phase_model.specs.Rules.{Story, is_permitted}
use Rattle.phase_model.proofs.Proposers.{proposer_proposes}
use Rattle.single_state.specs.declared.statement.Statement.{Statement}
use Rattle.single_state.specs.Single.{is_claimable, claimed}
use Rattle.reg_table.specs.declared.table.Entry.{Entry}
use Rattle.phaser_engine.specs.Table.{Stands}
use Rattle.phaser_engine.specs.Turns.{claims, claiming}
use Rattle.phaser_engine.proofs.Reading.{Found, found_phase, found_proposed, closed_is}
use Rattle.phaser_engine.proofs.SinglesKept.{claimable_is}

-- where the first holds, the last two are one
where_first : (a b c d : Bool) → (a ≡ true → c ≡ d) → (a && b && c) ≡ (a && b && d)
where_first true b c d k = ap (λ v. b && v) (k refl)
where_first false b c d k = refl

-- the line may claim where the claim is permitted
pub claims_is : (s : Story) (table : List Entry) (single : Option Statement) → Stands s table single
    → (t : ℕ) (e : Entry) → Found s.past t e
    → is_permitted s.limits s.terms s.past (Claim t) ≡ claims table single e
claims_is s table single stands t e f =
    let h = s.past in
    let w = waits t h in
    rw (f.live, closed_is s table single stands e.reg.phase, found_phase h t e f, found_proposed h t e f)
    (where_first (has_proposed t w h) (is_closed w h) (not (is_claimed w h)) (is_claimable single w)
    (λ made. claimable_is s.limits s.terms h stands.legal single w stands.last (proposer_proposes t w h made)))

pub claimed_ok : (table : List Entry) (single : Option Statement) (e : Entry) (after : Option Statement)
    → claiming table single e ≡ Some after → (claims table single e ≡ true) × (after ≡ claimed single e.task)
claimed_ok table single e after k = split (claims table single e) refl k
  where
    split : (b : Bool) → claims table single e ≡ b → cond b (Some (claimed single e.task)) None ≡ Some after
        → (claims table single e ≡ true) × (after ≡ claimed single e.task)
    split true a q = (a, cc)
    split false a q = absurd cc

pub claimed_none : (table : List Entry) (single : Option Statement) (e : Entry)
    → claiming table single e ≡ None → claims table single e ≡ false
claimed_none table single e k = split (claims table single e) refl k
  where
    split : (b : Bool) → claims table single e ≡ b → cond b (Some (claimed single e.task)) None ≡ None
        → claims table single e ≡ false
    split true a q = absurd cc
    split false a q = a
