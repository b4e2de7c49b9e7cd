use Rattle.std.proofs.Common.{◌≡◌, ◌∷◌, true, false, ◌&&◌, None, unwrap_or, refl, ap, sym, ◌∙◌, subst}
use Rattle.std.specs.List.{list_all}
use Rattle.std.proofs.lemmas.Bool.{and_parts}
use Rattle.phase_model.specs.declared.history.Event.TheVariants.{Pass, Claim}
use Rattle.phase_model.specs.Phases.{waits}
use Rattle.phase_model.specs.Rules.{is_permitted}
use Rattle.phase_model.specs.Replies.{decided}
use Rattle.phase_model.proofs.Reserves.{claim_has_room}
use Rattle.single_state.specs.Single.{is_claimable, number_for, claimed}
use Rattle.phaser_engine.specs.Line.{has_signalled}
use Rattle.phaser_engine.specs.Table.{IsLastSingle}
use Rattle.phaser_engine.proofs.Reading.{Found, not_live, found_in, place_in, found_phase, room_now, owes_is, held_is}
use Rattle.phaser_engine.proofs.Passes as passes
use Rattle.phaser_engine.proofs.Claiming.{claims_is, claimed_ok, claimed_none}
use Rattle.phaser_engine.proofs.SinglesMoved.{claim_is_last}
use Rattle.phaser_engine.proofs.SinglesKept.{number_is}
use Rattle.phaser_engine.proofs.view.View.may_pass.Goals as goal
use Rattle.phaser_engine.proofs.view.View.may_pass.Goals.{In-Some}

the_found : (c : In-Some) → Found c.args.self.now.history.now.past c.args.task c.in-Some.entry
the_found c =
    found_in c.args.self.now.history.now c.args.self.now.table.now.lines c.args.self.now.single
    c.args.self.now.stands c.args.task c.in-Some.i c.in-Some.entry c.in-Some.ensures.some
    c.in-Some.ensures.task

pub returns-in_default-clause-refused : goal.returns-in_default-clause-refused
returns-in_default-clause-refused c =
    let s = c.args.self.now.history.now in
    passes.unknown s c.args.task
    (not_live s c.args.self.now.table.now.lines c.args.self.now.single c.args.self.now.stands c.args.task
    c.in_default.ensures.none)

pub returns-then-owes_signal-clause-refused : goal.returns-then-owes_signal-clause-refused
returns-then-owes_signal-clause-refused c =
    let s = c.args.self.now.history.now in
    let f = the_found (goal.at.returns-then-owes_signal-clause-refused c).In-Some in
    passes.not_signalled s c.args.task f.live
    (sym (owes_is s c.args.self.now.table.now.lines c.args.self.now.single c.args.self.now.stands c.args.task
    c.in-Some.entry f) ∙ (sym c.owes_signal.ensures ∙ c.if-owes_signal.true))

pub returns-in-Some-with_claim-clause-turn : goal.returns-in-Some-with_claim-clause-turn
returns-in-Some-with_claim-clause-turn c =
    let s = c.args.self.now.history.now in
    let t = c.args.task in
    let o = c.args.self.now.single in
    let e = c.in-Some.entry in
    let f = the_found (goal.at.returns-in-Some-with_claim-clause-turn c).In-Some in
    let claim =
    claimed_ok c.args.self.now.table.now.lines o e c.in-Some-with_claim.after
    (sym c.with_claim.ensures ∙ c.in-Some-with_claim.is) in
    let permitted : is_permitted s.limits s.terms s.past (Claim t) ≡ true =
    claims_is s c.args.self.now.table.now.lines o c.args.self.now.stands t e f ∙ claim.0 in
    let own : is_claimable o e.reg.phase ≡ true =
    (and_parts (e.proposed && list_all (λ x. has_signalled e.reg.phase x.reg) c.args.self.now.table.now.lines)
    (is_claimable o e.reg.phase) claim.0).1
    in
    let claimable : is_claimable o (waits t s.past) ≡ true =
    subst (λ p. is_claimable o p ≡ true) (found_phase s.past t e f) own in
    let after : c.in-Some-with_claim.after ≡ claimed o t =
    claim.1 ∙ ap (λ u. claimed o u) c.in-Some.ensures.task in (
      passes.claims s t f.live (sym (owes_is s c.args.self.now.table.now.lines o c.args.self.now.stands t e f)
          ∙ (sym c.owes_signal.ensures ∙ c.if-owes_signal.false)) permitted
          ∙ ap (λ b. decided None false b (Claim t))
          (claim_has_room s.limits s.terms s.past c.args.self.now.stands.legal t permitted),
      subst (λ a. IsLastSingle a (Claim t ∷ s.past)) (sym after)
          (claim_is_last s.limits s.terms s.past c.args.self.now.stands.legal t o c.args.self.now.stands.last
          claimable),
      c.unwrap_or-number.ensures
          ∙ ap (λ n. unwrap_or n 0)
          (c.number.ensures
          ∙ (ap (λ p. number_for o p) (found_phase s.past t e f)
          ∙ sym (number_is s.limits s.terms s.past c.args.self.now.stands.legal o (waits t s.past)
          c.args.self.now.stands.last claimable))),
    )

pub returns-then-has_to_wait-clause-turn : goal.returns-then-has_to_wait-clause-turn
returns-then-has_to_wait-clause-turn c =
    let s = c.args.self.now.history.now in
    let t = c.args.task in
    let o = c.args.self.now.single in
    let e = c.in-Some.entry in
    let f = the_found (goal.at.returns-then-has_to_wait-clause-turn c).In-Some in
    passes.waiting s t f.live (sym (owes_is s c.args.self.now.table.now.lines o c.args.self.now.stands t e f)
    ∙ (sym c.owes_signal.ensures ∙ c.if-owes_signal.false))
    (claims_is s c.args.self.now.table.now.lines o c.args.self.now.stands t e f
    ∙ claimed_none c.args.self.now.table.now.lines o e
    (sym c.with_claim.ensures ∙ c.in_default-with_claim.is))
    (sym (held_is s c.args.self.now.table.now.lines o c.args.self.now.stands t e f)
    ∙ (sym c.has_to_wait.ensures ∙ c.if-has_to_wait.true))

pub returns-then-not-has_room-clause-refused : goal.returns-then-not-has_room-clause-refused
returns-then-not-has_room-clause-refused c =
    let s = c.args.self.now.history.now in
    let t = c.args.task in
    let o = c.args.self.now.single in
    let e = c.in-Some.entry in
    let f = the_found (goal.at.returns-then-not-has_room-clause-refused c).In-Some in
    passes.free s t f.live (sym (owes_is s c.args.self.now.table.now.lines o c.args.self.now.stands t e f)
    ∙ (sym c.owes_signal.ensures ∙ c.if-owes_signal.false))
    (claims_is s c.args.self.now.table.now.lines o c.args.self.now.stands t e f
    ∙ claimed_none c.args.self.now.table.now.lines o e
    (sym c.with_claim.ensures ∙ c.in_default-with_claim.is))
    (sym (held_is s c.args.self.now.table.now.lines o c.args.self.now.stands t e f)
    ∙ (sym c.has_to_wait.ensures ∙ c.if-has_to_wait.false))
    ∙ ap (λ b. decided None false b (Pass t))
    (room_now s c.args.self.now.table.now.lines o c.args.self.now.stands (Pass t) refl refl
    ∙ ((rw (c.reserve.ensures, c.len.ensures) at (sym c.has_room.ensures)) ∙ c.if-not-has_room.true))

pub returns-clause-turn : goal.returns-clause-turn
returns-clause-turn c =
    let s = c.args.self.now.history.now in
    let t = c.args.task in
    let o = c.args.self.now.single in
    let e = c.in-Some.entry in
    let f = the_found (goal.at.returns-clause-turn c).In-Some in
    let asked =
    (rw (c.reserve.ensures, c.len.ensures) at (sym c.has_room.ensures)) ∙ c.if-not-has_room.false in (
      passes.free s t f.live (sym (owes_is s c.args.self.now.table.now.lines o c.args.self.now.stands t e f)
          ∙ (sym c.owes_signal.ensures ∙ c.if-owes_signal.false))
          (claims_is s c.args.self.now.table.now.lines o c.args.self.now.stands t e f
          ∙ claimed_none c.args.self.now.table.now.lines o e
          (sym c.with_claim.ensures ∙ c.in_default-with_claim.is))
          (sym (held_is s c.args.self.now.table.now.lines o c.args.self.now.stands t e f)
          ∙ (sym c.has_to_wait.ensures ∙ c.if-has_to_wait.false))
          ∙ ap (λ b. decided None false b (Pass t))
          (room_now s c.args.self.now.table.now.lines o c.args.self.now.stands (Pass t) refl refl ∙ asked),
      place_in s c.args.self.now.table.now.lines o c.args.self.now.stands t c.in-Some.i e
          c.in-Some.ensures.some c.in-Some.ensures.task,
      found_phase s.past t e f,
    )
