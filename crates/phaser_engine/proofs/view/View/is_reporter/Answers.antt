-- A report that is done is permitted, and one that is refused isn't, since it would have room.
use Rattle.std.proofs.Common.{◌≡◌, ◌∷◌, [], Bool, true, false, ◌&&◌, not, sym, inl, inr}
use Rattle.std.proofs.lemmas.Bool.{and_parts, cases_Bool}
use Rattle.phase_modes.specs.declared.refusal.Refusal.{Refusal}
use Rattle.phase_modes.specs.declared.refusal.Refusal.TheVariants.{NotRegistered, NotNow}
use Rattle.phase_modes.specs.Refusal.{first_refusal}
use Rattle.phase_model.specs.declared.history.Event.{Event}
use Rattle.phase_model.specs.declared.history.Event.TheVariants.{Did}
use Rattle.phase_model.specs.Tasks.{is_live}
use Rattle.phase_model.specs.Phases.{waits}
use Rattle.phase_model.specs.Singles.{has_claimed, is_done}
use Rattle.phase_model.specs.Rules.{is_permitted, has_room}
use Rattle.phase_model.specs.Replies.{reply, refused, decided}
use Rattle.phase_model.specs.declared.call.Call.TheVariants.{SingleDone as single_done}
use Rattle.phase_model.proofs.Reserves.{did_has_room}
use Rattle.phase_model.proofs.Replied.{done_is_allowed}
use Rattle.phaser_engine.proofs.view.View.is_reporter.Goals as goal

no_cause : (a b d room : Bool) (r : Refusal) (e : Event) → (a && b && not d) ≡ true → room ≡ true
    → decided (first_refusal ((NotRegistered, a) ∷ (NotNow, b) ∷ (NotNow, not d) ∷ [])) false room e
    ≡ refused r → ⊥
no_cause true true false true r v p q e = absurd cc
no_cause true true false false r v p q e = absurd cc
no_cause true true true room r v p q e = absurd cc
no_cause true false d room r v p q e = absurd cc
no_cause false b d room r v p q e = absurd cc

pub returns-in-Ok-clause-reports : goal.returns-in-Ok-clause-reports
returns-in-Ok-clause-reports c =
    let s = c.args.self.now.history.now in
    sym (and_parts (is_permitted s.limits s.terms s.past (Did c.args.task))
    (has_room s.limits (Did c.args.task ∷ s.past))
    (done_is_allowed s (single_done c.args.task) (Did c.args.task) c.in-Ok.ensures.done)).0

pub returns-in-Err-clause-reports : goal.returns-in-Err-clause-reports
returns-in-Err-clause-reports c =
    let s = c.args.self.now.history.now in
    let t = c.args.task in
    let known : reply s (single_done t) ≡ refused c.in-Err.field-0 = c.in-Err.ensures.refused in
    elim (cases_Bool (is_permitted s.limits s.terms s.past (Did t))) [
      | inl e ↦
          absurd (no_cause (is_live t s.past) (has_claimed t (waits t s.past) s.past)
          (is_done (waits t s.past) s.past) (has_room s.limits (Did t ∷ s.past)) c.in-Err.field-0 (Did t)
          e (did_has_room s.limits s.terms s.past c.args.self.now.stands.legal t e) known)
      | inr e ↦ sym e
    ]
