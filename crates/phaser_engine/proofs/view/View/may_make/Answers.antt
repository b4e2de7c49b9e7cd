-- A phaser that has no event yet has room for its making.
use Rattle.std.proofs.Common.{◌≡◌, ◌<◌, ◌≤◌, ℕ, List, [], ◌∷◌, length, refl, ap, arith}
use Rattle.std.proofs.lemmas.Bool.{lt-ltb, le-leb, eq-eqb}
use Rattle.phase_modes.specs.declared.limits.Limits.{Limits}
use Rattle.phase_modes.specs.declared.reg.Mode.{Mode}
use Rattle.phase_model.specs.declared.history.Event.{Event}
use Rattle.phase_model.specs.declared.history.Event.TheVariants.{Make}
use Rattle.phase_model.specs.declared.terms.Terms.{Terms}
use Rattle.phase_model.specs.declared.call.Call.TheVariants.{Make as make}
use Rattle.phase_model.specs.Rules.{Story}
use Rattle.phase_model.specs.Replies.{reply, done}
use Rattle.phaser_engine.proofs.Reading.{makes_fit}
use Rattle.phaser_engine.proofs.view.View.may_make.Goals as goal

story_of : Limits → Terms → List Event → Story
story_of l terms h = record { limits = l; terms = terms; past = h }

made : (l : Limits) (terms : Terms) (h : List Event) (t : ℕ) (m : Mode) → length h ≤ 0 → t < l.tasks → 2 ≤ l.history
    → reply (record { limits = l; terms = terms; past = h }) (make t m) ≡ done (Make t m)
made l terms [] t m none fits room = rw (lt-ltb t l.tasks fits, eq-eqb t t refl, le-leb 2 l.history room) refl
made l terms (e ∷ h) t m none fits room = absurd (omega (arith, none))

pub returns-clause-done : goal.returns-clause-done
returns-clause-done c =
    let s = c.args.self.now.history.now in
    made s.limits s.terms s.past c.args.task c.args.mode (omega (arith, c.len.ensures.length, c.if-len-gt0.false))
    (omega (arith, c.limits.ensures.tasks, c.if-task-limits.false)) (makes_fit s.limits c.args.self.now.stands.fit)
