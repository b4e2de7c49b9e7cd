-- A value that is sent has its place and its room.
use Rattle.std.proofs.Common.{◌≡◌, ℕ, ℤ, subst, sym}
use Rattle.phase_model.specs.declared.history.Event.{Event}
use Rattle.phase_model.specs.declared.history.Event.TheVariants.{Send}
use Rattle.world_model.specs.inner.Folds.{FoldState, HasPlace, IsPlaced, reached}
use Rattle.world_model.proofs.folds.FoldTable.note.Goals as goal

placed : (k new : FoldState) (e : Event) (p t a : ℕ) (v : ℤ) → IsPlaced e p k → e ≡ Send t a v → new ≡ reached p k → HasPlace new p a
placed k new e p t a v place is here =
    subst (λ s. HasPlace s p a) (sym here) (subst (λ x. IsPlaced x p k) is place)

pub send-requires-clause-few : goal.send-requires-clause-few
send-requires-clause-few c = (c.requires.placed c.in-Some.phase c.in-Some.is).0

pub send-requires-clause-accumulator : goal.send-requires-clause-accumulator
send-requires-clause-accumulator c =
    (placed c.args.self.now c.reach.new.self c.args.event c.in-Some.phase c.in-Send.field-0 c.in-Send.accumulator c.in-Send.value
    (c.requires.placed c.in-Some.phase c.in-Some.is).1 c.in-Send.is c.in_ok-reach.ensures.reached).accumulator

pub send-requires-clause-place : goal.send-requires-clause-place
send-requires-clause-place c =
    (placed c.args.self.now c.reach.new.self c.args.event c.in-Some.phase c.in-Send.field-0 c.in-Send.accumulator c.in-Send.value
    (c.requires.placed c.in-Some.phase c.in-Some.is).1 c.in-Send.is c.in_ok-reach.ensures.reached).place

pub send-requires-clause-room : goal.send-requires-clause-room
send-requires-clause-room c =
    (placed c.args.self.now c.reach.new.self c.args.event c.in-Some.phase c.in-Send.field-0 c.in-Send.accumulator c.in-Send.value
    (c.requires.placed c.in-Some.phase c.in-Some.is).1 c.in-Send.is c.in_ok-reach.ensures.reached).room
