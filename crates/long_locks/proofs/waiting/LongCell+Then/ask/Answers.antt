use Rattle.std.proofs.Common.{◌≡◌, ◌<◌, true, false, length, refl, ap, sym, ◌∙◌, subst, arith}
use Rattle.phase_model.specs.Rules.{Story}
use Rattle.phaser_core.specs.Parking.{is_parked, all_wait}
use Rattle.long_locks.specs.declared.course.Course.{Course}
use Rattle.long_locks.specs.Courses.{course, is_over}
use Rattle.long_locks.specs.Turns.{Standing, IsSound}
use Rattle.long_locks.specs.Calls.{called}
use Rattle.long_locks.proofs.Calling.{called_sound, called_queue, place_for_called, start_is, away_still, away_same}
use Rattle.long_locks.proofs.waiting.LongCell+Then.ask.Goals as goal

pub park-requires-clause-place : goal.park-requires-clause-place
park-requires-clause-place c = λ more.
    let cell = c.args.self.now in
    let out : is_parked c.args.waiter.task cell.parked.items ≡ false = sym c.is_parked.ensures
    ∙ c.if-is_parked.false in
    let few : length cell.parked.items < 256 =
    place_for_called cell.state.story c.args.waiter cell.parked.items cell.kept out
    (ap (λ (k : Course). is_over k) (sym c.advance-course.ensures.course) ∙ more) in
    omega (arith, few)

pub settle_if-requires-clause-sound : goal.settle_if-requires-clause-sound
settle_if-requires-clause-sound c =
    let cell = c.args.self.now in
    let s = cell.state.story in
    let ps = cell.parked.items in
    let w = c.args.waiter in
    let out : is_parked w.task ps ≡ false = sym c.is_parked.ensures ∙ c.if-is_parked.false in
    let made = c.advance-course.ensures in
    let is = start_is false (called s w) s _ ps _ _ _ refl made.course made.waiter made.history
    c.park.ensures.queue in
    subst (λ (u : Standing). IsSound u.story u.queue) (sym is) (called_sound s w ps cell.kept out)

pub settle_if-requires-clause-nobody : goal.settle_if-requires-clause-nobody
settle_if-requires-clause-nobody c = λ still.
    let cell = c.args.self.now in
    let s = cell.state.story in
    let ps = cell.parked.items in
    let w = c.args.waiter in
    let made = c.advance-course.ensures in
    let is = start_is false (called s w) s _ ps _ _ _ refl made.course made.waiter made.history
    c.park.ensures.queue in
    subst (λ (u : Standing). all_wait u.story u.queue ≡ true) (sym is)
    (called_queue s w ps (ap (λ (v : Story). all_wait v ps) (sym made.history) ∙ made.nobody cell.kept still))

pub returns-clause-refused : goal.returns-clause-refused
returns-clause-refused c = λ away.
    let cell = c.args.self.now in
    let s = cell.state.story in
    let ps = cell.parked.items in
    let w = c.args.waiter in
    let out : is_parked w.task ps ≡ false = sym c.is_parked.ensures ∙ c.if-is_parked.false in
    let made = c.advance-course.ensures in
    let is = start_is (is_parked w.task ps) (called s w) s _ ps _ _ _ out made.course made.waiter
    made.history c.park.ensures.queue in
    c.settle_if.ensures.still
    (made.still (away_still (is_parked w.task ps) (course s w.task w.call w.item) out away))
    ∙ (is ∙ away_same (is_parked w.task ps) s w ps out away)
