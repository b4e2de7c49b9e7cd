use Rattle.std.proofs.Common.{ℕ, None, refl, sym, subst, map, true, ap}
use Rattle.phase_model.specs.declared.history.Event.TheVariants.{Sig}
use Rattle.phase_model.specs.Rules.{Story}
use Rattle.table_receipts.specs.Seen.{story_at}
use Rattle.table_receipts.proofs.Stories.{seen_more}
use Rattle.task_standing.specs.Standing.{marked}
use Rattle.tasks_in_flight.specs.Heard.{ends}
use Rattle.tasks_in_flight.specs.inner.Ready.{HasJustDone, seen_by}
use Rattle.tasks_in_flight.proofs.OnTheWay.{pending_signalled}
use Rattle.tasks_in_flight.proofs.Saying.{ready_moves, ready_at, more_stories, says_more, says_known}
use Rattle.task_standing.specs.Known.{Known}
use Rattle.tasks_in_flight.proofs.task.Task.signalled.Goals as goal

pub invariant_of-self-clause-ready : goal.invariant_of-self-clause-ready
invariant_of-self-clause-ready g c =
    let old = c.args.self.now in
    let ys = c.set.new.self in
    let n = c.args.phaser in
    let more = seen_more old.fronts old.fronts ys n n (story_at old.fronts n) c.args.seen.story refl refl refl c.set.ensures.here c.set.ensures.others c.requires.more in
    let x = c.args.proposed in
    let k = old.standing in
    let k' = record k { holding = map (marked n true) k.holding } in
    let now = seen_by old.fronts k old.log.log in
    let just =
    subst (λ (t : ℕ). HasJustDone (Sig t x) (story_at old.fronts n) (story_at ys n)) (sym old.own)
    (subst (λ (s : Story). HasJustDone (Sig old.log.task x) (story_at old.fronts n) s) (sym c.set.ensures.here) c.requires.own) in
    ready_at g.B.Body.shows old.body old.log.task old.answer ys k' c.note_signal.new.self old.log.log c.note_signal.ensures
    (ready_moves g.B.Body.shows old.body old.log.task k.plan k.plan old.answer now (seen_by ys k' old.log.log)
    (more_stories now (λ m. story_at ys m) k'.holding more.0)
    (λ asked seen goes is. pending_signalled old.log.task None seen k now.own now.stories now.log n x (λ m. story_at ys m) more just asked old.answer
    (λ m is. absurd (cc is)) goes c.requires.due is)
    old.ready)

pub invariant_of-self-clause-end : goal.invariant_of-self-clause-end
invariant_of-self-clause-end g c = λ ended.
    let old = c.args.self.now in
    let ys = c.set.new.self in
    let n = c.args.phaser in
    let more = seen_more old.fronts old.fronts ys n n (story_at old.fronts n) c.args.seen.story refl refl refl c.set.ensures.here c.set.ensures.others c.requires.more in
    says_known g.B.Body.shows old.body old.log.task ends ys old.standing c.note_signal.new.self old.log.log (ap (λ (k : Known). k.number) c.note_signal.ensures)
    (says_more g.B.Body.shows old.body old.log.task ends (seen_by old.fronts old.standing old.log.log) (seen_by ys old.standing old.log.log)
    (more_stories (seen_by old.fronts old.standing old.log.log) (λ m. story_at ys m) old.standing.holding more.0) (old.end ended))
