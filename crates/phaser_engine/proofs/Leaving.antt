-- Who may be dropped, by what its line says.
use Rattle.std.proofs.Common.{◌≡◌, ℕ, Bool, true, false, ◌||◌, ◌&&◌, not, List, Option, Some, slice_get, refl, ap, ◌∙◌}
use Rattle.std.proofs.lemmas.Bool.{and_from}
use Rattle.phase_model.specs.declared.history.Event.TheVariants.{Drop}
use Rattle.phase_model.specs.declared.call.Call.TheVariants.{Drop as drop_task}
use Rattle.phase_model.specs.Tasks.{is_live}
use Rattle.phase_model.specs.Phases.{waits}
use Rattle.phase_model.specs.Singles.{has_proposed, is_settled, owes_nothing}
use Rattle.phase_model.specs.Rules.{Story}
use Rattle.phase_model.specs.Replies.{reply, done}
use Rattle.phase_model.proofs.OwnPhase.{owes_nothing_is}
use Rattle.phase_model.proofs.Reserves.{drop_has_room}
use Rattle.single_state.specs.declared.statement.Statement.{Statement}
use Rattle.single_state.specs.Single.{may_pass}
use Rattle.reg_table.specs.declared.table.Entry.{Entry}
use Rattle.phaser_engine.specs.Table.{Stands}
use Rattle.phaser_engine.proofs.Reading.{Found, found_in, found_phase, found_proposed}
use Rattle.phaser_engine.proofs.Reports.{drops}
use Rattle.phaser_engine.proofs.SinglesKept.{settled_is}

unless : (a b : Bool) → (not a || b) ≡ not (a && not b)
unless true true = refl
unless true false = refl
unless false b = refl

-- what the line says of the task's singles
pub the_debt : (s : Story) (lines : List Entry) (single : Option Statement) → Stands s lines single
    → (t i : ℕ) (e : Entry) → slice_get lines i ≡ Some e → e.task ≡ t
    → owes_nothing t s.past ≡ not (e.proposed && not (may_pass single e.reg.phase))
the_debt s lines single stands t i e here task =
    let f : Found s.past t e = found_in s lines single stands t i e here task in
    let w = waits t s.past in
    owes_nothing_is s.limits s.terms s.past stands.legal t
    ∙ (unless (has_proposed t w s.past) (is_settled w s.past)
    ∙ rw (
      settled_is s.limits s.terms s.past stands.legal single w stands.last,
      found_phase s.past t e f,
      found_proposed s.past t e f,
    ) refl)

-- who owes no single may be dropped
pub leaves : (s : Story) (lines : List Entry) (single : Option Statement) → Stands s lines single
    → (t i : ℕ) (e : Entry) → slice_get lines i ≡ Some e → e.task ≡ t
    → (e.proposed && not (may_pass single e.reg.phase)) ≡ false
    → reply s (drop_task t) ≡ done (Drop t)
leaves s lines single stands t i e here task clear =
    let f : Found s.past t e = found_in s lines single stands t i e here task in
    let settled : owes_nothing t s.past ≡ true =
    the_debt s lines single stands t i e here task ∙ ap (λ b. not b) clear in
    drops s t f.live settled
    (drop_has_room s.limits s.terms s.past stands.legal t
    (and_from (is_live t s.past) (owes_nothing t s.past) f.live settled))
