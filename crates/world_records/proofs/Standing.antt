-- Where the acting task's line stands after an entry, the world does.
use Rattle.std.proofs.Common.{◌≡◌, ℕ, ◌<◌, ◌==◌, true, cond, List, ◌∷◌, Option, length, sym, subst, inl, inr}
use Rattle.std.proofs.lemmas.Bool.{and_from, cases_Bool, eqb-true}
use Rattle.world_model.specs.declared.event.Begun.{Begun}
use Rattle.world_model.specs.declared.event.WorldEvent.{WorldEvent}
use Rattle.world_model.specs.declared.event.WorldEvent.TheVariants.{Begin}
use Rattle.world_records.specs.TaskState.{TaskState}
use Rattle.world_records.specs.WorldState.{WorldState}
use Rattle.world_records.specs.Kept.{blank_task, task_at}
use Rattle.world_records.specs.inner.Steps.{with_task}
use Rattle.world_records.specs.StandsFor.{TaskStands, StandsFor}
use Rattle.world_model.specs.Replies.{is_accepted, is_legal_world}
use Rattle.world_records.proofs.TableReads.{read_set}
use Rattle.world_records.proofs.Entries.{IsPlain, other_begins}

-- the lines of all tasks after one was written
lines_by : (outers : List (Option ℕ)) (w : List WorldEvent) (t u : ℕ) (new old : TaskState) (b : Begun) → IsPlain b → TaskStands outers (Begin t b ∷ w) t new → TaskStands outers w u old
    → TaskStands outers (Begin t b ∷ w) u (cond (t == u) new old)
lines_by outers w t u new old b plain own other =
    elim (cases_Bool (t == u)) [
      | inl e ↦ rw e (subst (λ v. TaskStands outers (Begin t b ∷ w) v new) (eqb-true t u e) own)
      | inr e ↦ rw e (other_begins outers w u t old b plain e other)
    ]

pub entry_stands : (s : WorldState) (w : List WorldEvent) (t : ℕ) (k : TaskState) (b : Begun) → IsPlain b → StandsFor w s → t < length s.tasks
    → is_accepted s.limits w (Begin t b) ≡ true → TaskStands s.outers (Begin t b ∷ w) t k → StandsFor (Begin t b ∷ w) (with_task s t k)
entry_stands s w t k b plain st within accepted own = record {
  fit = st.fit;
  finishes_size = st.finishes_size;
  owners_size = st.owners_size;
  outers_size = st.outers_size;
  legal = and_from (is_accepted s.limits w (Begin t b)) (is_legal_world s.limits w) accepted st.legal;
  phasers = λ n. record { story = (st.phasers n).story; enclosing = (st.phasers n).enclosing };
  finishes = λ f. record { story = (st.finishes f).story; owner = (st.finishes f).owner };
  tasks = λ u.
      subst (λ line. TaskStands s.outers (Begin t b ∷ w) u line) (sym (read_set s.tasks t u k blank_task within))
      (lines_by s.outers w t u k (task_at s u) b plain own (st.tasks u));
}
