-- That tasks go by a body, act by act: each act is the one that its body gives, and not only the same.
use Rattle.std.proofs.Common.{ℕ, ◌≡◌, true, List, [], ◌∷◌, Option, Some, None}
use Rattle.std.proofs.lemmas.Bool.{and_parts}
use Rattle.phase_modes.specs.declared.limits.Limits.{Limits}
use Rattle.job_script.specs.declared.act.Act.{Act}
use Rattle.job_script.specs.declared.act.Answer.{Answer}
use Rattle.world_model.specs.declared.event.Tried.{Tried}
use Rattle.world_model.specs.declared.event.WorldEvent.{WorldEvent}
use Rattle.world_model.specs.Drawing.{own_pairs}
use Rattle.world_model.specs.Replies.{is_legal_world}
use Rattle.world_model.specs.Report.{refused_by}
use Rattle.trace_walk.specs.Follows.{drawn}
use Rattle.trace_walk.specs.Scripts.{Made as MadeAct, Numbers, act_of}
use Rattle.trace_walk.specs.Given.{tried_of}
use Rattle.trace_walk.specs.Going.{does, goes_by, is_next}
use Rattle.trace_walk.specs.Walking.{Does}
use Rattle.trace_walk.specs.Whole.{IsSmooth}
use Rattle.trace_walk.proofs.SameActs.{act_is}

-- the act as the world knows it, where t makes it and these numbers are drawn for it
abbrev pub tried_as : {B : Type 0} → List WorldEvent → ℕ → Numbers → Act B → Tried
tried_as w t new act = tried_of (own_pairs t w) new act

-- the act is the next one of its task
abbrev pub IsNext : {B : Type 0} → (Answer → B → Does B) → B → List WorldEvent → Option MadeAct → Type 0
IsNext next root w None = Unit {0}
IsNext next root w (Some m) = m.act ≡ tried_as w m.task (drawn m.act) (does next root w m.task).0

-- each act that is made or refused is its task's next one
abbrev pub GoBy : {B : Type 0} → (Answer → B → Does B) → B → List WorldEvent → Type 0
GoBy next root [] = Unit {0}
GoBy next root (e ∷ w) = IsNext next root w (act_of e) × GoBy next root w

-- the history is smooth, its acts being those of the body
pub record GoesSmoothly {B : Type 0} (next : Answer → B → Does B) (root : B) (l : Limits) (w : List WorldEvent) : Type 0 where
  pub legal : is_legal_world l w ≡ true
  pub goes : GoBy next root w
  pub unrefused : (t : ℕ) → refused_by t w ≡ None

-- ---- so a history that goes by a body goes by it act by act

module _ {B : Type 0} (next : Answer → B → Does B) (root : B) where
  next_is : (w : List WorldEvent) (o : Option MadeAct) → is_next next root w o ≡ true → IsNext next root w o
  next_is w None k = tt
  next_is w (Some m) k = act_is m.act (tried_as w m.task (drawn m.act) (does next root w m.task).0) k

  goes : (w : List WorldEvent) → goes_by next root w ≡ true → GoBy next root w
  goes [] k = tt
  goes (e ∷ w) k =
      let parts = and_parts (is_next next root w (act_of e)) (goes_by next root w) k in
      (next_is w (act_of e) parts.0, goes w parts.1)

  pub smoothly : (l : Limits) (w : List WorldEvent) → IsSmooth next root l w → GoesSmoothly next root l w
  smoothly l w s = record { legal = s.legal; goes = goes w s.goes; unrefused = s.unrefused }
