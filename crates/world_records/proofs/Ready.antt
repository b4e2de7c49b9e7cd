-- A task is idle in the history where its line is ready, and is refused by what refuses it there.
use Rattle.std.proofs.Common.{◌≡◌, ℕ, zero, suc, ◌<◌, true, List, [], ◌∷◌, Option, length, get_or, refl, arith}
use Rattle.phase_modes.specs.Lists.{is_empty}
use Rattle.world_model.specs.declared.event.WorldEvent.{WorldEvent}
use Rattle.world_records.specs.TaskState.{TaskState}
use Rattle.world_records.specs.Kept.{blank_task, is_ready, is_idle_plan}
use Rattle.world_records.specs.StandsFor.{TaskStands}
use Rattle.world_model.specs.Tasks.{is_born, is_ended}
use Rattle.world_model.specs.Due.{due, is_idle}

pub ready_is_idle : (outers : List (Option ℕ)) (w : List WorldEvent) (t : ℕ) (k : TaskState) → TaskStands outers w t k → is_ready k ≡ is_idle t w
ready_is_idle outers w t k st =
    let p : is_idle_plan k.plan ≡ is_empty (due t w) = st.idle in
    let b : k.is_born ≡ is_born t w = st.born in
    let e : k.is_ended ≡ is_ended t w = st.ended in
    rw (b, e, p) refl

-- a ready line stands in the table
pub ready_within : (ks : List TaskState) (t : ℕ) → is_ready (get_or ks t blank_task) ≡ true → t < length ks
ready_within [] t e = absurd cc
ready_within (k ∷ ks) zero e = omega arith
ready_within (k ∷ ks) (suc t) e = omega (arith, ready_within ks t e)
