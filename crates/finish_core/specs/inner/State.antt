-- What the fields that a finish keeps beside its history stand for.
use Rattle.std.specs.Prelude.{ℕ, ◌≡◌, ◌≤◌, ◌+◌, Bool, true, false, if◌then◌else◌, List, [], ◌∷◌, length, slice_index_or, count_by}
use Rattle.std.specs.List.{list_any}
use Rattle.finish_core.specs.declared.event.FinishEvent.{FinishEvent}
use Rattle.finish_core.specs.declared.stage.Stage.{Stage}
use Rattle.finish_core.specs.declared.stage.Stage.TheVariants.{Fresh, Open, Shut}
use Rattle.finish_core.specs.Finish.{shuts, is_spawned, has_ended, is_legal_finish}

-- how far the history has come
abbrev pub stage_of : List FinishEvent → Stage
stage_of [] = Fresh
stage_of (e ∷ h) = if list_any shuts (e ∷ h) then Shut else Open

-- how many events of its frame it has: the opening and the shut
abbrev pub frame_events : Stage → ℕ
frame_events Fresh = 0
frame_events Open = 1
frame_events Shut = 2

-- how many bits are set
abbrev pub ones : List Bool → ℕ
ones bits = count_by (λ b. b) bits

-- the bits of each task number say whether it was spawned and whether it has ended, the count says how many
-- tasks have not ended, and the history is as long as they say
pub record IsFinishState (tasks : ℕ) (stage : Stage) (spawned ended : List Bool) (running : ℕ)
    (past : List FinishEvent) : Type 0 where
  pub least : 1 ≤ tasks
  pub most : tasks ≤ 4096
  pub legal : is_legal_finish tasks past ≡ true
  pub stage_is : stage ≡ stage_of past
  pub spawned_size : length spawned ≡ tasks
  pub spawned_bits : (t : ℕ) → slice_index_or spawned t false ≡ is_spawned t past
  pub ended_size : length ended ≡ tasks
  pub ended_bits : (t : ℕ) → slice_index_or ended t false ≡ has_ended t past
  pub counted : ones ended + running ≡ ones spawned
  pub events_are : length past ≡ frame_events stage + ones spawned + ones ended
