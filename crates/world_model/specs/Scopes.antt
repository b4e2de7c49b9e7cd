-- Who opened each finish, which is a task's innermost one, and which encloses a phaser.
use Rattle.std.specs.Prelude.{ℕ, ◌==◌, if◌then◌else◌, List, [], ◌∷◌, filter, filter_map, slice_index_or, Option, Some, None}
use Rattle.finish_core.specs.Finish.{is_open}
use Rattle.finish_core.specs.declared.event.FinishEvent.TheVariants.{Opened}
use Rattle.world_model.specs.declared.event.WorldEvent.{WorldEvent}
use Rattle.world_model.specs.declared.event.Step.TheVariants.{Make}
use Rattle.world_model.specs.declared.event.WorldEvent.TheVariants.{Phaser, Finish}
use Rattle.world_model.specs.Parts.{finish_past}
use Rattle.world_model.specs.Tasks.{home}

-- the finish that the event opens for t
abbrev pub opened_by : ℕ → WorldEvent → Option ℕ
opened_by t (Finish f (Opened u)) = if u == t then Some f else None
opened_by t _ = None

-- t's own open finishes, the innermost first; the root's finish 0 isn't among them
abbrev pub open_finishes : ℕ → List WorldEvent → List ℕ
open_finishes t w = filter (λ f. is_open (finish_past f w)) (filter_map (opened_by t) w)

-- the innermost finish of t: the last that it opened and that isn't shut,
-- else the one in which it was spawned
abbrev pub inner : ℕ → List WorldEvent → ℕ
inner t w = slice_index_or (open_finishes t w) 0 (home t w)

-- who opened f; finish 0 is the root's
abbrev pub owner : ℕ → List WorldEvent → ℕ
owner f [] = 0
owner f (Finish g (Opened u) ∷ w) = if g == f then u else owner f w
owner f (_ ∷ w) = owner f w

-- the finish that immediately encloses phaser n: its maker's innermost one when it was made
abbrev pub enclosing : ℕ → List WorldEvent → ℕ
enclosing n [] = 0
enclosing n (Phaser m (Make t mode terms) ∷ w) = if m == n then inner t w else enclosing n w
enclosing n (_ ∷ w) = enclosing n w
