-- Where luck has a part in a run: in a refusal, in a number that more than one task draws, and in a registration that finds
-- room only if others have left.
use Rattle.std.specs.Prelude.{ℕ, suc, ◌≡◌, ◌++◌, ◌&&◌, nat_lt, Bool, true, false, List, [], ◌∷◌, take, slice_get, Option, Some, None, codes, decimal}
use Rattle.phase_modes.specs.declared.limits.Limits.{Limits}
use Rattle.finish_core.specs.declared.event.FinishEvent.TheVariants.{Opened}
use Rattle.world_model.specs.declared.event.Step.TheVariants.{Make, Reg}
use Rattle.world_model.specs.declared.event.Begun.TheVariants.{Async}
use Rattle.world_model.specs.declared.event.WorldEvent.{WorldEvent}
use Rattle.world_model.specs.declared.event.WorldEvent.TheVariants as events
use Rattle.world_model.specs.ReportLines.{task_text}
use Rattle.trace_walk.specs.Scripts.{act_of}
use Rattle.trace_walk.specs.History.{history}
use Rattle.trace_model.specs.Run.{Entry, Run}
use Rattle.trace_model.specs.Explained.{event_of}
use Rattle.run_laws.specs.Memory.{registrations}
use Rattle.run_laws.specs.Telling.{draws_next, in_order}
use Rattle.run_laws.specs.declared.luck.Luck.{Luck}
use Rattle.run_laws.specs.declared.luck.Luck.TheVariants.{Refused, Phaser, Child, Finish, Registered}
use Rattle.run_laws.specs.declared.luck.LuckAt.{LuckAt}

-- the phaser on which the event registers a task
abbrev pub joined : WorldEvent → Option ℕ
joined (events.Phaser n (Make t m terms)) = Some n
joined (events.Phaser n (Reg q t m)) = Some n
joined _ = None

-- so many tasks were never registered on the phaser, if one is named, as may be on it at a time
abbrev pub has_place : Limits → List WorldEvent → Option ℕ → Bool
has_place l w None = true
has_place l w (Some n) = nat_lt (registrations n w) l.regs

-- luck has no part in the event: it is no refusal; a number that it draws comes next for its task, which counts its own
-- draws alone; and a task that it registers finds room even if nobody has left
abbrev pub is_steady : Limits → List WorldEvent → WorldEvent → Bool
is_steady l w (events.Refuse t a n) = false
is_steady l w (events.Fail t n) = false
is_steady l w e = draws_next in_order w (act_of e) && has_place l w (joined e)

-- nor in any other event of the history
abbrev pub is_all_steady : Limits → List WorldEvent → Bool
is_all_steady l [] = true
is_all_steady l (e ∷ w) = is_steady l w e && is_all_steady l w

-- what luck may decide by the event: of a refusal that it comes, of a draw its number, of a registration whether there is
-- room
abbrev pub luck_of : WorldEvent → Option Luck
luck_of (events.Refuse t a n) = Some (Refused t n)
luck_of (events.Fail t n) = Some (Refused t n)
luck_of (events.Phaser n (Make t m terms)) = Some (Phaser t n)
luck_of (events.Phaser n (Reg q t m)) = Some (Registered q t n)
luck_of (events.Begin t (Async c pairs)) = Some (Child t c)
luck_of (events.Finish f (Opened t)) = Some (Finish t f)
luck_of _ = None

-- this is the first event of the run in which luck has a part, by its place counted from 1
pub record IsFirstLuck (r : Run) (at : LuckAt) : Type 0 where
  pub before : ℕ
  pub place : at.place ≡ suc before
  pub steady : is_all_steady r.limits (history (take before r.events)) ≡ true
  pub lucky : is_all_steady r.limits (history (take (suc before) r.events)) ≡ false
  pub entry : Entry
  pub there : slice_get r.events before ≡ Some entry
  pub luck : luck_of (event_of entry.1) ≡ Some at.luck

-- ---- how it is said

-- what luck decides
abbrev pub luck_text : Luck → List ℕ
luck_text (Refused t n) = task_text (record { task = t; refused = Some n })
luck_text (Phaser t n) = codes "task " ++ (decimal t ++ (codes " draws phaser " ++ decimal n))
luck_text (Child t c) = codes "task " ++ (decimal t ++ (codes " draws task " ++ decimal c))
luck_text (Finish t f) = codes "task " ++ (decimal t ++ (codes " draws finish " ++ decimal f))
luck_text (Registered q t n) =
    codes "task " ++ (decimal q
    ++ (codes " registers task " ++ (decimal t ++ (codes " on phaser " ++ decimal n))))

-- the same with its place
abbrev pub luck_at_text : LuckAt → List ℕ
luck_at_text at = codes "luck at " ++ decimal at.place ++ codes ": " ++ luck_text at.luck
