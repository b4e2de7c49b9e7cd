-- How much may be alive at once.
use Rattle.std.specs.Prelude.{ℕ, Bool, ◌&&◌, nat_lt, nat_le}
use Rattle.live_rt.specs.declared.room.Room.{Room}

-- 1 to 65,536
abbrev pub may_be : ℕ → Bool
may_be n = nat_lt 0 n && nat_le n 65536

-- there are slots for phasers and for finishes, so many of each
abbrev pub has_room : Room → Bool
has_room r = may_be r.phasers && may_be r.finishes
