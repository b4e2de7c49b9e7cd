-- The limits of a run are ones that the engine can count.
use Rattle.std.proofs.Common.{◌≡◌, ◌≤◌, nat_le, ◌&&◌, true, arith}
use Rattle.std.proofs.lemmas.Bool.{and_parts, and_from, leb-true, le-leb}
use Rattle.phase_modes.specs.declared.limits.Limits.{Limits}
use Rattle.phase_modes.specs.Limits.{is_between, limits_fit}
use Rattle.acc_cells.specs.Cells.{most_values}
use Rattle.phaser_engine.specs.Table.{can_count}

-- how many events a history has, and how many are registered at once
record AreSmall (l : Limits) : Type 0 where
  least : 4 ≤ l.history
  most : l.history ≤ 65536
  regs : l.regs ≤ 256

are_small : (l : Limits) → limits_fit l ≡ true → AreSmall l
are_small l k =
    let a = is_between 1 l.acts 65536 in
    let b = is_between 1 l.finishes 1024 in
    let c = is_between 4 l.history 65536 in
    let d = is_between 1 l.phasers 64 in
    let e = is_between 1 l.regs 256 in
    let f = is_between 1 l.tasks 4096 in
    let k5 = and_parts (a && b && c && d && e) f k in
    let k4 = and_parts (a && b && c && d) e k5.0 in
    let k3 = and_parts (a && b && c) d k4.0 in
    let k2 = and_parts (a && b) c k3.0 in
    let history = and_parts (nat_le 4 l.history) (nat_le l.history 65536) k2.1 in
    let regs = and_parts (nat_le 1 l.regs) (nat_le l.regs 256) k4.1 in
    record {
      least = leb-true 4 l.history history.0;
      most = leb-true l.history 65536 history.1;
      regs = leb-true l.regs 256 regs.1;
    }

-- a history has at most 65,536 events
pub history_fits : (l : Limits) → limits_fit l ≡ true → l.history ≤ 65536
history_fits l k = (are_small l k).most

-- the engine can count them
pub counts_fit : (l : Limits) → limits_fit l ≡ true → can_count l ≡ true
counts_fit l k =
    let s = are_small l k in
    and_from (nat_le 2 l.history && nat_le l.history most_values) (nat_le l.regs 256)
    (and_from (nat_le 2 l.history) (nat_le l.history most_values) (le-leb 2 l.history (omega (arith, s.least)))
    (le-leb l.history most_values (omega (arith, s.most))))
    (le-leb l.regs 256 s.regs)

-- and it has room for a phase
pub some_history : (l : Limits) → limits_fit l ≡ true → 4 ≤ l.history
some_history l k = (are_small l k).least
