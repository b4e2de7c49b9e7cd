-- No clock passes the acts that all tasks may begin.
use Rattle.std.proofs.Common.{◌≡◌, ℕ, ◌*◌, ◌≤◌, true, ◌&&◌, nat_le, arith}
use Rattle.std.proofs.lemmas.Bool.{and_parts, leb-true}
use Rattle.std.proofs.Math.Nat.{mul-le-mul_left, mul-le-mul_right}
use Rattle.phase_modes.specs.declared.limits.Limits.{Limits}
use Rattle.phase_modes.specs.Limits.{is_between, limits_fit}
use Rattle.world_model.specs.Clock.{clock}
use Rattle.world_model.specs.ClockLaws.{ClocksFit}
use Rattle.world_model.proofs.ClockWithinTurns.{clock_within, turns_begun}
use Rattle.world_model.proofs.ActsWithinLimits.{turns_within}

-- the limits of acts and of tasks that fit
record Fitting (l : Limits) : Type 0 where
  pub acts : l.acts ≤ 65536
  pub some : 1 ≤ l.tasks
  pub tasks : l.tasks ≤ 4096

fitting : (l : Limits) → limits_fit l ≡ true → Fitting l
fitting l k =
    let a = is_between 1 l.acts 65536 in
    let b = is_between 1 l.finishes 1024 in
    let c = is_between 4 l.history 65536 in
    let d = is_between 1 l.phasers 64 in
    let e = is_between 1 l.regs 256 in
    let f = is_between 1 l.tasks 4096 in
    let s = and_parts (a && b && c && d && e) f k in
    let t = and_parts (nat_le 1 l.tasks) (nat_le l.tasks 4096) s.1 in
    let u = (and_parts (a && b && c) d (and_parts (a && b && c && d) e s.0).0).0 in
    let v = (and_parts a b (and_parts (a && b) c u).0).0 in
    record {
      acts = leb-true l.acts 65536 (and_parts (nat_le 1 l.acts) (nat_le l.acts 65536) v).1;
      some = leb-true 1 l.tasks t.0;
      tasks = leb-true l.tasks 4096 t.1;
    }

pub clocks_fit : ClocksFit
clocks_fit l w k fits t =
    let f = fitting l fits in
    let most : clock t w ≤ l.tasks * l.acts =
    trans (clock t w) (turns_begun w) (l.tasks * l.acts) (clock_within l w k t)
    (turns_within l w k f.some) in
    let tasks : l.tasks * l.acts ≤ 4096 * l.acts = mul-le-mul_right l.acts f.tasks in
    let acts : 4096 * l.acts ≤ 268435456 = mul-le-mul_left 4096 f.acts in (
      most,
      trans (clock t w) (l.tasks * l.acts) 268435456 most
          (trans (l.tasks * l.acts) (4096 * l.acts) 268435456 tasks acts),
    )
  where
    trans : (x y z : ℕ) → x ≤ y → y ≤ z → x ≤ z
    trans x y z h k = omega (arith, h, k)
