use Rattle.std.proofs.Common.{ℕ, suc, ◌+◌, ◌≡◌, true, false, List, sym, ap, subst, ◌∙◌, arith}
use Rattle.job_script.specs.Program.{Program}
use Rattle.world_model.specs.declared.event.WorldEvent.{WorldEvent}
use Rattle.world_model.specs.Tasks.{is_ended}
use Rattle.trace_walk.specs.Picks.{round_from, rounds}
use Rattle.schedule_run.specs.inner.Running.{RunStands}
use Rattle.schedule_run.proofs.Counting.{one_round, round_grows, as_long}
use Rattle.schedule_run.proofs.runner.Runner.rounds.Goals as goal

none_more : (n : ℕ) → n ≡ n + 0
none_more n = omega arith

one_more : (n m : ℕ) → n + 1 + m ≡ n + suc m
one_more n m = omega arith

pub returns-then-has_ended-clause-ended : goal.returns-then-has_ended-clause-ended
returns-then-has_ended-clause-ended c p w st =
    let b = c.loop-round.invariant.runs p w st in
    let ended : is_ended 0 b.1 ≡ true = sym (c.has_ended.ensures b.1 b.2.run.recorded.stands) ∙ c.if-has_ended.true in
    let same : rounds b.0 p w ≡ b.1 = ap (λ k. rounds k p w) (none_more b.0) ∙ b.3 0 in (
      b.0,
      subst (λ (u : List WorldEvent). is_ended 0 u ≡ true) (sym same) ended,
      subst (λ (u : List WorldEvent). RunStands p u c.loop-round.self) (sym same) b.2.run,
    )

none_first : (m : ℕ) → 0 + m ≡ m
none_first m = omega arith

pub loop-round-init : goal.loop-round-init
loop-round-init c = record {
  grown = let g = c.requires.stands in (g.0, g.1, record { run = g.2; ended_are = c.requires.ended g.1 }, omega arith);
  runs = λ p w st. (0, w, record { run = st; ended_are = c.requires.ended w }, λ m. ap (λ k. rounds k p w) (none_first m));
}

pub loop-round-preserved : goal.loop-round-preserved
loop-round-preserved c =
    let going : (p : Program) (v : List WorldEvent) → RunStands p v c.loop-round.self → is_ended 0 v ≡ false =
    λ p v st. sym (c.has_ended.ensures v st.recorded.stands) ∙ c.if-has_ended.false in
    record {
      grown = let g = c.loop-round.invariant.grown in (
        g.0,
        round_from g.0.limits.tasks 0 g.0 g.1,
        c.in_ok-round.ensures.stands g.0 g.1 g.2.run g.2.ended_are,
        omega (arith, g.3, round_grows g.0 g.1 c.loop-round.self g.2.run (going g.0 g.1 g.2.run)),
      );
      runs = λ p w st.
          let b = c.loop-round.invariant.runs p w st in (
            b.0 + 1,
            round_from p.limits.tasks 0 p b.1,
            c.in_ok-round.ensures.stands p b.1 b.2.run b.2.ended_are,
            λ m. ap (λ k. rounds k p w) (one_more b.0 m) ∙ (b.3 (suc m) ∙ one_round p b.1 m (going p b.1 b.2.run)),
          );
    }

pub unreachable-requires : goal.unreachable-requires
unreachable-requires c =
    let g = c.loop-round.invariant.grown in
    omega (arith, c.loop-round-test.false, g.3, as_long g.0 g.1 c.loop-round.self g.2.run, c.len-events.ensures.length, c.len-events.ensures.few)
