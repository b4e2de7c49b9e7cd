-- A run in which luck has no part tells what each run comes to.
use Rattle.std.proofs.Common.{◌≡◌, true, List, reverse, rules, sym, ap, subst, ◌∙◌}
use Rattle.world_model.specs.Report.{report_of}
use Rattle.trace_model.specs.Explained.{past}
use Rattle.trace_model.specs.Run.{Entry}
use Rattle.trace_walk.proofs.Places.{past_reversed}
use Rattle.run_laws.specs.Memory.{is_roomy}
use Rattle.run_laws.specs.OneRun.{EachRunComesTo}
use Rattle.run_laws.specs.Programs.{IsProgramRun}
use Rattle.run_laws.specs.Telling.{in_order}
use Rattle.run_laws.proofs.OneRun.{one_run_tells_all}
use Rattle.run_laws.proofs.Whole.{IsSteadyRun, program_run, roomy_run}
use Rattle.run_laws.proofs.certificate.certify.Goals as goal

pub returns-in-None-clause-answer : goal.returns-in-None-clause-answer
returns-in-None-clause-answer c =
    let p = c.args.program.now in
    let t = c.in_ok-run.run'.trace in
    let ran = c.in_ok-run.ensures in
    let es : List Entry = reverse t.events in
    let is : IsSteadyRun p t = record {
      limits = ran.limits;
      explained = ran.explained;
      follows_it = ran.follows;
      steady = c.in_ok-first_luck.ensures.none c.in-None.is;
    } in
    let run = program_run p t is in
    let roomy = roomy_run p t is in
    record {
      each = subst (λ r. EachRunComesTo p r) (sym ran.report)
          (one_run_tells_all p (past es) run roomy);
      rounds = ran.by_picks.0;
      run = subst (λ w. IsProgramRun p in_order w) ran.by_picks.1 run;
      roomy = subst (λ w. is_roomy p.limits w ≡ true) ran.by_picks.1 roomy;
      report = sym (ran.report ∙ ap (λ w. report_of p.limits w) ran.by_picks.1);
    }

pub returns-in-Some-clause-no_answer : goal.returns-in-Some-clause-no_answer
returns-in-Some-clause-no_answer c =
    let ran = c.in_ok-run.ensures in
    let t = c.in_ok-run.run'.trace in (
      t,
      record {
        rounds = ran.by_picks.0;
        is = sym (past_reversed t.events) ∙ ran.by_picks.1;
        limits = ran.limits;
        explained = ran.explained;
      },
      search rules,
    )
