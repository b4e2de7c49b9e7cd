-- A whole run of a program in which luck has no part, and its report.
use Rattle.std.proofs.Common.{◌≡◌, true, List, reverse, sym, ap, ◌∙◌}
use Rattle.std.proofs.lemmas.Bool.{and_parts}
use Rattle.job_script.specs.Program.{Program}
use Rattle.world_model.specs.declared.event.WorldEvent.{WorldEvent}
use Rattle.world_model.specs.Replies.{is_legal_world}
use Rattle.world_model.specs.Report.{Report, report_of}
use Rattle.trace_model.specs.Explained.{past, all_follow, is_explained, is_over}
use Rattle.trace_model.specs.Run.{Entry, Run}
use Rattle.trace_model.proofs.Legal.{explained_legal}
use Rattle.trace_walk.specs.Follows.{follows}
use Rattle.trace_walk.specs.History.{history}
use Rattle.trace_walk.proofs.Places.{past_reversed}
use Rattle.run_laws.specs.Memory.{is_roomy}
use Rattle.run_laws.specs.Programs.{IsProgramRun}
use Rattle.run_laws.specs.Telling.{in_order}
use Rattle.run_laws.proofs.Scripts.{programs_come_to_the_same}
use Rattle.run_laws.specs.Certified.{CertificateIsOne, IsCertified}
use Rattle.run_laws.specs.Luck.{is_all_steady}
use Rattle.run_laws.proofs.Steady.{all_draw, all_roomy, none_refused, over_ended}

-- the explained trace follows the program, and luck has no part in it
pub record IsSteadyRun (p : Program) (t : Run) : Type 0 where
  pub limits : t.limits ≡ p.limits
  pub explained : is_explained t ≡ true
  pub follows_it : follows p (past (reverse t.events)) ≡ true
  pub steady : is_all_steady t.limits (history t.events) ≡ true

steady_past : (p : Program) (t : Run) → IsSteadyRun p t → is_all_steady p.limits (past (reverse t.events)) ≡ true
steady_past p t run =
    ap (λ w. is_all_steady p.limits w) (past_reversed t.events)
    ∙ (ap (λ l. is_all_steady l (history t.events)) (sym run.limits) ∙ run.steady)

pub program_run : (p : Program) (t : Run) → IsSteadyRun p t → IsProgramRun p in_order (past (reverse t.events))
program_run p t run =
    let es : List Entry = reverse t.events in
    let steady = steady_past p t run in
    record {
      legal = ap (λ l. is_legal_world l (past es)) (sym run.limits) ∙ explained_legal t run.explained;
      follows_it = run.follows_it;
      unrefused = none_refused p.limits (past es) steady;
      ended = over_ended es (and_parts (all_follow t.limits es) (is_over es) run.explained).1;
      draws = all_draw p.limits (past es) steady;
    }

pub roomy_run : (p : Program) (t : Run) → IsSteadyRun p t → is_roomy p.limits (past (reverse t.events)) ≡ true
roomy_run p t run = all_roomy p.limits (past (reverse t.events)) (steady_past p t run)

-- each such run of a certified program has the report that is certified
pub has_certified_report : (p : Program) (r : Report) (w : List WorldEvent) → IsCertified p r
    → IsProgramRun p in_order w → report_of p.limits w ≡ r
has_certified_report p r w certified run =
    (programs_come_to_the_same p in_order w _ run certified.run).1 ∙ certified.report

pub certificate_is_one : CertificateIsOne
certificate_is_one p r s one other = sym one.report ∙ has_certified_report p s _ other one.run
