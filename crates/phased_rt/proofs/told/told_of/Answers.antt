use Rattle.std.proofs.Common.{◌≡◌, true, List, reverse, subst, ◌∙◌}
use Rattle.phase_modes.specs.declared.limits.Limits.{Limits}
use Rattle.world_model.specs.Replies.{is_legal_world}
use Rattle.trace_model.specs.Explained.{past}
use Rattle.trace_model.specs.Parts.{IsTraceOf}
use Rattle.trace_model.specs.Run.{Entry}
use Rattle.trace_model.proofs.Legal.{explained_legal}
use Rattle.phased_rt.proofs.FinishesLimited.{all_within}
use Rattle.phased_rt.proofs.Limited.{all_limited}
use Rattle.phased_rt.proofs.Says.{says_of_trace, each_of_trace}
use Rattle.phased_rt.proofs.Totalled.{told_totals}
use Rattle.phased_rt.proofs.Traced.{phasers_from, finishes_from, logs_from, none_of_task}
use Rattle.phased_rt.proofs.told.told_of.Goals as goal

pub returns-clause-told : goal.returns-clause-told
returns-clause-told g c =
    let left = c.requires.remains in
    let remains = c.args.remains in
    let together = c.deref.ensures.value ∙ c.in_ok-parts.ensures.parts in
    let trace = c.in_ok-world.trace in
    let es = trace.events in
    let phasers = remains.phasers.items in
    let finishes = remains.finishes.items in
    let logs = remains.logs.items in
    let merged = subst (λ (ps : List (List Entry)). IsTraceOf ps es) together c.in_ok-world.ensures.of_parts in
    let legal : is_legal_world c.args.limits (past (reverse es)) ≡ true =
    subst (λ (l : Limits). is_legal_world l (past (reverse es)) ≡ true) c.in_ok-world.ensures.limits
    (explained_legal trace c.in_ok-world.ensures.explained) in
    let limited =
    all_limited c.args.limits 0 phasers left.sums es legal
    (phasers_from phasers finishes logs left.owners left.sums left.ended es merged left.of_phasers left.of_finishes left.of_tasks)
    left.of_phasers in
    let within =
    all_within c.args.limits 0 finishes left.ended es legal
    (finishes_from phasers finishes logs left.owners left.sums left.ended es merged left.of_phasers left.of_finishes left.of_tasks)
    left.of_finishes in
    record {
      phasers = phasers;
      sums = left.sums;
      finishes = finishes;
      ended = left.ended;
      logs = logs;
      owners = left.owners;
      merged = merged;
      of_phasers = limited.parts;
      limited = limited.limits;
      of_finishes = within.parts;
      numbered = within.tasks_are;
      of_tasks = left.of_tasks;
      of_each = left.of_each;
      all_phasers = left.all_phasers;
      all_finishes = left.all_finishes;
      all_logs = left.all_logs;
      added = left.added;
    }

pub returns-clause-totals : goal.returns-clause-totals
returns-clause-totals g c =
    told_totals c.args.limits c.in_ok-world.trace.events c.args.remains.totals c.in_ok-world.world (returns-clause-told g c) c.in_ok-world.ensures.world

-- what the root's body says of the parts it says of the trace
pub returns-clause-says : goal.returns-clause-says
returns-clause-says g c = λ said.
    let left = c.requires.remains in
    let remains = c.args.remains in
    let together = c.deref.ensures.value ∙ c.in_ok-parts.ensures.parts in
    let es = c.in_ok-world.trace.events in
    let phasers = remains.phasers.items in
    let finishes = remains.finishes.items in
    let logs = remains.logs.items in
    let merged = subst (λ (ps : List (List Entry)). IsTraceOf ps es) together c.in_ok-world.ensures.of_parts in
    says_of_trace g.B.Body.shows c.args.limits phasers logs left.owners es remains.root
    (phasers_from phasers finishes logs left.owners left.sums left.ended es merged left.of_phasers left.of_finishes left.of_tasks)
    left.all_phasers
    (logs_from phasers finishes logs left.owners left.sums left.ended es merged left.of_phasers left.of_finishes left.of_tasks left.of_each)
    left.of_tasks said

-- and what is told of each task whose log has its end is told of each that has ended
pub returns-clause-each : goal.returns-clause-each
returns-clause-each g c = λ said.
    let left = c.requires.remains in
    let remains = c.args.remains in
    let together = c.deref.ensures.value ∙ c.in_ok-parts.ensures.parts in
    let es = c.in_ok-world.trace.events in
    let phasers = remains.phasers.items in
    let finishes = remains.finishes.items in
    let logs = remains.logs.items in
    let merged = subst (λ (ps : List (List Entry)). IsTraceOf ps es) together c.in_ok-world.ensures.of_parts in
    each_of_trace g.B.Body.shows c.args.limits phasers logs left.owners es
    (phasers_from phasers finishes logs left.owners left.sums left.ended es merged left.of_phasers left.of_finishes left.of_tasks)
    left.all_phasers
    (logs_from phasers finishes logs left.owners left.sums left.ended es merged left.of_phasers left.of_finishes left.of_tasks left.of_each)
    left.of_tasks
    (λ t others. none_of_task t phasers finishes logs left.owners left.sums left.ended es merged left.of_phasers left.of_finishes left.of_tasks others) said
