use Rattle.std.proofs.Common.{ℕ, ◌≡◌, List, subst, length, map, refl, sym, ◌∙◌, ap, arith}
use Rattle.std.specs.List.{sum as total}
use Rattle.phase_modes.specs.declared.limits.Limits.{Limits}
use Rattle.trace_model.specs.Projections.{log, AreOf}
use Rattle.table_receipts.specs.Logs.{Sight}
use Rattle.table_receipts.proofs.Logged.{are_named}
use Rattle.tasks_in_flight.specs.inner.Ready.{IsTold, seen_at_end}
use Rattle.task_remains.proofs.Gathering.{all_logs, told_there}
use Rattle.tasks_in_flight.proofs.Saying.{is_said}
use Rattle.task_remains.proofs.Told.{are_said}
use Rattle.task_remains.proofs.Sums.{books_sum}
use Rattle.task_remains.proofs.remains.gathered.Goals as goal

pub begin-requires-clause-named : goal.begin-requires-clause-named
begin-requires-clause-named g c =
    are_named g.K.Logs.logs c.args.phasers.parts.items c.args.phasers.logs.items c.requires.logged

pub invariant_of-of_root-clause-all : goal.invariant_of-of_root-clause-all
invariant_of-of_root-clause-all g c = ap (λ (xs : List Sight). length xs) c.begin.ensures.same.0 ∙ c.args.root.left.all

pub invariant_of-of_root-clause-told : goal.invariant_of-of_root-clause-told
invariant_of-of_root-clause-told g c = λ ended.
    let left = c.args.root.left in
    subst (λ (xs : List Sight). ∥ (g.K.Supposing.supposed → IsTold g.K.Supposing.told left.log.task (seen_at_end left.log.task xs left.log.log)) ∥₁) (sym c.begin.ensures.same.0)
    (left.told ended)

pub returns-clause-remains : goal.returns-clause-remains
returns-clause-remains g c =
    let books = c.args.phasers.phasers.items in
    let right = c.in-Ok.ensures.exactly.0 refl in
    record {
      sums = map (λ b. b.totals) books;
      ended = map (λ l. length l.items) c.args.finishes.logs.items;
      owners = c.in_ok-of_logs.ensures.own.0;
      of_phasers = c.requires.told_phasers;
      of_finishes = c.requires.told_finishes;
      of_tasks = c.in_ok-of_logs.ensures.own.1;
      of_each = c.in_ok-of_logs.ensures.own.2;
      all_phasers = omega (arith, c.requires.phasers.0, c.args.phasers.parts.ok);
      all_logs = c.in_ok-of_logs.ensures.number;
      all_finishes = omega (arith, c.requires.finishes, c.args.finishes.parts.ok);
      added = c.in-Ok.ensures.totals ∙ (sym right.1 ∙ books_sum books);
    }

pub returns-clause-says : goal.returns-clause-says
returns-clause-says g c = λ supposed.
    let phasers = c.args.phasers in
    let root = c.args.root in
    let own = root.left.log.log in
    is_said g.B.Body.shows c.args.limits g.K.Logs.logs phasers.parts.items c.in_ok-of_logs.of_logs.items phasers.logs.items root.left.fronts
    own (total (map (λ l. length l.items) c.args.finishes.logs.items)) root.body c.requires.logged
    (omega (arith, root.left.all, ap (λ (l : Limits). l.phasers) c.requires.limits, c.requires.phasers.0, phasers.parts.ok))
    c.begin.ensures.begin (λ n lt. c.begin.ensures.limits n lt ∙ sym c.requires.limits) c.in_ok-of_logs.ensures.root
    (subst (λ (t : ℕ). AreOf (log t) own.entries) root.root root.left.log.own) root.says supposed

pub returns-clause-each : goal.returns-clause-each
returns-clause-each g c = λ supposed.
    let phasers = c.args.phasers in
    let logs = phasers.logs.items in
    let fronts = c.args.root.left.fronts in
    let Told = g.K.Supposing.told in
    let of_tasks = c.in_ok-of_logs.of_logs.items in
    let told = told_there g.K.Supposing.supposed Told of_tasks c.begin.new.logs.items logs (sym c.begin.ensures.same.1) c.in_ok-of_logs.ensures.told in
    let many : length logs ≡ length fronts = omega (arith, c.args.root.left.all, ap (λ (l : Limits). l.phasers) c.requires.limits, c.requires.phasers.1, phasers.logs.ok) in
    are_said Told c.args.limits g.K.Logs.logs phasers.parts.items of_tasks logs c.requires.logged
    (omega (arith, c.requires.phasers.0, c.requires.phasers.1, phasers.parts.ok, phasers.logs.ok))
    (λ n lt. c.begin.ensures.limits n (omega (arith, lt, many)) ∙ sym c.requires.limits) told supposed

pub logs_of-requires-clause-logs : goal.logs_of-requires-clause-logs
logs_of-requires-clause-logs g c =
    let phasers = c.args.phasers in
    all_logs g.K.Logs.logs g.K.Logs.limits.phasers phasers.logs.items c.begin.new.logs.items c.begin.ensures.same.1
    (are_named g.K.Logs.logs phasers.parts.items phasers.logs.items c.requires.logged, omega (arith, ap (λ (l : Limits). l.phasers) c.requires.limits, c.requires.phasers.1, phasers.logs.ok))
