use Rattle.std.proofs.Common.{◌≡◌, ◌↔◌, true, subst, sym, ◌∙◌, IsOk}
use Rattle.phase_model.specs.Rules.{is_legal}
use Rattle.phase_model.proofs.Verdicts.{verdict_says, first_fault}
use Rattle.phase_model.proofs.verdict.explain.Goals as goal

pub returns-clause-legal : goal.returns-clause-legal
returns-clause-legal c =
    let s = c.args.history.now in
    subst (λ v. IsOk v ↔ (is_legal s.limits s.terms s.past ≡ true)) (sym c.verdict_of.ensures)
    (verdict_says s.limits s.terms s.past)

pub returns-clause-place : goal.returns-clause-place
returns-clause-place c = λ p e.
    let s = c.args.history.now in
    first_fault s.limits s.terms s.past p (sym c.verdict_of.ensures ∙ e)
