use Rattle.std.proofs.Common.{◌≡◌, ◌-◌, ◌∙◌, sym, ap, ap₂, subst₂, arith, option_map, Some, Ok}
use Rattle.std.specs.Option.{option_map_or}
use Rattle.serde_json.specs.Data.{no_items}
use Rattle.serde_json.specs.View.{view, items_view}
use Rattle.job_script.specs.Reading.{Fails}
use Rattle.job_script.specs.ActForms.{said_in}
use Rattle.job_script.specs.Form.{acts_in, nothing_read}
use Rattle.job_script.specs.inner.SaidViews.{said_view}
use Rattle.job_script.proofs.Nesting.{read_within, fails_within}
use Rattle.job_script.proofs.reading.+acts.Goals as goal

pub act_of-returns-in-Err-clause-one : goal.act_of-returns-in-Err-clause-one
act_of-returns-in-Err-clause-one t c =
    let said : said_in (view c.args.value.now) ≡ Some (said_view c.in-Some.said) = sym c.in_ok-said_of.ensures.said ∙ ap (option_map said_view) c.in-Some.is in
    let inner = ap items_view c.deref.ensures.value ∙ sym (ap (λ o. option_map_or (λ v. items_view v.now.items) o no_items) c.in-Some-inner.is) ∙ c.in_ok-head.ensures.inner in
    fails_within c.args.depth c.args.place c.args.seen.now c.head_of.new.seen (view c.args.value.now) (said_view c.in-Some.said) c.in_ok-head.head c.in-Err.fault
    (omega (arith, c.if-depth-eq0.false)) said c.in_ok-head.ensures.head
    (subst₂ (λ n ds. Fails c.in-Err.fault (acts_in (c.args.depth - 1) (nothing_read n c.head_of.new.seen) ds)) c.in_ok-first.ensures.next inner c.in-Err.ensures.list)

pub act_of-returns-in-Ok-clause-one : goal.act_of-returns-in-Ok-clause-one
act_of-returns-in-Ok-clause-one t c =
    let said : said_in (view c.args.value.now) ≡ Some (said_view c.in-Some.said) = sym c.in_ok-said_of.ensures.said ∙ ap (option_map said_view) c.in-Some.is in
    let inner = ap items_view c.deref.ensures.value ∙ sym (ap (λ o. option_map_or (λ v. items_view v.now.items) o no_items) c.in-Some-inner.is) ∙ c.in_ok-head.ensures.inner in
    read_within c.args.depth c.args.place c.args.seen.now c.head_of.new.seen (view c.args.value.now) (said_view c.in-Some.said) c.in_ok-head.head _
    (omega (arith, c.if-depth-eq0.false)) said c.in_ok-head.ensures.head
    (ap₂ (λ n ds. acts_in (c.args.depth - 1) (nothing_read n c.head_of.new.seen) ds) (sym c.in_ok-first.ensures.next) (sym inner) ∙ c.in-Ok.ensures.list)
    ∙ ap Ok (sym c.one_of-item-in-Ok.ensures.one)
