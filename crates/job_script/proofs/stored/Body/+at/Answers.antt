use Rattle.std.proofs.Common.{mod-lt, ◌∙◌, ◌≡◌, ◌-◌, ◌<◌, sym, ap, subst, arith, slice_get, option_map}
use Rattle.std.specs.List.Sorted.{IsNonDecreasing}
use Rattle.job_script.specs.Acts.{depth, flat, flat_length, written, written_length, too_many}
use Rattle.job_script.specs.inner.Ends.{start_of}
use Rattle.job_script.specs.inner.Views.{acts_view}
use Rattle.job_script.specs.declared.stored.Body.TheView.{size}
use Rattle.job_script.proofs.Ends.{ends-rise, inner_falls, not_there, there, nonzero, repeat_gives, plain_at}
use Rattle.job_script.proofs.stored.Body.+at.Goals as goal

pub ends_passed-index-requires : goal.ends_passed-index-requires
ends_passed-index-requires t c = subst IsNonDecreasing (sym (c.deref.ensures.value ∙ c.self.invariant.0)) (ends-rise (acts_view c.self.inside.items.items) 0)

pub returns-in-None-clause-act : goal.returns-in-None-clause-act
returns-in-None-clause-act t c =
    let is = c.deref.ensures.value ∙ c.self.invariant.0 in
    let none = ap (λ is. slice_get is c.ends_passed-index.result) (sym c.deref-2.ensures.value) ∙ sym c.item_at.ensures ∙ ap (option_map (λ i. i.now)) c.in-None.is in
    sym (ap (λ b. slice_get (flat b) c.args.place) (sym c.self.view_is) ∙ not_there c.self.inside.items.items _ c.args.place c.ends_passed-index.result is c.requires c.ends_passed-index.ensures.passed none)

pub nonzero_rem-after : goal.nonzero_rem-after
nonzero_rem-after t c =
    let is = c.deref.ensures.value ∙ c.self.invariant.0 in
    let at = ap (λ is. slice_get is c.ends_passed-index.result) (sym c.deref-2.ensures.value) ∙ sym c.item_at.ensures ∙ ap (option_map (λ i. i.now)) c.in-Some.is in
    let f = there c.self.inside.items.items _ c.args.place c.ends_passed-index.result c.in-Some.item.now is c.self.invariant.1 c.requires c.ends_passed-index.ensures.passed c.ends_passed-index.ensures.ahead at in
    nonzero c.in-Some.item.now.head c.in-Repeat.field-0 _ c.in-Some.item.now.body c.len.result c.in-Repeat.is f.1 c.len.ensures

pub at-requires : goal.at-requires
at-requires t c =
    let is = c.deref.ensures.value ∙ c.self.invariant.0 in
    let at = ap (λ is. slice_get is c.ends_passed-index.result) (sym c.deref-2.ensures.value) ∙ sym c.item_at.ensures ∙ ap (option_map (λ i. i.now)) c.in-Some.is in
    let f = there c.self.inside.items.items _ c.args.place c.ends_passed-index.result c.in-Some.item.now is c.self.invariant.1 c.requires c.ends_passed-index.ensures.passed c.ends_passed-index.ensures.ahead at in
    let some : 0 < c.len.result = nonzero c.in-Some.item.now.head c.in-Repeat.field-0 _ c.in-Some.item.now.body c.len.result c.in-Repeat.is f.1 c.len.ensures in
    let inner : size c.in-Some.item.now.body < size c.args.self.now = subst (λ b. depth c.in-Some.item.now.body < depth b) c.self.view_is (inner_falls c.self.inside.items.items c.ends_passed-index.result c.in-Some.item.now at) in
    omega (arith, inner, c.len.ensures, mod-lt (c.args.place - c.start_of.result) some)

pub returns-in-Repeat-clause-act : goal.returns-in-Repeat-clause-act
returns-in-Repeat-clause-act t c =
    let is = c.deref.ensures.value ∙ c.self.invariant.0 in
    let at = ap (λ is. slice_get is c.ends_passed-index.result) (sym c.deref-2.ensures.value) ∙ sym c.item_at.ensures ∙ ap (option_map (λ i. i.now)) c.in-Some.is in
    let f = there c.self.inside.items.items _ c.args.place c.ends_passed-index.result c.in-Some.item.now is c.self.invariant.1 c.requires c.ends_passed-index.ensures.passed c.ends_passed-index.ensures.ahead at in
    let start : start_of 0 c.ends_passed-index.result c.deref.result.now ≡ c.start_of.result =
    ap (start_of 0 c.ends_passed-index.result) (c.deref.ensures.value ∙ sym c.deref-3.ensures.value) ∙ sym c.start_of.ensures
    in
    let seen : slice_get (flat c.args.self.now) c.args.place ≡ slice_get (written c.in-Some.item.now.head c.in-Some.item.now.body (flat c.in-Some.item.now.body)) (c.args.place - c.start_of.result) =
    ap (λ b. slice_get (flat b) c.args.place) (sym c.self.view_is) ∙ f.2
    ∙ ap (λ s. slice_get (written c.in-Some.item.now.head c.in-Some.item.now.body (flat c.in-Some.item.now.body)) (c.args.place - s)) start
    in
    let less = subst (λ s. c.args.place - s < written_length c.in-Some.item.now.head (flat_length c.in-Some.item.now.body)) start f.1 in
    let few : c.args.place - c.start_of.result < too_many = omega (arith, c.requires) in
    c.at.ensures.act ∙ sym (seen ∙ repeat_gives c.in-Some.item.now.head c.in-Repeat.field-0 _ c.in-Some.item.now.body c.len.result c.in-Repeat.is less few c.len.ensures)

pub returns-in_default : goal.returns-in_default
returns-in_default t c =
    let is = c.deref.ensures.value ∙ c.self.invariant.0 in
    let at = ap (λ is. slice_get is c.ends_passed-index.result) (sym c.deref-2.ensures.value) ∙ sym c.item_at.ensures ∙ ap (option_map (λ i. i.now)) c.in-Some.is in
    let f = there c.self.inside.items.items _ c.args.place c.ends_passed-index.result c.in-Some.item.now is c.self.invariant.1 c.requires c.ends_passed-index.ensures.passed c.ends_passed-index.ensures.ahead at in
    let start : start_of 0 c.ends_passed-index.result c.deref.result.now ≡ c.start_of.result =
    ap (start_of 0 c.ends_passed-index.result) (c.deref.ensures.value ∙ sym c.deref-3.ensures.value) ∙ sym c.start_of.ensures
    in
    let seen : slice_get (flat c.args.self.now) c.args.place ≡ slice_get (written c.in-Some.item.now.head c.in-Some.item.now.body (flat c.in-Some.item.now.body)) (c.args.place - c.start_of.result) =
    ap (λ b. slice_get (flat b) c.args.place) (sym c.self.view_is) ∙ f.2
    ∙ ap (λ s. slice_get (written c.in-Some.item.now.head c.in-Some.item.now.body (flat c.in-Some.item.now.body)) (c.args.place - s)) start
    in
    let less = subst (λ s. c.args.place - s < written_length c.in-Some.item.now.head (flat_length c.in-Some.item.now.body)) start f.1 in
    record {
      act = sym (seen ∙ plain_at c.in-Some.item.now.head c.in-Some.item.now.body (flat c.in-Some.item.now.body) _ (flat_length c.in-Some.item.now.body) c.in_default.not-Repeat less);
      short = f.3;
    }
