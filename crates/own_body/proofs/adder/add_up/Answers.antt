use Rattle.std.proofs.Common.{ℕ, ◌≡◌, ◌<◌, true, None, refl, sym, ap, subst, ◌∙◌, arith}
use Rattle.std.specs.Prelude.{ℤ}
use Rattle.std.proofs.lemmas.Bool.{true≢false}
use Rattle.phase_modes.specs.Limits.{default_limits}
use Rattle.phase_modes.specs.declared.limits.Limits.{Limits}
use Rattle.phase_modes.specs.declared.reg.Mode.{Mode}
use Rattle.phase_model.specs.declared.op.Look.{Look}
use Rattle.phase_model.specs.declared.op.Look.TheVariants.{Nothing}
use Rattle.phase_model.specs.declared.terms.Terms.{Terms}
use Rattle.phase_model.specs.Rules.{Story}
use Rattle.trace_model.proofs.Legal.{explained_legal}
use Rattle.tasks_in_flight.specs.Heard.{nothing, make, look, next, ends, at_start}
use Rattle.tasks_in_flight.specs.Said.{Saying}
use Rattle.phased_rt.specs.Says.{SaysOfTrace, SaysOfEach}
use Rattle.own_body.specs.declared.adder.Adder.{Adder}
use Rattle.own_body.specs.declared.adder.Next.TheVariants.{Makes, Looks, Hears}
use Rattle.own_body.specs.declared.counts.Counts.{Counts}
use Rattle.own_body.specs.Sums.{IsSeen, HasLookedOnce}
use Rattle.own_body.specs.Turns.{none, AreCounted, TakesNone}
use Rattle.own_body.proofs.Sums.{says_sum, each_has_seen, says_turns, says_children}
use Rattle.own_body.proofs.Turns.{counted_at_first}
use Rattle.own_body.proofs.adder.add_up.Goals as goal

apart : Makes ≡ Hears → ⊥
apart same = cc

apart_too : Makes ≡ Looks → ⊥
apart_too same = cc

unasked : nothing ≡ ends → ⊥
unasked same = cc

-- what a task says
abbrev Says : Saying Adder
Says b task asked seen =
    IsSeen (seen.own 0) (seen.stories 0) b.saw
    × (b.next ≡ Hears → asked ≡ look 0 0)
    × (asked ≡ ends → HasLookedOnce (seen.own 0) (seen.stories 0))
    × AreCounted task b.counts seen
    × (b.next ≡ Looks → asked ≡ next None)
    × (b.counts.holds ≡ true → TakesNone asked)
    × (b.next ≡ Makes → b.saw ≡ Nothing)
    × ((mode : Mode) (terms : Terms) → asked ≡ make mode terms → b.saw ≡ Nothing)

some : (l : Limits) → l ≡ default_limits → 0 < l.phasers
some l same =
    let few : 0 < 64 = omega arith in
    subst (λ (m : Limits). 0 < m.phasers) (sym same) few

-- what the root saw before its first act
abbrev unseen : Look ℤ
unseen = Nothing

-- before its first act the root has seen no sum, and counted nothing
at_first : (counts : Counts) → counts ≡ none → (stories : ℕ → Story)
    → IsSeen 0 (stories 0) unseen
    × (Makes ≡ Hears → nothing ≡ look 0 0)
    × (nothing ≡ ends → HasLookedOnce 0 (stories 0))
    × AreCounted 0 counts (at_start (λ n. 0) stories)
    × (Makes ≡ Looks → nothing ≡ next None)
    × (counts.holds ≡ true → TakesNone nothing)
    × (Makes ≡ Makes → unseen ≡ Nothing)
    × ((mode : Mode) (terms : Terms) → nothing ≡ make mode terms → unseen ≡ Nothing)
at_first counts uncounted stories = (
  tt,
  (λ hears. absurd (apart hears)),
  (λ end. absurd (unasked end)),
  counted_at_first 0 counts (at_start (λ n. 0) stories) uncounted,
  (λ looks. absurd (apart_too looks)),
  (λ held. absurd (true≢false (sym held ∙ ap (λ (x : Counts). x.holds) uncounted))),
  (λ makes. refl),
  λ mode terms asks. refl,
)

pub returns : goal.returns
returns g c =
    let report = c.in_ok-report.report in
    let told = c.in_ok-report.ensures in
    let says : SaysOfTrace Says report.trace.limits report.trace.events report.root =
    subst (λ (l : Limits). SaysOfTrace Says l report.trace.events report.root) (sym told.limits)
    (told.says (at_first c.none.result c.none.ensures)) in
    let each : SaysOfEach Says report.trace.limits report.trace.events =
    subst (λ (l : Limits). SaysOfEach Says l report.trace.events) (sym told.limits)
    (told.each (at_first c.none.result c.none.ensures)) in
    let legal = explained_legal report.trace told.explained in
    let any = some report.trace.limits (told.limits ∙ c.default.ensures) in
    record {
      sum = says_sum (λ (b : Adder). b.saw) Says report.trace.limits report.trace.events report.root
          (λ b task asked seen shows. shows.0) legal any says;
      turns = says_turns (λ (b : Adder). b.counts.turns) Says report.trace.limits report.trace.events report.root
          (λ b task asked seen shows. shows.3.0) any says;
      children = says_children (λ (b : Adder). b.counts.children) Says report.trace.limits report.trace.events report.root
          (λ b task asked seen shows. shows.3.1) says;
      each = each_has_seen Says report.trace.limits report.trace.events (λ b task seen shows. shows.2 refl) legal any each;
    }
