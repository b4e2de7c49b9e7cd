-- A sum that was seen stays seen, and is the fold of all in a legal history.
use Rattle.std.proofs.Common.{◌≡◌, ℕ, true, List, [], ◌∷◌, ◌++◌, Option, Some, None, Result, Ok, Err, IfOk, refl, sym, ap, subst, ◌∙◌}
use Rattle.std.specs.Prelude.{ℤ}
use Rattle.std.proofs.lemmas.List.{append_assoc}
use Rattle.std.proofs.Math.Logic.{∥∥₁_map}
use Rattle.phase_modes.specs.declared.refusal.Refusal.{Refusal}
use Rattle.phase_model.specs.declared.history.Event.{Event}
use Rattle.phase_model.specs.declared.history.Event.TheVariants.{Look as Looked}
use Rattle.phase_model.specs.declared.op.Look.{Look}
use Rattle.phase_model.specs.declared.op.Look.TheVariants.{Value, Nothing}
use Rattle.phase_model.specs.declared.op.Op.{Op}
use Rattle.phase_model.specs.declared.terms.Terms.{Terms}
use Rattle.phase_model.specs.Rules.{is_legal}
use Rattle.world_model.proofs.PhasersFolded.{legal_is_folded}
use Rattle.told_history.specs.declared.wide.LongEvent.{LongEvent}
use Rattle.told_history.specs.Tails.{IsTail}
use Rattle.told_history.specs.Wide.{event_of}
use Rattle.phaser_core.specs.LongLife.{long_limits}
use Rattle.long_locks.specs.Crews.{AreSeen}
use Rattle.long_locks.specs.Events.{with_one}
use Rattle.long_locks.specs.Told.{HasLooked}
use Rattle.example_crew.specs.declared.barrier.Tally.{Tally}
use Rattle.example_crew.specs.Sums.{IsSeen, IsSum, AreSums}

pub farther : (a b c : List Event) → IsTail a b → IsTail b c → IsTail a c
farther a b c more most = (most.0 ++ more.0, most.1 ∙ (ap (λ h. most.0 ++ h) more.1 ∙ sym (append_assoc most.0 more.0 a)))

grown : (o : Option LongEvent) (h : List Event) → IsTail h (with_one o h)
grown None h = ([], refl)
grown (Some e) h = (event_of e ∷ [], refl)

-- a call came after all that was seen, and its event is the newest since
pub called : (o : Option LongEvent) (seen before now : List Event) → IsTail seen before → now ≡ with_one o before → IsTail seen now
called o seen before now tail added =
    let one = grown o before in
    farther seen before now tail (one.0, added ∙ one.1)

pub called_from : (o : Option LongEvent) (first seen before now : List Event) → seen ≡ first → IsTail seen before → now ≡ with_one o before
    → IsTail first now
called_from o first seen before now is tail added = called o first before now (subst (λ (h : List Event). IsTail h before) is tail) added

-- it is still seen in a history that goes on
pub still_seen : (a b : List Event) (x : Look ℤ) → IsTail a b → IsSeen a x → IsSeen b x
still_seen a b Nothing more seen = tt
still_seen a b (Value v) more seen =
    let e = Looked seen.0 0 (Value v) in (
      seen.0,
      more.0 ++ seen.1,
      seen.2,
      more.1 ∙ (ap (λ h. more.0 ++ h) seen.3 ∙ sym (append_assoc more.0 seen.1 (e ∷ seen.2))),
    )

-- a look saw it just now
looked_at : (ops : List Op) (t : ℕ) (h : List Event) (x : Look ℤ) → HasLooked ops t 0 h x → IsSeen h x
looked_at ops t h Nothing looked = tt
looked_at ops t h (Value v) looked = (t, [], looked.0, looked.1)

pub looked : (ops : List Op) (t : ℕ) (h : List Event) (r : Result (Look ℤ) Refusal) → IfOk r (λ x. HasLooked ops t 0 h x) → IfOk r (λ x. IsSeen h x)
looked ops t h (Ok x) seen = looked_at ops t h x seen
looked ops t h (Err e) seen = tt

-- what is seen in a legal history is the fold of all values of a closed phase
seen_is_sum : (t : Terms) (h : List Event) (x : Look ℤ) → is_legal long_limits t h ≡ true → IsSeen h x → IsSum t.ops h x
seen_is_sum t h Nothing legal seen = tt
seen_is_sum t h (Value v) legal seen =
    let r = (legal_is_folded long_limits t h legal).seen seen.1 seen.2 seen.0 0 (Value v) seen.3 in
    (seen.0, seen.1, seen.2, seen.3, r.1, r.0)

given_is_sum : (t : Terms) (a h : List Event) (x : Result Tally Refusal) → is_legal long_limits t h ≡ true → IsTail a h
    → IfOk x (λ tally. IsSeen a tally.last) → IfOk x (λ tally. IsSum t.ops h tally.last)
given_is_sum t a h (Ok x) legal more seen = seen_is_sum t h x.last legal (still_seen a h x.last more seen)
given_is_sum t a h (Err r) legal more seen = tt

-- so is each sum that a worker gives back
pub are_sums : (t : Terms) (given : List (Result Tally Refusal))
    → AreSeen (λ x _ seen. IfOk x (λ tally. IsSeen seen tally.last)) t given → AreSums t given
are_sums t given seen = record {
  history = seen.history;
  legal = seen.legal;
  sums = λ k d within. ∥∥₁_map (seen.shown k d within) (λ one. given_is_sum t one.0 seen.history _ seen.legal one.2 one.1);
}

pub if_ok : {X : Type 0} {E : Type 0} (r : Result X E) (P Q : X → Type 0) → ((x : X) → P x → Q x) → IfOk r P → IfOk r Q
if_ok (Ok x) P Q each p = each x p
if_ok (Err e) P Q each p = tt

pub always : {X : Type 0} {E : Type 0} (r : Result X E) (Q : X → Type 0) → ((x : X) → Q x) → IfOk r Q
always (Ok x) Q each = each x
always (Err e) Q each = tt
