use Rattle.std.proofs.Common.{◌≡◌, ℕ, ◌<◌, ◌≤◌, nat_lt, nat_le, ◌&&◌, true, List, Option, Some, None, is_some, IfSome, length, slice_get, refl, ap, ◌∙◌, sym, subst, ℤ, arith}
use Rattle.std.specs.Option.{option_map}
use Rattle.std.proofs.lemmas.Bool.{and_parts, and_from, ltb-true, leb-true, lt-ltb, le-leb}
use Rattle.phase_model.specs.declared.op.Op.{Op}
use Rattle.phase_model.specs.declared.op.Look.{Look}
use Rattle.phase_model.specs.Phases.{is_closed}
use Rattle.phase_model.specs.Values.{sent, fold}
use Rattle.phase_model.proofs.Closing.{signalled_from_closed}
use Rattle.acc_cells.specs.Cells.{Kept, IsInReach}
use Rattle.acc_cells.proofs.Standing.{reach_more}
use Rattle.phaser_engine.specs.Lazy.{folded}
use Rattle.phaser_engine.specs.Phaser.{Working}
use Rattle.phaser_engine.specs.Window.{is_needed}
use Rattle.phaser_engine.proofs.Lazy.{same_folds, folds_as_sent}
use Rattle.phaser_engine.proofs.Rooms.{past_within}
use Rattle.phaser_engine.proofs.Window.{needed_kept}
use Rattle.phaser_engine.proofs.state.Engine.fold_at.Goals as goal

-- more values reach further
reach_all : (o : Option (Look ℤ)) (m n : ℕ) → m ≤ n → IfSome o (λ x. IsInReach m x) → IfSome o (λ x. IsInReach n x)
reach_all None m n more near = tt
reach_all (Some x) m n more near = reach_more m n x more near

if_some : (o : Option (Look ℤ)) (P : Look ℤ → Type 0) → ((x : Look ℤ) → o ≡ Some x → P x) → IfSome o P
if_some None P k = tt
if_some (Some x) P k = k x refl

-- what the test of a cell says
record IsCell (k : Kept) (a p : ℕ) : Type 0 where
  accumulator : a < length k.ops
  kept : k.from ≤ p

cell_of : (k : Kept) (a p : ℕ) (o : Option (Look ℤ)) (x : Look ℤ)
    → is_some o ≡ (nat_lt a (length k.ops) && nat_le k.from p) → o ≡ Some x
    → IsCell k a p
cell_of k a p o x within is =
    let all = and_parts (nat_lt a (length k.ops)) (nat_le k.from p) (sym within ∙ ap (λ y. is_some y) is) in
    record {
      accumulator = ltb-true a (length k.ops) all.0;
      kept = leb-true k.from p all.1;
    }

pub returns-clause-accumulator : goal.returns-clause-accumulator
returns-clause-accumulator c =
    let k = c.self.inside.cells in
    let a = c.args.accumulator in
    let o = c.fold_at.result in
    subst (λ (v : Working). IfSome o (λ x. a < length v.story.terms.ops)) c.self.view_is
    (if_some o (λ x. a < length c.self.inside.history.terms.ops)
    (λ x is. subst (λ (os : List Op). a < length os) c.self.invariant.folds.ops
    (cell_of k a c.args.phase o x c.fold_at.ensures.within is).accumulator))

pub returns-clause-kept : goal.returns-clause-kept
returns-clause-kept c =
    let s = c.self.inside.history in
    let k = c.self.inside.cells in
    let f = c.self.invariant.folds in
    let a = c.args.accumulator in
    let n = c.args.phase in
    subst (λ (v : Working). a < length v.story.terms.ops → n < v.story.limits.history
    → is_needed n v.story.past ≡ true → is_some c.fold_at.result ≡ true) c.self.view_is
    (λ known early needed.
    let here : nat_lt a (length k.ops) ≡ true =
    lt-ltb a (length k.ops) (subst (λ (os : List Op). a < length os) (sym f.ops) known) in
    let kept : nat_le k.from n ≡ true =
    le-leb k.from n (needed_kept k.from s.past n c.self.invariant.window needed) in
    c.fold_at.ensures.within
    ∙ and_from (nat_lt a (length k.ops)) (nat_le k.from n) here kept)

pub returns-clause-fold : goal.returns-clause-fold
returns-clause-fold c =
    let s = c.self.inside.history in
    let k = c.self.inside.cells in
    let f = c.self.invariant.folds in
    let a = c.args.accumulator in
    let n = c.args.phase in
    let o = c.fold_at.result in
    subst (λ (v : Working). IfSome o
    (λ x. is_closed n v.story.past ≡ true
    → Some x ≡ option_map (λ op. fold op (sent a n v.story.past)) (slice_get v.story.terms.ops a)))
    c.self.view_is
    (if_some o (λ x. is_closed n s.past ≡ true
    → Some x ≡ option_map (λ op. fold op (sent a n s.past)) (slice_get s.terms.ops a))
    (λ x is closed.
    let cell = cell_of k a n o x c.fold_at.ensures.within is in
    sym is
    ∙ (c.fold_at.ensures.value (λ b q. folded b q s.past) f.cells cell.kept
    ∙ (ap (λ (os : List Op). option_map (λ op. fold op (folded a n s.past)) (slice_get os a)) f.ops
    ∙ same_folds (λ op. fold op (folded a n s.past)) (λ op. fold op (sent a n s.past)) (slice_get s.terms.ops a)
    (folds_as_sent s.limits s.terms s.past c.self.invariant.stands.legal n
    (signalled_from_closed n s.past closed) a)))))

pub returns-clause-reach : goal.returns-clause-reach
returns-clause-reach c =
    let s = c.self.inside.history in
    let k = c.self.inside.cells in
    let f = c.self.invariant.folds in
    subst (λ (v : Working). IfSome c.fold_at.result (λ x. IsInReach v.story.limits.history x)) c.self.view_is
    (reach_all c.fold_at.result k.sums.values s.limits.history
    (omega (arith, f.few, past_within s.limits s.terms s.past c.self.invariant.stands.legal))
    c.fold_at.ensures.near)
