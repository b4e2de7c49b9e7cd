-- What is told to be the same act is the same one.
use Rattle.std.proofs.Common.{ℕ, ◌≡◌, true, ◌&&◌, ◌==◌, List, [], ◌∷◌, Option, Some, None, refl, ap, ◌∙◌}
use Rattle.std.specs.Ordering.{int_eq}
use Rattle.std.proofs.lemmas.Bool.{and_parts, eqb-true, false≢true}
use Rattle.std.proofs.lemmas.Bool.Decides.{Decides-int_eq}
use Rattle.phase_modes.specs.declared.phased.Pair.{Pair}
use Rattle.phase_modes.specs.declared.reg.Mode.{Mode}
use Rattle.phase_modes.specs.declared.reg.Mode.TheVariants as modes
use Rattle.phase_model.specs.declared.op.Op.{Op}
use Rattle.phase_model.specs.declared.op.Op.TheVariants.{Sum, Least, Greatest}
use Rattle.phase_model.specs.declared.terms.Terms.{Terms}
use Rattle.world_model.specs.declared.event.Begun.{Begun}
use Rattle.world_model.specs.declared.event.Begun.TheVariants.{Async, Signal, Wait, Next, NextSingle, Shut, End}
use Rattle.world_model.specs.declared.event.Tried.{Tried}
use Rattle.world_model.specs.declared.event.Tried.TheVariants.{Begun as Beginning, New, Open, Send as Sending, Look as Looking}
use Rattle.world_model.specs.Continuing.{same_mode, same_number}
use Rattle.trace_walk.specs.Follows.{same_act, same_begun, same_op, same_ops, same_pairs, same_terms}

mode_is : (m n : Mode) → same_mode m n ≡ true → m ≡ n
mode_is modes.Sig modes.Sig k = refl
mode_is modes.Wait modes.Wait k = refl
mode_is modes.SigWait modes.SigWait k = refl
mode_is modes.Single modes.Single k = refl
mode_is m n k = absurd cc

op_is : (x y : Op) → same_op x y ≡ true → x ≡ y
op_is Sum Sum k = refl
op_is Least Least k = refl
op_is Greatest Greatest k = refl
op_is x y k = absurd cc

ops_are : (xs ys : List Op) → same_ops xs ys ≡ true → xs ≡ ys
ops_are [] [] k = refl
ops_are (x ∷ xs) (y ∷ ys) k =
    let parts = and_parts (same_op x y) (same_ops xs ys) k in
    ap (λ z. z ∷ xs) (op_is x y parts.0) ∙ ap (λ zs. y ∷ zs) (ops_are xs ys parts.1)
ops_are [] (y ∷ ys) k = absurd (false≢true k)
ops_are (x ∷ xs) [] k = absurd (false≢true k)

number_is : (x y : Option ℕ) → same_number x y ≡ true → x ≡ y
number_is None None k = refl
number_is (Some n) (Some m) k = ap (λ i. Some i) (eqb-true n m k)
number_is None (Some m) k = absurd (false≢true k)
number_is (Some n) None k = absurd (false≢true k)

terms_are : (x y : Terms) → same_terms x y ≡ true → x ≡ y
terms_are x y k =
    let parts = and_parts (same_ops x.ops y.ops) (same_number x.bound y.bound) k in
    ap (λ os. record { ops = os; bound = x.bound }) (ops_are x.ops y.ops parts.0)
    ∙ ap (λ b. record { ops = y.ops; bound = b }) (number_is x.bound y.bound parts.1)

pair_is : (x y : Pair) → x.phaser ≡ y.phaser → x.mode ≡ y.mode → x ≡ y
pair_is x y p m = ap (λ n. record { phaser = n; mode = x.mode }) p ∙ ap (λ o. record { phaser = y.phaser; mode = o }) m

pairs_are : (xs ys : List Pair) → same_pairs xs ys ≡ true → xs ≡ ys
pairs_are [] [] k = refl
pairs_are (x ∷ xs) (y ∷ ys) k =
    let parts = and_parts (x.phaser == y.phaser && same_mode x.mode y.mode) (same_pairs xs ys) k in
    let first = and_parts (x.phaser == y.phaser) (same_mode x.mode y.mode) parts.0 in
    ap (λ z. z ∷ xs) (pair_is x y (eqb-true x.phaser y.phaser first.0) (mode_is x.mode y.mode first.1))
    ∙ ap (λ zs. y ∷ zs) (pairs_are xs ys parts.1)
pairs_are [] (y ∷ ys) k = absurd (false≢true k)
pairs_are (x ∷ xs) [] k = absurd (false≢true k)

begun_is : (b c : Begun) → same_begun b c ≡ true → b ≡ c
begun_is (Async c xs) (Async d ys) k =
    let parts = and_parts (c == d) (same_pairs xs ys) k in
    ap (λ n. Async n xs) (eqb-true c d parts.0) ∙ ap (λ zs. Async d zs) (pairs_are xs ys parts.1)
begun_is Signal Signal k = refl
begun_is Wait Wait k = refl
begun_is Next Next k = refl
begun_is (NextSingle n) (NextSingle m) k = ap NextSingle (eqb-true n m k)
begun_is Shut Shut k = refl
begun_is End End k = refl
begun_is b c k = absurd cc

pub act_is : (a b : Tried) → same_act a b ≡ true → a ≡ b
act_is (Beginning b) (Beginning c) k = ap Beginning (begun_is b c k)
act_is (New n m terms) (New i o others) k =
    let parts = and_parts (n == i && same_mode m o) (same_terms terms others) k in
    let first = and_parts (n == i) (same_mode m o) parts.0 in
    ap (λ x. New x m terms) (eqb-true n i first.0)
    ∙ (ap (λ x. New i x terms) (mode_is m o first.1) ∙ ap (λ x. New i o x) (terms_are terms others parts.1))
act_is (Open f) (Open g) k = ap Open (eqb-true f g k)
act_is (Sending n a v) (Sending m b u) k =
    let parts = and_parts (n == m && a == b) (int_eq v u) k in
    let first = and_parts (n == m) (a == b) parts.0 in
    ap (λ x. Sending x a v) (eqb-true n m first.0)
    ∙ (ap (λ x. Sending m x v) (eqb-true a b first.1) ∙ ap (λ x. Sending m b x) ((Decides-int_eq v u).0 parts.1))
act_is (Looking n a) (Looking m b) k =
    let parts = and_parts (n == m) (a == b) k in
    ap (λ x. Looking x a) (eqb-true n m parts.0) ∙ ap (λ x. Looking m x) (eqb-true a b parts.1)
act_is a b k = absurd cc
