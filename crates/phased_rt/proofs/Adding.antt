-- What the events of one phaser, or of all, add up to: in its history, in its part and in the trace.
use Rattle.std.proofs.Common.{◌≡◌, ℕ, ◌+◌, ◌≤◌, Bool, true, false, ◌==◌, List, [], ◌∷◌, length, map, reverse, get_or, refl, ap, sym, ◌∙◌, inl, inr, arith}
use Rattle.std.specs.Prelude.{if◌then◌else◌}
use Rattle.std.specs.List.{sum_by, range_with_len, All}
use Rattle.std.proofs.lemmas.Bool.{cases_Bool, true≢false}
use Rattle.std.proofs.lemmas.List.{length-map, length-reverse}
use Rattle.std.proofs.lemmas.List.Sums.{sum_by-cons}
use Rattle.phase_model.specs.declared.history.Event.{Event}
use Rattle.phase_model.specs.declared.history.Event.TheVariants as plain
use Rattle.phase_model.specs.declared.terms.Terms.{Terms}
use Rattle.phase_model.specs.Rules.{no_terms}
use Rattle.phase_model.specs.Amounts.{Amount, amount, plus, totals}
use Rattle.world_model.specs.declared.event.Step.{Step}
use Rattle.world_model.specs.declared.event.Step.TheVariants.{Make, Reg, Sig, Claim, Did, Pass, Send, Look, Drop}
use Rattle.world_model.specs.declared.event.WorldEvent.{WorldEvent}
use Rattle.world_model.specs.Parts.{terms_of, event_for, phaser_past}
use Rattle.trace_model.specs.declared.event.TracedEvent.{TracedEvent}
use Rattle.trace_model.specs.declared.event.TracedEvent.TheVariants.{Phaser, Finish, Begin, Refuse, Fail}
use Rattle.trace_model.specs.Run.{Entry}
use Rattle.trace_model.specs.Explained.{step_of, event_of, past}
use Rattle.trace_model.specs.Told.{step_told, phaser_told}
use Rattle.phaser_cell.specs.Telling.{IsPhaserPart, ArePhaserParts}
use Rattle.phased_rt.specs.Totals.{is_phasers}
use Rattle.phased_rt.proofs.Owned.{IsApart}
use Rattle.task_remains.proofs.Sums.{sum_map}
use Rattle.phased_rt.proofs.Sums.{sum_both, sum_same, sum_none, sum_reverse, sum_zip, sum_picked}

-- one of the three numbers of an amount
pub record IsPart (f : Amount → ℕ) : Type 0 where
  pub adds : (a b : Amount) → f (plus a b) ≡ f a + f b
  pub none : f (totals []) ≡ 0

-- what a step amounts to
abbrev step_amount : Step → Amount
step_amount s = amount (event_for no_terms [] s)

-- what an event amounts to, where it is one of a phaser whose number passes the test
abbrev pub weight : (ℕ → Bool) → TracedEvent → Amount
weight test (Phaser m s) = if test m then step_amount (step_of s) else totals []
weight test _ = totals []

-- the same by one of the three numbers
abbrev pub weigh : (Amount → ℕ) → (ℕ → Bool) → List Entry → ℕ
weigh f test es = sum_by (λ e. f (weight test e.1)) es

-- ---- in a history

same_amount : (terms : Terms) (h : List Event) (s : Step) → amount (event_for terms h s) ≡ step_amount s
same_amount terms h (Make t m o) = refl
same_amount terms h (Reg q t m) = refl
same_amount terms h (Sig t x) = refl
same_amount terms h (Claim t) = refl
same_amount terms h (Did t) = refl
same_amount terms h (Pass t) = refl
same_amount terms h (Send t a v) = refl
same_amount terms h (Look t a) = refl
same_amount terms h (Drop t) = refl

one_more : (f : Amount → ℕ) → IsPart f → (n : ℕ) (e : TracedEvent) (w : List WorldEvent)
    → f (totals (phaser_past n (event_of e ∷ w))) ≡ f (weight (λ m. m == n) e) + f (totals (phaser_past n w))
one_more f part n (Phaser m s) w =
    let rest = f (totals (phaser_past n w)) in
    elim (cases_Bool (m == n)) [
      | inl is ↦
          rw is
          (part.adds (amount (event_for (terms_of n w) (phaser_past n w) (step_of s))) (totals (phaser_past n w))
          ∙ ap (λ a. f a + rest) (same_amount (terms_of n w) (phaser_past n w) (step_of s)))
      | inr isnt ↦ rw isnt (omega (arith, part.none))
    ]
one_more f part n (Finish g e) w = omega (arith, part.none)
one_more f part n (Begin t b) w = omega (arith, part.none)
one_more f part n (Refuse t a k) w = omega (arith, part.none)
one_more f part n (Fail t k) w = omega (arith, part.none)

-- a phaser's history amounts to what its events weigh
pub past_weighs : (f : Amount → ℕ) → IsPart f → (n : ℕ) (es : List Entry)
    → f (totals (phaser_past n (past es))) ≡ weigh f (λ m. m == n) es
past_weighs f part n [] = part.none
past_weighs f part n (e ∷ es) =
    omega (arith, one_more f part n e.1 (past es), sum_by-cons (λ (x : Entry). f (weight (λ m. m == n) x.1)) e es, past_weighs f part n es)

-- ---- in a part

amount_told : (terms : Terms) (e : Event) → step_amount (step_of (step_told terms e)) ≡ amount e
amount_told terms (plain.Make t m) = refl
amount_told terms (plain.Reg q t m) = refl
amount_told terms (plain.Sig t x) = refl
amount_told terms (plain.Claim t) = refl
amount_told terms (plain.Did t) = refl
amount_told terms (plain.Pass t) = refl
amount_told terms (plain.Send t a v) = refl
amount_told terms (plain.Look t a x) = refl
amount_told terms (plain.Drop t) = refl

sum_amount : (f : Amount → ℕ) → IsPart f → (h : List Event) → sum_by (λ e. f (amount e)) h ≡ f (totals h)
sum_amount f part [] = sym part.none
sum_amount f part (e ∷ h) =
    omega (arith, sum_by-cons (λ x. f (amount x)) e h, sum_amount f part h, part.adds (amount e) (totals h))

event_weighs : (f : Amount → ℕ) (test : ℕ → Bool) (m : ℕ) (terms : Terms) (e : Event) → test m ≡ true
    → f (weight test (Phaser m (step_told terms e))) ≡ f (amount e)
event_weighs f test m terms e is = rw is (ap f (amount_told terms e))

event_weighs_none : (f : Amount → ℕ) → IsPart f → (test : ℕ → Bool) (m : ℕ) (terms : Terms) (e : Event) → test m ≡ false
    → f (weight test (Phaser m (step_told terms e))) ≡ 0
event_weighs_none f part test m terms e isnt = rw isnt part.none

history_weighs : (f : Amount → ℕ) → IsPart f → (test : ℕ → Bool) (m : ℕ) (terms : Terms) (h : List Event)
    → sum_by (λ e. f (weight test (Phaser m (step_told terms e)))) h ≡ (if test m then f (totals h) else 0)
history_weighs f part test m terms h =
    let each : Event → ℕ = λ e. f (weight test (Phaser m (step_told terms e))) in
    elim (cases_Bool (test m)) [
      | inl is ↦
          let all : sum_by each h ≡ f (totals h) = sum_same each (λ e. f (amount e)) h (λ e. event_weighs f test m terms e is) ∙ sum_amount f part h in
          all ∙ rw is refl
      | inr isnt ↦
          let all : sum_by each h ≡ 0 = sum_none each h (λ k d lt. event_weighs_none f part test m terms (get_or h k d) isnt) in
          all ∙ rw isnt refl
    ]

-- a phaser's part weighs what its history amounts to, or nothing
pub part_weighs : (f : Amount → ℕ) → IsPart f → (test : ℕ → Bool) (m : ℕ) (p : List Entry) (a : Amount) → IsPhaserPart m p a
    → weigh f test p ≡ (if test m then f a else 0)
part_weighs f part test m p a is =
    let s = is.story in
    let tell : Event → TracedEvent = λ e. Phaser m (step_told s.terms e) in
    let long : length is.tickets ≡ length (map tell (reverse s.past)) =
    omega (arith, is.drawn, length-map (reverse s.past) tell, length-reverse s.past)
    in
    let told : weigh f test p ≡ weigh f test (phaser_told m s is.tickets) = ap (λ (es : List Entry). weigh f test es) is.told in
    told
    ∙ (sum_zip (λ v. f (weight test v)) is.tickets (map tell (reverse s.past)) long
    ∙ (sum_map (λ v. f (weight test v)) tell (reverse s.past)
    ∙ (sum_reverse (λ e. f (weight test (tell e))) s.past
    ∙ (history_weighs f part test m s.terms s.past
    ∙ ap (λ (x : Amount). if test m then f x else 0) (sym is.posted)))))

-- ---- in all parts

-- phaser by phaser
pub parts_weigh : (f : Amount → ℕ) → IsPart f → (all k : ℕ) (ps : List (List Entry)) (sums : List Amount) → ArePhaserParts k ps sums → k + length ps ≤ all
    → sum_by (λ n. sum_by (λ p. weigh f (λ m. m == n) p) ps) (range_with_len 0 all) ≡ sum_by f sums
parts_weigh f part all k [] [] are few = sum_none (λ n. sum_by (λ p. weigh f (λ m. m == n) p) []) (range_with_len 0 all) (λ j d lt. refl)
parts_weigh f part all k (p ∷ ps) (a ∷ sums) are few =
    let numbers = range_with_len 0 all in
    let first : ℕ → ℕ = λ n. weigh f (λ m. m == n) p in
    let rest : ℕ → ℕ = λ n. sum_by (λ q. weigh f (λ m. m == n) q) ps in
    let parted : sum_by (λ n. sum_by (λ q. weigh f (λ m. m == n) q) (p ∷ ps)) numbers ≡ sum_by (λ n. first n + rest n) numbers =
    sum_same (λ n. sum_by (λ q. weigh f (λ m. m == n) q) (p ∷ ps)) (λ n. first n + rest n) numbers
    (λ n. sum_by-cons (λ q. weigh f (λ m. m == n) q) p ps)
    in
    let one : sum_by first numbers ≡ f a =
    sum_same first (λ n. if k == n then f a else 0) numbers (λ n. part_weighs f part (λ m. m == n) k p a are.0)
    ∙ sum_picked (f a) k 0 all (omega arith) (omega arith)
    in
    let others : sum_by rest numbers ≡ sum_by f sums = parts_weigh f part all (k + 1) ps sums are.1 (omega arith) in
    omega (arith, parted, sum_both first rest numbers, one, others, sum_by-cons f a sums)
parts_weigh f part all k [] (a ∷ sums) are few = absurd are
parts_weigh f part all k (p ∷ ps) [] are few = absurd are

-- of all phasers at once
pub all_weigh : (f : Amount → ℕ) → IsPart f → (k : ℕ) (ps : List (List Entry)) (sums : List Amount) → ArePhaserParts k ps sums
    → sum_by (λ p. weigh f (λ m. true) p) ps ≡ sum_by f sums
all_weigh f part k [] [] are = refl
all_weigh f part k (p ∷ ps) (a ∷ sums) are =
    omega (arith, sum_by-cons (λ q. weigh f (λ m. true) q) p ps, sum_by-cons f a sums, part_weighs f part (λ m. true) k p a are.0, all_weigh f part (k + 1) ps sums are.1)
all_weigh f part k [] (a ∷ sums) are = absurd are
all_weigh f part k (p ∷ ps) [] are = absurd are

-- ---- elsewhere

apart_weighs : (f : Amount → ℕ) → IsPart f → (test : ℕ → Bool) (e : TracedEvent) → is_phasers e ≡ false → f (weight test e) ≡ 0
apart_weighs f part test (Phaser m s) isnt = absurd (true≢false isnt)
apart_weighs f part test (Finish g e) isnt = part.none
apart_weighs f part test (Begin t b) isnt = part.none
apart_weighs f part test (Refuse t a k) isnt = part.none
apart_weighs f part test (Fail t k) isnt = part.none

-- entries of no phaser weigh nothing
pub others_weigh : (f : Amount → ℕ) → IsPart f → (test : ℕ → Bool) (ps : List (List Entry)) → All (λ p. IsApart p) ps
    → sum_by (λ p. weigh f test p) ps ≡ 0
others_weigh f part test ps apart =
    sum_none (λ p. weigh f test p) ps
    (λ k d lt. sum_none (λ (e : Entry). f (weight test e.1)) (get_or ps k d)
    (λ j e below. apart_weighs f part test (get_or (get_or ps k d) j e).1 (apart k d lt j e below)))
