-- What the clock law needs of each event.
use Rattle.phase_modes.specs.Lists.{is_empty}
use Rattle.std.proofs.Common.{◌≡◌, ℕ, ◌+◌, Bool, true, false, ◌&&◌, ◌||◌, ◌==◌, not, cond, List, [], ◌∷◌, Option, refl, sym, subst, ap, ◌∙◌, inl, inr}
use Rattle.std.specs.Prelude.{drop}
use Rattle.std.specs.List.{list_any}
use Rattle.std.proofs.lemmas.Bool.{and_parts, cases_Bool, eqb-true, true≢false, false_from_ne_true}
use Rattle.phase_modes.specs.declared.limits.Limits.{Limits}
use Rattle.phase_model.specs.declared.history.Event.TheVariants.{Claim as Claimed, Did as Done}
use Rattle.phase_model.specs.Phases.{waits}
use Rattle.phase_model.specs.Rules.{is_permitted}
use Rattle.world_model.specs.declared.event.Step.TheVariants.{Sig, Claim, Did, Pass}
use Rattle.world_model.specs.declared.event.WorldEvent.{WorldEvent}
use Rattle.world_model.specs.declared.event.WorldEvent.TheVariants.{Phaser}
use Rattle.world_model.specs.Parts.{terms_of, phaser_past}
use Rattle.world_model.specs.Actors.{actor}
use Rattle.world_model.specs.Due.{due, is_entry, is_of_single, is_idle, or_single}
use Rattle.world_model.specs.Clock.{clock, base}
use Rattle.world_model.specs.TaskConditions.{last_entry}
use Rattle.world_model.specs.ClockLaws.{has_passed, begins_turn, is_pass_on}
use Rattle.world_model.proofs.MadeMeans.{IsNext}
use Rattle.world_model.proofs.OthersLeave.{due_other, last_other, last_plain, due_own}
use Rattle.world_model.proofs.NextIsDue.{First, first_due}
use Rattle.world_model.proofs.TurnEndsInPass.{is_pass, is_sig, is_turn_list, due_turn}
use Rattle.world_model.proofs.ClockAfterPass.{ClockLaw}
use Rattle.world_model.proofs.AbruptEnds.{nothing_due}
use Rattle.world_model.proofs.SmallWords.{empty_is}

-- the law moves where none of its parts changes
pub moved : (t n : ℕ) (e : WorldEvent) (w : List WorldEvent)
    → waits t (phaser_past n (e ∷ w)) ≡ waits t (phaser_past n w) → base n (e ∷ w) ≡ base n w
    → clock t (e ∷ w) ≡ clock t w → has_passed t n (e ∷ w) ≡ has_passed t n w
    → ClockLaw t n w → ClockLaw t n (e ∷ w)
moved t n e w a b c p k = rw (a, b, c) (k ∙ ap (λ x. clock t w + cond x 1 0) (sym p))

abbrev of_due : ℕ → Option WorldEvent → List WorldEvent → Bool
of_due n o ds = begins_turn o && not (is_empty ds) && not (list_any (is_pass_on n) ds)

pub passed_by : (t n : ℕ) (e : WorldEvent) (w : List WorldEvent) → last_entry t (e ∷ w) ≡ last_entry t w
    → due t (e ∷ w) ≡ due t w → has_passed t n (e ∷ w) ≡ has_passed t n w
passed_by t n e w a b = ap (λ o. of_due n o (due t (e ∷ w))) a ∙ ap (of_due n (last_entry t w)) b

-- another task's event
pub passed_other : (t n : ℕ) (e : WorldEvent) (w : List WorldEvent) → (actor w e == t) ≡ false
    → has_passed t n (e ∷ w) ≡ has_passed t n w
passed_other t n e w k = passed_by t n e w (last_other t e w k) (due_other t e w k)

-- an event that is no entry, outside a turn
pub passed_no_turn : (t n : ℕ) (e : WorldEvent) (w : List WorldEvent) → is_entry t e ≡ false
    → begins_turn (last_entry t w) ≡ false → has_passed t n (e ∷ w) ≡ has_passed t n w
passed_no_turn t n e w k s = rw (k, s) refl

-- an event in an idle moment of its task
pub due_idle : (t : ℕ) (e : WorldEvent) (w : List WorldEvent) → is_entry t e ≡ false → is_of_single e ≡ false
    → is_idle (actor w e) w ≡ true → due t (e ∷ w) ≡ due t w
due_idle t e w k s i =
    elim (cases_Bool (actor w e == t)) [
      | inl m ↦
          let none : due t w ≡ [] =
          empty_is (due t w)
          (nothing_due t w (subst (λ v. is_idle v w ≡ true) (eqb-true (actor w e) t m) i)).0 in
          due_own t e w k m s ∙ (ap (λ ds. drop 1 ds) none ∙ sym none)
      | inr m ↦ due_other t e w m
    ]

pub passed_idle : (t n : ℕ) (e : WorldEvent) (w : List WorldEvent) → is_entry t e ≡ false
    → is_of_single e ≡ false → is_idle (actor w e) w ≡ true → has_passed t n (e ∷ w) ≡ has_passed t n w
passed_idle t n e w k s i = passed_by t n e w (last_plain t e w k) (due_idle t e w k s i)

-- a claim and its report
pub passed_single : (t n : ℕ) (e : WorldEvent) (w : List WorldEvent) → is_entry t e ≡ false
    → is_of_single e ≡ true → has_passed t n (e ∷ w) ≡ has_passed t n w
passed_single t n e w k s =
    passed_by t n e w (last_plain t e w k)
    (rw (k, s) (elim (actor w e == t) as (λ b. cond (b && false) (drop 1 (due t w)) (due t w) ≡ due t w) [
      | true ↦ refl
      | false ↦ refl
    ]))

-- the events of a turn
abbrev pub is_turn_event : WorldEvent → Bool
is_turn_event (Phaser n (Sig t x)) = true
is_turn_event (Phaser n (Claim t)) = true
is_turn_event (Phaser n (Did t)) = true
is_turn_event (Phaser n (Pass t)) = true
is_turn_event _ = false

single_or_pass : (b c : Bool) (n t : ℕ)
    → is_turn_event (cond b (Phaser n (Claim t)) (cond c (Phaser n (Did t)) (Phaser n (Pass t)))) ≡ true
single_or_pass true c n t = refl
single_or_pass false true n t = refl
single_or_pass false false n t = refl

turn_stands : (l : Limits) (w : List WorldEvent) (t : ℕ) (d : WorldEvent) (b : Bool)
    → (is_pass t d || (is_sig t d && b)) ≡ true → is_turn_event (or_single l w d) ≡ true
turn_stands l w t (Phaser n (Pass u)) b k =
    single_or_pass (is_permitted l (terms_of n w) (phaser_past n w) (Claimed u))
    (is_permitted l (terms_of n w) (phaser_past n w) (Done u)) n u
turn_stands l w t (Phaser n (Sig u x)) b k = refl
turn_stands l w t d b k = absurd cc

-- an event that continues an act and is none of a turn's comes outside a turn
pub no_turn : (l : Limits) (w : List WorldEvent) (e : WorldEvent) → IsNext l w e → is_turn_event e ≡ false
    → begins_turn (last_entry (actor w e) w) ≡ false
no_turn l w e k s =
    false_from_ne_true (begins_turn (last_entry (actor w e) w)) (λ q.
    let first : First l w (due (actor w e) w) e = first_due l w e k in
    let shape : is_turn_list (actor w e) (first.due ∷ first.rest) ≡ true =
    subst (λ ds. is_turn_list (actor w e) ds ≡ true) first.is (due_turn (actor w e) w q) in
    let h =
    (and_parts
    (is_pass (actor w e) first.due || (is_sig (actor w e) first.due && not (is_empty first.rest)))
    (is_turn_list (actor w e) first.rest) shape).0 in
    absurd (true≢false (sym (subst (λ d. is_turn_event d ≡ true) first.stands
    (turn_stands l w (actor w e) first.due (not (is_empty first.rest)) h)) ∙ s)))

-- a part of an act that is no turn leaves what was passed
pub passed_part : (l : Limits) (t n : ℕ) (e : WorldEvent) (w : List WorldEvent) → is_entry t e ≡ false
    → IsNext l w e → is_turn_event e ≡ false → has_passed t n (e ∷ w) ≡ has_passed t n w
passed_part l t n e w k x s =
    elim (cases_Bool (actor w e == t)) [
      | inl m ↦
          passed_no_turn t n e w k (subst (λ v. begins_turn (last_entry v w) ≡ false)
          (eqb-true (actor w e) t m) (no_turn l w e x s))
      | inr m ↦ passed_other t n e w m
    ]

no_sig : (b c : Bool) (n m t u : ℕ) (x : Option ℕ)
    → cond b (Phaser n (Claim t)) (cond c (Phaser n (Did t)) (Phaser n (Pass t))) ≡ Phaser m (Sig u x) → ⊥
no_sig true c n m t u x k = absurd cc
no_sig false true n m t u x k = absurd cc
no_sig false false n m t u x k = absurd cc

sig_due : (l : Limits) (w : List WorldEvent) (d : WorldEvent) (m u : ℕ) (x : Option ℕ)
    → or_single l w d ≡ Phaser m (Sig u x) → d ≡ Phaser m (Sig u x)
sig_due l w (Phaser n (Pass t)) m u x k =
    absurd (no_sig (is_permitted l (terms_of n w) (phaser_past n w) (Claimed t))
    (is_permitted l (terms_of n w) (phaser_past n w) (Done t)) n m t u x k)
sig_due l w d m u x k = k

-- a signal
pub passed_sig : (l : Limits) (t n m u : ℕ) (x : Option ℕ) (w : List WorldEvent)
    → IsNext l w (Phaser m (Sig u x)) → has_passed t n (Phaser m (Sig u x) ∷ w) ≡ has_passed t n w
passed_sig l t n m u x w k =
    let e = Phaser m (Sig u x) in
    elim (cases_Bool (u == t)) [
      | inr z ↦ passed_other t n e w z
      | inl z ↦
          elim (cases_Bool (begins_turn (last_entry t w))) [
            | inr q ↦ passed_no_turn t n e w refl q
            | inl q ↦
                let same : u ≡ t = eqb-true u t z in
                let first : First l w (due u w) e = first_due l w e k in
                let here : due t w ≡ e ∷ first.rest =
                subst (λ v. due v w ≡ e ∷ first.rest) same (subst (λ d. due u w ≡ d ∷ first.rest)
                (sig_due l w first.due m u x first.stands) first.is) in
                let shape : is_turn_list t (e ∷ first.rest) ≡ true =
                subst (λ ds. is_turn_list t ds ≡ true) here (due_turn t w q) in
                let more =
                (and_parts (u == t) (not (is_empty first.rest)) (and_parts
                ((u == t) && not (is_empty first.rest)) (is_turn_list t first.rest) shape).0).1 in
                let now : due t (e ∷ w) ≡ first.rest =
                due_own t e w refl z refl ∙ ap (λ ds. drop 1 ds) here in
                ap (of_due n (last_entry t w)) now
                ∙ (ap (λ b. begins_turn (last_entry t w) && b && not (list_any (is_pass_on n) first.rest))
                more ∙ sym (ap (of_due n (last_entry t w)) here))
          ]
    ]
