-- No task begins more acts than the limit,
-- so all tasks together begin no more turns than the limits' product.
use Rattle.std.proofs.Common.{◌≡◌, ℕ, ◌+◌, ◌*◌, ◌≤◌, ◌<◌, suc, zero, Bool, true, ◌||◌, ◌==◌, not, nat_lt, cond, List, [], ◌∷◌, refl, sym, subst, ap, ◌∙◌, inl, inr, arith}
use Rattle.std.specs.List.{list_any}
use Rattle.std.proofs.lemmas.Bool.{or_cases, cases_Bool, cases_lt, eqb-true, ltb-true}
use Rattle.std.proofs.lemmas.List.Sums.{sum_by-cons}
use Rattle.std.proofs.Math.Nat.{suc-mul}
use Rattle.phase_modes.specs.declared.limits.Limits.{Limits}
use Rattle.phase_modes.specs.declared.refusal.Refusal.{Refusal}
use Rattle.phase_modes.specs.declared.refusal.Refusal.TheVariants.{NotNow, ActsFull, TasksFull}
use Rattle.finish_core.specs.declared.event.FinishEvent.TheVariants.{Opened}
use Rattle.world_model.specs.declared.event.Step.TheVariants.{Make, Send, Look}
use Rattle.world_model.specs.declared.event.Begun.{Begun}
use Rattle.world_model.specs.declared.event.Begun.TheVariants.{Async, Signal, Wait, Next, NextSingle, Shut}
use Rattle.world_model.specs.declared.event.Tried.{Tried}
use Rattle.world_model.specs.declared.event.Tried.TheVariants.{Begun as Beginning, New, Open, Send as Sending, Look as Looking}
use Rattle.world_model.specs.declared.event.WorldEvent.{WorldEvent}
use Rattle.world_model.specs.declared.event.WorldEvent.TheVariants.{Phaser, Finish, Begin, Refuse, Fail}
use Rattle.world_model.specs.Tasks.{acts, is_act, is_born}
use Rattle.world_model.specs.Numbers.{names}
use Rattle.world_model.specs.Due.{is_idle}
use Rattle.world_model.specs.Acts.{act_reply, facts, is_number_used}
use Rattle.world_model.specs.ActConditions.{is_counted, own_conditions, pair_conditions}
use Rattle.world_model.specs.Replies.{is_accepted, is_legal_world, is_made}
use Rattle.world_model.specs.Clock.{is_turn}
use Rattle.world_model.proofs.SmallWords.{eq_self}
use Rattle.world_model.proofs.MadeMeans.{last_accepted, act_made, begin_asked, no_refusal}
use Rattle.world_model.proofs.AbleComputed.{idle_in_act}
use Rattle.world_model.proofs.PassesInTurns.{idle_is_born}
use Rattle.world_model.proofs.BornWhereNamed.{born_named}
use Rattle.world_model.proofs.ClockWithinTurns.{turns_begun}

-- a counted act finds its task below the limit
counted_below : (l : Limits) (w : List WorldEvent) (u : ℕ) (a : Tried) → is_counted a ≡ true
    → is_made (act_reply l w u a) ≡ true → acts u w < l.acts
counted_below l w u a c m =
    let room = not (is_counted a) || nat_lt (acts u w) l.acts in
    let free : Refusal × Bool = (NotNow, not (is_number_used w a)) in
    let idle =
    no_refusal NotNow (is_idle u w) (free ∷ (ActsFull, room) ∷ own_conditions l (facts w u) a)
    (act_made l w u a m).0 in
    let now = no_refusal NotNow free.1 ((ActsFull, room) ∷ own_conditions l (facts w u) a) idle.1 in
    let has : room ≡ true = (no_refusal ActsFull room (own_conditions l (facts w u) a) now.1).0 in
    ltb-true (acts u w) l.acts (subst (λ b. (not b || nat_lt (acts u w) l.acts) ≡ true) c has)

below_limit : (l : Limits) (w : List WorldEvent) (e : WorldEvent) (t : ℕ) → is_accepted l w e ≡ true
    → is_act t e ≡ true → acts t w < l.acts
below_limit l w (Phaser n (Make u m terms)) t h k =
    subst (λ v. acts v w < l.acts) (eqb-true u t k) (counted_below l w u (New n m terms) refl h)
below_limit l w (Phaser n (Send u a v)) t h k =
    subst (λ x. acts x w < l.acts) (eqb-true u t k) (counted_below l w u (Sending n a v) refl h)
below_limit l w (Phaser n (Look u a)) t h k =
    subst (λ v. acts v w < l.acts) (eqb-true u t k) (counted_below l w u (Looking n a) refl h)
below_limit l w (Finish f (Opened u)) t h k =
    subst (λ v. acts v w < l.acts) (eqb-true u t k) (counted_below l w u (Open f) refl h)
below_limit l w (Begin u (Async c ps)) t h k =
    subst (λ v. acts v w < l.acts) (eqb-true u t k) (counted_below l w u (Beginning (Async c ps)) refl h)
below_limit l w (Begin u Signal) t h k =
    subst (λ v. acts v w < l.acts) (eqb-true u t k) (counted_below l w u (Beginning Signal) refl h)
below_limit l w (Begin u Wait) t h k =
    subst (λ v. acts v w < l.acts) (eqb-true u t k) (counted_below l w u (Beginning Wait) refl h)
below_limit l w (Begin u Next) t h k =
    subst (λ v. acts v w < l.acts) (eqb-true u t k) (counted_below l w u (Beginning Next) refl h)
below_limit l w (Begin u (NextSingle x)) t h k =
    subst (λ v. acts v w < l.acts) (eqb-true u t k) (counted_below l w u (Beginning (NextSingle x)) refl h)
below_limit l w (Begin u Shut) t h k =
    subst (λ v. acts v w < l.acts) (eqb-true u t k) (counted_below l w u (Beginning Shut) refl h)
below_limit l w e t h k = absurd cc

acts_more : (t : ℕ) (e : WorldEvent) (w : List WorldEvent) → acts t (e ∷ w) ≡ cond (is_act t e) 1 0 + acts t w
acts_more t e w = sum_by-cons (λ d. cond (is_act t d) 1 0) e w

-- no task begins more acts than the limit
pub acts_within : (l : Limits) (w : List WorldEvent) → is_legal_world l w ≡ true → (t : ℕ) → acts t w ≤ l.acts
acts_within l [] k t = omega arith
acts_within l (e ∷ w) k t =
    let a = last_accepted l e w k in
    rw (acts_more t e w) (elim (cases_Bool (is_act t e)) [
      | inl b ↦ rw b (one_more (acts t w) l.acts (below_limit l w e t a.0 b))
      | inr b ↦ rw b (same (acts t w) l.acts (acts_within l w a.1 t))
    ])
  where
    one_more : (x n : ℕ) → x < n → 1 + x ≤ n
    one_more x n h = omega (arith, h)

    same : (x n : ℕ) → x ≤ n → 0 + x ≤ n
    same x n h = omega (arith, h)

-- the acts of the tasks below n together
abbrev all_acts : ℕ → List WorldEvent → ℕ
all_acts zero w = 0
all_acts (suc n) w = acts n w + all_acts n w

all_within : (l : Limits) (w : List WorldEvent) → is_legal_world l w ≡ true → (n : ℕ)
    → all_acts n w ≤ n * l.acts
all_within l w k zero = omega arith
all_within l w k (suc n) =
    rw (suc-mul n l.acts)
    (both (acts n w) (all_acts n w) l.acts (n * l.acts) (acts_within l w k n) (all_within l w k n))
  where
    both : (x y a b : ℕ) → x ≤ a → y ≤ b → x + y ≤ b + a
    both x y a b h k = omega (arith, h, k)

no_fewer : (t : ℕ) (e : WorldEvent) (w : List WorldEvent) → acts t w ≤ acts t (e ∷ w)
no_fewer t e w = rw (acts_more t e w) (omega arith)

all_no_fewer : (n : ℕ) (e : WorldEvent) (w : List WorldEvent) → all_acts n w ≤ all_acts n (e ∷ w)
all_no_fewer zero e w = omega arith
all_no_fewer (suc n) e w =
    both (acts n w) (all_acts n w) (acts n (e ∷ w)) (all_acts n (e ∷ w)) (no_fewer n e w) (all_no_fewer n e w)
  where
    both : (x y a b : ℕ) → x ≤ a → y ≤ b → x + y ≤ a + b
    both x y a b h k = omega (arith, h, k)

-- an act of a task below n is one more
all_one_more : (n u : ℕ) (e : WorldEvent) (w : List WorldEvent) → u < n → is_act u e ≡ true
    → all_acts n w + 1 ≤ all_acts n (e ∷ w)
all_one_more zero u e w s k = absurd (omega (arith, s))
all_one_more (suc n) u e w s k =
    elim (cases_lt u n) [
      | inl less ↦
          others (acts n w) (all_acts n w) (acts n (e ∷ w)) (all_acts n (e ∷ w)) (no_fewer n e w)
          (all_one_more n u e w less k)
      | inr more ↦
          let same : u ≡ n = omega (arith, s, more) in
          let now : acts n (e ∷ w) ≡ 1 + acts n w =
          acts_more n e w ∙ ap (λ b. cond b 1 0 + acts n w) (subst (λ v. is_act v e ≡ true) same k) in
          rw now (own (acts n w) (all_acts n w) (all_acts n (e ∷ w)) (all_no_fewer n e w))
    ]
  where
    others : (x y a b : ℕ) → x ≤ a → y + 1 ≤ b → (x + y) + 1 ≤ a + b
    others x y a b h k = omega (arith, h, k)

    own : (x y b : ℕ) → y ≤ b → (x + y) + 1 ≤ (1 + x) + b
    own x y b h = omega (arith, h)

-- a number that a spawn named is below the limit
pub named_fits : (l : Limits) (w : List WorldEvent) → is_legal_world l w ≡ true → (t : ℕ)
    → list_any (names t) w ≡ true → t < l.tasks
named_fits l [] k t n = absurd cc
named_fits l (e ∷ w) k t n =
    let a = last_accepted l e w k in
    elim (or_cases (names t e) (list_any (names t) w) n) [
      | inl b ↦ by_event e a.0 b
      | inr b ↦ named_fits l w a.1 t b
    ]
  where
    by_event : (e : WorldEvent) → is_accepted l w e ≡ true → names t e ≡ true → t < l.tasks
    by_event (Begin u (Async c ps)) h b =
        let asked =
        no_refusal TasksFull (nat_lt c l.tasks) (pair_conditions (facts w u) [] ps)
        (begin_asked l w u (Async c ps) h) in
        subst (λ v. v < l.tasks) (eqb-true c t b) (ltb-true c l.tasks asked.0)
    by_event e h b = absurd cc

pub born_fits : (l : Limits) (w : List WorldEvent) → is_legal_world l w ≡ true → 1 ≤ l.tasks → (t : ℕ)
    → is_born t w ≡ true → t < l.tasks
born_fits l w k some t b =
    elim (or_cases (t == 0) (list_any (names t) w) (born_named l t w k b)) [
      | inl z ↦ subst (λ v. v < l.tasks) (sym (eqb-true t 0 z)) (omega (arith, some))
      | inr n ↦ named_fits l w k t n
    ]

turn_is_act : (u : ℕ) (b : Begun) → is_turn b ≡ true → is_act u (Begin u b) ≡ true
turn_is_act u Wait k = eq_self u
turn_is_act u Next k = eq_self u
turn_is_act u (NextSingle x) k = eq_self u
turn_is_act u b k = absurd cc

turns_counted : (l : Limits) (w : List WorldEvent) → is_legal_world l w ≡ true → 1 ≤ l.tasks
    → turns_begun w ≤ all_acts l.tasks w
turns_counted l [] k some = none (all_acts l.tasks [])
  where
    none : (n : ℕ) → 0 ≤ n
    none n = omega arith
turns_counted l (e ∷ w) k some =
    let a = last_accepted l e w k in
    by_event e a.0 (turns_counted l w a.1 some)
  where
    trans : (x y z : ℕ) → x ≤ y → y ≤ z → x ≤ z
    trans x y z h k = omega (arith, h, k)

    one_more : (x y z : ℕ) → x ≤ y → y + 1 ≤ z → x + 1 ≤ z
    one_more x y z h k = omega (arith, h, k)

    begun : (u : ℕ) (b : Begun) → is_accepted l w (Begin u b) ≡ true → turns_begun w ≤ all_acts l.tasks w
        → turns_begun (Begin u b ∷ w) ≤ all_acts l.tasks (Begin u b ∷ w)
    begun u b h before =
        elim (cases_Bool (is_turn b)) [
          | inl t ↦
              let fits : u < l.tasks =
              born_fits l w (last_accepted l e w k).1 some u
              (idle_is_born u w (idle_in_act l w u (Beginning b) h)) in
              rw t (one_more (turns_begun w) (all_acts l.tasks w) (all_acts l.tasks (Begin u b ∷ w)) before
              (all_one_more l.tasks u (Begin u b) w fits (turn_is_act u b t)))
          | inr t ↦
              rw t (trans (turns_begun w) (all_acts l.tasks w) (all_acts l.tasks (Begin u b ∷ w)) before
              (all_no_fewer l.tasks (Begin u b) w))
        ]

    by_event : (e : WorldEvent) → is_accepted l w e ≡ true → turns_begun w ≤ all_acts l.tasks w
        → turns_begun (e ∷ w) ≤ all_acts l.tasks (e ∷ w)
    by_event (Begin u b) h before = begun u b h before
    by_event (Phaser n s) h before =
        trans (turns_begun w) (all_acts l.tasks w) (all_acts l.tasks (Phaser n s ∷ w)) before
        (all_no_fewer l.tasks (Phaser n s) w)
    by_event (Finish f d) h before =
        trans (turns_begun w) (all_acts l.tasks w) (all_acts l.tasks (Finish f d ∷ w)) before
        (all_no_fewer l.tasks (Finish f d) w)
    by_event (Refuse u x n) h before =
        trans (turns_begun w) (all_acts l.tasks w) (all_acts l.tasks (Refuse u x n ∷ w)) before
        (all_no_fewer l.tasks (Refuse u x n) w)
    by_event (Fail u n) h before =
        trans (turns_begun w) (all_acts l.tasks w) (all_acts l.tasks (Fail u n ∷ w)) before
        (all_no_fewer l.tasks (Fail u n) w)

-- all tasks together begin no more turns than their number times the acts of each
pub turns_within : (l : Limits) (w : List WorldEvent) → is_legal_world l w ≡ true → 1 ≤ l.tasks
    → turns_begun w ≤ l.tasks * l.acts
turns_within l w k some =
    trans (turns_begun w) (all_acts l.tasks w) (l.tasks * l.acts) (turns_counted l w k some)
    (all_within l w k l.tasks)
  where
    trans : (x y z : ℕ) → x ≤ y → y ≤ z → x ≤ z
    trans x y z h k = omega (arith, h, k)
