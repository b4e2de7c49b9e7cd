-- Whether a task is able can be computed.
use Rattle.std.proofs.Common.{◌≡◌, ℕ, Bool, true, false, ◌&&◌, ◌||◌, ◌==◌, not, nat_lt, List, [], ◌∷◌, Option, Some, None, refl, sym, subst, ap, ◌∙◌, inl, inr}
use Rattle.std.specs.Prelude.{option_to_list}
use Rattle.std.specs.List.{list_any}
use Rattle.std.specs.Option.{option_map_or}
use Rattle.std.proofs.lemmas.Bool.{and_parts, and_from, cases_Bool, eqb-true, eq-eqb, or_cases, or_left, or_right, and_left, and_right, ne_eqb, true≢false, not-true}
use Rattle.phase_modes.specs.declared.reg.Mode.{Mode}
use Rattle.phase_modes.specs.declared.reg.Mode.TheVariants.{Sig as OnlySig, Wait as OnlyWait, SigWait, Single}
use Rattle.phase_modes.specs.declared.limits.Limits.{Limits}
use Rattle.phase_modes.specs.declared.refusal.Refusal.{Refusal}
use Rattle.phase_modes.specs.declared.refusal.Refusal.TheVariants.{NotNow, ActsFull}
use Rattle.phase_modes.specs.Refusal.{number_of, first_refusal}
use Rattle.finish_core.specs.declared.event.FinishEvent.{FinishEvent}
use Rattle.finish_core.specs.declared.event.FinishEvent.TheVariants.{Opened, Spawned, Ended, Shut as Shutting}
use Rattle.world_model.specs.declared.event.Step.{Step}
use Rattle.world_model.specs.declared.event.Step.TheVariants.{Make, Reg, Sig, Claim, Did, Pass, Send, Look, Drop}
use Rattle.world_model.specs.declared.event.Tried.{Tried}
use Rattle.world_model.specs.declared.event.Tried.TheVariants.{Begun as Beginning, New, Open, Send as Sending, Look as Looking}
use Rattle.world_model.specs.declared.event.WorldEvent.{WorldEvent}
use Rattle.world_model.specs.declared.event.WorldEvent.TheVariants.{Phaser, Finish, Begin, Refuse, Fail}
use Rattle.world_model.specs.Tasks.{is_ended, acts}
use Rattle.world_model.specs.Actors.{actor}
use Rattle.world_model.specs.Due.{next_event, is_idle}
use Rattle.world_model.specs.Replies.{is_accepted, is_made}
use Rattle.world_model.specs.Continuing.{same_number, same_mode, same_step, same_finish_event, same_event, next_done, next_reply}
use Rattle.world_model.specs.Acts.{act_reply, facts, is_number_used, unless, act_done}
use Rattle.world_model.specs.ActConditions.{is_counted, own_conditions}
use Rattle.world_model.specs.GivingUp.{is_refused_by, may_fail, may_refuse, done_where, is_reg}
use Rattle.world_model.specs.Able.{IsAble, is_able, candidates}
use Rattle.world_model.specs.ProgressLaws.{AbleIsComputed}
use Rattle.world_model.proofs.MadeMeans.{act_made, part_made, no_refusal}

pub same_modes : (m n : Mode) → same_mode m n ≡ true → m ≡ n
same_modes OnlySig OnlySig k = refl
same_modes OnlyWait OnlyWait k = refl
same_modes SigWait SigWait k = refl
same_modes Single Single k = refl
same_modes m n k = absurd cc

pub same_numbers : (x y : Option ℕ) → same_number x y ≡ true → x ≡ y
same_numbers None None k = refl
same_numbers (Some n) (Some m) k = ap (λ v. Some v) (eqb-true n m k)
same_numbers (Some n) None k = absurd cc
same_numbers None (Some m) k = absurd cc

pub same_steps : (s r : Step) → same_step s r ≡ true → s ≡ r
same_steps (Reg q t m) (Reg r u n) k =
    let a = and_parts (q == r && t == u) (same_mode m n) k in
    let b = and_parts (q == r) (t == u) a.0 in
    let e0 : q ≡ r = eqb-true q r b.0 in
    let e1 : t ≡ u = eqb-true t u b.1 in
    let e2 : m ≡ n = same_modes m n a.1 in
    cc
same_steps (Sig t x) (Sig u y) k =
    let a = and_parts (t == u) (same_number x y) k in
    let e0 : t ≡ u = eqb-true t u a.0 in
    let e1 : x ≡ y = same_numbers x y a.1 in
    cc
same_steps (Claim t) (Claim u) k = ap (λ v. Claim v) (eqb-true t u k)
same_steps (Did t) (Did u) k = ap (λ v. Did v) (eqb-true t u k)
same_steps (Pass t) (Pass u) k = ap (λ v. Pass v) (eqb-true t u k)
same_steps (Drop t) (Drop u) k = ap (λ v. Drop v) (eqb-true t u k)
same_steps s r k = absurd cc

pub same_finish_events : (d e : FinishEvent) → same_finish_event d e ≡ true → d ≡ e
same_finish_events (Spawned t) (Spawned u) k = ap (λ v. Spawned v) (eqb-true t u k)
same_finish_events (Ended t) (Ended u) k = ap (λ v. Ended v) (eqb-true t u k)
same_finish_events Shutting Shutting k = refl
same_finish_events d e k = absurd cc

pub same_events : (d e : WorldEvent) → same_event d e ≡ true → d ≡ e
same_events (Phaser n s) (Phaser m r) k =
    let a = and_parts (n == m) (same_step s r) k in
    let e0 : n ≡ m = eqb-true n m a.0 in
    let e1 : s ≡ r = same_steps s r a.1 in
    cc
same_events (Finish f d) (Finish g e) k =
    let a = and_parts (f == g) (same_finish_event d e) k in
    let e0 : f ≡ g = eqb-true f g a.0 in
    let e1 : d ≡ e = same_finish_events d e a.1 in
    cc
same_events d e k = absurd cc

-- the one that is found
any_found : {X : Type 0} (test : X → Bool) (xs : List X) → list_any test xs ≡ true → (x : X) × (test x ≡ true)
any_found test [] k = absurd cc
any_found test (x ∷ xs) k =
    elim (or_cases (test x) (list_any test xs) k) [ inl e ↦ (x, e) | inr e ↦ any_found test xs e ]

pub found : {X : Type 0} (test : X → Bool) (o : Option X) → option_map_or test o false ≡ true
    → (x : X) × (o ≡ Some x) × (test x ≡ true)
found test None k = absurd cc
found test (Some x) k = (x, refl, k)

at_0 : (a b c d r : Bool) → a ≡ true → (a || (b || (c || (d || r)))) ≡ true
at_0 a b c d r k = or_left a (b || (c || (d || r))) k

at_1 : (a b c d r : Bool) → b ≡ true → (a || (b || (c || (d || r)))) ≡ true
at_1 a b c d r k = or_right a (b || (c || (d || r))) (or_left b (c || (d || r)) k)

at_2 : (a b c d r : Bool) → c ≡ true → (a || (b || (c || (d || r)))) ≡ true
at_2 a b c d r k = or_right a (b || (c || (d || r))) (or_right b (c || (d || r)) (or_left c (d || r) k))

at_3 : (a b c d r : Bool) → d ≡ true → (a || (b || (c || (d || r)))) ≡ true
at_3 a b c d r k =
    or_right a (b || (c || (d || r))) (or_right b (c || (d || r)) (or_right c (d || r) (or_left d r k)))

at_4 : (a b c d r : Bool) → r ≡ true → (a || (b || (c || (d || r)))) ≡ true
at_4 a b c d r k =
    or_right a (b || (c || (d || r))) (or_right b (c || (d || r)) (or_right c (d || r) (or_right d r k)))

refused_number : (r : Refusal) (n : ℕ) → number_of r ≡ 22 → (number_of r == n && not (n == 22)) ≡ false
refused_number r n e =
    elim (cases_Bool (n == 22)) [
      | inl same ↦ rw same (and_right (number_of r == n) false refl)
      | inr other ↦
          and_left (number_of r == n) (not (n == 22))
          (ne_eqb (number_of r) n (λ k. eqb_other n other (sym k ∙ e)))
    ]
  where
    eqb_other : (n : ℕ) → (n == 22) ≡ false → n ≡ 22 → ⊥
    eqb_other n h k = absurd (true≢false (sym (eq-eqb n 22 k) ∙ h))

module _ (l : Limits) (w : List WorldEvent) (t : ℕ) where
  abbrev test : WorldEvent → Bool
  test e = actor w e == t && is_accepted l w e

  abbrev Found : Type 0
  Found = list_any (λ e. actor w e == t && is_accepted l w e) (candidates l w t) ≡ true

  abbrev of_next : Bool
  of_next = list_any (λ e. actor w e == t && is_accepted l w e) (option_to_list (next_event l t w))

  passes_test : (e : WorldEvent) → actor w e ≡ t → is_accepted l w e ≡ true
      → (actor w e == t && is_accepted l w e) ≡ true
  passes_test e a k = and_from (actor w e == t) (is_accepted l w e) (eq-eqb (actor w e) t a) k

  found_7 : is_accepted l w (Fail t 7) ≡ true → Found
  found_7 k =
      at_0 (test (Fail t 7)) (test (Fail t 14)) (test (Fail t 15)) (test (Fail t 23)) of_next
      (passes_test (Fail t 7) refl k)

  found_14 : is_accepted l w (Fail t 14) ≡ true → Found
  found_14 k =
      at_1 (test (Fail t 7)) (test (Fail t 14)) (test (Fail t 15)) (test (Fail t 23)) of_next
      (passes_test (Fail t 14) refl k)

  found_15 : is_accepted l w (Fail t 15) ≡ true → Found
  found_15 k =
      at_2 (test (Fail t 7)) (test (Fail t 14)) (test (Fail t 15)) (test (Fail t 23)) of_next
      (passes_test (Fail t 15) refl k)

  found_23 : is_accepted l w (Fail t 23) ≡ true → Found
  found_23 k =
      at_3 (test (Fail t 7)) (test (Fail t 14)) (test (Fail t 15)) (test (Fail t 23)) of_next
      (passes_test (Fail t 23) refl k)

  found_next : (d : WorldEvent) → next_event l t w ≡ Some d → actor w d ≡ t → is_accepted l w d ≡ true → Found
  found_next d e a k =
      at_4 (test (Fail t 7)) (test (Fail t 14)) (test (Fail t 15)) (test (Fail t 23)) of_next
      (subst (λ o. list_any (λ x. actor w x == t && is_accepted l w x) (option_to_list o) ≡ true) (sym e)
      (or_left (actor w d == t && is_accepted l w d) false (passes_test d a k)))

  -- an idle task may always give up for want of memory
  pub idle_gives_up : is_idle t w ≡ true → is_accepted l w (Fail t 23) ≡ true
  idle_gives_up e = subst (λ b. is_made (done_where b) ≡ true) (sym e) refl

-- an act that is begun comes in an idle moment, and its number is free
pub act_now : (l : Limits) (w : List WorldEvent) (t : ℕ) (a : Tried) → is_made (act_reply l w t a) ≡ true
    → (is_idle t w ≡ true) × (is_number_used w a ≡ false)
act_now l w t a k =
    let counted : Refusal × Bool = (ActsFull, not (is_counted a) || nat_lt (acts t w) l.acts) in
    let free : Refusal × Bool = (NotNow, not (is_number_used w a)) in
    let idle =
    no_refusal NotNow (is_idle t w) (free ∷ counted ∷ own_conditions l (facts w t) a) (act_made l w t a k).0 in (
      idle.0,
      not-true (is_number_used w a)
          (no_refusal NotNow free.1 (counted ∷ own_conditions l (facts w t) a) idle.1).0,
    )

pub idle_in_act : (l : Limits) (w : List WorldEvent) (t : ℕ) (a : Tried) → is_made (act_reply l w t a) ≡ true
    → is_idle t w ≡ true
idle_in_act l w t a k = (act_now l w t a k).0

pub made_done_where : (b : Bool) → is_made (done_where b) ≡ true → b ≡ true
made_done_where true k = refl
made_done_where false k = absurd cc

-- a refusal is noted in an idle moment
pub refuse_idle : (l : Limits) (w : List WorldEvent) (t : ℕ) (a : Tried) (n : ℕ) → may_refuse l w t a n ≡ true
    → is_idle t w ≡ true
refuse_idle l w t a n k =
    elim (cases_Bool (is_idle t w)) [
      | inl e ↦ e
      | inr e ↦ absurd (true≢false (sym (not_now e) ∙ refused_number NotNow n refl))
    ]
  where
    known : (i : Bool) → i ≡ false
        → is_refused_by n (unless (first_refusal ((NotNow, i) ∷ (NotNow, not (is_number_used w a))
        ∷ (ActsFull, not (is_counted a) || nat_lt (acts t w) l.acts) ∷ own_conditions l (facts w t) a))
        (act_done l w t a)) ≡ (22 == n)
    known true e = absurd (true≢false e)
    known false e = refl

    not_now : is_idle t w ≡ false → (22 == n && not (n == 22)) ≡ true
    not_now e =
        let parts = and_parts (is_refused_by n (act_reply l w t a) && not (n == 22)) (not (n == 23)) k in
        let more = and_parts (is_refused_by n (act_reply l w t a)) (not (n == 22)) parts.0 in
        and_from (22 == n) (not (n == 22)) (sym (known (is_idle t w) e) ∙ more.0) more.1

module _ (l : Limits) (w : List WorldEvent) (t : ℕ) where
  idle_found : is_idle t w ≡ true → Found l w t
  idle_found e = found_23 l w t (idle_gives_up l w t e)

  fail_found : (n : ℕ) → is_accepted l w (Fail t n) ≡ true → Found l w t
  fail_found n k =
      let x =
      (n == 7 || n == 15) && option_map_or (λ e. is_refused_by n (next_done l w e))
      (next_event l t w) false in
      let y = n == 14 && option_map_or is_reg (next_event l t w) false in
      let z = n == 23 && is_idle t w in
      let at : (m : ℕ) → (n == m) ≡ true → is_accepted l w (Fail t m) ≡ true =
      λ m e. subst (λ v. is_accepted l w (Fail t v) ≡ true) (eqb-true n m e) k in
      elim (or_cases (x || y) z (made_done_where (may_fail l w t n) k)) [
        | inl e ↦
            elim (or_cases x y e) [
              | inl f ↦
                  elim (or_cases (n == 7) (n == 15) (and_parts (n == 7 || n == 15) (option_map_or
                  (λ d. is_refused_by n (next_done l w d)) (next_event l t w) false) f).0) [
                    | inl g ↦ found_7 l w t (at 7 g)
                    | inr g ↦ found_15 l w t (at 15 g)
                  ]
              | inr f ↦
                  found_14 l w t
                  (at 14 (and_parts (n == 14) (option_map_or is_reg (next_event l t w) false) f).0)
            ]
        | inr e ↦ found_23 l w t (at 23 (and_parts (n == 23) (is_idle t w) e).0)
      ]

  part_found : (e : WorldEvent) → actor w e ≡ t → is_accepted l w e ≡ true
      → is_made (next_reply l w e) ≡ true → Found l w t
  part_found e a k p =
      let f = found (λ d. same_event d e) (next_event l (actor w e) w) (part_made l w e p).0 in
      let same : f.0 ≡ e = same_events f.0 e f.2 in
      found_next l w t f.0 (subst (λ u. next_event l u w ≡ Some f.0) a f.1)
      (subst (λ d. actor w d ≡ t) (sym same) a) (subst (λ d. is_accepted l w d ≡ true) (sym same) k)

  act_found : (u : ℕ) (a : Tried) → u ≡ t → is_made (act_reply l w u a) ≡ true → Found l w t
  act_found u a e k = idle_found (subst (λ v. is_idle v w ≡ true) e (idle_in_act l w u a k))

  event_found : (e : WorldEvent) → actor w e ≡ t → is_accepted l w e ≡ true → Found l w t
  event_found (Phaser n (Make u m terms)) a k = act_found u (New n m terms) a k
  event_found (Phaser n (Send u c v)) a k = act_found u (Sending n c v) a k
  event_found (Phaser n (Look u c)) a k = act_found u (Looking n c) a k
  event_found (Finish f (Opened u)) a k = act_found u (Open f) a k
  event_found (Begin u b) a k = act_found u (Beginning b) a k
  event_found (Refuse u b n) a k =
      idle_found (subst (λ v. is_idle v w ≡ true) a
      (refuse_idle l w u b n (made_done_where (may_refuse l w u b n) k)))
  event_found (Fail u n) a k = fail_found n (subst (λ v. is_accepted l w (Fail v n) ≡ true) a k)
  event_found (Phaser n s) a k = part_found (Phaser n s) a k k
  event_found (Finish f e) a k = part_found (Finish f e) a k k

  able_by : is_able l w t ≡ true → IsAble l w t
  able_by k =
      let p =
      and_parts (not (is_ended t w))
      (list_any (λ e. actor w e == t && is_accepted l w e) (candidates l w t)) k in
      let f = any_found (λ e. actor w e == t && is_accepted l w e) (candidates l w t) p.1 in
      let q = and_parts (actor w f.0 == t) (is_accepted l w f.0) f.1 in
      (not-true (is_ended t w) p.0, f.0, eqb-true (actor w f.0) t q.0, q.1)

  able_from : IsAble l w t → is_able l w t ≡ true
  able_from k =
      and_from (not (is_ended t w)) (list_any (λ e. actor w e == t && is_accepted l w e) (candidates l w t))
      (ap (λ b. not b) k.0) (event_found k.1 k.2 k.3)

pub able_is_computed : AbleIsComputed
able_is_computed l w t = (able_by l w t, able_from l w t)
