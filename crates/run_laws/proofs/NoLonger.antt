-- Beside a whole run no other history in which nobody is refused has more events: not of tasks themselves, and not
-- on any phaser, where at the end nothing is kept back.
use Rattle.std.proofs.Common.{◌≡◌, ℕ, zero, suc, ◌+◌, ◌<◌, ◌≤◌, Bool, true, false, ◌==◌, List, [], ◌∷◌, ◌++◌, length, refl, sym, subst, ap, ◌∙◌, inl, inr, arith}
use Rattle.std.specs.List.{filter}
use Rattle.std.proofs.lemmas.Bool.{cases_Bool, cases_order, eq-eqb, ne_eqb, false≢true}
use Rattle.phase_modes.specs.declared.limits.Limits.{Limits}
use Rattle.phase_model.specs.declared.history.Event.{Event}
use Rattle.phase_model.specs.declared.terms.Terms.{Terms}
use Rattle.phase_model.specs.Rules.{is_legal}
use Rattle.phase_model.specs.Singles.{is_done, is_proposed, is_settled, reserve}
use Rattle.phase_model.specs.Tasks.{is_live, live_count, registered_tasks}
use Rattle.phase_model.proofs.Proposers.{owes, proposer}
use Rattle.phase_model.proofs.Reserves.{reserve_none}
use Rattle.job_script.specs.declared.act.Answer.{Answer}
use Rattle.world_model.specs.declared.event.WorldEvent.{WorldEvent}
use Rattle.world_model.specs.declared.event.WorldEvent.TheVariants.{Phaser, Finish, Begin, Refuse, Fail}
use Rattle.world_model.specs.Due.{is_of_single}
use Rattle.world_model.specs.Numbers.{is_phaser}
use Rattle.world_model.specs.Parts.{phaser_past, terms_of, event_for}
use Rattle.world_model.specs.Replies.{is_legal_world}
use Rattle.world_model.specs.Tasks.{is_ended}
use Rattle.world_model.proofs.MadeMeans.{last_accepted}
use Rattle.world_model.proofs.PhasersLegal.{phasers_legal}
use Rattle.world_model.proofs.RootEndsLast.{ended_roots_leave_nobody}
use Rattle.trace_walk.specs.Walking.{Does}
use Rattle.trace_walk.specs.Scripts.{Numbers}
use Rattle.trace_walk.proofs.Used.{phaser_below}
use Rattle.run_laws.specs.Memory.{HistoriesAreNoLonger}
use Rattle.run_laws.specs.Telling.{Told, told}
use Rattle.run_laws.proofs.Ahead.{proposed_there, with_both}
use Rattle.run_laws.proofs.Fits.{by_need, need_sum}
use Rattle.run_laws.proofs.Lengths.{HaveMore, at_most}
use Rattle.run_laws.proofs.Main.{beginning_of}
use Rattle.run_laws.proofs.Needs.{event_need, needs, used, passing, passing_within, proposed_below, legal_need}
use Rattle.run_laws.proofs.NextEvents.{IsGoing, going}
use Rattle.run_laws.proofs.Plain.{swapped}
use Rattle.run_laws.proofs.Sums.{all_told, teller, with_teller, told_by, weigh, on_weight, sum_told}

-- ---- sums over all numbers below a limit

abbrev sum_below : (ℕ → ℕ) → ℕ → ℕ
sum_below f zero = 0
sum_below f (suc m) = f m + sum_below f m

sums_same : (f g : ℕ → ℕ) (m : ℕ) → ((n : ℕ) → n < m → f n ≡ g n) → sum_below f m ≡ sum_below g m
sums_same f g zero k = refl
sums_same f g (suc m) k =
    ap (λ i. i + sum_below f m) (k m (omega arith))
    ∙ ap (λ i. g m + i) (sums_same f g m (λ n less. k n (omega (arith, less))))

sums_within : (f g : ℕ → ℕ) (m : ℕ) → ((n : ℕ) → f n ≤ g n) → sum_below f m ≤ sum_below g m
sums_within f g zero k = omega arith
sums_within f g (suc m) k = omega (arith, k m, sums_within f g m k)

-- where one of them is more by one, so is the sum
sum_more : (f g : ℕ → ℕ) (m p : ℕ) → p < m → g p ≡ suc (f p) → ((n : ℕ) → (p == n) ≡ false → f n ≡ g n)
    → sum_below g m ≡ suc (sum_below f m)
sum_more f g zero p less a k = absurd (omega (arith, less))
sum_more f g (suc m) p less a k =
    elim (cases_order p m) [
      | inl is ↦
          let here : g m ≡ suc (f m) = subst (λ q. g q ≡ suc (f q)) is a in
          let rest : sum_below f m ≡ sum_below g m =
          sums_same f g m (λ n below. k n (ne_eqb p n (λ s. absurd (omega (arith, s, is, below))))) in
          omega (arith, here, rest)
      | inr (inl under) ↦
          let here : f m ≡ g m = k m (ne_eqb p m (λ s. absurd (omega (arith, s, under)))) in
          let rest : sum_below g m ≡ suc (sum_below f m) = sum_more f g m p under a k in
          omega (arith, here, rest)
      | inr (inr over) ↦ absurd (omega (arith, over, less))
    ]

-- ---- a history's events: those on phasers, and the others

abbrev apart : WorldEvent → ℕ
apart (Phaser n s) = 0
apart _ = 1

abbrev others : List WorldEvent → ℕ
others w = weigh apart (all_told w)

abbrev on_phasers : ℕ → List WorldEvent → ℕ
on_phasers m w = sum_below (λ n. length (phaser_past n w)) m

length_is : (l : Limits) (w : List WorldEvent) → is_legal_world l w ≡ true
    → length w ≡ others w + on_phasers l.phasers w
length_is l [] k = no_events l.phasers
  where
    no_events : (m : ℕ) → 0 ≡ 0 + sum_below (λ n. 0) m
    no_events zero = refl
    no_events (suc m) = omega (arith, no_events m)
length_is l (Phaser n s ∷ w) k =
    let e = Phaser n s in
    let rest = length_is l w (last_accepted l e w k).1 in
    let x = event_for (terms_of n w) (phaser_past n w) s in
    let here : length (phaser_past n (e ∷ w)) ≡ suc (length (phaser_past n w)) = rw (eq-eqb n n refl) refl in
    let made : is_phaser n (e ∷ w) ≡ true = rw (eq-eqb n n refl) refl in
    let low : n < l.phasers = phaser_below l n (e ∷ w) k made in
    let more : on_phasers l.phasers (e ∷ w) ≡ suc (on_phasers l.phasers w) =
    sum_more (λ i. length (phaser_past i w)) (λ i. length (phaser_past i (e ∷ w))) l.phasers n low here
    (λ i other. rw other refl) in
    let same : others (e ∷ w) ≡ others w =
    elim (cases_Bool (is_of_single e)) [ inl y ↦ rw y refl | inr y ↦ rw y (omega arith) ] in
    omega (arith, rest, more, same)
length_is l (Finish f s ∷ w) k =
    let rest = length_is l w (last_accepted l (Finish f s) w k).1 in
    let same : on_phasers l.phasers (Finish f s ∷ w) ≡ on_phasers l.phasers w = refl in
    omega (arith, rest, same)
length_is l (Begin u s ∷ w) k =
    let rest = length_is l w (last_accepted l (Begin u s) w k).1 in
    let same : on_phasers l.phasers (Begin u s ∷ w) ≡ on_phasers l.phasers w = refl in
    omega (arith, rest, same)
length_is l (Refuse u s x ∷ w) k =
    let rest = length_is l w (last_accepted l (Refuse u s x) w k).1 in
    let same : on_phasers l.phasers (Refuse u s x ∷ w) ≡ on_phasers l.phasers w = refl in
    omega (arith, rest, same)
length_is l (Fail u x ∷ w) k =
    let rest = length_is l w (last_accepted l (Fail u x) w k).1 in
    let same : on_phasers l.phasers (Fail u x ∷ w) ≡ on_phasers l.phasers w = refl in
    omega (arith, rest, same)

-- ---- where nobody is registered nothing is kept back

none_live : (h : List Event) → ((t : ℕ) → is_live t h ≡ false) → live_count h ≡ 0
none_live h k = none (registered_tasks h)
  where
    none : (ts : List ℕ) → length (filter (λ t. is_live t h) ts) ≡ 0
    none [] = refl
    none (t ∷ ts) = rw (k t) (none ts)

nothing_kept : (l : Limits) (terms : Terms) (h : List Event) → is_legal l terms h ≡ true
    → ((t : ℕ) → is_live t h ≡ false) → used h ≡ length h
nothing_kept l terms h k gone =
    let none : live_count h ≡ 0 = none_live h gone in
    let kept : reserve h ≡ 0 =
    reserve_none l terms h k (λ p. by_test p (is_proposed p h) refl (is_done p h) refl) in
    omega (arith, none, kept)
  where
    by_test : (p : ℕ) (b : Bool) → is_proposed p h ≡ b → (c : Bool) → is_done p h ≡ c → is_settled p h ≡ true
    by_test p false e c f = rw e refl
    by_test p true e true f = rw (e, f) refl
    by_test p true e false f =
        let u = proposer p h e in
        absurd (false≢true (sym (gone u.0) ∙ (owes l terms h k u.0 p u.1 f).live))

module _ {B : Type 0} (next : Answer → B → Does B) (root : B) (names : ℕ → List Told → Numbers) (l : Limits)
    (v : List WorldEvent) (going_v : IsGoing next root names l v) (over : is_ended 0 v ≡ true)
    (w : List WorldEvent) (going_w : IsGoing next root names l w) where
  have_part : HaveMore teller (all_told w) (all_told v)
  have_part u =
      let first = beginning_of next root names l v w going_v over going_w u in (
        with_teller u first.0,
        told_by u v
            ∙ (ap (λ xs. with_teller u xs) first.1
            ∙ (with_both u first.0 (told u w) ∙ ap (λ zs. with_teller u first.0 ++ zs) (sym (told_by u w)))),
      )

  weighs_no_more : (g : WorldEvent → ℕ) → weigh g (all_told w) ≤ weigh g (all_told v)
  weighs_no_more g =
      at_most teller (λ x. g x.1.event) (λ x y r. swapped (g x.1.event) (g y.1.event) r) (all_told w)
      (all_told v) have_part

  used_no_more : (n : ℕ) → used (phaser_past n w) ≤ used (phaser_past n v)
  used_no_more n =
      let h = phaser_past n w in
      let g = phaser_past n v in
      let m = length g + length h in
      let here : ℕ = passing (λ p. is_proposed p h) m in
      let there : ℕ = passing (λ p. is_proposed p g) m in
      let one : used h ≡ needs h + (here + here) =
      legal_need l (terms_of n w) m h (phasers_legal l w going_w.legal n)
      (λ p k. omega (arith, proposed_below p h k)) in
      let other : used g ≡ needs g + (there + there) =
      legal_need l (terms_of n v) m g (phasers_legal l v going_v.legal n)
      (λ p k. omega (arith, proposed_below p g k)) in
      let fewer : here ≤ there =
      passing_within (λ p. is_proposed p h) (λ p. is_proposed p g) m
      (λ p k. proposed_there next root names l v going_v over w going_w n p k) in
      let mine : needs h ≡ weigh (on_weight n by_need) (all_told w) =
      sum_told needs event_need by_need need_sum n w in
      let theirs : needs g ≡ weigh (on_weight n by_need) (all_told v) =
      sum_told needs event_need by_need need_sum n v in
      let less = weighs_no_more (on_weight n by_need) in
      omega (arith, one, other, fewer, mine, theirs, less)

  pub no_longer : length w ≤ length v
  no_longer =
      let each : on_phasers l.phasers w ≤ on_phasers l.phasers v =
      sums_within (λ n. length (phaser_past n w)) (λ n. length (phaser_past n v)) l.phasers (λ n. on_one n) in
      let rest : others w ≤ others v = weighs_no_more apart in
      omega (arith, each, rest, length_is l w going_w.legal, length_is l v going_v.legal)
    where
      on_one : (n : ℕ) → length (phaser_past n w) ≤ length (phaser_past n v)
      on_one n =
          let end : used (phaser_past n v) ≡ length (phaser_past n v) =
          nothing_kept l (terms_of n v) (phaser_past n v) (phasers_legal l v going_v.legal n)
          (λ t. (ended_roots_leave_nobody l v going_v.legal over).1 t n) in
          omega (arith, end, used_no_more n)

pub histories_are_no_longer : {B : Type 0} (next : Answer → B → Does B) → HistoriesAreNoLonger next
histories_are_no_longer next root names l v w run smooth draws =
    no_longer next root names l v (going next root names l v run.whole.smooth run.draws) run.whole.ended w
    (going next root names l w smooth draws)
