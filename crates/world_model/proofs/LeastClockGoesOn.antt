-- A group of tasks that all wait at phasers, to pass or to signal, and that share these with nobody else, can't
-- be: one with the least clock can go on. A bound doesn't hold it back, since a task that a bound holds back is
-- later than the waiter for which it waits.
use Rattle.std.proofs.Common.{◌≡◌, ◌⊎◌, ℕ, ◌+◌, ◌<◌, ◌≤◌, Bool, true, false, ◌&&◌, ◌||◌, ◌==◌, not, cond, List, [], ◌∷◌, Option, Some, refl, sym, subst, ap, ◌∙◌, inl, inr, arith}
use Rattle.std.specs.List.{list_any}
use Rattle.std.proofs.lemmas.Bool.{and_parts, and_from, or_cases, or_parts, or_left, or_right, cases_Bool, cases_lt, eqb-true, eq-eqb, not-true, true≢false, false≢true, false_from_ne_true}
use Rattle.phase_modes.specs.Lists.{is_empty}
use Rattle.phase_modes.specs.declared.limits.Limits.{Limits}
use Rattle.phase_modes.specs.Mode.{can_signal, can_wait}
use Rattle.phase_model.specs.declared.history.Event.TheVariants.{Claim as Claimed, Did as Done, Pass as Passed}
use Rattle.phase_model.specs.Tasks.{is_live, has_mode}
use Rattle.phase_model.specs.Phases.{waits, signals, is_closed}
use Rattle.phase_model.specs.Singles.{is_proposed, has_proposed, is_done, is_settled}
use Rattle.phase_model.specs.Rules.{is_permitted}
use Rattle.phase_model.proofs.Legal.{at_or_ahead}
use Rattle.phase_model.proofs.SingleRules.{claim_follows, did_follows}
use Rattle.phase_model.proofs.Proposers.{Settles, somebody_settles, claimed_proposed}
use Rattle.world_model.specs.declared.event.Step.TheVariants.{Sig, Pass}
use Rattle.world_model.specs.declared.event.WorldEvent.{WorldEvent}
use Rattle.world_model.specs.declared.event.WorldEvent.TheVariants.{Phaser, Begin}
use Rattle.world_model.specs.Parts.{terms_of, phaser_past}
use Rattle.world_model.specs.Tasks.{is_born}
use Rattle.world_model.specs.Due.{due, is_behind}
use Rattle.world_model.specs.Clock.{clock, base}
use Rattle.world_model.specs.Replies.{is_legal_world}
use Rattle.world_model.specs.TaskConditions.{last_entry}
use Rattle.world_model.specs.ClockLaws.{begins_turn, has_passed, is_pass_on, leads_to_end}
use Rattle.world_model.proofs.PhasersLegal.{phasers_legal}
use Rattle.world_model.proofs.PassesInTurns.{is_any_pass, passless}
use Rattle.world_model.proofs.ClocksAgree.{clocks_agree}
use Rattle.world_model.proofs.HeldBack.{IsHeldBack, held_back}
use Rattle.world_model.proofs.LeastClockCloses.{IsAlong, phase_closed}
use Rattle.world_model.proofs.SignalsComeFirst.{moves_act, is_any_sig, sigs_first, Moves, moves}
use Rattle.world_model.proofs.TurnsStand.{is_sig_on, Turning}
use Rattle.world_model.proofs.TurnsStandAlways.{turning, any_sig}
use Rattle.world_model.proofs.MovesInTurns.{move_act}
use Rattle.world_model.proofs.OwesInTurn.{owes_in_turn}
use Rattle.world_model.proofs.SignalsHavePasses.{signal_before_pass}
use Rattle.world_model.proofs.AbleOrWaits.{WaitsToPass, WaitsToSignal, WaitsAtPhaser}

pub moves_no_end : (o : Option WorldEvent) → moves_act o ≡ true → leads_to_end o ≡ false
moves_no_end (Some (Begin u b)) s = refl
moves_no_end o s = absurd cc

number_of_pass : (n m t u : ℕ) (xs ys : List WorldEvent)
    → Phaser n (Pass t) ∷ xs ≡ Phaser m (Pass u) ∷ ys → n ≡ m
number_of_pass n m t u xs ys h = cc

-- a signal isn't a pass
sig_no_pass : (n m t u : ℕ) (x : Option ℕ) (xs ys : List WorldEvent)
    → Phaser n (Sig t x) ∷ xs ≡ Phaser m (Pass u) ∷ ys → ⊥
sig_no_pass n m t u x xs ys h = absurd cc

module _ (l : Limits) (w : List WorldEvent) (k : is_legal_world l w ≡ true) where
  -- a task that waits at a phaser signals or takes a turn
  pub waiter_moves : (t : ℕ) → WaitsAtPhaser l t w → moves_act (last_entry t w) ≡ true
  waiter_moves t p =
      elim p.how [
        | inl q ↦ move_act l t w q.rest (Phaser p.on (Pass t)) k q.is refl
        | inr q ↦ move_act l t w q.rest (Phaser p.on (Sig t q.number)) k q.is refl
      ]

  pub waiter_goes_on : (t : ℕ) → WaitsAtPhaser l t w → leads_to_end (last_entry t w) ≡ false
  waiter_goes_on t p = moves_no_end (last_entry t w) (waiter_moves t p)

  -- where it waits to pass, it is in a turn
  passer_turns : (t n : ℕ) → WaitsToPass l t n w → begins_turn (last_entry t w) ≡ true
  passer_turns t n p =
      elim (cases_Bool (begins_turn (last_entry t w))) [
        | inl b ↦ b
        | inr b ↦
            absurd (true≢false
            (subst (λ ds. list_any is_any_pass ds ≡ false) p.is (passless l t w k (ap (λ x. not x) b))))
      ]

  -- and it has no signal before it
  no_more_sigs : (t m n : ℕ) → WaitsToPass l t m w → list_any (is_sig_on n) (due t w) ≡ false
  no_more_sigs t m n p =
      let acts = move_act l t w p.rest (Phaser m (Pass t)) k p.is refl in
      let shape : Moves t (Phaser m (Pass t) ∷ p.rest) = subst (λ xs. Moves t xs) p.is (moves l t w k acts) in
      let none =
      not-true (list_any is_any_sig p.rest)
      (and_parts (not (list_any is_any_sig p.rest)) (sigs_first p.rest) shape.first).0 in
      let later : list_any (is_sig_on n) p.rest ≡ false =
      false_from_ne_true (list_any (is_sig_on n) p.rest)
      (λ y. true≢false (sym (any_sig t w p.rest n n p.rest y) ∙ none)) in
      subst (λ xs. list_any (is_sig_on n) xs ≡ false) (sym p.is) later

  ahead_by_one : (t n : ℕ) → has_mode can_signal t (phaser_past n w) ≡ true
      → is_behind t (phaser_past n w) ≡ false → signals t (phaser_past n w) ≡ waits t (phaser_past n w) + 1
  ahead_by_one t n s b =
      let h = phaser_past n w in
      elim (at_or_ahead l (terms_of n w) h (phasers_legal l w k n) t s) [
        | inl same ↦
            absurd (true≢false (sym (and_from (has_mode can_signal t h) (signals t h == waits t h) s
            (eq-eqb (signals t h) (waits t h) same)) ∙ b))
        | inr one ↦ one
      ]

  -- on each of its phasers it has passed in this turn, or it has signalled
  there : (s m n : ℕ) → WaitsToPass l s m w → has_mode can_signal s (phaser_past n w) ≡ true
      → (has_passed s n w ≡ true) ⊎ (signals s (phaser_past n w) ≡ waits s (phaser_past n w) + 1)
  there s m n p c =
      elim (cases_Bool (list_any (is_pass_on n) (due s w))) [
        | inl y ↦
            let acts = move_act l s w p.rest (Phaser m (Pass s)) k p.is refl in
            let q : Turning s w (due s w) = turning l s w k acts in
            let ahead : is_behind s (phaser_past n w) ≡ false =
            false_from_ne_true (is_behind s (phaser_past n w))
            (λ b. true≢false (sym ((q.passes n y).1 b) ∙ no_more_sigs s m n p)) in
            inr (ahead_by_one s n c ahead)
        | inr y ↦
            inl (passed (begins_turn (last_entry s w)) (is_empty (due s w))
            (list_any (is_pass_on n) (due s w)) (passer_turns s m p) (ap (λ ds. is_empty ds) p.is) y)
      ]
    where
      passed : (a b c : Bool) → a ≡ true → b ≡ false → c ≡ false → (a && not b && not c) ≡ true
      passed a b c x y z = rw (x, y, z) refl

  -- a task that is held at a signal has passed nothing in its turn: it is as far as its clock says
  held_at : (s n : ℕ) → is_born s w ≡ true → leads_to_end (last_entry s w) ≡ false
      → is_live s (phaser_past n w) ≡ true → WaitsToSignal l s n w
      → signals s (phaser_past n w) + base n w ≡ clock s w
  held_at s n born goes_on live q =
      let h = phaser_past n w in
      let sig : list_any (is_sig_on n) (due s w) ≡ true =
      subst (λ ds. list_any (is_sig_on n) ds ≡ true) (sym q.is)
      (or_left (n == n) (list_any (is_sig_on n) q.rest) (eq-eqb n n refl)) in
      let level : signals s h ≡ waits s h =
      eqb-true (signals s h) (waits s h)
      (and_parts (has_mode can_signal s h) (signals s h == waits s h) q.behind).1 in
      stands (signals s h) (waits s h) (base n w) (clock s w) (has_passed s n w) level
      (signal_before_pass l s n w k sig) (clocks_agree l w k s n live born goes_on)
    where
      stands : (ss ws b c : ℕ) (x : Bool) → ss ≡ ws → x ≡ false → ws + b ≡ c + cond x 1 0 → ss + b ≡ c
      stands ss ws b c true e p law = absurd (true≢false p)
      stands ss ws b c false e p law = plainly ss ws b c e law
        where
          plainly : (ss ws b c : ℕ) → ss ≡ ws → ws + b ≡ c + 0 → ss + b ≡ c
          plainly ss ws b c e law = omega arith

  -- who holds it back is behind it, by its clock too
  behind_it : (s u n : ℕ) → is_born u w ≡ true → leads_to_end (last_entry u w) ≡ false
      → is_live u (phaser_past n w) ≡ true → signals s (phaser_past n w) + base n w ≡ clock s w
      → waits u (phaser_past n w) < signals s (phaser_past n w) → clock u w < clock s w
  behind_it s u n born goes_on live at less =
      let h = phaser_past n w in
      lesser (signals s h) (waits u h) (base n w) (clock s w) (clock u w) (cond (has_passed u n w) 1 0) at less
      (clocks_agree l w k u n live born goes_on)
    where
      lesser : (ss wu b cs cu x : ℕ) → ss + b ≡ cs → wu < ss → wu + b ≡ cu + x → cu < cs
      lesser ss wu b cs cu x at less law = omega arith

  module _ (G : ℕ → Type 0) (members : (s : ℕ) → G s → (is_born s w ≡ true) × WaitsAtPhaser l s w)
      (alone : (t s : ℕ) → G t → (p : WaitsAtPhaser l t w) → is_live s (phaser_past p.on w) ≡ true → G s) where
    -- a member that is held at a signal is later than another member
    later_than : (s : ℕ) → (g : G s) → WaitsToSignal l s (members s g).1.on w
        → (u : ℕ) × G u × (clock u w < clock s w)
    later_than s g q =
        let p = (members s g).1 in
        let n = p.on in
        let h = phaser_past n w in
        let slow : IsHeldBack (signals s h) h = held_back (terms_of n w).bound (signals s h) h q.held in
        let gu = alone s slow.by g p slow.live in
        let m = members slow.by gu in (
          slow.by,
          gu,
          behind_it s slow.by n m.0 (waiter_goes_on slow.by m.1) slow.live
              (held_at s n (members s g).0 (waiter_goes_on s p) p.live q) slow.behind,
        )

    -- the one with the least clock isn't held, and could pass
    pub group_goes_on : (t : ℕ) → G t → ((s : ℕ) → G s → clock t w ≤ clock s w) → ⊥
    group_goes_on t g least =
        let p = (members t g).1 in
        elim p.how [
          | inr q ↦ let r = later_than t g q in not_both (clock t w) (clock r.0 w) (least r.0 r.1) r.2
          | inl q ↦ passer p.on p.live q (λ u v. alone t u g p v)
        ]
      where
        not_both : (a b : ℕ) → a ≤ b → b < a → ⊥
        not_both a b x y = omega arith

        before_both : (a b c : ℕ) → a ≤ b → b < c → a < c
        before_both a b c x y = omega arith

        not_passed : (a b c : Bool) → c ≡ true → (a && not b && not c) ≡ false
        not_passed true true c x = refl
        not_passed true false c x = rw x refl
        not_passed false b c x = refl

        along : (n s : ℕ) → G s → has_mode can_signal s (phaser_past n w) ≡ true → IsAlong t s n w
        along n s gs c =
            let m = members s gs in
            record {
              born = m.0;
              goes_on = waiter_goes_on s m.1;
              no_earlier = least s gs;
              there =
                  elim m.1.how [
                    | inl q ↦
                        elim (there s m.1.on n q c) [ inl x ↦ inl x | inr x ↦ inr (inl x) ]
                    | inr q ↦
                        let r = later_than s gs q in
                        inr (inr (before_both (clock t w) (clock r.0 w) (clock s w) (least r.0 r.1) r.2))
                  ];
            }

        may_pass : (t n : ℕ) → is_live t (phaser_past n w) ≡ true → is_behind t (phaser_past n w) ≡ false
            → is_closed (waits t (phaser_past n w)) (phaser_past n w) ≡ true
            → is_settled (waits t (phaser_past n w)) (phaser_past n w) ≡ true
            → is_permitted l (terms_of n w) (phaser_past n w) (Passed t) ≡ true
        may_pass t n v b c s =
            let h = phaser_past n w in
            all_three (is_live t h) (has_mode can_signal t h) (signals t h == waits t h + 1)
            (has_mode can_wait t h) (is_closed (waits t h) h) (is_settled (waits t h) h) v
            (λ m. eq-eqb (signals t h) (waits t h + 1) (ahead_by_one t n m b)) c s
          where
            all_three : (a b c d e f : Bool) → a ≡ true → (b ≡ true → c ≡ true) → e ≡ true → f ≡ true
                → (a && (not b || c) && (not d || (e && f))) ≡ true
            all_three a true c true e f x y z v = rw (x, y refl, z, v) refl
            all_three a true c false e f x y z v = rw (x, y refl) refl
            all_three a false c true e f x y z v = rw (x, z, v) refl
            all_three a false c false e f x y z v = rw x refl

        -- who may settle the statement waits at this very pass, and could claim or report
        settler : (n p : ℕ) → is_closed p (phaser_past n w) ≡ true → is_settled p (phaser_past n w) ≡ false
            → ((u : ℕ) → is_live u (phaser_past n w) ≡ true → G u) → ⊥
        settler n p closed unsettled inside =
            let h = phaser_past n w in
            let terms = terms_of n w in
            let legal = phasers_legal l w k n in
            let z : Settles l terms h p = somebody_settles l terms h legal p closed unsettled in
            let u = z.task in
            let undone : is_done p h ≡ false = (or_parts (not (is_proposed p h)) (is_done p h) unsettled).1 in
            let m = (members u (inside u z.stands.live)).1 in
            let proposed : has_proposed u p h ≡ true =
            elim z.may [
              | inl c ↦
                  subst (λ v. has_proposed u v h ≡ true) z.stands.at (claim_follows l terms h u c).proposed
              | inr d ↦
                  subst (λ v. has_proposed u v h ≡ true) z.stands.at
                  (claimed_proposed l terms h legal u (waits u h) (did_follows l terms h u d).claimed)
            ] in
            let left = (owes_in_turn l w k n u p proposed undone).1 in
            elim m.how [
              | inr q ↦ sig_no_pass m.on n u u q.number q.rest [] (sym q.is ∙ left)
              | inl q ↦
                  let here : m.on ≡ n = number_of_pass m.on n u u q.rest [] (sym q.is ∙ left) in
                  elim z.may [
                    | inl c ↦
                        true≢false (sym c ∙ subst (λ v.
                        is_permitted l (terms_of v w) (phaser_past v w) (Claimed u) ≡ false) here q.no_claim)
                    | inr d ↦
                        true≢false (sym d ∙ subst (λ v.
                        is_permitted l (terms_of v w) (phaser_past v w) (Done u) ≡ false) here q.no_did)
                  ]
            ]

        passer : (n : ℕ) → is_live t (phaser_past n w) ≡ true → WaitsToPass l t n w
            → ((u : ℕ) → is_live u (phaser_past n w) ≡ true → G u) → ⊥
        passer n live q inside =
            let h = phaser_past n w in
            let before : list_any (is_pass_on n) (due t w) ≡ true =
            subst (λ ds. list_any (is_pass_on n) ds ≡ true) (sym q.is)
            (or_left (n == n) (list_any (is_pass_on n) q.rest) (eq-eqb n n refl)) in
            let waiting : has_passed t n w ≡ false =
            not_passed (begins_turn (last_entry t w)) (is_empty (due t w))
            (list_any (is_pass_on n) (due t w)) before in
            let closed : is_closed (waits t h) h ≡ true =
            phase_closed l w k t n live (members t g).0 (waiter_goes_on t (members t g).1) waiting
            (λ s v m. along n s (inside s v) m) in
            elim (cases_Bool (is_settled (waits t h) h)) [
              | inl settled ↦ true≢false (sym (may_pass t n live q.signalled closed settled) ∙ q.no_pass)
              | inr unsettled ↦ settler n (waits t h) closed unsettled inside
            ]

-- in a list with something in it, something has the least measure
pub record Least (m : ℕ → ℕ) (xs : List ℕ) : Type 0 where
  pub at : ℕ
  pub listed : list_any (λ y. y == at) xs ≡ true
  pub least : (y : ℕ) → list_any (λ z. z == y) xs ≡ true → m at ≤ m y

pub least_of : (m : ℕ → ℕ) (x : ℕ) (xs : List ℕ) → Least m (x ∷ xs)
least_of m x [] =
    record {
      at = x;
      listed = or_left (x == x) false (eq-eqb x x refl);
      least = λ y h. subst (λ v. m x ≤ m v) (only y h) (omega arith);
    }
  where
    only : (y : ℕ) → ((x == y) || false) ≡ true → x ≡ y
    only y h = elim (or_cases (x == y) false h) [ inl e ↦ eqb-true x y e | inr e ↦ absurd (false≢true e) ]
least_of m x (z ∷ zs) =
    let r : Least m (z ∷ zs) = least_of m z zs in
    elim (cases_lt (m x) (m r.at)) [
      | inl less ↦
          record {
            at = x;
            listed = or_left (x == x) (list_any (λ y. y == x) (z ∷ zs)) (eq-eqb x x refl);
            least = λ y h. elim (or_cases (x == y) (list_any (λ v. v == y) (z ∷ zs)) h) [
              | inl e ↦ subst (λ v. m x ≤ m v) (eqb-true x y e) (omega arith)
              | inr e ↦ omega (arith, less, r.least y e)
            ];
          }
      | inr most ↦
          record {
            at = r.at;
            listed = or_right (x == r.at) (list_any (λ y. y == r.at) (z ∷ zs)) r.listed;
            least = λ y h. elim (or_cases (x == y) (list_any (λ v. v == y) (z ∷ zs)) h) [
              | inl e ↦ subst (λ v. m r.at ≤ m v) (eqb-true x y e) most
              | inr e ↦ r.least y e
            ];
          }
    ]
