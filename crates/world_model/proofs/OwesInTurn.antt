-- Who proposed a statement that isn't done is in its turn, and has its pass before it.
use Rattle.std.proofs.Common.{◌≡◌, ℕ, ◌+◌, Bool, true, false, ◌&&◌, ◌||◌, ◌==◌, not, cond, List, [], ◌∷◌, Some, None, refl, sym, subst, ap, ◌∙◌, inl, inr}
use Rattle.std.specs.Prelude.{drop, slice_get, option_map}
use Rattle.std.specs.Option.{option_map_or}
use Rattle.std.proofs.lemmas.Bool.{and_parts, or_cases, or_parts, cases_Bool, eqb-true, eq-eqb, not-true, true≢false, false≢true, false_from_ne_true}
use Rattle.phase_modes.specs.Lists.{is_empty}
use Rattle.phase_modes.specs.declared.limits.Limits.{Limits}
use Rattle.phase_modes.specs.declared.refusal.Refusal.TheVariants.{NotRegistered, NotSignalled, NotNow}
use Rattle.phase_modes.specs.Mode.{can_signal, can_wait}
use Rattle.phase_model.specs.declared.history.Event.{Event}
use Rattle.phase_model.specs.declared.history.Event.TheVariants.{Sig as Signalled, Claim as Claimed, Did as Done, Pass as Passed, Look as Looked}
use Rattle.phase_model.specs.Tasks.{is_live, has_mode}
use Rattle.phase_model.specs.Phases.{waits, signals}
use Rattle.phase_model.specs.Singles.{has_proposed, has_claimed, is_done, is_settled}
use Rattle.phase_model.specs.Rules.{is_permitted, has_room}
use Rattle.phase_model.specs.Replies as phaser
use Rattle.phase_model.specs.declared.call.Call.TheVariants.{Pass as pass}
use Rattle.phase_model.specs.Replies.{decided}
use Rattle.phase_model.proofs.Legal.{pass_follows}
use Rattle.phase_model.proofs.SingleRules.{did_follows}
use Rattle.phase_model.proofs.SingleReplies.{singles_are_answered}
use Rattle.phase_model.proofs.Reserves.{did_has_room}
use Rattle.phase_model.proofs.Proposers.{IsBefore, owes, single_waits, proposer_proposes}
use Rattle.world_model.specs.declared.event.Step.TheVariants.{Sig, Claim, Did, Pass}
use Rattle.world_model.specs.declared.event.Tried.TheVariants.{Begun as Beginning}
use Rattle.world_model.specs.declared.event.WorldEvent.{WorldEvent}
use Rattle.world_model.specs.declared.event.WorldEvent.TheVariants.{Phaser, Finish, Begin, Refuse, Fail}
use Rattle.world_model.specs.Parts.{terms_of, phaser_past, event_for, story_of}
use Rattle.world_model.specs.Actors.{actor}
use Rattle.world_model.specs.Due.{due, is_entry, is_of_single, before_pass, next_event, or_single, is_idle}
use Rattle.world_model.specs.PartReplies.{returned, phaser_reply}
use Rattle.world_model.specs.Continuing.{next_done}
use Rattle.world_model.specs.GivingUp.{is_refused_by, is_reg, may_fail}
use Rattle.world_model.specs.Replies.{is_legal_world, is_accepted}
use Rattle.world_model.specs.TaskConditions.{last_entry}
use Rattle.world_model.proofs.MadeMeans.{last_accepted, part_made}
use Rattle.world_model.proofs.AbleComputed.{idle_in_act, refuse_idle, made_done_where}
use Rattle.world_model.proofs.OthersLeave.{last_plain}
use Rattle.world_model.proofs.PhasersLegal.{phasers_legal, step_allowed}
use Rattle.world_model.proofs.AbruptEnds.{nothing_due, continues}
use Rattle.world_model.proofs.DueStays.{IsFirstDue, first_is}
use Rattle.world_model.proofs.SignalsComeFirst.{moves_act, is_lone_pass, Moves, moves}
use Rattle.world_model.proofs.MovesInTurns.{move_act}
use Rattle.world_model.proofs.SmallWords.{head_same}

-- what a call is answered whose causes don't stand, where there is room
done_made : (h : List Event) (e : Event) (n : ℕ) → is_refused_by n (returned h (phaser.done e)) ≡ false
done_made h (Passed t) n = refl
done_made h (Looked t a x) n = refl
done_made h e n = refl

module _ (l : Limits) (w : List WorldEvent) (k : is_legal_world l w ≡ true) (n t p : ℕ)
    (proposed : has_proposed t p (phaser_past n w) ≡ true)
    (undone : is_done p (phaser_past n w) ≡ false) where
  stands : IsBefore t p (phaser_past n w)
  stands = owes l (terms_of n w) (phaser_past n w) (phasers_legal l w k n) t p proposed undone

  open_single : is_settled p (phaser_past n w) ≡ false
  open_single =
      ap (λ b. not b || is_done p (phaser_past n w))
      (proposer_proposes t p (phaser_past n w) proposed) ∙ undone

  -- it may not pass
  may_not_pass : is_permitted l (terms_of n w) (phaser_past n w) (Passed t) ≡ true → ⊥
  may_not_pass y =
      let f = pass_follows l (terms_of n w) (phaser_past n w) t y in
      true≢false (sym (subst (λ q. is_settled q (phaser_past n w) ≡ true) stands.at
      (f.settled (single_waits t (phaser_past n w) stands.single))) ∙ open_single)

  claim_answer : (x : ℕ) → is_permitted l (terms_of n w) (phaser_past n w) (Claimed t) ≡ true
      → is_refused_by x (phaser_reply l w n (Claim t)) ≡ false
  claim_answer x y =
      subst (λ r. is_refused_by x (returned (phaser_past n w) r) ≡ false)
      (sym ((singles_are_answered (story_of l n w) (phasers_legal l w k n) t).0 y)) refl

  did_answer : (x : ℕ) → is_permitted l (terms_of n w) (phaser_past n w) (Done t) ≡ true
      → is_refused_by x (phaser_reply l w n (Did t)) ≡ false
  did_answer x y =
      let h = phaser_past n w in
      let f = did_follows l (terms_of n w) h t y in
      let room = did_has_room l (terms_of n w) h (phasers_legal l w k n) t y in
      answered (is_live t h) (has_claimed t (waits t h) h) (is_done (waits t h) h)
      (has_room l (Done t ∷ h)) f.live f.claimed f.undone room
    where
      answered : (a b c room : Bool) → a ≡ true → b ≡ true → c ≡ false → room ≡ true
          → is_refused_by x (returned (phaser_past n w) (decided
          (cond a (cond b (cond (not c) None (Some NotNow)) (Some NotNow)) (Some NotRegistered)) false
          room (Done t))) ≡ false
      answered a b c room p q r s = rw (p, q, r, s) refl

  pass_answer : (x : ℕ) → is_permitted l (terms_of n w) (phaser_past n w) (Claimed t) ≡ false
      → ((x == 7) || (x == 15)) ≡ true → is_refused_by x (phaser_reply l w n (Pass t)) ≡ false
  pass_answer x c s =
      let h = phaser_past n w in
      let e = phaser.event_for l (terms_of n w) h (pass t) in
      let no_pass : is_permitted l (terms_of n w) h (Passed t) ≡ false =
      false_from_ne_true (is_permitted l (terms_of n w) h (Passed t)) may_not_pass in
      answered (is_live t h) (not (has_mode can_signal t h) || (signals t h == waits t h + 1))
      (has_mode can_wait t h) (is_permitted l (terms_of n w) h (Passed t))
      (is_permitted l (terms_of n w) h (Claimed t))
      (has_room l (e ∷ h)) e (single_waits t h stands.single) no_pass c
    where
      number : (r : ℕ) → (r == 7) ≡ false → (r == 15) ≡ false → (r == x) ≡ false
      number r y z =
          false_from_ne_true (r == x) (λ v.
          let same : r ≡ x = eqb-true r x v in
          elim (or_cases (x == 7) (x == 15) s) [
            | inl g ↦ true≢false (sym (subst (λ q. (q == 7) ≡ true) (sym same) g) ∙ y)
            | inr g ↦ true≢false (sym (subst (λ q. (q == 15) ≡ true) (sym same) g) ∙ z)
          ])

      answered : (a b c p q room : Bool) (e : Event) → c ≡ true → p ≡ false → q ≡ false
          → is_refused_by x (returned (phaser_past n w) (decided (cond a (cond b None (Some NotSignalled))
          (Some NotRegistered)) (c && not p && not q) room e)) ≡ false
      answered false b c p q room e y z v = number 1 refl refl
      answered true false c p q room e y z v = number 6 refl refl
      answered true true c p q room e y z v = rw (y, z, v) refl

  before_answer : (x : ℕ) → ((x == 7) || (x == 15)) ≡ true
      → is_refused_by x (next_done l w (before_pass l n t w)) ≡ false
  before_answer x s =
      by (is_permitted l (terms_of n w) (phaser_past n w) (Claimed t)) (is_permitted l (terms_of n w)
      (phaser_past n w) (Done t)) (claim_answer x) (did_answer x) (λ c. pass_answer x c s)
    where
      by : (b c : Bool) → (b ≡ true → is_refused_by x (phaser_reply l w n (Claim t)) ≡ false)
          → (c ≡ true → is_refused_by x (phaser_reply l w n (Did t)) ≡ false)
          → (b ≡ false → is_refused_by x (phaser_reply l w n (Pass t)) ≡ false) → is_refused_by x (next_done l
          w (cond b (Phaser n (Claim t)) (cond c (Phaser n (Did t)) (Phaser n (Pass t))))) ≡ false
      by true c f g h = f refl
      by false true f g h = g refl
      by false false f g h = h refl

  no_reg : is_reg (before_pass l n t w) ≡ false
  no_reg =
      by (is_permitted l (terms_of n w) (phaser_past n w) (Claimed t))
      (is_permitted l (terms_of n w) (phaser_past n w) (Done t))
    where
      by : (b c : Bool)
          → is_reg (cond b (Phaser n (Claim t)) (cond c (Phaser n (Did t)) (Phaser n (Pass t)))) ≡ false
      by true c = refl
      by false true = refl
      by false false = refl

  -- it may not give up
  may_not_fail : (x : ℕ) → due t w ≡ Phaser n (Pass t) ∷ [] → may_fail l w t x ≡ true → ⊥
  may_not_fail x here y =
      let next : next_event l t w ≡ Some (before_pass l n t w) =
      ap (λ ds. option_map (or_single l w) (slice_get ds 0)) here in
      let sevens =
      (x == 7 || x == 15) && option_map_or (λ e. is_refused_by x (next_done l w e))
      (next_event l t w) false in
      let regs = x == 14 && option_map_or is_reg (next_event l t w) false in
      elim (or_cases (sevens || regs) (x == 23 && is_idle t w) y) [
        | inr z ↦
            true≢false (sym (nothing_due t w (and_parts (x == 23) (is_idle t w) z).1).0
            ∙ ap (λ ds. is_empty ds) here)
        | inl z ↦
            elim (or_cases sevens regs z) [
              | inl v ↦
                  let p =
                  and_parts (x == 7 || x == 15) (option_map_or (λ e. is_refused_by x (next_done l w e))
                  (next_event l t w) false) v in
                  true≢false (sym (subst (λ o. option_map_or (λ e. is_refused_by x (next_done l w e)) o false
                  ≡ true) next p.1) ∙ before_answer x p.0)
              | inr v ↦
                  true≢false (sym (subst (λ o. option_map_or is_reg o false ≡ true) next
                  (and_parts (x == 14) (option_map_or is_reg (next_event l t w) false) v).1) ∙ no_reg)
            ]
      ]

-- t is in a turn, with the pass of n alone before it
abbrev pub HasPassLeft : ℕ → ℕ → List WorldEvent → Type 0
HasPassLeft t n w = (moves_act (last_entry t w) ≡ true) × (due t w ≡ Phaser n (Pass t) ∷ [])

lone_pass : (t n : ℕ) (ds : List WorldEvent) → is_lone_pass t n ds ≡ true → ds ≡ Phaser n (Pass t) ∷ []
lone_pass t n (Phaser m (Pass u) ∷ []) k =
    let p = and_parts (m == n) (u == t) k in
    let a : m ≡ n = eqb-true m n p.0 in
    let b : u ≡ t = eqb-true u t p.1 in
    cc
lone_pass t n ds k = absurd cc

module _ (l : Limits) (w : List WorldEvent) (k : is_legal_world l w ≡ true) (n t p : ℕ) where
  -- the proposal
  now : (e : WorldEvent) → is_accepted l w e ≡ true → has_proposed t p (phaser_past n w) ≡ false
      → has_proposed t p (phaser_past n (e ∷ w)) ≡ true → HasPassLeft t n (e ∷ w)
  now (Phaser m (Sig u (Some x))) a old new =
      let e = Phaser m (Sig u (Some x)) in
      elim (cases_Bool (m == n)) [
        | inr s ↦
            absurd (true≢false (sym (subst (λ b. has_proposed t p (cond b
            (Signalled u (Some x) ∷ phaser_past n w) (phaser_past n w)) ≡ true) s new) ∙ old))
        | inl s ↦
            let g =
            subst (λ b. has_proposed t p
            (cond b (Signalled u (Some x) ∷ phaser_past n w) (phaser_past n w)) ≡ true) s new in
            elim (or_cases (u == t && signals u (phaser_past n w) == p)
            (has_proposed t p (phaser_past n w)) g) [
              | inr y ↦ absurd (true≢false (sym y ∙ old))
              | inl y ↦
                  let mine : u ≡ t =
                  eqb-true u t (and_parts (u == t) (signals u (phaser_past n w) == p) y).0 in
                  let d : IsFirstDue u w e = first_is l w e (part_made l w e a).0 refl in
                  let act = move_act l u w d.rest e k d.is refl in
                  let shape : Moves u (e ∷ d.rest) = subst (λ xs. Moves u xs) d.is (moves l u w k act) in
                  let rest : d.rest ≡ Phaser n (Pass u) ∷ [] =
                  lone_pass u n d.rest
                  (subst (λ v. is_lone_pass u v d.rest ≡ true) (eqb-true m n s) shape.lone) in
                  let after : due u (e ∷ w) ≡ d.rest = rw (eq-eqb u u refl) (ap (λ xs. drop 1 xs) d.is) in
                  subst (λ v. HasPassLeft v n (e ∷ w)) mine (act, after ∙ rest)
            ]
      ]
  now (Phaser m (Sig u None)) a old new = absurd (true≢false (sym (same (m == n) new) ∙ old))
    where
      same : (b : Bool) → has_proposed t p (cond b (Signalled u None ∷ phaser_past n w) (phaser_past n w))
          ≡ true → has_proposed t p (phaser_past n w) ≡ true
      same true h = h
      same false h = h
  now (Phaser m s) a old new = absurd (true≢false (sym (same (m == n) new) ∙ old))
    where
      same : (b : Bool) → has_proposed t p
          (cond b (event_for (terms_of n w) (phaser_past n w) s ∷ phaser_past n w) (phaser_past n w)) ≡ true
          → has_proposed t p (phaser_past n w) ≡ true
      same true h = h
      same false h = h
  now (Finish f s) a old new = absurd (true≢false (sym new ∙ old))
  now (Begin u b) a old new = absurd (true≢false (sym new ∙ old))
  now (Refuse u b x) a old new = absurd (true≢false (sym new ∙ old))
  now (Fail u x) a old new = absurd (true≢false (sym new ∙ old))

  not_done_before : (e : WorldEvent) → is_done p (phaser_past n (e ∷ w)) ≡ false
      → is_done p (phaser_past n w) ≡ false
  not_done_before (Phaser m (Did u)) d = by (m == n) d
    where
      by : (b : Bool) → is_done p (cond b (Done u ∷ phaser_past n w) (phaser_past n w)) ≡ false
          → is_done p (phaser_past n w) ≡ false
      by true h = (or_parts (waits u (phaser_past n w) == p) (is_done p (phaser_past n w)) h).1
      by false h = h
  not_done_before (Phaser m s) d = by (m == n) d
    where
      by : (b : Bool) → is_done p (cond b (event_for (terms_of n w) (phaser_past n w) s ∷ phaser_past n w)
          (phaser_past n w)) ≡ false → is_done p (phaser_past n w) ≡ false
      by true h = h
      by false h = h
  not_done_before e d = d

  -- it stays so until the pass
  still : (e : WorldEvent) → is_accepted l w e ≡ true → has_proposed t p (phaser_past n w) ≡ true
      → is_done p (phaser_past n w) ≡ false → HasPassLeft t n w → HasPassLeft t n (e ∷ w)
  still e a y d q =
      elim (cases_Bool (is_entry t e)) [
        | inl x ↦ absurd (by_entry e a x)
        | inr x ↦ (
          ap moves_act (last_plain t e w x) ∙ q.0,
          elim (cases_Bool (actor w e == t && not (is_of_single e))) [
            | inr o ↦ rw (x, o) q.1
            | inl o ↦ absurd (by_own e a x (and_parts (actor w e == t) (not (is_of_single e)) o))
          ],
        )
      ]
    where
      full : is_empty (due t w) ≡ false
      full = ap (λ ds. is_empty ds) q.1

      by_entry : (c : WorldEvent) → is_accepted l w c ≡ true → is_entry t c ≡ true → ⊥
      by_entry (Begin u b) h x =
          true≢false (sym (nothing_due t w (subst (λ v. is_idle v w ≡ true) (eqb-true u t x)
          (idle_in_act l w u (Beginning b) h))).0 ∙ full)
      by_entry (Refuse u b v) h x =
          true≢false (sym (nothing_due t w (subst (λ v. is_idle v w ≡ true) (eqb-true u t x)
          (refuse_idle l w u b v (made_done_where _ h)))).0 ∙ full)
      by_entry (Fail u v) h x =
          may_not_fail l w k n t p y d v q.1
          (subst (λ g. may_fail l w g v ≡ true) (eqb-true u t x) (made_done_where _ h))
      by_entry (Phaser m s) h x = false≢true x
      by_entry (Finish f s) h x = false≢true x

      by_own : (c : WorldEvent) → is_accepted l w c ≡ true → is_entry t c ≡ false
          → ((actor w c == t) ≡ true) × (not (is_of_single c) ≡ true) → ⊥
      by_own c h x o =
          let mine : actor w c ≡ t = eqb-true (actor w c) t o.0 in
          let some : is_empty (due (actor w c) w) ≡ false =
          subst (λ v. is_empty (due v w) ≡ false) (sym mine) full in
          let next = continues l w c h (subst (λ v. is_entry v c ≡ false) (sym mine) x) some in
          let f : IsFirstDue t w c =
          subst (λ v. IsFirstDue v w c) mine (first_is l w c next (not-true (is_of_single c) o.1)) in
          let same : c ≡ Phaser n (Pass t) = head_same c (Phaser n (Pass t)) f.rest [] (sym f.is ∙ q.1) in
          let allowed = step_allowed l w n (Pass t) (subst (λ v. is_accepted l w v ≡ true) same h) in
          may_not_pass l w k n t p y d (and_parts (is_permitted l (terms_of n w) (phaser_past n w) (Passed t))
          (has_room l (Passed t ∷ phaser_past n w)) allowed).0

-- the law
pub owes_in_turn : (l : Limits) (w : List WorldEvent) → is_legal_world l w ≡ true → (n t p : ℕ)
    → has_proposed t p (phaser_past n w) ≡ true → is_done p (phaser_past n w) ≡ false → HasPassLeft t n w
owes_in_turn l [] k n t p y d = absurd (false≢true y)
owes_in_turn l (e ∷ w) k n t p y d =
    let a = last_accepted l e w k in
    elim (cases_Bool (has_proposed t p (phaser_past n w))) [
      | inl old ↦
          let undone = not_done_before l w a.1 n t p e d in
          still l w a.1 n t p e a.0 old undone (owes_in_turn l w a.1 n t p old undone)
      | inr new ↦ now l w a.1 n t p e a.0 new y
    ]
