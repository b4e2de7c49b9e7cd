-- No clock passes the number of turns that were ever begun.
use Rattle.std.proofs.Common.{◌≡◌, ℕ, ◌+◌, ◌≤◌, Bool, true, false, ◌&&◌, ◌==◌, not, cond, List, [], ◌∷◌, ◌++◌, map, Option, Some, None, refl, sym, subst, ap, ◌∙◌, inl, inr, arith}
use Rattle.std.specs.Prelude.{drop, filter}
use Rattle.std.proofs.lemmas.Bool.{cases_Bool, eqb-true}
use Rattle.phase_modes.specs.declared.limits.Limits.{Limits}
use Rattle.phase_modes.specs.Lists.{is_empty}
use Rattle.finish_core.specs.declared.event.FinishEvent.TheVariants.{Opened, Spawned, Ended, Shut as Shutting}
use Rattle.world_model.specs.declared.event.Step.TheVariants.{Make, Reg, Sig, Claim, Did, Pass, Send, Look, Drop}
use Rattle.world_model.specs.declared.event.Begun.{Begun}
use Rattle.world_model.specs.declared.event.Begun.TheVariants.{Wait, Next, NextSingle}
use Rattle.world_model.specs.declared.event.WorldEvent.{WorldEvent}
use Rattle.world_model.specs.declared.event.WorldEvent.TheVariants.{Phaser, Finish, Begin, Refuse, Fail}
use Rattle.world_model.specs.Parts.{phaser_past}
use Rattle.world_model.specs.Tasks.{spawner, phasers_of}
use Rattle.world_model.specs.Actors.{actor}
use Rattle.world_model.specs.Due.{due, fixed_by, is_behind, is_entry, is_of_single}
use Rattle.world_model.specs.Replies.{is_accepted, is_legal_world}
use Rattle.world_model.specs.Clock.{clock, is_turn}
use Rattle.world_model.specs.TaskConditions.{last_entry}
use Rattle.world_model.specs.ClockLaws.{begins_turn}
use Rattle.world_model.proofs.SmallWords.{eq_self}
use Rattle.world_model.proofs.MadeMeans.{last_accepted}
use Rattle.world_model.proofs.OthersLeave.{due_own}
use Rattle.world_model.proofs.PassesInTurns.{passing, unborn_none}
use Rattle.world_model.proofs.AgentOfTask.{birth_unborn}

-- the turns that were begun, by any task
abbrev pub turns_begun : List WorldEvent → ℕ
turns_begun [] = 0
turns_begun (Begin u b ∷ w) = cond (is_turn b) (turns_begun w + 1) (turns_begun w)
turns_begun (_ ∷ w) = turns_begun w

abbrev one_if : Bool → ℕ
one_if b = cond b 1 0

-- one while t is in the middle of a turn
abbrev under_way : ℕ → List WorldEvent → ℕ
under_way t w = one_if (begins_turn (last_entry t w) && not (is_empty (due t w)))

-- a turn that is under way was begun, and isn't on the clock yet
abbrev Within : ℕ → List WorldEvent → Type 0
Within t w = clock t w + under_way t w ≤ turns_begun w

at_most_one : (b : Bool) → one_if b ≤ 1
at_most_one true = omega arith
at_most_one false = omega arith

fewer_due : (q b : Bool) (ds : List WorldEvent)
    → one_if (q && not (is_empty (cond b (drop 1 ds) ds))) ≤ one_if (q && not (is_empty ds))
fewer_due false b ds = omega arith
fewer_due true true [] = omega arith
fewer_due true true (d ∷ ds) = at_most_one (not (is_empty ds))
fewer_due true false ds = omega arith

-- an event that is no entry of t begins no turn of t
no_more_under_way : (t : ℕ) (e : WorldEvent) (w : List WorldEvent) → is_entry t e ≡ false
    → under_way t (e ∷ w) ≤ under_way t w
no_more_under_way t e w n =
    rw n (fewer_due (begins_turn (last_entry t w)) (actor w e == t && not (is_of_single e)) (due t w))

add_le : (a b c d : ℕ) → a + b ≤ c → d ≤ b → a + d ≤ c
add_le a b c d h k = omega (arith, h, k)

le_trans : (a b c : ℕ) → a ≤ b → b ≤ c → a ≤ c
le_trans a b c h k = omega (arith, h, k)

-- so the law stays where the clock stays
kept : (t : ℕ) (e : WorldEvent) (w : List WorldEvent) → is_entry t e ≡ false → clock t (e ∷ w) ≡ clock t w
    → turns_begun w ≤ turns_begun (e ∷ w) → Within t w → Within t (e ∷ w)
kept t e w n c g h =
    subst (λ x. x + under_way t (e ∷ w) ≤ turns_begun (e ∷ w)) (sym c)
    (le_trans (clock t w + under_way t (e ∷ w)) (turns_begun w) (turns_begun (e ∷ w)) (add_le (clock t w)
    (under_way t w) (turns_begun w) (under_way t (e ∷ w)) h (no_more_under_way t e w n)) g)

same_le : (n : ℕ) → n ≤ n
same_le n = omega arith

more_or_same : (b : Bool) (n : ℕ) → n ≤ cond b (n + 1) n
more_or_same true n = omega arith
more_or_same false n = omega arith

-- a pass: the last one puts the turn on the clock
last_or_more : (b : Bool) (c n : ℕ) → c + 1 ≤ n → cond b (c + 1) c + one_if (not b) ≤ n
last_or_more true c n h = omega (arith, h)
last_or_more false c n h = omega (arith, h)

own_pass : (l : Limits) (w : List WorldEvent) (n u : ℕ) → is_legal_world l w ≡ true
    → is_accepted l w (Phaser n (Pass u)) ≡ true → Within u w → Within u (Phaser n (Pass u) ∷ w)
own_pass l w n u k h before =
    let p = passing l w n u k h in
    let e = Phaser n (Pass u) in
    let clock_after : clock u (e ∷ w) ≡ cond (is_empty p.rest) (clock u w + 1) (clock u w) =
    rw (eq_self u, p.here) refl in
    let due_after : due u (e ∷ w) ≡ p.rest =
    due_own u e w refl (eq_self u) refl ∙ ap (λ ds. drop 1 ds) p.here in
    let way_after : under_way u (e ∷ w) ≡ one_if (not (is_empty p.rest)) =
    ap (λ ds. one_if (begins_turn (last_entry u w) && not (is_empty ds))) due_after
    ∙ ap (λ b. one_if (b && not (is_empty p.rest))) p.turn
    in
    let way_before : under_way u w ≡ 1 = rw (p.turn, p.here) refl in
    let all : clock u w + 1 ≤ turns_begun w = subst (λ x. clock u w + x ≤ turns_begun w) way_before before in
    subst (λ x. x + under_way u (e ∷ w) ≤ turns_begun w) (sym clock_after)
    (subst (λ x. cond (is_empty p.rest) (clock u w + 1) (clock u w) + x ≤ turns_begun w) (sym way_after)
    (last_or_more (is_empty p.rest) (clock u w) (turns_begun w) all))

-- a birth: the child goes on from its spawner's clock
own_birth : (l : Limits) (w : List WorldEvent) (f u : ℕ) → is_legal_world l w ≡ true → is_accepted l w
    (Finish f (Spawned u)) ≡ true → Within (spawner u w) w → Within u (Finish f (Spawned u) ∷ w)
own_birth l w f u k h before =
    let e = Finish f (Spawned u) in
    let none : last_entry u w ≡ None = unborn_none l u w k (birth_unborn l w f u k h) in
    let clock_after : clock u (e ∷ w) ≡ clock (spawner u w) w = rw (eq_self u) refl in
    let way_after : under_way u (e ∷ w) ≡ 0 =
    ap (λ o. one_if (begins_turn o && not (is_empty (due u (e ∷ w))))) none in
    subst (λ x. x + under_way u (e ∷ w) ≤ turns_begun w) (sym clock_after)
    (subst (λ x. clock (spawner u w) w + x ≤ turns_begun w) (sym way_after)
    (add_le (clock (spawner u w) w) (under_way (spawner u w) w) (turns_begun w) 0 before (omega arith)))

-- without phasers nothing is due in a turn
none_due : (u : ℕ) (w : List WorldEvent) (b : Begun) → is_turn b ≡ true → is_empty (phasers_of u w) ≡ true
    → is_empty (fixed_by u b w) ≡ true
none_due u w b = by_act b (phasers_of u w)
  where
    signals_and_passes : (x : Option ℕ) (ns : List ℕ) → is_empty ns ≡ true
        → is_empty (map (λ n. Phaser n (Sig u x)) (filter (λ n. is_behind u (phaser_past n w)) ns)
        ++ map (λ n. Phaser n (Pass u)) ns) ≡ true
    signals_and_passes x [] k = refl
    signals_and_passes x (n ∷ ns) k = absurd cc

    passes : (ns : List ℕ) → is_empty ns ≡ true → is_empty (map (λ n. Phaser n (Pass u)) ns) ≡ true
    passes [] k = refl
    passes (n ∷ ns) k = absurd cc

    by_act : (b : Begun) (ns : List ℕ) → is_turn b ≡ true → is_empty (phasers_of u w) ≡ true
        → is_empty (fixed_by u b w) ≡ true
    by_act Wait ns t k = passes (phasers_of u w) k
    by_act Next ns t k = signals_and_passes None (phasers_of u w) k
    by_act (NextSingle x) ns t k = signals_and_passes (Some x) (phasers_of u w) k
    by_act b ns t k = absurd cc

-- a turn is on the clock at once, or it is under way
at_once_or_under_way : (turn none idle : Bool) (c x m : ℕ) → c + x ≤ m
    → (turn ≡ true → none ≡ true → idle ≡ true)
    → cond (turn && none) (c + 1) c + one_if (turn && not idle) ≤ cond turn (m + 1) m
at_once_or_under_way false none idle c x m h k = omega (arith, h)
at_once_or_under_way true true true c x m h k = omega (arith, h)
at_once_or_under_way true true false c x m h k = absurd (false_is_true (k refl refl))
  where
    false_is_true : false ≡ true → ⊥
    false_is_true h = absurd cc
at_once_or_under_way true false true c x m h k = omega (arith, h)
at_once_or_under_way true false false c x m h k = omega (arith, h)

own_begin : (w : List WorldEvent) (u : ℕ) (b : Begun) → Within u w → Within u (Begin u b ∷ w)
own_begin w u b before =
    rw (eq_self u) (at_once_or_under_way (is_turn b) (is_empty (phasers_of u w)) (is_empty (fixed_by u b w))
    (clock u w) (under_way u w) (turns_begun w) before (none_due u w b))

-- a refusal and a failure end a turn that is under way
own_abrupt : (t : ℕ) (e : WorldEvent) (w : List WorldEvent) → begins_turn (last_entry t (e ∷ w)) ≡ false
    → clock t (e ∷ w) ≡ clock t w → turns_begun (e ∷ w) ≡ turns_begun w → Within t w → Within t (e ∷ w)
own_abrupt t e w n c g before =
    rw (c, g, n) (add_le (clock t w) (under_way t w) (turns_begun w) 0 before (omega arith))

module _ (l : Limits) (w : List WorldEvent) (k : is_legal_world l w ≡ true)
    (before : (t : ℕ) → Within t w) where
  after_event : (e : WorldEvent) → is_accepted l w e ≡ true → (t : ℕ) → Within t (e ∷ w)
  after_event (Phaser n (Pass u)) h t =
      elim (cases_Bool (u == t)) [
        | inl m ↦
            subst (λ v. Within v (Phaser n (Pass u) ∷ w)) (eqb-true u t m) (own_pass l w n u k h (before u))
        | inr m ↦ kept t (Phaser n (Pass u)) w refl (rw m refl) (same_le (turns_begun w)) (before t)
      ]
  after_event (Finish f (Spawned u)) h t =
      elim (cases_Bool (u == t)) [
        | inl m ↦
            subst (λ v. Within v (Finish f (Spawned u) ∷ w)) (eqb-true u t m)
            (own_birth l w f u k h (before (spawner u w)))
        | inr m ↦ kept t (Finish f (Spawned u)) w refl (rw m refl) (same_le (turns_begun w)) (before t)
      ]
  after_event (Begin u b) h t =
      elim (cases_Bool (u == t)) [
        | inl m ↦ subst (λ v. Within v (Begin u b ∷ w)) (eqb-true u t m) (own_begin w u b (before u))
        | inr m ↦ kept t (Begin u b) w m (rw m refl) (more_or_same (is_turn b) (turns_begun w)) (before t)
      ]
  after_event (Refuse u a n) h t =
      elim (cases_Bool (u == t)) [
        | inl m ↦ own_abrupt t (Refuse u a n) w (rw m refl) refl refl (before t)
        | inr m ↦ kept t (Refuse u a n) w m refl (same_le (turns_begun w)) (before t)
      ]
  after_event (Fail u n) h t =
      elim (cases_Bool (u == t)) [
        | inl m ↦ own_abrupt t (Fail u n) w (rw m refl) refl refl (before t)
        | inr m ↦ kept t (Fail u n) w m refl (same_le (turns_begun w)) (before t)
      ]
  after_event (Phaser n (Make u m terms)) h t =
      kept t (Phaser n (Make u m terms)) w refl refl (same_le (turns_begun w)) (before t)
  after_event (Phaser n (Reg q u m)) h t =
      kept t (Phaser n (Reg q u m)) w refl refl (same_le (turns_begun w)) (before t)
  after_event (Phaser n (Sig u x)) h t =
      kept t (Phaser n (Sig u x)) w refl refl (same_le (turns_begun w)) (before t)
  after_event (Phaser n (Claim u)) h t =
      kept t (Phaser n (Claim u)) w refl refl (same_le (turns_begun w)) (before t)
  after_event (Phaser n (Did u)) h t =
      kept t (Phaser n (Did u)) w refl refl (same_le (turns_begun w)) (before t)
  after_event (Phaser n (Send u a v)) h t =
      kept t (Phaser n (Send u a v)) w refl refl (same_le (turns_begun w)) (before t)
  after_event (Phaser n (Look u a)) h t =
      kept t (Phaser n (Look u a)) w refl refl (same_le (turns_begun w)) (before t)
  after_event (Phaser n (Drop u)) h t =
      kept t (Phaser n (Drop u)) w refl refl (same_le (turns_begun w)) (before t)
  after_event (Finish f (Opened u)) h t =
      kept t (Finish f (Opened u)) w refl refl (same_le (turns_begun w)) (before t)
  after_event (Finish f (Ended u)) h t =
      kept t (Finish f (Ended u)) w refl refl (same_le (turns_begun w)) (before t)
  after_event (Finish f Shutting) h t =
      kept t (Finish f Shutting) w refl refl (same_le (turns_begun w)) (before t)

within : (l : Limits) (w : List WorldEvent) → is_legal_world l w ≡ true → (t : ℕ) → Within t w
within l [] k t = omega arith
within l (e ∷ w) k t =
    let a = last_accepted l e w k in
    after_event l w a.1 (within l w a.1) e a.0 t

-- no clock passes the turns that were begun
pub clock_within : (l : Limits) (w : List WorldEvent) → is_legal_world l w ≡ true → (t : ℕ)
    → clock t w ≤ turns_begun w
clock_within l w k t = add_le_zero (clock t w) (under_way t w) (turns_begun w) (within l w k t)
  where
    add_le_zero : (a b c : ℕ) → a + b ≤ c → a ≤ c
    add_le_zero a b c h = omega (arith, h)
