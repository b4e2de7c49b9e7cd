-- Each moment of a task that signals or turns, from the entry that begins it.
use Rattle.std.proofs.Common.{◌≡◌, ℕ, ◌+◌, Bool, true, false, ◌&&◌, ◌||◌, ◌==◌, not, cond, List, [], ◌∷◌, ◌++◌, Option, Some, None, refl, sym, subst, ap, ◌∙◌, inl, inr, arith}
use Rattle.std.specs.List.{list_any, list_all}
use Rattle.std.proofs.lemmas.Bool.{and_parts, and_right, or_cases, or_left, or_right, cases_Bool, eqb-true, eq-eqb, ne_eqb, not-true, true≢false, false≢true, not-false}
use Rattle.std.proofs.lemmas.List.Folds.{list_any-append}
use Rattle.phase_modes.specs.declared.limits.Limits.{Limits}
use Rattle.phase_modes.specs.declared.refusal.Refusal.TheVariants.{NotSignalled}
use Rattle.phase_modes.specs.Mode.{can_signal, can_single}
use Rattle.phase_model.specs.declared.history.Event.{Event}
use Rattle.phase_model.specs.declared.history.Event.TheVariants.{Sig as Signalled}
use Rattle.phase_model.specs.Tasks.{is_live, has_mode}
use Rattle.phase_model.specs.Phases.{waits, signals}
use Rattle.phase_model.proofs.LiveTasks.{has, has-filter}
use Rattle.world_model.specs.declared.event.Step.TheVariants.{Sig, Pass}
use Rattle.world_model.specs.declared.event.Begun.TheVariants.{Async, Signal, Wait, Next, NextSingle, Shut, End}
use Rattle.world_model.specs.declared.event.WorldEvent.{WorldEvent}
use Rattle.world_model.specs.declared.event.WorldEvent.TheVariants.{Phaser, Finish, Begin, Refuse, Fail}
use Rattle.world_model.specs.Parts.{phaser_past}
use Rattle.world_model.specs.Tasks.{phasers_of, is_born}
use Rattle.world_model.specs.Actors.{actor}
use Rattle.world_model.specs.Due.{due, fixed, is_entry, is_of_single, is_behind}
use Rattle.world_model.specs.Replies.{is_legal_world, is_accepted}
use Rattle.world_model.specs.TaskConditions.{last_entry}
use Rattle.world_model.specs.ClockLaws.{is_pass_on}
use Rattle.world_model.proofs.MadeMeans.{no_refusal, begin_asked}
use Rattle.world_model.proofs.DueHolds.{pass_is_last}
use Rattle.world_model.proofs.PassesInTurns.{passing}
use Rattle.world_model.proofs.AgentOfTask.{untouched_born}
use Rattle.world_model.proofs.UntouchedStays.{IsAlike, alike, alike_single, same_mode_test}
use Rattle.world_model.proofs.DueStays.{due_stays}
use Rattle.world_model.proofs.EndingStays.{entry_is_born}
use Rattle.world_model.proofs.SignalsComeFirst.{moves_act, is_any_sig, is_move, sigs_first, Moves, moves, passes_of, sigs_of, single_asked}
use Rattle.world_model.proofs.TurnsStand.{is_sig_on, is_single_on, Turning, nothing_turns, first_is_last, fewer, both_turn, wait_turn, plain_not, singles_there, singles_not, behinds, none_at}

nil_after : (xs : List WorldEvent) → xs ++ [] ≡ xs
nil_after [] = refl
nil_after (x ∷ xs) = ap (λ ys. x ∷ ys) (nil_after xs)

-- an entry changes no phaser
module _ (l : Limits) (u : ℕ) (w : List WorldEvent) (k : is_legal_world l w ≡ true) where
  from_signal : is_accepted l w (Begin u Signal) ≡ true
      → Turning u (Begin u Signal ∷ w) (fixed (Begin u Signal) w)
  from_signal a =
      let ds = sigs_of u None (behinds l u w k) in
      let p : Turning u w (ds ++ []) =
      both_turn l u w k None [] (λ n h. absurd (false≢true h))
      (λ n h. absurd (true≢false (sym h ∙ plain_not u n (behinds l u w k) []))) in
      let q : Turning u w ds = subst (λ xs. Turning u w xs) (nil_after ds) p in
      record { sigs = q.sigs; once = q.once; passes = q.passes; singles = q.singles }

  from_wait : is_accepted l w (Begin u Wait) ≡ true → Turning u (Begin u Wait ∷ w) (fixed (Begin u Wait) w)
  from_wait a =
      let behind = list_any (λ n. is_behind u (phaser_past n w)) (phasers_of u w) in
      let none = not-true behind (no_refusal NotSignalled (not behind) [] (begin_asked l w u Wait a)).0 in
      let q =
      wait_turn l u w k (λ n h. none_at (λ m. is_behind u (phaser_past m w)) (phasers_of u w) n none h) in
      record { sigs = q.sigs; once = q.once; passes = q.passes; singles = q.singles }

  from_next : is_accepted l w (Begin u Next) ≡ true → Turning u (Begin u Next ∷ w) (fixed (Begin u Next) w)
  from_next a =
      let q =
      both_turn l u w k None (phasers_of u w) (λ n h. h)
      (λ n h. absurd (true≢false (sym h ∙ plain_not u n (behinds l u w k) (phasers_of u w)))) in
      record { sigs = q.sigs; once = q.once; passes = q.passes; singles = q.singles }

  from_single : (x : ℕ) → is_accepted l w (Begin u (NextSingle x)) ≡ true
      → Turning u (Begin u (NextSingle x) ∷ w) (fixed (Begin u (NextSingle x)) w)
  from_single x a =
      let asked = single_asked l w u x a in
      let ns = phasers_of u w in
      let sigs = sigs_of u (Some x) (behinds l u w k) in
      let q = both_turn l u w k (Some x) ns (λ n h. h) (λ n h.
      let left : list_any (is_single_on n) sigs ≡ true =
      elim (or_cases (list_any (is_single_on n) sigs) (list_any (is_single_on n) (passes_of u ns))
      (sym (list_any-append (is_single_on n) sigs (passes_of u ns)) ∙ h)) [
        | inl y ↦ y
        | inr y ↦ absurd (true≢false (sym y ∙ singles_not u n ns))
      ] in
      let listed =
      (and_parts (is_behind u (phaser_past n w)) (has n ns)
      (sym (has-filter (λ m. is_behind u (phaser_past m w)) n ns)
      ∙ (sym (singles_there u n x (behinds l u w k)) ∙ left))).1 in
      not-false (has_mode can_single u (phaser_past n w))
      (none_at (λ m. not (has_mode can_single u (phaser_past m w))) ns n asked.single listed)) in
      record { sigs = q.sigs; once = q.once; passes = q.passes; singles = q.singles }

turning_entry : (l : Limits) (t : ℕ) (e : WorldEvent) (w : List WorldEvent) → is_legal_world l w ≡ true
    → is_accepted l w e ≡ true → is_entry t e ≡ true → moves_act (Some e) ≡ true
    → Turning t (e ∷ w) (fixed e w)
turning_entry l t (Begin u Signal) w k a n q =
    subst (λ v. Turning v (Begin u Signal ∷ w) (fixed (Begin u Signal) w)) (eqb-true u t n)
    (from_signal l u w k a)
turning_entry l t (Begin u Wait) w k a n q =
    subst (λ v. Turning v (Begin u Wait ∷ w) (fixed (Begin u Wait) w)) (eqb-true u t n) (from_wait l u w k a)
turning_entry l t (Begin u Next) w k a n q =
    subst (λ v. Turning v (Begin u Next ∷ w) (fixed (Begin u Next) w)) (eqb-true u t n) (from_next l u w k a)
turning_entry l t (Begin u (NextSingle x)) w k a n q =
    subst (λ v. Turning v (Begin u (NextSingle x) ∷ w) (fixed (Begin u (NextSingle x)) w)) (eqb-true u t n)
    (from_single l u w k x a)
turning_entry l t (Begin u Shut) w k a n q = absurd (false≢true q)
turning_entry l t (Begin u End) w k a n q = absurd (false≢true q)
turning_entry l t (Begin u (Async c ps)) w k a n q = absurd (false≢true q)
turning_entry l t (Refuse u b x) w k a n q = absurd (false≢true q)
turning_entry l t (Fail u x) w k a n q = absurd (false≢true q)
turning_entry l t (Phaser m s) w k a n q = absurd (false≢true n)
turning_entry l t (Finish f s) w k a n q = absurd (false≢true n)

-- who has signalled is behind no more
not_behind : (t : ℕ) (x : Option ℕ) (h : List Event) → is_behind t h ≡ true
    → is_behind t (Signalled t x ∷ h) ≡ false
not_behind t x h b =
    let same : signals t h ≡ waits t h =
    eqb-true (signals t h) (waits t h)
    (and_parts (has_mode can_signal t h) (signals t h == waits t h) b).1 in
    rw (eq-eqb t t refl) (and_right (has_mode can_signal t h) (signals t h + 1 == waits t h)
    (ne_eqb (signals t h + 1) (waits t h) (λ e. one_more (signals t h) (waits t h) same e)))
  where
    one_more : (s v : ℕ) → s ≡ v → s + 1 ≡ v → ⊥
    one_more s v a b = omega arith

module _ (t : ℕ) (w ds : List WorldEvent) (m : ℕ) where
  -- after its signal on m
  after_sig : (x : Option ℕ) → Turning t w (Phaser m (Sig t x) ∷ ds) → Turning t (Phaser m (Sig t x) ∷ w) ds
  after_sig x p =
      let d = Phaser m (Sig t x) in
      let lone : list_any (is_sig_on m) ds ≡ false =
      first_is_last (is_sig_on m) d ds (p.once m) (eq-eqb m m refl) in
      let here : is_behind t (phaser_past m w) ≡ true =
      (p.sigs m (or_left (m == m) (list_any (is_sig_on m) ds) (eq-eqb m m refl))).1 in
      record {
        sigs = λ n h. elim (cases_Bool (m == n)) [
          | inl s ↦
              absurd (true≢false
              (sym (subst (λ v. list_any (is_sig_on v) ds ≡ true) (sym (eqb-true m n s)) h) ∙ lone))
          | inr s ↦ rw s (p.sigs n (or_right (m == n) (list_any (is_sig_on n) ds) h))
        ];
        once = λ n. fewer (is_sig_on n) d ds (p.once n);
        passes = λ n h. elim (cases_Bool (m == n)) [
          | inl s ↦
              let gone : is_behind t (Signalled t x ∷ phaser_past n w) ≡ false =
              not_behind t x (phaser_past n w)
              (subst (λ v. is_behind t (phaser_past v w) ≡ true) (eqb-true m n s) here) in
              subst (λ b. (is_live t (cond b (Signalled t x ∷ phaser_past n w) (phaser_past n w)) ≡ true)
              × (is_behind t (cond b (Signalled t x ∷ phaser_past n w) (phaser_past n w)) ≡ true
              → list_any (is_sig_on n) ds ≡ true)) (sym s)
              ((p.passes n h).0, λ b. absurd (true≢false (sym b ∙ gone)))
          | inr s ↦
              let q = p.passes n h in
              subst (λ b. (is_live t (cond b (Signalled t x ∷ phaser_past n w) (phaser_past n w)) ≡ true)
              × (is_behind t (cond b (Signalled t x ∷ phaser_past n w) (phaser_past n w)) ≡ true
              → list_any (is_sig_on n) ds ≡ true)) (sym s)
              (q.0, λ b. subst (λ c. (c || list_any (is_sig_on n) ds) ≡ true) s (q.1 b))
        ];
        singles = λ n h. same_mode (m == n) n (p.singles n (single_later x n h));
      }
    where
      single_later : (y : Option ℕ) (n : ℕ) → list_any (is_single_on n) ds ≡ true
          → list_any (is_single_on n) (Phaser m (Sig t y) ∷ ds) ≡ true
      single_later None n h = h
      single_later (Some z) n h = or_right (m == n) (list_any (is_single_on n) ds) h

      same_mode : (b : Bool) (n : ℕ) → has_mode can_single t (phaser_past n w) ≡ true
          → has_mode can_single t (cond b (Signalled t x ∷ phaser_past n w) (phaser_past n w)) ≡ true
      same_mode true n h = h
      same_mode false n h = h

  pub any_sig : (n : ℕ) (xs : List WorldEvent) → list_any (is_sig_on n) xs ≡ true
      → list_any is_any_sig xs ≡ true
  any_sig n [] h = h
  any_sig n (Phaser v (Sig u y) ∷ xs) h = refl
  any_sig n (e ∷ xs) h = or_right (is_any_sig e) (list_any is_any_sig xs) (any_sig n xs h)

  single_is_sig : (n : ℕ) (xs : List WorldEvent) → list_any (is_single_on n) xs ≡ true
      → list_any is_any_sig xs ≡ true
  single_is_sig n [] h = h
  single_is_sig n (Phaser v (Sig u y) ∷ xs) h = refl
  single_is_sig n (e ∷ xs) h = or_right (is_any_sig e) (list_any is_any_sig xs) (single_is_sig n xs h)

  -- after its pass of m
  after_pass : list_any is_any_sig ds ≡ false → list_any (is_pass_on m) ds ≡ false
      → Turning t w (Phaser m (Pass t) ∷ ds) → Turning t (Phaser m (Pass t) ∷ w) ds
  after_pass none lone p =
      let d = Phaser m (Pass t) in
      record {
        sigs = λ n h. absurd (true≢false (sym (any_sig n ds h) ∙ none));
        once = λ n. fewer (is_sig_on n) d ds (p.once n);
        passes = λ n h. elim (cases_Bool (m == n)) [
          | inl s ↦
              absurd (true≢false
              (sym (subst (λ v. list_any (is_pass_on v) ds ≡ true) (sym (eqb-true m n s)) h) ∙ lone))
          | inr s ↦ rw s (p.passes n (or_right (m == n) (list_any (is_pass_on n) ds) h))
        ];
        singles = λ n h. absurd (true≢false (sym (single_is_sig n ds h) ∙ none));
      }

own_turns : (l : Limits) (t : ℕ) (e : WorldEvent) (w ds : List WorldEvent) → is_legal_world l w ≡ true
    → is_accepted l w e ≡ true → due t w ≡ e ∷ ds → Moves t (e ∷ ds) → Turning t w (e ∷ ds)
    → Turning t (e ∷ w) ds
own_turns l t (Phaser m (Sig u x)) w ds k a here s p =
    let same : u ≡ t = eqb-true u t (and_parts (u == t) (list_all (is_move t) ds) s.own).0 in
    subst (λ v. Turning t (Phaser m (Sig v x) ∷ w) ds) (sym same)
    (after_sig t w ds m x (subst (λ v. Turning t w (Phaser m (Sig v x) ∷ ds)) same p))
own_turns l t (Phaser m (Pass u)) w ds k a here s p =
    let same : u ≡ t = eqb-true u t (and_parts (u == t) (list_all (is_move t) ds) s.own).0 in
    let none =
    not-true (list_any is_any_sig ds)
    (and_parts (not (list_any is_any_sig ds)) (sigs_first ds) s.first).0 in
    let turn = (passing l w m t k (subst (λ v. is_accepted l w (Phaser m (Pass v)) ≡ true) same a)).turn in
    let lone = pass_is_last l t m w ds k turn (subst (λ v. due t w ≡ Phaser m (Pass v) ∷ ds) same here) in
    subst (λ v. Turning t (Phaser m (Pass v) ∷ w) ds) (sym same)
    (after_pass t w ds m none lone (subst (λ v. Turning t w (Phaser m (Pass v) ∷ ds)) same p))
own_turns l t (Phaser m s) w ds k a here r p = absurd (false≢true r.own)
own_turns l t (Finish f s) w ds k a here r p = absurd (false≢true r.own)
own_turns l t (Begin u b) w ds k a here r p = absurd (false≢true r.own)
own_turns l t (Refuse u b x) w ds k a here r p = absurd (false≢true r.own)
own_turns l t (Fail u x) w ds k a here r p = absurd (false≢true r.own)

-- others leave t where it stands
pub alike_by_others : (l : Limits) (t : ℕ) (e : WorldEvent) (w : List WorldEvent) → is_legal_world l w ≡ true
    → is_accepted l w e ≡ true → is_born t w ≡ true
    → (actor w e == t && not (is_of_single e)) ≡ false → (n : ℕ)
    → IsAlike t (phaser_past n (e ∷ w)) (phaser_past n w)
alike_by_others l t e w k a b o n =
    elim (cases_Bool (is_of_single e)) [
      | inl s ↦ alike_single t n e w s
      | inr s ↦ alike t n e w (untouched_born l w k e t a b (foreign (actor w e == t) (is_of_single e) s o))
    ]
  where
    foreign : (a b : Bool) → b ≡ false → (a && not b) ≡ false → a ≡ false
    foreign true true x y = absurd (true≢false x)
    foreign true false x y = absurd (true≢false y)
    foreign false b x y = refl

pub behind_alike : (t : ℕ) (g h : List Event) → IsAlike t g h → is_behind t g ≡ is_behind t h
behind_alike t g h a = rw (a.mode, a.signalled, a.waited) refl

other_turns : (t : ℕ) (e : WorldEvent) (w ds : List WorldEvent)
    → ((n : ℕ) → IsAlike t (phaser_past n (e ∷ w)) (phaser_past n w)) → Turning t w ds → Turning t (e ∷ w) ds
other_turns t e w ds same p =
    record {
      sigs =
          λ n h. let q =
          p.sigs n h in (
            (same n).live
                ∙ q.0,
            behind_alike t (phaser_past n (e ∷ w)) (phaser_past n w) (same n) ∙ q.1,
          );
      once = p.once;
      passes =
          λ n h. let q =
          p.passes n h in (
            (same n).live ∙ q.0,
            λ b.
                q.1 (sym (behind_alike t (phaser_past n (e ∷ w)) (phaser_past n w) (same n)) ∙ b),
          );
      singles =
          λ n h. same_mode_test can_single t (phaser_past n (e ∷ w)) (phaser_past n w)
          (same n) ∙ p.singles n h;
    }

-- where a task stands that signals or turns
pub turning : (l : Limits) (t : ℕ) (w : List WorldEvent) → is_legal_world l w ≡ true
    → moves_act (last_entry t w) ≡ true → Turning t w (due t w)
turning l t w k q =
    due_stays l t moves_act (Turning t) (λ b. false≢true b)
    (λ e v kv a x n m d p. nothing_turns t (e ∷ v))
    (λ e v kv a n x. turning_entry l t e v kv a n x)
    (λ e v ds kv a x n s m here p.
    own_turns l t e v ds kv a here (subst (λ xs. Moves t xs) here (moves l t v kv x)) p)
    (λ e v kv a x n o p. other_turns t e v (due t v)
    (alike_by_others l t e v kv a (entry_is_born l t moves_act v kv refl x) o) p)
    w k q
