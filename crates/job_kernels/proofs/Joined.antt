-- Sums over the registrations of one phaser, and what those that were registered did there in all.
use Rattle.std.proofs.Common.{◌≡◌, ℕ, ◌+◌, Bool, true, false, ◌||◌, ◌==◌, not, nat_lt, cond, List, [], ◌∷◌, Option, Some, None, is_some, refl, sym, subst, ap, ◌∙◌, inl, inr, arith}
use Rattle.std.specs.Prelude.{count_by}
use Rattle.std.specs.List.{list_all}
use Rattle.std.proofs.lemmas.Bool.{and_parts, cases_Bool, eqb-true, eq-eqb, not-true, or_right, true≢false, false_from_ne_true}
use Rattle.std.proofs.lemmas.List.Sums.{sum_by-cons}
use Rattle.std.proofs.lemmas.Option.{same_Some}
use Rattle.phase_modes.specs.Lists.{is_empty}
use Rattle.phase_modes.specs.declared.reg.Mode.{Mode}
use Rattle.phase_modes.specs.declared.limits.Limits.{Limits}
use Rattle.phase_modes.specs.Mode.{can_signal}
use Rattle.phase_model.specs.declared.history.Event.{Event}
use Rattle.phase_model.specs.declared.history.Event.TheVariants.{Make, Reg, Sig, Pass, Drop}
use Rattle.phase_model.specs.declared.terms.Terms.{Terms}
use Rattle.phase_model.specs.Tasks.{is_registered, is_dropped, is_live, has_mode, mode_of, registers}
use Rattle.phase_model.specs.Phases.{waits, signals}
use Rattle.phase_model.specs.Rules.{is_legal}
use Rattle.phase_model.specs.Singles.{owes_nothing}
use Rattle.phase_model.proofs.Legal.{last_follows, reg_follows, sig_follows, pass_follows}
use Rattle.phase_model.proofs.LiveTasks.{empty_is, fresh_not_dropped}
use Rattle.world_model.specs.Report.{is_sig, is_pass, is_drop}
use Rattle.job_kernels.proofs.Numbers.{from_plus_zero, zero_plus}

-- the sum over all registrations, by the task and its mode
abbrev pub joined : (ℕ → Mode → ℕ) → List Event → ℕ
joined g [] = 0
joined g (Make t m ∷ h) = g t m + joined g h
joined g (Reg q t m ∷ h) = g t m + joined g h
joined g (_ ∷ h) = joined g h

-- ---- sums of two, and of none

pub joined_both : (g f : ℕ → Mode → ℕ) (h : List Event)
    → joined (λ t m. g t m + f t m) h ≡ joined g h + joined f h
joined_both g f [] = omega arith
joined_both g f (Make t m ∷ h) = omega (arith, joined_both g f h)
joined_both g f (Reg q t m ∷ h) = omega (arith, joined_both g f h)
joined_both g f (e ∷ h) = joined_both g f h

joined_none : (h : List Event) → joined (λ t m. 0) h ≡ 0
joined_none [] = refl
joined_none (Make t m ∷ h) = omega (arith, joined_none h)
joined_none (Reg q t m ∷ h) = omega (arith, joined_none h)
joined_none (e ∷ h) = joined_none h

-- ---- the root, and those whom it registers

-- the root neither signals nor passes, and it registers all others
abbrev pub is_still : Event → Bool
is_still (Sig u x) = not (u == 0)
is_still (Pass u) = not (u == 0)
is_still (Reg q u m) = q == 0
is_still _ = true

still_from : (q u : ℕ) → (q == 0) ≡ true → cond (u == 0) q 0 ≡ 0
still_from q u z = by_test (u == 0)
  where
    by_test : (b : Bool) → cond b q 0 ≡ 0
    by_test true = eqb-true q 0 z
    by_test false = refl

still_waits : (h : List Event) → list_all is_still h ≡ true → waits 0 h ≡ 0
still_waits [] k = refl
still_waits (Make u m ∷ h) k = by_test (u == 0) (still_waits h k)
  where
    by_test : (b : Bool) → waits 0 h ≡ 0 → cond b 0 (waits 0 h) ≡ 0
    by_test true e = refl
    by_test false e = e
still_waits (Reg q u m ∷ h) k =
    let p = and_parts (q == 0) (list_all is_still h) k in
    ap (λ i. waits i h) (still_from q u p.0) ∙ still_waits h p.1
still_waits (Pass u ∷ h) k =
    let p = and_parts (not (u == 0)) (list_all is_still h) k in
    rw (not-true (u == 0) p.0) (still_waits h p.1)
still_waits (e ∷ h) k = still_waits h (and_parts (is_still e) (list_all is_still h) k).1

still_signals : (h : List Event) → list_all is_still h ≡ true → signals 0 h ≡ 0
still_signals [] k = refl
still_signals (Make u m ∷ h) k = by_test (u == 0) (still_signals h k)
  where
    by_test : (b : Bool) → signals 0 h ≡ 0 → cond b 0 (signals 0 h) ≡ 0
    by_test true e = refl
    by_test false e = e
still_signals (Reg q u m ∷ h) k =
    let p = and_parts (q == 0) (list_all is_still h) k in
    ap (λ i. signals i h) (still_from q u p.0) ∙ still_signals h p.1
still_signals (Sig u x ∷ h) k =
    let p = and_parts (not (u == 0)) (list_all is_still h) k in
    rw (not-true (u == 0) p.0) (still_signals h p.1)
still_signals (e ∷ h) k = still_signals h (and_parts (is_still e) (list_all is_still h) k).1

-- ---- in a legal history

pub record IsGood (l : Limits) (terms : Terms) (h : List Event) : Type 0 where
  pub legal : is_legal l terms h ≡ true
  pub still : list_all is_still h ≡ true

abbrev moved : Option ℕ → ℕ → ℕ
moved None t = 0
moved (Some u) t = cond (u == t) 1 0

module _ (l : Limits) (terms : Terms) where
  pub good_before : (e : Event) (h : List Event) → IsGood l terms (e ∷ h) → IsGood l terms h
  good_before e h k =
      record {
        legal = (last_follows l terms h e k.legal).before;
        still = (and_parts (is_still e) (list_all is_still h) k.still).1;
      }

  -- who is registered was not before
  make_is_new : (u : ℕ) (m : Mode) (h : List Event) → is_legal l terms (Make u m ∷ h) ≡ true
      → is_registered u h ≡ false
  make_is_new u m h k =
      let f = last_follows l terms h (Make u m) k in
      let empty : h ≡ [] = empty_is h (and_parts (is_empty h) (nat_lt u l.tasks) f.permitted).0 in
      subst (λ (g : List Event). is_registered u g ≡ false) (sym empty) refl

  reg_is_new : (q u : ℕ) (m : Mode) (h : List Event) → is_legal l terms (Reg q u m ∷ h) ≡ true
      → is_registered u h ≡ false
  reg_is_new q u m h k = (reg_follows l terms h q u m (last_follows l terms h (Reg q u m) k).permitted).unknown

  apart : (u t : ℕ) (h : List Event) → is_registered u h ≡ false → is_registered t h ≡ true → (u == t) ≡ false
  apart u t h new old =
      false_from_ne_true (u == t) (λ e. true≢false (sym old ∙ subst (λ v. is_registered v h ≡ false) (eqb-true u t e) new))

  -- the sums agree where the summands do
  pub joined_same : (g f : ℕ → Mode → ℕ) (h : List Event) → is_legal l terms h ≡ true
      → ((t : ℕ) (m : Mode) → is_registered t h ≡ true → mode_of t h ≡ Some m → g t m ≡ f t m)
      → joined g h ≡ joined f h
  joined_same g f [] k same = refl
  joined_same g f (Make u m ∷ h) k same =
      let new = make_is_new u m h k in
      let rest =
      joined_same g f h (last_follows l terms h (Make u m) k).before
      (λ t n r is. same t n (or_right (u == t) (is_registered t h) r) (rw (apart u t h new r) is)) in
      let first = same u m (rw (eq-eqb u u refl) refl) (rw (eq-eqb u u refl) refl) in
      omega (arith, first, rest)
  joined_same g f (Reg q u m ∷ h) k same =
      let new = reg_is_new q u m h k in
      let rest =
      joined_same g f h (last_follows l terms h (Reg q u m) k).before
      (λ t n r is. same t n (or_right (u == t) (is_registered t h) r) (rw (apart u t h new r) is)) in
      let first = same u m (rw (eq-eqb u u refl) refl) (rw (eq-eqb u u refl) refl) in
      omega (arith, first, rest)
  joined_same g f (e ∷ h) k same = joined_same g f h (last_follows l terms h e k).before same

  -- nobody is registered twice
  one_more : (u v : ℕ) (h : List Event) → is_registered v h ≡ false
      → joined (λ t m. cond (u == t) 1 0) h ≡ cond (is_registered u h) 1 0
      → cond (u == v) 1 0 + joined (λ t m. cond (u == t) 1 0) h ≡ cond ((v == u) || is_registered u h) 1 0
  one_more u v h new before =
      elim (cases_Bool (v == u)) [
        | inl e ↦
            let same : v ≡ u = eqb-true v u e in
            let none : is_registered u h ≡ false = subst (λ x. is_registered x h ≡ false) same new in
            rw (e, eq-eqb u v (sym same), before, none) one
        | inr e ↦
            rw (e, false_from_ne_true (u == v) (λ f. true≢false (sym (eq-eqb v u (sym (eqb-true u v f))) ∙ e)), before)
            (zero_plus (cond (is_registered u h) 1 0))
      ]
    where
      one : ◌≡◌ {A = ℕ} (1 + 0) 1
      one = omega arith

  once : (u : ℕ) (h : List Event) → is_legal l terms h ≡ true
      → joined (λ t m. cond (u == t) 1 0) h ≡ cond (is_registered u h) 1 0
  once u [] k = refl
  once u (Make v m ∷ h) k =
      one_more u v h (make_is_new v m h k) (once u h (last_follows l terms h (Make v m) k).before)
  once u (Reg q v m ∷ h) k =
      one_more u v h (reg_is_new q v m h k) (once u h (last_follows l terms h (Reg q v m) k).before)
  once u (e ∷ h) k = once u h (last_follows l terms h e k).before

  -- ---- what all did there

  -- how far each has come, from 0 on where it is registered, by one where an event is its own
  pub record IsFar (far : ℕ → List Event → ℕ) (mover : Event → Option ℕ) (is : Event → Bool) : Type 0 where
    pub makes : (u : ℕ) (m : Mode) (h : List Event) → IsGood l terms (Make u m ∷ h) → far u (Make u m ∷ h) ≡ 0
    pub joins : (q u : ℕ) (m : Mode) (h : List Event) → IsGood l terms (Reg q u m ∷ h) → far u (Reg q u m ∷ h) ≡ 0
    pub grows : (e : Event) (h : List Event) (t : ℕ) → IsGood l terms (e ∷ h) → registers t e ≡ false
        → far t (e ∷ h) ≡ far t h + moved (mover e) t
    pub known : (e : Event) (h : List Event) (u : ℕ) → IsGood l terms (e ∷ h) → mover e ≡ Some u
        → is_registered u h ≡ true
    pub counts : (e : Event) → is e ≡ is_some (mover e)
    pub no_make : (u : ℕ) (m : Mode) → mover (Make u m) ≡ None
    pub no_reg : (q u : ℕ) (m : Mode) → mover (Reg q u m) ≡ None

  module _ (far : ℕ → List Event → ℕ) (mover : Event → Option ℕ) (is : Event → Bool) (k : IsFar far mover is) where
    count_more : (e : Event) (h : List Event) → count_by is (e ∷ h) ≡ cond (is_some (mover e)) 1 0 + count_by is h
    count_more e h =
        sum_by-cons (λ x. cond (is x) 1 0) e h ∙ ap (λ b. cond b 1 0 + count_by is h) (k.counts e)

    -- an event that registers nobody
    moves : (e : Event) (h : List Event) → IsGood l terms (e ∷ h) → ((t : ℕ) → registers t e ≡ false)
        → count_by is h ≡ joined (λ t m. far t h) h → count_by is (e ∷ h) ≡ joined (λ t m. far t (e ∷ h)) h
    moves e h good none before =
        let before_legal = (good_before e h good).legal in
        let apart =
        joined_same (λ t m. far t (e ∷ h)) (λ t m. far t h + moved (mover e) t) h before_legal
        (λ t m r s. k.grows e h t good (none t)) in
        let sum = joined_both (λ t m. far t h) (λ t m. moved (mover e) t) h in
        let one = by_mover (mover e) refl in
        omega (arith, count_more e h, before, apart, sum, one)
      where
        by_mover : (o : Option ℕ) → mover e ≡ o → joined (λ t m. moved (mover e) t) h ≡ cond (is_some (mover e)) 1 0
        by_mover None is_none = rw is_none (joined_none h)
        by_mover (Some u) is_some_one =
            rw is_some_one (once u h (good_before e h good).legal ∙ ap (λ b. cond b 1 0) (k.known e h u good is_some_one))

    -- one that registers u
    registers_one : (e : Event) (u : ℕ) (h : List Event) → IsGood l terms (e ∷ h) → mover e ≡ None
        → far u (e ∷ h) ≡ 0 → is_registered u h ≡ false → ((t : ℕ) → registers t e ≡ (u == t))
        → count_by is h ≡ joined (λ t m. far t h) h
        → count_by is (e ∷ h) ≡ far u (e ∷ h) + joined (λ t m. far t (e ∷ h)) h
    registers_one e u h good none zero new own before =
        let rest =
        joined_same (λ t m. far t (e ∷ h)) (λ t m. far t h) h (good_before e h good).legal
        (λ t m r s. k.grows e h t good (own t ∙ apart u t h new r)
        ∙ (ap (λ o. far t h + moved o t) none ∙ sym (from_plus_zero (far t h)))) in
        let more = count_more e h ∙ ap (λ o. cond (is_some o) 1 0 + count_by is h) none in
        omega (arith, more, before, rest, zero)

    pub all_far : (h : List Event) → IsGood l terms h → count_by is h ≡ joined (λ t m. far t h) h
    all_far [] good = refl
    all_far (Make u m ∷ h) good =
        registers_one (Make u m) u h good (k.no_make u m) (k.makes u m h good) (make_is_new u m h good.legal)
        (λ t. refl) (all_far h (good_before (Make u m) h good))
    all_far (Reg q u m ∷ h) good =
        registers_one (Reg q u m) u h good (k.no_reg q u m) (k.joins q u m h good) (reg_is_new q u m h good.legal)
        (λ t. refl) (all_far h (good_before (Reg q u m) h good))
    all_far (e ∷ h) good = moves e h good (λ t. refl) (all_far h (good_before e h good))

  -- ---- passes, signals and drops

  none_some : (u : ℕ) → None ≡ Some u → ⊥
  none_some u h = cc

  live_known : (u : ℕ) (h : List Event) → is_live u h ≡ true → is_registered u h ≡ true
  live_known u h v = (and_parts (is_registered u h) (not (is_dropped u h)) v).0

  abbrev passer : Event → Option ℕ
  passer (Pass u) = Some u
  passer _ = None

  one_on : (b : Bool) (x : ℕ) → cond b (x + 1) x ≡ x + cond b 1 0
  one_on true x = refl
  one_on false x = from_plus_zero x

  passes_far : IsFar waits passer is_pass
  passes_far =
      record {
        makes = λ u m h good. rw (eq-eqb u u refl) refl;
        joins = λ q u m h good. rw (eq-eqb u u refl)
            (ap (λ i. waits i h) (eqb-true q 0 (and_parts (q == 0) (list_all is_still h) good.still).0)
            ∙ still_waits h (and_parts (q == 0) (list_all is_still h) good.still).1);
        grows = grows;
        known = known;
        counts = counts;
        no_make = λ u m. refl;
        no_reg = λ q u m. refl;
      }
    where
      grows : (e : Event) (h : List Event) (t : ℕ) → IsGood l terms (e ∷ h) → registers t e ≡ false
          → waits t (e ∷ h) ≡ waits t h + moved (passer e) t
      grows (Make v m) h t good n = rw n (from_plus_zero (waits t h))
      grows (Reg q v m) h t good n = rw n (from_plus_zero (waits t h))
      grows (Pass v) h t good n = one_on (v == t) (waits t h)
      grows e h t good n = from_plus_zero (waits t h)

      known : (e : Event) (h : List Event) (u : ℕ) → IsGood l terms (e ∷ h) → passer e ≡ Some u
          → is_registered u h ≡ true
      known (Pass v) h u good is =
          subst (λ x. is_registered x h ≡ true) (same_Some v u is)
          (live_known v h (pass_follows l terms h v (last_follows l terms h (Pass v) good.legal).permitted).live)
      known e h u good is = absurd (none_some u is)

      counts : (e : Event) → is_pass e ≡ is_some (passer e)
      counts (Pass v) = refl
      counts e = refl

  -- all passes are those of the tasks that were registered
  pub passes_in_all : (h : List Event) → IsGood l terms h → count_by is_pass h ≡ joined (λ t m. waits t h) h
  passes_in_all h good = all_far waits passer is_pass passes_far h good

  abbrev signaller : Event → Option ℕ
  signaller (Sig u x) = Some u
  signaller _ = None

  signals_far : IsFar signals signaller is_sig
  signals_far =
      record {
        makes = λ u m h good. rw (eq-eqb u u refl) refl;
        joins = λ q u m h good. rw (eq-eqb u u refl)
            (ap (λ i. signals i h) (eqb-true q 0 (and_parts (q == 0) (list_all is_still h) good.still).0)
            ∙ still_signals h (and_parts (q == 0) (list_all is_still h) good.still).1);
        grows = grows;
        known = known;
        counts = counts;
        no_make = λ u m. refl;
        no_reg = λ q u m. refl;
      }
    where
      grows : (e : Event) (h : List Event) (t : ℕ) → IsGood l terms (e ∷ h) → registers t e ≡ false
          → signals t (e ∷ h) ≡ signals t h + moved (signaller e) t
      grows (Make v m) h t good n = rw n (from_plus_zero (signals t h))
      grows (Reg q v m) h t good n = rw n (from_plus_zero (signals t h))
      grows (Sig v x) h t good n = one_on (v == t) (signals t h)
      grows e h t good n = from_plus_zero (signals t h)

      known : (e : Event) (h : List Event) (u : ℕ) → IsGood l terms (e ∷ h) → signaller e ≡ Some u
          → is_registered u h ≡ true
      known (Sig v x) h u good is =
          subst (λ y. is_registered y h ≡ true) (same_Some v u is)
          (live_known v h (sig_follows l terms h v x (last_follows l terms h (Sig v x) good.legal).permitted).live)
      known e h u good is = absurd (none_some u is)

      counts : (e : Event) → is_sig e ≡ is_some (signaller e)
      counts (Sig v x) = refl
      counts e = refl

  pub signals_in_all : (h : List Event) → IsGood l terms h → count_by is_sig h ≡ joined (λ t m. signals t h) h
  signals_in_all h good = all_far signals signaller is_sig signals_far h good

  abbrev left : ℕ → List Event → ℕ
  left t h = cond (is_dropped t h) 1 0

  abbrev leaver : Event → Option ℕ
  leaver (Drop u) = Some u
  leaver _ = None

  drop_live : (u : ℕ) (h : List Event) → IsGood l terms (Drop u ∷ h) → is_live u h ≡ true
  drop_live u h good =
      (and_parts (is_live u h) (owes_nothing u h) (last_follows l terms h (Drop u) good.legal).permitted).0

  drops_far : IsFar left leaver is_drop
  drops_far =
      record {
        makes = λ u m h good. ap (λ b. cond b 1 0)
            (fresh_not_dropped l terms h u (good_before (Make u m) h good).legal (make_is_new u m h good.legal));
        joins = λ q u m h good. ap (λ b. cond b 1 0)
            (fresh_not_dropped l terms h u (good_before (Reg q u m) h good).legal (reg_is_new q u m h good.legal));
        grows = grows;
        known = known;
        counts = counts;
        no_make = λ u m. refl;
        no_reg = λ q u m. refl;
      }
    where
      not_yet : (b d : Bool) → (b ≡ true → d ≡ false) → cond (b || d) 1 0 ≡ cond d 1 0 + cond b 1 0
      not_yet true d n = rw (n refl) one
        where
          one : ◌≡◌ {A = ℕ} 1 (0 + 1)
          one = omega arith
      not_yet false d n = from_plus_zero (cond d 1 0)

      still_live : (v t : ℕ) (h : List Event) → is_live v h ≡ true → (v == t) ≡ true → is_dropped t h ≡ false
      still_live v t h live e =
          subst (λ x. is_dropped x h ≡ false) (eqb-true v t e)
          (not-true (is_dropped v h) (and_parts (is_registered v h) (not (is_dropped v h)) live).1)

      grows : (e : Event) (h : List Event) (t : ℕ) → IsGood l terms (e ∷ h) → registers t e ≡ false
          → left t (e ∷ h) ≡ left t h + moved (leaver e) t
      grows (Drop v) h t good n = not_yet (v == t) (is_dropped t h) (still_live v t h (drop_live v h good))
      grows e h t good n = from_plus_zero (left t h)

      known : (e : Event) (h : List Event) (u : ℕ) → IsGood l terms (e ∷ h) → leaver e ≡ Some u
          → is_registered u h ≡ true
      known (Drop v) h u good is =
          subst (λ x. is_registered x h ≡ true) (same_Some v u is) (live_known v h (drop_live v h good))
      known e h u good is = absurd (none_some u is)

      counts : (e : Event) → is_drop e ≡ is_some (leaver e)
      counts (Drop v) = refl
      counts e = refl

  pub drops_in_all : (h : List Event) → IsGood l terms h
      → count_by is_drop h ≡ joined (λ t m. cond (is_dropped t h) 1 0) h
  drops_in_all h good = all_far left leaver is_drop drops_far h good

  -- who can't signal has signalled nothing
  pub never_signals : (t : ℕ) (h : List Event) → IsGood l terms h → has_mode can_signal t h ≡ false → signals t h ≡ 0
  never_signals t [] good n = refl
  never_signals t (Make u m ∷ h) good n =
      elim (cases_Bool (u == t)) [
        | inl e ↦ rw e refl
        | inr e ↦ rw e (never_signals t h (good_before (Make u m) h good) (rw e at n))
      ]
  never_signals t (Reg q u m ∷ h) good n =
      let p = and_parts (q == 0) (list_all is_still h) good.still in
      elim (cases_Bool (u == t)) [
        | inl e ↦ rw e (ap (λ i. signals i h) (eqb-true q 0 p.0) ∙ still_signals h p.1)
        | inr e ↦ rw e (never_signals t h (good_before (Reg q u m) h good) (rw e at n))
      ]
  never_signals t (Sig u x ∷ h) good n =
      elim (cases_Bool (u == t)) [
        | inl e ↦
            absurd (true≢false (sym (subst (λ v. has_mode can_signal v h ≡ true) (eqb-true u t e)
            (sig_follows l terms h u x (last_follows l terms h (Sig u x) good.legal).permitted).signaller) ∙ n))
        | inr e ↦ rw e (never_signals t h (good_before (Sig u x) h good) n)
      ]
  never_signals t (e ∷ h) good n = never_signals t h (good_before e h good) n
