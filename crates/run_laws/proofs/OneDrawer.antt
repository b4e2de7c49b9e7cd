-- Where each kind of number is drawn in order, one task alone draws it; and the numbers in use are those that it has
-- drawn.
use Rattle.std.proofs.Common.{◌≡◌, ℕ, ◌+◌, ◌<◌, ◌≤◌, Bool, true, false, ◌&&◌, ◌||◌, ◌==◌, nat_lt, cond, List, [], ◌∷◌, ◌++◌, refl, sym, subst, ap, ◌∙◌, inl, inr, arith}
use Rattle.std.specs.List.{count_by}
use Rattle.std.proofs.lemmas.Bool.{and_parts, and_from, or_left, or_right, cases_Bool, eqb-true, eq-eqb, ltb-true, ltb-false, true≢false, false≢true}
use Rattle.phase_modes.specs.declared.limits.Limits.{Limits}
use Rattle.phase_modes.specs.declared.phased.Pair.{Pair}
use Rattle.job_script.specs.declared.act.Act.{Act}
use Rattle.job_script.specs.declared.act.Act.TheVariants as acts
use Rattle.finish_core.specs.declared.event.FinishEvent.TheVariants.{Opened}
use Rattle.world_model.specs.declared.event.Step.TheVariants.{Make}
use Rattle.world_model.specs.declared.event.Begun.TheVariants.{Async}
use Rattle.world_model.specs.declared.event.Tried.TheVariants.{Begun as Beginning, New, Open}
use Rattle.world_model.specs.declared.event.WorldEvent.{WorldEvent}
use Rattle.world_model.specs.declared.event.WorldEvent.TheVariants.{Phaser, Finish, Begin}
use Rattle.world_model.specs.Actors.{actor}
use Rattle.world_model.specs.Due.{is_of_single}
use Rattle.world_model.specs.Numbers.{is_phaser, is_finish, is_named, names}
use Rattle.world_model.specs.Parts.{phaser_past, finish_past, terms_of, event_for}
use Rattle.world_model.specs.Replies.{is_legal_world, is_accepted}
use Rattle.world_model.proofs.AbleComputed.{act_now}
use Rattle.world_model.proofs.MadeMeans.{last_accepted}
use Rattle.std.specs.List.{list_any}
use Rattle.trace_walk.specs.Scripts.{Numbers, act_of}
use Rattle.trace_walk.specs.Given.{tried_of}
use Rattle.run_laws.specs.Telling.{Told, told, told_of, tells, makes, begins_child, opens, in_order, draws_next, draws_by}
use Rattle.run_laws.proofs.Plain.{plus_none, count_more}
use Rattle.run_laws.proofs.Drawings.{lt_more, phaser_there, finish_there, some_or, some_finish_or, or_known, or_moves, zero_first, root_finish}
use Rattle.run_laws.proofs.NextEvents.{event_by}

-- how many numbers of a kind a task has drawn
abbrev pub drawn_by : (WorldEvent → Bool) → ℕ → List WorldEvent → ℕ
drawn_by q t w = count_by (λ (x : Told). q x.event) (told t w)

-- a kind of number: which events draw it, which number they draw, which are in use, and which is the first
pub record IsKind (l : Limits) (q : WorldEvent → Bool) (number : WorldEvent → ℕ)
    (used : ℕ → List WorldEvent → Bool) (base : ℕ) : Type 0 where
  pub plain : (e : WorldEvent) → q e ≡ true → is_of_single e ≡ false
  pub none : (n : ℕ) → used n [] ≡ nat_lt n base
  pub more : (n : ℕ) (e : WorldEvent) (w : List WorldEvent) → is_accepted l w e ≡ true
      → used n (e ∷ w) ≡ ((q e && number e == n) || used n w)
  pub free : (e : WorldEvent) (w : List WorldEvent) → is_accepted l w e ≡ true → q e ≡ true
      → used (number e) w ≡ false
  pub ordered : (e : WorldEvent) (w : List WorldEvent) → draws_next in_order w (act_of e) ≡ true → q e ≡ true
      → number e ≡ base + drawn_by q (actor w e) w

-- ---- the three kinds

abbrev pub phaser_number : WorldEvent → ℕ
phaser_number (Phaser n s) = n
phaser_number _ = 0

abbrev pub child_number : WorldEvent → ℕ
child_number (Begin t (Async c ps)) = c
child_number _ = 0

abbrev pub finish_number : WorldEvent → ℕ
finish_number (Finish f d) = f
finish_number _ = 0

pub phasers_kind : (l : Limits) → IsKind l makes phaser_number is_phaser 0
phasers_kind l =
    record {
      plain = plain;
      none = λ n. no_less n;
      more = more;
      free = free;
      ordered = ordered;
    }
  where
    no_less : (n : ℕ) → false ≡ nat_lt n 0
    no_less n =
        elim (cases_Bool (nat_lt n 0)) [
          | inl e ↦ let low : n < 0 = ltb-true n 0 e in absurd (omega (arith, low))
          | inr e ↦ sym e
        ]

    plain : (e : WorldEvent) → makes e ≡ true → is_of_single e ≡ false
    plain (Phaser n (Make t m terms)) k = refl
    plain e k = absurd (false≢true k)

    more : (n : ℕ) (e : WorldEvent) (w : List WorldEvent) → is_accepted l w e ≡ true
        → is_phaser n (e ∷ w) ≡ ((makes e && phaser_number e == n) || is_phaser n w)
    more n (Phaser m (Make t o terms)) w a =
        some_or (m == n) (event_for (terms_of n w) (phaser_past n w) (Make t o terms)) (phaser_past n w)
    more n (Phaser m s) w a =
        some_or (m == n) (event_for (terms_of n w) (phaser_past n w) s) (phaser_past n w)
        ∙ or_known (m == n) (is_phaser n w)
        (λ e. subst (λ i. is_phaser i w ≡ true) (eqb-true m n e) (phaser_there l w m s refl a))
    more n e w a = refl

    free : (e : WorldEvent) (w : List WorldEvent) → is_accepted l w e ≡ true → makes e ≡ true
        → is_phaser (phaser_number e) w ≡ false
    free (Phaser n (Make t m terms)) w a k = (act_now l w t (New n m terms) a).1
    free e w a k = absurd (false≢true k)

    ordered : (e : WorldEvent) (w : List WorldEvent) → draws_next in_order w (act_of e) ≡ true
        → makes e ≡ true → phaser_number e ≡ 0 + drawn_by makes (actor w e) w
    ordered (Phaser n (Make t m terms)) w d k =
        eqb-true n (drawn_by makes t w) d ∙ plus_none (drawn_by makes t w)
    ordered e w d k = absurd (false≢true k)

one_more : (x y : ℕ) → x ≡ y + 1 → x ≡ 1 + y
one_more x y e = omega arith

pub tasks_kind : (l : Limits) → IsKind l begins_child child_number is_named 1
tasks_kind l =
    record {
      plain = plain;
      none = zero_first;
      more = more;
      free = free;
      ordered = ordered;
    }
  where
    plain : (e : WorldEvent) → begins_child e ≡ true → is_of_single e ≡ false
    plain (Begin t (Async c ps)) k = refl
    plain e k = absurd (false≢true k)

    more : (n : ℕ) (e : WorldEvent) (w : List WorldEvent) → is_accepted l w e ≡ true
        → is_named n (e ∷ w) ≡ ((begins_child e && child_number e == n) || is_named n w)
    more n (Begin t (Async c ps)) w a = or_moves (n == 0) (c == n) (list_any (names n) w)
    more n e w a = refl

    free : (e : WorldEvent) (w : List WorldEvent) → is_accepted l w e ≡ true → begins_child e ≡ true
        → is_named (child_number e) w ≡ false
    free (Begin t (Async c ps)) w a k = (act_now l w t (Beginning (Async c ps)) a).1
    free e w a k = absurd (false≢true k)

    ordered : (e : WorldEvent) (w : List WorldEvent) → draws_next in_order w (act_of e) ≡ true
        → begins_child e ≡ true → child_number e ≡ 1 + drawn_by begins_child (actor w e) w
    ordered (Begin t (Async c ps)) w d k =
        one_more c (drawn_by begins_child t w) (eqb-true c (drawn_by begins_child t w + 1) d)
    ordered e w d k = absurd (false≢true k)

pub finishes_kind : (l : Limits) → IsKind l opens finish_number is_finish 1
finishes_kind l =
    record {
      plain = plain;
      none = λ f. root_finish f ∙ zero_first f;
      more = more;
      free = free;
      ordered = ordered;
    }
  where
    plain : (e : WorldEvent) → opens e ≡ true → is_of_single e ≡ false
    plain (Finish f (Opened t)) k = refl
    plain e k = absurd (false≢true k)

    more : (n : ℕ) (e : WorldEvent) (w : List WorldEvent) → is_accepted l w e ≡ true
        → is_finish n (e ∷ w) ≡ ((opens e && finish_number e == n) || is_finish n w)
    more n (Finish f (Opened t)) w a = some_finish_or (f == n) (Opened t) (finish_past n w)
    more n (Finish f d) w a =
        some_finish_or (f == n) d (finish_past n w)
        ∙ or_known (f == n) (is_finish n w)
        (λ e. subst (λ i. is_finish i w ≡ true) (eqb-true f n e) (finish_there l w f d refl a))
    more n e w a = refl

    free : (e : WorldEvent) (w : List WorldEvent) → is_accepted l w e ≡ true → opens e ≡ true
        → is_finish (finish_number e) w ≡ false
    free (Finish f (Opened t)) w a k = (act_now l w t (Open f) a).1
    free e w a k = absurd (false≢true k)

    ordered : (e : WorldEvent) (w : List WorldEvent) → draws_next in_order w (act_of e) ≡ true
        → opens e ≡ true → finish_number e ≡ 1 + drawn_by opens (actor w e) w
    ordered (Finish f (Opened t)) w d k =
        one_more f (drawn_by opens t w) (eqb-true f (drawn_by opens t w + 1) d)
    ordered e w d k = absurd (false≢true k)

-- whether an act draws one hangs on no number, nor on its task's phasers
pub makes_alike : {B : Type 0} (t : ℕ) (own mine : List Pair) (new given : Numbers) (d : Act B)
    → makes (event_by t (tried_of own new d)) ≡ makes (event_by t (tried_of mine given d))
makes_alike t own mine new given (acts.New m ops b) = refl
makes_alike t own mine new given d = refl

pub spawns_alike : {B : Type 0} (t : ℕ) (own mine : List Pair) (new given : Numbers) (d : Act B)
    → begins_child (event_by t (tried_of own new d)) ≡ begins_child (event_by t (tried_of mine given d))
spawns_alike t own mine new given (acts.Async child ps) = refl
spawns_alike t own mine new given d = refl

pub opens_alike : {B : Type 0} (t : ℕ) (own mine : List Pair) (new given : Numbers) (d : Act B)
    → opens (event_by t (tried_of own new d)) ≡ opens (event_by t (tried_of mine given d))
opens_alike t own mine new given acts.OpenFinish = refl
opens_alike t own mine new given d = refl

-- ---- of each kind

module _ (l : Limits) (q : WorldEvent → Bool) (number : WorldEvent → ℕ) (used : ℕ → List WorldEvent → Bool)
    (base : ℕ) (kind : IsKind l q number used base) where
  pub drawn_step : (t : ℕ) (e : WorldEvent) (w : List WorldEvent)
      → drawn_by q t (e ∷ w) ≡ cond (q e && actor w e == t) 1 0 + drawn_by q t w
  drawn_step t e w = by_test (q e) refl
    where
      by_test : (b : Bool) → q e ≡ b → drawn_by q t (e ∷ w) ≡ cond (b && actor w e == t) 1 0 + drawn_by q t w
      by_test true k =
          elim (cases_Bool (actor w e == t)) [
            | inl m ↦
                rw (m, kind.plain e k)
                (count_more q (told_of w e) (told t w) ∙ ap (λ b. cond b 1 0 + drawn_by q t w) k)
            | inr m ↦ rw m (plus_none (drawn_by q t w))
          ]
      by_test false k =
          elim (tells t w e)
          as (λ c. count_by (λ (y : Told). q y.event) (cond c (told_of w e ∷ told t w) (told t w))
          ≡ 0 + drawn_by q t w) [
            | true ↦ count_more q (told_of w e) (told t w) ∙ ap (λ b. cond b 1 0 + drawn_by q t w) k
            | false ↦ plus_none (drawn_by q t w)
          ]

  -- one draw more, or none
  pub drawn_now : (t : ℕ) (e : WorldEvent) (w : List WorldEvent) → (q e && actor w e == t) ≡ true
      → drawn_by q t (e ∷ w) ≡ 1 + drawn_by q t w
  drawn_now t e w k = drawn_step t e w ∙ ap (λ b. cond b 1 0 + drawn_by q t w) k

  drawn_not : (t : ℕ) (e : WorldEvent) (w : List WorldEvent) → (q e && actor w e == t) ≡ false
      → drawn_by q t (e ∷ w) ≡ drawn_by q t w
  drawn_not t e w k =
      drawn_step t e w ∙ (ap (λ b. cond b 1 0 + drawn_by q t w) k ∙ sym (plus_none (drawn_by q t w)))

  pub drawn_later : (t : ℕ) (later w : List WorldEvent) → drawn_by q t w ≤ drawn_by q t (later ++ w)
  drawn_later t [] w = omega arith
  drawn_later t (e ∷ later) w =
      let rest = drawn_later t later w in
      elim (cases_Bool (q e && actor (later ++ w) e == t)) [
        | inl k ↦ omega (arith, rest, drawn_now t e (later ++ w) k)
        | inr k ↦ omega (arith, rest, drawn_not t e (later ++ w) k)
      ]

  -- where somebody has drawn, the first number is in use
  first_used : (t : ℕ) (w : List WorldEvent) → is_legal_world l w ≡ true → draws_by in_order w ≡ true
      → 0 < drawn_by q t w → used base w ≡ true
  first_used t [] k d some = absurd (omega (arith, some))
  first_used t (e ∷ w) k d some =
      let a = last_accepted l e w k in
      let o = and_parts (draws_next in_order w (act_of e)) (draws_by in_order w) d in
      kind.more base e w a.0
      ∙ (elim (cases_Bool (nat_lt 0 (drawn_by q t w))) [
        | inl y ↦
            or_right (q e && number e == base) (used base w)
            (first_used t w a.1 o.1 (ltb-true 0 (drawn_by q t w) y))
        | inr y ↦
            let none : drawn_by q t w ≤ 0 = ltb-false 0 (drawn_by q t w) y in
            elim (cases_Bool (q e && actor w e == t)) [
              | inl m ↦
                  let p = and_parts (q e) (actor w e == t) m in
                  let is : number e ≡ base + drawn_by q t w =
                  subst (λ u. number e ≡ base + drawn_by q u w) (eqb-true (actor w e) t p.1)
                  (kind.ordered e w o.0 p.0) in
                  or_left (q e && number e == base) (used base w)
                  (and_from (q e) (number e == base) p.0 (eq-eqb (number e) base (omega (arith, is, none))))
              | inr m ↦ absurd (omega (arith, some, none, drawn_not t e w m))
            ]
      ])

  -- so nobody draws where another has
  no_newcomer : (t u : ℕ) (e : WorldEvent) (w : List WorldEvent) → is_legal_world l w ≡ true
      → draws_by in_order w ≡ true → is_accepted l w e ≡ true → draws_next in_order w (act_of e) ≡ true
      → (q e && actor w e == t) ≡ true
      → 0 < drawn_by q u w → 0 < drawn_by q t w
  no_newcomer t u e w k d a o m some =
      elim (cases_Bool (nat_lt 0 (drawn_by q t w))) [
        | inl y ↦ ltb-true 0 (drawn_by q t w) y
        | inr y ↦
            let none : drawn_by q t w ≤ 0 = ltb-false 0 (drawn_by q t w) y in
            let p = and_parts (q e) (actor w e == t) m in
            let is : number e ≡ base + drawn_by q t w =
            subst (λ u. number e ≡ base + drawn_by q u w) (eqb-true (actor w e) t p.1)
            (kind.ordered e w o p.0) in
            let first : number e ≡ base = omega (arith, is, none) in
            absurd (true≢false (sym (first_used u w k d some)
            ∙ subst (λ n. used n w ≡ false) first (kind.free e w a p.0)))
      ]

  -- one task alone draws
  pub one_drawer : (w : List WorldEvent) → is_legal_world l w ≡ true → draws_by in_order w ≡ true → (t u : ℕ)
      → 0 < drawn_by q t w → 0 < drawn_by q u w → t ≡ u
  one_drawer [] k d t u some other = absurd (omega (arith, some))
  one_drawer (e ∷ w) k d t u some other =
      let a = last_accepted l e w k in
      let o = and_parts (draws_next in_order w (act_of e)) (draws_by in_order w) d in
      elim (cases_Bool (q e && actor w e == t)) [
        | inl m ↦
            elim (cases_Bool (q e && actor w e == u)) [
              | inl n ↦
                  sym (eqb-true (actor w e) t (and_parts (q e) (actor w e == t) m).1)
                  ∙ eqb-true (actor w e) u (and_parts (q e) (actor w e == u) n).1
              | inr n ↦
                  let before : 0 < drawn_by q u w = omega (arith, other, drawn_not u e w n) in
                  one_drawer w a.1 o.1 t u (no_newcomer t u e w a.1 o.1 a.0 o.0 m before) before
            ]
        | inr m ↦
            let before : 0 < drawn_by q t w = omega (arith, some, drawn_not t e w m) in
            elim (cases_Bool (q e && actor w e == u)) [
              | inl n ↦ one_drawer w a.1 o.1 t u before (no_newcomer u t e w a.1 o.1 a.0 o.0 n before)
              | inr n ↦ one_drawer w a.1 o.1 t u before (omega (arith, other, drawn_not u e w n))
            ]
      ]

  -- and what is in use is what it has drawn
  pub in_use : (d : ℕ) (w : List WorldEvent) → is_legal_world l w ≡ true → draws_by in_order w ≡ true
      → ((u : ℕ) → 0 < drawn_by q u w → u ≡ d) → (n : ℕ) → used n w ≡ nat_lt n (base + drawn_by q d w)
  in_use d [] k o alone n = kind.none n ∙ ap (λ i. nat_lt n i) (nothing base)
    where
      nothing : (i : ℕ) → i ≡ i + 0
      nothing i = omega arith
  in_use d (e ∷ w) k o alone n =
      let a = last_accepted l e w k in
      let r = and_parts (draws_next in_order w (act_of e)) (draws_by in_order w) o in
      let before : used n w ≡ nat_lt n (base + drawn_by q d w) =
      in_use d w a.1 r.1 (λ u some. alone u (later u some)) n in
      kind.more n e w a.0
      ∙ (elim (cases_Bool (q e)) [
        | inl y ↦
            let mine : actor w e ≡ d = alone (actor w e) (own y) in
            let is : number e ≡ base + drawn_by q d w =
            subst (λ u. number e ≡ base + drawn_by q u w) mine (kind.ordered e w r.0 y) in
            let more : base + drawn_by q d (e ∷ w) ≡ 1 + (base + drawn_by q d w) =
            omega (arith, drawn_now d e w (and_from (q e) (actor w e == d) y (eq-eqb (actor w e) d mine))) in
            ap (λ b. (b && number e == n) || used n w) y
            ∙ (ap (λ i. (i == n) || used n w) is
            ∙ (ap (λ b. (base + drawn_by q d w == n) || b) before
            ∙ (lt_more n (base + drawn_by q d w) ∙ ap (λ i. nat_lt n i) (sym more))))
        | inr y ↦
            let same : base + drawn_by q d (e ∷ w) ≡ base + drawn_by q d w =
            ap (λ i. base + i) (drawn_not d e w (ap (λ b. b && actor w e == d) y)) in
            ap (λ b. (b && number e == n) || used n w) y ∙ (before ∙ ap (λ i. nat_lt n i) (sym same))
      ])
    where
      later : (u : ℕ) → 0 < drawn_by q u w → 0 < drawn_by q u (e ∷ w)
      later u some = omega (arith, some, drawn_later u (e ∷ []) w)

      own : q e ≡ true → 0 < drawn_by q (actor w e) (e ∷ w)
      own y =
          omega (
            arith,
            drawn_now (actor w e) e w
                (and_from (q e) (actor w e == actor w e) y (eq-eqb (actor w e) (actor w e) refl)),
          )
