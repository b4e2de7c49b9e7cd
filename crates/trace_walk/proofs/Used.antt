-- The numbers that are in use are below their limits, so the least that isn't in use is one that no act is refused for as a number in use.
use Rattle.std.proofs.Common.{ℕ, zero, suc, ◌+◌, ◌<◌, ◌≤◌, ◌≡◌, ◌≢◌, ◌⊎◌, Bool, true, false, ◌||◌, ◌==◌, not, nat_lt, cond, List, [], ◌∷◌, length, None, Ok, refl, sym, subst, ap, ◌∙◌, inl, inr, arith}
use Rattle.std.specs.Prelude.{filter, slice_index_or}
use Rattle.std.specs.List.{list_any, range_with_len}
use Rattle.std.proofs.lemmas.Bool.{and_parts, or_cases, or_left, cases_Bool, eqb-true, eqb-false, or_right, ltb-true, leb-true, not-true, true≢false, false≢true, false_from_ne_true, not-false}
use Rattle.phase_modes.specs.Lists.{is_empty}
use Rattle.phase_modes.specs.Limits.{limits_fit}
use Rattle.phase_modes.specs.declared.limits.Limits.{Limits}
use Rattle.phase_modes.specs.declared.refusal.Refusal.TheVariants.{NotNow, ActsFull, PhasersFull, FinishesFull, TasksFull}
use Rattle.phase_modes.specs.Refusal.{first_refusal}
use Rattle.phase_model.specs.declared.terms.Terms.{Terms}
use Rattle.phase_model.specs.declared.history.Event.{Event}
use Rattle.phase_model.specs.Rules.{is_allowed}
use Rattle.finish_core.specs.Finish.{all_ended}
use Rattle.finish_core.specs.Replies as finish
use Rattle.finish_core.specs.declared.event.FinishEvent.{FinishEvent}
use Rattle.finish_core.specs.declared.event.FinishEvent.TheVariants.{Opened, Spawned, Ended, Shut as Shutting}
use Rattle.world_model.specs.declared.event.Begun.TheVariants.{Async}
use Rattle.world_model.specs.declared.event.Step.{Step}
use Rattle.world_model.specs.declared.event.Step.TheVariants.{Make, Reg, Sig, Claim, Did, Pass, Send, Look, Drop}
use Rattle.world_model.specs.declared.event.Tried.{Tried}
use Rattle.world_model.specs.declared.event.Tried.TheVariants.{New, Open}
use Rattle.world_model.specs.declared.event.WorldEvent.{WorldEvent}
use Rattle.world_model.specs.declared.event.WorldEvent.TheVariants.{Phaser, Finish, Begin, Refuse, Fail}
use Rattle.world_model.specs.declared.reply.Reply.TheVariants.{NotYet}
use Rattle.world_model.specs.Parts.{terms_of, event_for, phaser_past, finish_past}
use Rattle.world_model.specs.PartReplies.{finish_returned}
use Rattle.world_model.specs.Replies.{is_made, is_accepted, is_legal_world}
use Rattle.world_model.specs.ActConditions.{own_conditions, pair_conditions, is_counted, most_phasers_held}
use Rattle.world_model.specs.Acts.{facts, act_reply, is_number_used}
use Rattle.world_model.specs.Tasks.{acts, phasers_of}
use Rattle.world_model.specs.Due.{is_idle}
use Rattle.world_model.specs.Numbers.{is_phaser, is_finish, names, is_named}
use Rattle.world_model.specs.Drawing.{least_unused}
use Rattle.world_model.specs.Report.{below}
use Rattle.world_model.proofs.MadeMeans.{last_accepted, act_made, no_refusal, begin_asked, part_made}
use Rattle.world_model.proofs.PhasersLegal.{step_allowed}

-- ---- the first condition of an act that is its own

own_first : (l : Limits) (w : List WorldEvent) (t : ℕ) (a : Tried) → is_made (act_reply l w t a) ≡ true → first_refusal (own_conditions l (facts w t) a) ≡ None
own_first l w t a k =
    let counted = not (is_counted a) || nat_lt (acts t w) l.acts in
    let free = not (is_number_used w a) in
    (no_refusal ActsFull counted (own_conditions l (facts w t) a)
    (no_refusal NotNow free ((ActsFull, counted) ∷ own_conditions l (facts w t) a)
    (no_refusal NotNow (is_idle t w) ((NotNow, free) ∷ (ActsFull, counted) ∷ own_conditions l (facts w t) a) (act_made l w t a k).0).1).1).1

-- ---- phasers

-- a phaser's first event makes it
abbrev makes : Step → Bool
makes (Make t m terms) = true
makes _ = false

blank_refuses : (l : Limits) (terms : Terms) (s : Step) → makes s ≡ false → is_allowed l terms [] (event_for terms [] s) ≡ false
blank_refuses l terms (Make t m o) h = absurd (true≢false h)
blank_refuses l terms (Reg q t m) h = refl
blank_refuses l terms (Sig t x) h = refl
blank_refuses l terms (Claim t) h = refl
blank_refuses l terms (Did t) h = refl
blank_refuses l terms (Pass t) h = refl
blank_refuses l terms (Send t a v) h = refl
blank_refuses l terms (Look t a) h = refl
blank_refuses l terms (Drop t) h = refl

not_first : (l : Limits) (w : List WorldEvent) (n : ℕ) (s : Step) → makes s ≡ false → phaser_past n w ≡ [] → is_accepted l w (Phaser n s) ≡ true → ⊥
not_first l w n s h none a =
    true≢false (sym (subst (λ (p : List Event). is_allowed l (terms_of n w) p (event_for (terms_of n w) p s) ≡ true) none (step_allowed l w n s a)) ∙ blank_refuses l (terms_of n w) s h)

no_events : (h : List Event) → not (is_empty h) ≡ false → h ≡ []
no_events [] e = refl
no_events (x ∷ h) e = absurd (true≢false e)

pub none_yet : (n : ℕ) (w : List WorldEvent) → is_phaser n w ≡ false → phaser_past n w ≡ []
none_yet n w h = no_events (phaser_past n w) h

first_step : (l : Limits) (w : List WorldEvent) (n : ℕ) (s : Step) → phaser_past n w ≡ [] → is_accepted l w (Phaser n s) ≡ true → n < l.phasers
first_step l w n (Make t m terms) none a = ltb-true n l.phasers (no_refusal PhasersFull (nat_lt n l.phasers) ((PhasersFull, nat_lt (length (phasers_of t w)) most_phasers_held) ∷ []) (own_first l w t (New n m terms) a)).0
first_step l w n (Reg q t m) none a = absurd (not_first l w n (Reg q t m) refl none a)
first_step l w n (Sig t x) none a = absurd (not_first l w n (Sig t x) refl none a)
first_step l w n (Claim t) none a = absurd (not_first l w n (Claim t) refl none a)
first_step l w n (Did t) none a = absurd (not_first l w n (Did t) refl none a)
first_step l w n (Pass t) none a = absurd (not_first l w n (Pass t) refl none a)
first_step l w n (Send t i v) none a = absurd (not_first l w n (Send t i v) refl none a)
first_step l w n (Look t i) none a = absurd (not_first l w n (Look t i) refl none a)
first_step l w n (Drop t) none a = absurd (not_first l w n (Drop t) refl none a)

first_made : (l : Limits) (n : ℕ) (e : WorldEvent) (w : List WorldEvent) → is_accepted l w e ≡ true → is_phaser n w ≡ false → is_phaser n (e ∷ w) ≡ true → n < l.phasers
first_made l n (Phaser m s) w a none now =
    elim (cases_Bool (m == n)) [
      | inl e ↦
          let same : m ≡ n = eqb-true m n e in
          subst (λ v. v < l.phasers) same (first_step l w m s (subst (λ v. phaser_past v w ≡ []) (sym same) (none_yet n w none)) a)
      | inr e ↦ absurd (true≢false (sym (rw e at now) ∙ none))
    ]
first_made l n (Finish f e) w a none now = absurd (true≢false (sym now ∙ none))
first_made l n (Begin t b) w a none now = absurd (true≢false (sym now ∙ none))
first_made l n (Refuse t b x) w a none now = absurd (true≢false (sym now ∙ none))
first_made l n (Fail t x) w a none now = absurd (true≢false (sym now ∙ none))

pub phaser_below : (l : Limits) (n : ℕ) (w : List WorldEvent) → is_legal_world l w ≡ true → is_phaser n w ≡ true → n < l.phasers
phaser_below l n [] k h = absurd (false≢true h)
phaser_below l n (e ∷ w) k h =
    let a = last_accepted l e w k in
    elim (cases_Bool (is_phaser n w)) [
      | inl old ↦ phaser_below l n w a.1 old
      | inr none ↦ first_made l n e w a.0 none h
    ]

-- ---- finishes

opens : FinishEvent → Bool
opens (Opened t) = true
opens _ = false

first_in_finish : (l : Limits) (w : List WorldEvent) (f : ℕ) (e : FinishEvent) → finish_past f w ≡ [] → is_accepted l w (Finish f e) ≡ true → f < l.finishes
first_in_finish l w f (Opened t) none a = ltb-true f l.finishes (no_refusal FinishesFull (nat_lt f l.finishes) [] (own_first l w t (Open f) a)).0
first_in_finish l w f (Spawned t) none a = absurd (false≢true (subst (λ (h : List FinishEvent). is_made (finish_returned (finish.reply l.tasks h (Spawned t))) ≡ true) none (part_made l w (Finish f (Spawned t)) a).1))
first_in_finish l w f (Ended t) none a = absurd (false≢true (subst (λ (h : List FinishEvent). is_made (finish_returned (finish.reply l.tasks h (Ended t))) ≡ true) none (part_made l w (Finish f (Ended t)) a).1))
first_in_finish l w f Shutting none a = absurd (false≢true (subst (λ (h : List FinishEvent). is_made (cond (all_ended h) (finish_returned (finish.reply l.tasks h Shutting)) (Ok NotYet)) ≡ true) none (part_made l w (Finish f Shutting) a).1))

pub no_finish_events : (h : List FinishEvent) → not (is_empty h) ≡ false → h ≡ []
no_finish_events [] e = refl
no_finish_events (x ∷ h) e = absurd (true≢false e)

first_opened : (l : Limits) (f : ℕ) (e : WorldEvent) (w : List WorldEvent) → is_accepted l w e ≡ true → is_finish f w ≡ false → is_finish f (e ∷ w) ≡ true → f < l.finishes
first_opened l f (Finish g e) w a none now =
    elim (cases_Bool (g == f)) [
      | inl s ↦
          let same : g ≡ f = eqb-true g f s in
          subst (λ v. v < l.finishes) same (first_in_finish l w g e (subst (λ v. finish_past v w ≡ []) (sym same) (no_finish_events (finish_past f w) none)) a)
      | inr s ↦ absurd (true≢false (sym (rw s at now) ∙ none))
    ]
first_opened l f (Phaser n s) w a none now = absurd (true≢false (sym now ∙ none))
first_opened l f (Begin t b) w a none now = absurd (true≢false (sym now ∙ none))
first_opened l f (Refuse t b x) w a none now = absurd (true≢false (sym now ∙ none))
first_opened l f (Fail t x) w a none now = absurd (true≢false (sym now ∙ none))

-- each limit is at least 1
pub some_task : (l : Limits) → limits_fit l ≡ true → 0 < l.tasks
some_task l h = leb-true 1 l.tasks (and_parts _ _ (and_parts _ _ h).1).0

pub some_finish : (l : Limits) → limits_fit l ≡ true → 0 < l.finishes
some_finish l h =
    let a = and_parts _ _ h in
    let b = and_parts _ _ a.0 in
    let c = and_parts _ _ b.0 in
    let d = and_parts _ _ c.0 in
    leb-true 1 l.finishes (and_parts _ _ (and_parts _ _ d.0).1).0

pub finish_below : (l : Limits) (f : ℕ) (w : List WorldEvent) → limits_fit l ≡ true → is_legal_world l w ≡ true → is_finish f w ≡ true → f < l.finishes
finish_below l f [] fit k h =
    elim (cases_Bool (f == 0)) [
      | inl z ↦ subst (λ v. v < l.finishes) (sym (eqb-true f 0 z)) (some_finish l fit)
      | inr z ↦ absurd (false≢true (rw z at h))
    ]
finish_below l f (e ∷ w) fit k h =
    let a = last_accepted l e w k in
    elim (cases_Bool (is_finish f w)) [
      | inl old ↦ finish_below l f w fit a.1 old
      | inr none ↦ first_opened l f e w a.0 none h
    ]

-- ---- tasks

named_first : (l : Limits) (t : ℕ) (e : WorldEvent) (w : List WorldEvent) → is_accepted l w e ≡ true → names t e ≡ true → t < l.tasks
named_first l t (Begin u (Async c ps)) w a h =
    subst (λ v. v < l.tasks) (eqb-true c t h) (ltb-true c l.tasks (no_refusal TasksFull (nat_lt c l.tasks) (pair_conditions (facts w u) [] ps) (begin_asked l w u (Async c ps) a)).0)
named_first l t (Begin u b) w a h = absurd cc
named_first l t (Phaser n s) w a h = absurd (false≢true h)
named_first l t (Finish f e) w a h = absurd (false≢true h)
named_first l t (Refuse u b x) w a h = absurd (false≢true h)
named_first l t (Fail u x) w a h = absurd (false≢true h)

-- one that is named now, or was before
pub named_by_one : (t : ℕ) (e : WorldEvent) (w : List WorldEvent) → is_named t (e ∷ w) ≡ true → (names t e ≡ true) ⊎ (is_named t w ≡ true)
named_by_one t e w h =
    elim (or_cases (t == 0) (names t e || list_any (names t) w) h) [
      | inl z ↦ inr (or_left (t == 0) (list_any (names t) w) z)
      | inr z ↦ elim (or_cases (names t e) (list_any (names t) w) z) [
        | inl y ↦ inl y
        | inr y ↦ inr (or_right (t == 0) (list_any (names t) w) y)
      ]
    ]

pub task_below : (l : Limits) (t : ℕ) (w : List WorldEvent) → limits_fit l ≡ true → is_legal_world l w ≡ true → is_named t w ≡ true → t < l.tasks
task_below l t [] fit k h =
    elim (or_cases (t == 0) false h) [
      | inl z ↦ subst (λ v. v < l.tasks) (sym (eqb-true t 0 z)) (some_task l fit)
      | inr z ↦ absurd (false≢true z)
    ]
task_below l t (e ∷ w) fit k h =
    let a = last_accepted l e w k in
    elim (named_by_one t e w h) [
      | inl now ↦ named_first l t e w a.0 now
      | inr old ↦ task_below l t w fit a.1 old
    ]

-- ---- the least number that isn't in use

first_passes : (p : ℕ → Bool) (xs : List ℕ) (d : ℕ) → p d ≡ true → p (slice_index_or (filter p xs) 0 d) ≡ true
first_passes p [] d h = h
first_passes p (x ∷ xs) d h =
    elim (cases_Bool (p x)) [
      | inl e ↦ rw e e
      | inr e ↦ rw e (first_passes p xs d h)
    ]

-- it isn't in use
pub least_free : (used : ℕ → Bool) (limit : ℕ) → used limit ≡ false → used (least_unused used limit) ≡ false
least_free used limit h = not-true (used (least_unused used limit)) (first_passes (λ n. not (used n)) (below limit) limit (ap (λ b. not b) h))

fails_before : (p : ℕ → Bool) (a n d t : ℕ) → d ≤ a + n → a ≤ t → t < slice_index_or (filter p (range_with_len a n)) 0 d → p t ≡ false
fails_before p a zero d t le from h = absurd (omega (arith, le, from, h))
fails_before p a (suc n) d t le from h =
    elim (cases_Bool (p a)) [
      | inl e ↦
          let less : t < a = rw e at h in
          absurd (omega (arith, less, from))
      | inr e ↦
          let later : t < slice_index_or (filter p (range_with_len (a + 1) n)) 0 d = rw e at h in
          elim (cases_Bool (t == a)) [
            | inl same ↦ subst (λ v. p v ≡ false) (sym (eqb-true t a same)) e
            | inr other ↦ fails_before p (a + 1) n d t (omega (arith, le)) (above t a from (eqb-false t a other)) later
          ]
    ]
  where
    above : (t a : ℕ) → a ≤ t → t ≢ a → a + 1 ≤ t
    above t a h k = omega arith

-- all below it are
pub used_below : (used : ℕ → Bool) (limit t : ℕ) → t < least_unused used limit → used t ≡ true
used_below used limit t h = not-false (used t) (fails_before (λ n. not (used n)) 0 limit limit t (omega arith) (omega arith) h)

-- past the limit nothing is in use
none_above : (b : Bool) (n : ℕ) → (b ≡ true → n < n) → b ≡ false
none_above b n h = false_from_ne_true b (λ k. omega (arith, h k))

module _ (l : Limits) (w : List WorldEvent) (fit : limits_fit l ≡ true) (k : is_legal_world l w ≡ true) where
  pub phaser_free : is_phaser (least_unused (λ n. is_phaser n w) l.phasers) w ≡ false
  phaser_free = least_free (λ n. is_phaser n w) l.phasers (none_above (is_phaser l.phasers w) l.phasers (phaser_below l l.phasers w k))

  pub task_free : is_named (least_unused (λ t. is_named t w) l.tasks) w ≡ false
  task_free = least_free (λ t. is_named t w) l.tasks (none_above (is_named l.tasks w) l.tasks (task_below l l.tasks w fit k))

  pub finish_free : is_finish (least_unused (λ f. is_finish f w) l.finishes) w ≡ false
  finish_free = least_free (λ f. is_finish f w) l.finishes (none_above (is_finish l.finishes w) l.finishes (finish_below l l.finishes w fit k))
