-- What is watched of a run tells of each event whether luck has a part in it.
use Rattle.std.proofs.Common.{ℕ, ◌+◌, ◌≡◌, ◌≢◌, Bool, true, false, ◌&&◌, ◌||◌, ◌==◌, not, nat_lt, cond, List, [], ◌∷◌, length, Some, None, refl, sym, ap, subst, ◌∙◌, inl, inr, arith}
use Rattle.std.specs.List.{list_any}
use Rattle.std.proofs.lemmas.Bool.{and_parts, cases_Bool, eqb-true, eq-eqb, true≢false}
use Rattle.phase_modes.specs.Lists.{is_empty}
use Rattle.phase_modes.specs.declared.limits.Limits.{Limits}
use Rattle.phase_modes.specs.declared.reg.Mode.{Mode}
use Rattle.phase_modes.specs.declared.phased.Pair.{Pair}
use Rattle.phase_model.specs.declared.history.Event.{Event}
use Rattle.phase_model.specs.declared.terms.Terms.{Terms}
use Rattle.phase_model.specs.Tasks.{registered_by, registered_tasks}
use Rattle.finish_core.specs.declared.event.FinishEvent.{FinishEvent}
use Rattle.finish_core.specs.declared.event.FinishEvent.TheVariants.{Opened}
use Rattle.world_model.specs.declared.event.Step.{Step}
use Rattle.world_model.specs.declared.event.Step.TheVariants.{Make, Reg, Sig, Claim, Did, Pass, Send, Look, Drop}
use Rattle.world_model.specs.declared.event.Begun.TheVariants.{Async}
use Rattle.world_model.specs.declared.event.Tried.TheVariants.{Begun as Beginning, New, Open}
use Rattle.world_model.specs.declared.event.WorldEvent.{WorldEvent}
use Rattle.world_model.specs.declared.event.WorldEvent.TheVariants.{Phaser, Finish, Begin, Refuse, Fail}
use Rattle.world_model.specs.Numbers.{is_phaser, is_finish, is_named, names}
use Rattle.world_model.specs.Parts.{phaser_past, terms_of, event_for, finish_past}
use Rattle.world_model.specs.Replies.{is_accepted}
use Rattle.world_model.proofs.AbleComputed.{act_now}
use Rattle.run_laws.specs.Memory.{registrations}
use Rattle.run_laws.specs.Telling.{makes, begins_child, opens}
use Rattle.run_laws.proofs.Plain.{plus_none}
use Rattle.run_laws.specs.declared.watch.Watch.{Watch}
use Rattle.run_laws.specs.declared.watch.Kind.{Kind}
use Rattle.run_laws.specs.Luck.{has_place, is_steady, joined, luck_of}
use Rattle.run_laws.specs.inner.Watched.{count_of, draws, drawn, has_place_in, is_on, is_taken, phasers_after, tasks_after, finishes_after, IsAfter, IsFresh, KindStands, Watches}
use Rattle.run_laws.proofs.Counts.{kind_stays, next_is, kind_drawn}

-- ---- a number in use stays in use

some_or : (b : Bool) (x : Event) (h : List Event) → not (is_empty h) ≡ true → not (is_empty (cond b (x ∷ h) h)) ≡ true
some_or true x h k = refl
some_or false x h k = k

some_finish_or : (b : Bool) (x : FinishEvent) (h : List FinishEvent) → not (is_empty h) ≡ true
    → not (is_empty (cond b (x ∷ h) h)) ≡ true
some_finish_or true x h k = refl
some_finish_or false x h k = k

phaser_stays : (n : ℕ) (e : WorldEvent) (w : List WorldEvent) → is_phaser n w ≡ true → is_phaser n (e ∷ w) ≡ true
phaser_stays n (Phaser m s) w k = some_or (m == n) (event_for (terms_of n w) (phaser_past n w) s) (phaser_past n w) k
phaser_stays n e w k = k

finish_stays : (f : ℕ) (e : WorldEvent) (w : List WorldEvent) → is_finish f w ≡ true → is_finish f (e ∷ w) ≡ true
finish_stays f (Finish g x) w k = some_finish_or (g == f) x (finish_past f w) k
finish_stays f e w k = k

named_stays : (t : ℕ) (e : WorldEvent) (w : List WorldEvent) → is_named t w ≡ true → is_named t (e ∷ w) ≡ true
named_stays t e w k = or_more (t == 0) (names t e) (list_any (names t) w) k
  where
    or_more : (a b c : Bool) → (a || c) ≡ true → (a || (b || c)) ≡ true
    or_more true b c k = refl
    or_more false true c k = refl
    or_more false false c k = k

-- ---- a number that is drawn is in use

phaser_made : (t n : ℕ) (m : Mode) (terms : Terms) (w : List WorldEvent) → is_phaser n (Phaser n (Make t m terms) ∷ w) ≡ true
phaser_made t n m terms w = rw (eq-eqb n n refl) refl

child_named : (t c : ℕ) (pairs : List Pair) (w : List WorldEvent) → is_named c (Begin t (Async c pairs) ∷ w) ≡ true
child_named t c pairs w = rw (eq-eqb c c refl) (or_true (c == 0))
  where
    or_true : (b : Bool) → (b || true) ≡ true
    or_true true = refl
    or_true false = refl

finish_opened : (t f : ℕ) (w : List WorldEvent) → is_finish f (Finish f (Opened t) ∷ w) ≡ true
finish_opened t f w = rw (eq-eqb f f refl) refl

-- ---- who tells a draw

told_by_own : (t : ℕ) → (t == t && true) ≡ true
told_by_own t = rw (eq-eqb t t refl) refl

told_by_none : (t u : ℕ) → u ≢ t → (t == u && true) ≡ false
told_by_none t u apart =
    elim (cases_Bool (t == u)) [
      | inl e ↦ absurd (apart (sym (eqb-true t u e)))
      | inr e ↦ rw e refl
    ]

-- ---- registrations

-- one more, where the event registers a task on phaser n
pub registered_more : (n : ℕ) (e : WorldEvent) (w : List WorldEvent)
    → registrations n (e ∷ w) ≡ cond (is_on n (joined e)) 1 0 + registrations n w
registered_more n (Phaser m s) w = on_step s
  where
    past : List Event
    past = phaser_past n w

    more : Step → List Event
    more s = cond (m == n) (event_for (terms_of n w) past s ∷ past) past

    one : (b : Bool) (t : ℕ) (e : Event) → registered_by e ≡ Some t
        → length (registered_tasks (cond b (e ∷ past) past)) ≡ cond b 1 0 + length (registered_tasks past)
    one true t e k = rw k (omega arith)
    one false t e k = plus_none (length (registered_tasks past))

    none : (b : Bool) (e : Event) → registered_by e ≡ None
        → length (registered_tasks (cond b (e ∷ past) past)) ≡ 0 + length (registered_tasks past)
    none true e k = rw k (plus_none (length (registered_tasks past)))
    none false e k = plus_none (length (registered_tasks past))

    on_step : (s : Step) → length (registered_tasks (more s)) ≡ cond (is_on n (joined (Phaser m s))) 1 0 + length (registered_tasks past)
    on_step (Make t o terms) = one (m == n) t (event_for (terms_of n w) past (Make t o terms)) refl
    on_step (Reg q t o) = one (m == n) t (event_for (terms_of n w) past (Reg q t o)) refl
    on_step (Sig t x) = none (m == n) (event_for (terms_of n w) past (Sig t x)) refl
    on_step (Claim t) = none (m == n) (event_for (terms_of n w) past (Claim t)) refl
    on_step (Did t) = none (m == n) (event_for (terms_of n w) past (Did t)) refl
    on_step (Pass t) = none (m == n) (event_for (terms_of n w) past (Pass t)) refl
    on_step (Send t a v) = none (m == n) (event_for (terms_of n w) past (Send t a v)) refl
    on_step (Look t a) = none (m == n) (event_for (terms_of n w) past (Look t a)) refl
    on_step (Drop t) = none (m == n) (event_for (terms_of n w) past (Drop t)) refl
registered_more n e w = omega arith

-- ---- of each event

same_count : (n c : ℕ) → (n == c + 0) ≡ (n == c)
same_count n c = ap (λ x. n == x) (plus_none c)
  where
    plus_none : (c : ℕ) → c + 0 ≡ c
    plus_none c = omega arith

and_true : (b : Bool) → b ≡ (b && true)
and_true true = refl
and_true false = refl

pub fresh_watches : (l : Limits) (d : Watch) → IsFresh l.regs d → Watches l [] d
fresh_watches l d f =
    record {
      phasers = rw f.phasers (λ t. refl, refl);
      tasks = rw f.tasks (λ t. refl, refl);
      finishes = rw f.finishes (λ t. refl, refl);
      registered = f.registered;
      most = f.most_is;
    }

module _ (l : Limits) (w : List WorldEvent) (d : Watch) (k : Watches l w d) where
  place_is : (n : ℕ) → has_place_in d n ≡ has_place l w (Some n)
  place_is n = ap (λ x. nat_lt x d.most) (k.registered n) ∙ ap (λ x. nat_lt (registrations n w) x) k.most

  pub taken_is : (e : WorldEvent) → is_accepted l w e ≡ true → is_taken d e ≡ is_steady l w e
  taken_is (Phaser n (Make t m terms)) a =
      ap (λ b. b && has_place_in d n)
      (next_is makes (λ i. is_phaser i w) 0 w t n d.phasers.drawer d.phasers.next k.phasers (act_now l w t (New n m terms) a).1
      ∙ same_count n (count_of makes t w))
      ∙ ap (λ b. (n == count_of makes t w) && b) (place_is n)
  taken_is (Phaser n (Reg q t m)) a = place_is n
  taken_is (Begin t (Async c pairs)) a =
      next_is begins_child (λ i. is_named i w) 1 w t c d.tasks.drawer d.tasks.next k.tasks
      (act_now l w t (Beginning (Async c pairs)) a).1
      ∙ and_true (c == count_of begins_child t w + 1)
  taken_is (Finish f (Opened t)) a =
      next_is opens (λ i. is_finish i w) 1 w t f d.finishes.drawer d.finishes.next k.finishes (act_now l w t (Open f) a).1
      ∙ and_true (f == count_of opens t w + 1)
  taken_is e a = refl

  -- the draws of a kind after the event

  phasers_left : (e : WorldEvent) → makes e ≡ false
      → KindStands makes (λ n. is_phaser n (e ∷ w)) 0 (e ∷ w) d.phasers.drawer d.phasers.next
  phasers_left e h =
      kind_stays makes (λ n. is_phaser n w) (λ n. is_phaser n (e ∷ w)) 0 e w h (phaser_stays 0 e w) d.phasers.drawer
      d.phasers.next k.phasers

  tasks_left : (e : WorldEvent) → begins_child e ≡ false
      → KindStands begins_child (λ t. is_named t (e ∷ w)) 1 (e ∷ w) d.tasks.drawer d.tasks.next
  tasks_left e h =
      kind_stays begins_child (λ t. is_named t w) (λ t. is_named t (e ∷ w)) 1 e w h (named_stays 1 e w) d.tasks.drawer
      d.tasks.next k.tasks

  finishes_left : (e : WorldEvent) → opens e ≡ false
      → KindStands opens (λ f. is_finish f (e ∷ w)) 1 (e ∷ w) d.finishes.drawer d.finishes.next
  finishes_left e h =
      kind_stays opens (λ f. is_finish f w) (λ f. is_finish f (e ∷ w)) 1 e w h (finish_stays 1 e w) d.finishes.drawer
      d.finishes.next k.finishes

  stands_drawn : (kind : WorldEvent → Bool) (used : ℕ → Bool) (first : ℕ) (v : List WorldEvent) (x : Kind) (t n : ℕ)
      → draws x t n ≡ true → KindStands kind used first v (Some t) (n + 1)
      → KindStands kind used first v (drawn x t n).drawer (drawn x t n).next
  stands_drawn kind used first v x t n h s = rw h s

  phasers_stand : (e : WorldEvent) → is_taken d e ≡ true
      → KindStands makes (λ n. is_phaser n (e ∷ w)) 0 (e ∷ w) (phasers_after d e).drawer (phasers_after d e).next
  phasers_stand (Phaser n (Make t m terms)) h =
      let e : WorldEvent = Phaser n (Make t m terms) in
      let after : ℕ → Bool = λ i. is_phaser i (e ∷ w) in
      let own = (and_parts (draws d.phasers t n) (has_place_in d n) h).0 in
      stands_drawn makes after 0 (e ∷ w) d.phasers t n own
      (kind_drawn makes (λ i. is_phaser i w) after 0 e w t n d.phasers.drawer d.phasers.next k.phasers refl (told_by_own t)
      (λ u apart. told_by_none t u apart) (phaser_stays 0 e w) (phaser_made t n m terms w) own)
  phasers_stand e h = phasers_left e refl

  tasks_stand : (e : WorldEvent) → is_taken d e ≡ true
      → KindStands begins_child (λ t. is_named t (e ∷ w)) 1 (e ∷ w) (tasks_after d e).drawer (tasks_after d e).next
  tasks_stand (Begin t (Async c pairs)) h =
      let e : WorldEvent = Begin t (Async c pairs) in
      let after : ℕ → Bool = λ i. is_named i (e ∷ w) in
      stands_drawn begins_child after 1 (e ∷ w) d.tasks t c h
      (kind_drawn begins_child (λ i. is_named i w) after 1 e w t c d.tasks.drawer d.tasks.next k.tasks refl (told_by_own t)
      (λ u apart. told_by_none t u apart) (named_stays 1 e w) (child_named t c pairs w) h)
  tasks_stand e h = tasks_left e refl

  finishes_stand : (e : WorldEvent) → is_taken d e ≡ true
      → KindStands opens (λ f. is_finish f (e ∷ w)) 1 (e ∷ w) (finishes_after d e).drawer (finishes_after d e).next
  finishes_stand (Finish f (Opened t)) h =
      let e : WorldEvent = Finish f (Opened t) in
      let after : ℕ → Bool = λ i. is_finish i (e ∷ w) in
      stands_drawn opens after 1 (e ∷ w) d.finishes t f h
      (kind_drawn opens (λ i. is_finish i w) after 1 e w t f d.finishes.drawer d.finishes.next k.finishes refl (told_by_own t)
      (λ u apart. told_by_none t u apart) (finish_stays 1 e w) (finish_opened t f w) h)
  finishes_stand e h = finishes_left e refl

  pub watches_on : (e : WorldEvent) (next : Watch) → is_taken d e ≡ true → IsAfter e true d next → Watches l (e ∷ w) next
  watches_on e next h a =
      record {
        phasers = subst (λ (x : Kind). KindStands makes (λ n. is_phaser n (e ∷ w)) 0 (e ∷ w) x.drawer x.next)
            (sym a.phasers) (phasers_stand e h);
        tasks = subst (λ (x : Kind). KindStands begins_child (λ t. is_named t (e ∷ w)) 1 (e ∷ w) x.drawer x.next)
            (sym a.tasks) (tasks_stand e h);
        finishes = subst (λ (x : Kind). KindStands opens (λ f. is_finish f (e ∷ w)) 1 (e ∷ w) x.drawer x.next)
            (sym a.finishes) (finishes_stand e h);
        registered = λ n. a.registered refl n ∙ (ap (λ x. cond (is_on n (joined e)) 1 0 + x) (k.registered n)
            ∙ sym (registered_more n e w));
        most = a.most ∙ k.most;
      }

-- luck may decide something by an event that isn't taken
pub untaken_is_luck : (d : Watch) (e : WorldEvent) → is_taken d e ≡ false → luck_of e ≡ None → ⊥
untaken_is_luck d (Phaser n (Make t m terms)) h o = cc
untaken_is_luck d (Phaser n (Reg q t m)) h o = cc
untaken_is_luck d (Begin t (Async c pairs)) h o = cc
untaken_is_luck d (Finish f (Opened t)) h o = cc
untaken_is_luck d (Refuse t a n) h o = cc
untaken_is_luck d (Fail t n) h o = cc
untaken_is_luck d e h o = true≢false h
