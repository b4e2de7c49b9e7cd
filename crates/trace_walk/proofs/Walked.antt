-- What a walk says of an explained trace: the bodies that it goes past are those that go by the world's history.
use Rattle.std.proofs.Common.{ℕ, suc, ◌+◌, ◌≡◌, ◌≢◌, ◌&&◌, Bool, true, false, ◌==◌, if◌then◌else◌, List, [], ◌∷◌, Option, Some, None, Result, Ok, Err, IfOk, IfErr, reverse, take, refl, sym, ap, subst, arith, ◌∙◌}
use mathlib.Core.List.{reverse_aux}
use Rattle.std.proofs.lemmas.Bool.{and_parts, eqb-true}
use Rattle.phase_modes.specs.declared.limits.Limits.{Limits}
use Rattle.phase_modes.specs.declared.refusal.Refusal.{Refusal}
use Rattle.phase_modes.specs.declared.refusal.Refusal.TheVariants.{Memory, NotExplained}
use Rattle.job_script.specs.declared.act.Act.{Act}
use Rattle.job_script.specs.declared.act.Answer.{Answer}
use Rattle.job_script.specs.declared.act.Answer.TheVariants.{Started}
use Rattle.world_model.specs.declared.event.WorldEvent.{WorldEvent}
use Rattle.world_model.specs.Drawing.{own_pairs}
use Rattle.world_model.specs.Numbers.{is_named}
use Rattle.trace_walk.specs.Follows.{drawn, same_act}
use Rattle.trace_walk.specs.Scripts.{Made, act_of, is_of, parent_by}
use Rattle.trace_model.specs.Explained.{event_of, past, all_follow, is_explained, is_over, may_follow}
use Rattle.trace_model.specs.Run.{Entry, Run}
use Rattle.trace_walk.specs.Given.{tried_of}
use Rattle.trace_walk.specs.History.{history}
use Rattle.trace_walk.specs.Walking.{Does, act_due, gone_on, is_due, seat_told, first_astray, told_by, AnswersPlace}
use Rattle.trace_walk.specs.declared.seats.Seat.{Seat}
use Rattle.trace_walk.specs.inner.Seats.{body_handed, child_named, seat_given}
use Rattle.trace_walk.proofs.Events.{names_nobody, no_act, of_its_task, spawner_of, eq_self}
use Rattle.trace_walk.proofs.Places.{past_reversed}
use Rattle.trace_walk.proofs.Seating.{act_told, child_seated, given_none, hands, still_told}
use Rattle.trace_walk.specs.Going.{does, goes_by, heard, is_next, IsRefusedAt}
use Rattle.trace_walk.proofs.Gone.{begun, gone, kept, still, BodiesGo, HaveGone}
use Rattle.trace_walk.proofs.Named.{actor_named}
use Rattle.trace_walk.proofs.Prefixes.{after_these, IsAfter}
use Rattle.trace_walk.proofs.Spawns.{after_spawn}
use Rattle.trace_walk.proofs.Told.{told_heard}

module _ {B : Type 0} (next : Answer → B → Does B) (root : B) where
  -- the bodies of the seats that these entries tell go on
  abbrev Go : List Entry → Type 0
  Go es = BodiesGo next root (past es) (seat_told next root es)

  start : Go []
  start = begun next root (λ u. None) (seat_told next root []) (λ u. refl) (record { own = refl; others = other })
    where
      other : (u : ℕ) → u ≢ 0 → seat_told next root [] u ≡ None
      other u k = by (u == 0) refl
        where
          by : (b : Bool) → (u == 0) ≡ b → ◌≡◌ {A = Option (Seat B)} (if b then Some (record { body = root; heard = Started }) else None) None
          by true e = absurd (k (eqb-true u 0 e))
          by false e = refl

  -- seats that are the same task by task
  same_seats : (w : List WorldEvent) (at after : ℕ → Option (Seat B)) → ((t : ℕ) → at t ≡ after t)
      → BodiesGo next root w at → BodiesGo next root w after
  same_seats w at after same go = record {
    seated = λ t k. ((go.seated t k).0, sym (same t) ∙ (go.seated t k).1);
    gives = λ t s is. go.gives t s (same t ∙ is);
  }

  module _ (l : Limits) (es : List Entry) (x : Entry) (here : IsAfter l (past es) x) (go : Go es) where
    named : (m : Made) → act_of (event_of x.1) ≡ Some m → is_named m.task (past es) ≡ true
    named m is = actor_named l (past es) (event_of x.1) m here.legal here.accepted is

    told : told_by x.1 ≡ heard (past es) (event_of x.1)
    told = told_heard l (past es) x.1 here.answered

    -- the act that is due of a task is what its body does next
    due_does : (t : ℕ) → is_named t (past es) ≡ true
        → act_due next (seat_told next root es t) ≡ (does next root (past es) t).0
    due_does t k =
        let seat = go.seated t k in
        ap (λ (s : Option (Seat B)). act_due next s) seat.1 ∙ ap (λ (d : Does B). d.0) (go.gives t seat.0 seat.1)

    due_next : is_due next root es (act_of (event_of x.1)) ≡ is_next next root (past es) (act_of (event_of x.1))
    due_next = by (act_of (event_of x.1)) refl
      where
        by : (o : Option Made) → act_of (event_of x.1) ≡ o → is_due next root es o ≡ is_next next root (past es) o
        by None k = refl
        by (Some m) k =
            ap (λ (a : Act B). same_act m.act (tried_of (own_pairs m.task (past es)) (drawn m.act) a))
            (due_does m.task (named m k))

    -- past an act that was due
    module _ (m : Made) (made : act_of (event_of x.1) ≡ Some m)
        (due : is_due next root es (act_of (event_of x.1)) ≡ true) where
      abbrev at : ℕ → Option (Seat B)
      at = seat_told next root es

      abbrev mid : ℕ → Option (Seat B)
      mid u = if m.task == u then gone_on next (told_by x.1) (at u) else at u

      abbrev act : Act B
      act = act_due next (at m.task)

      abbrev after : ℕ → Option (Seat B)
      after t = seat_given (parent_by t (event_of x.1)) act (mid t)

      of : is_of m.task (act_of (event_of x.1)) ≡ true
      of = subst (λ (o : Option Made). is_of m.task o ≡ true) (sym made) (eq_self m.task)

      own : mid m.task ≡ gone_on next (told_by x.1) (at m.task)
      own = ap (λ (b : Bool). if b then gone_on next (told_by x.1) (at m.task) else at m.task) (eq_self m.task)

      others : (u : ℕ) → u ≢ m.task → mid u ≡ at u
      others u k = by (m.task == u) refl
        where
          by : (b : Bool) → (m.task == u) ≡ b → (if b then gone_on next (told_by x.1) (at u) else at u) ≡ at u
          by true e = absurd (k (sym (eqb-true m.task u e)))
          by false e = refl

      as_told : (t : ℕ) → after t ≡ seat_told next root (x ∷ es) t
      as_told = act_told next root es x.1 m.task act at mid after (λ t. refl) refl own others (λ t. refl) of due

      has_gone : HaveGone next root (past es) m.task (told_by x.1) mid
      has_gone = gone next root (past es) m.task (told_by x.1) at mid go (named m made) others
          (λ s is. own ∙ ap (λ (o : Option (Seat B)). gone_on next (told_by x.1) o) is)

      go_after : BodiesGo next root (event_of x.1 ∷ past es) after
      go_after = by (child_named x.1) refl
        where
          by : (o : Option ℕ) → child_named x.1 ≡ o → BodiesGo next root (event_of x.1 ∷ past es) after
          by None none =
              let nobody = names_nobody x.1 none in
              same_seats (event_of x.1 ∷ past es) mid after (given_none x.1 act mid none)
              (kept next root (past es) (event_of x.1) m.task (told_by x.1) mid has_gone told
              (of_its_task m.task (act_of (event_of x.1)) of) nobody.parent nobody.names)
          by (Some c) child = handed (body_handed act) refl
            where
              handed : (o : Option B) → body_handed act ≡ o → BodiesGo next root (event_of x.1 ∷ past es) after
              handed None h =
                  let by_whom = spawner_of x.1 c child in
                  absurd (hands next root es x.1 m.task act at mid after (λ t. refl) refl own others (λ t. refl) of due
                  c by_whom.0 by_whom.1 h)
              handed (Some body) h =
                  after_spawn next root (past es) x.1 m.task c act (due_does m.task (named m made)) of child body mid after
                  has_gone h (child_seated x.1 act c body mid child h)

    goes_past : is_due next root es (act_of (event_of x.1)) ≡ true → Go (x ∷ es)
    goes_past due = by (act_of (event_of x.1)) refl
      where
        by : (o : Option Made) → act_of (event_of x.1) ≡ o → Go (x ∷ es)
        by None k =
            let nobody = names_nobody x.1 (no_act x.1 k) in
            same_seats (event_of x.1 ∷ past es) (seat_told next root es) (seat_told next root (x ∷ es))
            (still_told next root es x.1 (seat_told next root es) (λ t. refl) k)
            (still next root (past es) (event_of x.1) (seat_told next root es) go k nobody.parent nobody.names)
        by (Some m) k =
            same_seats (event_of x.1 ∷ past es) (after m k due) (seat_told next root (x ∷ es)) (as_told m k due)
            (go_after m k due)

  -- ---- all entries

  older : (l : Limits) (es xs : List Entry) → all_follow l (reverse_aux xs es) ≡ true → all_follow l es ≡ true
  older l es [] f = f
  older l es (x ∷ xs) f = (and_parts (may_follow l es x) (all_follow l es) (older l (x ∷ es) xs f)).1

  -- what the place says that is found among the entries to come
  abbrev Outcome : List Entry → ℕ → List Entry → Option ℕ → Type 0
  Outcome es k xs None = goes_by next root (past (reverse_aux xs es)) ≡ true
  Outcome es k xs (Some n) =
      (j : ℕ) × (n ≡ k + suc j)
      × (goes_by next root (past (reverse_aux (take j xs) es)) ≡ true)
      × (goes_by next root (past (reverse_aux (take (suc j) xs) es)) ≡ false)

  walked : (l : Limits) (es xs : List Entry) (k : ℕ) → all_follow l (reverse_aux xs es) ≡ true → Go es
      → goes_by next root (past es) ≡ true → Outcome es k xs (first_astray next root es k xs)
  walked l es [] k f go so = so
  walked l es (x ∷ xs) k f go so =
      by (is_due next root es (act_of (event_of x.1))) refl
      (λ due. walked l (x ∷ es) xs (k + 1) f (goes_past l es x here go due)
      (ap (λ (b : Bool). b && goes_by next root (past es)) (sym (due_next l es x here go) ∙ due) ∙ so))
    where
      here : IsAfter l (past es) x
      here = after_these l es x (older l (x ∷ es) xs f)

      more : (o : Option ℕ) → Outcome (x ∷ es) (k + 1) xs o → Outcome es k (x ∷ xs) o
      more None h = h
      more (Some n) h = (suc h.0, omega (arith, h.1), h.2, h.3)

      by : (b : Bool) → is_due next root es (act_of (event_of x.1)) ≡ b
          → (is_due next root es (act_of (event_of x.1)) ≡ true
          → Outcome (x ∷ es) (k + 1) xs (first_astray next root (x ∷ es) (k + 1) xs))
          → Outcome es k (x ∷ xs) (if b then first_astray next root (x ∷ es) (k + 1) xs else Some (k + 1))
      by true due rest = more (first_astray next root (x ∷ es) (k + 1) xs) (rest due)
      by false due rest = (
        0,
        omega arith,
        so,
        ap (λ (b : Bool). b && goes_by next root (past es)) (sym (due_next l es x here go) ∙ due),
      )

  of_walk : (r : Run) → is_explained r ≡ true → Outcome [] 0 r.events (first_astray next root [] 0 r.events)
  of_walk r h =
      walked r.limits [] r.events 0 (and_parts (all_follow r.limits (reverse r.events)) (is_over (reverse r.events)) h).0
      start refl

  pub all_go : (r : Run) (result : Result (Unit {0}) Refusal) → AnswersPlace (first_astray next root [] 0 r.events) result
      → is_explained r ≡ true → IfOk result (λ _. goes_by next root (history r.events) ≡ true)
  all_go r (Ok u) is h =
      ap (λ (v : List WorldEvent). goes_by next root v) (sym (past_reversed r.events))
      ∙ subst (λ (o : Option ℕ). Outcome [] 0 r.events o) is (of_walk r h)
  all_go r (Err e) is h = tt

  pub refused_there : (r : Run) (result : Result (Unit {0}) Refusal)
      → AnswersPlace (first_astray next root [] 0 r.events) result
      → is_explained r ≡ true → IfErr result (IsRefusedAt next root r.events)
  refused_there r (Ok u) is h = tt
  refused_there r (Err Memory) is h = tt
  refused_there r (Err (NotExplained k)) is h =
      let there = subst (λ (o : Option ℕ). Outcome [] 0 r.events o) is (of_walk r h) in (
        there.0,
        omega (arith, there.1),
        ap (λ (v : List WorldEvent). goes_by next root v) (sym (past_reversed (take there.0 r.events))) ∙ there.2,
        ap (λ (v : List WorldEvent). goes_by next root v) (sym (past_reversed (take (suc there.0) r.events))) ∙ there.3,
      )
  refused_there r (Err e) is h = absurd is
