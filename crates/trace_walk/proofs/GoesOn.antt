-- A task that is able moves where it is picked, and what a pick adds to the history.
use Rattle.std.proofs.Common.{ℕ, ◌≡◌, ◌⊎◌, Bool, true, false, ◌&&◌, ◌||◌, ◌==◌, not, cond, List, [], ◌∷◌, Option, Some, None, Result, Ok, Err, refl, sym, subst, ap, ◌∙◌, inl, inr, if◌then◌else◌}
use Rattle.std.specs.Prelude.{slice_get, option_map, option_to_list}
use Rattle.std.specs.List.{list_any, list_all}
use Rattle.std.specs.Option.{option_map_or}
use Rattle.std.proofs.lemmas.Bool.{and_parts, and_from, or_cases, cases_Bool, eqb-true, not-true, true≢false, false≢true}
use Rattle.phase_modes.specs.Limits.{limits_fit}
use Rattle.phase_modes.specs.declared.reg.Mode.{Mode}
use Rattle.phase_modes.specs.declared.reg.Mode.TheVariants as modes
use Rattle.phase_modes.specs.declared.limits.Limits.{Limits}
use Rattle.phase_modes.specs.declared.refusal.Refusal.{Refusal}
use Rattle.phase_modes.specs.declared.refusal.Refusal.TheVariants.{SingleMismatch, RegsFull, HistoryFull}
use Rattle.phase_modes.specs.Refusal.{first_refusal, number_of}
use Rattle.job_script.specs.declared.head.Head.{Head}
use Rattle.job_script.specs.declared.head.Head.TheVariants as acts
use Rattle.job_script.specs.Acts.{Act}
use Rattle.job_script.specs.Program.{Program}
use Rattle.phase_model.specs.declared.history.Event.{Event}
use Rattle.phase_model.specs.declared.history.Event.TheVariants.{Reg as Registered}
use Rattle.phase_model.specs.Conditions.{conditions}
use Rattle.phase_model.specs.declared.call.Call.TheVariants.{Make as make, Register as register, Signal as signal, Pass as pass, SingleDone as single_done, Send as send, Look as look, Drop as drop_task}
use Rattle.phase_model.specs.Replies.{decided}
use Rattle.phase_model.specs.Rules.{has_room}
use Rattle.finish_core.specs.Finish as finish
use Rattle.finish_core.specs.Finish.{all_ended}
use Rattle.finish_core.specs.Replies.{done_unless}
use Rattle.finish_core.specs.declared.event.FinishEvent.TheVariants.{Opened, Spawned, Ended, Shut as Shutting}
use Rattle.world_model.specs.declared.event.Step.TheVariants.{Make, Reg, Sig, Claim, Did, Pass, Send, Look, Drop}
use Rattle.world_model.specs.declared.event.WorldEvent.{WorldEvent}
use Rattle.world_model.specs.declared.event.WorldEvent.TheVariants.{Phaser, Finish, Begin, Refuse, Fail}
use Rattle.world_model.specs.declared.reply.Reply.{Reply}
use Rattle.world_model.specs.declared.reply.Reply.TheVariants.{NotYet}
use Rattle.world_model.specs.Able.{is_able, candidates}
use Rattle.world_model.specs.Actors.{actor}
use Rattle.world_model.specs.Acts.{act_reply}
use Rattle.world_model.specs.Continuing.{same_mode, same_number, same_event, next_done, next_reply}
use Rattle.world_model.specs.Due.{is_idle, due, next_event, or_single}
use Rattle.world_model.specs.GivingUp.{is_refused_by, is_reg, may_fail, done_where}
use Rattle.world_model.specs.Numbers.{names}
use Rattle.world_model.specs.PartReplies.{returned, finish_returned}
use Rattle.world_model.specs.Parts.{terms_of, phaser_past, finish_past}
use Rattle.world_model.specs.ProgressLaws.{is_expected}
use Rattle.world_model.specs.Replies.{is_made, is_accepted, is_legal_world, reply, after}
use Rattle.world_model.specs.Tasks.{is_born, is_ended}
use Rattle.world_model.proofs.AbleComputed.{made_done_where}
use Rattle.world_model.proofs.MadeOrGivesUp.{event_made}
use Rattle.world_model.proofs.NextsExpected.{nexts_are_expected}
use Rattle.world_model.proofs.SmallWords.{eq_self}
use Rattle.trace_walk.specs.Picks.{Asked, unused, event_of, going_on, asked, reported_or, made, pick}
use Rattle.trace_walk.specs.Scripts.{Numbers, act_of, meanings, next_act, tried, tried_as, tried_next}
use Rattle.trace_walk.proofs.NoActs.{next-continues}
use Rattle.trace_walk.proofs.Begins.{Goes, may_report, event_reply, next_goes}

-- ---- the reply to the event that continues an act

mode_self : (m : Mode) → same_mode m m ≡ true
mode_self modes.Sig = refl
mode_self modes.Wait = refl
mode_self modes.SigWait = refl
mode_self modes.Single = refl

number_self : (x : Option ℕ) → same_number x x ≡ true
number_self None = refl
number_self (Some n) = eq_self n

-- it is the same as itself, if it isn't an act or an entry
same_self : (e : WorldEvent) → act_of e ≡ None → ((t x : ℕ) → e ≡ Fail t x → ⊥) → same_event e e ≡ true
same_self (Phaser n (Make t m terms)) h k = absurd cc
same_self (Phaser n (Reg q t m)) h k = and_from (n == n) _ (eq_self n) (and_from (q == q && t == t) (same_mode m m) (and_from (q == q) (t == t) (eq_self q) (eq_self t)) (mode_self m))
same_self (Phaser n (Sig t x)) h k = and_from (n == n) _ (eq_self n) (and_from (t == t) (same_number x x) (eq_self t) (number_self x))
same_self (Phaser n (Claim t)) h k = and_from (n == n) (t == t) (eq_self n) (eq_self t)
same_self (Phaser n (Did t)) h k = and_from (n == n) (t == t) (eq_self n) (eq_self t)
same_self (Phaser n (Pass t)) h k = and_from (n == n) (t == t) (eq_self n) (eq_self t)
same_self (Phaser n (Send t a v)) h k = absurd cc
same_self (Phaser n (Look t a)) h k = absurd cc
same_self (Phaser n (Drop t)) h k = and_from (n == n) (t == t) (eq_self n) (eq_self t)
same_self (Finish f (Opened t)) h k = absurd cc
same_self (Finish f (Spawned t)) h k = and_from (f == f) (t == t) (eq_self f) (eq_self t)
same_self (Finish f (Ended t)) h k = and_from (f == f) (t == t) (eq_self f) (eq_self t)
same_self (Finish f Shutting) h k = and_from (f == f) true (eq_self f) refl
same_self (Begin t b) h k = absurd cc
same_self (Refuse t a x) h k = absurd cc
same_self (Fail t x) h k = absurd (k t x refl)

-- an event that is no act has the reply of what continues one
reply_next : (l : Limits) (w : List WorldEvent) (e : WorldEvent) → act_of e ≡ None → ((t x : ℕ) → e ≡ Fail t x → ⊥) → reply l w e ≡ next_reply l w e
reply_next l w (Phaser n (Make t m terms)) h k = absurd cc
reply_next l w (Phaser n (Reg q t m)) h k = refl
reply_next l w (Phaser n (Sig t x)) h k = refl
reply_next l w (Phaser n (Claim t)) h k = refl
reply_next l w (Phaser n (Did t)) h k = refl
reply_next l w (Phaser n (Pass t)) h k = refl
reply_next l w (Phaser n (Send t a v)) h k = absurd cc
reply_next l w (Phaser n (Look t a)) h k = absurd cc
reply_next l w (Phaser n (Drop t)) h k = refl
reply_next l w (Finish f (Opened t)) h k = absurd cc
reply_next l w (Finish f (Spawned t)) h k = refl
reply_next l w (Finish f (Ended t)) h k = refl
reply_next l w (Finish f Shutting) h k = refl
reply_next l w (Begin t b) h k = absurd cc
reply_next l w (Refuse t a x) h k = absurd cc
reply_next l w (Fail t x) h k = absurd (k t x refl)

-- what is next for a task that hasn't ended has the reply of what continues its act
pub next_replied : (l : Limits) (w : List WorldEvent) (t : ℕ) (e : WorldEvent) → is_legal_world l w ≡ true → is_ended t w ≡ false → next_event l t w ≡ Some e → reply l w e ≡ next_done l w e
next_replied l w t e k going next =
    let said = nexts_are_expected l w k t e going next in
    let none : act_of e ≡ None = next-continues l t w e next in
    let other : (u x : ℕ) → e ≡ Fail u x → ⊥ = λ u x is. false≢true (subst (λ d. is_expected (next_done l w d) ≡ true) is said.1) in
    let own : next_event l (actor w e) w ≡ Some e = subst (λ u. next_event l u w ≡ Some e) (sym said.0) next in
    reply_next l w e none other ∙ as_next l w e own (same_self e none other)
  where
    as_next : (l : Limits) (w : List WorldEvent) (e : WorldEvent) → next_event l (actor w e) w ≡ Some e → same_event e e ≡ true → next_reply l w e ≡ next_done l w e
    as_next l w e next same = rw (next, same) refl

-- a registration is never put off
reg_waits_not : (l : Limits) (w : List WorldEvent) (e : WorldEvent) → is_reg e ≡ true → next_done l w e ≡ Ok NotYet → ⊥
reg_waits_not l w (Phaser n (Reg q t m)) h k = never (first_refusal (conditions l (terms_of n w) (phaser_past n w) (register q t m))) (has_room l (Registered q t m ∷ phaser_past n w)) k
  where
    never : (o : Option Refusal) (room : Bool) → returned (phaser_past n w) (decided o false room (Registered q t m)) ≡ Ok NotYet → ⊥
    never (Some r) room k = absurd cc
    never None true k = absurd cc
    never None false k = absurd cc
reg_waits_not l w e h k = absurd cc

-- ---- nothing but a registration is refused because registrations are at the limit

abbrev is_regs : Refusal → Bool
is_regs RegsFull = true
is_regs _ = false

abbrev none_regs : List (Refusal × Bool) → Bool
none_regs cs = list_all (λ c. not (is_regs c.0)) cs

first_other : (cs : List (Refusal × Bool)) (r : Refusal) → none_regs cs ≡ true → first_refusal cs ≡ Some r → not (is_regs r) ≡ true
first_other [] r h k = absurd cc
first_other ((x, true) ∷ cs) r h k = first_other cs r (and_parts (not (is_regs x)) (none_regs cs) h).1 k
first_other ((x, false) ∷ cs) r h k = subst (λ (y : Refusal). not (is_regs y) ≡ true) (got x r k) (and_parts (not (is_regs x)) (none_regs cs) h).0
  where
    got : (x y : Refusal) → Some x ≡ Some y → x ≡ y
    got x y h = cc

-- a call's reply
call_other : (h : List Event) (cs : List (Refusal × Bool)) (waiting room : Bool) (e : Event) → none_regs cs ≡ true → returned h (decided (first_refusal cs) waiting room e) ≡ Err RegsFull → ⊥
call_other h cs waiting room e none k = by (first_refusal cs) refl waiting room k
  where
    by : (o : Option Refusal) → first_refusal cs ≡ o → (waiting room : Bool) → returned h (decided o waiting room e) ≡ Err RegsFull → ⊥
    by (Some r) is waiting room k = false≢true (subst (λ (y : Refusal). not (is_regs y) ≡ true) (got r RegsFull k) (first_other cs r none is))
      where
        got : (x y : Refusal) → ◌≡◌ {A = Result Reply Refusal} (Err x) (Err y) → x ≡ y
        got x y h = cc
    by None is true room k = absurd cc
    by None is false true k = false≢true (sym (ap (λ r. is_made r) k) ∙ event_made h e)
    by None is false false k = absurd cc

finish_other : (cs : List (Refusal × Bool)) → none_regs cs ≡ true → finish_returned (done_unless (first_refusal cs)) ≡ Err RegsFull → ⊥
finish_other cs none k = by (first_refusal cs) refl k
  where
    by : (o : Option Refusal) → first_refusal cs ≡ o → finish_returned (done_unless o) ≡ Err RegsFull → ⊥
    by (Some r) is k = false≢true (subst (λ (y : Refusal). not (is_regs y) ≡ true) (got r RegsFull k) (first_other cs r none is))
      where
        got : (x y : Refusal) → ◌≡◌ {A = Result Reply Refusal} (Err x) (Err y) → x ≡ y
        got x y h = cc
    by None is k = absurd cc

regs_full_is_reg : (l : Limits) (w : List WorldEvent) (e : WorldEvent) → next_done l w e ≡ Err RegsFull → is_reg e ≡ true
regs_full_is_reg l w (Phaser n (Make t m terms)) k = absurd (call_other (phaser_past n w) (conditions l (terms_of n w) (phaser_past n w) (make t m)) false _ _ refl k)
regs_full_is_reg l w (Phaser n (Reg q t m)) k = refl
regs_full_is_reg l w (Phaser n (Sig t x)) k = absurd (call_other (phaser_past n w) (conditions l (terms_of n w) (phaser_past n w) (signal t x)) _ _ _ refl k)
regs_full_is_reg l w (Phaser n (Claim t)) k = absurd (call_other (phaser_past n w) (conditions l (terms_of n w) (phaser_past n w) (pass t)) _ _ _ refl k)
regs_full_is_reg l w (Phaser n (Did t)) k = absurd (call_other (phaser_past n w) (conditions l (terms_of n w) (phaser_past n w) (single_done t)) false _ _ refl k)
regs_full_is_reg l w (Phaser n (Pass t)) k = absurd (call_other (phaser_past n w) (conditions l (terms_of n w) (phaser_past n w) (pass t)) _ _ _ refl k)
regs_full_is_reg l w (Phaser n (Send t a v)) k = absurd (call_other (phaser_past n w) (conditions l (terms_of n w) (phaser_past n w) (send t a v)) false _ _ refl k)
regs_full_is_reg l w (Phaser n (Look t a)) k = absurd (call_other (phaser_past n w) (conditions l (terms_of n w) (phaser_past n w) (look t a)) false _ _ refl k)
regs_full_is_reg l w (Phaser n (Drop t)) k = absurd (call_other (phaser_past n w) (conditions l (terms_of n w) (phaser_past n w) (drop_task t)) false _ _ refl k)
regs_full_is_reg l w (Finish f (Opened t)) k = absurd (finish_other (finish.conditions l.tasks (finish_past f w) (Opened t)) refl k)
regs_full_is_reg l w (Finish f (Spawned t)) k = absurd (finish_other (finish.conditions l.tasks (finish_past f w) (Spawned t)) refl k)
regs_full_is_reg l w (Finish f (Ended t)) k = absurd (finish_other (finish.conditions l.tasks (finish_past f w) (Ended t)) refl k)
regs_full_is_reg l w (Finish f Shutting) k = absurd (by (all_ended (finish_past f w)) k)
  where
    by : (b : Bool) → cond b (finish_returned (done_unless (first_refusal (finish.conditions l.tasks (finish_past f w) Shutting)))) (Ok NotYet) ≡ Err RegsFull → ⊥
    by true k = finish_other (finish.conditions l.tasks (finish_past f w) Shutting) refl k
    by false k = absurd cc
regs_full_is_reg l w (Begin t b) k = absurd cc
regs_full_is_reg l w (Refuse t a x) k = absurd cc
regs_full_is_reg l w (Fail t x) k = absurd cc

-- ---- a pick that moves

-- there is an event more
abbrev pub OneMore : List WorldEvent → List WorldEvent → Type 0
OneMore w v = (e : WorldEvent) × (v ≡ e ∷ w)

after_made : (w : List WorldEvent) (e : WorldEvent) (r : Result Reply Refusal) → is_made r ≡ true → OneMore w (after w e r)
after_made w e r h = (e, rw h refl)

reported_moves : (l : Limits) (w : List WorldEvent) (a : Asked) (r : Result Reply Refusal) → (is_made r ≡ true) ⊎ ((x : Refusal) × (r ≡ Err x) × (is_accepted l w (a.reporting (number_of x)) ≡ true)) → OneMore w (reported_or l w a r)
reported_moves l w a (Ok x) (inl h) = after_made w a.event (Ok x) h
reported_moves l w a (Ok x) (inr h) = absurd cc
reported_moves l w a (Err x) (inl h) = absurd (false≢true h)
reported_moves l w a (Err x) (inr (y, same, h)) = after_made w (a.reporting (number_of x)) (reply l w (a.reporting (number_of x))) (subst (λ (z : Refusal). is_accepted l w (a.reporting (number_of z)) ≡ true) (got y x (sym same)) h)
  where
    got : (x y : Refusal) → ◌≡◌ {A = Result Reply Refusal} (Err x) (Err y) → x ≡ y
    got x y h = cc

moves_as : (p : Program) (w : List WorldEvent) (t : ℕ) (a : Asked) → asked p w t ≡ Some a → OneMore w (reported_or p.limits w a (reply p.limits w a.event)) → OneMore w (pick p w t)
moves_as p w t a is h = subst (λ o. OneMore w (made p.limits w o)) (sym is) h

-- an idle task
pub asked_idle : (p : Program) (w : List WorldEvent) (t : ℕ) → is_idle t w ≡ true → asked p w t ≡ Some (record { event = event_of t (tried p w t (unused p.limits w)); reporting = λ n. Refuse t (tried p w t (unused p.limits w)) n })
asked_idle p w t h = rw h refl

idle_moves : (p : Program) (w : List WorldEvent) (t : ℕ) → limits_fit p.limits ≡ true → is_legal_world p.limits w ≡ true → is_idle t w ≡ true → OneMore w (pick p w t)
idle_moves p w t fit k idle =
    let a = tried p w t (unused p.limits w) in
    let asks : Asked = record { event = event_of t a; reporting = λ n. Refuse t a n } in
    moves_as p w t asks (asked_idle p w t idle)
    (reported_moves p.limits w asks (reply p.limits w (event_of t a)) (by (event_reply p.limits w t a) (next_goes p w t fit k idle)))
  where
    by : reply p.limits w (event_of t (tried p w t (unused p.limits w))) ≡ act_reply p.limits w t (tried p w t (unused p.limits w)) → Goes (act_reply p.limits w t (tried p w t (unused p.limits w)))
        → (is_made (reply p.limits w (event_of t (tried p w t (unused p.limits w)))) ≡ true) ⊎ ((x : Refusal) × (reply p.limits w (event_of t (tried p w t (unused p.limits w))) ≡ Err x) × (is_accepted p.limits w (Refuse t (tried p w t (unused p.limits w)) (number_of x)) ≡ true))
    by same (inl h) = inl (ap (λ r. is_made r) same ∙ h)
    by same (inr (x, is, known)) = inr (x, same ∙ is, subst (λ b. is_made (done_where b) ≡ true) (sym (may_report p.limits w t (tried p w t (unused p.limits w)) x is known)) refl)

-- a task in the middle of an act
module _ (l : Limits) (w : List WorldEvent) (t : ℕ) (e : WorldEvent) (next : next_event l t w ≡ Some e) where
  -- it may give up by this number
  gives_up : (x : ℕ) → ((x == 7 || x == 15) && is_refused_by x (next_done l w e) || (x == 14 && is_reg e) || (x == 23 && is_idle t w)) ≡ true → is_accepted l w (Fail t x) ≡ true
  gives_up x h = subst (λ b. is_made (done_where b) ≡ true) (sym (subst (λ o. ((x == 7 || x == 15) && option_map_or (λ d. is_refused_by x (next_done l w d)) o false || (x == 14 && option_map_or is_reg o false) || (x == 23 && is_idle t w)) ≡ true) (sym next) h)) refl

  fail_goes : (r : Refusal) → next_done l w e ≡ Err r → is_expected (Err r) ≡ true → is_accepted l w (Fail t (number_of r)) ≡ true
  fail_goes SingleMismatch is x = gives_up 7 (rw is refl)
  fail_goes HistoryFull is x = gives_up 15 (rw is refl)
  fail_goes RegsFull is x = gives_up 14 (rw (regs_full_is_reg l w e is) refl)
  fail_goes r is x = absurd cc

  -- where that event has to wait, it doesn't
  no_fail : (x : ℕ) → next_done l w e ≡ Ok NotYet → is_idle t w ≡ false → is_accepted l w (Fail t x) ≡ true → ⊥
  no_fail x waits busy h =
      let refused = (x == 7 || x == 15) && is_refused_by x (next_done l w e) in
      let reg = x == 14 && is_reg e in
      let m : (refused || reg || (x == 23 && is_idle t w)) ≡ true = subst (λ o. ((x == 7 || x == 15) && option_map_or (λ d. is_refused_by x (next_done l w d)) o false || (x == 14 && option_map_or is_reg o false) || (x == 23 && is_idle t w)) ≡ true) next (made_done_where (may_fail l w t x) h) in
      elim (or_cases (refused || reg) (x == 23 && is_idle t w) m) [
        | inl y ↦ elim (or_cases refused reg y) [
          | inl z ↦ false≢true (subst (λ r. is_refused_by x r ≡ true) waits (and_parts (x == 7 || x == 15) (is_refused_by x (next_done l w e)) z).1)
          | inr z ↦ reg_waits_not l w e (and_parts (x == 14) (is_reg e) z).1 waits
        ]
        | inr y ↦ true≢false (sym (and_parts (x == 23) (is_idle t w) y).1 ∙ busy)
      ]

  not_able : next_done l w e ≡ Ok NotYet → reply l w e ≡ next_done l w e → is_idle t w ≡ false → is_able l w t ≡ true → ⊥
  not_able waits same busy h =
      let test : WorldEvent → Bool = λ d. actor w d == t && is_accepted l w d in
      let any = (and_parts (not (is_ended t w)) (list_any test (candidates l w t)) h).1 in
      let fails : (x : ℕ) → test (Fail t x) ≡ true → ⊥ = λ x y. no_fail x waits busy (and_parts (actor w (Fail t x) == t) (is_accepted l w (Fail t x)) y).1 in
      elim (or_cases (test (Fail t 7)) _ any) [
        | inl y ↦ fails 7 y
        | inr a ↦ elim (or_cases (test (Fail t 14)) _ a) [
          | inl y ↦ fails 14 y
          | inr b ↦ elim (or_cases (test (Fail t 15)) _ b) [
            | inl y ↦ fails 15 y
            | inr c ↦ elim (or_cases (test (Fail t 23)) _ c) [
              | inl y ↦ fails 23 y
              | inr d ↦
                  let last : list_any test (option_to_list (Some e)) ≡ true = subst (λ o. list_any test (option_to_list o) ≡ true) next d in
                  elim (or_cases (test e) false last) [
                    | inl y ↦ false≢true (sym (ap (λ r. is_made r) (same ∙ waits)) ∙ (and_parts (actor w e == t) (is_accepted l w e) y).1)
                    | inr y ↦ false≢true y
                  ]
            ]
          ]
        ]
      ]

-- a task that isn't idle goes on with what is due
next_of_busy : (l : Limits) (w : List WorldEvent) (t : ℕ) → is_born t w ≡ true → is_ended t w ≡ false → is_idle t w ≡ false → (e : WorldEvent) × (next_event l t w ≡ Some e)
next_of_busy l w t born going busy = by (due t w) refl
  where
    by : (ds : List WorldEvent) → due t w ≡ ds → (e : WorldEvent) × (option_map (or_single l w) (slice_get ds 0) ≡ Some e)
    by [] none = absurd (true≢false (sym (rw (born, going, none) refl) ∙ busy))
    by (d ∷ ds) here = (or_single l w d, refl)

pub asked_busy : (p : Program) (w : List WorldEvent) (t : ℕ) (e : WorldEvent) → is_idle t w ≡ false → is_born t w ≡ true → is_ended t w ≡ false → next_event p.limits t w ≡ Some e → asked p w t ≡ Some (record { event = e; reporting = λ n. Fail t n })
asked_busy p w t e busy born going next = rw (busy, born, going, next) refl

busy_moves : (p : Program) (w : List WorldEvent) (t : ℕ) → is_legal_world p.limits w ≡ true → is_idle t w ≡ false → is_born t w ≡ true → is_ended t w ≡ false → is_able p.limits w t ≡ true → OneMore w (pick p w t)
busy_moves p w t k busy born going able =
    let l = p.limits in
    let n = next_of_busy l w t born going busy in
    let e = n.0 in
    let said = nexts_are_expected l w k t e going n.1 in
    let same : reply l w e ≡ next_done l w e = next_replied l w t e k going n.1 in
    moves_as p w t (record { event = e; reporting = λ x. Fail t x }) (asked_busy p w t e busy born going n.1)
    (reported_moves l w (record { event = e; reporting = λ x. Fail t x }) (reply l w e) (by e n.1 same said.1 (next_done l w e) refl))
  where
    by : (e : WorldEvent) → next_event p.limits t w ≡ Some e → reply p.limits w e ≡ next_done p.limits w e → is_expected (next_done p.limits w e) ≡ true
        → (r : Result Reply Refusal) → next_done p.limits w e ≡ r
        → (is_made (reply p.limits w e) ≡ true) ⊎ ((x : Refusal) × (reply p.limits w e ≡ Err x) × (is_accepted p.limits w (Fail t (number_of x)) ≡ true))
    by e next same said (Err x) is = inr (x, same ∙ is, fail_goes p.limits w t e next x is (subst (λ r. is_expected r ≡ true) is said))
    by e next same said (Ok NotYet) is = absurd (not_able p.limits w t e next is same busy able)
    by e next same said (Ok x) is = inl (ap (λ r. is_made r) (same ∙ is))

-- a task that is able moves
pub picks_move : (p : Program) (w : List WorldEvent) (t : ℕ) → limits_fit p.limits ≡ true → is_legal_world p.limits w ≡ true → is_born t w ≡ true → is_able p.limits w t ≡ true → OneMore w (pick p w t)
picks_move p w t fit k born able =
    elim (cases_Bool (is_idle t w)) [
      | inl idle ↦ idle_moves p w t fit k idle
      | inr busy ↦ busy_moves p w t k busy born (not-true (is_ended t w) (and_parts (not (is_ended t w)) (list_any (λ e. actor w e == t && is_accepted p.limits w e) (candidates p.limits w t)) able).0) able
    ]

-- ---- what any pick adds

-- one event that is accepted, and that names no child but the one of the least number that isn't in use
pub record Adds (p : Program) (w : List WorldEvent) (e : WorldEvent) : Type 0 where
  pub accepted : is_accepted p.limits w e ≡ true
  pub least : (u : ℕ) → names u e ≡ true → u ≡ (unused p.limits w).task

abbrev AddsOne : Program → List WorldEvent → List WorldEvent → Type 0
AddsOne p w v = (v ≡ w) ⊎ ((e : WorldEvent) × (v ≡ e ∷ w) × Adds p w e)

abbrev NamesLeast : Program → List WorldEvent → WorldEvent → Type 0
NamesLeast p w e = (u : ℕ) → names u e ≡ true → u ≡ (unused p.limits w).task

by_reply : (p : Program) (w : List WorldEvent) (e : WorldEvent) (b : Bool) → is_made (reply p.limits w e) ≡ b → NamesLeast p w e → AddsOne p w (if b then e ∷ w else w)
by_reply p w e true is h = inr (e, refl, record { accepted = is; least = h })
by_reply p w e false is h = inl refl

reported_adds : (p : Program) (w : List WorldEvent) (a : Asked) (r : Result Reply Refusal) → reply p.limits w a.event ≡ r → NamesLeast p w a.event → ((n : ℕ) → NamesLeast p w (a.reporting n)) → AddsOne p w (reported_or p.limits w a r)
reported_adds p w a (Err r) is h g = by_reply p w (a.reporting (number_of r)) (is_made (reply p.limits w (a.reporting (number_of r)))) refl (g (number_of r))
reported_adds p w a (Ok x) is h g = by_reply p w a.event (is_made (Ok x)) (ap (λ r. is_made r) is) h

module _ (p : Program) (w : List WorldEvent) (t : ℕ) (ms : List ℕ) (new : Numbers) where
  head_names : (h : Head) (u : ℕ) → names u (event_of t (tried_as w t ms new h)) ≡ true → u ≡ new.task
  head_names (acts.New name m terms) u k = absurd (false≢true k)
  head_names (acts.Async xs) u k = sym (eqb-true new.task u k)
  head_names acts.AsyncAll u k = sym (eqb-true new.task u k)
  head_names acts.OpenFinish u k = absurd (false≢true k)
  head_names acts.ShutFinish u k = absurd (false≢true k)
  head_names acts.Signal u k = absurd (false≢true k)
  head_names acts.Wait u k = absurd (false≢true k)
  head_names acts.Next u k = absurd (false≢true k)
  head_names (acts.NextSingle n) u k = absurd (false≢true k)
  head_names (acts.Send name a v) u k = absurd (false≢true k)
  head_names (acts.Look name a) u k = absurd (false≢true k)
  head_names (acts.Repeat n) u k = absurd (false≢true k)

  next_names : (o : Option Act) (u : ℕ) → names u (event_of t (tried_next w t ms new o)) ≡ true → u ≡ new.task
  next_names None u k = absurd (false≢true k)
  next_names (Some a) u k = head_names a.head u k

no_act_names : (e : WorldEvent) → act_of e ≡ None → (u : ℕ) → names u e ≡ false
no_act_names (Phaser n s) h u = refl
no_act_names (Finish f e) h u = refl
no_act_names (Begin t b) h u = absurd cc
no_act_names (Refuse t a x) h u = absurd cc
no_act_names (Fail t x) h u = refl

made_adds : (p : Program) (w : List WorldEvent) (o : Option Asked) → ((a : Asked) → o ≡ Some a → NamesLeast p w a.event × ((n : ℕ) → NamesLeast p w (a.reporting n))) → AddsOne p w (made p.limits w o)
made_adds p w None h = inl refl
made_adds p w (Some a) h = reported_adds p w a (reply p.limits w a.event) refl (h a refl).0 (h a refl).1

abbrev Fine : Program → List WorldEvent → Option Asked → Type 0
Fine p w o = (a : Asked) → o ≡ Some a → NamesLeast p w a.event × ((n : ℕ) → NamesLeast p w (a.reporting n))

pub pick_adds : (p : Program) (w : List WorldEvent) (t : ℕ) → (pick p w t ≡ w) ⊎ ((e : WorldEvent) × (pick p w t ≡ e ∷ w) × Adds p w e)
pick_adds p w t = made_adds p w (asked p w t) (by (is_idle t w) (is_born t w && not (is_ended t w)))
  where
    got : (x y : Asked) → Some x ≡ Some y → x ≡ y
    got x y h = cc

    going : (o : Option WorldEvent) → next_event p.limits t w ≡ o → Fine p w (going_on t o)
    going None is = λ a k. absurd cc
    going (Some e) is = λ a k.
        subst (λ (x : Asked). NamesLeast p w x.event × ((n : ℕ) → NamesLeast p w (x.reporting n))) (got _ a k)
        ((λ u h. absurd (false≢true (sym (no_act_names e (next-continues p.limits t w e is) u) ∙ h))), (λ n u h. absurd (false≢true h)))

    by : (b c : Bool) → Fine p w (if b then Some (record { event = event_of t (tried p w t (unused p.limits w)); reporting = λ n. Refuse t (tried p w t (unused p.limits w)) n }) else (if c then going_on t (next_event p.limits t w) else None))
    by true c = λ a k.
        subst (λ (x : Asked). NamesLeast p w x.event × ((n : ℕ) → NamesLeast p w (x.reporting n))) (got _ a k)
        ((λ u h. next_names p w t (meanings p w t) (unused p.limits w) (next_act p w t) u h), (λ n u h. absurd (false≢true h)))
    by false true = going (next_event p.limits t w) refl
    by false false = λ a k. absurd cc
