-- What the phaser tells of an event: that it is done exactly where it is allowed.
use Rattle.std.proofs.Common.{◌≡◌, ◌≢◌, ℕ, Bool, true, false, ◌||◌, ◌&&◌, not, cond, List, ◌∷◌, Result, Ok, Err, refl, ap, sym, ◌∙◌, subst, inl, inr, ℤ}
use Rattle.std.proofs.lemmas.Bool.{and_parts, cases_Bool, false≢true, false_from_ne_true}
use Rattle.std.proofs.lemmas.Bool.Decides.{Decides-int_eq}
use Rattle.phase_modes.specs.Refusal.{first_refusal, are_met}
use Rattle.phase_modes.specs.Mode.{can_wait}
use Rattle.phase_model.specs.declared.op.Look.{Look}
use Rattle.phase_model.specs.declared.op.Look.TheVariants.{Value, Nothing}
use Rattle.phase_model.specs.declared.history.Event.{Event}
use Rattle.phase_model.specs.declared.history.Event.TheVariants.{Make, Reg, Sig, Claim, Did, Pass, Send, Look as Looked, Drop}
use Rattle.phase_model.specs.declared.call.Call.{Call}
use Rattle.phase_model.specs.declared.call.Call.TheVariants.{Make as make, Register as register, Signal as signal, Pass as pass, SingleDone as single_done, Send as send, Look as look, Drop as drop_task}
use Rattle.phase_model.specs.Tasks.{has_mode}
use Rattle.phase_model.specs.Phases.{waits, is_closed}
use Rattle.phase_model.specs.Singles.{is_proposed, is_done, is_settled}
use Rattle.phase_model.specs.Conditions.{conditions}
use Rattle.phase_model.specs.Rules.{Story, with_event, is_permitted, is_allowed, is_legal, has_room, same_look, look_of}
use Rattle.phase_model.specs.Replies.{Reply, refused, not_yet, done, event_for, must_wait, reply, after, done_result}
use Rattle.phase_model.specs.Answers.{signal_result, pass_result, look_result, passing, seen}
use Rattle.phase_model.proofs.AllowedIsDone.{done_where_allowed}
use Rattle.phase_model.proofs.Replied.{settled_done, done_is_allowed}
use Rattle.phase_model.proofs.SingleReplies.{pass_claims}
use Rattle.phase_model.proofs.SingleRules.{claim_follows}
use Rattle.phase_model.proofs.Claims.{done_is_claimed}
use Rattle.phase_model.proofs.Proposers.{owes, single_waits, proposer_proposes}
use Rattle.phase_modes.specs.declared.refusal.Refusal.{Refusal}
use Rattle.phase_model.specs.declared.answer.Signalling.{Signalling}
use Rattle.phase_model.specs.declared.answer.Signalling.TheVariants.{Signalled}
use Rattle.phase_model.specs.declared.answer.Signalling.TheVariants as signallings
use Rattle.phase_model.specs.declared.answer.Passing.{Passing}
use Rattle.phase_model.specs.declared.answer.Passing.TheVariants.{Passed, Claimed, NotYet}
use Rattle.phaser_judge.specs.declared.refused.Refused.{Refused}
use Rattle.phaser_judge.specs.declared.refused.Refused.TheVariants.{SawOther, HadToWait, Memory}
use Rattle.phaser_judge.specs.Reasons.{call_of, by_rule, by_signal, by_pass, by_claim, by_look, said_by, said}
use Rattle.phaser_judge.specs.inner.Steps.{left}

-- a pass is of the task that was asked for
passer : (b : Bool) (t u : ℕ) → cond b (Claim t) (Pass t) ≡ Pass u → u ≡ t
passer true t u k = absurd cc
passer false t u k = cc

-- and so is a claim
claimer : (b : Bool) (t u : ℕ) → cond b (Claim t) (Pass t) ≡ Claim u → u ≡ t
claimer true t u k = cc
claimer false t u k = absurd cc

-- looks that are the same are equal
same_is : (x y : Look ℤ) → same_look x y ≡ true → x ≡ y
same_is (Value v) (Value w) k = ap Value ((Decides-int_eq v w).0 k)
same_is (Value v) Nothing k = absurd cc
same_is Nothing (Value w) k = absurd cc
same_is Nothing Nothing k = refl

-- a look that was accepted is the same
accepted : (x y : Look ℤ) → by_look x (Ok y) ≡ Ok tt → x ≡ y
accepted x y k =
    elim (cases_Bool (same_look x y)) [
      | inl e ↦ same_is x y e
      | inr e ↦ absurd (cc (k, e))
    ]

module _ (s : Story) where
  -- the event of a call that is done
  fits : (c : Call) (f : Event) → reply s c ≡ done f → event_for s.limits s.terms s.past c ≡ f
  fits c f k =
      let e = event_for s.limits s.terms s.past c in
      (settled_done (first_refusal (conditions s.limits s.terms s.past c)) (must_wait s.limits s.terms s.past c)
      (has_room s.limits (e ∷ s.past)) e f k).1

  -- a call without a result of its own
  ruled : (c : Call) (e : Event) (r : Reply) → event_for s.limits s.terms s.past c ≡ e → reply s c ≡ r
      → by_rule (done_result r) ≡ Ok tt → r ≡ done e
  ruled c e (refused r) k p q = absurd cc
  ruled c e not_yet k p q = absurd cc
  ruled c e (done f) k p q = ap done (sym (fits c f p) ∙ k)

  signalled : (c : Call) (e : Event) (r : Reply) → event_for s.limits s.terms s.past c ≡ e → reply s c ≡ r
      → by_signal (signal_result r) ≡ Ok tt → r ≡ done e
  signalled c e (refused r) k p q = absurd cc
  signalled c e not_yet k p q = absurd cc
  signalled c e (done f) k p q = ap done (sym (fits c f p) ∙ k)

  passed : (t : ℕ) (r : Reply) → reply s (pass t) ≡ r → by_pass (pass_result s.past r) ≡ Ok tt → r ≡ done (Pass t)
  passed t (refused r) p q = absurd cc
  passed t not_yet p q = absurd cc
  passed t (done (Pass u)) p q =
      ap (λ n. done (Pass n)) (passer (is_permitted s.limits s.terms s.past (Claim t)) t u (fits (pass t) (Pass u) p))
  passed t (done (Make u m)) p q = absurd cc
  passed t (done (Reg v u m)) p q = absurd cc
  passed t (done (Sig u x)) p q = absurd cc
  passed t (done (Claim u)) p q = absurd cc
  passed t (done (Did u)) p q = absurd cc
  passed t (done (Send u a v)) p q = absurd cc
  passed t (done (Looked u a x)) p q = absurd cc
  passed t (done (Drop u)) p q = absurd cc

  claimed : (t : ℕ) (r : Reply) → reply s (pass t) ≡ r → by_claim (pass_result s.past r) ≡ Ok tt → r ≡ done (Claim t)
  claimed t (refused r) p q = absurd cc
  claimed t not_yet p q = absurd cc
  claimed t (done (Claim u)) p q =
      ap (λ n. done (Claim n)) (claimer (is_permitted s.limits s.terms s.past (Claim t)) t u (fits (pass t) (Claim u) p))
  claimed t (done (Make u m)) p q = absurd cc
  claimed t (done (Reg v u m)) p q = absurd cc
  claimed t (done (Sig u x)) p q = absurd cc
  claimed t (done (Pass u)) p q = absurd cc
  claimed t (done (Did u)) p q = absurd cc
  claimed t (done (Send u a v)) p q = absurd cc
  claimed t (done (Looked u a x)) p q = absurd cc
  claimed t (done (Drop u)) p q = absurd cc

  looked : (t a : ℕ) (x : Look ℤ) (r : Reply) → reply s (look t a) ≡ r → by_look x (look_result r) ≡ Ok tt
      → r ≡ done (Looked t a x)
  looked t a x (refused r) p q = absurd cc
  looked t a x not_yet p q = absurd cc
  looked t a x (done (Looked u b y)) p q =
      let e : Looked t a (look_of s.terms.ops a (waits t s.past) s.past) ≡ Looked u b y = fits (look t a) (Looked u b y) p in
      let f : x ≡ y = accepted x y q in
      cc
  looked t a x (done (Make u m)) p q = absurd cc
  looked t a x (done (Reg v u m)) p q = absurd cc
  looked t a x (done (Sig u n)) p q = absurd cc
  looked t a x (done (Claim u)) p q = absurd cc
  looked t a x (done (Pass u)) p q = absurd cc
  looked t a x (done (Did u)) p q = absurd cc
  looked t a x (done (Send u b v)) p q = absurd cc
  looked t a x (done (Drop u)) p q = absurd cc

  -- an event that is told is the reply to its call
  told_is_done : (e : Event) → said s e ≡ Ok tt → reply s (call_of e) ≡ done e
  told_is_done (Make t m) k = ruled (make t m) (Make t m) (reply s (make t m)) refl refl k
  told_is_done (Reg q t m) k = ruled (register q t m) (Reg q t m) (reply s (register q t m)) refl refl k
  told_is_done (Sig t x) k = signalled (signal t x) (Sig t x) (reply s (signal t x)) refl refl k
  told_is_done (Claim t) k = claimed t (reply s (pass t)) refl k
  told_is_done (Did t) k = ruled (single_done t) (Did t) (reply s (single_done t)) refl refl k
  told_is_done (Pass t) k = passed t (reply s (pass t)) refl k
  told_is_done (Send t a v) k = ruled (send t a v) (Send t a v) (reply s (send t a v)) refl refl k
  told_is_done (Looked t a x) k = looked t a x (reply s (look t a)) refl k
  told_is_done (Drop t) k = ruled (drop_task t) (Drop t) (reply s (drop_task t)) refl refl k

  -- who may pass has nothing to claim
  no_claim : (t : ℕ) → is_legal s.limits s.terms s.past ≡ true
      → is_permitted s.limits s.terms s.past (Pass t) ≡ true → is_permitted s.limits s.terms s.past (Claim t) ≡ false
  no_claim t k may =
      let h = s.past in
      let p = waits t h in
      false_from_ne_true (is_permitted s.limits s.terms h (Claim t)) (λ g.
      let f = claim_follows s.limits s.terms h t g in
      let undone : is_done p h ≡ false =
      false_from_ne_true (is_done p h) (λ e. false≢true (sym f.unclaimed ∙ done_is_claimed s.limits s.terms h k p e)) in
      let before = owes s.limits s.terms h k t p f.proposed undone in
      let waiter : has_mode can_wait t h ≡ true = single_waits t h before.single in
      let proposed : is_proposed p h ≡ true = proposer_proposes t p h f.proposed in
      let second : (not (has_mode can_wait t h) || (is_closed p h && is_settled p h)) ≡ true =
      (and_parts (are_met (conditions s.limits s.terms h (pass t)))
      (not (has_mode can_wait t h) || (is_closed p h && is_settled p h)) may).1 in
      let third : (is_closed p h && is_settled p h) ≡ true =
      subst (λ b. (not b || (is_closed p h && is_settled p h)) ≡ true) waiter second in
      let settled : is_settled p h ≡ true = (and_parts (is_closed p h) (is_settled p h) third).1 in
      let fourth : (not true || is_done p h) ≡ true = subst (λ b. (not b || is_done p h) ≡ true) proposed settled in
      false≢true (sym undone ∙ fourth))

  -- an event that is allowed is the reply to its call
  allowed_done : (c : Call) (e : Event) → event_for s.limits s.terms s.past c ≡ e
      → is_legal s.limits s.terms s.past ≡ true → is_allowed s.limits s.terms s.past e ≡ true
      → reply s c ≡ done e
  allowed_done c e same k may =
      (done_where_allowed s c k).1 (subst (λ f. is_allowed s.limits s.terms s.past f ≡ true) (sym same) may) ∙ ap done same

  permitted : (e : Event) → is_allowed s.limits s.terms s.past e ≡ true → is_permitted s.limits s.terms s.past e ≡ true
  permitted e may = (and_parts (is_permitted s.limits s.terms s.past e) (has_room s.limits (e ∷ s.past)) may).0

  -- a look that is allowed saw what there was to see
  saw : (t a : ℕ) (x : Look ℤ) → is_allowed s.limits s.terms s.past (Looked t a x) ≡ true
      → look_of s.terms.ops a (waits t s.past) s.past ≡ x
  saw t a x may =
      let y = look_of s.terms.ops a (waits t s.past) s.past in
      sym (same_is x y (and_parts (are_met (conditions s.limits s.terms s.past (look t a))) (same_look x y)
      (permitted (Looked t a x) may)).1)

  allowed_is_reply : (e : Event) → is_legal s.limits s.terms s.past ≡ true → is_allowed s.limits s.terms s.past e ≡ true
      → reply s (call_of e) ≡ done e
  allowed_is_reply (Make t m) k may = allowed_done (make t m) (Make t m) refl k may
  allowed_is_reply (Reg q t m) k may = allowed_done (register q t m) (Reg q t m) refl k may
  allowed_is_reply (Sig t x) k may = allowed_done (signal t x) (Sig t x) refl k may
  allowed_is_reply (Claim t) k may = pass_claims s t k (permitted (Claim t) may)
  allowed_is_reply (Did t) k may = allowed_done (single_done t) (Did t) refl k may
  allowed_is_reply (Pass t) k may =
      allowed_done (pass t) (Pass t)
      (ap (λ b. cond b (Claim t) (Pass t)) (no_claim t k (permitted (Pass t) may))) k may
  allowed_is_reply (Send t a v) k may = allowed_done (send t a v) (Send t a v) refl k may
  allowed_is_reply (Looked t a x) k may =
      allowed_done (look t a) (Looked t a x) (ap (Looked t a) (saw t a x may)) k may
  allowed_is_reply (Drop t) k may = allowed_done (drop_task t) (Drop t) refl k may

same_look_same : (x : Look ℤ) → same_look x x ≡ true
same_look_same (Value v) = (Decides-int_eq v v).1 refl
same_look_same Nothing = refl

not_by_rule : (r : Result (Unit {0}) Refusal) → by_rule r ≡ Err Memory → ⊥
not_by_rule (Ok u) k = cc
not_by_rule (Err r) k = cc

not_by_signal : (r : Result Signalling Refusal) → by_signal r ≡ Err Memory → ⊥
not_by_signal (Ok Signalled) k = cc
not_by_signal (Ok signallings.NotYet) k = cc
not_by_signal (Err r) k = cc

not_by_pass : (r : Result (Passing ℕ) Refusal) → by_pass r ≡ Err Memory → ⊥
not_by_pass (Ok (Passed p)) k = cc
not_by_pass (Ok (Claimed n)) k = cc
not_by_pass (Ok NotYet) k = cc
not_by_pass (Err r) k = cc

not_by_claim : (r : Result (Passing ℕ) Refusal) → by_claim r ≡ Err Memory → ⊥
not_by_claim (Ok (Passed p)) k = cc
not_by_claim (Ok (Claimed n)) k = cc
not_by_claim (Ok NotYet) k = cc
not_by_claim (Err r) k = cc

abbrev told_or : Bool → Look ℤ → Result (Unit {0}) Refused
told_or b y = cond b (Ok tt) (Err (SawOther y))

told_apart : (b : Bool) (y : Look ℤ) → told_or b y ≡ Err Memory → ⊥
told_apart true y k = absurd cc
told_apart false y k = absurd cc

not_by_look : (x : Look ℤ) (r : Result (Look ℤ) Refusal) → by_look x r ≡ Err Memory → ⊥
not_by_look x (Ok y) k = told_apart (same_look x y) y k
not_by_look x (Err r) k = cc

-- no reply tells that there is no memory
pub never_memory : (s : Story) (e : Event) → said s e ≢ Err Memory
never_memory s (Make t m) = not_by_rule (done_result (reply s (make t m)))
never_memory s (Reg q t m) = not_by_rule (done_result (reply s (register q t m)))
never_memory s (Sig t x) = not_by_signal (signal_result (reply s (signal t x)))
never_memory s (Claim t) = not_by_claim (pass_result s.past (reply s (pass t)))
never_memory s (Did t) = not_by_rule (done_result (reply s (single_done t)))
never_memory s (Pass t) = not_by_pass (pass_result s.past (reply s (pass t)))
never_memory s (Send t a v) = not_by_rule (done_result (reply s (send t a v)))
never_memory s (Looked t a x) = not_by_look x (look_result (reply s (look t a)))
never_memory s (Drop t) = not_by_rule (done_result (reply s (drop_task t)))

done_claim : (h : List Event) (f : Event) → by_claim (passing h f) ≡ Err HadToWait → ⊥
done_claim h (Make t m) k = cc
done_claim h (Reg q t m) k = cc
done_claim h (Sig t x) k = cc
done_claim h (Claim t) k = cc
done_claim h (Did t) k = cc
done_claim h (Pass t) k = cc
done_claim h (Send t a v) k = cc
done_claim h (Looked t a x) k = cc
done_claim h (Drop t) k = cc

done_pass : (h : List Event) (f : Event) → by_pass (passing h f) ≡ Err HadToWait → ⊥
done_pass h (Make t m) k = cc
done_pass h (Reg q t m) k = cc
done_pass h (Sig t x) k = cc
done_pass h (Claim t) k = cc
done_pass h (Did t) k = cc
done_pass h (Pass t) k = cc
done_pass h (Send t a v) k = cc
done_pass h (Looked t a x) k = cc
done_pass h (Drop t) k = cc

saw_other : (b : Bool) (y : Look ℤ) → told_or b y ≡ Err HadToWait → ⊥
saw_other true y k = absurd cc
saw_other false y k = absurd cc

done_look : (x : Look ℤ) (f : Event) → by_look x (seen f) ≡ Err HadToWait → ⊥
done_look x (Make t m) k = cc
done_look x (Reg q t m) k = cc
done_look x (Sig t n) k = cc
done_look x (Claim t) k = cc
done_look x (Did t) k = cc
done_look x (Pass t) k = cc
done_look x (Send t a v) k = cc
done_look x (Looked t a y) k = saw_other (same_look x y) y k
done_look x (Drop t) k = cc

-- a call that is done tells of no wait
done_tells : (h : List Event) (e f : Event) → said_by h e (done f) ≡ Err HadToWait → ⊥
done_tells h (Make t m) f k = cc
done_tells h (Reg q t m) f k = cc
done_tells h (Sig t x) f k = cc
done_tells h (Claim t) f k = done_claim h f k
done_tells h (Did t) f k = cc
done_tells h (Pass t) f k = done_pass h f k
done_tells h (Send t a v) f k = cc
done_tells h (Looked t a x) f k = done_look x f k
done_tells h (Drop t) f k = cc

stays : (s : Story) (e : Event) (r : Reply) → said_by s.past e r ≡ Err HadToWait → after s r ≡ s
stays s e (refused r) k = refl
stays s e not_yet k = refl
stays s e (done f) k = absurd (done_tells s.past e f k)

-- a wait leaves the story as it is
pub waited_stays : (s : Story) (e : Event) → said s e ≡ Err HadToWait → left s e ≡ s
waited_stays s e k = stays s e (reply s (call_of e)) k

-- the reply that is the event tells it
tells : (h : List Event) (e : Event) → said_by h e (done e) ≡ Ok tt
tells h (Make t m) = refl
tells h (Reg q t m) = refl
tells h (Sig t x) = refl
tells h (Claim t) = refl
tells h (Did t) = refl
tells h (Pass t) = refl
tells h (Send t a v) = refl
tells h (Looked t a x) = rw (same_look_same x) refl
tells h (Drop t) = refl

-- what is told is allowed, and is then the newest event
pub told_ok : (s : Story) (e : Event) → said s e ≡ Ok tt
    → (is_allowed s.limits s.terms s.past e ≡ true) × (left s e ≡ with_event s e)
told_ok s e k =
    let d = told_is_done s e k in
    (done_is_allowed s (call_of e) e d, ap (after s) d)

-- what is allowed is told
pub allowed_told : (s : Story) (e : Event) → is_legal s.limits s.terms s.past ≡ true
    → is_allowed s.limits s.terms s.past e ≡ true → said s e ≡ Ok tt
allowed_told s e k may = ap (said_by s.past e) (allowed_is_reply s e k may) ∙ tells s.past e

-- what is not told is not allowed
pub told_err : (s : Story) (e : Event) (r : Refused) → is_legal s.limits s.terms s.past ≡ true
    → said s e ≡ Err r → is_allowed s.limits s.terms s.past e ≡ false
told_err s e r k untold =
    false_from_ne_true (is_allowed s.limits s.terms s.past e) (λ may. absurd (cc (untold, allowed_told s e k may)))
