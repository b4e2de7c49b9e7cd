-- What an idle task begins is made, or refused for a reason that its log may report.
use Rattle.std.proofs.Common.{ℕ, ◌≡◌, ◌⊎◌, Bool, true, false, ◌&&◌, ◌||◌, ◌==◌, not, nat_lt, List, [], ◌∷◌, Option, Some, None, Result, Err, refl, sym, subst, inl, inr}
use Rattle.std.specs.List.{list_all}
use Rattle.std.proofs.lemmas.Bool.{and_parts, and_from}
use Rattle.phase_modes.specs.Lists.{is_empty}
use Rattle.phase_modes.specs.Limits.{limits_fit}
use Rattle.phase_modes.specs.declared.limits.Limits.{Limits}
use Rattle.phase_modes.specs.declared.phased.Pair.{Pair}
use Rattle.phase_modes.specs.declared.refusal.Refusal.{Refusal}
use Rattle.phase_modes.specs.declared.refusal.Refusal.TheVariants.{ActsFull, HistoryFull, NotNow, TasksFull}
use Rattle.phase_modes.specs.Refusal.{first_refusal, number_of}
use Rattle.phase_model.specs.declared.history.Event.{Event}
use Rattle.phase_model.specs.declared.history.Event.TheVariants.{Make as Made}
use Rattle.phase_model.specs.Conditions.{conditions}
use Rattle.phase_model.specs.declared.call.Call.TheVariants.{Send as send, Look as look}
use Rattle.phase_model.specs.Replies as phaser
use Rattle.phase_model.specs.Replies.{decided}
use Rattle.phase_model.specs.Rules.{has_room}
use Rattle.finish_core.specs.Replies.{done_unless}
use Rattle.finish_core.specs.declared.event.FinishEvent.{FinishEvent}
use Rattle.job_script.specs.declared.head.Head.{Head}
use Rattle.job_script.specs.declared.head.Head.TheVariants as acts
use Rattle.job_script.specs.Acts.{Act}
use Rattle.job_script.specs.Program.{Program}
use Rattle.world_model.specs.declared.event.Begun.TheVariants.{Async, Signal, Wait, Next, NextSingle, Shut, End}
use Rattle.world_model.specs.declared.event.Tried.{Tried}
use Rattle.world_model.specs.declared.event.Tried.TheVariants.{Begun as Beginning, New, Open, Send as Sending, Look as Looking}
use Rattle.world_model.specs.declared.event.WorldEvent.{WorldEvent}
use Rattle.world_model.specs.declared.reply.Reply.{Reply}
use Rattle.world_model.specs.ActConditions.{own_conditions, pair_conditions, is_counted}
use Rattle.world_model.specs.Acts.{facts, act_reply, act_done, is_number_used, unless}
use Rattle.world_model.specs.Due.{is_idle}
use Rattle.world_model.specs.GivingUp.{may_refuse}
use Rattle.world_model.specs.PartReplies.{returned, finish_returned}
use Rattle.world_model.specs.Parts.{terms_of, phaser_past, finish_past}
use Rattle.world_model.specs.Replies.{is_made, is_legal_world, reply}
use Rattle.world_model.specs.Tasks.{acts as acts_begun}
use Rattle.world_model.proofs.MadeOrGivesUp.{event_made}
use Rattle.world_model.proofs.SmallWords.{eq_self}
use Rattle.trace_walk.specs.Picks.{unused, event_of}
use Rattle.trace_walk.specs.Scripts.{meanings, next_act, tried_as, tried_next, tried}
use Rattle.trace_walk.proofs.Used.{none_yet, no_finish_events, phaser_free, task_free, finish_free}

-- a log may report the refusal
abbrev pub is_reported : Refusal → Bool
is_reported r = not (number_of r == 22) && not (number_of r == 23)

-- the reply makes an event, or is such a refusal
abbrev pub Goes : Result Reply Refusal → Type 0
Goes r = (is_made r ≡ true) ⊎ ((x : Refusal) × (r ≡ Err x) × (is_reported x ≡ true))

abbrev all_reported : List (Refusal × Bool) → Bool
all_reported cs = list_all (λ c. is_reported c.0) cs

first_reported : (cs : List (Refusal × Bool)) (r : Refusal) → all_reported cs ≡ true → first_refusal cs ≡ Some r → is_reported r ≡ true
first_reported [] r h k = absurd cc
first_reported ((x, true) ∷ cs) r h k = first_reported cs r (and_parts (is_reported x) (all_reported cs) h).1 k
first_reported ((x, false) ∷ cs) r h k = subst (λ (y : Refusal). is_reported y ≡ true) (got x r k) (and_parts (is_reported x) (all_reported cs) h).0
  where
    got : (x y : Refusal) → Some x ≡ Some y → x ≡ y
    got x y h = cc

-- a phaser's reply, where its conditions are reported
settled_goes : (h : List Event) (cs : List (Refusal × Bool)) (room : Bool) (e : Event) → all_reported cs ≡ true → Goes (returned h (decided (first_refusal cs) false room e))
settled_goes h cs room e known = by (first_refusal cs) refl room
  where
    by : (o : Option Refusal) → first_refusal cs ≡ o → (room : Bool) → Goes (returned h (decided o false room e))
    by (Some r) is room = inr (r, refl, first_reported cs r known is)
    by None is true = inl (event_made h e)
    by None is false = inr (HistoryFull, refl, refl)

-- of the pairs of a spawn
pairs_reported : (w : List WorldEvent) (t : ℕ) (named : List ℕ) (ps : List Pair) → all_reported (pair_conditions (facts w t) named ps) ≡ true
pairs_reported w t named [] = refl
pairs_reported w t named (p ∷ ps) = pairs_reported w t (p.phaser ∷ named) ps

own_reported : (l : Limits) (w : List WorldEvent) (t : ℕ) (a : Tried) → all_reported (own_conditions l (facts w t) a) ≡ true
own_reported l w t (Beginning (Async c ps)) = pairs_reported w t [] ps
own_reported l w t (Beginning Signal) = refl
own_reported l w t (Beginning Wait) = refl
own_reported l w t (Beginning Next) = refl
own_reported l w t (Beginning (NextSingle x)) = refl
own_reported l w t (Beginning Shut) = refl
own_reported l w t (Beginning End) = refl
own_reported l w t (New n m terms) = refl
own_reported l w t (Open f) = refl
own_reported l w t (Sending n a v) = refl
own_reported l w t (Looking n a) = refl

-- what a phaser or a finish says of an act that meets its own conditions, where its number is free
done_goes : (l : Limits) (w : List WorldEvent) (t : ℕ) (a : Tried) → is_number_used w a ≡ false → Goes (act_done l w t a)
done_goes l w t (Beginning b) free = inl refl
done_goes l w t (New n m terms) free =
    let none : phaser_past n w ≡ [] = none_yet n w free in
    by (phaser_past n w) none (nat_lt t l.tasks) (has_room l (Made t m ∷ phaser_past n w))
  where
    by : (h : List Event) → h ≡ [] → (below room : Bool) → Goes (returned h (decided (first_refusal ((NotNow, is_empty h) ∷ (TasksFull, below) ∷ [])) false room (Made t m)))
    by [] e true true = inl refl
    by [] e true false = inr (HistoryFull, refl, refl)
    by [] e false room = inr (TasksFull, refl, refl)
    by (x ∷ h) e below room = absurd cc
done_goes l w t (Open f) free = by (finish_past f w) (no_finish_events (finish_past f w) free)
  where
    by : (h : List FinishEvent) → h ≡ [] → Goes (finish_returned (done_unless (first_refusal ((NotNow, is_empty h) ∷ []))))
    by [] e = inl refl
    by (x ∷ h) e = absurd cc
done_goes l w t (Sending n a v) free =
    let h = phaser_past n w in
    let e = phaser.event_for l (terms_of n w) h (send t a v) in
    settled_goes h (conditions l (terms_of n w) h (send t a v)) (has_room l (e ∷ h)) e refl
done_goes l w t (Looking n a) free =
    let h = phaser_past n w in
    let e = phaser.event_for l (terms_of n w) h (look t a) in
    settled_goes h (conditions l (terms_of n w) h (look t a)) (has_room l (e ∷ h)) e refl

unless_goes : (o : Option Refusal) (r : Result Reply Refusal) → ((x : Refusal) → o ≡ Some x → is_reported x ≡ true) → Goes r → Goes (unless o r)
unless_goes (Some x) r known g = inr (x, refl, known x refl)
unless_goes None r known g = g

-- an act of an idle task, whose number is free
pub act_goes : (l : Limits) (w : List WorldEvent) (t : ℕ) (a : Tried) → is_idle t w ≡ true → is_number_used w a ≡ false → Goes (act_reply l w t a)
act_goes l w t a idle free =
    let counted = not (is_counted a) || nat_lt (acts_begun t w) l.acts in
    let own = own_conditions l (facts w t) a in
    subst (λ i. Goes (unless (first_refusal ((NotNow, i) ∷ (NotNow, not (is_number_used w a)) ∷ (ActsFull, counted) ∷ own)) (act_done l w t a))) (sym idle)
    (subst (λ u. Goes (unless (first_refusal ((NotNow, true) ∷ (NotNow, not u) ∷ (ActsFull, counted) ∷ own)) (act_done l w t a))) (sym free)
    (unless_goes (first_refusal ((ActsFull, counted) ∷ own)) (act_done l w t a)
    (λ x is. first_reported ((ActsFull, counted) ∷ own) x (own_reported l w t a) is) (done_goes l w t a free)))

-- the log may report its refusal
pub may_report : (l : Limits) (w : List WorldEvent) (t : ℕ) (a : Tried) (x : Refusal) → act_reply l w t a ≡ Err x → is_reported x ≡ true → may_refuse l w t a (number_of x) ≡ true
may_report l w t a x is known =
    let p = and_parts (not (number_of x == 22)) (not (number_of x == 23)) known in
    rw is (and_from ((number_of x == number_of x) && not (number_of x == 22)) (not (number_of x == 23))
    (and_from (number_of x == number_of x) (not (number_of x == 22)) (eq_self (number_of x)) p.0) p.1)

-- ---- the act that a task makes next, by the least numbers that aren't in use

module _ (l : Limits) (w : List WorldEvent) (fit : limits_fit l ≡ true) (k : is_legal_world l w ≡ true) (t : ℕ) (ms : List ℕ) where
  head_free : (h : Head) → is_number_used w (tried_as w t ms (unused l w) h) ≡ false
  head_free (acts.New name m terms) = phaser_free l w fit k
  head_free (acts.Async xs) = task_free l w fit k
  head_free acts.AsyncAll = task_free l w fit k
  head_free acts.OpenFinish = finish_free l w fit k
  head_free acts.ShutFinish = refl
  head_free acts.Signal = refl
  head_free acts.Wait = refl
  head_free acts.Next = refl
  head_free (acts.NextSingle n) = refl
  head_free (acts.Send name a v) = refl
  head_free (acts.Look name a) = refl
  head_free (acts.Repeat n) = refl

  pub next_free : (o : Option Act) → is_number_used w (tried_next w t ms (unused l w) o) ≡ false
  next_free None = refl
  next_free (Some a) = head_free a.head

-- the reply to an act's event
pub event_reply : (l : Limits) (w : List WorldEvent) (t : ℕ) (a : Tried) → reply l w (event_of t a) ≡ act_reply l w t a
event_reply l w t (New n m terms) = refl
event_reply l w t (Open f) = refl
event_reply l w t (Sending n a v) = refl
event_reply l w t (Looking n a) = refl
event_reply l w t (Beginning b) = refl

-- so the next act of an idle task is made, or its refusal is reported
pub next_goes : (p : Program) (w : List WorldEvent) (t : ℕ) → limits_fit p.limits ≡ true → is_legal_world p.limits w ≡ true → is_idle t w ≡ true → Goes (act_reply p.limits w t (tried p w t (unused p.limits w)))
next_goes p w t fit k idle =
    act_goes p.limits w t (tried p w t (unused p.limits w)) idle (next_free p.limits w fit k t (meanings p w t) (next_act p w t))
