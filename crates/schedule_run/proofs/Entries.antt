-- The record of a run after each event.
use Rattle.std.proofs.Common.{ℕ, suc, ◌+◌, ◌≡◌, Bool, true, false, if◌then◌else◌, List, [], ◌∷◌, reverse, length, Option, Some, None, Result, Ok, refl, sym, subst, ap, ◌∙◌, arith, ℤ}
use Rattle.std.proofs.lemmas.Bool.{and_from, lt-ltb}
use Rattle.std.proofs.lemmas.Cmp.{int_eq_equiv}
use Rattle.std.proofs.lemmas.List.{reverse-append, length-reverse}
use Rattle.phase_modes.specs.declared.limits.Limits.{Limits}
use Rattle.phase_modes.specs.declared.refusal.Refusal.{Refusal}
use Rattle.phase_modes.specs.Refusal.{first_refusal}
use Rattle.phase_model.specs.declared.history.Event.TheVariants.{Look as Looked}
use Rattle.phase_model.specs.declared.op.Look.{Look}
use Rattle.phase_model.specs.declared.op.Look.TheVariants as looks
use Rattle.phase_model.specs.Phases.{waits}
use Rattle.phase_model.specs.Conditions.{conditions}
use Rattle.phase_model.specs.declared.call.Call.TheVariants.{Look as look}
use Rattle.phase_model.specs.Replies.{decided}
use Rattle.phase_model.specs.Rules.{same_look, has_room, look_of}
use Rattle.world_model.specs.declared.event.Step.TheVariants.{Make, Reg, Sig, Claim, Did, Pass, Send, Look as Looking, Drop}
use Rattle.world_model.specs.declared.event.Tried.TheVariants.{Look as TriedLook}
use Rattle.world_model.specs.declared.event.WorldEvent.{WorldEvent}
use Rattle.world_model.specs.declared.event.WorldEvent.TheVariants.{Phaser, Finish, Begin, Refuse, Fail}
use Rattle.world_model.specs.declared.reply.Reply.{Reply}
use Rattle.world_model.specs.declared.reply.Reply.TheVariants.{Value, NotYet}
use Rattle.world_model.specs.Acts.{act_conditions, unless}
use Rattle.world_model.specs.PartReplies.{returned}
use Rattle.world_model.specs.Parts.{terms_of, phaser_past}
use Rattle.world_model.specs.Replies.{after, is_made, reply}
use Rattle.world_records.specs.StandsFor.{StandsFor, IsStep}
use Rattle.world_records.specs.WorldState.{WorldState}
use Rattle.trace_model.specs.Run.{Entry, Run, with_event}
use Rattle.trace_model.specs.Explained as explained
use Rattle.trace_model.specs.Explained.{past, is_answered, is_later, may_follow, all_follow}
use Rattle.schedule_run.specs.inner.Tracing.{seen, traced}
use Rattle.schedule_run.specs.inner.Records.{Counted, IsTraced, Records}

-- ---- an event as a trace has it

-- it is that event
back : (e : WorldEvent) (x : Reply) → explained.event_of (traced e x) ≡ e
back (Phaser n (Make t m terms)) x = refl
back (Phaser n (Reg q t m)) x = refl
back (Phaser n (Sig t y)) x = refl
back (Phaser n (Claim t)) x = refl
back (Phaser n (Did t)) x = refl
back (Phaser n (Pass t)) x = refl
back (Phaser n (Send t a v)) x = refl
back (Phaser n (Looking t a)) x = refl
back (Phaser n (Drop t)) x = refl
back (Finish f e) x = refl
back (Begin t b) x = refl
back (Refuse t a n) x = refl
back (Fail t n) x = refl

look_self : (x : Look ℤ) → same_look x x ≡ true
look_self (looks.Value v) = int_eq_equiv.refl v
look_self looks.Nothing = refl

-- what a look is answered is what it saw
look_seen : (l : Limits) (w : List WorldEvent) (n t a : ℕ) (x : Reply) → reply l w (Phaser n (Looking t a)) ≡ Ok x → is_made (Ok x) ≡ true → explained.is_seen (seen x) (Ok x) ≡ true
look_seen l w n t a x is made = by (first_refusal (act_conditions l w t (TriedLook n a))) (first_refusal (conditions l (terms_of n w) (phaser_past n w) (look t a))) (has_room l (Looked t a (look_of (terms_of n w).ops a (waits t (phaser_past n w)) (phaser_past n w)) ∷ phaser_past n w)) is
  where
    of_value : (y : Look ℤ) → ◌≡◌ {A = Result Reply Refusal} (Ok (Value y)) (Ok x) → explained.is_seen (seen x) (Ok x) ≡ true
    of_value y h = subst (λ (z : Reply). explained.is_seen (seen z) (Ok z) ≡ true) (got (Value y) x h) (look_self y)
      where
        got : (a b : Reply) → ◌≡◌ {A = Result Reply Refusal} (Ok a) (Ok b) → a ≡ b
        got a b h = cc

    by : (o c : Option Refusal) (room : Bool) → unless o (returned (phaser_past n w) (decided c false room (Looked t a (look_of (terms_of n w).ops a (waits t (phaser_past n w)) (phaser_past n w))))) ≡ Ok x → explained.is_seen (seen x) (Ok x) ≡ true
    by (Some r) c room h = absurd cc
    by None (Some r) room h = absurd cc
    by None None true h = of_value (look_of (terms_of n w).ops a (waits t (phaser_past n w)) (phaser_past n w)) h
    by None None false h = absurd cc

answered : (l : Limits) (w : List WorldEvent) (e : WorldEvent) (x : Reply) → reply l w e ≡ Ok x → is_made (Ok x) ≡ true → is_answered (traced e x) (Ok x) ≡ true
answered l w (Phaser n (Make t m terms)) x is made = made
answered l w (Phaser n (Reg q t m)) x is made = made
answered l w (Phaser n (Sig t y)) x is made = made
answered l w (Phaser n (Claim t)) x is made = made
answered l w (Phaser n (Did t)) x is made = made
answered l w (Phaser n (Pass t)) x is made = made
answered l w (Phaser n (Send t a v)) x is made = made
answered l w (Phaser n (Looking t a)) x is made = look_seen l w n t a x is made
answered l w (Phaser n (Drop t)) x is made = made
answered l w (Finish f e) x is made = made
answered l w (Begin t b) x is made = made
answered l w (Refuse t a n) x is made = made
answered l w (Fail t n) x is made = made

-- ---- the trace with one event more

next_later : (es : List Entry) → Counted es → is_later (suc (length es)) es ≡ true
next_later [] c = refl
next_later (e ∷ es) c = lt-ltb e.0 (suc (length (e ∷ es))) (omega (arith, c.0))

entry_more : (l : Limits) (w : List WorldEvent) (es : List Entry) (e : WorldEvent) (x : Reply) → IsTraced l w es → reply l w e ≡ Ok x → is_made (Ok x) ≡ true → IsTraced l (e ∷ w) ((suc (length es), traced e x) ∷ es)
entry_more l w es e x t is made = record {
  is = by_parts (back e x) t.is;
  follow = and_from (may_follow l es (suc (length es), traced e x)) (all_follow l es)
      (and_from (is_later (suc (length es)) es) (is_answered (traced e x) (reply l (past es) (explained.event_of (traced e x)))) (next_later es t.counted)
      (subst (λ r. is_answered (traced e x) r ≡ true) (sym (same (back e x) t.is ∙ is)) (answered l w e x is made))) t.follow;
  counted = (refl, t.counted);
}
  where
    by_parts : {a b : WorldEvent} {xs ys : List WorldEvent} → a ≡ b → xs ≡ ys → a ∷ xs ≡ b ∷ ys
    by_parts p q = cc

    same : explained.event_of (traced e x) ≡ e → past es ≡ w → reply l (past es) (explained.event_of (traced e x)) ≡ reply l w e
    same p q = rw (p, q) refl

-- ---- the record

-- what doesn't wait is made
pub made_unless : (x : Reply) → (x ≡ NotYet → ⊥) → is_made (Ok x) ≡ true
made_unless NotYet h = absurd (h refl)
made_unless x h = refl

module _ (l : Limits) (w : List WorldEvent) (e : WorldEvent) (old new : WorldState) (trace : Run) where
  -- what isn't made leaves it
  pub record_kept : (r : Result Reply Refusal) → IsStep e old new r → is_made r ≡ false → Records l w old trace → Records l (after w e (reply l w e)) new trace
  record_kept r step kept st =
      let is : r ≡ reply l w e = subst (λ (m : Limits). r ≡ reply m w e) st.limits (step.answer w st.stands) in
      subst (λ (a : Result Reply Refusal). Records l (after w e a) new trace) is
      (subst (λ b. Records l (if b then e ∷ w else w) new trace) (sym kept)
      (subst (λ (s : WorldState). Records l w s trace) (sym (step.unchanged kept)) st))

  -- what is made is added
  pub record_more : (x : Reply) (longer : Run) → IsStep e old new (Ok x) → is_made (Ok x) ≡ true → longer ≡ with_event trace (length trace.events + 1, traced e x) → Records l w old trace → Records l (after w e (reply l w e)) new longer
  record_more x longer step made more st =
      let is : Ok x ≡ reply l w e = subst (λ (m : Limits). Ok x ≡ reply m w e) st.limits (step.answer w st.stands) in
      let es = reverse trace.events in
      let long : length trace.events + 1 ≡ suc (length es) = omega (arith, length-reverse trace.events) in
      let turned : reverse longer.events ≡ (suc (length es), traced e x) ∷ es =
      ap (λ (r : Run). reverse r.events) more ∙ (reverse-append trace.events ((length trace.events + 1, traced e x) ∷ []) ∙ ap (λ n. (n, traced e x) ∷ es) long) in
      subst (λ (a : Result Reply Refusal). Records l (after w e a) new longer) is
      (subst (λ b. Records l (if b then e ∷ w else w) new longer) (sym made) (record {
        limits = step.limits ∙ st.limits;
        stands = step.stands w st.stands made;
        kept = ap (λ (r : Run). r.limits) more ∙ st.kept;
        traced = subst (λ (ys : List Entry). IsTraced l (e ∷ w) ys) (sym turned) (entry_more l w es e x st.traced (sym is) made);
      }))

  -- so is its outcome
  pub outcome_reported : (r : Result Reply Refusal) → IsStep e old new r → Records l w old trace → r ≡ reply l w e
  outcome_reported r step st = subst (λ (m : Limits). r ≡ reply m w e) st.limits (step.answer w st.stands)

-- before the first event
pub record_first : (l : Limits) (s : WorldState) (trace : Run) → s.limits ≡ l → StandsFor [] s → trace ≡ record { limits = l; events = [] } → Records l [] s trace
record_first l s trace limits stands is = record {
  limits = limits;
  stands = stands;
  kept = ap (λ (r : Run). r.limits) is;
  traced = subst (λ (ys : List Entry). IsTraced l [] ys) (sym (ap (λ (r : Run). reverse r.events) is)) (record { is = refl; follow = refl; counted = tt });
}
