-- A task that waits where nothing is done stays as it is, and so do the notes that say so.
use Rattle.std.proofs.Common.{ℕ, zero, suc, ◌+◌, ◌≡◌, ◌≤◌, Bool, true, false, ◌&&◌, ◌==◌, not, cond, List, [], ◌∷◌, length, reverse, slice_get, replicate, Option, Some, None, Ok, Result, refl, sym, subst, ap, ◌∙◌, inl, inr, arith, le_of_suc-le-suc}
use Rattle.std.specs.Prelude.{option_map}
use Rattle.std.proofs.Math.ListN.{set}
use Rattle.std.proofs.lemmas.List.{length-reverse, length-map}
use Rattle.std.proofs.lemmas.Bool.{cases_Bool, eqb-true, eq-eqb, leb-true, true≢false, false≢true, false_from_ne_true, not-true, and_parts}
use Rattle.std.proofs.lemmas.Option.{none-some}
use Rattle.phase_modes.specs.Lists.{is_empty}
use Rattle.phase_modes.specs.declared.limits.Limits.{Limits}
use Rattle.phase_modes.specs.declared.refusal.Refusal.{Refusal}
use Rattle.phase_model.specs.declared.history.Event.{Event}
use Rattle.phase_model.specs.declared.history.Event.TheVariants.{Claim as Claimed, Did as Done}
use Rattle.phase_model.specs.declared.terms.Terms.{Terms}
use Rattle.phase_model.specs.Replies as phaser
use Rattle.phase_model.specs.Rules.{is_permitted}
use Rattle.finish_core.specs.declared.event.FinishEvent.{FinishEvent}
use Rattle.finish_core.specs.declared.event.FinishEvent.TheVariants.{Shut as Shutting}
use Rattle.finish_core.specs.Finish.{all_ended}
use Rattle.finish_core.specs.Replies as finish
use Rattle.job_script.specs.Program.{Program}
use Rattle.world_model.specs.declared.event.Step.{Step}
use Rattle.world_model.specs.declared.event.Step.TheVariants.{Make, Claim, Did, Pass}
use Rattle.world_model.specs.declared.event.WorldEvent.{WorldEvent}
use Rattle.world_model.specs.declared.event.WorldEvent.TheVariants as world
use Rattle.world_model.specs.declared.event.WorldEvent.TheVariants.{Begin, Refuse, Fail}
use Rattle.world_model.specs.declared.reply.Reply.{Reply}
use Rattle.world_model.specs.declared.reply.Reply.TheVariants.{NotYet}
use Rattle.world_model.specs.Actors.{actor}
use Rattle.world_model.specs.Continuing.{next_done}
use Rattle.world_model.specs.Due.{due, is_idle, next_event, or_single}
use Rattle.world_model.specs.PartReplies.{call_for, finish_returned, returned}
use Rattle.world_model.specs.Parts.{finish_past, phaser_past, terms_of}
use Rattle.world_model.specs.Replies.{after, is_legal_world, is_made, reply}
use Rattle.world_model.specs.Tasks.{is_born, is_ended}
use Rattle.world_model.proofs.OthersLeave.{due_other}
use Rattle.trace_walk.specs.Picks.{pick}
use Rattle.trace_walk.proofs.GoesOn.{asked_busy, next_replied}
use Rattle.trace_model.specs.Run.{Entry}
use Rattle.trace_model.specs.Explained.{event_of}
use Rattle.schedule_run.specs.declared.notes.Note.{Note}
use Rattle.schedule_run.specs.declared.notes.Notes.{Notes}
use Rattle.schedule_run.specs.declared.notes.Place.{Place}
use Rattle.schedule_run.specs.declared.notes.Place.TheVariants.{Phaser, Finish}
use Rattle.schedule_run.specs.declared.record.Outcome.TheVariants as outcome
use Rattle.schedule_run.specs.declared.record.Record.{Record}
use Rattle.schedule_run.specs.inner.Notes.{is_at, is_quiet, last_in, note_in, NoteStands, NotesStand, Waits, WaitsSomewhere}
use Rattle.schedule_run.specs.inner.Records.{outcome_of, Records}
use Rattle.schedule_run.specs.inner.Running.{Kept}
use Rattle.schedule_run.proofs.Picking.{going, is_waiting, picked_none, picked_waits}
use Rattle.schedule_run.proofs.Seats.{get-set_other}

-- ---- what an event leaves of the places that it isn't of

past_same : (n : ℕ) (e : WorldEvent) (w : List WorldEvent) → is_at (Phaser n) e ≡ false
    → phaser_past n (e ∷ w) ≡ phaser_past n w
past_same n (world.Phaser m s) w off = rw off refl
past_same n (world.Finish f e) w off = refl
past_same n (Begin t b) w off = refl
past_same n (Refuse t a x) w off = refl
past_same n (Fail t x) w off = refl

terms_same : (n : ℕ) (e : WorldEvent) (w : List WorldEvent) → is_at (Phaser n) e ≡ false
    → terms_of n (e ∷ w) ≡ terms_of n w
terms_same n (world.Phaser m (Make t mode terms)) w off = rw off refl
terms_same n (world.Phaser m s) w off = refl
terms_same n (world.Finish f e) w off = refl
terms_same n (Begin t b) w off = refl
terms_same n (Refuse t a x) w off = refl
terms_same n (Fail t x) w off = refl

finish_same : (f : ℕ) (e : WorldEvent) (w : List WorldEvent) → is_at (Finish f) e ≡ false
    → finish_past f (e ∷ w) ≡ finish_past f w
finish_same f (world.Finish g e) w off = rw off refl
finish_same f (world.Phaser m s) w off = refl
finish_same f (Begin t b) w off = refl
finish_same f (Refuse t a x) w off = refl
finish_same f (Fail t x) w off = refl

-- ---- what is next stays, and its reply

-- what stands for a pass, and what a phaser replies to a step, by its history and its terms
abbrev pass_by : Limits → ℕ → ℕ → Terms → List Event → WorldEvent
pass_by l n t terms h =
    cond (is_permitted l terms h (Claimed t)) (world.Phaser n (Claim t))
    (cond (is_permitted l terms h (Done t)) (world.Phaser n (Did t)) (world.Phaser n (Pass t)))

abbrev reply_by : Limits → Step → Terms → List Event → Result Reply Refusal
reply_by l s terms h = returned h (phaser.reply (record { limits = l; terms = terms; past = h }) (call_for s))

pass_at : (at : Place) (n t : ℕ) (b c : Bool)
    → is_at at (cond b (world.Phaser n (Claim t)) (cond c (world.Phaser n (Did t)) (world.Phaser n (Pass t)))) ≡ is_at at (world.Phaser n (Pass t))
pass_at (Phaser m) n t true c = refl
pass_at (Phaser m) n t false true = refl
pass_at (Phaser m) n t false false = refl
pass_at (Finish f) n t true c = refl
pass_at (Finish f) n t false true = refl
pass_at (Finish f) n t false false = refl

-- what comes before a pass is of the same phaser
single_at : (at : Place) (l : Limits) (w : List WorldEvent) (d : WorldEvent) → is_at at (or_single l w d) ≡ is_at at d
single_at at l w (world.Phaser n (Pass t)) =
    pass_at at n t (is_permitted l (terms_of n w) (phaser_past n w) (Claimed t)) (is_permitted l (terms_of n w) (phaser_past n w) (Done t))
single_at at l w d = refl

module _ (l : Limits) (at : Place) (e : WorldEvent) (w : List WorldEvent) (off : is_at at e ≡ false) where
  here : (m n : ℕ) → at ≡ Phaser m → (n == m) ≡ true → is_at (Phaser n) e ≡ false
  here m n is same = subst (λ (x : Place). is_at x e ≡ false) (is ∙ ap (λ (k : ℕ). Phaser k) (sym (eqb-true n m same))) off

  single_same : (d : WorldEvent) → is_at at d ≡ true → or_single l (e ∷ w) d ≡ or_single l w d
  single_same (world.Phaser n (Pass t)) on = by at refl on
    where
      by : (x : Place) → at ≡ x → is_at x (world.Phaser n (Pass t)) ≡ true
          → pass_by l n t (terms_of n (e ∷ w)) (phaser_past n (e ∷ w)) ≡ pass_by l n t (terms_of n w) (phaser_past n w)
      by (Phaser m) is same =
          ap (λ (h : List Event). pass_by l n t (terms_of n (e ∷ w)) h) (past_same n e w (here m n is same))
          ∙ ap (λ (x : Terms). pass_by l n t x (phaser_past n w)) (terms_same n e w (here m n is same))
      by (Finish f) is same = absurd (false≢true same)
  single_same d on = refl

  step_same : (x : Place) (n : ℕ) (s : Step) → at ≡ x → is_at x (world.Phaser n s) ≡ true
      → reply_by l s (terms_of n (e ∷ w)) (phaser_past n (e ∷ w)) ≡ reply_by l s (terms_of n w) (phaser_past n w)
  step_same (Phaser m) n s is same =
      ap (λ (h : List Event). reply_by l s (terms_of n (e ∷ w)) h) (past_same n e w (here m n is same))
      ∙ ap (λ (x : Terms). reply_by l s x (phaser_past n w)) (terms_same n e w (here m n is same))
  step_same (Finish f) n s is same = absurd (false≢true same)

  past_stays : (x : Place) (f : ℕ) (a : FinishEvent) → at ≡ x → is_at x (world.Finish f a) ≡ true
      → finish_past f (e ∷ w) ≡ finish_past f w
  past_stays (Phaser m) f a is same = absurd (false≢true same)
  past_stays (Finish g) f a is same =
      finish_same f e w (subst (λ (x : Place). is_at x e ≡ false) (is ∙ ap (λ (k : ℕ). Finish k) (sym (eqb-true f g same))) off)

  done_same : (d : WorldEvent) → is_at at d ≡ true → next_done l (e ∷ w) d ≡ next_done l w d
  done_same (world.Phaser n s) on = step_same at n s refl on
  done_same (world.Finish f Shutting) on =
      ap (λ (h : List FinishEvent). cond (all_ended h) (finish_returned (finish.reply l.tasks h Shutting)) (Ok NotYet))
      (past_stays at f Shutting refl on)
  done_same (world.Finish f a) on =
      ap (λ (h : List FinishEvent). finish_returned (finish.reply l.tasks h a)) (past_stays at f a refl on)
  done_same (Begin t b) on = refl
  done_same (Refuse t a n) on = refl
  done_same (Fail t n) on = refl

-- so who waits there still does, after an event of another task at another place
pub waits_stay : (l : Limits) (t : ℕ) (at : Place) (e : WorldEvent) (w : List WorldEvent) → (actor w e == t) ≡ false
    → is_at at e ≡ false → Waits l t at w → Waits l t at (e ∷ w)
waits_stay l t at e w other off h = record {
  event = h.event;
  next =
      subst (λ (ds : List WorldEvent). option_map (or_single l (e ∷ w)) (slice_get ds 0) ≡ Some h.event)
      (sym (due_other t e w other)) (first (due t w) h.next);
  there = h.there;
  held = done_same l at e w off h.event h.there ∙ h.held;
}
  where
    got : (a b : WorldEvent) → Some a ≡ Some b → a ≡ b
    got a b k = cc

    first : (ds : List WorldEvent) → option_map (or_single l w) (slice_get ds 0) ≡ Some h.event
        → option_map (or_single l (e ∷ w)) (slice_get ds 0) ≡ Some h.event
    first [] k = absurd cc
    first (d ∷ ds) k =
        let is : or_single l w d ≡ h.event = got (or_single l w d) h.event k in
        let on : is_at at d ≡ true = sym (single_at at l w d) ∙ (ap (λ (x : WorldEvent). is_at at x) is ∙ h.there) in
        ap (λ (x : WorldEvent). Some x) (single_same l at e w off d on) ∙ k

-- ---- a task that waits makes no event where it is picked

pub waits_unmoved : (p : Program) (w : List WorldEvent) (t : ℕ) → is_legal_world p.limits w ≡ true → WaitsSomewhere p.limits t w
    → pick p w t ≡ w
waits_unmoved p w t k (at, h) = by (is_born t w && not (is_ended t w)) refl
  where
    full : (ds : List WorldEvent) → option_map (or_single p.limits w) (slice_get ds 0) ≡ Some h.event → is_empty ds ≡ false
    full [] k = absurd cc
    full (d ∷ ds) k = refl

    never : (a : Bool) → (a && false) ≡ false
    never true = refl
    never false = refl

    busy : is_idle t w ≡ false
    busy = rw (full (due t w) h.next) (never (is_born t w && not (is_ended t w)))

    by : (b : Bool) → (is_born t w && not (is_ended t w)) ≡ b → pick p w t ≡ w
    by true is =
        let u = and_parts (is_born t w) (not (is_ended t w)) is in
        let going_on : is_ended t w ≡ false = not-true (is_ended t w) u.1 in
        picked_waits p w t (going t h.event) (asked_busy p w t h.event busy u.0 going_on h.next)
        (next_replied p.limits w t h.event k going_on h.next ∙ h.held)
    by false is = picked_none p w t busy is

-- ---- notes, by what is read of them

abbrev pub StandBy : Limits → List WorldEvent → (Place → Option ℕ) → (ℕ → Option Note) → Type 0
StandBy l w last note = (t : ℕ) → NoteStands l w last t (note t)

-- an event of a task without a note, which is now the last one of its place
pub stand_more : (l : Limits) (w : List WorldEvent) (e : WorldEvent) (u : ℕ) (last new : Place → Option ℕ) (note : ℕ → Option Note)
    → StandBy l w last note → note u ≡ None → actor w e ≡ u
    → ((at : Place) → is_at at e ≡ false → new at ≡ last at)
    → ((at : Place) (k : ℕ) → is_at at e ≡ true → is_quiet (new at) k ≡ true → length w + 1 ≤ k)
    → StandBy l (e ∷ w) new note
stand_more l w e u last new note stand none mine same late t = by (note t) refl (stand t)
  where
    other : (n : Note) → note t ≡ Some n → (actor w e == t) ≡ false
    other n is =
        false_from_ne_true (actor w e == t)
        (λ k. none-some n (sym (subst (λ (v : ℕ). note v ≡ None) (sym mine ∙ eqb-true (actor w e) t k) none) ∙ is))

    by : (o : Option Note) → note t ≡ o → NoteStands l w last t o → NoteStands l (e ∷ w) new t o
    by None is h = tt
    by (Some n) is h = (
      omega (arith, h.0),
      λ q.
          elim (cases_Bool (is_at n.place e)) [
            | inl on ↦ absurd (omega (arith, h.0, late n.place n.asked on q))
            | inr off ↦
                waits_stay l t n.place e w (other n is) off
                (h.1 (subst (λ (o : Option ℕ). is_quiet o n.asked ≡ true) (same n.place off) q))
          ],
    )

-- ---- in lists

pub quiet_set : (xs : List ℕ) (i x k : ℕ) → is_quiet (slice_get (set xs i x) i) k ≡ true → x ≤ k
quiet_set [] i x k h = absurd (false≢true h)
quiet_set (y ∷ ys) zero x k h = leb-true x k h
quiet_set (y ∷ ys) (suc i) x k h = quiet_set ys i x k h

-- where all is set to none, none is found
pub none_in : (n t : ℕ) → ◌≡◌ {A = Option Note} (note_in (slice_get (replicate n None) t)) None
none_in zero t = refl
none_in (suc n) zero = refl
none_in (suc n) (suc t) = none_in n t

-- a note that is put into the list
module _ (l : Limits) (w : List WorldEvent) (last : Place → Option ℕ) (t : ℕ) (o : Option Note) (h : NoteStands l w last t o) where
  own_note : (xs : List (Option Note)) (i : ℕ) → NoteStands l w last t (note_in (slice_get (set xs i o) i))
  own_note [] i = tt
  own_note (x ∷ xs) zero = h
  own_note (x ∷ xs) (suc i) = own_note xs i

  pub stand_set : (xs : List (Option Note)) → StandBy l w last (λ u. note_in (slice_get xs u))
      → StandBy l w last (λ u. note_in (slice_get (set xs t o) u))
  stand_set xs stand u =
      elim (cases_Bool (u == t)) [
        | inl same ↦
            subst (λ (v : ℕ). NoteStands l w last v (note_in (slice_get (set xs t o) v))) (sym (eqb-true u t same)) (own_note xs t)
        | inr other ↦
            subst (λ (x : Option (Option Note)). NoteStands l w last u (note_in x))
            (sym (get-set_other xs t u o (λ k. true≢false (sym (eq-eqb u t k) ∙ other)))) (stand u)
      ]

-- a task that was answered not yet has a note of that
pub note_waits : (l : Limits) (w : List WorldEvent) (last : Place → Option ℕ) (t : ℕ) (note : Note) (e : WorldEvent) → note.asked ≡ length w
    → next_event l t w ≡ Some e → is_at note.place e ≡ true → next_done l w e ≡ Ok NotYet → NoteStands l w last t (Some note)
note_waits l w last t note e long next there held =
    (omega (arith, long), λ quiet. record { event = e; next = next; there = there; held = held })

pub none_set : (xs : List (Option Note)) (i : ℕ) → ◌≡◌ {A = Option Note} (note_in (slice_get (set xs i None) i)) None
none_set [] i = refl
none_set (x ∷ xs) zero = refl
none_set (x ∷ xs) (suc i) = none_set xs i

pub none_past : (xs : List (Option Note)) (i : ℕ) → length xs ≤ i → ◌≡◌ {A = Option Note} (note_in (slice_get xs i)) None
none_past [] i h = refl
none_past (x ∷ xs) zero h = absurd (omega (arith, h))
none_past (x ∷ xs) (suc i) h = none_past xs i (le_of_suc-le-suc h)

-- where a list ends before the place, nothing is put there
pub set_past : (xs : List ℕ) (i x : ℕ) → length xs ≤ i → xs ≡ set xs i x
set_past [] i x h = refl
set_past (y ∷ ys) zero x h = absurd (omega (arith, h))
set_past (y ∷ ys) (suc i) x h = ap (λ (zs : List ℕ). y ∷ zs) (set_past ys i x (le_of_suc-le-suc h))

-- the last event of a phaser, or of a finish
pub phaser_marked : (l : Limits) (w : List WorldEvent) (n : ℕ) (s : Step) (u events : ℕ) (xs fs : List ℕ) (note : ℕ → Option Note)
    → StandBy l w (last_in xs fs) note → note u ≡ None → actor w (world.Phaser n s) ≡ u → events ≡ length w + 1
    → StandBy l (world.Phaser n s ∷ w) (last_in (set xs n events) fs) note
phaser_marked l w n s u events xs fs note stand none mine is =
    stand_more l w (world.Phaser n s) u (last_in xs fs) (last_in (set xs n events) fs) note stand none mine apart late
  where
    apart : (at : Place) → is_at at (world.Phaser n s) ≡ false → last_in (set xs n events) fs at ≡ last_in xs fs at
    apart (Phaser m) off = get-set_other xs n m events (λ k. true≢false (sym (eq-eqb n m (sym k)) ∙ off))
    apart (Finish f) off = refl

    late : (at : Place) (k : ℕ) → is_at at (world.Phaser n s) ≡ true → is_quiet (last_in (set xs n events) fs at) k ≡ true → length w + 1 ≤ k
    late (Phaser m) k on q =
        omega (arith, is, quiet_set xs n events k (subst (λ (v : ℕ). is_quiet (slice_get (set xs n events) v) k ≡ true) (sym (eqb-true n m on)) q))
    late (Finish f) k on q = absurd (false≢true on)

pub finish_marked : (l : Limits) (w : List WorldEvent) (f : ℕ) (a : FinishEvent) (u events : ℕ) (xs fs : List ℕ) (note : ℕ → Option Note)
    → StandBy l w (last_in xs fs) note → note u ≡ None → actor w (world.Finish f a) ≡ u → events ≡ length w + 1
    → StandBy l (world.Finish f a ∷ w) (last_in xs (set fs f events)) note
finish_marked l w f a u events xs fs note stand none mine is =
    stand_more l w (world.Finish f a) u (last_in xs fs) (last_in xs (set fs f events)) note stand none mine apart late
  where
    apart : (at : Place) → is_at at (world.Finish f a) ≡ false → last_in xs (set fs f events) at ≡ last_in xs fs at
    apart (Phaser m) off = refl
    apart (Finish g) off = get-set_other fs f g events (λ k. true≢false (sym (eq-eqb f g (sym k)) ∙ off))

    late : (at : Place) (k : ℕ) → is_at at (world.Finish f a) ≡ true → is_quiet (last_in xs (set fs f events) at) k ≡ true → length w + 1 ≤ k
    late (Phaser m) k on q = absurd (false≢true on)
    late (Finish g) k on q =
        omega (arith, is, quiet_set fs f events k (subst (λ (v : ℕ). is_quiet (slice_get (set fs f events) v) k ≡ true) (sym (eqb-true f g on)) q))

-- an event of no place
pub no_place : (e : WorldEvent) → ((n : ℕ) (s : Step) → e ≡ world.Phaser n s → ⊥) → ((f : ℕ) (a : FinishEvent) → e ≡ world.Finish f a → ⊥)
    → (at : Place) → is_at at e ≡ false
no_place (world.Phaser n s) h k at = absurd (h n s refl)
no_place (world.Finish f a) h k at = absurd (k f a refl)
no_place (Begin t b) h k (Phaser n) = refl
no_place (Begin t b) h k (Finish f) = refl
no_place (Refuse t a x) h k (Phaser n) = refl
no_place (Refuse t a x) h k (Finish f) = refl
no_place (Fail t x) h k (Phaser n) = refl
no_place (Fail t x) h k (Finish f) = refl

pub other_marked : (l : Limits) (w : List WorldEvent) (e : WorldEvent) (u : ℕ) (last : Place → Option ℕ) (note : ℕ → Option Note)
    → ((at : Place) → is_at at e ≡ false) → StandBy l w last note → note u ≡ None → actor w e ≡ u → StandBy l (e ∷ w) last note
other_marked l w e u last note off stand none mine =
    stand_more l w e u last last note stand none mine (λ at x. refl) (λ at k on q. absurd (true≢false (sym on ∙ off at)))

-- ---- with the record of the run

-- a record is as long as its history
pub long_as : (l : Limits) (w : List WorldEvent) (r : Record) → Records l w r.world r.trace → length r.trace.events ≡ length w
long_as l w r st =
    let es = reverse r.trace.events in
    sym (length-reverse r.trace.events) ∙ (sym (length-map es (λ (e : Entry). event_of e.1)) ∙ ap (λ (v : List WorldEvent). length v) st.traced.is)

-- an event that is made, and one that isn't
pub kept_made : (l : Limits) (w : List WorldEvent) (e : WorldEvent) (r : Record) (notes : Notes) → is_made (reply l w e) ≡ true
    → Records l (after w e (reply l w e)) r.world r.trace → (length r.trace.events ≡ length w + 1 → NotesStand l (e ∷ w) notes)
    → Kept l (after w e (reply l w e)) r notes
kept_made l w e r notes made rec stand =
    let same : after w e (reply l w e) ≡ e ∷ w = rw made refl in
    let now : Records l (e ∷ w) r.world r.trace = subst (λ (v : List WorldEvent). Records l v r.world r.trace) same rec in
    subst (λ (v : List WorldEvent). Kept l v r notes) (sym same) (record { recorded = now; noted = stand (omega (arith, long_as l (e ∷ w) r now)) })

pub kept_unmade : (l : Limits) (w : List WorldEvent) (e : WorldEvent) (r : Record) (notes : Notes) → is_made (reply l w e) ≡ false
    → Records l (after w e (reply l w e)) r.world r.trace → NotesStand l w notes → Kept l (after w e (reply l w e)) r notes
kept_unmade l w e r notes unmade rec stand =
    record { recorded = rec; noted = subst (λ (v : List WorldEvent). NotesStand l v notes) (sym (rw unmade refl)) stand }

-- where the event wasn't yet made, the task may be noted
pub noted_after : (l : Limits) (w : List WorldEvent) (e : WorldEvent) (r : Record) (notes new : Notes) → outcome.Waits ≡ outcome_of (reply l w e)
    → Kept l (after w e (reply l w e)) r notes → (NotesStand l w notes → length r.trace.events ≡ length w → NotesStand l w new)
    → Kept l (after w e (reply l w e)) r new
noted_after l w e r notes new waits kept hold =
    let same : after w e (reply l w e) ≡ w = ap (λ (x : Result Reply Refusal). after w e x) (is_waiting (reply l w e) waits) in
    let now : Kept l w r notes = subst (λ (v : List WorldEvent). Kept l v r notes) same kept in
    subst (λ (v : List WorldEvent). Kept l v r new) (sym same) (record { recorded = now.recorded; noted = hold now.noted (long_as l w r now.recorded) })
