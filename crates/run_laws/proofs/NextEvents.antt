-- A task that is alike in two histories that go by the same bodies makes the same event next.
use Rattle.std.proofs.Common.{◌≡◌, ◌⊎◌, ℕ, true, false, ◌==◌, not, cond, List, [], ◌∷◌, map, Some, None, refl, sym, subst, ap, ◌∙◌, inl, inr}
use Rattle.std.specs.Prelude.{unwrap_or}
use Rattle.std.proofs.lemmas.Bool.{and_parts, eqb-true, eq-eqb, not-true, true≢false, false≢true}
use Rattle.phase_modes.specs.Lists.{is_empty}
use Rattle.phase_modes.specs.declared.limits.Limits.{Limits}
use Rattle.phase_modes.specs.declared.phased.Pair.{Pair}
use Rattle.phase_modes.specs.declared.reg.Mode.TheVariants.{Wait as OnlyWait}
use Rattle.phase_model.specs.Tasks.{mode_of}
use Rattle.finish_core.specs.declared.event.FinishEvent.TheVariants.{Opened}
use Rattle.job_script.specs.declared.act.Act.{Act}
use Rattle.job_script.specs.declared.act.Act.TheVariants as acts
use Rattle.job_script.specs.declared.act.Answer.{Answer}
use Rattle.world_model.specs.declared.event.Step.TheVariants.{Make, Send, Look}
use Rattle.world_model.specs.declared.event.Begun.TheVariants.{Async}
use Rattle.world_model.specs.declared.event.Tried.{Tried}
use Rattle.world_model.specs.declared.event.Tried.TheVariants.{Begun as Beginning, New, Open, Send as Sending, Look as Looking}
use Rattle.world_model.specs.declared.event.WorldEvent.{WorldEvent}
use Rattle.world_model.specs.declared.event.WorldEvent.TheVariants.{Phaser, Finish, Begin, Refuse, Fail}
use Rattle.world_model.specs.Actors.{actor}
use Rattle.world_model.specs.Drawing.{own_pairs}
use Rattle.world_model.specs.Due.{due, is_idle, is_of_single}
use Rattle.world_model.specs.Parts.{phaser_past}
use Rattle.world_model.specs.Report.{refused_by}
use Rattle.world_model.specs.Tasks.{phasers_of}
use Rattle.world_model.specs.Replies.{is_legal_world, is_accepted}
use Rattle.world_model.proofs.MadeMeans.{last_accepted, part_made}
use Rattle.world_model.proofs.AbleComputed.{idle_in_act}
use Rattle.world_model.proofs.AbruptEnds.{nothing_due}
use Rattle.world_model.proofs.DueStays.{IsFirstDue, first_is}
use Rattle.world_model.proofs.SmallWords.{head_same}
use Rattle.trace_walk.specs.Going.{does, is_next, goes_by}
use Rattle.trace_walk.specs.Walking.{Does}
use Rattle.trace_walk.specs.Scripts.{Numbers, act_of}
use Rattle.trace_walk.specs.Given.{tried_of}
use Rattle.trace_walk.specs.Follows.{drawn}
use Rattle.trace_walk.specs.Whole.{IsSmooth}
use Rattle.run_laws.specs.Telling.{Told, told, draws_as, draws_next, draws_by}
use Rattle.run_laws.proofs.Plain.{some_none}
use Rattle.run_laws.proofs.State.{IsSame}
use Rattle.run_laws.proofs.Others.{is_refusal}
use Rattle.run_laws.proofs.Own.{held_same}
use Rattle.trace_walk.proofs.SameActs.{act_is}
use Rattle.run_laws.proofs.Twins.{is_calm}

-- ---- histories that go on by bodies

pub record IsGoing {B : Type 0} (next : Answer → B → Does B) (root : B) (names : ℕ → List Told → Numbers)
    (l : Limits) (w : List WorldEvent) : Type 0 where
  pub legal : is_legal_world l w ≡ true
  pub goes : goes_by next root w ≡ true
  pub draws : draws_by names w ≡ true
  pub calm : is_calm w ≡ true

-- the last event
pub record IsLast {B : Type 0} (next : Answer → B → Does B) (root : B) (names : ℕ → List Told → Numbers)
    (l : Limits) (e : WorldEvent) (w : List WorldEvent) : Type 0 where
  pub made : is_accepted l w e ≡ true
  pub goes : is_next next root w (act_of e) ≡ true
  pub draws : draws_next names w (act_of e) ≡ true
  pub calm : is_refusal e ≡ false

last_is_none : (u x : ℕ) (w : List WorldEvent) → cond (u == u) (Some x) (refused_by u w) ≡ None → ⊥
last_is_none u x w h = some_none (rw (eq-eqb u u refl) at h)

pub none_refused : (w : List WorldEvent) → ((t : ℕ) → refused_by t w ≡ None) → is_calm w ≡ true
none_refused [] r = refl
none_refused (Refuse u a x ∷ w) r = absurd (last_is_none u x w (r u))
none_refused (Fail u x ∷ w) r = absurd (last_is_none u x w (r u))
none_refused (e ∷ w) r = none_refused w r

-- ---- acts, and what continues them

abbrev pub event_by : ℕ → Tried → WorldEvent
event_by t (Beginning b) = Begin t b
event_by t (New n m terms) = Phaser n (Make t m terms)
event_by t (Open f) = Finish f (Opened t)
event_by t (Sending n a v) = Phaser n (Send t a v)
event_by t (Looking n a) = Phaser n (Look t a)

-- the event is this act of t, which is idle
pub record IsAct (t : ℕ) (e : WorldEvent) (w : List WorldEvent) : Type 0 where
  pub act : Tried
  pub is : e ≡ event_by t act
  pub made : act_of e ≡ Some (record { task = t; act = act })
  pub idle : is_idle t w ≡ true

act_from : (u t : ℕ) (a : Tried) (w : List WorldEvent) → act_of (event_by u a) ≡ Some (record { task = u; act = a })
    → is_idle u w ≡ true → u ≡ t → IsAct t (event_by u a) w
act_from u t a w m i s =
    record {
      act = a;
      is = ap (λ x. event_by x a) s;
      made = m ∙ ap (λ (x : ℕ). Some (record { task = x; act = a })) s;
      idle = subst (λ x. is_idle x w ≡ true) s i;
    }

part_from : (l : Limits) (t : ℕ) (e : WorldEvent) (w : List WorldEvent) → IsFirstDue (actor w e) w e
    → actor w e ≡ t → IsAct t e w ⊎ IsFirstDue t w e
part_from l t e w f m = inr (subst (λ x. IsFirstDue x w e) m f)

pub kind_of : (l : Limits) (t : ℕ) (e : WorldEvent) (w : List WorldEvent) → is_accepted l w e ≡ true
    → is_refusal e ≡ false → is_of_single e ≡ false → actor w e ≡ t → IsAct t e w ⊎ IsFirstDue t w e
kind_of l t (Phaser n (Make u m terms)) w a r p s =
    inl (act_from u t (New n m terms) w refl (idle_in_act l w u (New n m terms) a) s)
kind_of l t (Phaser n (Send u c v)) w a r p s =
    inl (act_from u t (Sending n c v) w refl (idle_in_act l w u (Sending n c v) a) s)
kind_of l t (Phaser n (Look u c)) w a r p s =
    inl (act_from u t (Looking n c) w refl (idle_in_act l w u (Looking n c) a) s)
kind_of l t (Finish f (Opened u)) w a r p s =
    inl (act_from u t (Open f) w refl (idle_in_act l w u (Open f) a) s)
kind_of l t (Begin u b) w a r p s = inl (act_from u t (Beginning b) w refl (idle_in_act l w u (Beginning b) a) s)
kind_of l t (Refuse u b x) w a r p s = absurd (true≢false r)
kind_of l t (Fail u x) w a r p s = absurd (true≢false r)
kind_of l t (Phaser n q) w a r p s =
    part_from l t (Phaser n q) w (first_is l w (Phaser n q) (part_made l w (Phaser n q) a).0 p) s
kind_of l t (Finish f q) w a r p s =
    part_from l t (Finish f q) w (first_is l w (Finish f q) (part_made l w (Finish f q) a).0 p) s

-- ---- the act is fixed by what the task does next and by the numbers that it draws

draws_fixed : {B : Type 0} (own : List Pair) (new : Numbers) (d : Act B) (a : Tried)
    → a ≡ tried_of own (drawn a) d → draws_as new a ≡ true → a ≡ tried_of own new d
draws_fixed own new (acts.New m ops b) a h k =
    h ∙ ap (λ x. New x m (record { ops = ops; bound = b })) (eqb-true (drawn a).phaser new.phaser (subst (λ x. draws_as new x ≡ true) h k))
draws_fixed own new (acts.Async c ps) a h k =
    h ∙ ap (λ x. Beginning (Async x ps)) (eqb-true (drawn a).task new.task (subst (λ x. draws_as new x ≡ true) h k))
draws_fixed own new (acts.AsyncAll c) a h k =
    h ∙ ap (λ x. Beginning (Async x own)) (eqb-true (drawn a).task new.task (subst (λ x. draws_as new x ≡ true) h k))
draws_fixed own new acts.OpenFinish a h k =
    h ∙ ap (λ x. Open x) (eqb-true (drawn a).finish new.finish (subst (λ x. draws_as new x ≡ true) h k))
draws_fixed own new d a h k = h

abbrev own_pair : ℕ → List WorldEvent → ℕ → Pair
own_pair t w n = record { phaser = n; mode = unwrap_or (mode_of t (phaser_past n w)) OnlyWait }

pair_same : (t n : ℕ) (v w : List WorldEvent) → mode_of t (phaser_past n v) ≡ mode_of t (phaser_past n w)
    → own_pair t v n ≡ own_pair t w n
pair_same t n v w h = rw h refl

module _ {B : Type 0} (next : Answer → B → Does B) (root : B) (names : ℕ → List Told → Numbers) (l : Limits) where
  pub going : (w : List WorldEvent) → IsSmooth next root l w → draws_by names w ≡ true → IsGoing next root names l w
  going w s d = record { legal = s.legal; goes = s.goes; draws = d; calm = none_refused w s.unrefused }

  pub going_before : (e : WorldEvent) (w : List WorldEvent) → IsGoing next root names l (e ∷ w)
      → IsLast next root names l e w × IsGoing next root names l w
  going_before e w g =
      let a = last_accepted l e w g.legal in
      let b = and_parts (is_next next root w (act_of e)) (goes_by next root w) g.goes in
      let c = and_parts (draws_next names w (act_of e)) (draws_by names w) g.draws in
      let d = and_parts (not (is_refusal e)) (is_calm w) g.calm in (
        record { made = a.0; goes = b.0; draws = c.0; calm = not-true (is_refusal e) d.0 },
        record { legal = a.1; goes = b.1; draws = c.1; calm = d.1 },
      )

  -- the act that t makes, or is refused
  pub act_fixed_by : (t : ℕ) (a : Tried) (w : List WorldEvent)
      → is_next next root w (Some (record { task = t; act = a })) ≡ true
      → draws_next names w (Some (record { task = t; act = a })) ≡ true
      → a ≡ tried_of (own_pairs t w) (names t (told t w)) (does next root w t).0
  act_fixed_by t a w goes draws =
      draws_fixed (own_pairs t w) (names t (told t w)) (does next root w t).0 a
      (act_is a (tried_of (own_pairs t w) (drawn a) (does next root w t).0) goes) draws

  pub act_fixed : (t : ℕ) (e : WorldEvent) (w : List WorldEvent) → IsLast next root names l e w → (i : IsAct t e w)
      → i.act ≡ tried_of (own_pairs t w) (names t (told t w)) (does next root w t).0
  act_fixed t e w k i =
      act_fixed_by t i.act w (subst (λ o. is_next next root w o ≡ true) i.made k.goes)
      (subst (λ o. draws_next names w o ≡ true) i.made k.draws)

  pairs_same : (t : ℕ) (v w : List WorldEvent) → IsSame next root t v w → own_pairs t v ≡ own_pairs t w
  pairs_same t v w s =
      ap (λ ns. map (λ n. own_pair t v n) ns) (held_same next root t v w s) ∙ modes_same (phasers_of t w)
    where
      modes_same : (ns : List ℕ) → map (λ n. own_pair t v n) ns ≡ map (λ n. own_pair t w n) ns
      modes_same [] = refl
      modes_same (n ∷ ns) =
          ap (λ (p : Pair). p ∷ map (λ m. own_pair t v m) ns) (pair_same t n v w (s.on n).same.mode)
          ∙ ap (λ ps. own_pair t w n ∷ ps) (modes_same ns)

  pub body_same : (t : ℕ) (v w : List WorldEvent) → IsSame next root t v w
      → tried_of (own_pairs t v) (names t (told t v)) (does next root v t).0
      ≡ tried_of (own_pairs t w) (names t (told t w)) (does next root w t).0
  body_same t v w s =
      ap (λ ps. tried_of ps (names t (told t v)) (does next root v t).0) (pairs_same t v w s)
      ∙ (ap (λ xs. tried_of (own_pairs t w) (names t xs) (does next root v t).0) s.said
      ∙ ap (λ (d : Does B). tried_of (own_pairs t w) (names t (told t w)) d.0) s.doing)

  pub next_same : (t : ℕ) (e f : WorldEvent) (v w : List WorldEvent) → IsSame next root t v w
      → IsLast next root names l e v → IsLast next root names l f w
      → is_of_single e ≡ false → is_of_single f ≡ false → actor v e ≡ t → actor w f ≡ t → e ≡ f
  next_same t e f v w s ke kf pe pf me mf =
      by_kind (kind_of l t e v ke.made ke.calm pe me) (kind_of l t f w kf.made kf.calm pf mf)
    where
      acts_same : (i : IsAct t e v) (j : IsAct t f w) → i.act ≡ j.act
      acts_same i j =
          act_fixed t e v ke i ∙ (body_same t v w s ∙ sym (act_fixed t f w kf j))

      full : (d : WorldEvent) (ds : List WorldEvent) (xs : List WorldEvent) → xs ≡ d ∷ ds → is_empty xs ≡ true → ⊥
      full d ds xs h k = false≢true (sym (ap (λ ys. is_empty ys) h) ∙ k)

      by_kind : IsAct t e v ⊎ IsFirstDue t v e → IsAct t f w ⊎ IsFirstDue t w f → e ≡ f
      by_kind (inl i) (inl j) = i.is ∙ (ap (λ a. event_by t a) (acts_same i j) ∙ sym j.is)
      by_kind (inl i) (inr j) =
          absurd (full f j.rest (due t v) (s.waiting ∙ j.is) (nothing_due t v i.idle).0)
      by_kind (inr i) (inl j) =
          absurd (full e i.rest (due t w) (sym s.waiting ∙ i.is) (nothing_due t w j.idle).0)
      by_kind (inr i) (inr j) = head_same e f i.rest j.rest (sym i.is ∙ (s.waiting ∙ j.is))
