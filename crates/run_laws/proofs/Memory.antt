-- Beside one whole run in which nobody is refused: no history of a phaser is ever full, and where the run is roomy
-- want of memory is all that luck decides.
use Rattle.std.proofs.Common.{◌≡◌, ℕ, Bool, true, false, ◌&&◌, ◌||◌, ◌==◌, not, cond, List, [], ◌∷◌, Some, refl, sym, subst, ap, ◌∙◌, inl, inr}
use Rattle.std.specs.Prelude.{Result, Err}
use Rattle.std.specs.Option.{option_map_or}
use Rattle.std.proofs.lemmas.Bool.{and_parts, and_from, or_cases, or_left, or_right, eqb-true, true≢false, false≢true}
use Rattle.phase_modes.specs.declared.limits.Limits.{Limits}
use Rattle.phase_modes.specs.declared.refusal.Refusal.{Refusal}
use Rattle.phase_modes.specs.declared.refusal.Refusal.TheVariants.{NotNow}
use Rattle.phase_model.specs.declared.history.Event.TheVariants as events
use Rattle.phase_model.specs.Rules.{is_permitted}
use Rattle.phase_model.proofs.Reserves.{claim_has_room, did_has_room}
use Rattle.finish_core.specs.declared.event.FinishEvent.TheVariants.{Opened}
use Rattle.job_script.specs.declared.act.Answer.{Answer}
use Rattle.world_model.specs.declared.event.Step.{Step}
use Rattle.world_model.specs.declared.event.Step.TheVariants.{Make, Reg, Sig, Claim, Did, Pass, Send, Look, Drop}
use Rattle.world_model.specs.declared.event.Tried.{Tried}
use Rattle.world_model.specs.declared.event.Tried.TheVariants.{Begun as Beginning, New, Open, Send as Sending, Look as Looking}
use Rattle.world_model.specs.declared.event.WorldEvent.{WorldEvent}
use Rattle.world_model.specs.declared.event.WorldEvent.TheVariants.{Phaser, Finish, Begin, Refuse, Fail}
use Rattle.world_model.specs.declared.reply.Reply.{Reply}
use Rattle.world_model.specs.Actors.{actor}
use Rattle.world_model.specs.Acts.{act_done, act_reply}
use Rattle.world_model.specs.Continuing.{same_event, next_done}
use Rattle.world_model.specs.Due.{next_event, or_single, is_of_single}
use Rattle.world_model.specs.GivingUp.{is_refused_by, is_reg, may_fail, may_refuse}
use Rattle.world_model.specs.PartReplies.{call_for, phaser_reply}
use Rattle.world_model.specs.Parts.{phaser_past, terms_of, event_for}
use Rattle.world_model.specs.Replies.{is_accepted, is_legal_world, reply}
use Rattle.world_model.specs.Tasks.{is_ended}
use Rattle.world_model.proofs.AbleComputed.{made_done_where, found, refuse_idle}
use Rattle.world_model.proofs.LeaversNeverFail.{finish_never_fails}
use Rattle.world_model.proofs.MadeMeans.{last_accepted}
use Rattle.world_model.proofs.PhasersLegal.{phasers_legal}
use Rattle.trace_walk.specs.Going.{is_next, goes_by}
use Rattle.trace_walk.specs.Walking.{Does}
use Rattle.trace_walk.specs.Scripts.{Numbers, act_of}
use Rattle.run_laws.specs.Telling.{Told, draws_next, draws_by}
use Rattle.run_laws.specs.Memory.{HistoriesAlwaysFit, MemoryIsAllLuck, leaves_history_room, is_roomy, is_next_refused, is_forced, has_memory}
use Rattle.run_laws.proofs.Failures.{due_of, next_due, failures_are_of_room}
use Rattle.run_laws.proofs.Fits.{fits, registers_fit}
use Rattle.run_laws.proofs.Fulls.{IsFull, phaser_full, act_full, regs_full}
use Rattle.run_laws.proofs.Main.{IsNextOf}
use Rattle.run_laws.proofs.NextEvents.{IsGoing, event_by, going}
use Rattle.run_laws.proofs.Others.{is_refusal}
use Rattle.run_laws.proofs.Refusals.{next_act, refusals_are_of_room}
use Rattle.run_laws.proofs.Reports.{runs_come_to_the_same}
use Rattle.run_laws.proofs.Rooms.{calm_unrefused}
use Rattle.run_laws.proofs.Twins.{is_calm}

refused_where : (n : ℕ) (b : Bool) (r : Result Reply Refusal) → (22 == n) ≡ false
    → is_refused_by n (cond b r (Err NotNow)) ≡ true → is_refused_by n r ≡ true
refused_where n true r other k = k
refused_where n false r other k = absurd (false≢true (sym other ∙ k))

module _ {B : Type 0} (next : Answer → B → Does B) (root : B) (names : ℕ → List Told → Numbers) (l : Limits)
    (v : List WorldEvent) (going_v : IsGoing next root names l v) (over : is_ended 0 v ≡ true)
    (w : List WorldEvent) (going_w : IsGoing next root names l w) (t : ℕ) where
  -- what is allowed but for room, and made in the run, isn't the task's next event there
  never_full : (f : IsNextOf next root names l t w v) (n : ℕ) (s : Step) → f.event ≡ Phaser n s
      → IsFull l (terms_of n w) (phaser_past n w) (event_for (terms_of n w) (phaser_past n w) s) → ⊥
  never_full f n s is full =
      true≢false (sym (fits next root names l v going_v over w going_w t f n s is
      (event_for (terms_of n w) (phaser_past n w) s) refl full.permitted) ∙ full.full)

  act_fits : (f : IsNextOf next root names l t w v) (a : Tried) → f.event ≡ event_by t a
      → is_refused_by 15 (act_done l w t a) ≡ true → ⊥
  act_fits f (Beginning b) is k = false≢true k
  act_fits f (Open g) is k = false≢true (sym (finish_never_fails l w g (Opened t) 15 refl) ∙ k)
  act_fits f (New n m terms) is k =
      never_full f n (Make t m terms) is (phaser_full l n w (call_for (Make t m terms)) refl k)
  act_fits f (Sending n a x) is k =
      never_full f n (Send t a x) is (phaser_full l n w (call_for (Send t a x)) refl k)
  act_fits f (Looking n a) is k =
      never_full f n (Look t a) is (phaser_full l n w (call_for (Look t a)) refl k)

  -- so no act is refused
  pub no_act_refused : (a : Tried) (n : ℕ) → is_accepted l w (Refuse t a n) ≡ true
      → is_next next root w (Some (record { task = t; act = a })) ≡ true
      → draws_next names w (Some (record { task = t; act = a })) ≡ true → ⊥
  no_act_refused a n m goes draws =
      let is : n ≡ 15 = refusals_are_of_room next root names l v going_v over w going_w t a n m goes draws in
      let refused : may_refuse l w t a n ≡ true = made_done_where (may_refuse l w t a n) m in
      let p = and_parts (is_refused_by n (act_reply l w t a) && not (n == 22)) (not (n == 23)) refused in
      let q = and_parts (is_refused_by n (act_reply l w t a)) (not (n == 22)) p.0 in
      let f =
      next_act next root names l v going_v over w going_w t a (refuse_idle l w t a n refused) goes draws in
      act_fits f.0 a f.1 (act_full l w t a (subst (λ i. is_refused_by i (act_reply l w t a) ≡ true) is q.0))

  -- ---- what continues an act

  -- a pass, or the claim or the report that comes first
  pass_fits : (f : IsNextOf next root names l t w v) (n u : ℕ) → f.event ≡ Phaser n (Pass u)
      → (a b : Bool) → is_permitted l (terms_of n w) (phaser_past n w) (events.Claim u) ≡ a
      → is_refused_by 15
      (next_done l w (cond a (Phaser n (Claim u)) (cond b (Phaser n (Did u)) (Phaser n (Pass u))))) ≡ true
      → ⊥
  pass_fits f n u is true b e k =
      let h = phaser_past n w in
      let full : IsFull l (terms_of n w) h (events.Claim u) =
      subst (λ c. IsFull l (terms_of n w) h (cond c (events.Claim u) (events.Pass u))) e
      (phaser_full l n w (call_for (Claim u)) refl k) in
      true≢false (sym (claim_has_room l (terms_of n w) h (phasers_legal l w going_w.legal n) u full.permitted)
      ∙ full.full)
  pass_fits f n u is false true e k =
      let h = phaser_past n w in
      let full = phaser_full l n w (call_for (Did u)) refl k in
      true≢false (sym (did_has_room l (terms_of n w) h (phasers_legal l w going_w.legal n) u full.permitted)
      ∙ full.full)
  pass_fits f n u is false false e k =
      let h = phaser_past n w in
      never_full f n (Pass u) is
      (subst (λ c. IsFull l (terms_of n w) h (cond c (events.Claim u) (events.Pass u))) e
      (phaser_full l n w (call_for (Pass u)) refl k))

  single_is_not : (f : IsNextOf next root names l t w v) (d : WorldEvent) → f.event ≡ d
      → is_of_single d ≡ true → ⊥
  single_is_not f d is k = true≢false (sym k ∙ (ap (λ e. is_of_single e) (sym is) ∙ f.plain))

  first_fits : (f : IsNextOf next root names l t w v) (x : WorldEvent) → f.event ≡ x
      → is_refused_by 15 (next_done l w (or_single l w x)) ≡ true → ⊥
  first_fits f (Phaser n (Pass u)) is k =
      pass_fits f n u is (is_permitted l (terms_of n w) (phaser_past n w) (events.Claim u))
      (is_permitted l (terms_of n w) (phaser_past n w) (events.Did u)) refl k
  first_fits f (Phaser n (Claim u)) is k = single_is_not f (Phaser n (Claim u)) is refl
  first_fits f (Phaser n (Did u)) is k = single_is_not f (Phaser n (Did u)) is refl
  first_fits f (Phaser n (Make u m terms)) is k =
      never_full f n (Make u m terms) is (phaser_full l n w (call_for (Make u m terms)) refl k)
  first_fits f (Phaser n (Reg q u m)) is k =
      never_full f n (Reg q u m) is (phaser_full l n w (call_for (Reg q u m)) refl k)
  first_fits f (Phaser n (Sig u x)) is k =
      never_full f n (Sig u x) is (phaser_full l n w (call_for (Sig u x)) refl k)
  first_fits f (Phaser n (Send u a x)) is k =
      never_full f n (Send u a x) is (phaser_full l n w (call_for (Send u a x)) refl k)
  first_fits f (Phaser n (Look u a)) is k =
      never_full f n (Look u a) is (phaser_full l n w (call_for (Look u a)) refl k)
  first_fits f (Phaser n (Drop u)) is k =
      never_full f n (Drop u) is (phaser_full l n w (call_for (Drop u)) refl k)
  first_fits f (Finish g e) is k = false≢true (sym (finish_never_fails l w g e 15 refl) ∙ k)
  first_fits f (Begin u b) is k = false≢true k
  first_fits f (Refuse u b n) is k = false≢true k
  first_fits f (Fail u n) is k = false≢true k

  -- so nobody gives up since a history is full
  no_full_history : is_accepted l w (Fail t 15) ≡ true → ⊥
  no_full_history m =
      let may : may_fail l w t 15 ≡ true = made_done_where (may_fail l w t 15) m in
      let refused = option_map_or (λ e. is_refused_by 15 (next_done l w e)) (next_event l t w) false in
      elim (or_cases (refused || false) false may) [
        | inl x ↦
            elim (or_cases refused false x) [
              | inl y ↦
                  let d = found (λ e. is_refused_by 15 (next_done l w e)) (next_event l t w) y in
                  let k = due_of l t w d.0 d.1 in
                  let f = next_due next root names l v going_v over w going_w t d.0 k in
                  first_fits f.0 k.due_first (sym f.1)
                  (subst (λ e. is_refused_by 15 (next_done l w e) ≡ true) (sym k.stands) d.2)
              | inr y ↦ absurd (false≢true y)
            ]
        | inr x ↦ absurd (false≢true x)
      ]

  -- ---- registrations

  reg_fits : is_roomy l v ≡ true → (f : IsNextOf next root names l t w v) (x : WorldEvent) → f.event ≡ x
      → is_reg (or_single l w x) ≡ true → is_refused_by 14 (reply l w (or_single l w x)) ≡ true → ⊥
  reg_fits roomy f (Phaser n (Reg q c m)) is r k =
      let e = Phaser n (Reg q c m) in
      let refused : is_refused_by 14 (phaser_reply l w n (Reg q c m)) ≡ true =
      refused_where 14 (option_map_or (λ d. same_event d e) (next_event l (actor w e) w) false)
      (next_done l w e) refl k in
      true≢false
      (sym (registers_fit next root names l v going_v over w going_w t f n (Reg q c m) is refl roomy)
      ∙ regs_full l w n q c m refused)
  reg_fits roomy f (Phaser n (Pass u)) is r k =
      no_reg (is_permitted l (terms_of n w) (phaser_past n w) (events.Claim u))
      (is_permitted l (terms_of n w) (phaser_past n w) (events.Did u)) r
    where
      no_reg : (a b : Bool)
          → is_reg (cond a (Phaser n (Claim u)) (cond b (Phaser n (Did u)) (Phaser n (Pass u)))) ≡ true → ⊥
      no_reg true b h = false≢true h
      no_reg false true h = false≢true h
      no_reg false false h = false≢true h
  reg_fits roomy f (Phaser n (Make u m terms)) is r k = false≢true r
  reg_fits roomy f (Phaser n (Sig u x)) is r k = false≢true r
  reg_fits roomy f (Phaser n (Claim u)) is r k = false≢true r
  reg_fits roomy f (Phaser n (Did u)) is r k = false≢true r
  reg_fits roomy f (Phaser n (Send u a x)) is r k = false≢true r
  reg_fits roomy f (Phaser n (Look u a)) is r k = false≢true r
  reg_fits roomy f (Phaser n (Drop u)) is r k = false≢true r
  reg_fits roomy f (Finish g e) is r k = false≢true r
  reg_fits roomy f (Begin u b) is r k = false≢true r
  reg_fits roomy f (Refuse u b n) is r k = false≢true r
  reg_fits roomy f (Fail u n) is r k = false≢true r

  -- so where the run is roomy nobody is forced to give up since registrations are full
  no_full_regs : is_roomy l v ≡ true → is_accepted l w (Fail t 14) ≡ true
      → is_next_refused l w t 14 ≡ true → ⊥
  no_full_regs roomy m refused =
      let may : may_fail l w t 14 ≡ true = made_done_where (may_fail l w t 14) m in
      let reg = option_map_or is_reg (next_event l t w) false in
      let d = found (λ e. is_refused_by 14 (reply l w e)) (next_event l t w) refused in
      let k = due_of l t w d.0 d.1 in
      let f = next_due next root names l v going_v over w going_w t d.0 k in
      let is : is_reg d.0 ≡ true = subst (λ o. option_map_or is_reg o false ≡ true) d.1 (only reg may) in
      reg_fits roomy f.0 k.due_first (sym f.1) (subst (λ e. is_reg e ≡ true) (sym k.stands) is)
      (subst (λ e. is_refused_by 14 (reply l w e) ≡ true) (sym k.stands) d.2)
    where
      only : (b : Bool) → ((false || b) || false) ≡ true → b ≡ true
      only true h = refl
      only false h = absurd (false≢true h)

  -- who gives up at all
  pub gives_up : (n : ℕ) → is_accepted l w (Fail t n) ≡ true → (n == 14 || n == 23) ≡ true
  gives_up n m =
      elim (or_cases (n == 14 || n == 15) (n == 23)
      (failures_are_of_room next root names l v going_v over w going_w t n m)) [
        | inl x ↦
            elim (or_cases (n == 14) (n == 15) x) [
              | inl y ↦ or_left (n == 14) (n == 23) y
              | inr y ↦
                  absurd
                  (no_full_history (subst (λ i. is_accepted l w (Fail t i) ≡ true) (eqb-true n 15 y) m))
            ]
        | inr x ↦ or_right (n == 14) (n == 23) x
      ]

  pub no_one_gives_up : is_roomy l v ≡ true → (n : ℕ) → is_accepted l w (Fail t n) ≡ true
      → is_forced l w (Fail t n) ≡ true → ⊥
  no_one_gives_up roomy n m forced =
      elim (or_cases (n == 14) (n == 23) (gives_up n m)) [
        | inl x ↦
            let is : n ≡ 14 = eqb-true n 14 x in
            no_full_regs roomy (subst (λ i. is_accepted l w (Fail t i) ≡ true) is m)
            (subst (λ i. is_forced l w (Fail t i) ≡ true) is forced)
        | inr x ↦
            false≢true (subst (λ i. is_forced l w (Fail t i) ≡ true) (eqb-true n 23 x) forced)
      ]

-- ---- the laws

pub histories_always_fit : {B : Type 0} (next : Answer → B → Does B) → HistoriesAlwaysFit next
histories_always_fit next root names l v w e run legal goes draws none =
    by_event e (last_accepted l e w legal).0
    (and_parts (is_next next root w (act_of e)) (goes_by next root w) goes).0
    (and_parts (draws_next names w (act_of e)) (draws_by names w) draws).0
  where
    going_v : IsGoing next root names l v
    going_v = going next root names l v run.whole.smooth run.draws

    going_w : IsGoing next root names l w
    going_w =
        going next root names l w
        (record {
          legal = (last_accepted l e w legal).1;
          goes = (and_parts (is_next next root w (act_of e)) (goes_by next root w) goes).1;
          unrefused = none;
        }) (and_parts (draws_next names w (act_of e)) (draws_by names w) draws).1

    by_event : (d : WorldEvent) → is_accepted l w d ≡ true → is_next next root w (act_of d) ≡ true
        → draws_next names w (act_of d) ≡ true → leaves_history_room d ≡ true
    by_event (Refuse t a n) m g d =
        absurd (no_act_refused next root names l v going_v run.whole.ended w going_w t a n m g d)
    by_event (Fail t n) m g d = gives_up next root names l v going_v run.whole.ended w going_w t n m
    by_event (Phaser n s) m g d = refl
    by_event (Finish n s) m g d = refl
    by_event (Begin n s) m g d = refl

module _ {B : Type 0} (next : Answer → B → Does B) (root : B) (names : ℕ → List Told → Numbers) (l : Limits)
    (v : List WorldEvent) (going_v : IsGoing next root names l v) (over : is_ended 0 v ≡ true)
    (roomy : is_roomy l v ≡ true) where
  pub no_refusal_now : (e : WorldEvent) (w : List WorldEvent) → IsGoing next root names l w
      → is_accepted l w e ≡ true → is_next next root w (act_of e) ≡ true
      → draws_next names w (act_of e) ≡ true → is_forced l w e ≡ true
      → is_refusal e ≡ false
  no_refusal_now (Refuse t a n) w g m i d r =
      absurd (no_act_refused next root names l v going_v over w g t a n m i d)
  no_refusal_now (Fail t n) w g m i d r =
      absurd (no_one_gives_up next root names l v going_v over w g t roomy n m r)
  no_refusal_now (Phaser n s) w g m i d r = refl
  no_refusal_now (Finish n s) w g m i d r = refl
  no_refusal_now (Begin n s) w g m i d r = refl

  all_calm : (w : List WorldEvent) → is_legal_world l w ≡ true → goes_by next root w ≡ true
      → draws_by names w ≡ true → has_memory l w ≡ true → IsGoing next root names l w
  all_calm [] k i d r = record { legal = k; goes = i; draws = d; calm = refl }
  all_calm (e ∷ w) k i d r =
      let a = last_accepted l e w k in
      let b = and_parts (is_next next root w (act_of e)) (goes_by next root w) i in
      let c = and_parts (draws_next names w (act_of e)) (draws_by names w) d in
      let q = and_parts (is_forced l w e) (has_memory l w) r in
      let g = all_calm w a.1 b.1 c.1 q.1 in
      record {
        legal = k;
        goes = i;
        draws = d;
        calm = and_from (not (is_refusal e)) (is_calm w)
            (ap (λ x. not x) (no_refusal_now e w g a.0 b.0 c.0 q.0)) g.calm;
      }

pub memory_is_all_luck : {B : Type 0} (next : Answer → B → Does B) → MemoryIsAllLuck next
memory_is_all_luck next root names l v w run roomy k i d r =
    let g =
    all_calm next root names l v (going next root names l v run.whole.smooth run.draws) run.whole.ended roomy w
    k i d r in
    let none = calm_unrefused w g.calm in (
      none,
      λ ended. runs_come_to_the_same next root names l v w run
          (record {
            whole = record { smooth = record { legal = k; goes = i; unrefused = none }; ended = ended };
            draws = d;
          }),
    )
