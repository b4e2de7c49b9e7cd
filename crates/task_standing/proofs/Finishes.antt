-- A task opens a finish, shuts one, and its child is born.
use Rattle.std.proofs.Common.{◌≡◌, ℕ, ◌==◌, Bool, true, false, not, cond, List, [], ◌∷◌, ◌++◌, drop, refl, sym, ap, subst, ◌∙◌, inl, inr}
use Rattle.std.specs.Prelude.{filter, slice_index_or}
use Rattle.std.proofs.lemmas.Bool.{eqb-true, eq-eqb, or_cases, true≢false, false_from_ne_true}
use Rattle.phase_modes.specs.Lists.{is_empty}
use Rattle.phase_modes.specs.declared.limits.Limits.{Limits}
use Rattle.finish_core.specs.Finish.{is_open}
use Rattle.finish_core.specs.declared.event.FinishEvent.{FinishEvent}
use Rattle.finish_core.specs.declared.event.FinishEvent.TheVariants.{Opened, Spawned, Ended, Shut as Shutting}
use Rattle.world_model.specs.declared.event.Tried.TheVariants.{Open}
use Rattle.world_model.specs.declared.event.WorldEvent.{WorldEvent}
use Rattle.world_model.specs.declared.event.WorldEvent.TheVariants.{Finish}
use Rattle.world_model.specs.Due.{due}
use Rattle.world_model.specs.Numbers.{is_finish}
use Rattle.world_model.specs.Parts.{finish_past}
use Rattle.world_model.specs.Scopes.{open_finishes, inner}
use Rattle.world_model.specs.Tasks.{home, is_born}
use Rattle.world_model.specs.TaskConditions.{last_entry}
use Rattle.world_model.specs.Replies.{is_legal_world, is_accepted}
use Rattle.world_model.proofs.AbleComputed.{idle_in_act}
use Rattle.world_model.proofs.AgentOfTask.{born_once, next_is_born}
use Rattle.world_model.proofs.BornWhereNamed.{birth}
use Rattle.world_model.proofs.LeavesAtEnds.{leave_act, shut_left, end_left}
use Rattle.world_model.proofs.LeavingList.{ends_act, last_of, shuts_of as shuts_in}
use Rattle.world_model.proofs.MadeMeans.{last_accepted, part_made}
use Rattle.world_model.proofs.OpenFinishes.{opened, opening_fresh, opened_by_owner, filter_same, shut_takes, opens_same, home_later}
use Rattle.world_model.proofs.OthersLeave.{due_own}
use Rattle.world_model.proofs.ShutterDropsFirst.{shuts_act, Shutter, shutting}
use Rattle.world_model.proofs.SmallWords.{eq_self, cons_parts}
use Rattle.task_standing.specs.declared.held.Held.{Held}
use Rattle.task_standing.specs.declared.plan.Plan.{Plan}
use Rattle.task_standing.specs.declared.plan.Plan.TheVariants as plan
use Rattle.task_standing.specs.Known.{Known}
use Rattle.task_standing.specs.Standing.{inner_of, shut_by}
use Rattle.task_standing.specs.StillToMake.{planned, drops_of, shuts_of, end_of}
use Rattle.task_standing.specs.Laws.{OpeningsOpen, ShutsShut, BirthsEndSpawns}
use Rattle.task_standing.proofs.Alike.{one_act_more, idle_after}
use Rattle.task_standing.proofs.Starts.{starts, never_starts, signalling_not, turning_not, spawning_not, Continues, continuing}

-- a finish that is opened is open, and the task's others are as they were
own_open : (l : Limits) (w : List WorldEvent) (f t : ℕ) → is_legal_world l w ≡ true
    → is_accepted l w (Finish f (Opened t)) ≡ true → open_finishes t (Finish f (Opened t) ∷ w) ≡ f ∷ open_finishes t w
own_open l w f t k a =
    let fresh : is_finish f w ≡ false = opening_fresh l w f t a in
    let here : is_open (finish_past f (Finish f (Opened t) ∷ w)) ≡ true =
    rw (eq_self f) (ap (λ h. is_open (Opened t ∷ h)) (nothing (finish_past f w) fresh)) in
    let others : filter (λ g. is_open (finish_past g (Finish f (Opened t) ∷ w))) (opened t w) ≡ open_finishes t w =
    filter_same (λ g. is_open (finish_past g (Finish f (Opened t) ∷ w))) (λ g. is_open (finish_past g w)) (opened t w) (λ g h.
    same_at g (false_from_ne_true (f == g) (λ s.
    true≢false (sym (opened_by_owner l w k t g h).begun ∙ subst (λ v. is_finish v w ≡ false) (eqb-true f g s) fresh)))) in
    rw (eq_self t)
    (ap (λ b. cond b (f ∷ filter (λ g. is_open (finish_past g (Finish f (Opened t) ∷ w))) (opened t w)) (filter (λ g. is_open (finish_past g (Finish f (Opened t) ∷ w))) (opened t w))) here
    ∙ ap (λ fs. f ∷ fs) others)
  where
    nothing : (h : List FinishEvent) → not (is_empty h) ≡ false → h ≡ []
    nothing [] e = refl
    nothing (x ∷ h) e = absurd (true≢false e)

    same_at : (g : ℕ) → (f == g) ≡ false → is_open (finish_past g (Finish f (Opened t) ∷ w)) ≡ is_open (finish_past g w)
    same_at g e = rw e refl

pub openings_open : OpeningsOpen
openings_open l w k f fit legal st =
    let t = k.number in
    let e = Finish f (Opened t) in
    let a = last_accepted l e w legal in
    record {
      of = record {
        holding = st.of.holding;
        finishes = ap (λ fs. f ∷ fs) st.of.finishes ∙ sym (own_open l w f t a.1 a.0);
        home = st.of.home;
        acts = one_act_more l e w k fit legal (eq_self t) st.of;
      };
      due_is = idle_after t e w (idle_in_act l w t (Open f) a.0) refl (eq_self t) refl;
    }

abbrev is_shutting : WorldEvent → Bool
is_shutting (Finish f Shutting) = true
is_shutting _ = false

shut_place : (f g : ℕ) → Finish f Shutting ≡ Finish g Shutting → f ≡ g
shut_place f g e = cc

-- the finish that is shut is the innermost open one of its task
record IsInnermost (t f : ℕ) (w : List WorldEvent) : Type 0 where
  outer : List ℕ
  is : open_finishes t w ≡ f ∷ outer

innermost : (l : Limits) (w : List WorldEvent) (t f : ℕ) (ds : List WorldEvent) → is_legal_world l w ≡ true → (f == 0) ≡ false
    → due t w ≡ Finish f Shutting ∷ ds → IsInnermost t f w
innermost l w t f ds k some here =
    let e = Finish f Shutting in
    elim (or_cases (ends_act (last_entry t w)) (shuts_act (last_entry t w)) (leave_act l t w ds e k here refl)) [
      | inl q ↦ from_tail (open_finishes t w) refl (end_left l t w ds e k here refl q)
      | inr q ↦
          let p : Shutter t w (e ∷ ds) = subst (λ xs. Shutter t w xs) here (shutting l t w k q) in
          from_inner (open_finishes t w) refl (p.own refl) (shut_place f (inner t w) (shut_left l t w ds e k here refl q).0)
    ]
  where
    no_root : (b : Bool) (h : ℕ) → Finish f Shutting ∷ ds ≡ cond b (Finish 0 Shutting) (Finish h (Ended t)) ∷ [] → ⊥
    no_root true h e =
        true≢false (sym (eq-eqb f 0 (shut_place f 0 (cons_parts (Finish f Shutting) (Finish 0 Shutting) ds [] e).0)) ∙ some)
    no_root false h e = absurd cc

    from_tail : (fs : List ℕ) → open_finishes t w ≡ fs → Finish f Shutting ∷ ds ≡ shuts_in fs ++ last_of t w ∷ []
        → IsInnermost t f w
    from_tail [] o e = absurd (no_root (t == 0) (home t w) e)
    from_tail (g ∷ fs) o e =
        let same = shut_place f g (cons_parts (Finish f Shutting) (Finish g Shutting) ds (shuts_in fs ++ last_of t w ∷ []) e).0 in
        record { outer = fs; is = o ∙ ap (λ i. i ∷ fs) (sym same) }

    from_inner : (fs : List ℕ) → open_finishes t w ≡ fs → is_empty (open_finishes t w) ≡ false → f ≡ inner t w → IsInnermost t f w
    from_inner [] o some e = absurd (true≢false (ap (λ gs. is_empty gs) (sym o) ∙ some))
    from_inner (g ∷ fs) o some e =
        let first : inner t w ≡ g = ap (λ gs. slice_index_or gs 0 (home t w)) o in
        record { outer = fs; is = o ∙ ap (λ i. i ∷ fs) (sym (e ∙ first)) }

no_drops : (t f : ℕ) (hs : List Held) (tail rest : List WorldEvent) → drops_of t hs ++ tail ≡ Finish f Shutting ∷ rest
    → tail ≡ Finish f Shutting ∷ rest
no_drops t f [] tail rest e = e
no_drops t f (h ∷ hs) tail rest e = absurd cc

no_holding : (t f : ℕ) (hs : List Held) (tail rest : List WorldEvent) → drops_of t hs ++ tail ≡ Finish f Shutting ∷ rest → hs ≡ []
no_holding t f [] tail rest e = refl
no_holding t f (h ∷ hs) tail rest e = absurd cc

module _ (k : Known) (f : ℕ) (fs : List ℕ) (rest : List WorldEvent) (own : k.finishes ≡ f ∷ fs) where
  abbrev after : Plan → Known
  after p = record k { plan = shut_by p; finishes = drop 1 k.finishes }

  other : (p : Plan) → planned k p ≡ Finish f Shutting ∷ rest → starts is_shutting (planned k p) ≡ false
      → rest ≡ planned (after p) (shut_by p)
  other p e s = absurd (never_starts is_shutting (planned k p) rest (Finish f Shutting) e refl s)

  shut_plan : (p : Plan) → planned k p ≡ Finish f Shutting ∷ rest → rest ≡ planned (after p) (shut_by p)
  shut_plan plan.Idle e = absurd cc
  shut_plan (plan.Signalling y b) e = other (plan.Signalling y b) e (signalling_not is_shutting k y b (λ m. refl) (λ m. refl))
  shut_plan (plan.Turning next) e = other (plan.Turning next) e (turning_not is_shutting k next (λ m. refl))
  shut_plan (plan.Spawning c pairs made) e =
      other (plan.Spawning c pairs made) e (spawning_not is_shutting k c pairs made (λ q. refl) (λ g. refl))
  shut_plan plan.Shutting e =
      let left = no_drops k.number f (filter (λ h. h.finish == inner_of k) k.holding) (Finish (inner_of k) Shutting ∷ []) rest e in
      sym (cons_parts (Finish (inner_of k) Shutting) (Finish f Shutting) [] rest left).1
  shut_plan plan.Ending e =
      let tail = shuts_of k.finishes ++ end_of k ∷ [] in
      let none : k.holding ≡ [] = no_holding k.number f k.holding tail rest e in
      let left : shuts_of (f ∷ fs) ++ end_of k ∷ [] ≡ Finish f Shutting ∷ rest =
      ap (λ gs. shuts_of gs ++ end_of k ∷ []) (sym own) ∙ no_drops k.number f k.holding tail rest e in
      sym (ap (λ hs. drops_of k.number hs ++ (shuts_of (drop 1 k.finishes) ++ end_of k ∷ [])) none
      ∙ (ap (λ gs. shuts_of (drop 1 gs) ++ end_of k ∷ []) own
      ∙ (cons_parts (Finish f Shutting) (Finish f Shutting) (shuts_of fs ++ end_of k ∷ []) rest left).1))

pub shuts_shut : ShutsShut
shuts_shut l w k f legal some mine st =
    let t = k.number in
    let e = Finish f Shutting in
    let a = last_accepted l e w legal in
    let c : Continues t e w = continuing l e w t mine (part_made l w e a.0).0 refl refl in
    let i : IsInnermost t f w = innermost l w t f c.rest a.1 some c.before in
    let own : k.finishes ≡ f ∷ i.outer = st.of.finishes ∙ i.is in
    record {
      of = record {
        holding = st.of.holding;
        finishes = ap (λ fs. drop 1 fs) own ∙ sym (shut_takes l w a.1 t f i.outer i.is);
        home = st.of.home;
        acts = st.of.acts;
      };
      due_is = c.after ∙ shut_plan k f i.outer c.rest own k.plan (sym st.due_is ∙ c.before);
    }

pub births_end_spawns : BirthsEndSpawns
births_end_spawns l w k f c legal mine st =
    let t = k.number in
    let e = Finish f (Spawned c) in
    let a = last_accepted l e w legal in
    let next = (part_made l w e a.0).0 in
    let born = subst (λ u. is_born u w ≡ true) mine (next_is_born l w e a.1 next) in
    let here : due t w ≡ e ∷ [] = ap (λ u. due u w) (sym mine) ∙ (birth l w f c a.1 a.0).1 in
    record {
      of = record {
        holding = st.of.holding;
        finishes = st.of.finishes ∙ sym (opens_same l w a.1 t e refl (λ g h. refl));
        home = st.of.home ∙ sym (home_later l w a.1 t e (born_once l w e t a.1 a.0 born));
        acts = st.of.acts;
      };
      due_is = due_own t e w refl (ap (λ u. u == t) mine ∙ eq_self t) refl ∙ ap (λ ds. drop 1 ds) here;
    }
