-- A child that was never born leaves a phaser, before its parent goes on to its end.
use Rattle.std.proofs.Common.{◌≡◌, ℕ, ◌≤◌, ◌==◌, Bool, true, false, not, List, [], ◌∷◌, ◌++◌, map, refl, sym, ap, subst, ◌∙◌}
use Rattle.std.specs.Prelude.{filter}
use Rattle.std.proofs.lemmas.Bool.{eqb-true, eq-eqb, true≢false, false_from_ne_true}
use Rattle.phase_model.specs.Tasks.{is_live}
use Rattle.world_model.specs.declared.event.Step.TheVariants.{Drop}
use Rattle.world_model.specs.declared.event.WorldEvent.{WorldEvent}
use Rattle.world_model.specs.declared.event.WorldEvent.TheVariants.{Phaser}
use Rattle.world_model.specs.Actors.{actor}
use Rattle.world_model.specs.Parts.{phaser_past}
use Rattle.world_model.specs.Tasks.{is_born, phasers_of}
use Rattle.world_model.proofs.AgentOfTask.{next_is_born}
use Rattle.world_model.proofs.MadeMeans.{last_accepted, part_made}
use Rattle.world_model.proofs.PhasersOnce.{times, phasers_once}
use Rattle.world_model.proofs.SmallWords.{cons_parts}
use Rattle.world_model.proofs.UntouchedStays.{alike, phasers_same}
use Rattle.task_standing.specs.declared.held.Held.{Held}
use Rattle.task_standing.specs.declared.plan.Plan.{Plan}
use Rattle.task_standing.specs.declared.plan.Plan.TheVariants as plan
use Rattle.task_standing.specs.Known.{Known}
use Rattle.task_standing.specs.StillToMake.{planned, planned_with, drops_of}
use Rattle.task_standing.specs.Histories.{held_in}
use Rattle.task_standing.specs.Children.{ChildrenLeave}
use Rattle.task_standing.proofs.Plain.{one_at_most, swapped}
use Rattle.task_standing.proofs.Kept.{holding_kept}
use Rattle.task_standing.proofs.Marks.{numbers, numbers_held, none_more}
use Rattle.task_standing.proofs.Starts.{starts, never_starts, signalling_not, turning_not, spawning_not, shutting_not, ending_not, Continues, continuing}
use Rattle.task_standing.proofs.Leaves.{own_gone, left_held, drop_place, keep_all}

-- the event drops c
abbrev pub drops_child : ℕ → WorldEvent → Bool
drops_child c (Phaser n (Drop t)) = t == c
drops_child c _ = false

-- the first drop of all is made, where none comes after them
drop_first : (c n : ℕ) (hs : List Held) (tail rest : List WorldEvent) → times n (numbers hs) ≤ 1
    → starts (drops_child c) tail ≡ false → drops_of c hs ++ tail ≡ Phaser n (Drop c) ∷ rest
    → drops_of c (filter (λ h. not (h.phaser == n)) hs) ++ tail ≡ rest
drop_first c n [] tail rest once none e =
    absurd (never_starts (drops_child c) tail rest (Phaser n (Drop c)) e (eq-eqb c c refl) none)
drop_first c n (h ∷ hs) tail rest once none e =
    let parts = cons_parts (Phaser h.phaser (Drop c)) (Phaser n (Drop c)) (drops_of c hs ++ tail) rest e in
    let same : (h.phaser == n) ≡ true = eq-eqb h.phaser n (drop_place h.phaser n c c parts.0) in
    let others : filter (λ h. not (h.phaser == n)) hs ≡ hs = keep_all n hs (none_more h.phaser n (numbers hs) same once) in
    rw same (ap (λ gs. drops_of c gs ++ tail) others ∙ parts.1)

module _ (child k : Known) (n : ℕ) (rest : List WorldEvent) (once : times n (numbers child.holding) ≤ 1)
    (apart : (k.number == child.number) ≡ false) where
  abbrev after : Known
  after = record child { holding = filter (λ h. not (h.phaser == n)) child.holding }

  other : (p : Plan) → planned k p ≡ Phaser n (Drop child.number) ∷ rest → starts (drops_child child.number) (planned k p) ≡ false
      → rest ≡ planned k p
  other p e s = absurd (never_starts (drops_child child.number) (planned k p) rest (Phaser n (Drop child.number)) e (eq-eqb child.number child.number refl) s)

  left_plan : (p : Plan) → planned_with child k p ≡ Phaser n (Drop child.number) ∷ rest → rest ≡ planned_with after k p
  left_plan plan.Idle e = absurd cc
  left_plan (plan.Signalling y b) e =
      other (plan.Signalling y b) e (signalling_not (drops_child child.number) k y b (λ m. refl) (λ m. refl))
  left_plan (plan.Turning next) e = other (plan.Turning next) e (turning_not (drops_child child.number) k next (λ m. refl))
  left_plan (plan.Spawning c pairs made) e =
      other (plan.Spawning c pairs made) e (spawning_not (drops_child child.number) k c pairs made (λ q. refl) (λ f. refl))
  left_plan plan.Shutting e = other plan.Shutting e (shutting_not (drops_child child.number) k (λ m. apart) (λ f. refl))
  left_plan plan.Ending e =
      sym (drop_first child.number n child.holding (planned k plan.Ending) rest once
      (ending_not (drops_child child.number) k (λ m. apart) (λ f. refl) (λ f u. refl)) e)

pub children_leave : ChildrenLeave
children_leave l w child k n legal mine un st =
    let c = child.number in
    let t = k.number in
    let e = Phaser n (Drop c) in
    let a = last_accepted l e w legal in
    let by : actor w e ≡ t = rw un.unborn mine in
    let next = (part_made l w e a.0).0 in
    let born : is_born t w ≡ true = subst (λ u. is_born u w ≡ true) by (next_is_born l w e a.1 next) in
    let apart : (c == t) ≡ false =
    false_from_ne_true (c == t) (λ s. true≢false (sym (subst (λ v. is_born v w ≡ true) (sym (eqb-true c t s)) born) ∙ un.unborn)) in
    let turned : (t == c) ≡ false = swapped c t apart in
    let d : Continues t e w = continuing l e w t by next refl refl in
    let once : times n (numbers child.holding) ≤ 1 =
    subst (λ ns. times n ns ≤ 1) (sym (ap numbers un.holding ∙ numbers_held w c (phasers_of c w)))
    (subst (λ x. x ≤ 1) (sym (phasers_once l w a.1 c n)) (one_at_most (is_live c (phaser_past n w)))) in (
      record {
        unborn = un.unborn;
        holding =
            ap (λ hs. filter (λ h. not (h.phaser == n)) hs) un.holding
            ∙ (left_held w n c (phasers_of c w)
            ∙ ap (λ ns. map (held_in (e ∷ w) c) ns) (sym (own_gone w n c)));
        finishes = un.finishes;
        acts = un.acts;
        plan = un.plan;
      },
      record {
        of = record {
          holding = st.of.holding ∙ holding_kept l e w t a.0 a.1 (phasers_same t e w apart) (λ i v. alike t i e w apart);
          finishes = st.of.finishes;
          home = st.of.home;
          acts = st.of.acts;
        };
        due_is = d.after ∙ left_plan child k n d.rest once turned k.plan (sym st.due_is ∙ d.before);
      },
    )
