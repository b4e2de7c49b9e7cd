-- A task registers its child on the phaser of the next pair.
use Rattle.std.proofs.Common.{◌≡◌, ℕ, zero, suc, ◌+◌, ◌<◌, ◌==◌, Bool, true, false, min, List, [], ◌∷◌, ◌++◌, map, drop, length, refl, sym, ap, subst, ◌∙◌, arith}
use Rattle.std.proofs.lemmas.Bool.{eqb-true, true≢false, false_from_ne_true}
use Rattle.phase_modes.specs.declared.phased.Pair.{Pair}
use Rattle.phase_modes.specs.declared.reg.Mode.{Mode}
use Rattle.finish_core.specs.declared.event.FinishEvent.TheVariants.{Spawned}
use Rattle.world_model.specs.declared.event.Step.TheVariants.{Reg}
use Rattle.world_model.specs.declared.event.WorldEvent.{WorldEvent}
use Rattle.world_model.specs.declared.event.WorldEvent.TheVariants.{Phaser, Finish}
use Rattle.world_model.specs.Tasks.{is_born}
use Rattle.world_model.proofs.AgentOfTask.{reg_unborn, next_is_born}
use Rattle.world_model.proofs.MadeMeans.{last_accepted, part_made}
use Rattle.world_model.proofs.SmallWords.{cons_parts}
use Rattle.world_model.proofs.UntouchedStays.{alike, phasers_same}
use Rattle.task_standing.specs.declared.plan.Plan.{Plan}
use Rattle.task_standing.specs.declared.plan.Plan.TheVariants as plan
use Rattle.task_standing.specs.Known.{Known}
use Rattle.task_standing.specs.Standing.{inner_of, registered_by}
use Rattle.task_standing.specs.StillToMake.{planned}
use Rattle.task_standing.specs.Laws.{NamesFew, RegistrationsRegister}
use Rattle.task_standing.proofs.Plain.{next_fits}
use Rattle.task_standing.proofs.Kept.{holding_kept}
use Rattle.task_standing.proofs.Starts.{starts, never_starts, signalling_not, turning_not, shutting_not, ending_not, Continues, continuing}

abbrev is_registering : WorldEvent → Bool
is_registering (Phaser n (Reg q t m)) = true
is_registering _ = false

-- the registrations of these pairs, and the birth
abbrev spawn_of : ℕ → ℕ → ℕ → List Pair → List WorldEvent
spawn_of t d f qs = map (λ q. Phaser q.phaser (Reg t d q.mode)) qs ++ Finish f (Spawned d) ∷ []

next_pairs : (t d f n u c : ℕ) (m : Mode) (qs : List Pair) (rest : List WorldEvent)
    → spawn_of t d f qs ≡ Phaser n (Reg u c m) ∷ rest → rest ≡ spawn_of t d f (drop 1 qs)
next_pairs t d f n u c m [] rest e = absurd cc
next_pairs t d f n u c m (q ∷ qs) rest e =
    sym (cons_parts (Phaser q.phaser (Reg t d q.mode)) (Phaser n (Reg u c m)) (spawn_of t d f qs) rest e).1

drop_one : (i : ℕ) (qs : List Pair) → drop 1 (drop i qs) ≡ drop (i + 1) qs
drop_one zero qs = refl
drop_one (suc i) [] = let e : suc i + 1 ≡ suc (i + 1) = omega arith in ap (λ j. drop j []) (sym e)
drop_one (suc i) (q ∷ qs) =
    let e : suc i + 1 ≡ suc (i + 1) = omega arith in
    drop_one i qs ∙ ap (λ j. drop j (q ∷ qs)) (sym e)

is_within : (t d f n u c : ℕ) (m : Mode) (i : ℕ) (qs : List Pair) (rest : List WorldEvent)
    → spawn_of t d f (drop i qs) ≡ Phaser n (Reg u c m) ∷ rest → i < length qs
is_within t d f n u c m zero [] rest e = absurd cc
is_within t d f n u c m (suc i) [] rest e = absurd cc
is_within t d f n u c m zero (q ∷ qs) rest e = omega arith
is_within t d f n u c m (suc i) (q ∷ qs) rest e = omega (arith, is_within t d f n u c m i qs rest e)

module _ (k : Known) (n c : ℕ) (m : Mode) (rest : List WorldEvent) where
  abbrev after : Plan → Known
  after p = record k { plan = registered_by p }

  other : (p : Plan) → planned k p ≡ Phaser n (Reg k.number c m) ∷ rest → starts is_registering (planned k p) ≡ false
      → rest ≡ planned (after p) (registered_by p)
  other p e s = absurd (never_starts is_registering (planned k p) rest (Phaser n (Reg k.number c m)) e refl s)

  registered_plan : (p : Plan) → NamesFew p → planned k p ≡ Phaser n (Reg k.number c m) ∷ rest
      → rest ≡ planned (after p) (registered_by p)
  registered_plan plan.Idle few e = absurd cc
  registered_plan (plan.Signalling y b) few e =
      other (plan.Signalling y b) e (signalling_not is_registering k y b (λ i. refl) (λ i. refl))
  registered_plan (plan.Turning next) few e = other (plan.Turning next) e (turning_not is_registering k next (λ i. refl))
  registered_plan (plan.Spawning d pairs made) few e =
      let t = k.number in
      let f = inner_of k in
      let within : made < length pairs = is_within t d f n t c m made pairs rest e in
      let small : min (made + 1) 4294967295 ≡ made + 1 = next_fits made (length pairs) within few in
      next_pairs t d f n t c m (drop made pairs) rest e
      ∙ (ap (λ qs. spawn_of t d f qs) (drop_one made pairs)
      ∙ ap (λ i. spawn_of t d f (drop i pairs)) (sym small))
  registered_plan plan.Shutting few e = other plan.Shutting e (shutting_not is_registering k (λ i. refl) (λ f. refl))
  registered_plan plan.Ending few e =
      other plan.Ending e (ending_not is_registering k (λ i. refl) (λ f. refl) (λ f u. refl))

pub registrations_register : RegistrationsRegister
registrations_register l w k n c m legal few st =
    let t = k.number in
    let e = Phaser n (Reg t c m) in
    let a = last_accepted l e w legal in
    let next = (part_made l w e a.0).0 in
    let born : is_born t w ≡ true = next_is_born l w e a.1 next in
    let untouched : (c == t) ≡ false =
    false_from_ne_true (c == t) (λ s. true≢false (sym (subst (λ v. is_born v w ≡ true) (sym (eqb-true c t s)) born)
    ∙ reg_unborn l w n t c m a.1 a.0)) in
    let d : Continues t e w = continuing l e w t refl next refl refl in
    record {
      of = record {
        holding = st.of.holding ∙ holding_kept l e w t a.0 a.1 (phasers_same t e w untouched) (λ i v. alike t i e w untouched);
        finishes = st.of.finishes;
        home = st.of.home;
        acts = st.of.acts;
      };
      due_is = d.after ∙ registered_plan k n c m d.rest k.plan few (sym st.due_is ∙ d.before);
    }
