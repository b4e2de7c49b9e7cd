-- A task makes a phaser: it holds that last.
use Rattle.std.proofs.Common.{◌≡◌, ℕ, ◌==◌, true, false, cond, List, [], ◌∷◌, ◌++◌, map, refl, sym, ap, subst, ◌∙◌}
use Rattle.std.specs.Prelude.{slice_index_or}
use Rattle.std.proofs.lemmas.Bool.{eqb-true, true≢false, false_from_ne_true, and_right}
use Rattle.phase_modes.specs.Mode.{can_signal}
use Rattle.phase_model.specs.Tasks.{is_live, is_registered}
use Rattle.phase_model.proofs.LiveTasks.{has}
use Rattle.world_model.specs.declared.event.Step.TheVariants.{Make}
use Rattle.world_model.specs.declared.event.Tried.TheVariants.{New}
use Rattle.world_model.specs.declared.event.WorldEvent.{WorldEvent}
use Rattle.world_model.specs.declared.event.WorldEvent.TheVariants.{Phaser}
use Rattle.world_model.specs.Parts.{phaser_past}
use Rattle.world_model.specs.Scopes.{inner}
use Rattle.world_model.specs.Tasks.{phasers_of, home}
use Rattle.world_model.proofs.AbleComputed.{idle_in_act}
use Rattle.world_model.proofs.MadeMeans.{last_accepted}
use Rattle.world_model.proofs.NewlyJoined.{own_joined}
use Rattle.world_model.proofs.PhasersLegal.{new_past}
use Rattle.world_model.proofs.PhasersOnce.{joins, joined_once}
use Rattle.world_model.proofs.SmallWords.{eq_self}
use Rattle.world_model.proofs.TurnsStand.{listed_live}
use Rattle.task_standing.specs.Known.{Known}
use Rattle.task_standing.specs.Standing.{inner_of}
use Rattle.task_standing.specs.Histories.{held_in, IsOf}
use Rattle.task_standing.specs.Laws.{MakingsHold}
use Rattle.task_standing.proofs.Alike.{one_act_more, idle_after}
use Rattle.task_standing.proofs.Kept.{map_same}

pub map_last : {X : Type 0} (f : ℕ → X) (xs : List ℕ) (y : ℕ) → map f (xs ++ y ∷ []) ≡ map f xs ++ f y ∷ []
map_last f [] y = refl
map_last f (x ∷ xs) y = ap (λ zs. f x ∷ zs) (map_last f xs y)

-- what a task knows to be its innermost finish
pub inner_is : (w : List WorldEvent) (k : Known) → IsOf w k → inner k.number w ≡ inner_of k
inner_is w k st =
    ap (λ fs. slice_index_or fs 0 (home k.number w)) (sym st.finishes)
    ∙ ap (λ h. slice_index_or k.finishes 0 h) (sym st.home)

pub makings_hold : MakingsHold
makings_hold l w k n m terms fit legal st =
    let t = k.number in
    let e = Phaser n (Make t m terms) in
    let a = last_accepted l e w legal in
    let new : phaser_past n w ≡ [] = new_past l w n t m terms a.0 in
    let none : joins t n w ≡ 0 = joined_once l w a.1 t n ∙ ap (λ h. cond (is_registered t h) 1 0) new in
    let joined : phasers_of t (e ∷ w) ≡ phasers_of t w ++ n ∷ [] =
    own_joined t n (Make t m terms) w (rw (eq_self t) refl) (rw (eq_self n, eq_self t, new) refl) none in
    let elsewhere : (i : ℕ) → has i (phasers_of t w) ≡ true → (n == i) ≡ false =
    λ i h. false_from_ne_true (n == i) (λ s.
    let live = listed_live l t w a.1 i h in
    let past : phaser_past i w ≡ [] = subst (λ v. phaser_past v w ≡ []) (eqb-true n i s) new in
    true≢false (sym live ∙ ap (λ h. is_live t h) past)) in
    let kept : (i : ℕ) → has i (phasers_of t w) ≡ true → held_in w t i ≡ held_in (e ∷ w) t i =
    λ i h. rw (elsewhere i h) refl in
    let here : held_in (e ∷ w) t n ≡ record { phaser = n; finish = inner t w; mode = m; ahead = false } =
    rw (eq_self n, eq_self t, and_right (can_signal m) false refl) refl in
    let before : map (held_in w t) (phasers_of t w) ≡ map (held_in (e ∷ w) t) (phasers_of t w) =
    map_same (held_in w t) (held_in (e ∷ w) t) (phasers_of t w) kept in
    record {
      of = record {
        holding =
            ap (λ hs. hs ++ record { phaser = n; finish = inner_of k; mode = m; ahead = false } ∷ []) (st.of.holding ∙ before)
            ∙ (ap (λ f. map (held_in (e ∷ w) t) (phasers_of t w) ++ record { phaser = n; finish = f; mode = m; ahead = false } ∷ []) (sym (inner_is w k st.of))
            ∙ (ap (λ h. map (held_in (e ∷ w) t) (phasers_of t w) ++ h ∷ []) (sym here)
            ∙ (sym (map_last (held_in (e ∷ w) t) (phasers_of t w) n)
            ∙ ap (λ ns. map (held_in (e ∷ w) t) ns) (sym joined))));
        finishes = st.of.finishes;
        home = st.of.home;
        acts = one_act_more l e w k fit legal (eq_self t) st.of;
      };
      due_is = idle_after t e w (idle_in_act l w t (New n m terms) a.0) refl (eq_self t) refl;
    }
