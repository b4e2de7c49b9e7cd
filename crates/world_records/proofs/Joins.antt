-- What a step leaves of the lines of other tasks, and the innermost finish as a line says it.
use Rattle.std.proofs.Common.{◌≡◌, ℕ, ◌==◌, Bool, false, min, cond, List, [], ◌∷◌, Option, refl, sym, ap, ◌∙◌}
use Rattle.std.specs.Prelude.{filter, unwrap_or, slice_index_or}
use Rattle.phase_modes.specs.Lists.{is_empty}
use Rattle.world_model.specs.declared.event.Step.{Step}
use Rattle.world_model.specs.declared.event.WorldEvent.{WorldEvent}
use Rattle.world_model.specs.declared.event.WorldEvent.TheVariants.{Phaser}
use Rattle.world_records.specs.TaskState.{TaskState}
use Rattle.world_model.specs.Tasks.{phasers_of, acts}
use Rattle.world_model.specs.Scopes.{open_finishes, inner}
use Rattle.world_records.specs.Kept.{inner_at}
use Rattle.world_model.specs.Actors.{actor}
use Rattle.world_records.specs.StandsFor.{TaskStands, IsChain}
use Rattle.world_model.proofs.OthersLeave.{due_other, clock_other}

pub filter_same : (p q : ℕ → Bool) (xs : List ℕ) → ((n : ℕ) → p n ≡ q n) → filter p xs ≡ filter q xs
filter_same p q [] e = refl
filter_same p q (x ∷ xs) e =
    let rest : filter p xs ≡ filter q xs = filter_same p q xs e in
    rw (e x) (ap (λ ys. cond (q x) (x ∷ ys) ys) rest)

-- the innermost open finish, read off a line
pub inner_by : (outers : List (Option ℕ)) (top : Option ℕ) (fs : List ℕ) (h : ℕ) → IsChain outers top fs → unwrap_or top h ≡ slice_index_or fs 0 h
inner_by outers top [] h c = ap (λ o. unwrap_or o h) c
inner_by outers top (f ∷ fs) h c = ap (λ o. unwrap_or o h) c.0

pub inner_is : (outers : List (Option ℕ)) (w : List WorldEvent) (t : ℕ) (k : TaskState) → TaskStands outers w t k → inner_at k ≡ inner t w
inner_is outers w t k st = inner_by outers k.innermost (open_finishes t w) k.home st.chain ∙ ap (λ h. slice_index_or (open_finishes t w) 0 h) st.home

-- the step is one of another task, and leaves it on its phasers
pub other_stands : (outers : List (Option ℕ)) (w : List WorldEvent) (t n : ℕ) (k : TaskState) (s : Step) → (actor w (Phaser n s) == t) ≡ false
    → phasers_of t (Phaser n s ∷ w) ≡ phasers_of t w → acts t (Phaser n s ∷ w) ≡ acts t w → TaskStands outers w t k → TaskStands outers (Phaser n s ∷ w) t k
other_stands outers w t n k s other phasers counted st = record {
  due_is = due_other t (Phaser n s) w other ∙ st.due_is;
  idle = st.idle ∙ ap (λ ds. is_empty ds) (sym (due_other t (Phaser n s) w other));
  plan = st.plan;
  left = st.left;
  chain = st.chain;
  phasers = st.phasers ∙ sym phasers;
  clock = st.clock ∙ ap (λ c. min c 4294967295) (sym (clock_other t (Phaser n s) w other refl));
  acts = st.acts ∙ sym counted;
  home = st.home;
  spawner = st.spawner;
  named = st.named;
  born = st.born;
  ended = st.ended;
  refused = st.refused;
}
