-- An entry of a task's log that spawns nobody leaves every phaser, every finish and every other task as they stood.
use Rattle.std.proofs.Common.{◌≡◌, ℕ, false, ◌==◌, min, List, ◌∷◌, Option, refl, sym, ap, ◌∙◌}
use Rattle.phase_modes.specs.Lists.{is_empty}
use Rattle.world_model.specs.declared.event.Begun.{Begun}
use Rattle.world_model.specs.declared.event.Begun.TheVariants.{Async, Signal, Wait, Next, NextSingle, Shut, End}
use Rattle.world_model.specs.declared.event.WorldEvent.{WorldEvent}
use Rattle.world_model.specs.declared.event.WorldEvent.TheVariants.{Begin}
use Rattle.world_records.specs.TaskState.{TaskState}
use Rattle.world_records.specs.StandsFor.{TaskStands}
use Rattle.world_model.specs.Tasks.{spawner, acts}
use Rattle.world_model.specs.Numbers.{is_named}
use Rattle.world_model.proofs.OthersLeave.{due_other, last_other, clock_other}

-- the entries that name no child
abbrev pub IsPlain : Begun → Type 0
IsPlain (Async c pairs) = ⊥
IsPlain _ = Unit {0}

acts_other : (t u : ℕ) (b : Begun) (w : List WorldEvent) → (u == t) ≡ false → acts t (Begin u b ∷ w) ≡ acts t w
acts_other t u End w other = refl
acts_other t u (Async c pairs) w other = rw other refl
acts_other t u Signal w other = rw other refl
acts_other t u Wait w other = rw other refl
acts_other t u Next w other = rw other refl
acts_other t u (NextSingle n) w other = rw other refl
acts_other t u Shut w other = rw other refl

pub spawner_plain : (t u : ℕ) (b : Begun) (w : List WorldEvent) → IsPlain b → spawner t (Begin u b ∷ w) ≡ spawner t w
spawner_plain t u (Async c pairs) w plain = absurd plain
spawner_plain t u Signal w plain = refl
spawner_plain t u Wait w plain = refl
spawner_plain t u Next w plain = refl
spawner_plain t u (NextSingle n) w plain = refl
spawner_plain t u Shut w plain = refl
spawner_plain t u End w plain = refl

pub named_plain : (t u : ℕ) (b : Begun) (w : List WorldEvent) → IsPlain b → is_named t (Begin u b ∷ w) ≡ is_named t w
named_plain t u (Async c pairs) w plain = absurd plain
named_plain t u Signal w plain = refl
named_plain t u Wait w plain = refl
named_plain t u Next w plain = refl
named_plain t u (NextSingle n) w plain = refl
named_plain t u Shut w plain = refl
named_plain t u End w plain = refl

-- another task's line after one begins an act
pub other_begins : (outers : List (Option ℕ)) (w : List WorldEvent) (t u : ℕ) (k : TaskState) (b : Begun) → IsPlain b → (u == t) ≡ false → TaskStands outers w t k → TaskStands outers (Begin u b ∷ w) t k
other_begins outers w t u k b plain other st = record {
  due_is = due_other t (Begin u b) w other ∙ st.due_is;
  idle = st.idle ∙ ap (λ ds. is_empty ds) (sym (due_other t (Begin u b) w other));
  plan = rw (last_other t (Begin u b) w other) st.plan;
  left = st.left;
  chain = st.chain;
  phasers = st.phasers;
  clock = st.clock ∙ ap (λ c. min c 4294967295) (sym (clock_other t (Begin u b) w other refl));
  acts = st.acts ∙ sym (acts_other t u b w other);
  home = st.home;
  spawner = st.spawner ∙ sym (spawner_plain t u b w plain);
  named = st.named ∙ sym (named_plain t u b w plain);
  born = st.born;
  ended = st.ended;
  refused = st.refused;
}
