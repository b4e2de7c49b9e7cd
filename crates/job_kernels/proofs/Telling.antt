-- What each event of a history in which tasks go by a body says of its task, and what it leaves of others.
use Rattle.std.proofs.Common.{◌≡◌, ℕ, Bool, true, false, ◌==◌, cond, List, ◌∷◌, Some, None, refl}
use Rattle.std.proofs.lemmas.Bool.{eq-eqb, true≢false}
use Rattle.phase_modes.specs.declared.limits.Limits.{Limits}
use Rattle.finish_core.specs.declared.event.FinishEvent.TheVariants.{Opened}
use Rattle.job_script.specs.declared.act.Answer.{Answer}
use Rattle.world_model.specs.declared.event.Step.TheVariants.{Make, Send, Look}
use Rattle.world_model.specs.declared.event.Begun.{Begun}
use Rattle.world_model.specs.declared.event.Begun.TheVariants.{Next}
use Rattle.world_model.specs.declared.event.Tried.{Tried}
use Rattle.world_model.specs.declared.event.Tried.TheVariants.{Begun as Beginning, New, Open, Send as Sending, Look as Looking}
use Rattle.world_model.specs.declared.event.WorldEvent.{WorldEvent}
use Rattle.world_model.specs.declared.event.WorldEvent.TheVariants.{Phaser, Finish, Begin, Refuse, Fail}
use Rattle.world_model.specs.Report.{refused_by}
use Rattle.world_model.specs.TaskConditions.{last_entry}
use Rattle.world_model.proofs.MadeMeans.{last_accepted}
use Rattle.trace_walk.specs.Scripts.{act_of, is_of, parent_by}
use Rattle.job_kernels.specs.Tasks.{Does}
use Rattle.trace_walk.specs.Going.{does}
use Rattle.job_kernels.proofs.Goes.{GoesSmoothly}
use Rattle.job_kernels.proofs.Plain.{turns}

-- the event that is this act
abbrev pub event_by : ℕ → Tried → WorldEvent
event_by t (Beginning b) = Begin t b
event_by t (New n m terms) = Phaser n (Make t m terms)
event_by t (Open f) = Finish f (Opened t)
event_by t (Sending n a v) = Phaser n (Send t a v)
event_by t (Looking n a) = Phaser n (Look t a)

-- ---- the rest of a smooth history

abbrev pub is_refusal : WorldEvent → Bool
is_refusal (Refuse u a x) = true
is_refusal (Fail u x) = true
is_refusal _ = false

last_is_none : (u x : ℕ) (w : List WorldEvent) → cond (u == u) (Some x) (refused_by u w) ≡ None → ⊥
last_is_none u x w h = some_none (rw (eq-eqb u u refl) at h)
  where
    some_none : Some x ≡ None → ⊥
    some_none h = cc

module _ {B : Type 0} (next : Answer → B → Does B) (root : B) (l : Limits) where
  -- nobody was refused last
  pub last_unrefused : (e : WorldEvent) (w : List WorldEvent) → GoesSmoothly next root l (e ∷ w)
      → is_refusal e ≡ false
  last_unrefused (Refuse u a x) w k = absurd (last_is_none u x w (k.unrefused u))
  last_unrefused (Fail u x) w k = absurd (last_is_none u x w (k.unrefused u))
  last_unrefused e w k = refl

  none_before : (t : ℕ) (e : WorldEvent) (w : List WorldEvent) → is_refusal e ≡ false
      → refused_by t (e ∷ w) ≡ None
      → refused_by t w ≡ None
  none_before t (Refuse u a x) w r h = absurd (true≢false r)
  none_before t (Fail u x) w r h = absurd (true≢false r)
  none_before t e w r h = h

  pub smooth_before : (e : WorldEvent) (w : List WorldEvent) → GoesSmoothly next root l (e ∷ w)
      → GoesSmoothly next root l w
  smooth_before e w k =
      record {
        legal = (last_accepted l e w k.legal).1;
        goes = k.goes.1;
        unrefused = λ t. none_before t e w (last_unrefused e w k) (k.unrefused t);
      }

-- ---- what an event leaves of a task whose act it isn't

pub record IsSame {B : Type 0} (next : Answer → B → Does B) (root : B) (c : ℕ) (e : WorldEvent)
    (w : List WorldEvent) : Type 0 where
  pub does_same : does next root (e ∷ w) c ≡ does next root w c
  pub turned : turns c (e ∷ w) ≡ turns c w
  pub last : last_entry c (e ∷ w) ≡ last_entry c w

begun_turns : (c u : ℕ) (b : Begun) (w : List WorldEvent) → (u == c) ≡ false
    → turns c (Begin u b ∷ w) ≡ turns c w
begun_turns c u Next w o = rw o refl
begun_turns c u b w o = refl

pub same : {B : Type 0} (next : Answer → B → Does B) (root : B) (c : ℕ) (e : WorldEvent) (w : List WorldEvent)
    → is_refusal e ≡ false → is_of c (act_of e) ≡ false → parent_by c e ≡ None → IsSame next root c e w
same next root c (Phaser n (Make u m terms)) w r o p =
    record { does_same = rw o refl; turned = refl; last = refl }
same next root c (Phaser n (Send u a v)) w r o p =
    record { does_same = rw o refl; turned = refl; last = refl }
same next root c (Phaser n (Look u a)) w r o p =
    record { does_same = rw o refl; turned = refl; last = refl }
same next root c (Phaser n s) w r o p =
    record { does_same = refl; turned = refl; last = refl }
same next root c (Finish f (Opened u)) w r o p =
    record { does_same = rw o refl; turned = refl; last = refl }
same next root c (Finish f s) w r o p =
    record { does_same = refl; turned = refl; last = refl }
same next root c (Begin u b) w r o p =
    record { does_same = rw (p, o) refl; turned = begun_turns c u b w o; last = rw o refl }
same next root c (Refuse u a x) w r o p = absurd (true≢false r)
same next root c (Fail u x) w r o p = absurd (true≢false r)
