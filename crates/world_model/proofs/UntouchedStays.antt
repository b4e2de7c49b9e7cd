-- What an event that isn't about a task leaves of it on every phaser.
use Rattle.std.proofs.Common.{◌≡◌, ℕ, Bool, true, false, ◌==◌, cond, List, [], ◌∷◌, refl, ap, ◌∙◌}
use Rattle.std.specs.Prelude.{filter, filter_map, reverse, None}
use Rattle.phase_modes.specs.declared.reg.Mode.{Mode}
use Rattle.phase_model.specs.declared.history.Event.{Event}
use Rattle.phase_model.specs.declared.history.Event.TheVariants.{Claim as Claimed, Did as Done}
use Rattle.phase_model.specs.Tasks.{is_registered, is_live, mode_of, has_mode}
use Rattle.phase_model.specs.Phases.{waits, signals}
use Rattle.world_model.specs.declared.event.Step.{Step}
use Rattle.world_model.specs.declared.event.Step.TheVariants.{Make, Reg, Sig, Claim, Did, Pass, Drop}
use Rattle.world_model.specs.declared.event.WorldEvent.{WorldEvent}
use Rattle.world_model.specs.declared.event.WorldEvent.TheVariants.{Phaser, Finish, Begin, Refuse, Fail}
use Rattle.world_model.specs.Parts.{terms_of, phaser_past, event_for}
use Rattle.world_model.specs.Tasks.{joined_by, phasers_of}
use Rattle.world_model.specs.Due.{is_of_single}
use Rattle.world_model.proofs.AgentOfTask.{is_about, touches}

-- what a task has in one phaser's history, alike in two histories
pub record IsAlike (t : ℕ) (g h : List Event) : Type 0 where
  pub registered : is_registered t g ≡ is_registered t h
  pub live : is_live t g ≡ is_live t h
  pub mode : mode_of t g ≡ mode_of t h
  pub waited : waits t g ≡ waits t h
  pub signalled : signals t g ≡ signals t h

pub alike_same : (t : ℕ) (h : List Event) → IsAlike t h h
alike_same t h = record { registered = refl; live = refl; mode = refl; waited = refl; signalled = refl }

-- the step of another task
alike_step : (t n : ℕ) (s : Step) (w : List WorldEvent) (h : List Event) → is_about t s ≡ false
    → IsAlike t (event_for (terms_of n w) (phaser_past n w) s ∷ h) h
alike_step t n (Make u m terms) w h k =
    record {
      registered = rw k refl;
      live = rw k refl;
      mode = rw k refl;
      waited = rw k refl;
      signalled = rw k refl;
    }
alike_step t n (Reg q u m) w h k =
    record {
      registered = rw k refl;
      live = rw k refl;
      mode = rw k refl;
      waited = rw k refl;
      signalled = rw k refl;
    }
alike_step t n (Sig u x) w h k =
    record { registered = refl; live = refl; mode = refl; waited = refl; signalled = rw k refl }
alike_step t n (Pass u) w h k =
    record { registered = refl; live = refl; mode = refl; waited = rw k refl; signalled = refl }
alike_step t n (Drop u) w h k =
    record { registered = refl; live = rw k refl; mode = refl; waited = refl; signalled = refl }
alike_step t n s w h k =
    record { registered = refl; live = refl; mode = refl; waited = refl; signalled = refl }

alike_by : (b : Bool) (t : ℕ) (e : Event) (h : List Event) → IsAlike t (e ∷ h) h
    → IsAlike t (cond b (e ∷ h) h) h
alike_by true t e h k = k
alike_by false t e h k = alike_same t h

pub alike : (t n : ℕ) (e : WorldEvent) (w : List WorldEvent) → touches t e ≡ false
    → IsAlike t (phaser_past n (e ∷ w)) (phaser_past n w)
alike t n (Phaser m s) w k =
    alike_by (m == n) t (event_for (terms_of n w) (phaser_past n w) s) (phaser_past n w)
    (alike_step t n s w (phaser_past n w) k)
alike t n (Finish f e) w k = alike_same t (phaser_past n w)
alike t n (Begin u b) w k = alike_same t (phaser_past n w)
alike t n (Refuse u a x) w k = alike_same t (phaser_past n w)
alike t n (Fail u x) w k = alike_same t (phaser_past n w)

-- a claim or a report leaves every task
pub alike_single : (t n : ℕ) (e : WorldEvent) (w : List WorldEvent) → is_of_single e ≡ true
    → IsAlike t (phaser_past n (e ∷ w)) (phaser_past n w)
alike_single t n (Phaser m (Claim u)) w k =
    alike_by (m == n) t (Claimed u) (phaser_past n w)
    (record { registered = refl; live = refl; mode = refl; waited = refl; signalled = refl })
alike_single t n (Phaser m (Did u)) w k =
    alike_by (m == n) t (Done u) (phaser_past n w)
    (record { registered = refl; live = refl; mode = refl; waited = refl; signalled = refl })
alike_single t n e w k = absurd cc

pub same_mode_test : (test : Mode → Bool) (t : ℕ) (g h : List Event) → IsAlike t g h
    → has_mode test t g ≡ has_mode test t h
same_mode_test test t g h a = rw a.mode refl

pub not_joined : (t : ℕ) (e : WorldEvent) → touches t e ≡ false → joined_by t e ≡ None
not_joined t (Phaser n (Make u m terms)) k = rw k refl
not_joined t (Phaser n (Reg q u m)) k = rw k refl
not_joined t e k = refl

filter_alike : (p q : ℕ → Bool) (xs : List ℕ) → ((x : ℕ) → p x ≡ q x) → filter p xs ≡ filter q xs
filter_alike p q [] k = refl
filter_alike p q (x ∷ xs) k =
    ap (λ b. cond b (x ∷ filter p xs) (filter p xs)) (k x)
    ∙ ap (λ ys. cond (q x) (x ∷ ys) ys) (filter_alike p q xs k)

-- the task's phasers
pub phasers_same : (t : ℕ) (e : WorldEvent) (w : List WorldEvent) → touches t e ≡ false
    → phasers_of t (e ∷ w) ≡ phasers_of t w
phasers_same t e w k =
    rw (not_joined t e k)
    (filter_alike (λ n. is_live t (phaser_past n (e ∷ w))) (λ n. is_live t (phaser_past n w))
    (reverse (filter_map (joined_by t) w)) (λ n. (alike t n e w k).live))
