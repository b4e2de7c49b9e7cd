-- A task that has ended was born, and the birth of a child is accepted.
use Rattle.std.proofs.Common.{◌≡◌, ℕ, ◌==◌, nat_lt, true, false, List, [], ◌∷◌, refl, sym, subst, ◌∙◌, inl, inr}
use Rattle.std.proofs.lemmas.Bool.{and_parts, or_cases, or_left, eqb-true, true≢false, false≢true, false_from_ne_true}
use Rattle.phase_modes.specs.declared.limits.Limits.{Limits}
use Rattle.finish_core.specs.declared.event.FinishEvent.TheVariants.{Opened, Spawned, Ended, Shut}
use Rattle.finish_core.specs.Finish.{is_open, is_spawned}
use Rattle.finish_core.proofs.Legal.{end_follows}
use Rattle.world_model.specs.declared.event.WorldEvent.{WorldEvent}
use Rattle.world_model.specs.declared.event.WorldEvent.TheVariants.{Phaser, Finish, Begin, Refuse, Fail}
use Rattle.world_model.specs.Due.{due}
use Rattle.world_model.specs.Numbers.{is_named}
use Rattle.world_model.specs.Parts.{finish_past}
use Rattle.world_model.specs.Replies.{is_accepted, is_legal_world}
use Rattle.world_model.specs.Tasks.{is_born, is_ended, ends, spawner}
use Rattle.world_model.proofs.BornWhereNamed.{born_named}
use Rattle.world_model.proofs.FinishesLegal.{event_allowed}
use Rattle.world_model.proofs.HomesOpen.{spawned_is_born}
use Rattle.world_model.proofs.MadeMeans.{last_accepted}
use Rattle.world_model.proofs.SmallWords.{eq_self}
use Rattle.world_model.proofs.SpawnedAtHome.{born_still}

-- who ends was born
ender : (l : Limits) (w : List WorldEvent) (t : ℕ) (e : WorldEvent) → is_accepted l w e ≡ true → ends t e ≡ true → is_born t w ≡ true
ender l w t (Finish f (Ended u)) a h =
    subst (λ v. is_born v w ≡ true) (eqb-true u t h)
    (spawned_is_born u f w (end_follows l.tasks (finish_past f w) u (event_allowed l w f (Ended u) a)).spawned)
ender l w t (Finish f Shut) a h = or_left (t == 0) _ (and_parts (f == 0) (t == 0) h).1
ender l w t (Finish f (Opened u)) a h = absurd (false≢true h)
ender l w t (Finish f (Spawned u)) a h = absurd (false≢true h)
ender l w t (Phaser n x) a h = absurd (false≢true h)
ender l w t (Begin u b) a h = absurd (false≢true h)
ender l w t (Refuse u b n) a h = absurd (false≢true h)
ender l w t (Fail u n) a h = absurd (false≢true h)

ended_is_born : (l : Limits) (t : ℕ) (w : List WorldEvent) → is_legal_world l w ≡ true → is_ended t w ≡ true → is_born t w ≡ true
ended_is_born l t [] k h = absurd (false≢true h)
ended_is_born l t (e ∷ w) k h =
    let a = last_accepted l e w k in
    elim (or_cases (ends t e) (is_ended t w) h) [
      | inl y ↦ born_still t e w (ender l w t e a.0 y)
      | inr y ↦ born_still t e w (ended_is_born l t w a.1 y)
    ]

-- a number that nobody has named is of no task
pub unnamed_unborn : (l : Limits) (t : ℕ) (w : List WorldEvent) → is_legal_world l w ≡ true → is_named t w ≡ false → is_born t w ≡ false
unnamed_unborn l t w k h = false_from_ne_true (is_born t w) (λ b. true≢false (sym (born_named l t w k b) ∙ h))

pub unborn_goes : (l : Limits) (t : ℕ) (w : List WorldEvent) → is_legal_world l w ≡ true → is_born t w ≡ false → is_ended t w ≡ false
unborn_goes l t w k h = false_from_ne_true (is_ended t w) (λ b. true≢false (sym (ended_is_born l t w k b) ∙ h))

pub unborn_unspawned : (f t : ℕ) (w : List WorldEvent) → is_born t w ≡ false → is_spawned t (finish_past f w) ≡ false
unborn_unspawned f t w h =
    false_from_ne_true (is_spawned t (finish_past f w)) (λ b. true≢false (sym (spawned_is_born t f w b) ∙ h))

-- the birth that is due of its spawner, in a finish that is open, is accepted
pub birth_accepted : (l : Limits) (w : List WorldEvent) (t f c : ℕ) (rest : List WorldEvent) → spawner c w ≡ t
    → due t w ≡ Finish f (Spawned c) ∷ rest → is_open (finish_past f w) ≡ true → is_spawned c (finish_past f w) ≡ false
    → nat_lt c l.tasks ≡ true → is_accepted l w (Finish f (Spawned c)) ≡ true
birth_accepted l w t f c rest by next now fresh below = rw (by, next, eq_self f, eq_self c, now, fresh, below) refl
