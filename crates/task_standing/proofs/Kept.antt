-- What a task knows of its phasers, where an event leaves it alike on each of them.
use Rattle.std.proofs.Common.{◌≡◌, ℕ, true, false, ◌&&◌, ◌==◌, not, cond, List, [], ◌∷◌, map, Option, None, unwrap_or, refl, sym, ap, ◌∙◌}
use Rattle.std.specs.Prelude.{filter_map, reverse}
use Rattle.std.specs.Option.{option_map_or}
use Rattle.std.proofs.lemmas.Bool.{or_left, or_right}
use Rattle.phase_modes.specs.declared.limits.Limits.{Limits}
use Rattle.phase_modes.specs.declared.reg.Mode.{Mode}
use Rattle.phase_modes.specs.declared.reg.Mode.TheVariants.{Wait}
use Rattle.phase_modes.specs.Mode.{can_signal}
use Rattle.phase_model.specs.Tasks.{is_live, mode_of}
use Rattle.phase_model.specs.Phases.{waits, signals}
use Rattle.phase_model.proofs.Closing.{some_live}
use Rattle.phase_model.proofs.LiveTasks.{has}
use Rattle.world_model.specs.declared.event.Step.{Step}
use Rattle.world_model.specs.declared.event.WorldEvent.{WorldEvent}
use Rattle.world_model.specs.declared.event.WorldEvent.TheVariants.{Phaser}
use Rattle.world_model.specs.Parts.{phaser_past, terms_of, event_for}
use Rattle.world_model.specs.Numbers.{is_phaser}
use Rattle.world_model.specs.Scopes.{enclosing}
use Rattle.world_model.specs.Tasks as of
use Rattle.world_model.specs.Replies.{is_accepted, is_legal_world}
use Rattle.world_model.proofs.OpenFinishes.{filter_same}
use Rattle.world_model.proofs.SmallWords.{eq_self}
use Rattle.world_model.proofs.UntouchedStays.{IsAlike}
use Rattle.world_model.proofs.RegistrationsStand.{enclosing_later}
use Rattle.world_model.proofs.TurnsStand.{listed_live}
use Rattle.task_standing.specs.declared.held.Held.{Held}
use Rattle.task_standing.specs.Histories.{held_in}

-- two functions that agree on a list
pub map_same : {X : Type 0} (f g : ℕ → X) (xs : List ℕ) → ((x : ℕ) → has x xs ≡ true → f x ≡ g x) → map f xs ≡ map g xs
map_same f g [] k = refl
map_same f g (x ∷ xs) k =
    let here : f x ≡ g x = k x (or_left (x == x) (has x xs) (eq_self x)) in
    ap (λ y. y ∷ map f xs) here
    ∙ ap (λ ys. g x ∷ ys) (map_same f g xs (λ y h. k y (or_right (x == y) (has y xs) h)))

-- what is known of phaser n, by what it is made of
abbrev pub held_by : ℕ → ℕ → Option Mode → ℕ → ℕ → Held
held_by n f o s v = record {
  phaser = n;
  finish = f;
  mode = unwrap_or o Wait;
  ahead = option_map_or can_signal o false && not (s == v);
}

pub begun_where_live : (t n : ℕ) (w : List WorldEvent) → is_live t (phaser_past n w) ≡ true → is_phaser n w ≡ true
begun_where_live t n w v = ap (λ b. not b) (some_live t (phaser_past n w) v)

pub held_like : (l : Limits) (t n : ℕ) (e : WorldEvent) (w : List WorldEvent) → is_accepted l w e ≡ true
    → is_live t (phaser_past n w) ≡ true → IsAlike t (phaser_past n (e ∷ w)) (phaser_past n w)
    → held_in (e ∷ w) t n ≡ held_in w t n
held_like l t n e w a v s =
    let p = phaser_past n (e ∷ w) in
    let q = phaser_past n w in
    ap (λ f. held_by n f (mode_of t p) (signals t p) (waits t p)) (enclosing_later l n e w a (begun_where_live t n w v))
    ∙ (ap (λ o. held_by n (enclosing n w) o (signals t p) (waits t p)) s.mode
    ∙ (ap (λ x. held_by n (enclosing n w) (mode_of t q) x (waits t p)) s.signalled
    ∙ ap (λ x. held_by n (enclosing n w) (mode_of t q) (signals t q) x) s.waited))

module _ (l : Limits) (e : WorldEvent) (w : List WorldEvent) (t : ℕ) (a : is_accepted l w e ≡ true)
    (k : is_legal_world l w ≡ true) where
  -- all that it holds, where it stays on the phasers on which it was
  pub holding_kept : of.phasers_of t (e ∷ w) ≡ of.phasers_of t w
      → ((n : ℕ) → is_live t (phaser_past n w) ≡ true → IsAlike t (phaser_past n (e ∷ w)) (phaser_past n w))
      → map (held_in w t) (of.phasers_of t w) ≡ map (held_in (e ∷ w) t) (of.phasers_of t (e ∷ w))
  holding_kept ps s =
      map_same (held_in w t) (held_in (e ∷ w) t) (of.phasers_of t w) (λ n h.
      let v : is_live t (phaser_past n w) ≡ true = listed_live l t w k n h in
      sym (held_like l t n e w a v (s n v)))
      ∙ ap (λ ns. map (held_in (e ∷ w) t) ns) (sym ps)

-- where an event registers and drops nobody of a task, it is on the phasers on which it was
pub phasers_like : (t : ℕ) (e : WorldEvent) (w : List WorldEvent) → of.joined_by t e ≡ None
    → ((n : ℕ) → is_live t (phaser_past n (e ∷ w)) ≡ is_live t (phaser_past n w))
    → of.phasers_of t (e ∷ w) ≡ of.phasers_of t w
phasers_like t e w j s =
    rw j (filter_same (λ n. is_live t (phaser_past n (e ∷ w))) (λ n. is_live t (phaser_past n w))
    (reverse (filter_map (of.joined_by t) w)) (λ n h. s n))

pub live_by : (t n m : ℕ) (s : Step) (w : List WorldEvent)
    → is_live t (event_for (terms_of m w) (phaser_past m w) s ∷ phaser_past m w) ≡ is_live t (phaser_past m w)
    → is_live t (phaser_past m (Phaser n s ∷ w)) ≡ is_live t (phaser_past m w)
live_by t n m s w e =
    elim (n == m) as (λ b. is_live t (cond b (event_for (terms_of m w) (phaser_past m w) s ∷ phaser_past m w) (phaser_past m w)) ≡ is_live t (phaser_past m w)) [
      | true ↦ e
      | false ↦ refl
    ]
