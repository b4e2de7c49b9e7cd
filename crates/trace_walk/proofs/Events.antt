-- Whose act an event is, and which events name a child.
use Rattle.std.proofs.Common.{ℕ, ◌≡◌, ◌≢◌, Bool, true, false, ◌==◌, if◌then◌else◌, List, Option, Some, None, refl, sym, ap, subst, ◌∙◌}
use Rattle.std.specs.Prelude.{option_map}
use Rattle.std.proofs.lemmas.Bool.{eqb-true, eq-eqb, false_from_ne_true, false≢true}
use Rattle.std.proofs.lemmas.Option.{none-some, same_Some}
use Rattle.phase_modes.specs.declared.phased.Pair.{Pair}
use Rattle.world_model.specs.declared.event.Begun.TheVariants.{Async, Signal, Wait, Next, NextSingle, Shut, End}
use Rattle.world_model.specs.declared.event.Tried.{Tried}
use Rattle.world_model.specs.declared.event.WorldEvent.{WorldEvent}
use Rattle.world_model.specs.Numbers.{names}
use Rattle.trace_walk.specs.Scripts.{Made, act_of, is_of, parent_by}
use Rattle.trace_model.specs.Explained.{event_of}
use Rattle.trace_model.specs.declared.event.TracedEvent.{TracedEvent}
use Rattle.trace_model.specs.declared.event.TracedEvent.TheVariants.{Phaser, Finish, Begin, Refuse, Fail}
use Rattle.trace_walk.specs.inner.Seats.{child_named}

-- an event that names nobody
pub record NamesNobody (e : WorldEvent) : Type 0 where
  pub parent : (u : ℕ) → parent_by u e ≡ None
  pub names : (u : ℕ) → names u e ≡ false

nobody : (e : WorldEvent) → ((u : ℕ) → parent_by u e ≡ None) → ((u : ℕ) → names u e ≡ false) → NamesNobody e
nobody e p n = record { parent = p; names = n }

pub names_nobody : (e : TracedEvent) → child_named e ≡ None → NamesNobody (event_of e)
names_nobody (Phaser n s) k = nobody (event_of (Phaser n s)) (λ u. refl) (λ u. refl)
names_nobody (Finish f e) k = nobody (event_of (Finish f e)) (λ u. refl) (λ u. refl)
names_nobody (Begin t (Async c pairs)) k = absurd cc
names_nobody (Begin t Signal) k = nobody (event_of (Begin t Signal)) (λ u. refl) (λ u. refl)
names_nobody (Begin t Wait) k = nobody (event_of (Begin t Wait)) (λ u. refl) (λ u. refl)
names_nobody (Begin t Next) k = nobody (event_of (Begin t Next)) (λ u. refl) (λ u. refl)
names_nobody (Begin t (NextSingle n)) k = nobody (event_of (Begin t (NextSingle n))) (λ u. refl) (λ u. refl)
names_nobody (Begin t Shut) k = nobody (event_of (Begin t Shut)) (λ u. refl) (λ u. refl)
names_nobody (Begin t End) k = nobody (event_of (Begin t End)) (λ u. refl) (λ u. refl)
names_nobody (Refuse t a n) k = nobody (event_of (Refuse t a n)) (λ u. refl) (λ u. refl)
names_nobody (Fail t n) k = nobody (event_of (Fail t n)) (λ u. refl) (λ u. refl)

-- no act names anybody
pub no_act : (e : TracedEvent) → act_of (event_of e) ≡ None → child_named e ≡ None
no_act (Begin t b) k = absurd cc
no_act (Phaser n s) k = refl
no_act (Finish f e) k = refl
no_act (Refuse t a n) k = refl
no_act (Fail t n) k = refl

-- an event that names a child begins a spawn of its task
pub record BeginsSpawn (e : TracedEvent) (c : ℕ) : Type 0 where
  pub task : ℕ
  pub pairs : _
  pub is : e ≡ Begin task (Async c pairs)

pub begins_spawn : (e : TracedEvent) (c : ℕ) → child_named e ≡ Some c → BeginsSpawn e c
begins_spawn (Begin t (Async d pairs)) c k =
    record { task = t; pairs = pairs; is = ap (λ n. Begin t (Async n pairs)) (same d c k) }
  where
    same : (x y : ℕ) → Some x ≡ Some y → x ≡ y
    same x y h = cc
begins_spawn (Begin t Signal) c k = absurd cc
begins_spawn (Begin t Wait) c k = absurd cc
begins_spawn (Begin t Next) c k = absurd cc
begins_spawn (Begin t (NextSingle n)) c k = absurd cc
begins_spawn (Begin t Shut) c k = absurd cc
begins_spawn (Begin t End) c k = absurd cc
begins_spawn (Phaser n s) c k = absurd cc
begins_spawn (Finish f e) c k = absurd cc
begins_spawn (Refuse t a n) c k = absurd cc
begins_spawn (Fail t n) c k = absurd cc

-- of whom an act is
pub of_its_task : (t : ℕ) (o : Option Made) → is_of t o ≡ true → (u : ℕ) → is_of u o ≡ (t == u)
of_its_task t None k u = absurd (false≢true k)
of_its_task t (Some m) k u = ap (λ (v : ℕ). v == u) (eqb-true m.task t k)

pub eq_self : (n : ℕ) → n == n ≡ true
eq_self n = eq-eqb n n refl

-- the act of the task who acts
pub acted : (o : Option Made) (t : ℕ) → option_map (λ (m : Made). m.task) o ≡ Some t
    → (act : Tried) × (o ≡ Some (record { task = t; act = act }))
acted None t own = absurd (none-some t own)
acted (Some m) t own = (m.act, ap (λ (u : ℕ). Some (record { task = u; act = m.act })) (same_Some m.task t own))

-- where nobody acts there is no act
pub nobody_acts : (o : Option Made) → option_map (λ (m : Made). m.task) o ≡ None → o ≡ None
nobody_acts None none = refl
nobody_acts (Some m) none = absurd (none-some m.task (sym none))

-- whoever spawns t by an event begins a spawn of it
pub record SpawnedBy (t u : ℕ) (e : TracedEvent) : Type 0 where
  pub pairs : List Pair
  pub is : e ≡ Begin u (Async t pairs)

pub spawned_by : (t u : ℕ) (e : TracedEvent) → parent_by t (event_of e) ≡ Some u → SpawnedBy t u e
spawned_by t u (Begin v (Async c pairs)) k = by (c == t) refl k
  where
    by : (b : Bool) → (c == t) ≡ b → (if b then Some v else None) ≡ Some u → SpawnedBy t u (Begin v (Async c pairs))
    by true e h = record {
      pairs = pairs;
      is = ap (λ (n : ℕ). Begin n (Async c pairs)) (same_Some v u h)
          ∙ ap (λ (n : ℕ). Begin u (Async n pairs)) (eqb-true c t e);
    }
    by false e h = absurd (none-some u h)
spawned_by t u (Begin v Signal) k = absurd (none-some u k)
spawned_by t u (Begin v Wait) k = absurd (none-some u k)
spawned_by t u (Begin v Next) k = absurd (none-some u k)
spawned_by t u (Begin v (NextSingle n)) k = absurd (none-some u k)
spawned_by t u (Begin v Shut) k = absurd (none-some u k)
spawned_by t u (Begin v End) k = absurd (none-some u k)
spawned_by t u (Phaser n s) k = absurd (none-some u k)
spawned_by t u (Finish f e) k = absurd (none-some u k)
spawned_by t u (Refuse v a n) k = absurd (none-some u k)
spawned_by t u (Fail v n) k = absurd (none-some u k)

-- a child that is named has a spawner
pub spawner_of : (e : TracedEvent) (c : ℕ) → child_named e ≡ Some c → (u : ℕ) × (parent_by c (event_of e) ≡ Some u)
spawner_of e c child =
    let spawn = begins_spawn e c child in (
      spawn.task,
      subst (λ (x : TracedEvent). parent_by c (event_of x) ≡ Some spawn.task) (sym spawn.is)
          (ap (λ (b : Bool). if b then Some spawn.task else None) (eq_self c)),
    )

-- and nobody else is spawned
pub no_other : (e : TracedEvent) (c u : ℕ) → child_named e ≡ Some c → u ≢ c → parent_by u (event_of e) ≡ None
no_other e c u child k =
    let spawn = begins_spawn e c child in
    subst (λ (x : TracedEvent). parent_by u (event_of x) ≡ None) (sym spawn.is)
    (ap (λ (b : Bool). if b then Some spawn.task else None) (false_from_ne_true (c == u) (λ h. k (sym (eqb-true c u h)))))
