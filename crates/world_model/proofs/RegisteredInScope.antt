-- Scope: who is registered on a phaser has the phaser's enclosing finish as its home, or owns it.
use Rattle.std.proofs.Common.{◌≡◌, ◌⊎◌, ℕ, Bool, true, false, ◌&&◌, ◌||◌, ◌==◌, not, cond, List, [], ◌∷◌, refl, sym, subst, ap, ◌∙◌, inl, inr}
use Rattle.std.specs.List.{list_all}
use Rattle.std.proofs.lemmas.Bool.{and_parts, or_cases, cases_Bool, eqb-true, eq-eqb, true≢false, false≢true}
use Rattle.phase_modes.specs.Lists.{is_empty}
use Rattle.phase_modes.specs.declared.reg.Mode.{Mode}
use Rattle.phase_modes.specs.declared.limits.Limits.{Limits}
use Rattle.phase_model.specs.declared.history.Event.{Event}
use Rattle.phase_model.specs.declared.history.Event.TheVariants.{Make as Made, Reg as Registered}
use Rattle.phase_model.specs.Tasks.{registers, is_registered, is_live}
use Rattle.phase_model.specs.Conditions.{is_within_task}
use Rattle.phase_model.specs.Rules.{is_permitted, has_room}
use Rattle.phase_model.proofs.Legal.{reg_follows}
use Rattle.finish_core.specs.declared.event.FinishEvent.TheVariants.{Spawned}
use Rattle.world_model.specs.declared.event.Step.TheVariants.{Make, Reg}
use Rattle.world_model.specs.declared.event.Tried.TheVariants.{New}
use Rattle.world_model.specs.declared.event.WorldEvent.{WorldEvent}
use Rattle.world_model.specs.declared.event.WorldEvent.TheVariants.{Phaser, Finish, Begin, Refuse, Fail}
use Rattle.world_model.specs.Parts.{terms_of, phaser_past, event_for}
use Rattle.world_model.specs.Tasks.{home, spawner, spawns, is_born}
use Rattle.world_model.specs.Scopes.{inner, owner, enclosing}
use Rattle.world_model.specs.Numbers.{is_phaser}
use Rattle.world_model.specs.Due.{due}
use Rattle.world_model.specs.Replies.{is_legal_world, is_accepted}
use Rattle.world_model.specs.ScopeLaws.{RegistrationsAreWithin}
use Rattle.world_model.proofs.MadeMeans.{last_accepted}
use Rattle.world_model.proofs.AbleComputed.{idle_in_act}
use Rattle.world_model.proofs.PhasersLegal.{step_allowed}
use Rattle.world_model.proofs.SpawnUnderWay.{named_by_spawn, spawner_later}
use Rattle.world_model.proofs.BornWhereNamed.{birth, registering}
use Rattle.world_model.proofs.PassesInTurns.{idle_is_born, registered_named}
use Rattle.world_model.proofs.OpenFinishes.{owner_later, home_later, inner_is}
use Rattle.world_model.proofs.AgentOfTask.{agent, reg_unborn, born_once}
use Rattle.world_model.proofs.PairsAsked.{MayJoin, may_join, some_registered}
use Rattle.world_model.proofs.RegistrationsStand.{enclosing_later, spawn_stands}
use Rattle.world_model.proofs.SpawnedAtHome.{legal_rest, born_same, spawner_is_born, enclosing_begun}

-- what is due first in a spawn can be made
first_stands : (l : Limits) (q c : ℕ) (w ds : List WorldEvent) (d : WorldEvent) → due q w ≡ d ∷ ds
    → MayJoin q c w (due q w) → may_join q c w d ≡ true
first_stands l q c w ds d here p =
    (and_parts (may_join q c w d) (list_all (may_join q c w) ds)
    (subst (λ xs. list_all (may_join q c w) xs ≡ true) here p.each)).0

third : (a b c d : Bool) → (a && b && c && d) ≡ true → c ≡ true
third true true true d k = refl
third true true false d k = absurd (false≢true k)
third true false c d k = absurd (false≢true k)
third false b c d k = absurd (false≢true k)

-- a child comes only to phasers of its spawner's innermost finish
pub reg_in_scope : (l : Limits) (w : List WorldEvent) (n q t : ℕ) (m : Mode) → is_legal_world l w ≡ true
    → is_accepted l w (Phaser n (Reg q t m)) ≡ true → inner q w ≡ enclosing n w
reg_in_scope l w n q t m k a =
    let r = registering l w n q t m k a in
    let j = first_stands l q t w r.rest (Phaser n (Reg q t m)) r.here (spawn_stands l q t w k r.begun) in
    let h = phaser_past n w in
    sym (eqb-true (enclosing n w) (inner q w) (third (is_live q h) (is_within_task m q h)
    (enclosing n w == inner q w) (not (is_registered t h)) j))

-- and is spawned in it
pub birth_in_scope : (l : Limits) (w : List WorldEvent) (f c : ℕ) → is_legal_world l w ≡ true
    → is_accepted l w (Finish f (Spawned c)) ≡ true → f ≡ inner (spawner c w) w
birth_in_scope l w f c k a =
    let q = spawner c w in
    let b = birth l w f c k a in
    eqb-true f (inner q w) (first_stands l q c w [] (Finish f (Spawned c)) b.1 (spawn_stands l q c w k b.0))

pub registrations_are_within : RegistrationsAreWithin
registrations_are_within l w k later before n q t m is =
    let e = Phaser n (Reg q t m) in
    let a =
    last_accepted l e before
    (legal_rest l later (e ∷ before) (subst (λ v. is_legal_world l v ≡ true) is k)) in
    let h = phaser_past n before in
    let p =
    and_parts (is_permitted l (terms_of n before) h (Registered q t m)) (has_room l (Registered q t m ∷ h))
    (step_allowed l before n (Reg q t m) a.0) in
    ((reg_follows l (terms_of n before) h q t m p.0).within, reg_in_scope l before n q t m a.1 a.0)

-- n is a phaser of t's home, or of a finish that t owns
abbrev pub InScope : ℕ → ℕ → List WorldEvent → Type 0
InScope t n w = (home t w ≡ enclosing n w) ⊎ (owner (enclosing n w) w ≡ t)

module _ (l : Limits) (e : WorldEvent) (w : List WorldEvent) (k : is_legal_world l w ≡ true)
    (a : is_accepted l w e ≡ true) where
  -- scope stays
  scope_stays : (q n : ℕ) → is_phaser n w ≡ true → spawns q e ≡ false → InScope q n w → InScope q n (e ∷ w)
  scope_stays q n there s i =
      let same = enclosing_later l n e w a there in
      elim i [
        | inl h ↦ inl (home_later l w k q e s ∙ (h ∙ sym same))
        | inr o ↦
            inr (ap (λ f. owner f (e ∷ w)) same
            ∙ (owner_later l (enclosing n w) e w a (enclosing_begun l w k n) ∙ o))
      ]

  agent_same : (t : ℕ) → spawns t e ≡ false → spawner t (e ∷ w) ≡ spawner t w → agent t (e ∷ w) ≡ agent t w
  agent_same t s q =
      ap (λ b. cond b t (spawner t (e ∷ w))) (born_same t e w s) ∙ ap (λ v. cond (is_born t w) t v) q

  -- whoever acts for t was born
  pub agent_born : (t : ℕ) → is_born (spawner t w) w ≡ true → is_born (agent t w) w ≡ true
  agent_born t b =
      elim (cases_Bool (is_born t w)) [
        | inl y ↦ subst (λ v. is_born v w ≡ true) (sym (rw y refl)) y
        | inr y ↦ subst (λ v. is_born v w ≡ true) (sym (rw y refl)) b
      ]

  kept : (t n : ℕ) → is_registered t (phaser_past n w) ≡ true → spawns t e ≡ false → InScope (agent t w) n w
      → InScope (agent t (e ∷ w)) n (e ∷ w)
  kept t n r s i =
      let named = registered_named l t n w k r in
      let there = ap (λ b. not b) (some_registered t (phaser_past n w) r) in
      let born = agent_born t (spawner_is_born l w k t named) in
      subst (λ q. InScope q n (e ∷ w)) (sym (agent_same t s (spawner_later l t e w a named)))
      (scope_stays (agent t w) n there (born_once l w e (agent t w) k a born) i)

-- at its birth a child gets the home that its registrations were made for
at_birth : (l : Limits) (f c n : ℕ) (w : List WorldEvent) → is_legal_world l w ≡ true
    → is_accepted l w (Finish f (Spawned c)) ≡ true → is_registered c (phaser_past n w) ≡ true
    → InScope (agent c (Finish f (Spawned c) ∷ w)) n (Finish f (Spawned c) ∷ w)
at_birth l f c n w k a r =
    let q = spawner c w in
    let b = birth l w f c k a in
    let in_it : enclosing n w ≡ inner q w =
    eqb-true (enclosing n w) (inner q w)
    ((spawn_stands l q c w k b.0).scope (ap (λ ds. is_empty ds) b.1) n r) in
    let home_is : f ≡ enclosing n w = birth_in_scope l w f c k a ∙ sym in_it in
    let self : (c == c) ≡ true = eq-eqb c c refl in
    inl (rw (self, or_right_true (c == 0)) (rw self home_is))
  where
    or_right_true : (b : Bool) → (b || true) ≡ true
    or_right_true true = refl
    or_right_true false = refl

module _ (l : Limits) (w : List WorldEvent) (k : is_legal_world l w ≡ true) where
  spawned_kept : (e : WorldEvent) (t n : ℕ) → is_accepted l w e ≡ true
      → is_registered t (phaser_past n w) ≡ true → spawns t e ≡ true → InScope (agent t (e ∷ w)) n (e ∷ w)
  spawned_kept (Finish f (Spawned c)) t n a r s =
      let same : c ≡ t = eqb-true c t s in
      subst (λ v. InScope (agent v (Finish f (Spawned c) ∷ w)) n (Finish f (Spawned c) ∷ w)) same
      (at_birth l f c n w k a (subst (λ v. is_registered v (phaser_past n w) ≡ true) (sym same) r))
  spawned_kept e t n a r s = absurd (false≢true s)

  in_step : (m t n : ℕ) (v : Event) → is_registered t (phaser_past n w) ≡ false
      → is_registered t (cond (m == n) (v ∷ phaser_past n w) (phaser_past n w)) ≡ true
      → ((m == n) ≡ true) × (registers t v ≡ true)
  in_step m t n v b h =
      (elim (m == n) as (λ c. is_registered t (cond c (v ∷ phaser_past n w) (phaser_past n w)) ≡ true
      → (c ≡ true) × (registers t v ≡ true)) [
        | true ↦
            λ g. elim (or_cases (registers t v) (is_registered t (phaser_past n w)) g) [
              | inl x ↦ (refl, x)
              | inr x ↦ absurd (true≢false (sym x ∙ b))
            ]
        | false ↦ λ g. absurd (true≢false (sym g ∙ b))
      ]) h

  -- who is registered now
  joins_now : (e : WorldEvent) (t n : ℕ) → is_accepted l w e ≡ true → is_registered t (phaser_past n w)
      ≡ false → is_registered t (phaser_past n (e ∷ w)) ≡ true → InScope (agent t (e ∷ w)) n (e ∷ w)
  joins_now (Phaser m (Make u mode terms)) t n a b r =
      let s = in_step m t n (Made u mode) b r in
      let e = Phaser m (Make u mode terms) in
      let born : is_born u w ≡ true = idle_is_born u w (idle_in_act l w u (New m mode terms) a) in
      let encloses : enclosing n (e ∷ w) ≡ inner u w = rw s.0 refl in
      let here : InScope u n (e ∷ w) =
      elim (inner_is l w k u) [
        | inl h ↦ inl (sym (encloses ∙ h))
        | inr o ↦ inr (subst (λ f. owner f w ≡ u) (sym encloses) o)
      ] in
      subst (λ v. InScope (agent v (e ∷ w)) n (e ∷ w)) (eqb-true u t s.1)
      (subst (λ v. InScope v n (e ∷ w)) (sym (rw born refl)) here)
  joins_now (Phaser m (Reg q u mode)) t n a b r =
      let s = in_step m t n (Registered q u mode) b r in
      let e = Phaser m (Reg q u mode) in
      let unborn : is_born u w ≡ false = reg_unborn l w m q u mode k a in
      let by : spawner u w ≡ q = (named_by_spawn l q u w k (registering l w m q u mode k a).begun).1 in
      let inside : inner q w ≡ enclosing n w =
      subst (λ v. inner q w ≡ enclosing v w) (eqb-true m n s.0) (reg_in_scope l w m q u mode k a) in
      let here : InScope q n (e ∷ w) =
      elim (inner_is l w k q) [
        | inl h ↦ inl (sym h ∙ inside)
        | inr o ↦ inr (subst (λ f. owner f w ≡ q) inside o)
      ] in
      subst (λ v. InScope (agent v (e ∷ w)) n (e ∷ w)) (eqb-true u t s.1)
      (subst (λ v. InScope v n (e ∷ w)) (sym (rw unborn by)) here)
  joins_now (Phaser m s) t n a b r =
      absurd (false≢true (in_step m t n (event_for (terms_of n w) (phaser_past n w) s) b r).1)
  joins_now (Finish f x) t n a b r = absurd (true≢false (sym r ∙ b))
  joins_now (Begin u x) t n a b r = absurd (true≢false (sym r ∙ b))
  joins_now (Refuse u x y) t n a b r = absurd (true≢false (sym r ∙ b))
  joins_now (Fail u x) t n a b r = absurd (true≢false (sym r ∙ b))

-- who is registered on a phaser, or its spawner before its birth, is in the phaser's scope
pub registered_in_scope : (l : Limits) (w : List WorldEvent) → is_legal_world l w ≡ true → (t n : ℕ)
    → is_registered t (phaser_past n w) ≡ true → InScope (agent t w) n w
registered_in_scope l [] k t n r = absurd cc
registered_in_scope l (e ∷ w) k t n r =
    let a = last_accepted l e w k in
    elim (cases_Bool (is_registered t (phaser_past n w))) [
      | inl old ↦
          elim (cases_Bool (spawns t e)) [
            | inl s ↦ spawned_kept l w a.1 e t n a.0 old s
            | inr s ↦ kept l e w a.1 a.0 t n old s (registered_in_scope l w a.1 t n old)
          ]
      | inr new ↦ joins_now l w a.1 e t n a.0 new r
    ]
