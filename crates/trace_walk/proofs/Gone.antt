-- The bodies after an act: each gives what its task does next.
use Rattle.std.proofs.Common.{ℕ, ◌≡◌, ◌≢◌, Bool, true, false, ◌==◌, ◌||◌, if◌then◌else◌, List, [], ◌∷◌, Option, Some, None, refl, sym, ap, subst, ◌∙◌}
use Rattle.std.specs.List.{list_any}
use Rattle.std.proofs.lemmas.Bool.{eqb-true, eq-eqb, true≢false, false≢true}
use Rattle.job_script.specs.declared.act.Answer.{Answer}
use Rattle.job_script.specs.declared.act.Answer.TheVariants.{Started, Spawned}
use Rattle.world_model.specs.declared.event.Begun.TheVariants.{Async}
use Rattle.world_model.specs.declared.event.WorldEvent.{WorldEvent}
use Rattle.world_model.specs.declared.event.WorldEvent.TheVariants.{Begin}
use Rattle.world_model.specs.Numbers.{is_named, names}
use Rattle.trace_walk.specs.Scripts.{Made, act_of, is_of, parent_by}
use Rattle.trace_walk.specs.declared.seats.Seat.{Seat}
use Rattle.trace_walk.specs.Going.{does, does_after, child_does, heard}
use Rattle.trace_walk.specs.Walking.{Does}
use Rattle.trace_walk.specs.inner.Seats.{IsSeated}

-- each task that was named has a seat, and each seat gives what its task does by this
pub record GoAs {B : Type 0} (next : Answer → B → Does B) (w : List WorldEvent) (does_now : ℕ → Does B)
    (at : ℕ → Option (Seat B)) : Type 0 where
  pub seated : (t : ℕ) → is_named t w ≡ true → (s : Seat B) × (at t ≡ Some s)
  pub gives : (t : ℕ) (s : Seat B) → at t ≡ Some s → next s.heard s.body ≡ does_now t

-- what it does next after this history
abbrev pub BodiesGo : {B : Type 0} → (Answer → B → Does B) → B → List WorldEvent → (ℕ → Option (Seat B)) → Type 0
BodiesGo next root w at = GoAs next w (does next root w) at

-- the same, but that t has gone on, and hears this of it
abbrev pub HaveGone : {B : Type 0} → (Answer → B → Does B) → B → List WorldEvent → ℕ → Answer
    → (ℕ → Option (Seat B)) → Type 0
HaveGone next root w t told at =
    GoAs next w (λ u. if t == u then next told (does next root w t).1 else does next root w u) at

-- two numbers that aren't equal by their test
apart : (t u : ℕ) → (t == u) ≡ false → u ≢ t
apart t u k e = true≢false (sym (eq-eqb t u (sym e)) ∙ k)

pub none_is_some : {X : Type 0} {x : X} → None ≡ Some x → ⊥
none_is_some h = cc

module _ {B : Type 0} (next : Answer → B → Does B) (root : B) where
  same_seat : (s r : Seat B) → Some s ≡ Some r → s ≡ r
  same_seat s r h = cc

  -- before all else the root alone has a seat
  pub begun : (at after : ℕ → Option (Seat B)) → ((u : ℕ) → at u ≡ None) → IsSeated 0 root at after
      → BodiesGo next root [] after
  begun at after none is = record {
    seated = λ t named. (
      record { body = root; heard = Started },
      subst (λ (u : ℕ). after u ≡ Some (record { body = root; heard = Started })) (sym (zero_named t named)) is.own,
    );
    gives = gives;
  }
    where
      zero_named : (t : ℕ) → is_named t [] ≡ true → t ≡ 0
      zero_named t k = by (t == 0) refl k
        where
          by : (b : Bool) → (t == 0) ≡ b → (b || false) ≡ true → t ≡ 0
          by true e h = eqb-true t 0 e
          by false e h = absurd (false≢true h)

      gives : (t : ℕ) (s : Seat B) → after t ≡ Some s → next s.heard s.body ≡ does next root [] t
      gives t s here = by (0 == t) refl
        where
          by : (b : Bool) → (0 == t) ≡ b → next s.heard s.body ≡ next Started root
          by true e =
              let at_zero : after 0 ≡ Some s = subst (λ (u : ℕ). after u ≡ Some s) (sym (eqb-true 0 t e)) here in
              let same : s ≡ record { body = root; heard = Started } =
              same_seat s (record { body = root; heard = Started }) (sym at_zero ∙ is.own) in
              ap (λ (r : Seat B). next r.heard r.body) same
          by false e =
              let nothing : None ≡ Some s = sym (none t) ∙ (sym (is.others t (apart 0 t e)) ∙ here) in
              absurd cc

  -- a task has gone on
  pub gone : (w : List WorldEvent) (t : ℕ) (told : Answer) (at after : ℕ → Option (Seat B))
      → BodiesGo next root w at → is_named t w ≡ true
      → ((u : ℕ) → u ≢ t → after u ≡ at u)
      → ((s : Seat B) → at t ≡ Some s → after t ≡ Some (record { body = (next s.heard s.body).1; heard = told }))
      → HaveGone next root w t told after
  gone w t told at after go named others own = record { seated = seated; gives = gives }
    where
      before : (s : Seat B) × (at t ≡ Some s)
      before = go.seated t named

      moved : Seat B
      moved = record { body = (next before.0.heard before.0.body).1; heard = told }

      here : after t ≡ Some moved
      here = own before.0 before.1

      seated : (u : ℕ) → is_named u w ≡ true → (s : Seat B) × (after u ≡ Some s)
      seated u k = by (t == u) refl
        where
          by : (b : Bool) → (t == u) ≡ b → (s : Seat B) × (after u ≡ Some s)
          by true e = (moved, subst (λ (v : ℕ). after v ≡ Some moved) (eqb-true t u e) here)
          by false e = ((go.seated u k).0, others u (apart t u e) ∙ (go.seated u k).1)

      gives : (u : ℕ) (s : Seat B) → after u ≡ Some s
          → next s.heard s.body ≡ (if t == u then next told (does next root w t).1 else does next root w u)
      gives u s is = by (t == u) refl
        where
          by : (b : Bool) → (t == u) ≡ b
              → next s.heard s.body ≡ (if b then next told (does next root w t).1 else does next root w u)
          by true e =
              let at_t : after t ≡ Some s = subst (λ (v : ℕ). after v ≡ Some s) (sym (eqb-true t u e)) is in
              let same : s ≡ moved = same_seat s moved (sym at_t ∙ here) in
              ap (λ (r : Seat B). next r.heard r.body) same
              ∙ ap (λ (d : Does B). next told d.1) (go.gives t before.0 before.1)
          by false e = go.gives u s (sym (others u (apart t u e)) ∙ is)

  -- what each does after an act of t that names nobody
  pub kept : (w : List WorldEvent) (e : WorldEvent) (t : ℕ) (told : Answer) (at : ℕ → Option (Seat B))
      → HaveGone next root w t told at → told ≡ heard w e
      → ((u : ℕ) → is_of u (act_of e) ≡ (t == u))
      → ((u : ℕ) → parent_by u e ≡ None) → ((u : ℕ) → names u e ≡ false)
      → BodiesGo next root (e ∷ w) at
  kept w e t told at go hears of childless nameless = record { seated = seated; gives = gives }
    where
      seated : (u : ℕ) → is_named u (e ∷ w) ≡ true → (s : Seat B) × (at u ≡ Some s)
      seated u k = go.seated u (named_before u k)
        where
          named_before : (u : ℕ) → is_named u (e ∷ w) ≡ true → is_named u w ≡ true
          named_before u k =
              subst (λ (b : Bool). (u == 0 || (b || list_any (names u) w)) ≡ true) (nameless u) k

      gives : (u : ℕ) (s : Seat B) → at u ≡ Some s → next s.heard s.body ≡ does next root (e ∷ w) u
      gives u s is =
          go.gives u s is ∙ (by (t == u) refl
          ∙ sym (ap (λ (o : Option ℕ). does_after next w u e o (does next root w)) (childless u)))
        where
          by : (b : Bool) → (t == u) ≡ b
              → (if b then next told (does next root w t).1 else does next root w u)
              ≡ (if is_of u (act_of e) then next (heard w e) (does next root w u).1 else does next root w u)
          by true k =
              rw (of u ∙ k)
              (ap (λ (a : Answer). next a (does next root w t).1) hears
              ∙ ap (λ (v : ℕ). next (heard w e) (does next root w v).1) (eqb-true t u k))
          by false k = rw (of u ∙ k) refl

  -- no act
  pub still : (w : List WorldEvent) (e : WorldEvent) (at : ℕ → Option (Seat B)) → BodiesGo next root w at
      → act_of e ≡ None → ((u : ℕ) → parent_by u e ≡ None) → ((u : ℕ) → names u e ≡ false)
      → BodiesGo next root (e ∷ w) at
  still w e at go none childless nameless = record {
    seated = λ u k. go.seated u (named_before u k);
    gives = λ u s is. go.gives u s is
        ∙ sym (ap (λ (o : Option ℕ). does_after next w u e o (does next root w)) (childless u)
        ∙ ap (λ (o : Option Made). if is_of u o then next (heard w e) (does next root w u).1 else does next root w u) none);
  }
    where
      named_before : (u : ℕ) → is_named u (e ∷ w) ≡ true → is_named u w ≡ true
      named_before u k =
          subst (λ (b : Bool). (u == 0 || (b || list_any (names u) w)) ≡ true) (nameless u) k

  -- what each does after a spawn by t
  pub spawned : (w : List WorldEvent) (t c : ℕ) (pairs : _) (body : B) (told : Answer) (at after : ℕ → Option (Seat B))
      → HaveGone next root w t told at → told ≡ Spawned c
      → child_does next (does next root w t).0 (does next root w c) ≡ next Started body
      → IsSeated c body at after
      → BodiesGo next root (Begin t (Async c pairs) ∷ w) after
  spawned w t c pairs body told at after go hears child is = record { seated = seated; gives = gives }
    where
      seat : Seat B
      seat = record { body = body; heard = Started }

      seated : (u : ℕ) → is_named u (Begin t (Async c pairs) ∷ w) ≡ true → (s : Seat B) × (after u ≡ Some s)
      seated u k = by (c == u) refl k
        where
          by : (b : Bool) → (c == u) ≡ b → (u == 0 || (b || list_any (names u) w)) ≡ true → (s : Seat B) × (after u ≡ Some s)
          by true e h = (seat, subst (λ (v : ℕ). after v ≡ Some seat) (eqb-true c u e) is.own)
          by false e h =
              let old = go.seated u h in (old.0, is.others u (apart c u e) ∙ old.1)

      gives : (u : ℕ) (s : Seat B) → after u ≡ Some s
          → next s.heard s.body ≡ does next root (Begin t (Async c pairs) ∷ w) u
      gives u s here = by (c == u) refl
        where
          by : (b : Bool) → (c == u) ≡ b → next s.heard s.body
              ≡ does_after next w u (Begin t (Async c pairs)) (if b then Some t else None) (does next root w)
          by true e =
              let at_c : after c ≡ Some s = subst (λ (v : ℕ). after v ≡ Some s) (sym (eqb-true c u e)) here in
              let same : s ≡ seat = same_seat s seat (sym at_c ∙ is.own) in
              ap (λ (r : Seat B). next r.heard r.body) same
              ∙ (sym child ∙ ap (λ (v : ℕ). child_does next (does next root w t).0 (does next root w v)) (eqb-true c u e))
          by false e = go.gives u s (sym (is.others u (apart c u e)) ∙ here) ∙ plain (t == u) refl
            where
              plain : (b : Bool) → (t == u) ≡ b
                  → (if b then next told (does next root w t).1 else does next root w u)
                  ≡ (if b then next (Spawned c) (does next root w u).1 else does next root w u)
              plain true k =
                  ap (λ (a : Answer). next a (does next root w t).1) hears
                  ∙ ap (λ (v : ℕ). next (Spawned c) (does next root w v).1) (eqb-true t u k)
              plain false k = refl
