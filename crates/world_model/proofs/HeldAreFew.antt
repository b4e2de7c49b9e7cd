-- No task is on more than 16 phasers: one that makes a phaser asks for room, and a child comes to its spawner's alone.
use Rattle.std.proofs.Common.{◌≡◌, ℕ, ◌+◌, ◌≤◌, Bool, true, false, ◌&&◌, ◌||◌, ◌==◌, not, nat_lt, cond, List, [], ◌∷◌, ◌++◌, reverse, length, Some, None, refl, sym, subst, ap, ◌∙◌, inl, inr, arith, length-append}
use Rattle.std.specs.Prelude.{filter, filter_map}
use Rattle.std.specs.List.{list_all}
use Rattle.std.proofs.lemmas.Bool.{and_parts, cases_Bool, eqb-true, ltb-true, true≢false, false≢true}
use Rattle.phase_modes.specs.Lists.{is_empty}
use Rattle.phase_modes.specs.declared.reg.Mode.{Mode}
use Rattle.phase_modes.specs.declared.limits.Limits.{Limits}
use Rattle.phase_modes.specs.declared.refusal.Refusal.TheVariants.{NotNow, ActsFull, PhasersFull}
use Rattle.phase_modes.specs.Refusal.{first_refusal}
use Rattle.phase_model.specs.declared.terms.Terms.{Terms}
use Rattle.phase_model.specs.declared.history.Event.{Event}
use Rattle.phase_model.specs.declared.history.Event.TheVariants.{Reg as Registered}
use Rattle.phase_model.specs.Tasks.{registers, drops, is_registered, is_dropped, is_live}
use Rattle.phase_model.specs.Conditions.{is_within_task}
use Rattle.phase_model.specs.Rules.{is_permitted, has_room}
use Rattle.phase_model.proofs.Legal.{reg_follows, RegFollows}
use Rattle.phase_model.proofs.LiveTasks.{fresh_not_dropped}
use Rattle.world_model.specs.declared.event.Step.{Step}
use Rattle.world_model.specs.declared.event.Step.TheVariants.{Make, Reg}
use Rattle.world_model.specs.declared.event.Begun.TheVariants.{Async}
use Rattle.world_model.specs.declared.event.Tried.TheVariants.{New}
use Rattle.world_model.specs.declared.event.WorldEvent.{WorldEvent}
use Rattle.world_model.specs.declared.event.WorldEvent.TheVariants.{Phaser, Finish, Begin, Refuse, Fail}
use Rattle.world_model.specs.Parts.{terms_of, phaser_past}
use Rattle.world_model.specs.Tasks.{joined_by, phasers_of, is_born, acts}
use Rattle.world_model.specs.Numbers.{is_phaser}
use Rattle.world_model.specs.Scopes.{inner, enclosing}
use Rattle.world_model.specs.Actors.{actor}
use Rattle.world_model.specs.Due.{due, fixed, is_entry, is_of_single, is_idle}
use Rattle.world_model.specs.Replies.{is_legal_world, is_accepted}
use Rattle.world_model.specs.TaskConditions.{last_entry}
use Rattle.world_model.specs.ScopeLaws.{PhasersHeldAreFew}
use Rattle.world_model.proofs.MadeMeans.{last_accepted, act_made}
use Rattle.world_model.proofs.PhasersLegal.{step_allowed, new_past, event_of, phasers_legal}
use Rattle.world_model.proofs.PhasersOnce.{joins, joined_once, phasers_once}
use Rattle.world_model.proofs.SpawnUnderWay.{begins_spawn, is_spawn_list, spawn_due, named_by_spawn}
use Rattle.world_model.proofs.BornWhereNamed.{unborn_child, registering, IsRegistering}
use Rattle.world_model.proofs.AgentOfTask.{untouched, untouched_born, agent}
use Rattle.world_model.proofs.UntouchedStays.{IsAlike, alike, alike_single, phasers_same}
use Rattle.world_model.proofs.PairsAsked.{may_join, MayJoin}
use Rattle.world_model.proofs.RegistrationsStand.{unregistered, spawner_born, spawn_stands}
use Rattle.world_model.proofs.DueStays.{due_stays}
use Rattle.world_model.proofs.NewlyJoined.{own_joined}
use Rattle.world_model.proofs.FewerWithin.{no_longer}
use Rattle.world_model.proofs.SmallWords.{eq_self}

-- as long as something is due in a spawn of c by q, c is on no phaser that q isn't on
abbrev pub IsHeldByParent : ℕ → ℕ → List WorldEvent → List WorldEvent → Type 0
IsHeldByParent q c w ds = is_empty ds ≡ false → (n : ℕ) → is_live c (phaser_past n w) ≡ true → is_live q (phaser_past n w) ≡ true

-- what an accepted registration finds
pub reg_finds : (l : Limits) (w : List WorldEvent) (n q c : ℕ) (m : Mode) → is_accepted l w (Phaser n (Reg q c m)) ≡ true → RegFollows l (phaser_past n w) q c m
reg_finds l w n q c m a =
    let h = phaser_past n w in
    let p = and_parts (is_permitted l (terms_of n w) h (Registered q c m)) (has_room l (Registered q c m ∷ h)) (step_allowed l w n (Reg q c m) a) in
    reg_follows l (terms_of n w) h q c m p.0

-- who is live stays so where another is registered
live_still : (b r d : Bool) → (r && not d) ≡ true → ((b || r) && not d) ≡ true
live_still true true false k = refl
live_still true true true k = absurd (false≢true k)
live_still true false d k = absurd (false≢true k)
live_still false r d k = k

module _ (l : Limits) (q c : ℕ) where
  entry_held : (e : WorldEvent) (w : List WorldEvent) → is_legal_world l w ≡ true → is_accepted l w e ≡ true → is_entry q e ≡ true → begins_spawn c (Some e) ≡ true → IsHeldByParent q c (e ∷ w) (fixed e w)
  entry_held (Begin u (Async x ps)) w k a n s = λ some i live.
      let none : is_registered c (phaser_past i w) ≡ false = subst (λ v. is_registered v (phaser_past i w) ≡ false) (eqb-true x c s) (unregistered l w u x ps k a i) in
      absurd (true≢false (sym (and_parts (is_registered c (phaser_past i w)) (not (is_dropped c (phaser_past i w))) live).0 ∙ none))
  entry_held (Begin u b) w k a n s = absurd cc
  entry_held (Refuse u b x) w k a n s = absurd cc
  entry_held (Fail u x) w k a n s = absurd cc
  entry_held (Phaser m r) w k a n s = absurd cc
  entry_held (Finish f r) w k a n s = absurd cc

  -- after a registration by q, on phaser n
  reg_held : (w : List WorldEvent) (n x : ℕ) (m : Mode) → is_live q (phaser_past n w) ≡ true → ((i : ℕ) → is_live c (phaser_past i w) ≡ true → is_live q (phaser_past i w) ≡ true)
      → (i : ℕ) → is_live c (phaser_past i (Phaser n (Reg q x m) ∷ w)) ≡ true → is_live q (phaser_past i (Phaser n (Reg q x m) ∷ w)) ≡ true
  reg_held w n x m here before i =
      elim (cases_Bool (n == i)) [
        | inl e ↦
            let there : is_live q (phaser_past i w) ≡ true = subst (λ v. is_live q (phaser_past v w) ≡ true) (eqb-true n i e) here in
            rw e (λ live. live_still (x == q) (is_registered q (phaser_past i w)) (is_dropped q (phaser_past i w)) there)
        | inr e ↦ rw e (before i)
      ]

  own_held : (e : WorldEvent) (w ds : List WorldEvent) → is_accepted l w e ≡ true → is_spawn_list q c (e ∷ ds) ≡ true → IsHeldByParent q c w (e ∷ ds) → IsHeldByParent q c (e ∷ w) ds
  own_held (Phaser n (Reg r x m)) w ds a s p = λ some.
      let listed = and_parts (((r == q && x == c) && not (is_empty ds)) || false) (is_spawn_list q c ds) s in
      let by : r ≡ q = eqb-true r q (first_of (r == q) (x == c) (not (is_empty ds)) listed.0) in
      subst (λ v. (i : ℕ) → is_live c (phaser_past i (Phaser n (Reg v x m) ∷ w)) ≡ true → is_live q (phaser_past i (Phaser n (Reg v x m) ∷ w)) ≡ true) (sym by)
      (reg_held w n x m (subst (λ v. is_live v (phaser_past n w) ≡ true) by (reg_finds l w n r x m a).parent_live) (p refl))
    where
      first_of : (b d f : Bool) → (((b && d) && f) || false) ≡ true → b ≡ true
      first_of true d f k = refl
      first_of false d f k = absurd (false≢true k)
  own_held (Finish f r) w ds a s p = λ some. p refl
  own_held (Phaser n r) w ds a s p = absurd (false≢true s)
  own_held (Begin u b) w ds a s p = absurd (false≢true s)
  own_held (Refuse u b x) w ds a s p = absurd (false≢true s)
  own_held (Fail u x) w ds a s p = absurd (false≢true s)

  alike_held : (e : WorldEvent) (w ds : List WorldEvent) → ((n : ℕ) → IsAlike q (phaser_past n (e ∷ w)) (phaser_past n w)) → ((n : ℕ) → IsAlike c (phaser_past n (e ∷ w)) (phaser_past n w))
      → IsHeldByParent q c w ds → IsHeldByParent q c (e ∷ w) ds
  alike_held e w ds q_same c_same p some n live = (q_same n).live ∙ p some n (sym (c_same n).live ∙ live)

  other_held : (e : WorldEvent) (w : List WorldEvent) → is_legal_world l w ≡ true → is_accepted l w e ≡ true → begins_spawn c (last_entry q w) ≡ true
      → (actor w e == q && not (is_of_single e)) ≡ false → IsHeldByParent q c w (due q w) → IsHeldByParent q c (e ∷ w) (due q w)
  other_held e w k a s o p = λ some.
      (elim (cases_Bool (is_of_single e)) as (λ x. IsHeldByParent q c (e ∷ w) (due q w)) [
        | inl single ↦ alike_held e w (due q w) (λ n. alike_single q n e w single) (λ n. alike_single c n e w single) p
        | inr plain ↦
            let foreign : (actor w e == q) ≡ false = subst (λ b. b ≡ false) (with_true (actor w e == q) (is_of_single e) plain) o in
            let born = spawner_born l q c w k s in
            let unborn : is_born c w ≡ false = unborn_child l q c w k s some in
            let by : agent c w ≡ q = rw unborn (named_by_spawn l q c w k s).1 in
            alike_held e w (due q w) (λ n. alike q n e w (untouched_born l w k e q a born foreign)) (λ n. alike c n e w (untouched l w k e c q a by foreign)) p
      ]) some
    where
      with_true : (x y : Bool) → y ≡ false → (x && not y) ≡ x
      with_true true true n = absurd cc
      with_true true false n = refl
      with_true false y n = refl

  -- what a child is on, its spawner is on, until the spawn is over
  pub held_by_parent : (w : List WorldEvent) → is_legal_world l w ≡ true → begins_spawn c (last_entry q w) ≡ true → IsHeldByParent q c w (due q w)
  held_by_parent w k s =
      due_stays l q (begins_spawn c) (IsHeldByParent q c) (λ b. false≢true b) (λ e v kv a b n m none p some. absurd (true≢false some))
      entry_held
      (λ e v ds kv a b n o m here p. own_held e v ds a (subst (λ xs. is_spawn_list q c xs ≡ true) here (spawn_due l q c v kv b)) p)
      (λ e v kv a b n o p. other_held e v kv a b o p)
      w k s

  -- a child that is to be registered on phaser n has fewer phasers than its spawner
  pub fewer_than_parent : (w rest : List WorldEvent) (n : ℕ) (m : Mode) → is_legal_world l w ≡ true → begins_spawn c (last_entry q w) ≡ true → due q w ≡ Phaser n (Reg q c m) ∷ rest
      → length (phasers_of c w) + 1 ≤ length (phasers_of q w)
  fewer_than_parent w rest n m k s here =
      let j : MayJoin q c w (due q w) = spawn_stands l q c w k s in
      let first : (may_join q c w (Phaser n (Reg q c m)) && list_all (may_join q c w) rest) ≡ true = subst (λ ds. list_all (may_join q c w) ds ≡ true) here j.each in
      let finds = parts (is_live q (phaser_past n w)) (is_within_task m q (phaser_past n w)) (enclosing n w == inner q w) (is_registered c (phaser_past n w)) (and_parts (may_join q c w (Phaser n (Reg q c m))) (list_all (may_join q c w) rest) first).0 in
      let held : (i : ℕ) → is_live c (phaser_past i w) ≡ true → is_live q (phaser_past i w) ≡ true = held_by_parent w k s (ap (λ ds. is_empty ds) here) in
      let more : length (n ∷ phasers_of c w) ≤ length (phasers_of q w) =
      no_longer (n ∷ phasers_of c w) (phasers_of q w) (λ i.
      rw (phasers_once l w k c i, phasers_once l w k q i)
      (elim (cases_Bool (n == i)) [
        | inl e ↦
            let new : is_live c (phaser_past i w) ≡ false = subst (λ v. is_live c (phaser_past v w) ≡ false) (eqb-true n i e) (ap (λ b. b && not (is_dropped c (phaser_past n w))) finds.1) in
            let on : is_live q (phaser_past i w) ≡ true = subst (λ v. is_live q (phaser_past v w) ≡ true) (eqb-true n i e) finds.0 in
            rw (e, new, on) (omega arith)
        | inr e ↦ rw e (at_most (is_live c (phaser_past i w)) (is_live q (phaser_past i w)) (held i))
      ]))
      in
      omega (arith, more)
    where
      at_most : (a b : Bool) → (a ≡ true → b ≡ true) → cond a 1 0 ≤ cond b 1 0
      at_most true b h = rw (h refl) (omega arith)
      at_most false true h = omega arith
      at_most false false h = omega arith

      parts : (a b d r : Bool) → (a && b && d && not r) ≡ true → (a ≡ true) × (r ≡ false)
      parts true true true false e = (refl, refl)
      parts true true true true e = absurd (false≢true e)
      parts true true false r e = absurd (false≢true e)
      parts true false d r e = absurd (false≢true e)
      parts false b d r e = absurd (false≢true e)

-- a task that makes a phaser has room for it
has_room_to_make : (l : Limits) (w : List WorldEvent) (n t : ℕ) (m : Mode) (terms : Terms) → is_accepted l w (Phaser n (Make t m terms)) ≡ true → length (phasers_of t w) + 1 ≤ 16
has_room_to_make l w n t m terms a =
    let asked = (act_made l w t (New n m terms) a).0 in
    room (is_idle t w) (not (is_phaser n w)) (nat_lt (acts t w) l.acts) (nat_lt n l.phasers) (length (phasers_of t w)) asked
  where
    last : (b : Bool) → first_refusal ((PhasersFull, b) ∷ []) ≡ None → b ≡ true
    last true e = refl
    last false e = absurd cc

    room : (i u c n : Bool) (x : ℕ) → first_refusal ((NotNow, i) ∷ (NotNow, u) ∷ (ActsFull, c) ∷ (PhasersFull, n) ∷ (PhasersFull, nat_lt x 16) ∷ []) ≡ None → x + 1 ≤ 16
    room true true true true x e = omega (arith, ltb-true x 16 (last (nat_lt x 16) e))
    room true true true false x e = absurd cc
    room true true false n x e = absurd cc
    room true false c n x e = absurd cc
    room false u c n x e = absurd cc

-- an event that registers nobody puts a task on no phaser
live_before : (t : ℕ) (e : Event) (h : List Event) → registers t e ≡ false → is_live t (e ∷ h) ≡ true → is_live t h ≡ true
live_before t e h none k = earlier (registers t e) (is_registered t h) (drops t e) (is_dropped t h) none k
  where
    earlier : (a b c d : Bool) → a ≡ false → ((a || b) && not (c || d)) ≡ true → (b && not d) ≡ true
    earlier false true false false n k = refl
    earlier false true true d n k = absurd (false≢true k)
    earlier false true false true n k = absurd (false≢true k)
    earlier false false c d n k = absurd (false≢true k)
    earlier true b c d n k = absurd (true≢false n)

filter_fewer : (p q : ℕ → Bool) (xs : List ℕ) → ((x : ℕ) → p x ≡ true → q x ≡ true) → length (filter p xs) ≤ length (filter q xs)
filter_fewer p q [] k = omega arith
filter_fewer p q (x ∷ xs) k =
    let rest : length (filter p xs) ≤ length (filter q xs) = filter_fewer p q xs k in
    elim (cases_Bool (p x)) [
      | inl e ↦ rw (e, k x e) (omega (arith, rest))
      | inr e ↦ rw e (no_less (q x) (filter q xs) rest)
    ]
  where
    no_less : (b : Bool) (ys : List ℕ) → length (filter p xs) ≤ length ys → length (filter p xs) ≤ length (cond b (x ∷ ys) ys)
    no_less true ys h = omega (arith, h)
    no_less false ys h = h

-- a step that registers nobody
fewer_after : (t n : ℕ) (s : Step) (w : List WorldEvent) → ((i : ℕ) → registers t (event_of i w s) ≡ false)
    → length (filter (λ i. is_live t (phaser_past i (Phaser n s ∷ w))) (reverse (filter_map (joined_by t) w))) ≤ length (phasers_of t w)
fewer_after t n s w none =
    filter_fewer (λ i. is_live t (phaser_past i (Phaser n s ∷ w))) (λ i. is_live t (phaser_past i w)) (reverse (filter_map (joined_by t) w))
    (λ i. elim (cases_Bool (n == i)) [
      | inl e ↦ rw e (live_before t (event_of i w s) (phaser_past i w) (none i))
      | inr e ↦ rw e (λ k. k)
    ])

one_more : (ns ms : List ℕ) (n : ℕ) → ns ≡ ms ++ n ∷ [] → length ms + 1 ≤ 16 → length ns ≤ 16
one_more ns ms n e k = omega (arith, ap (λ (xs : List ℕ). length xs) e ∙ length-append ms (n ∷ []), k)

few : (l : Limits) (w : List WorldEvent) → is_legal_world l w ≡ true → (t : ℕ) → length (phasers_of t w) ≤ 16
few l [] k t = omega arith
few l (Phaser n (Make u m terms) ∷ w) k t =
    let a = last_accepted l (Phaser n (Make u m terms)) w k in
    elim (cases_Bool (u == t)) [
      | inl e ↦
          let same : u ≡ t = eqb-true u t e in
          let new = new_past l w n u m terms a.0 in
          let none : joins t n w ≡ 0 = joined_once l w a.1 t n ∙ ap (λ h. cond (is_registered t h) 1 0) new in
          let joined : phasers_of t (Phaser n (Make u m terms) ∷ w) ≡ phasers_of t w ++ n ∷ [] =
          own_joined t n (Make u m terms) w (rw e refl) (rw (eq_self n, e, new) refl) none
          in
          one_more (phasers_of t (Phaser n (Make u m terms) ∷ w)) (phasers_of t w) n joined (subst (λ v. length (phasers_of v w) + 1 ≤ 16) same (has_room_to_make l w n u m terms a.0))
      | inr e ↦ subst (λ ns. length ns ≤ 16) (sym (phasers_same t (Phaser n (Make u m terms)) w e)) (few l w a.1 t)
    ]
few l (Phaser n (Reg q u m) ∷ w) k t =
    let a = last_accepted l (Phaser n (Reg q u m)) w k in
    elim (cases_Bool (u == t)) [
      | inl e ↦
          let same : u ≡ t = eqb-true u t e in
          let f : RegFollows l (phaser_past n w) q u m = reg_finds l w n q u m a.0 in
          let unknown : is_registered t (phaser_past n w) ≡ false = subst (λ v. is_registered v (phaser_past n w) ≡ false) same f.unknown in
          let gone : is_dropped t (phaser_past n w) ≡ false = fresh_not_dropped l (terms_of n w) (phaser_past n w) t (phasers_legal l w a.1 n) unknown in
          let none : joins t n w ≡ 0 = joined_once l w a.1 t n ∙ ap (λ b. cond b 1 0) unknown in
          let joined : phasers_of t (Phaser n (Reg q u m) ∷ w) ≡ phasers_of t w ++ n ∷ [] =
          own_joined t n (Reg q u m) w (rw e refl) (rw (eq_self n, e, gone) refl) none
          in
          let r : IsRegistering l n q u m w = registering l w n q u m a.1 a.0 in
          let fewer : length (phasers_of u w) + 1 ≤ length (phasers_of q w) = fewer_than_parent l q u w r.rest n m a.1 r.begun r.here in
          let most : length (phasers_of q w) ≤ 16 = few l w a.1 q in
          one_more (phasers_of t (Phaser n (Reg q u m) ∷ w)) (phasers_of t w) n joined (subst (λ v. length (phasers_of v w) + 1 ≤ 16) same (omega (arith, fewer, most)))
      | inr e ↦ subst (λ ns. length ns ≤ 16) (sym (phasers_same t (Phaser n (Reg q u m)) w e)) (few l w a.1 t)
    ]
few l (Phaser n s ∷ w) k t =
    let before : length (phasers_of t w) ≤ 16 = few l w (last_accepted l (Phaser n s) w k).1 t in
    let after = fewer_after t n s w (λ i. refl) in
    omega (arith, before, after)
few l (e ∷ w) k t = few l w (last_accepted l e w k).1 t

pub phasers_held_are_few : PhasersHeldAreFew
phasers_held_are_few l w k t = few l w k t
