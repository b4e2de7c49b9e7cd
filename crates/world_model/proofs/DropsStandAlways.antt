-- Each moment of the drops that are due to a task.
use Rattle.std.proofs.Common.{◌≡◌, ℕ, Bool, true, false, ◌&&◌, ◌||◌, ◌==◌, not, cond, List, [], ◌∷◌, ◌++◌, map, Some, refl, sym, subst, ap, ◌∙◌, inl, inr, arith}
use Rattle.std.specs.Prelude.{drop, filter, flat_map}
use Rattle.std.specs.List.{list_any, list_all}
use Rattle.std.proofs.lemmas.Bool.{and_parts, and_from, or_right, cases_Bool, eqb-true, eq-eqb, true≢false, false≢true}
use Rattle.std.proofs.lemmas.List.Folds.{list_all-append}
use Rattle.phase_modes.specs.declared.limits.Limits.{Limits}
use Rattle.phase_model.specs.declared.history.Event.TheVariants.{Drop as Dropped}
use Rattle.phase_model.specs.Tasks.{is_registered, is_dropped, is_live}
use Rattle.finish_core.specs.declared.event.FinishEvent.TheVariants.{Spawned, Ended, Shut as Shutting}
use Rattle.world_model.specs.declared.event.Step.TheVariants.{Drop}
use Rattle.world_model.specs.declared.event.Begun.TheVariants.{Async, Shut, End}
use Rattle.world_model.specs.declared.event.Tried.TheVariants.{Begun as Beginning}
use Rattle.world_model.specs.declared.event.WorldEvent.{WorldEvent}
use Rattle.world_model.specs.declared.event.WorldEvent.TheVariants.{Phaser, Finish, Begin, Refuse, Fail}
use Rattle.world_model.specs.Parts.{phaser_past}
use Rattle.world_model.specs.Tasks.{home, spawner, spawns, is_born, phasers_of}
use Rattle.world_model.specs.Scopes.{inner, enclosing, open_finishes}
use Rattle.world_model.specs.Numbers.{is_named}
use Rattle.world_model.specs.Actors.{actor}
use Rattle.world_model.specs.Due.{due, fixed, ending, drops_due, unborn, is_entry, is_of_single}
use Rattle.world_model.specs.Replies.{is_legal_world, is_accepted}
use Rattle.world_model.specs.TaskConditions.{last_entry}
use Rattle.world_model.proofs.AbleComputed.{idle_in_act, refuse_idle, made_done_where}
use Rattle.world_model.proofs.DueHolds.{due_has}
use Rattle.world_model.proofs.SpawnUnderWay.{names_fresh}
use Rattle.world_model.proofs.PassesInTurns.{idle_is_born, fail_born}
use Rattle.world_model.proofs.AgentOfTask.{agent, touches, touched_by, birth_unborn, unborn_idle}
use Rattle.world_model.proofs.UntouchedStays.{alike, alike_single}
use Rattle.world_model.proofs.DueStays.{due_stays}
use Rattle.world_model.proofs.LeavingList.{is_drop_of, last_of, shuts_of}
use Rattle.world_model.proofs.LeavingAlways.{live_named}
use Rattle.world_model.proofs.LeavesAtEnds.{is_leave, leaves_act}
use Rattle.world_model.proofs.TurnsStand.{first_is_last, fewer}
use Rattle.world_model.proofs.DropsStand.{DropsStand, ending_stands, failing_stands, shut_stands}

-- who enters an act was born
pub entered_born : (l : Limits) (w : List WorldEvent) (t : ℕ) (e : WorldEvent) → is_legal_world l w ≡ true
    → is_accepted l w e ≡ true → is_entry t e ≡ true → is_born t w ≡ true
entered_born l w t (Begin u b) k a n =
    subst (λ v. is_born v w ≡ true) (eqb-true u t n) (idle_is_born u w (idle_in_act l w u (Beginning b) a))
entered_born l w t (Refuse u b x) k a n =
    subst (λ v. is_born v w ≡ true) (eqb-true u t n)
    (idle_is_born u w (refuse_idle l w u b x (made_done_where _ a)))
entered_born l w t (Fail u x) k a n =
    elim (cases_Bool (is_born t w)) [
      | inl b ↦ b
      | inr b ↦
          let same : u ≡ t = eqb-true u t n in
          let none = subst (λ v. due v w ≡ []) (sym same) (unborn_idle l t w k b) in
          subst (λ v. is_born v w ≡ true) same
          (idle_is_born u w (fail_born l w u x none (made_done_where _ a)))
    ]
entered_born l w t (Phaser m s) k a n = absurd (false≢true n)
entered_born l w t (Finish f s) k a n = absurd (false≢true n)

-- in such an act nothing else is due
all_map : {X : Type 0} (p : WorldEvent → Bool) (f : X → WorldEvent) (xs : List X) → ((x : X) → p (f x) ≡ true)
    → list_all p (map f xs) ≡ true
all_map p f [] k = refl
all_map p f (x ∷ xs) k = and_from (p (f x)) (list_all p (map f xs)) (k x) (all_map p f xs k)

all_both : (p : WorldEvent → Bool) (xs ys : List WorldEvent) → list_all p xs ≡ true → list_all p ys ≡ true
    → list_all p (xs ++ ys) ≡ true
all_both p xs ys a b = list_all-append p xs ys ∙ and_from (list_all p xs) (list_all p ys) a b

drops_leave : (t : ℕ) (ns : List ℕ) → list_all is_leave (map (λ n. Phaser n (Drop t)) ns) ≡ true
drops_leave t ns = all_map is_leave (λ n. Phaser n (Drop t)) ns (λ n. refl)

flat_leaves : (w : List WorldEvent) (cs : List ℕ)
    → list_all is_leave (flat_map (λ c. drops_due c w) cs) ≡ true
flat_leaves w [] = refl
flat_leaves w (c ∷ cs) =
    all_both is_leave (drops_due c w) (flat_map (λ x. drops_due x w) cs)
    (drops_leave c (phasers_of c w)) (flat_leaves w cs)

ending_leaves : (t : ℕ) (w : List WorldEvent) → list_all is_leave (ending t w) ≡ true
ending_leaves t w =
    all_both is_leave (drops_due t w ++ shuts_of (open_finishes t w)) (last_of t w ∷ [])
    (all_both is_leave (drops_due t w) (shuts_of (open_finishes t w)) (drops_leave t (phasers_of t w))
    (all_map is_leave (λ f. Finish f Shutting) (open_finishes t w) (λ f. refl))) (last_leaves (t == 0))
  where
    last_leaves : (b : Bool)
        → list_all is_leave (cond b (Finish 0 Shutting) (Finish (home t w) (Ended t)) ∷ []) ≡ true
    last_leaves true = refl
    last_leaves false = refl

entry_leaves : (t : ℕ) (e : WorldEvent) (w : List WorldEvent) → is_entry t e ≡ true
    → leaves_act (Some e) ≡ true → list_all is_leave (fixed e w) ≡ true
entry_leaves t (Begin u End) w n q = ending_leaves u w
entry_leaves t (Begin u Shut) w n q =
    let ns = filter (λ m. enclosing m w == inner u w) (phasers_of u w) in
    all_both is_leave (map (λ m. Phaser m (Drop u)) ns) (Finish (inner u w) Shutting ∷ [])
    (drops_leave u ns) refl
entry_leaves t (Refuse u b x) w n q = ending_leaves u w
entry_leaves t (Fail u x) w n q =
    all_both is_leave (flat_map (λ c. drops_due c w) (unborn u w)) (ending u w) (flat_leaves w (unborn u w))
    (ending_leaves u w)
entry_leaves t e w n q = absurd cc

less_leaves : (ds : List WorldEvent) → list_all is_leave ds ≡ true → list_all is_leave (drop 1 ds) ≡ true
less_leaves [] k = refl
less_leaves (d ∷ ds) k = (and_parts (is_leave d) (list_all is_leave ds) k).1

pub leaves_only : (l : Limits) (t : ℕ) (w : List WorldEvent) → is_legal_world l w ≡ true
    → leaves_act (last_entry t w) ≡ true → list_all is_leave (due t w) ≡ true
leaves_only l t w k q =
    due_has l t leaves_act (λ ds. list_all is_leave ds ≡ true) refl less_leaves
    (λ e v h x y. entry_leaves t e v x y) w k q

nothing_dropped : (t : ℕ) (w : List WorldEvent) → DropsStand t w []
nothing_dropped t w = record { each = λ u n h. absurd (false≢true h); once = λ u n. omega arith }

drop_entry : (l : Limits) (t : ℕ) (e : WorldEvent) (w : List WorldEvent) → is_legal_world l w ≡ true
    → is_born t w ≡ true → is_entry t e ≡ true → leaves_act (Some e) ≡ true → DropsStand t (e ∷ w) (fixed e w)
drop_entry l t (Begin u End) w k b n q =
    let same : u ≡ t = eqb-true u t n in
    let p = ending_stands l w k u (subst (λ v. is_born v w ≡ true) (sym same) b) in
    subst (λ v. DropsStand v (Begin u End ∷ w) (ending u w)) same (record { each = p.each; once = p.once })
drop_entry l t (Begin u Shut) w k b n q =
    let same : u ≡ t = eqb-true u t n in
    let p =
    shut_stands l w k u (subst (λ v. is_born v w ≡ true) (sym same) b) (inner u w)
    (λ m. enclosing m w == inner u w) in
    subst (λ v. DropsStand v (Begin u Shut ∷ w) (fixed (Begin u Shut) w)) same
    (record { each = p.each; once = p.once })
drop_entry l t (Refuse u c x) w k b n q =
    let same : u ≡ t = eqb-true u t n in
    let p = ending_stands l w k u (subst (λ v. is_born v w ≡ true) (sym same) b) in
    subst (λ v. DropsStand v (Refuse u c x ∷ w) (ending u w)) same (record { each = p.each; once = p.once })
drop_entry l t (Fail u x) w k b n q =
    let same : u ≡ t = eqb-true u t n in
    let p = failing_stands l w k u (subst (λ v. is_born v w ≡ true) (sym same) b) in
    subst (λ v. DropsStand v (Fail u x ∷ w) (flat_map (λ c. drops_due c w) (unborn u w) ++ ending u w)) same
    (record { each = p.each; once = p.once })
drop_entry l t e w k b n q = absurd cc

-- after a drop the others stand
after_drop : (t : ℕ) (w ds : List WorldEvent) (m v : ℕ) → DropsStand t w (Phaser m (Drop v) ∷ ds)
    → DropsStand t (Phaser m (Drop v) ∷ w) ds
after_drop t w ds m v p =
    let d = Phaser m (Drop v) in
    record {
      each = λ u n h.
          let q = p.each u n (or_right (m == n && v == u) (list_any (is_drop_of u n) ds) h) in (
            q.0,
            elim (cases_Bool (m == n)) [
              | inr x ↦ rw x q.1
              | inl x ↦
                  elim (cases_Bool (v == u)) [
                    | inl y ↦
                        absurd (true≢false (sym h ∙ first_is_last (is_drop_of u n) d ds (p.once u n)
                        (and_from (m == n) (v == u) x y)))
                    | inr y ↦
                        subst (λ b. is_live u (cond b (Dropped v ∷ phaser_past n w) (phaser_past n w)) ≡ true)
                        (sym x)
                        (subst (λ b. (is_registered u (phaser_past n w)
                        && not (b || is_dropped u (phaser_past n w))) ≡ true) (sym y) q.1)
                  ]
            ],
          );
      once = λ u n. fewer (is_drop_of u n) d ds (p.once u n);
    }

own_drops : (t : ℕ) (e : WorldEvent) (w ds : List WorldEvent) → list_all is_leave (e ∷ ds) ≡ true
    → DropsStand t w (e ∷ ds) → DropsStand t (e ∷ w) ds
own_drops t (Phaser m (Drop v)) w ds s p = after_drop t w ds m v p
own_drops t (Finish f Shutting) w ds s p = record { each = λ u n h. p.each u n h; once = p.once }
own_drops t (Finish f (Ended v)) w ds s p = record { each = λ u n h. p.each u n h; once = p.once }
own_drops t e w ds s p = absurd cc

module _ (l : Limits) (w : List WorldEvent) (k : is_legal_world l w ≡ true) (t : ℕ) where
  agent_forth : (e : WorldEvent) (u n : ℕ) → is_accepted l w e ≡ true
      → (actor w e == t && not (is_of_single e)) ≡ false → agent u w ≡ t → is_live u (phaser_past n w) ≡ true
      → agent u (e ∷ w) ≡ t
  agent_forth (Finish f (Spawned c)) u n a o g v =
      elim (cases_Bool (c == u)) [
        | inl s ↦
            let same : c ≡ u = eqb-true c u s in
            let fresh = subst (λ x. is_born x w ≡ false) same (birth_unborn l w f c k a) in
            let by : spawner c w ≡ t =
            ap (λ x. spawner x w) same ∙ (sym (ap (λ b. cond b u (spawner u w)) fresh) ∙ g) in
            absurd (true≢false (sym (and_from (spawner c w == t) true (eq-eqb (spawner c w) t by) refl) ∙ o))
        | inr s ↦ subst (λ b. cond ((u == 0) || (b || list_any (spawns u) w)) u (spawner u w) ≡ t) (sym s) g
      ]
  agent_forth (Begin q (Async x ps)) u n a o g v =
      elim (cases_Bool (x == u)) [
        | inl s ↦
            absurd (true≢false (sym (live_named l w u n k v)
            ∙ subst (λ y. is_named y w ≡ false) (eqb-true x u s) (names_fresh l w q x ps a)))
        | inr s ↦ subst (λ b. cond (is_born u w) u (cond b q (spawner u w)) ≡ t) (sym s) g
      ]
  agent_forth e u n a o g v = g

  live_forth : (e : WorldEvent) (u n : ℕ) → is_accepted l w e ≡ true
      → (actor w e == t && not (is_of_single e)) ≡ false → agent u w ≡ t → is_live u (phaser_past n w) ≡ true
      → is_live u (phaser_past n (e ∷ w)) ≡ true
  live_forth e u n a o g v =
      elim (cases_Bool (touches u e)) [
        | inr s ↦ (alike u n e w s).live ∙ v
        | inl s ↦
            let mine : actor w e ≡ t = touched_by l w k e u a s ∙ g in
            (alike_single u n e w
            (must_single (actor w e == t) (is_of_single e) (eq-eqb (actor w e) t mine) o)).live ∙ v
      ]
    where
      must_single : (a b : Bool) → a ≡ true → (a && not b) ≡ false → b ≡ true
      must_single true true x y = refl
      must_single true false x y = absurd (true≢false y)
      must_single false b x y = absurd (false≢true x)

  other_drops : (e : WorldEvent) (ds : List WorldEvent) → is_accepted l w e ≡ true
      → (actor w e == t && not (is_of_single e)) ≡ false → DropsStand t w ds → DropsStand t (e ∷ w) ds
  other_drops e ds a o p =
      record {
        each = λ u n h. let q = p.each u n h in (agent_forth e u n a o q.0 q.1, live_forth e u n a o q.0 q.1);
        once = p.once;
      }

-- each drop that is due stands
pub drops_stand : (l : Limits) (t : ℕ) (w : List WorldEvent) → is_legal_world l w ≡ true
    → leaves_act (last_entry t w) ≡ true → DropsStand t w (due t w)
drops_stand l t w k q =
    due_stays l t leaves_act (DropsStand t) (λ b. false≢true b)
    (λ e v kv a x n m d p. nothing_dropped t (e ∷ v))
    (λ e v kv a n x. drop_entry l t e v kv (entered_born l v t e kv a n) n x)
    (λ e v ds kv a x n s m here p.
    own_drops t e v ds (subst (λ xs. list_all is_leave xs ≡ true) here (leaves_only l t v kv x)) p)
    (λ e v kv a x n o p. other_drops l v kv t e (due t v) a o p)
    w k q
