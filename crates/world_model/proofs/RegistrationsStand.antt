-- In a spawn under way each registration that is due can be made:
-- its parent is there, in scope, and the child isn't.
use Rattle.std.proofs.Common.{◌≡◌, ℕ, Bool, true, false, ◌&&◌, ◌==◌, not, nat_lt, List, [], ◌∷◌, Some, refl, sym, subst, ap, ◌∙◌, inl, inr}
use Rattle.std.specs.List.{list_any, list_all}
use Rattle.std.proofs.lemmas.Bool.{and_parts, and_from, or_parts, cases_Bool, eqb-true, eq-eqb, not-true, true≢false, false≢true, false_from_ne_true}
use Rattle.phase_modes.specs.Lists.{is_empty}
use Rattle.phase_modes.specs.declared.reg.Mode.{Mode}
use Rattle.phase_modes.specs.declared.limits.Limits.{Limits}
use Rattle.phase_modes.specs.declared.phased.Pair.{Pair}
use Rattle.phase_modes.specs.declared.refusal.Refusal.TheVariants.{TasksFull}
use Rattle.phase_model.specs.Tasks.{is_registered, is_live}
use Rattle.phase_model.specs.Conditions.{is_within_task}
use Rattle.phase_model.proofs.Closing.{some_live}
use Rattle.finish_core.specs.declared.event.FinishEvent.TheVariants.{Spawned}
use Rattle.world_model.specs.declared.event.Step.TheVariants.{Make, Reg, Claim, Did}
use Rattle.world_model.specs.declared.event.Begun.TheVariants.{Async}
use Rattle.world_model.specs.declared.event.WorldEvent.{WorldEvent}
use Rattle.world_model.specs.declared.event.WorldEvent.TheVariants.{Phaser, Finish, Begin, Refuse, Fail}
use Rattle.world_model.specs.Parts.{phaser_past}
use Rattle.world_model.specs.Scopes.{inner, enclosing}
use Rattle.world_model.specs.Numbers.{is_phaser}
use Rattle.world_model.specs.Tasks.{is_born}
use Rattle.world_model.specs.Actors.{actor}
use Rattle.world_model.specs.Due.{due, fixed, is_entry, is_of_single}
use Rattle.world_model.specs.Replies.{is_legal_world, is_accepted}
use Rattle.world_model.specs.Acts.{facts}
use Rattle.world_model.specs.ActConditions.{pair_conditions}
use Rattle.world_model.specs.TaskConditions.{last_entry}
use Rattle.world_model.proofs.MadeMeans.{no_refusal, begin_asked}
use Rattle.world_model.proofs.PhasersLegal.{new_past}
use Rattle.world_model.proofs.SpawnUnderWay.{begins_spawn, is_spawn_list, spawn_due, names_fresh, named_by_spawn}
use Rattle.world_model.proofs.BornWhereNamed.{unborn_child}
use Rattle.world_model.proofs.PassesInTurns.{unborn_none, registered_named}
use Rattle.world_model.proofs.OpenFinishes.{inner_by_others}
use Rattle.world_model.proofs.AgentOfTask.{touches, untouched, untouched_born, born_once, agent}
use Rattle.world_model.proofs.UntouchedStays.{IsAlike, alike, alike_single, same_mode_test}
use Rattle.world_model.proofs.DueStays.{due_stays}
use Rattle.world_model.proofs.PairsAsked.{may_join, registers_on, joins_apart, MayJoin, nothing_joins, some_registered, joining, pairs_join, pairs_apart}
use Rattle.world_model.proofs.SmallWords.{empty_is}

-- a phaser stays one, with its enclosing finish
pub enclosing_later : (l : Limits) (n : ℕ) (e : WorldEvent) (w : List WorldEvent) → is_accepted l w e ≡ true
    → is_phaser n w ≡ true → enclosing n (e ∷ w) ≡ enclosing n w
enclosing_later l n (Phaser m (Make u mode terms)) w a k =
    elim (cases_Bool (m == n)) [
      | inl s ↦
          absurd (true≢false (sym k ∙ subst (λ v. is_phaser v w ≡ false) (eqb-true m n s)
          (ap (λ h. not (is_empty h)) (new_past l w m u mode terms a))))
      | inr s ↦ rw s refl
    ]
enclosing_later l n e w a k = refl

-- whom a spawn names was never registered
pub unregistered : (l : Limits) (w : List WorldEvent) (u x : ℕ) (ps : List Pair) → is_legal_world l w ≡ true
    → is_accepted l w (Begin u (Async x ps)) ≡ true → (n : ℕ) → is_registered x (phaser_past n w) ≡ false
unregistered l w u x ps k a n =
    false_from_ne_true (is_registered x (phaser_past n w))
    (λ r. true≢false (sym (registered_named l x n w k r) ∙ names_fresh l w u x ps a))

module _ (l : Limits) (q c : ℕ) where
  entry_joins : (e : WorldEvent) (w : List WorldEvent) → is_legal_world l w ≡ true → is_accepted l w e ≡ true
      → is_entry q e ≡ true → begins_spawn c (Some e) ≡ true → MayJoin q c (e ∷ w) (fixed e w)
  entry_joins (Begin u (Async x ps)) w k a n s =
      let asked =
      (no_refusal TasksFull (nat_lt x l.tasks) (pair_conditions (facts w u) [] ps)
      (begin_asked l w u (Async x ps) a)).1 in
      let fresh = unregistered l w u x ps k a in
      subst (λ v. MayJoin v c (Begin u (Async x ps) ∷ w) (joining u x (inner u w) ps)) (eqb-true u q n)
      (subst (λ v. MayJoin u v (Begin u (Async x ps) ∷ w) (joining u x (inner u w) ps)) (eqb-true x c s)
      (record {
        each = pairs_join w u x fresh [] ps asked;
        apart = pairs_apart w u x fresh [] ps asked;
        scope = λ some m r. absurd (true≢false (sym r ∙ fresh m));
      }))
  entry_joins (Begin u b) w k a n s = absurd cc
  entry_joins (Refuse u b x) w k a n s = absurd cc
  entry_joins (Fail u x) w k a n s = absurd cc
  entry_joins (Phaser m r) w k a n s = absurd cc
  entry_joins (Finish f r) w k a n s = absurd cc

  all_step : (p r x : WorldEvent → Bool) (ds : List WorldEvent) → ((d : WorldEvent) → p d ≡ true → x d ≡ false
      → r d ≡ true) → list_all p ds ≡ true → list_any x ds ≡ false → list_all r ds ≡ true
  all_step p r x [] k a n = refl
  all_step p r x (d ∷ ds) k a n =
      let y = and_parts (p d) (list_all p ds) a in
      let z = or_parts (x d) (list_any x ds) n in
      and_from (r d) (list_all r ds) (k d y.0 z.0) (all_step p r x ds k y.1 z.1)

  all_keep : (p r : WorldEvent → Bool) (ds : List WorldEvent) → ((d : WorldEvent) → p d ≡ true → r d ≡ true)
      → list_all p ds ≡ true → list_all r ds ≡ true
  all_keep p r [] k a = refl
  all_keep p r (d ∷ ds) k a =
      let y = and_parts (p d) (list_all p ds) a in
      and_from (r d) (list_all r ds) (k d y.0) (all_keep p r ds k y.1)

  -- after a registration on n the others can still be made
  join_after : (w : List WorldEvent) (n r x : ℕ) (m : Mode) (d : WorldEvent) → may_join q c w d ≡ true
      → registers_on n d ≡ false → may_join q c (Phaser n (Reg r x m) ∷ w) d ≡ true
  join_after w n r x m (Phaser k (Reg t y mode)) j o = rw (other n k o) j
    where
      other : (n k : ℕ) → (k == n) ≡ false → (n == k) ≡ false
      other n k o =
          false_from_ne_true (n == k) (λ e. true≢false (sym (eq-eqb k n (sym (eqb-true n k e))) ∙ o))
  join_after w n r x m (Finish f (Spawned y)) j o = j
  join_after w n r x m (Phaser k s) j o = refl
  join_after w n r x m (Finish f s) j o = refl
  join_after w n r x m (Begin u b) j o = refl
  join_after w n r x m (Refuse u b y) j o = refl
  join_after w n r x m (Fail u y) j o = refl

  third : (a b c d : Bool) → (a && b && c && d) ≡ true → c ≡ true
  third true true true d k = refl
  third true true false d k = absurd (false≢true k)
  third true false c d k = absurd (false≢true k)
  third false b c d k = absurd (false≢true k)

  own_joins : (e : WorldEvent) (w ds : List WorldEvent) → is_spawn_list q c (e ∷ ds) ≡ true
      → MayJoin q c w (e ∷ ds) → MayJoin q c (e ∷ w) ds
  own_joins (Phaser n (Reg r x m)) w ds s p =
      let e = Phaser n (Reg r x m) in
      let a = and_parts (may_join q c w e) (list_all (may_join q c w) ds) p.each in
      let b = and_parts (not (list_any (registers_on n) ds)) (joins_apart ds) p.apart in
      record {
        each =
            all_step (may_join q c w) (may_join q c (e ∷ w)) (registers_on n) ds
            (λ d j o. join_after w n r x m d j o) a.1 (not-true (list_any (registers_on n) ds) b.0);
        apart = b.1;
        scope = λ some v g. elim (cases_Bool (n == v)) [
          | inl same ↦
              subst (λ y. (enclosing y w == inner q w) ≡ true) (eqb-true n v same)
              (third (is_live q (phaser_past n w)) (is_within_task m q (phaser_past n w))
              (enclosing n w == inner q w) (not (is_registered c (phaser_past n w))) a.0)
          | inr other ↦ p.scope refl v (rw other at g)
        ];
      }
  own_joins (Finish f (Spawned x)) w ds s p =
      let none : ds ≡ [] =
      empty_is ds (and_parts (x == c) (is_empty ds)
      (and_parts ((x == c) && is_empty ds) (is_spawn_list q c ds) s).0).1 in
      subst (λ xs. MayJoin q c (Finish f (Spawned x) ∷ w) xs) (sym none)
      (nothing_joins q c (Finish f (Spawned x) ∷ w))
  own_joins (Phaser n r) w ds s p = absurd (false≢true s)
  own_joins (Finish f r) w ds s p = absurd (false≢true s)
  own_joins (Begin u b) w ds s p = absurd (false≢true s)
  own_joins (Refuse u b x) w ds s p = absurd (false≢true s)
  own_joins (Fail u x) w ds s p = absurd (false≢true s)

  join_later : (e : WorldEvent) (w : List WorldEvent) → is_accepted l w e ≡ true
      → ((n : ℕ) → IsAlike q (phaser_past n (e ∷ w)) (phaser_past n w))
      → ((n : ℕ) → is_registered c (phaser_past n (e ∷ w)) ≡ is_registered c (phaser_past n w))
      → inner q (e ∷ w) ≡ inner q w
      → (d : WorldEvent) → may_join q c w d ≡ true → may_join q c (e ∷ w) d ≡ true
  join_later e w a q_same c_same i (Phaser n (Reg r x m)) j =
      let h = phaser_past n w in
      let g = phaser_past n (e ∷ w) in
      let live : is_live q h ≡ true =
      first (is_live q h) (is_within_task m q h) (enclosing n w == inner q w)
      (not (is_registered c h)) j in
      let there : is_phaser n w ≡ true = ap (λ b. not b) (some_live q h live) in
      four (is_live q g) (is_live q h) (is_within_task m q g) (is_within_task m q h) (enclosing n
      (e ∷ w) == inner q (e ∷ w)) (enclosing n w == inner q w) (is_registered c g) (is_registered c h)
      (q_same n).live (same_mode_test _ q g h (q_same n)) (ap (λ v. v == inner q (e ∷ w))
      (enclosing_later l n e w a there) ∙ ap (λ v. enclosing n w == v) i) (c_same n) j
    where
      first : (a b c d : Bool) → (a && b && c && d) ≡ true → a ≡ true
      first true b c d k = refl
      first false b c d k = absurd (false≢true k)

      four : (a a' b b' c c' d d' : Bool) → a ≡ a' → b ≡ b' → c ≡ c' → d ≡ d'
          → (a' && b' && c' && not d') ≡ true → (a && b && c && not d) ≡ true
      four a a' b b' c c' d d' p r s t k = rw (p, r, s, t) k
  join_later e w a q_same c_same i (Finish f (Spawned x)) j = ap (λ v. f == v) i ∙ j
  join_later e w a q_same c_same i (Phaser n s) j = refl
  join_later e w a q_same c_same i (Finish f s) j = refl
  join_later e w a q_same c_same i (Begin u b) j = refl
  join_later e w a q_same c_same i (Refuse u b x) j = refl
  join_later e w a q_same c_same i (Fail u x) j = refl

  -- whoever joined is in scope still
  scope_later : (e : WorldEvent) (w ds : List WorldEvent) → is_accepted l w e ≡ true
      → ((n : ℕ) → is_registered c (phaser_past n (e ∷ w)) ≡ is_registered c (phaser_past n w))
      → inner q (e ∷ w) ≡ inner q w → MayJoin q c w ds → is_empty ds ≡ false → (n : ℕ)
      → is_registered c (phaser_past n (e ∷ w)) ≡ true → (enclosing n (e ∷ w) == inner q (e ∷ w)) ≡ true
  scope_later e w ds a c_same i p some n r =
      let old : is_registered c (phaser_past n w) ≡ true = sym (c_same n) ∙ r in
      let there : is_phaser n w ≡ true = ap (λ b. not b) (some_registered c (phaser_past n w) old) in
      ap (λ v. v == inner q (e ∷ w)) (enclosing_later l n e w a there)
      ∙ (ap (λ v. enclosing n w == v) i ∙ p.scope some n old)

  inner_single : (e : WorldEvent) (w : List WorldEvent) → is_of_single e ≡ true → inner q (e ∷ w) ≡ inner q w
  inner_single (Phaser m (Claim u)) w s = refl
  inner_single (Phaser m (Did u)) w s = refl
  inner_single e w s = absurd (false≢true s)

  -- who spawns was born
  pub spawner_born : (w : List WorldEvent) → is_legal_world l w ≡ true → begins_spawn c (last_entry q w) ≡ true
      → is_born q w ≡ true
  spawner_born w k s =
      elim (cases_Bool (is_born q w)) [
        | inl b ↦ b
        | inr b ↦ absurd (true≢false (sym s ∙ ap (begins_spawn c) (unborn_none l q w k b)))
      ]

  other_joins : (e : WorldEvent) (w : List WorldEvent) → is_legal_world l w ≡ true → is_accepted l w e ≡ true
      → begins_spawn c (last_entry q w) ≡ true
      → (actor w e == q && not (is_of_single e)) ≡ false → MayJoin q c w (due q w)
      → MayJoin q c (e ∷ w) (due q w)
  other_joins e w k a s o p =
      elim (cases_Bool (is_empty (due q w))) [
        | inl none ↦
            subst (λ ds. MayJoin q c (e ∷ w) ds) (sym (empty_is (due q w) none)) (nothing_joins q c (e ∷ w))
        | inr some ↦
            elim (cases_Bool (is_of_single e)) [
              | inl single ↦
                  record {
                    each = all_keep (may_join q c w) (may_join q c (e ∷ w)) (due q w)
                        (join_later e w a (λ n. alike_single q n e w single) (λ n.
                        (alike_single c n e w single).registered) (inner_single e w single)) p.each;
                    apart = p.apart;
                    scope =
                        scope_later e w (due q w) a (λ n. (alike_single c n e w single).registered)
                        (inner_single e w single) p;
                  }
              | inr plain ↦
                  let foreign : (actor w e == q) ≡ false =
                  subst (λ b. b ≡ false) (with_true (actor w e == q) (is_of_single e) plain) o in
                  let born = spawner_born w k s in
                  let unborn : is_born c w ≡ false = unborn_child l q c w k s some in
                  let by : agent c w ≡ q = rw unborn (named_by_spawn l q c w k s).1 in
                  let q_same : touches q e ≡ false = untouched_born l w k e q a born foreign in
                  let c_same : touches c e ≡ false = untouched l w k e c q a by foreign in
                  let inside : inner q (e ∷ w) ≡ inner q w =
                  inner_by_others l w k q e foreign (born_once l w e q k a born) in
                  record {
                    each =
                        all_keep (may_join q c w) (may_join q c (e ∷ w)) (due q w) (join_later e w a (λ n.
                        alike q n e w q_same) (λ n. (alike c n e w c_same).registered) inside) p.each;
                    apart = p.apart;
                    scope = scope_later e w (due q w) a (λ n. (alike c n e w c_same).registered) inside p;
                  }
            ]
      ]
    where
      with_true : (x y : Bool) → y ≡ false → (x && not y) ≡ x
      with_true true true n = absurd cc
      with_true true false n = refl
      with_true false y n = refl

  -- what is due in a spawn can be made
  pub spawn_stands : (w : List WorldEvent) → is_legal_world l w ≡ true
      → begins_spawn c (last_entry q w) ≡ true → MayJoin q c w (due q w)
  spawn_stands w k s =
      due_stays l q (begins_spawn c) (MayJoin q c) (λ b. false≢true b)
      (λ e v kv a b n m none p. nothing_joins q c (e ∷ v))
      entry_joins
      (λ e v ds kv a b n o m here p.
      own_joins e v ds (subst (λ xs. is_spawn_list q c xs ≡ true) here (spawn_due l q c v kv b)) p)
      (λ e v kv a b n o p. other_joins e v kv a b o p)
      w k s
