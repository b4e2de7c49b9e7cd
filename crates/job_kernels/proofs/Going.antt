-- Where the tasks of a plan stand in each history in which they go on, if each look saw what it was to see.
use Rattle.std.proofs.Common.{ℕ, ℤ, ◌+◌, ◌≡◌, ◌≤◌, ◌<◌, ◌∙◌, ◌⊎◌, inl, inr, Bool, true, false, ◌==◌, not, nat_lt, cond, List, [], ◌∷◌, ◌++◌, Option, Some, None, refl, sym, ap, subst, arith}
use Rattle.std.specs.List.{list_any, list_all}
use Rattle.std.proofs.lemmas.Bool.{and_from, or_parts, cases_Bool, eqb-true, eq-eqb, lt-ltb, le-ltb, ltb-true, ltb-false, true≢false, false≢true, false_from_ne_true}
use Rattle.std.proofs.lemmas.List.{append-nil}
use Rattle.std.proofs.lemmas.Option.{same_Some, none-some}
use Rattle.phase_modes.specs.declared.limits.Limits.{Limits}
use Rattle.phase_modes.specs.declared.reg.Mode.TheVariants.{SigWait}
use Rattle.phase_modes.specs.declared.reg.Mode.{Mode}
use Rattle.phase_model.specs.declared.terms.Terms.{Terms}
use Rattle.phase_model.specs.Phases.{waits, signals}
use Rattle.phase_model.specs.Values.{sent}
use Rattle.phase_model.specs.declared.history.Event.TheVariants.{Send as Sent}
use Rattle.job_script.specs.declared.act.Act.TheVariants as acts
use Rattle.job_script.specs.declared.act.Answer.{Answer}
use Rattle.job_script.specs.declared.act.Answer.TheVariants.{Started, Done, Saw}
use Rattle.world_model.specs.ExampleWords.{unbounded}
use Rattle.world_model.specs.declared.event.Step.TheVariants.{Make, Send, Look}
use Rattle.world_model.specs.declared.event.Begun.TheVariants.{Async, Next, End}
use Rattle.world_model.specs.declared.event.WorldEvent.{WorldEvent}
use Rattle.world_model.specs.declared.event.WorldEvent.TheVariants.{Phaser, Begin}
use Rattle.world_model.specs.Parts.{phaser_past}
use Rattle.world_model.specs.Numbers.{names, is_named}
use Rattle.world_model.specs.Tasks.{is_born}
use Rattle.world_model.specs.Replies.{is_legal_world}
use Rattle.world_model.specs.TaskConditions.{last_entry}
use Rattle.world_model.proofs.PassesInTurns.{unborn_none}
use Rattle.world_model.proofs.PhasersLegal.{event_of}
use Rattle.world_model.proofs.BornWhereNamed.{born_named}
use Rattle.world_model.proofs.LeavingList.{ends_act}
use Rattle.trace_walk.specs.Scripts.{act_of, is_of, parent_by}
use Rattle.trace_walk.specs.Going.{heard, child_does, does}
use Rattle.job_kernels.specs.Tasks.{Does}
use Rattle.job_kernels.proofs.Numbers.{apart_next_le, le_next, lt_next, lt_not_same, same_lt_next, zero_least}
use Rattle.job_kernels.proofs.Plain.{IsPlain, is_plain, turns, spawned, child_at, flipped}
use Rattle.job_kernels.proofs.Paces.{unborn_turns}
use Rattle.job_kernels.proofs.Children.{at_below, child_named, child_no_root, one_place}
use Rattle.job_kernels.proofs.Joining.{SpawnsBy}
use Rattle.job_kernels.proofs.Making.{AllMade}
use Rattle.job_kernels.proofs.Telling.{is_refusal, IsSame, same}
use Rattle.job_kernels.proofs.Plans.{Shape, Starts, RootAt}

-- how many phasers were made
abbrev pub phasers_made : List WorldEvent → ℕ
phasers_made [] = 0
phasers_made (Phaser n (Make t m terms) ∷ w) = phasers_made w + 1
phasers_made (_ ∷ w) = phasers_made w

module _ (s : Shape) where
  open s use {Body, next, op, phasers, children, root, task, pairs, out, seen, phases, turns_of, At}

  -- what each task does next
  abbrev pub task_does : List WorldEvent → ℕ → Does Body
  task_does w t = does next (root 0 0) w t

  -- a look sees what is to be seen of the phase that has ended
  abbrev pub LookSees : List WorldEvent → ℕ → ℕ → ℕ → Type 0
  LookSees w n t a =
      (p : ℕ) → waits t (phaser_past n w) ≡ p + 1 → heard w (Phaser n (Look t a)) ≡ Saw (seen n p)

  -- and so did each
  abbrev pub LooksSaw : List WorldEvent → Type 0
  LooksSaw [] = Unit {0}
  LooksSaw (Phaser n (Look t a) ∷ w) = LookSees w n t a × LooksSaw w
  LooksSaw (_ ∷ w) = LooksSaw w

  -- the values of a phaser, of which those of so many phases are done
  abbrev pub out_if : ℕ → ℕ → ℕ → List ℤ
  out_if i done p = cond (nat_lt p done) (out i p) []

  -- the child of a place
  pub record TaskStands (i c : ℕ) (w : List WorldEvent) : Type 0 where
    pub done : ℕ
    pub goes : ends_act (last_entry c w) ≡ false → At i (turns c w) done (task_does w c)
    pub over : ends_act (last_entry c w) ≡ true → phases i ≤ done
    pub turned : ends_act (last_entry c w) ≡ true → turns c w ≡ turns_of i
    pub ahead : turns c w ≤ done
    pub most : done ≤ phases i
    pub values : (p : ℕ) → sent 0 p (phaser_past i w) ≡ out_if i done p

  -- all tasks
  pub record Standing (w : List WorldEvent) : Type 0 where
    pub plain : list_all is_plain w ≡ true
    pub handed : SpawnsBy pairs w
    pub made : AllMade op w
    pub at : RootAt s (phasers_made w) (spawned w) (task_does w 0)
    pub over : ends_act (last_entry 0 w) ≡ true → (phasers_made w ≡ phasers) × (spawned w ≡ children)
    pub tasks : (i c : ℕ) → child_at i w ≡ Some c → TaskStands i c w
    pub unsent : (i p : ℕ) → child_at i w ≡ None → sent 0 p (phaser_past i w) ≡ []

  -- what is left to a child, by the same turns
  moved_task : (i k j x : ℕ) (d e : Does Body) → k ≡ j → d ≡ e → At i j x e → At i k x d
  moved_task i k j x d e p o c = subst (λ y. At i y x d) (sym p) (subst (λ y. At i j x y) (sym o) c)

  -- the root, by the same counts
  moved_root : (m n m' n' : ℕ) (d e : Does Body) → m' ≡ m → n' ≡ n → d ≡ e → RootAt s m n e → RootAt s m' n' d
  moved_root m n m' n' d e a b o r =
      subst (λ x. RootAt s x n' d) (sym a)
      (subst (λ x. RootAt s m x d) (sym b) (subst (λ x. RootAt s m n x) (sym o) r))

  -- a task whose act the event isn't stands as before, where nothing was sent on its phaser
  task_kept : (i c : ℕ) (e : WorldEvent) (w : List WorldEvent) → IsSame next (root 0 0) c e w
      → ((p : ℕ) → sent 0 p (phaser_past i (e ∷ w)) ≡ sent 0 p (phaser_past i w))
      → TaskStands i c w → TaskStands i c (e ∷ w)
  task_kept i c e w as_was v p =
      record {
        done = p.done;
        goes = λ n.
            moved_task i (turns c (e ∷ w)) (turns c w) p.done (task_does (e ∷ w) c)
            (task_does w c) as_was.turned
            as_was.does_same (p.goes (subst (λ o. ends_act o ≡ false) as_was.last n));
        over = λ n. p.over (subst (λ o. ends_act o ≡ true) as_was.last n);
        turned = λ n. as_was.turned ∙ p.turned (subst (λ o. ends_act o ≡ true) as_was.last n);
        ahead = subst (λ x. x ≤ p.done) (sym as_was.turned) p.ahead;
        most = p.most;
        values = λ q. v q ∙ p.values q;
      }

  -- one phase more is done
  one_more : (i done p : ℕ) → cond (done == p) (out i done ++ out_if i done p) (out_if i done p)
      ≡ out_if i (done + 1) p
  one_more i done p = by_test (nat_lt p done) (done == p) refl refl
    where
      by_test : (b c : Bool) → nat_lt p done ≡ b → (done == p) ≡ c
          → cond c (out i done ++ out_if i done p) (out_if i done p) ≡ out_if i (done + 1) p
      by_test true true h g = absurd (lt_not_same p done (ltb-true p done h) (eqb-true done p g))
      by_test true false h g = rw (h, lt-ltb p (done + 1) (lt_next p done (ltb-true p done h))) refl
      by_test false true h g =
          let here : done ≡ p = eqb-true done p g in
          rw (h, lt-ltb p (done + 1) (same_lt_next p done here))
          (append-nil (out i done) ∙ ap (λ q. out i q) here)
      by_test false false h g =
          rw (
            h,
            le-ltb p (done + 1) (apart_next_le p done (λ e. true≢false (sym (eq-eqb done p e) ∙ g))
                (ltb-false p done h)),
          ) refl

  module _ (l : Limits) (w : List WorldEvent) (st : Standing w) (k : is_legal_world l w ≡ true) where
    -- the history is a plain one
    abbrev plain_now : IsPlain l w
    plain_now = record { legal = k; plain = st.plain }

    -- an event that is no act
    pub quiet : (e : WorldEvent) → is_refusal e ≡ false → is_plain e ≡ true
        → ((c : ℕ) → is_of c (act_of e) ≡ false) → ((c : ℕ) → parent_by c e ≡ None)
        → phasers_made (e ∷ w) ≡ phasers_made w → spawned (e ∷ w) ≡ spawned w
        → ((i : ℕ) → child_at i (e ∷ w) ≡ child_at i w) → SpawnsBy pairs (e ∷ w) → AllMade op (e ∷ w)
        → ((i p : ℕ) → sent 0 p (phaser_past i (e ∷ w)) ≡ sent 0 p (phaser_past i w)) → Standing (e ∷ w)
    quiet e r p none parent count_made count kids handed made values =
        let as_was : (c : ℕ) → IsSame next (root 0 0) c e w =
        λ c. same next (root 0 0) c e w r (none c) (parent c) in
        record {
          plain = and_from (is_plain e) (list_all is_plain w) p st.plain;
          handed = handed;
          made = made;
          at = moved_root (phasers_made w) (spawned w) (phasers_made (e ∷ w)) (spawned (e ∷ w))
              (task_does (e ∷ w) 0)
              (task_does w 0) count_made count (as_was 0).does_same st.at;
          over = λ n.
              let o = st.over (subst (λ o. ends_act o ≡ true) (as_was 0).last n) in
              (count_made ∙ o.0, count ∙ o.1);
          tasks = λ i c h. task_kept i c e w (as_was c) (values i) (st.tasks i c (sym (kids i) ∙ h));
          unsent = λ i q h. values i q ∙ st.unsent i q (sym (kids i) ∙ h);
        }

    -- an act of task t, which is no spawn: all others stay
    module _ (e : WorldEvent) (t : ℕ) (r : is_refusal e ≡ false) (p : is_plain e ≡ true)
        (of : (c : ℕ) → is_of c (act_of e) ≡ (t == c)) (parent : (c : ℕ) → parent_by c e ≡ None)
        (count : spawned (e ∷ w) ≡ spawned w) (kids : (i : ℕ) → child_at i (e ∷ w) ≡ child_at i w)
        (handed : SpawnsBy pairs (e ∷ w)) (made : AllMade op (e ∷ w)) where
      -- another task stays as it was
      other : (c : ℕ) → (t == c) ≡ false → IsSame next (root 0 0) c e w
      other c o = same next (root 0 0) c e w r (of c ∙ o) (parent c)

      -- an act of the root leaves its children
      by_root : (t == 0) ≡ true → RootAt s (phasers_made (e ∷ w)) (spawned w) (task_does (e ∷ w) 0)
          → (ends_act (last_entry 0 (e ∷ w)) ≡ true
          → (phasers_made (e ∷ w) ≡ phasers) × (spawned w ≡ children))
          → ((i p : ℕ) → sent 0 p (phaser_past i (e ∷ w)) ≡ sent 0 p (phaser_past i w))
          → Standing (e ∷ w)
      by_root z at over values =
          record {
            plain = and_from (is_plain e) (list_all is_plain w) p st.plain;
            handed = handed;
            made = made;
            at = subst (λ n. RootAt s (phasers_made (e ∷ w)) n (task_does (e ∷ w) 0)) (sym count) at;
            over = λ n. ((over n).0, count ∙ (over n).1);
            tasks = λ i c h.
                let before : child_at i w ≡ Some c = sym (kids i) ∙ h in
                let no_root : (t == c) ≡ false =
                subst (λ v. (v == c) ≡ false) (sym (eqb-true t 0 z))
                (flipped c 0 (child_no_root l i c w k before)) in
                task_kept i c e w (other c no_root) (values i) (st.tasks i c before);
            unsent = λ i q h. values i q ∙ st.unsent i q (sym (kids i) ∙ h);
          }

      -- of the child of place x, on whose phaser alone something may be sent
      by_child : (x : ℕ) → phasers_made (e ∷ w) ≡ phasers_made w → (t == 0) ≡ false → child_at x w ≡ Some t
          → ((i p : ℕ) → (x == i) ≡ false → sent 0 p (phaser_past i (e ∷ w)) ≡ sent 0 p (phaser_past i w))
          → TaskStands x t (e ∷ w) → Standing (e ∷ w)
      by_child x count_made z here values stands =
          record {
            plain = and_from (is_plain e) (list_all is_plain w) p st.plain;
            handed = handed;
            made = made;
            at = moved_root (phasers_made w) (spawned w) (phasers_made (e ∷ w)) (spawned (e ∷ w))
                (task_does (e ∷ w) 0)
                (task_does w 0) count_made count (other 0 z).does_same st.at;
            over = λ n.
                let o = st.over (subst (λ o. ends_act o ≡ true) (other 0 z).last n) in
                (count_made ∙ o.0, count ∙ o.1);
            tasks = λ i c h.
                let before : child_at i w ≡ Some c = sym (kids i) ∙ h in
                elim (cases_Bool (x == i)) [
                  | inl y ↦
                      let place : x ≡ i = eqb-true x i y in
                      let same_task : t ≡ c =
                      same_Some t c (sym here ∙ (ap (λ y. child_at y w) place ∙ before)) in
                      subst (λ y. TaskStands y c (e ∷ w)) place
                      (subst (λ y. TaskStands x y (e ∷ w)) same_task stands)
                  | inr y ↦
                      let not_same : (t == c) ≡ false =
                      false_from_ne_true (t == c) (λ u. true≢false
                      (sym (eq-eqb x i (one_place l x i c w k
                      (subst (λ v. child_at x w ≡ Some v) (eqb-true t c u) here) before)) ∙ y)) in
                      task_kept i c e w (other c not_same) (λ q. values i q y) (st.tasks i c before)
                ];
            unsent = λ i q h.
                let before : child_at i w ≡ None = sym (kids i) ∙ h in
                let elsewhere : (x == i) ≡ false =
                false_from_ne_true (x == i) (λ y. none-some t
                (sym before ∙ (ap (λ v. child_at v w) (sym (eqb-true x i y)) ∙ here))) in
                values i q elsewhere ∙ st.unsent i q before;
          }

    -- ---- the root's acts

    -- a make sends nothing
    nothing_sent : (m i p : ℕ) (mode : Mode) (terms : Terms)
        → sent 0 p (phaser_past i (Phaser m (Make 0 mode terms) ∷ w)) ≡ sent 0 p (phaser_past i w)
    nothing_sent m i p mode terms = either (m == i)
      where
        either : (b : Bool) → sent 0 p (cond b (event_of i w (Make 0 mode terms) ∷ phaser_past i w)
            (phaser_past i w))
            ≡ sent 0 p (phaser_past i w)
        either true = refl
        either false = refl

    -- it makes a phaser
    pub stand_makes : (n : ℕ)
        → ((x : Answer) → RootAt s (phasers_made w + 1) (spawned w) (next x (task_does w 0).1))
        → (ends_act (last_entry 0 w) ≡ false)
        → Standing (Phaser n (Make 0 SigWait (unbounded (op ∷ []))) ∷ w)
    stand_makes n at going =
        let e = Phaser n (Make 0 SigWait (unbounded (op ∷ []))) in
        by_root e 0 refl refl (λ c. refl) (λ c. refl) refl (λ i. refl) st.handed (refl, refl, st.made) refl
        (at (heard w e)) (λ o. absurd (true≢false (sym o ∙ going)))
        (λ i p. nothing_sent n i p SigWait (unbounded (op ∷ [])))

    -- it ends
    pub stand_ends : phasers_made w ≡ phasers → spawned w ≡ children
        → ((x : Answer) → RootAt s (phasers_made w) (spawned w) (next x (task_does w 0).1))
        → Standing (Begin 0 End ∷ w)
    stand_ends all full at =
        by_root (Begin 0 End) 0 refl refl (λ c. refl) (λ c. refl) refl (λ i. refl) st.handed st.made refl
        (at (heard w (Begin 0 End))) (λ n. (all, full)) (λ i p. refl)

    -- a child that is named
    child_starts : (x : ℕ) → Starts s (spawned w) → (x == 0) ≡ false → is_named x w ≡ false
        → child_at (spawned w) w ≡ None
        → (task_does w 0).0 ≡ acts.Async (task (spawned w)) (pairs (spawned w))
        → TaskStands (spawned w) x (Begin 0 (Async x (pairs (spawned w))) ∷ w)
    child_starts x start z fresh none act =
        let e = Begin 0 (Async x (pairs (spawned w))) in
        let unborn : is_born x w ≡ false =
        false_from_ne_true (is_born x w) (λ b. true≢false (sym (born_named l x w k b) ∙ fresh)) in
        let other_task : (0 == x) ≡ false = flipped x 0 z in
        let last : last_entry x (e ∷ w) ≡ None = rw other_task (unborn_none l x w k unborn) in
        let turned : turns x (e ∷ w) ≡ 0 = unborn_turns l x w plain_now unborn in
        let begins : task_does (e ∷ w) x ≡ next Started (task (spawned w)) =
        rw (eq-eqb x x refl) (ap (λ a. child_does next a (task_does w x)) act) in
        record {
          done = start.done;
          goes = λ n.
              moved_task (spawned w) (turns x (e ∷ w)) 0 start.done (task_does (e ∷ w) x)
              (next Started (task (spawned w))) turned begins start.at;
          over = λ n. absurd (false≢true (subst (λ o. ends_act o ≡ true) last n));
          turned = λ n. absurd (false≢true (subst (λ o. ends_act o ≡ true) last n));
          ahead = subst (λ v. v ≤ start.done) (sym turned) (zero_least start.done);
          most = start.most;
          values = λ p. st.unsent (spawned w) p none ∙ sym (nothing_yet p (nat_lt p start.done) refl);
        }
      where
        nothing_yet : (p : ℕ) (b : Bool) → nat_lt p start.done ≡ b → out_if (spawned w) start.done p ≡ []
        nothing_yet p true h = rw h (start.none p (ltb-true p start.done h))
        nothing_yet p false h = rw h refl

    -- no child has the place of the next spawn
    no_child_yet : (o : Option ℕ) → child_at (spawned w) w ≡ o → o ≡ None
    no_child_yet None h = refl
    no_child_yet (Some c) h = absurd (not_below (spawned w) (at_below (spawned w) c w h))
      where
        not_below : (n : ℕ) → n < n → ⊥
        not_below n h = omega arith

    -- it spawns the child of the next place
    pub stand_spawns : (x : ℕ) → Starts s (spawned w) → is_named x w ≡ false
        → (task_does w 0).0 ≡ acts.Async (task (spawned w)) (pairs (spawned w))
        → ((y : Answer) → RootAt s (phasers_made w) (spawned w + 1) (next y (task_does w 0).1))
        → Standing (Begin 0 (Async x (pairs (spawned w))) ∷ w)
    stand_spawns x start fresh act at =
        let e = Begin 0 (Async x (pairs (spawned w))) in
        let z : (x == 0) ≡ false = (or_parts (x == 0) (list_any (names x) w) fresh).0 in
        record {
          plain = st.plain;
          handed = (refl, st.handed);
          made = st.made;
          at = subst (λ d. RootAt s (phasers_made w) (spawned w + 1) d) (sym (rw z refl)) (at (heard w e));
          over = λ n. absurd (false≢true n);
          tasks = λ i c h. elim (cases_Bool (spawned w == i)) [
            | inl y ↦
                let here : x ≡ c = same_Some x c (rw y at h) in
                subst (λ j. TaskStands j c (e ∷ w)) (eqb-true (spawned w) i y)
                (subst (λ v. TaskStands (spawned w) v (e ∷ w)) here
                (child_starts x start z fresh (no_child_yet (child_at (spawned w) w) refl) act))
            | inr y ↦
                let before : child_at i w ≡ Some c = rw y at h in
                let no_root : (0 == c) ≡ false = flipped c 0 (child_no_root l i c w k before) in
                let not_new : (x == c) ≡ false =
                false_from_ne_true (x == c) (λ u. true≢false
                (sym (subst (λ v. is_named v w ≡ true) (sym (eqb-true x c u)) (child_named i c w before))
                ∙ fresh)) in
                task_kept i c e w (same next (root 0 0) c e w refl no_root (rw not_new refl)) (λ q. refl)
                (st.tasks i c before)
          ];
          unsent = λ i q h. elim (cases_Bool (spawned w == i)) [
            | inl y ↦ absurd (none-some x (sym h ∙ rw y refl))
            | inr y ↦ st.unsent i q (rw y at h)
          ];
        }

    -- ---- a child's acts

    module _ (t x : ℕ) (z : (t == 0) ≡ false) (here : child_at x w ≡ Some t)
        (going : ends_act (last_entry t w) ≡ false)
      where
        self : (t == t) ≡ true
        self = eq-eqb t t refl

        abbrev pub before : TaskStands x t w
        before = st.tasks x t here

        pub stand_sends : (v : ℤ) → out x (turns t w) ≡ v ∷ [] → before.done ≡ turns t w
            → turns t w + 1 ≤ phases x → signals t (phaser_past x w) ≡ turns t w
            → At x (turns t w) (turns t w + 1) (next Done (task_does w t).1)
            → Standing (Phaser x (Send t 0 v) ∷ w)
        stand_sends v is count room signalled after =
            let e = Phaser x (Send t 0 v) in
            let now : task_does (e ∷ w) t ≡ next Done (task_does w t).1 = rw self refl in
            by_child e t refl refl (λ c. refl) (λ c. refl) refl (λ j. refl) st.handed st.made x refl z here
            (λ i p o. ap (λ h. sent 0 p h) (elsewhere i o))
            (record {
              done = turns t w + 1;
              goes = λ n.
                  moved_task x (turns t w) (turns t w) (turns t w + 1) (task_does (e ∷ w) t)
                  (next Done (task_does w t).1) refl now after;
              over = λ n. absurd (true≢false (sym n ∙ going));
              turned = λ n. absurd (true≢false (sym n ∙ going));
              ahead = le_next (turns t w);
              most = room;
              values = λ p. ap (λ h. sent 0 p h) past
                  ∙ (ap (λ j. cond (j == p) (v ∷ sent 0 p (phaser_past x w)) (sent 0 p (phaser_past x w)))
                  signalled
                  ∙ (ap (λ xs. cond (turns t w == p) (v ∷ xs) xs)
                  (before.values p ∙ ap (λ y. out_if x y p) count)
                  ∙ (ap (λ vs. cond (turns t w == p) (vs ++ out_if x (turns t w) p) (out_if x (turns t w) p))
                  (sym is)
                  ∙ one_more x (turns t w) p)));
            })
          where
            past : phaser_past x (Phaser x (Send t 0 v) ∷ w) ≡ Sent t 0 v ∷ phaser_past x w
            past = rw (eq-eqb x x refl) refl

            elsewhere : (i : ℕ) → (x == i) ≡ false → phaser_past i (Phaser x (Send t 0 v) ∷ w)
                ≡ phaser_past i w
            elsewhere i o = rw o refl

        pub stand_looks : (i : ℕ) (y : Answer) (more : ℕ) → heard w (Phaser i (Look t 0)) ≡ y
            → turns t w ≤ more
            → more ≤ phases x
            → (more ≡ before.done) ⊎ ((more ≡ before.done + 1) × (out x before.done ≡ []))
            → At x (turns t w) more (next y (task_does w t).1)
            → Standing (Phaser i (Look t 0) ∷ w)
        stand_looks i y more hears least most so after =
            let e = Phaser i (Look t 0) in
            let now : task_does (e ∷ w) t ≡ next y (task_does w t).1 =
            rw self (ap (λ u. next u (task_does w t).1) hears) in
            by_child e t refl refl (λ c. refl) (λ c. refl) refl (λ j. refl) st.handed st.made x refl z here
            (λ j p o. unsent_by j p (i == j))
            (record {
              done = more;
              goes = λ n.
                  moved_task x (turns t w) (turns t w) more (task_does (e ∷ w) t)
                  (next y (task_does w t).1) refl now
                  after;
              over = λ n. absurd (true≢false (sym n ∙ going));
              turned = λ n. absurd (true≢false (sym n ∙ going));
              ahead = least;
              most = most;
              values = λ p. unsent_by x p (i == x) ∙ (before.values p ∙ by_more p so);
            })
          where
            unsent_by : (j p : ℕ) (b : Bool)
                → sent 0 p (cond b (event_of j w (Look t 0) ∷ phaser_past j w) (phaser_past j w))
                ≡ sent 0 p (phaser_past j w)
            unsent_by j p true = refl
            unsent_by j p false = refl

            same_both : (b : Bool) (xs : List ℤ) → cond b xs xs ≡ xs
            same_both true xs = refl
            same_both false xs = refl

            by_more : (p : ℕ) → (more ≡ before.done) ⊎ ((more ≡ before.done + 1) × (out x before.done ≡ []))
                → out_if x before.done p ≡ out_if x more p
            by_more p (inl e) = ap (λ y. out_if x y p) (sym e)
            by_more p (inr e) =
                sym (same_both (before.done == p) (out_if x before.done p))
                ∙ (ap (λ vs. cond (before.done == p) (vs ++ out_if x before.done p) (out_if x before.done p))
                (sym e.1)
                ∙ (one_more x before.done p ∙ ap (λ y. out_if x y p) (sym e.0)))

        pub stand_turns : turns t w + 1 ≤ before.done
            → At x (turns t w + 1) before.done (next Done (task_does w t).1)
            → Standing (Begin t Next ∷ w)
        stand_turns ahead after =
            let e = Begin t Next in
            let turned : turns t (e ∷ w) ≡ turns t w + 1 = rw self refl in
            let now : task_does (e ∷ w) t ≡ next Done (task_does w t).1 = rw self refl in
            let last : last_entry t (e ∷ w) ≡ Some e = rw self refl in
            by_child e t refl (ap (λ b. not b) z) (λ c. refl) (λ c. refl) refl (λ j. refl) st.handed st.made x
            refl z here (λ j p o. refl)
            (record {
              done = before.done;
              goes = λ n.
                  moved_task x (turns t (e ∷ w)) (turns t w + 1) before.done (task_does (e ∷ w) t)
                  (next Done (task_does w t).1) turned now after;
              over = λ n. absurd (false≢true (subst (λ o. ends_act o ≡ true) last n));
              turned = λ n. absurd (false≢true (subst (λ o. ends_act o ≡ true) last n));
              ahead = subst (λ y. y ≤ before.done) (sym turned) ahead;
              most = before.most;
              values = before.values;
            })

        pub stand_child_ends : phases x ≤ before.done → turns t w ≡ turns_of x → Standing (Begin t End ∷ w)
        stand_child_ends over all =
            let e = Begin t End in
            let last : last_entry t (e ∷ w) ≡ Some e = rw self refl in
            by_child e t refl refl (λ c. refl) (λ c. refl) refl (λ j. refl) st.handed st.made x refl z here
            (λ j p o. refl)
            (record {
              done = before.done;
              goes = λ n. absurd (true≢false (subst (λ o. ends_act o ≡ false) last n));
              over = λ n. over;
              turned = λ n. all;
              ahead = before.ahead;
              most = before.most;
              values = before.values;
            })
