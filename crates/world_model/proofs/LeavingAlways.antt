-- Each moment of a task on its way to its end, from the entry that leads to it.
use Rattle.std.proofs.Common.{◌≡◌, ◌⊎◌, ℕ, Bool, true, false, ◌&&◌, ◌||◌, ◌==◌, not, cond, List, [], ◌∷◌, ◌++◌, append_assoc, Some, None, refl, sym, subst, ap, ◌∙◌, inl, inr}
use Rattle.std.specs.Prelude.{flat_map}
use Rattle.std.specs.List.{list_any, list_all}
use Rattle.std.proofs.lemmas.Bool.{and_parts, or_left, cases_Bool, eqb-true, eq-eqb, true≢false, false≢true}
use Rattle.phase_modes.specs.Lists.{is_empty}
use Rattle.phase_modes.specs.declared.limits.Limits.{Limits}
use Rattle.phase_model.specs.declared.history.Event.{Event}
use Rattle.phase_model.specs.declared.history.Event.TheVariants.{Drop as Dropped}
use Rattle.phase_model.specs.Tasks.{is_registered, is_dropped, is_live}
use Rattle.phase_model.proofs.LiveTasks.{has}
use Rattle.finish_core.specs.declared.event.FinishEvent.TheVariants.{Opened, Ended, Shut as Shutting}
use Rattle.world_model.specs.declared.event.Step.TheVariants.{Make, Send, Look, Drop}
use Rattle.world_model.specs.declared.event.Begun.TheVariants.{Async, Signal, Wait, Next, NextSingle, Shut, End}
use Rattle.world_model.specs.declared.event.Tried.TheVariants.{Begun as Beginning, New, Open, Send as Sending, Look as Looking}
use Rattle.world_model.specs.declared.event.WorldEvent.{WorldEvent}
use Rattle.world_model.specs.declared.event.WorldEvent.TheVariants.{Phaser, Finish, Begin, Refuse, Fail}
use Rattle.world_model.specs.Parts.{phaser_past}
use Rattle.world_model.specs.Tasks.{home, spawner, is_born, is_ended, ends}
use Rattle.world_model.specs.Scopes.{opened_by, open_finishes}
use Rattle.world_model.specs.Numbers.{is_named}
use Rattle.world_model.specs.Actors.{actor}
use Rattle.world_model.specs.Due.{due, fixed, ending, unborn, drops_due, is_entry, is_idle}
use Rattle.world_model.specs.Replies.{is_legal_world, is_accepted}
use Rattle.world_model.proofs.MadeMeans.{part_made}
use Rattle.world_model.proofs.AbleComputed.{idle_in_act, refuse_idle, made_done_where}
use Rattle.world_model.proofs.PassesInTurns.{registered_named}
use Rattle.world_model.proofs.AbruptEnds.{nothing_due, half_spawned, ended_after, ending_full, full_before}
use Rattle.world_model.proofs.NextIsDue.{first_due}
use Rattle.world_model.proofs.OpenFinishes.{opened, shuts_finish, opens_same, shut_takes, never_root}
use Rattle.world_model.proofs.AgentOfTask.{agent, none_first}
use Rattle.world_model.proofs.LeavingList.{ends_act, is_drop, is_drop_of, last_of, shuts_of, tail_of, Leaving, own_covered, children_covered, ending_drops, failing_drops, covered_ending, any_append_left, any_append_right}
use Rattle.world_model.proofs.SmallWords.{cons_parts}

pub not_full : (xs : List WorldEvent) (y : WorldEvent) (ds : List WorldEvent) → ds ≡ xs ++ y ∷ []
    → is_empty ds ≡ true → ⊥
not_full [] y ds e k = true≢false (sym k ∙ ap (λ zs. is_empty zs) e)
not_full (x ∷ xs) y ds e k = true≢false (sym k ∙ ap (λ zs. is_empty zs) e)

-- who acts where nothing is due is idle
pub acts_idle : (l : Limits) (w : List WorldEvent) (e : WorldEvent) → is_accepted l w e ≡ true
    → is_entry (actor w e) e ≡ false → due (actor w e) w ≡ [] → is_idle (actor w e) w ≡ true
acts_idle l w (Phaser n (Make t m terms)) a n' d = idle_in_act l w t (New n m terms) a
acts_idle l w (Phaser n (Send t c v)) a n' d = idle_in_act l w t (Sending n c v) a
acts_idle l w (Phaser n (Look t c)) a n' d = idle_in_act l w t (Looking n c) a
acts_idle l w (Finish f (Opened t)) a n' d = idle_in_act l w t (Open f) a
acts_idle l w (Begin t b) a n' d = absurd (true≢false (sym (eq-eqb t t refl) ∙ n'))
acts_idle l w (Refuse t b n) a n' d = absurd (true≢false (sym (eq-eqb t t refl) ∙ n'))
acts_idle l w (Fail t n) a n' d = absurd (true≢false (sym (eq-eqb t t refl) ∙ n'))
acts_idle l w (Phaser n s) a n' d =
    absurd (none_first l w (Phaser n s) (due (actor w (Phaser n s)) w) d
    (first_due l w (Phaser n s) (part_made l w (Phaser n s) a).0))
acts_idle l w (Finish f s) a n' d =
    absurd (none_first l w (Finish f s) (due (actor w (Finish f s)) w) d
    (first_due l w (Finish f s) (part_made l w (Finish f s) a).0))

-- an idle task has no child half spawned
pub no_half_child : (l : Limits) (w : List WorldEvent) (q c : ℕ) → is_legal_world l w ≡ true
    → is_idle q w ≡ true → is_named c w ≡ true → is_born c w ≡ false → spawner c w ≡ q → ⊥
no_half_child l w q c k i n b s =
    let idle = nothing_due (spawner c w) w (subst (λ v. is_idle v w ≡ true) (sym s) i) in
    elim (half_spawned l c w k n b) [
      | inl y ↦ true≢false (sym idle.0 ∙ y.1)
      | inr y ↦ true≢false (sym (ended_after l (spawner c w) w k y idle.0) ∙ idle.1)
    ]

-- who is live was registered, and so named
pub live_named : (l : Limits) (w : List WorldEvent) (t n : ℕ) → is_legal_world l w ≡ true
    → is_live t (phaser_past n w) ≡ true → is_named t w ≡ true
live_named l w t n k v =
    registered_named l t n w k
    (and_parts (is_registered t (phaser_past n w)) (not (is_dropped t (phaser_past n w))) v).0

-- an agent is the task itself, or the spawner of an unborn child
pub agent_is : (u t : ℕ) (w : List WorldEvent) → agent u w ≡ t
    → ((is_born u w ≡ true) × (u ≡ t)) ⊎ ((is_born u w ≡ false) × (spawner u w ≡ t))
agent_is u t w g =
    elim (cases_Bool (is_born u w)) [
      | inl b ↦ inl (b, sym (ap (λ x. cond x u (spawner u w)) b) ∙ g)
      | inr b ↦ inr (b, sym (ap (λ x. cond x u (spawner u w)) b) ∙ g)
    ]

module _ (l : Limits) (w : List WorldEvent) (k : is_legal_world l w ≡ true) (t : ℕ) where
  -- an idle task's own drops cover all for which it acts
  idle_covers : is_idle t w ≡ true → (u n : ℕ) → agent u w ≡ t → is_live u (phaser_past n w) ≡ true
      → list_any (is_drop_of u n) (ending t w) ≡ true
  idle_covers i u n g v =
      elim (agent_is u t w g) [
        | inl b ↦
            covered_ending t w u n
            (subst (λ x. list_any (is_drop_of u n) (drops_due x w) ≡ true) b.1 (own_covered l w k u n v))
        | inr b ↦ absurd (no_half_child l w t u k i (live_named l w u n k v) b.0 b.1)
      ]

  fail_covers : (u n : ℕ) → agent u w ≡ t → is_live u (phaser_past n w) ≡ true
      → list_any (is_drop_of u n) (flat_map (λ c. drops_due c w) (unborn t w) ++ ending t w) ≡ true
  fail_covers u n g v =
      let xs = flat_map (λ c. drops_due c w) (unborn t w) in
      elim (agent_is u t w g) [
        | inl b ↦
            any_append_right (is_drop_of u n) xs (ending t w)
            (covered_ending t w u n (subst (λ x. list_any (is_drop_of u n) (drops_due x w) ≡ true) b.1
            (own_covered l w k u n v)))
        | inr b ↦
            any_append_left (is_drop_of u n) xs (ending t w)
            (subst (λ q. list_any (is_drop_of u n) (flat_map (λ c. drops_due c w) (unborn q w)) ≡ true) b.1
            (children_covered l w k u n (live_named l w u n k v) b.0 v))
      ]

  filled : (ds : List WorldEvent) → is_empty ds ≡ false → is_empty ds ≡ true
      → (is_ended t w ≡ true) × (open_finishes t w ≡ [])
  filled ds n e = absurd (true≢false (sym e ∙ n))

pub leaving_entry : (l : Limits) (t : ℕ) (e : WorldEvent) (w : List WorldEvent) → is_legal_world l w ≡ true
    → is_accepted l w e ≡ true → is_entry t e ≡ true → ends_act (Some e) ≡ true
    → Leaving t (e ∷ w) (fixed e w)
leaving_entry l t (Begin u End) w k a n q =
    subst (λ v. Leaving v (Begin u End ∷ w) (ending u w)) (eqb-true u t n)
    (record {
      form = λ some. ending_drops u w;
      covers = λ x m g v. idle_covers l w k u (idle_in_act l w u
          (Beginning End) a) x m g v;
      over = λ e. filled l w k u (ending u w) (ending_full u w) e;
    })
leaving_entry l t (Refuse u b x) w k a n q =
    subst (λ v. Leaving v (Refuse u b x ∷ w) (ending u w)) (eqb-true u t n)
    (record {
      form = λ some. ending_drops u w;
      covers = λ y m g v. idle_covers l w k u (refuse_idle l w u b x
          (made_done_where _ a)) y m g v;
      over = λ e. filled l w k u (ending u w) (ending_full u w) e;
    })
leaving_entry l t (Fail u x) w k a n q =
    let xs = flat_map (λ c. drops_due c w) (unborn u w) in
    subst (λ v. Leaving v (Fail u x ∷ w) (xs ++ ending u w)) (eqb-true u t n)
    (record {
      form = λ some. failing_drops u w;
      covers = λ y m g v. fail_covers l w k u y m g v;
      over = λ e.
          filled l w k u (xs ++ ending u w) (full_before xs (ending u w) (ending_full u w)) e;
    })
leaving_entry l t (Begin u Signal) w k a n q = absurd (false≢true q)
leaving_entry l t (Begin u Wait) w k a n q = absurd (false≢true q)
leaving_entry l t (Begin u Next) w k a n q = absurd (false≢true q)
leaving_entry l t (Begin u Shut) w k a n q = absurd (false≢true q)
leaving_entry l t (Begin u (NextSingle x)) w k a n q = absurd (false≢true q)
leaving_entry l t (Begin u (Async c ps)) w k a n q = absurd (false≢true q)
leaving_entry l t (Phaser m s) w k a n q = absurd (false≢true n)
leaving_entry l t (Finish f s) w k a n q = absurd (false≢true n)

-- what is first after the drops
pub tail_first : (e last : WorldEvent) (ds : List WorldEvent) (fs : List ℕ)
    → e ∷ ds ≡ shuts_of fs ++ last ∷ []
    → ((fs ≡ []) × (e ≡ last) × (ds ≡ [])) ⊎ ((f : ℕ) × (gs : List ℕ) × (fs ≡ f ∷ gs)
    × (e ≡ Finish f Shutting) × (ds ≡ shuts_of gs ++ last ∷ []))
tail_first e last ds [] h = let p = cons_parts e last ds [] h in inl (refl, p.0, p.1)
tail_first e last ds (f ∷ fs) h =
    let p = cons_parts e (Finish f Shutting) ds (shuts_of fs ++ last ∷ []) h in inr (f, fs, refl, p.0, p.1)

last_ends : (t : ℕ) (w : List WorldEvent) → ends t (last_of t w) ≡ true
last_ends t w = by (t == 0) refl
  where
    by : (b : Bool) → (t == 0) ≡ b → ends t (cond b (Finish 0 Shutting) (Finish (home t w) (Ended t))) ≡ true
    by true e = rw e refl
    by false e = eq-eqb t t refl

module _ (l : Limits) (t : ℕ) (w : List WorldEvent) (k : is_legal_world l w ≡ true) where
  -- after t's last event it has no open finish still
  nothing_open : open_finishes t w ≡ [] → open_finishes t (last_of t w ∷ w) ≡ []
  nothing_open o =
      opens_same l w k t (last_of t w) (not_opening (t == 0)) (λ f h. not_shutting f (t == 0) h) ∙ o
    where
      not_opening : (b : Bool) → opened_by t (cond b (Finish 0 Shutting) (Finish (home t w) (Ended t))) ≡ None
      not_opening true = refl
      not_opening false = refl

      not_shutting : (f : ℕ) (b : Bool) → has f (opened t w) ≡ true
          → shuts_finish f (cond b (Finish 0 Shutting) (Finish (home t w) (Ended t))) ≡ false
      not_shutting f true h = never_root l w k t f h
      not_shutting f false h = refl

  -- a drop leaves fewer to cover
  pub drop_covers : (m v : ℕ) (ds : List WorldEvent) → Leaving t w (Phaser m (Drop v) ∷ ds)
      → (u n : ℕ) → agent u w ≡ t → is_live u (phaser_past n (Phaser m (Drop v) ∷ w)) ≡ true
      → list_any (is_drop_of u n) ds ≡ true
  drop_covers m v ds p u n g live = elim (cases_Bool (m == n)) [ inl x ↦ here x | inr x ↦ there x ]
    where
      h : List Event
      h = phaser_past n w

      covered : is_live u (phaser_past n w) ≡ true
          → ((m == n && v == u) || list_any (is_drop_of u n) ds) ≡ true
      covered y = p.covers u n g y

      later : (b : Bool) → b ≡ false → (b || list_any (is_drop_of u n) ds) ≡ true
          → list_any (is_drop_of u n) ds ≡ true
      later true b y = absurd (true≢false b)
      later false b y = y

      there : (m == n) ≡ false → list_any (is_drop_of u n) ds ≡ true
      there x =
          later (m == n && v == u) (rw x refl) (covered (subst
          (λ b. is_live u (cond b (Dropped v ∷ phaser_past n w) (phaser_past n w)) ≡ true) x live))

      here : (m == n) ≡ true → list_any (is_drop_of u n) ds ≡ true
      here x =
          let now : (is_registered u (phaser_past n w) && not ((v == u) || is_dropped u (phaser_past n w)))
          ≡ true =
          subst (λ b. is_live u (cond b (Dropped v ∷ phaser_past n w) (phaser_past n w)) ≡ true) x live in
          elim (cases_Bool (v == u)) [
            | inl y ↦
                absurd
                (gone (is_registered u (phaser_past n w)) (v == u) (is_dropped u (phaser_past n w)) y now)
            | inr y ↦
                later (m == n && v == u) (rw (x, y) refl) (covered (subst (λ b. (is_registered u
                (phaser_past n w) && not (b || is_dropped u (phaser_past n w))) ≡ true) y now))
          ]
        where
          gone : (a b c : Bool) → b ≡ true → (a && not (b || c)) ≡ true → ⊥
          gone true true c y z = false≢true z
          gone false b c y z = false≢true z
          gone true false c y z = false≢true y

  pub own_leaves : (e : WorldEvent) (ds : List WorldEvent) → Leaving t w (e ∷ ds) → Leaving t (e ∷ w) ds
  own_leaves e ds p = by_drops (p.form refl).drops (p.form refl).all_drops (p.form refl).is
    where
      after_drop : (d : WorldEvent) (drops : List WorldEvent) → is_drop d ≡ true
          → list_all is_drop drops ≡ true → e ≡ d → ds ≡ drops ++ tail_of t w → Leaving t (e ∷ w) ds
      after_drop (Phaser m (Drop v)) drops x y same is =
          subst (λ c. Leaving t (c ∷ w) ds) (sym same)
          (record {
            form = λ some. record { drops = drops; all_drops = y; is = is };
            covers = λ u n g live. drop_covers m v ds (subst (λ c. Leaving t w (c ∷ ds)) same p) u n g live;
            over =
                λ none. absurd (not_full (drops ++ shuts_of (open_finishes t w)) (last_of t w) ds
                (is ∙ sym (append_assoc drops (shuts_of (open_finishes t w)) (last_of t w ∷ []))) none);
          })
      after_drop d drops x y same is = absurd (false≢true x)

      after_shut : (f : ℕ) (gs : List ℕ) → open_finishes t w ≡ f ∷ gs → e ≡ Finish f Shutting
          → ds ≡ shuts_of gs ++ last_of t w ∷ [] → Leaving t (e ∷ w) ds
      after_shut f gs here same is =
          let q : Leaving t w (Finish f Shutting ∷ ds) = subst (λ c. Leaving t w (c ∷ ds)) same p in
          let rest : open_finishes t (Finish f Shutting ∷ w) ≡ gs = shut_takes l w k t f gs here in
          subst (λ c. Leaving t (c ∷ w) ds) (sym same)
          (record {
            form =
                λ some. record {
                  drops = [];
                  all_drops = refl;
                  is = is
                      ∙ ap (λ fs. shuts_of fs ++ last_of t w ∷ []) (sym rest);
                };
            covers = λ u n g live. q.covers u n g live;
            over = λ none. absurd (not_full (shuts_of gs) (last_of t w) ds is none);
          })

      after_last : open_finishes t w ≡ [] → e ≡ last_of t w → ds ≡ [] → Leaving t (e ∷ w) ds
      after_last here same none =
          subst (λ c. Leaving t (c ∷ w) ds) (sym same)
          (subst (λ xs. Leaving t (last_of t w ∷ w) xs) (sym none)
          (record {
            form = λ some. absurd (true≢false some);
            covers = λ u n g live. last_covers u n (t == 0) g live;
            over = λ x. (or_left (ends t (last_of t w)) (is_ended t w) (last_ends t w), nothing_open here);
          }))
        where
          q : Leaving t w (last_of t w ∷ [])
          q = subst (λ xs. Leaving t w (last_of t w ∷ xs)) none (subst (λ c. Leaving t w (c ∷ ds)) same p)

          last_covers : (u n : ℕ) (b : Bool)
              → agent u (cond b (Finish 0 Shutting) (Finish (home t w) (Ended t)) ∷ w) ≡ t
              → is_live u (phaser_past n (cond b (Finish 0 Shutting) (Finish (home t w) (Ended t)) ∷ w))
              ≡ true → list_any (is_drop_of u n) [] ≡ true
          last_covers u n true g live = no_drop (t == 0) (q.covers u n g live)
            where
              no_drop : (b : Bool) → (is_drop_of u n
                  (cond b (Finish 0 Shutting) (Finish (home t w) (Ended t))) || false) ≡ true → false ≡ true
              no_drop true z = z
              no_drop false z = z
          last_covers u n false g live = no_drop (t == 0) (q.covers u n g live)
            where
              no_drop : (b : Bool) → (is_drop_of u n
                  (cond b (Finish 0 Shutting) (Finish (home t w) (Ended t))) || false) ≡ true → false ≡ true
              no_drop true z = z
              no_drop false z = z

      by_drops : (drops : List WorldEvent) → list_all is_drop drops ≡ true → e ∷ ds ≡ drops ++ tail_of t w
          → Leaving t (e ∷ w) ds
      by_drops [] x is =
          elim (tail_first e (last_of t w) ds (open_finishes t w) is) [
            | inl z ↦ after_last z.0 z.1 z.2
            | inr z ↦ after_shut z.0 z.1 z.2 z.3 z.4
          ]
      by_drops (d ∷ drops) x is =
          let y = and_parts (is_drop d) (list_all is_drop drops) x in
          let z = cons_parts e d ds (drops ++ tail_of t w) is in
          after_drop d drops y.0 y.1 z.0 z.1
