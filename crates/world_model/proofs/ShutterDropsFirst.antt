-- A task that shuts a finish of its own drops what it holds there, and then shuts it.
use Rattle.std.proofs.Common.{◌≡◌, ℕ, Bool, true, false, ◌&&◌, ◌||◌, ◌==◌, not, cond, List, [], ◌∷◌, ◌++◌, map, Option, Some, refl, sym, subst, ap, ◌∙◌, inl, inr}
use Rattle.std.specs.Prelude.{filter, slice_index_or}
use Rattle.std.specs.List.{list_any, list_all}
use Rattle.std.proofs.lemmas.Bool.{and_parts, cases_Bool, eqb-true, true≢false, false≢true, not-true}
use Rattle.phase_modes.specs.Lists.{is_empty}
use Rattle.phase_modes.specs.declared.limits.Limits.{Limits}
use Rattle.phase_modes.specs.declared.refusal.Refusal.TheVariants.{NoFinish}
use Rattle.phase_model.specs.declared.history.Event.TheVariants.{Drop as Dropped}
use Rattle.phase_model.specs.Tasks.{is_registered, is_dropped, is_live}
use Rattle.phase_model.proofs.Closing.{some_live}
use Rattle.finish_core.specs.declared.event.FinishEvent.TheVariants.{Shut as Shutting}
use Rattle.world_model.specs.declared.event.Step.TheVariants.{Drop}
use Rattle.world_model.specs.declared.event.Begun.TheVariants.{Async, Signal, Wait, Next, NextSingle, Shut, End}
use Rattle.world_model.specs.declared.event.WorldEvent.{WorldEvent}
use Rattle.world_model.specs.declared.event.WorldEvent.TheVariants.{Phaser, Finish, Begin, Refuse, Fail}
use Rattle.world_model.specs.Parts.{phaser_past}
use Rattle.world_model.specs.Scopes.{open_finishes, inner, enclosing}
use Rattle.world_model.specs.Tasks.{home, spawner, is_born, phasers_of}
use Rattle.world_model.specs.Actors.{actor}
use Rattle.world_model.specs.Due.{due, fixed, is_entry, is_of_single}
use Rattle.world_model.specs.Replies.{is_legal_world, is_accepted}
use Rattle.world_model.specs.TaskConditions.{last_entry}
use Rattle.world_model.proofs.MadeMeans.{no_refusal, begin_asked}
use Rattle.world_model.proofs.PhasersOnce.{times, times-filter, phasers_once}
use Rattle.world_model.proofs.AgentOfTask.{agent}
use Rattle.world_model.proofs.DueStays.{due_stays}
use Rattle.world_model.proofs.RegistrationsStand.{enclosing_later}
use Rattle.world_model.proofs.LeavingList.{is_drop, is_drop_of, DropsFirst, drops_map, drop_in, any_append_left}
use Rattle.world_model.proofs.EndingStays.{entry_is_born, live_back, opens_kept}
use Rattle.world_model.proofs.SmallWords.{cons_parts}

-- the entry begins to shut a finish
abbrev pub shuts_act : Option WorldEvent → Bool
shuts_act (Some (Begin t Shut)) = true
shuts_act _ = false

-- t drops what it holds in its innermost finish, which is its own, and then shuts it
pub record Shutter (t : ℕ) (w ds : List WorldEvent) : Type 0 where
  pub form : is_empty ds ≡ false → DropsFirst ds (Finish (inner t w) Shutting ∷ [])
  pub own : is_empty ds ≡ false → is_empty (open_finishes t w) ≡ false
  pub covers : is_empty ds ≡ false → (n : ℕ) → is_live t (phaser_past n w) ≡ true
      → (enclosing n w == inner t w) ≡ true → list_any (is_drop_of t n) ds ≡ true

nothing_shuts : (t : ℕ) (w : List WorldEvent) → Shutter t w []
nothing_shuts t w =
    record {
      form = λ x. absurd (true≢false x);
      own = λ x. absurd (true≢false x);
      covers = λ x n v g.
          absurd (true≢false x);
    }

entry_shuts : (l : Limits) (t : ℕ) (e : WorldEvent) (w : List WorldEvent) → is_legal_world l w ≡ true
    → is_accepted l w e ≡ true → is_entry t e ≡ true → shuts_act (Some e) ≡ true
    → Shutter t (e ∷ w) (fixed e w)
entry_shuts l t (Begin u Shut) w k a n q =
    let ns = filter (λ m. enclosing m w == inner u w) (phasers_of u w) in
    subst (λ v. Shutter v (Begin u Shut ∷ w)
    (map (λ m. Phaser m (Drop u)) ns ++ Finish (inner u w) Shutting ∷ [])) (eqb-true u t n)
    (record {
      form =
          λ some. record { drops = map (λ m. Phaser m (Drop u)) ns; all_drops = drops_map u ns; is = refl };
      own =
          λ some. not-true (is_empty (open_finishes u w))
          (no_refusal NoFinish (not (is_empty (open_finishes u w))) [] (begin_asked l w u Shut a)).0;
      covers = λ some m v g.
          any_append_left (is_drop_of u m) (map (λ x. Phaser x (Drop u)) ns)
          (Finish (inner u w) Shutting ∷ [])
          (drop_in u m ns (times-filter (λ x. enclosing x w == inner u w) m (phasers_of u w)
          ∙ (ap (λ b. cond b (times m (phasers_of u w)) 0) g
          ∙ (phasers_once l w k u m ∙ ap (λ b. cond b 1 0) v))));
    })
entry_shuts l t (Begin u Signal) w k a n q = absurd (false≢true q)
entry_shuts l t (Begin u Wait) w k a n q = absurd (false≢true q)
entry_shuts l t (Begin u Next) w k a n q = absurd (false≢true q)
entry_shuts l t (Begin u End) w k a n q = absurd (false≢true q)
entry_shuts l t (Begin u (NextSingle x)) w k a n q = absurd (false≢true q)
entry_shuts l t (Begin u (Async c ps)) w k a n q = absurd (false≢true q)
entry_shuts l t (Refuse u b x) w k a n q = absurd (false≢true q)
entry_shuts l t (Fail u x) w k a n q = absurd (false≢true q)
entry_shuts l t (Phaser m s) w k a n q = absurd (false≢true n)
entry_shuts l t (Finish f s) w k a n q = absurd (false≢true n)

module _ (l : Limits) (t : ℕ) (w : List WorldEvent) (k : is_legal_world l w ≡ true) where
  -- a drop of another phaser leaves t's registration
  still_covered : (m v : ℕ) (ds : List WorldEvent) → Shutter t w (Phaser m (Drop v) ∷ ds) → (n : ℕ)
      → is_live t (phaser_past n (Phaser m (Drop v) ∷ w)) ≡ true
      → (enclosing n w == inner t w) ≡ true → list_any (is_drop_of t n) ds ≡ true
  still_covered m v ds p n live g = elim (cases_Bool (m == n)) [ inl x ↦ here x | inr x ↦ there x ]
    where
      later : (b : Bool) → b ≡ false → (b || list_any (is_drop_of t n) ds) ≡ true
          → list_any (is_drop_of t n) ds ≡ true
      later true b y = absurd (true≢false b)
      later false b y = y

      there : (m == n) ≡ false → list_any (is_drop_of t n) ds ≡ true
      there x =
          later (m == n && v == t) (rw x refl) (p.covers refl n (subst
          (λ b. is_live t (cond b (Dropped v ∷ phaser_past n w) (phaser_past n w)) ≡ true) x live) g)

      gone : (a b c : Bool) → b ≡ true → (a && not (b || c)) ≡ true → ⊥
      gone true true c y z = false≢true z
      gone false b c y z = false≢true z
      gone true false c y z = false≢true y

      here : (m == n) ≡ true → list_any (is_drop_of t n) ds ≡ true
      here x =
          let now : (is_registered t (phaser_past n w) && not ((v == t) || is_dropped t (phaser_past n w)))
          ≡ true =
          subst (λ b. is_live t (cond b (Dropped v ∷ phaser_past n w) (phaser_past n w)) ≡ true) x live in
          elim (cases_Bool (v == t)) [
            | inl y ↦
                absurd
                (gone (is_registered t (phaser_past n w)) (v == t) (is_dropped t (phaser_past n w)) y now)
            | inr y ↦
                later (m == n && v == t) (rw (x, y) refl)
                (p.covers refl n (subst (λ b. (is_registered t (phaser_past n w)
                && not (b || is_dropped t (phaser_past n w))) ≡ true) y now) g)
          ]

  own_shuts : (e : WorldEvent) (ds : List WorldEvent) → Shutter t w (e ∷ ds) → Shutter t (e ∷ w) ds
  own_shuts e ds p = by_drops (p.form refl).drops (p.form refl).all_drops (p.form refl).is
    where
      after_drop : (d : WorldEvent) (drops : List WorldEvent) → is_drop d ≡ true → list_all is_drop drops
          ≡ true → e ≡ d → ds ≡ drops ++ Finish (inner t w) Shutting ∷ [] → Shutter t (e ∷ w) ds
      after_drop (Phaser m (Drop v)) drops x y same is =
          subst (λ c. Shutter t (c ∷ w) ds) (sym same)
          (record {
            form = λ some. record { drops = drops; all_drops = y; is = is };
            own = λ some. p.own refl;
            covers =
                λ some n live g. still_covered m v ds (subst (λ c. Shutter t w (c ∷ ds)) same p) n live g;
          })
      after_drop d drops x y same is = absurd (false≢true x)

      by_drops : (drops : List WorldEvent) → list_all is_drop drops ≡ true
          → e ∷ ds ≡ drops ++ Finish (inner t w) Shutting ∷ [] → Shutter t (e ∷ w) ds
      by_drops [] x is =
          subst (λ xs. Shutter t (e ∷ w) xs) (sym (cons_parts e (Finish (inner t w) Shutting) ds [] is).1)
          (nothing_shuts t (e ∷ w))
      by_drops (d ∷ drops) x is =
          let y = and_parts (is_drop d) (list_all is_drop drops) x in
          let z = cons_parts e d ds (drops ++ Finish (inner t w) Shutting ∷ []) is in
          after_drop d drops y.0 y.1 z.0 z.1

  other_shuts : is_born t w ≡ true → (e : WorldEvent) (ds : List WorldEvent) → is_accepted l w e ≡ true
      → (actor w e == t && not (is_of_single e)) ≡ false → Shutter t w ds → Shutter t (e ∷ w) ds
  other_shuts born e ds a o p =
      let same = opens_kept l w k t born e a o in
      let inside : inner t (e ∷ w) ≡ inner t w =
      ap (λ fs. slice_index_or fs 0 (home t (e ∷ w))) same.0
      ∙ ap (λ d. slice_index_or (open_finishes t w) 0 d) same.1 in
      let self : agent t w ≡ t = ap (λ b. cond b t (spawner t w)) born in
      record {
        form = λ some. subst (λ f. DropsFirst ds (Finish f Shutting ∷ [])) (sym inside) (p.form some);
        own = λ some. ap (λ fs. is_empty fs) same.0 ∙ p.own some;
        covers = λ some n v g.
            let before : is_live t (phaser_past n w) ≡ true = live_back l w k t born e t n a o self v in
            let encloses =
            enclosing_later l n e w a (ap (λ b. not b) (some_live t (phaser_past n w) before)) in
            p.covers some n before
            (sym (ap (λ f. f == inner t (e ∷ w)) encloses ∙ ap (λ f. enclosing n w == f) inside) ∙ g);
      }

-- what is due to a task that shuts a finish
pub shutting : (l : Limits) (t : ℕ) (w : List WorldEvent) → is_legal_world l w ≡ true
    → shuts_act (last_entry t w) ≡ true → Shutter t w (due t w)
shutting l t w k q =
    due_stays l t shuts_act (Shutter t) (λ b. false≢true b)
    (λ e v kv a x n m d p. nothing_shuts t (e ∷ v))
    (λ e v kv a n x. entry_shuts l t e v kv a n x)
    (λ e v ds kv a x n s m here p. own_shuts l t v kv e ds p)
    (λ e v kv a x n o p. other_shuts l t v kv (entry_is_born l t shuts_act v kv refl x) e (due t v) a o p)
    w k q
