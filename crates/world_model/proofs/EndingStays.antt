-- A task on its way to its end keeps to its list, whatever others do.
use Rattle.std.proofs.Common.{◌≡◌, ℕ, Bool, true, false, ◌&&◌, ◌||◌, ◌==◌, not, cond, List, [], ◌∷◌, ◌++◌, Option, None, refl, sym, subst, ap, ◌∙◌, inl, inr}
use Rattle.std.specs.List.{list_any}
use Rattle.std.proofs.lemmas.Bool.{cases_Bool, eqb-true, eq-eqb, true≢false, false≢true}
use Rattle.phase_modes.specs.declared.limits.Limits.{Limits}
use Rattle.phase_model.specs.Tasks.{is_live}
use Rattle.finish_core.specs.declared.event.FinishEvent.TheVariants.{Spawned, Ended, Shut as Shutting}
use Rattle.world_model.specs.declared.event.Step.TheVariants.{Claim, Did}
use Rattle.world_model.specs.declared.event.Begun.TheVariants.{Async}
use Rattle.world_model.specs.declared.event.WorldEvent.{WorldEvent}
use Rattle.world_model.specs.declared.event.WorldEvent.TheVariants.{Phaser, Finish, Begin}
use Rattle.world_model.specs.Parts.{phaser_past}
use Rattle.world_model.specs.Tasks.{home, spawner, spawns, is_born, is_ended}
use Rattle.world_model.specs.Scopes.{open_finishes}
use Rattle.world_model.specs.Numbers.{is_named}
use Rattle.world_model.specs.Actors.{actor}
use Rattle.world_model.specs.Due.{due, is_entry, is_of_single}
use Rattle.world_model.specs.Replies.{is_legal_world, is_accepted}
use Rattle.world_model.specs.TaskConditions.{last_entry}
use Rattle.world_model.proofs.SpawnUnderWay.{names_fresh}
use Rattle.world_model.proofs.PassesInTurns.{unborn_none}
use Rattle.world_model.proofs.AbruptEnds.{nothing_due, later_ended}
use Rattle.world_model.proofs.OpenFinishes.{opens_by_others, home_later}
use Rattle.world_model.proofs.AgentOfTask.{agent, touches, touched_by, birth_unborn, born_once}
use Rattle.world_model.proofs.UntouchedStays.{alike, alike_single}
use Rattle.world_model.proofs.DueStays.{due_stays}
use Rattle.world_model.proofs.LeavingList.{ends_act, last_of, shuts_of, tail_of, DropsFirst, Leaving}
use Rattle.world_model.proofs.LeavingAlways.{acts_idle, live_named, leaving_entry, own_leaves}

-- who has begun an act was born
pub entry_is_born : (l : Limits) (t : ℕ) (Q : Option WorldEvent → Bool) (w : List WorldEvent)
    → is_legal_world l w ≡ true → Q None ≡ false → Q (last_entry t w) ≡ true → is_born t w ≡ true
entry_is_born l t Q w k none q =
    elim (cases_Bool (is_born t w)) [
      | inl b ↦ b
      | inr b ↦ absurd (true≢false (sym q ∙ (ap Q (unborn_none l t w k b) ∙ none)))
    ]

module _ (l : Limits) (w : List WorldEvent) (k : is_legal_world l w ≡ true) (t : ℕ)
    (born : is_born t w ≡ true) where
  -- for whom t acts after an event, it acted before, if that task holds something
  pub agent_back : (e : WorldEvent) (u n : ℕ) → is_accepted l w e ≡ true → agent u (e ∷ w) ≡ t
      → is_live u (phaser_past n (e ∷ w)) ≡ true → agent u w ≡ t
  agent_back (Finish f (Spawned c)) u n a g v =
      elim (cases_Bool (c == u)) [
        | inl s ↦
            let self : agent u (Finish f (Spawned c) ∷ w) ≡ u = rw (s, or_true (u == 0)) refl in
            let same : c ≡ t = eqb-true c u s ∙ (sym self ∙ g) in
            absurd (true≢false
            (sym (subst (λ x. is_born x w ≡ true) (sym same) born) ∙ birth_unborn l w f c k a))
        | inr s ↦ subst (λ b. cond ((u == 0) || (b || list_any (spawns u) w)) u (spawner u w) ≡ t) s g
      ]
    where
      or_true : (b : Bool) → (b || true) ≡ true
      or_true true = refl
      or_true false = refl
  agent_back (Begin q (Async x ps)) u n a g v =
      elim (cases_Bool (x == u)) [
        | inl s ↦
            absurd (true≢false (sym (live_named l w u n k v)
            ∙ subst (λ y. is_named y w ≡ false) (eqb-true x u s) (names_fresh l w q x ps a)))
        | inr s ↦ subst (λ b. cond (is_born u w) u (cond b q (spawner u w)) ≡ t) s g
      ]
  agent_back e u n a g v = g

  -- and that task held it
  pub live_back : (e : WorldEvent) (u n : ℕ) → is_accepted l w e ≡ true
      → (actor w e == t && not (is_of_single e)) ≡ false → agent u w ≡ t
      → is_live u (phaser_past n (e ∷ w)) ≡ true → is_live u (phaser_past n w) ≡ true
  live_back e u n a o g v =
      elim (cases_Bool (touches u e)) [
        | inr s ↦ sym (alike u n e w s).live ∙ v
        | inl s ↦
            let mine : actor w e ≡ t = touched_by l w k e u a s ∙ g in
            sym (alike_single u n e w
            (must_single (actor w e == t) (is_of_single e) (eq-eqb (actor w e) t mine) o)).live ∙ v
      ]
    where
      must_single : (a b : Bool) → a ≡ true → (a && not b) ≡ false → b ≡ true
      must_single true true x y = refl
      must_single true false x y = absurd (true≢false y)
      must_single false b x y = absurd (false≢true x)

  single_opens : (e : WorldEvent) → is_of_single e ≡ true
      → (open_finishes t (e ∷ w) ≡ open_finishes t w) × (home t (e ∷ w) ≡ home t w)
  single_opens (Phaser m (Claim u)) s = (refl, refl)
  single_opens (Phaser m (Did u)) s = (refl, refl)
  single_opens e s = absurd (false≢true s)

  -- an event that isn't one of t's list leaves what t has opened, and its home
  pub opens_kept : (e : WorldEvent) → is_accepted l w e ≡ true → (actor w e == t && not (is_of_single e))
      ≡ false → (open_finishes t (e ∷ w) ≡ open_finishes t w) × (home t (e ∷ w) ≡ home t w)
  opens_kept e a o =
      elim (cases_Bool (is_of_single e)) [
        | inl s ↦ single_opens e s
        | inr s ↦ (
          opens_by_others l w k t e (foreign (actor w e == t) (is_of_single e) s o),
          home_later l w k t e (born_once l w e t k a born),
        )
      ]
    where
      foreign : (a b : Bool) → b ≡ false → (a && not b) ≡ false → a ≡ false
      foreign true true x y = absurd (true≢false x)
      foreign true false x y = absurd (true≢false y)
      foreign false b x y = refl

  other_leaves : (e : WorldEvent) (ds : List WorldEvent) → is_accepted l w e ≡ true
      → (actor w e == t && not (is_of_single e)) ≡ false → Leaving t w ds → Leaving t (e ∷ w) ds
  other_leaves e ds a o p =
      let same = opens_kept e a o in
      let tail : tail_of t (e ∷ w) ≡ tail_of t w =
      ap (λ fs. shuts_of fs ++ last_of t (e ∷ w) ∷ []) same.0 ∙ ap (λ f. shuts_of (open_finishes t w)
      ++ cond (t == 0) (Finish 0 Shutting) (Finish f (Ended t)) ∷ []) same.1 in
      record {
        form = λ some. subst (λ xs. DropsFirst ds xs) (sym tail) (p.form some);
        covers = λ u n g v. let h = agent_back e u n a g v in p.covers u n h (live_back e u n a o h v);
        over = λ none. (later_ended t e w (p.over none).0, same.0 ∙ (p.over none).1);
      }

idle_leaves : (l : Limits) (t : ℕ) (e : WorldEvent) (w : List WorldEvent) → is_accepted l w e ≡ true
    → is_entry t e ≡ false → actor w e ≡ t → due t w ≡ [] → Leaving t w [] → Leaving t (e ∷ w) []
idle_leaves l t e w a n m d p =
    let idle =
    subst (λ v. is_entry v e ≡ false → due v w ≡ [] → is_ended v w ≡ false) m
    (λ x y. (nothing_due (actor w e) w (acts_idle l w e a x y)).1) n d in
    absurd (true≢false (sym (p.over refl).0 ∙ idle))

-- what is due to a task on its way to its end
pub leaving : (l : Limits) (t : ℕ) (w : List WorldEvent) → is_legal_world l w ≡ true
    → ends_act (last_entry t w) ≡ true → Leaving t w (due t w)
leaving l t w k q =
    due_stays l t ends_act (Leaving t) (λ b. false≢true b)
    (λ e v kv a x n m d p. idle_leaves l t e v a n m d p)
    (λ e v kv a n x. leaving_entry l t e v kv a n x)
    (λ e v ds kv a x n s m here p. own_leaves l t v kv e ds p)
    (λ e v kv a x n o p. other_leaves l v kv t (entry_is_born l t ends_act v kv refl x) e (due t v) a o p)
    w k q
