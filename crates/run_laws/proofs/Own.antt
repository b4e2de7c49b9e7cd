-- An event that a task makes in both of two histories in which it is alike leaves it alike.
use Rattle.std.proofs.Common.{◌≡◌, ℕ, Bool, true, false, ◌&&◌, ◌||◌, ◌==◌, not, cond, List, [], ◌∷◌, ◌++◌, map, Option, Some, None, refl, sym, subst, ap, ◌∙◌, inl, inr}
use Rattle.std.specs.Prelude.{drop, filter, filter_map, reverse, slice_index_or}
use Rattle.std.specs.List.{list_any, cons_option}
use Rattle.std.specs.Option.{option_map_or}
use Rattle.std.proofs.lemmas.Bool.{and_parts, cases_Bool, eqb-true, eq-eqb, true≢false, false≢true}
use Rattle.phase_modes.specs.Lists.{is_empty}
use Rattle.phase_modes.specs.Mode.{can_signal}
use Rattle.phase_modes.specs.declared.limits.Limits.{Limits}
use Rattle.phase_model.specs.declared.history.Event.{Event}
use Rattle.phase_model.specs.Tasks.{is_live, is_registered, is_dropped, mode_of}
use Rattle.phase_model.specs.Phases.{waits, signals}
use Rattle.phase_model.proofs.LiveTasks.{has, has-filter}
use Rattle.finish_core.specs.declared.event.FinishEvent.{FinishEvent}
use Rattle.finish_core.specs.declared.event.FinishEvent.TheVariants.{Opened, Spawned, Ended, Shut as Shutting}
use Rattle.finish_core.specs.Finish.{is_open, shuts}
use Rattle.job_script.specs.declared.act.Answer.{Answer}
use Rattle.world_model.specs.declared.event.Step.{Step}
use Rattle.world_model.specs.declared.event.Step.TheVariants.{Make, Reg, Sig, Pass, Send, Drop}
use Rattle.world_model.specs.declared.event.Begun.{Begun}
use Rattle.world_model.specs.declared.event.Begun.TheVariants.{Async, Signal, Wait, Next, NextSingle, Shut, End}
use Rattle.world_model.specs.declared.event.WorldEvent.{WorldEvent}
use Rattle.world_model.specs.declared.event.WorldEvent.TheVariants.{Phaser, Finish, Begin, Refuse, Fail}
use Rattle.world_model.specs.Actors.{actor}
use Rattle.world_model.specs.Due.{fixed, fixed_by, ending, passes_due, signals_due, is_behind, is_entry, is_of_single}
use Rattle.world_model.specs.Parts.{phaser_past, finish_past}
use Rattle.world_model.specs.Scopes.{open_finishes, inner, enclosing}
use Rattle.world_model.specs.Tasks.{home, is_born, ends, joined_by, phasers_of}
use Rattle.world_model.specs.Replies.{is_legal_world, is_accepted}
use Rattle.world_model.proofs.AgentOfTask.{born_once}
use Rattle.world_model.proofs.BornWhereNamed.{born_named}
use Rattle.world_model.proofs.UntouchedStays.{IsAlike}
use Rattle.world_model.proofs.OthersLeave.{due_own}
use Rattle.world_model.proofs.OpenFinishes.{opened, opens_same, open_later, opened_by_owner, opening_fresh, home_later, filter_same}
use Rattle.world_model.proofs.SmallWords.{eq_self}
use Rattle.trace_walk.specs.Going.{does, heard}
use Rattle.trace_walk.specs.Walking.{Does}
use Rattle.trace_walk.specs.Scripts.{act_of, is_of}
use Rattle.run_laws.specs.Telling.{told, told_of, phase_of, tells}
use Rattle.run_laws.proofs.State.{IsKept, IsSame}
use Rattle.run_laws.proofs.Others.{is_refusal, no_child}
use Rattle.run_laws.proofs.Steps.{IsFrom, step_kept}

-- ---- lists

both_kept : (p q r : ℕ → Bool) (xs : List ℕ) → ((x : ℕ) → r x ≡ (p x && q x))
    → filter r xs ≡ filter q (filter p xs)
both_kept p q r [] e = refl
both_kept p q r (x ∷ xs) e =
    let rest : filter r xs ≡ filter q (filter p xs) = both_kept p q r xs e in
    (elim (p x) as (λ b. (r x ≡ (b && q x))
    → cond (r x) (x ∷ filter r xs) (filter r xs) ≡ filter q (cond b (x ∷ filter p xs) (filter p xs))) [
      | true ↦ λ y. rw y (ap (λ ys. cond (q x) (x ∷ ys) ys) rest)
      | false ↦ λ y. rw y rest
    ]) (e x)

-- ---- what is read off a task that is alike

pub behind_same : (t : ℕ) (g h : List Event) → IsAlike t g h → is_behind t g ≡ is_behind t h
behind_same t g h a =
    ap (λ o. option_map_or can_signal o false && (signals t g == waits t g)) a.mode
    ∙ (ap (λ i. option_map_or can_signal (mode_of t h) false && (i == waits t g)) a.signalled
    ∙ ap (λ i. option_map_or can_signal (mode_of t h) false && (signals t h == i)) a.waited)

-- an event of one task, made in both of two histories; it is neither a refusal nor of a single
pub record IsBoth (l : Limits) (t : ℕ) (e : WorldEvent) (v w : List WorldEvent) : Type 0 where
  pub legal_v : is_legal_world l v ≡ true
  pub legal_w : is_legal_world l w ≡ true
  pub made_v : is_accepted l v e ≡ true
  pub made_w : is_accepted l w e ≡ true
  pub mine_v : actor v e ≡ t
  pub mine_w : actor w e ≡ t
  pub calm : is_refusal e ≡ false
  pub plain : is_of_single e ≡ false

module _ {B : Type 0} (next : Answer → B → Does B) (root : B) (t : ℕ) (v w : List WorldEvent)
    (s : IsSame next root t v w) where
  pub held_same : phasers_of t v ≡ phasers_of t w
  held_same =
      ap (λ js. filter (λ n. is_live t (phaser_past n v)) (reverse js)) s.joins
      ∙ filter_same (λ n. is_live t (phaser_past n v)) (λ n. is_live t (phaser_past n w))
      (reverse (filter_map (joined_by t) w)) (λ n h. (s.on n).same.live)

  pub held_registered : (n : ℕ) → has n (phasers_of t v) ≡ true → is_registered t (phaser_past n v) ≡ true
  held_registered n h =
      let live =
      (and_parts (is_live t (phaser_past n v)) (has n (reverse (filter_map (joined_by t) v)))
      (sym (has-filter (λ m. is_live t (phaser_past m v)) n (reverse (filter_map (joined_by t) v))) ∙ h)).0 in
      (and_parts (is_registered t (phaser_past n v)) (not (is_dropped t (phaser_past n v))) live).0

  pub inner_alike : inner t v ≡ inner t w
  inner_alike =
      ap (λ fs. slice_index_or fs 0 (home t v)) s.opens ∙ ap (λ d. slice_index_or (open_finishes t w) 0 d) s.lives

  signals_same : (x : Option ℕ) → signals_due t x v ≡ signals_due t x w
  signals_same x =
      ap (λ ns. map (λ n. Phaser n (Sig t x)) ns)
      (ap (λ ns. filter (λ n. is_behind t (phaser_past n v)) ns) held_same
      ∙ filter_same (λ n. is_behind t (phaser_past n v)) (λ n. is_behind t (phaser_past n w)) (phasers_of t w)
      (λ n h. behind_same t (phaser_past n v) (phaser_past n w) (s.on n).same))

  passes_same : passes_due t v ≡ passes_due t w
  passes_same = ap (λ ns. map (λ n. Phaser n (Pass t)) ns) held_same

  ending_same : ending t v ≡ ending t w
  ending_same =
      ap (λ ns. map (λ n. Phaser n (Drop t)) ns
      ++ map (λ f. Finish f Shutting) (open_finishes t v)
      ++ (cond (t == 0) (Finish 0 Shutting) (Finish (home t v) (Ended t))) ∷ []) held_same
      ∙ (ap (λ fs. map (λ n. Phaser n (Drop t)) (phasers_of t w)
      ++ map (λ f. Finish f Shutting) fs
      ++ (cond (t == 0) (Finish 0 Shutting) (Finish (home t v) (Ended t))) ∷ []) s.opens
      ∙ ap (λ h. map (λ n. Phaser n (Drop t)) (phasers_of t w)
      ++ map (λ f. Finish f Shutting) (open_finishes t w)
      ++ (cond (t == 0) (Finish 0 Shutting) (Finish h (Ended t))) ∷ []) s.lives)

  enclosed_same : filter (λ n. enclosing n v == inner t v) (phasers_of t v)
      ≡ filter (λ n. enclosing n w == inner t w) (phasers_of t w)
  enclosed_same =
      filter_same (λ n. enclosing n v == inner t v) (λ n. enclosing n w == inner t w) (phasers_of t v)
      (λ n h. ap (λ f. f == inner t v) ((s.on n).scope (held_registered n h))
      ∙ ap (λ f. enclosing n w == f) inner_alike)
      ∙ ap (λ ns. filter (λ n. enclosing n w == inner t w) ns) held_same

  fixed_same : (b : Begun) → fixed_by t b v ≡ fixed_by t b w
  fixed_same (Async c ps) =
      ap (λ f. map (λ p. Phaser p.phaser (Reg t c p.mode)) ps ++ Finish f (Spawned c) ∷ []) inner_alike
  fixed_same Signal = signals_same None
  fixed_same Wait = passes_same
  fixed_same Next = ap (λ xs. xs ++ passes_due t v) (signals_same None) ∙ ap (λ xs. signals_due t None w ++ xs) passes_same
  fixed_same (NextSingle n) =
      ap (λ xs. xs ++ passes_due t v) (signals_same (Some n)) ∙ ap (λ xs. signals_due t (Some n) w ++ xs) passes_same
  fixed_same Shut =
      ap (λ ns. map (λ n. Phaser n (Drop t)) ns ++ Finish (inner t v) Shutting ∷ []) enclosed_same
      ∙ ap (λ f. map (λ n. Phaser n (Drop t)) (filter (λ n. enclosing n w == inner t w) (phasers_of t w))
      ++ Finish f Shutting ∷ []) inner_alike
  fixed_same End = ending_same

  entry_same : (e : WorldEvent) → is_refusal e ≡ false → is_entry t e ≡ true → fixed e v ≡ fixed e w
  entry_same (Begin u b) r n =
      subst (λ x. fixed_by x b v ≡ fixed_by x b w) (sym (eqb-true u t n)) (fixed_same b)
  entry_same (Refuse u a x) r n = absurd (true≢false r)
  entry_same (Fail u x) r n = absurd (true≢false r)
  entry_same (Phaser m r2) r n = absurd (false≢true n)
  entry_same (Finish f r2) r n = absurd (false≢true n)

  phase_same : (e : WorldEvent) → actor v e ≡ t → phase_of v e ≡ phase_of w e
  phase_same (Phaser n (Sig u x)) m =
      subst (λ y. signals y (phaser_past n v) ≡ signals y (phaser_past n w)) (sym m) (s.on n).same.signalled
  phase_same (Phaser n (Pass u)) m =
      subst (λ y. waits y (phaser_past n v) ≡ waits y (phaser_past n w)) (sym m) (s.on n).same.waited
  phase_same (Phaser n (Send u a x)) m =
      subst (λ y. signals y (phaser_past n v) ≡ signals y (phaser_past n w)) (sym m) (s.on n).same.signalled
  phase_same e m = refl

  source : (n : ℕ) (r : Step) (m : ℕ) → actor v (Phaser m r) ≡ t → IsFrom n r v w
  source n (Reg q u o) m a = subst (λ x. IsKept x n v w) (sym a) (s.on n)
  source n (Make u o terms) m a = subst (λ x. inner x v ≡ inner x w) (sym a) inner_alike
  source n r m a = tt

  on_after : (l : Limits) (e : WorldEvent) → IsBoth l t e v w → (n : ℕ) → IsKept t n (e ∷ v) (e ∷ w)
  on_after l (Phaser m r) b n =
      step_kept t n v w (s.on n) l m r b.legal_v b.legal_w b.made_v b.made_w (source n r m b.mine_v)
  on_after l (Finish f r) b n =
      record { same = (s.on n).same; terms = (s.on n).terms; scope = (s.on n).scope }
  on_after l (Begin u r) b n =
      record { same = (s.on n).same; terms = (s.on n).terms; scope = (s.on n).scope }
  on_after l (Refuse u r x) b n =
      record { same = (s.on n).same; terms = (s.on n).terms; scope = (s.on n).scope }
  on_after l (Fail u x) b n =
      record { same = (s.on n).same; terms = (s.on n).terms; scope = (s.on n).scope }

-- ---- a task's open finishes after an event of its own

shut_none : (h : List FinishEvent) → not (is_empty h) ≡ false → list_any shuts h ≡ false
shut_none [] k = refl
shut_none (x ∷ h) k = absurd (true≢false k)

open_puts : (l : Limits) (w : List WorldEvent) (t f : ℕ) → is_legal_world l w ≡ true
    → is_accepted l w (Finish f (Opened t)) ≡ true
    → open_finishes t (Finish f (Opened t) ∷ w) ≡ f ∷ open_finishes t w
open_puts l w t f k a =
    rw (eq_self t, eq_self f, shut_none (finish_past f w) (opening_fresh l w f t a))
    (ap (λ fs. f ∷ fs)
    (filter_same (λ g. is_open (finish_past g (Finish f (Opened t) ∷ w))) (λ g. is_open (finish_past g w)) (opened t w)
    (λ g h. open_later l g (Finish f (Opened t)) w (opened_by_owner l w k t g h).begun refl)))

shut_leaves : (w : List WorldEvent) (t f : ℕ)
    → open_finishes t (Finish f Shutting ∷ w) ≡ filter (λ g. not (f == g)) (open_finishes t w)
shut_leaves w t f =
    both_kept (λ g. is_open (finish_past g w)) (λ g. not (f == g))
    (λ g. is_open (finish_past g (Finish f Shutting ∷ w))) (opened t w) (λ g. after_shut (f == g) (finish_past g w))
  where
    after_shut : (b : Bool) (h : List FinishEvent)
        → is_open (cond b (Shutting ∷ h) h) ≡ (is_open h && not b)
    after_shut true h = elim (is_open h) as (λ x. false ≡ (x && false)) [ true ↦ refl | false ↦ refl ]
    after_shut false h = elim (is_open h) as (λ x. x ≡ (x && true)) [ true ↦ refl | false ↦ refl ]

opens_after : (l : Limits) (t : ℕ) (e : WorldEvent) (v w : List WorldEvent) → IsBoth l t e v w
    → open_finishes t v ≡ open_finishes t w → open_finishes t (e ∷ v) ≡ open_finishes t (e ∷ w)
opens_after l t (Finish f (Opened u)) v w b o =
    subst (λ x. open_finishes t (Finish f (Opened x) ∷ v) ≡ open_finishes t (Finish f (Opened x) ∷ w)) (sym b.mine_v)
    (open_puts l v t f b.legal_v (subst (λ x. is_accepted l v (Finish f (Opened x)) ≡ true) b.mine_v b.made_v)
    ∙ (ap (λ fs. f ∷ fs) o
    ∙ sym (open_puts l w t f b.legal_w (subst (λ x. is_accepted l w (Finish f (Opened x)) ≡ true) b.mine_v b.made_w))))
opens_after l t (Finish f Shutting) v w b o =
    shut_leaves v t f ∙ (ap (λ fs. filter (λ g. not (f == g)) fs) o ∙ sym (shut_leaves w t f))
opens_after l t (Finish f (Spawned c)) v w b o =
    opens_same l v b.legal_v t (Finish f (Spawned c)) refl (λ g h. refl)
    ∙ (o ∙ sym (opens_same l w b.legal_w t (Finish f (Spawned c)) refl (λ g h. refl)))
opens_after l t (Finish f (Ended c)) v w b o =
    opens_same l v b.legal_v t (Finish f (Ended c)) refl (λ g h. refl)
    ∙ (o ∙ sym (opens_same l w b.legal_w t (Finish f (Ended c)) refl (λ g h. refl)))
opens_after l t (Phaser m r) v w b o = o
opens_after l t (Begin u r) v w b o = o
opens_after l t (Refuse u r x) v w b o = o
opens_after l t (Fail u x) v w b o = o

-- ---- the event

module _ {B : Type 0} (next : Answer → B → Does B) (root : B) where
  pub own_leaves : (l : Limits) (t : ℕ) (e : WorldEvent) (v w : List WorldEvent) → IsBoth l t e v w
      → is_born t v ≡ true → is_born t w ≡ true → heard v e ≡ heard w e → IsSame next root t v w
      → IsSame next root t (e ∷ v) (e ∷ w)
  own_leaves l t e v w b bv bw h s =
      record {
        ended = ap (λ x. ends t e || x) s.ended;
        doing = rw (no_child l t e v b.made_v (born_named l t v b.legal_v bv))
            (ap (λ x. cond (is_of t (act_of e)) (next x (does next root v t).1) (does next root v t)) h
            ∙ ap (λ (d : Does B). cond (is_of t (act_of e)) (next (heard w e) d.1) d) s.doing);
        waiting = elim (cases_Bool (is_entry t e)) [
          | inl n ↦ rw n (entry_same next root t v w s e b.calm n)
          | inr n ↦
              due_own t e v n (eq-eqb (actor v e) t b.mine_v) b.plain
              ∙ (ap (λ ds. drop 1 ds) s.waiting ∙ sym (due_own t e w n (eq-eqb (actor w e) t b.mine_w) b.plain))
        ];
        last = ap (λ o. cond (is_entry t e) (Some e) o) s.last;
        said = said_after;
        opens = opens_after l t e v w b s.opens;
        lives = home_later l v b.legal_v t e (born_once l v e t b.legal_v b.made_v bv)
            ∙ (s.lives ∙ sym (home_later l w b.legal_w t e (born_once l w e t b.legal_w b.made_w bw)));
        joins = ap (λ js. cons_option (joined_by t e) js) s.joins;
        on = on_after next root t v w s l e b;
      }
    where
      tells_it : (u : List WorldEvent) → actor u e ≡ t → tells t u e ≡ true
      tells_it u m = rw (eq-eqb (actor u e) t m, b.plain) refl

      told_it : (u : List WorldEvent) → actor u e ≡ t → told t (e ∷ u) ≡ told_of u e ∷ told t u
      told_it u m = ap (λ x. cond x (told_of u e ∷ told t u) (told t u)) (tells_it u m)

      said_after : told t (e ∷ v) ≡ told t (e ∷ w)
      said_after =
          told_it v b.mine_v
          ∙ (ap (λ x. record { event = e; heard = x; phase = phase_of v e } ∷ told t v) h
          ∙ (ap (λ x. record { event = e; heard = heard w e; phase = x } ∷ told t v)
          (phase_same next root t v w s e b.mine_v)
          ∙ (ap (λ xs. told_of w e ∷ xs) s.said ∙ sym (told_it w b.mine_w))))
