-- What refuses an act that is begun is, by the world's state, what refuses it by the history.
use Rattle.std.proofs.Common.{◌≡◌, ℕ, ◌==◌, Bool, true, false, ◌||◌, not, List, [], ◌∷◌, Option, Some, None, is_some, unwrap_or, Ok, length, refl, sym, ap, ◌∙◌, inl, inr}
use Rattle.std.specs.Prelude.{filter, slice_index_or}
use Rattle.std.specs.List.{list_any, list_all}
use Rattle.std.specs.Option.{option_map_or}
use Rattle.std.proofs.lemmas.Bool.{cases_Bool}
use Rattle.phase_modes.specs.Lists.{is_empty}
use Rattle.phase_modes.specs.Mode.{can_single, is_within}
use Rattle.phase_modes.specs.declared.reg.Mode.{Mode}
use Rattle.phase_modes.specs.declared.reg.Mode.TheVariants.{Wait as Waiting}
use Rattle.phase_modes.specs.declared.refusal.Refusal.{Refusal}
use Rattle.phase_modes.specs.Refusal.{first_refusal}
use Rattle.phase_model.specs.declared.history.Event.{Event}
use Rattle.phase_model.specs.Tasks.{is_live, mode_of, has_mode}
use Rattle.phase_model.specs.Conditions.{is_within_task}
use Rattle.phase_model.specs.Registration.{registration}
use Rattle.phase_model.proofs.Registration.{mode_of_live}
use Rattle.world_model.specs.declared.event.Begun.{Begun}
use Rattle.world_model.specs.declared.event.Begun.TheVariants.{Async, Signal, Wait, Next, NextSingle, Shut, End}
use Rattle.world_model.specs.declared.event.Tried.TheVariants.{Begun as Beginning}
use Rattle.world_model.specs.declared.event.WorldEvent.{WorldEvent}
use Rattle.world_model.specs.declared.event.WorldEvent.TheVariants.{Begin}
use Rattle.world_model.specs.declared.reply.Reply.TheVariants.{Done}
use Rattle.world_model.specs.Parts.{phaser_past}
use Rattle.world_model.specs.Tasks.{phasers_of}
use Rattle.world_model.specs.Scopes.{open_finishes, inner, enclosing}
use Rattle.world_model.specs.Due.{is_ahead, is_behind}
use Rattle.world_model.specs.Acts as history
use Rattle.world_model.specs.Acts.{act_conditions, is_number_used, unless}
use Rattle.world_model.specs.Replies.{reply}
use Rattle.world_model.proofs.FactsAlike.{Alike, own_alike}
use Rattle.world_records.specs.TaskState.{TaskState}
use Rattle.world_records.specs.WorldState.{WorldState}
use Rattle.world_records.specs.Kept.{task_at, inner_at, past_in}
use Rattle.world_records.specs.StandsFor.{TaskStands, StandsFor, IsChain}
use Rattle.world_records.specs.inner.Facts.{leads, owes, has_single, may_give, holds_somewhere, facts}
use Rattle.world_records.specs.inner.Steps.{done_unless}
use Rattle.world_records.specs.inner.Begins.{is_child_named, begin_refusal, begin_answer}
use Rattle.world_records.proofs.Ready.{ready_is_idle}
use Rattle.world_records.proofs.Owed.{owes_is_behind, past_stands}

-- what a live task's registration says
leads_is_ahead : (t : ℕ) (h : List Event) → is_live t h ≡ true → leads t h ≡ is_ahead t h
leads_is_ahead t h live = rw live refl

single_by : (o : Option Mode) → can_single (unwrap_or o Waiting) ≡ option_map_or can_single o false
single_by None = refl
single_by (Some m) = refl

lacks_is : (t : ℕ) (h : List Event) → is_live t h ≡ true → not (has_single t h) ≡ not (has_mode can_single t h)
lacks_is t h live = rw live (ap not (single_by (mode_of t h)))

gives_is : (m : Mode) (t : ℕ) (h : List Event) → is_live t h ≡ true → may_give m t h ≡ is_within_task m t h
gives_is m t h live = rw live (sym (mode_of_live t h live (λ n. is_within m n)))

registered_is : (t : ℕ) (h : List Event) → is_some (registration t h) ≡ is_live t h
registered_is t h = elim (cases_Bool (is_live t h)) [ inl e ↦ rw e refl | inr e ↦ rw e refl ]

-- two tests that agree where a third holds
any_under : (p q r : ℕ → Bool) (xs : List ℕ) → ((n : ℕ) → r n ≡ true → p n ≡ q n) → list_any p (filter r xs) ≡ list_any q (filter r xs)
any_under p q r [] e = refl
any_under p q r (x ∷ xs) e =
    let rest : list_any p (filter r xs) ≡ list_any q (filter r xs) = any_under p q r xs e in
    elim (cases_Bool (r x)) [
      | inl k ↦
          let here : p x ≡ q x = e x k in
          rw (k, here) (ap (λ b. q x || b) rest)
      | inr k ↦ rw k rest
    ]

any_stands : (s : WorldState) (w : List WorldEvent) (t : ℕ) (f g : List Event → Bool) → StandsFor w s → ((h : List Event) → is_live t h ≡ true → f h ≡ g h)
    → list_any (λ n. f (past_in s.phasers n)) (task_at s t).phasers ≡ list_any (λ n. g (phaser_past n w)) (phasers_of t w)
any_stands s w t f g st same =
    ap (λ ns. list_any (λ n. f (past_in s.phasers n)) ns) (st.tasks t).phasers
    ∙ any_under (λ n. f (past_in s.phasers n)) (λ n. g (phaser_past n w)) (λ n. is_live t (phaser_past n w)) _
    (λ n live. ap f (past_stands s w n (st.phasers n)) ∙ same (phaser_past n w) live)

none_without : (p : ℕ → Bool) (xs : List ℕ) → not (list_any (λ n. not (p n)) xs) ≡ list_all p xs
none_without p [] = refl
none_without p (x ∷ xs) = elim (cases_Bool (p x)) [ inl e ↦ rw e (none_without p xs) | inr e ↦ rw e refl ]

-- the innermost open finish is the chain's first
none_is : (outers : List (Option ℕ)) (top : Option ℕ) (fs : List ℕ) → IsChain outers top fs → not (is_some top) ≡ is_empty fs
none_is outers top [] c = rw c refl
none_is outers top (f ∷ fs) c = rw c.0 refl

pub inner_is : (outers : List (Option ℕ)) (top : Option ℕ) (fs : List ℕ) (home : ℕ) → IsChain outers top fs → unwrap_or top home ≡ slice_index_or fs 0 home
inner_is outers top [] home c = rw c refl
inner_is outers top (f ∷ fs) home c = rw c.0 refl

pub inner_stands : (outers : List (Option ℕ)) (w : List WorldEvent) (t : ℕ) (k : TaskState) → TaskStands outers w t k → inner_at k ≡ inner t w
inner_stands outers w t k st = inner_is outers k.innermost (open_finishes t w) k.home st.chain ∙ ap (λ d. slice_index_or (open_finishes t w) 0 d) st.home

module _ (s : WorldState) (w : List WorldEvent) (t : ℕ) (st : StandsFor w s) where
  past : (n : ℕ) → past_in s.phasers n ≡ phaser_past n w
  past n = past_stands s w n (st.phasers n)

  somewhere : (f g : ℕ → List Event → Bool) → ((h : List Event) → is_live t h ≡ true → f t h ≡ g t h)
      → holds_somewhere f s t ≡ list_any (λ n. g t (phaser_past n w)) (phasers_of t w)
  somewhere f g same = any_stands s w t (f t) (g t) st same

  pub alike : Alike (facts s t) (history.facts w t)
  alike = record {
    is_on = λ n. rw (past n) (registered_is t (phaser_past n w));
    may_give = λ m n live. rw (past n) (gives_is m t (phaser_past n w) live);
    is_inside = λ n live. ap (λ f. f == inner_at (task_at s t)) (st.phasers n).enclosing
        ∙ ap (λ f. enclosing n w == f) (inner_stands s.outers w t (task_at s t) (st.tasks t));
    phasers = ap (λ ns. length ns) (st.tasks t).phasers;
    leads = somewhere leads is_ahead (leads_is_ahead t);
    owes = somewhere owes is_behind (owes_is_behind t);
    has_singles = ap not (somewhere (λ u h. not (has_single u h)) (λ u h. not (has_mode can_single u h)) (lacks_is t))
        ∙ none_without (λ n. has_mode can_single t (phaser_past n w)) (phasers_of t w);
    all_shut = none_is s.outers (task_at s t).innermost (open_finishes t w) (st.tasks t).chain;
    acts = (st.tasks t).acts;
  }

  named_is : (b : Begun) → is_child_named s b ≡ is_number_used w (Beginning b)
  named_is (Async c pairs) = (st.tasks c).named
  named_is Signal = refl
  named_is Wait = refl
  named_is Next = refl
  named_is (NextSingle x) = refl
  named_is Shut = refl
  named_is End = refl

  pub begin_is_refused : (b : Begun) → begin_refusal s t b ≡ first_refusal (act_conditions s.limits w t (Beginning b))
  begin_is_refused b = rw (ready_is_idle s.outers w t (task_at s t) (st.tasks t), named_is b, (st.tasks t).acts, own_alike s.limits (facts s t) (history.facts w t) alike (Beginning b)) refl

by_refusal : (o : Option Refusal) → done_unless o ≡ unless o (Ok Done)
by_refusal None = refl
by_refusal (Some r) = refl

pub begin_answers : (s : WorldState) (w : List WorldEvent) (t : ℕ) (b : Begun) → StandsFor w s → begin_answer s t b ≡ reply s.limits w (Begin t b)
begin_answers s w t b st = ap (λ o. done_unless o) (begin_is_refused s w t st b) ∙ by_refusal (first_refusal (act_conditions s.limits w t (Beginning b)))
