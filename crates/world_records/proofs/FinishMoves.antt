-- An event of a finish that is open already: what it leaves as it was, and where the world stands after it.
use Rattle.std.proofs.Common.{◌≡◌, ℕ, zero, suc, ◌<◌, ◌==◌, Bool, true, false, cond, List, [], ◌∷◌, length, get_or, set, Result, Ok, Err, refl, sym, ap, subst, ◌∙◌, arith}
use Rattle.std.proofs.lemmas.Bool.{eqb-true, and_from}
use Rattle.std.proofs.lemmas.List.{length-set}
use Rattle.phase_modes.specs.declared.refusal.Refusal.{Refusal}
use Rattle.phase_modes.specs.declared.refusal.Refusal.TheVariants.{NotNow}
use Rattle.finish_core.specs.declared.event.FinishEvent.{FinishEvent}
use Rattle.finish_core.specs.declared.event.FinishEvent.TheVariants.{Opened, Spawned, Ended, Shut}
use Rattle.finish_core.specs.Finish.{FinishStory, fresh, is_open}
use Rattle.world_model.specs.declared.event.WorldEvent.{WorldEvent}
use Rattle.world_model.specs.declared.event.WorldEvent.TheVariants.{Finish}
use Rattle.world_records.specs.TaskState.{TaskState}
use Rattle.world_records.specs.WorldState.{WorldState}
use Rattle.world_records.specs.Kept.{blank_task, finish_at}
use Rattle.world_model.specs.Parts.{finish_past}
use Rattle.world_model.specs.Scopes.{owner}
use Rattle.world_model.specs.Actors.{actor}
use Rattle.world_model.specs.Due.{due, next_event}
use Rattle.world_model.specs.PartReplies.{finish_returned}
use Rattle.world_model.specs.Replies.{is_made, is_accepted, is_legal_world}
use Rattle.world_records.specs.inner.Steps.{done_by, state_by}
use Rattle.world_records.specs.inner.Queries.{next_by}
use Rattle.world_records.specs.inner.FinishSteps.{is_next}
use Rattle.world_records.specs.StandsFor.{TaskStands, StandsFor}
use Rattle.world_records.proofs.TableReads.{read_set}
use Rattle.world_model.proofs.NextIsDue.{First, first_due}
use Rattle.world_model.proofs.BornWhereNamed.{finish_due}

-- it doesn't open the finish
abbrev pub IsLater : FinishEvent → Type 0
IsLater (Opened t) = ⊥
IsLater _ = Unit {0}

owner_same : (g f : ℕ) (e : FinishEvent) (w : List WorldEvent) → IsLater e → owner g (Finish f e ∷ w) ≡ owner g w
owner_same g f (Opened t) w q = absurd q
owner_same g f (Spawned t) w q = refl
owner_same g f (Ended t) w q = refl
owner_same g f Shut w q = refl

-- a finish's story after an event
abbrev pub noted : FinishStory → FinishEvent → FinishStory
noted y e = record { tasks = y.tasks; past = e ∷ y.past }

module _ (s : WorldState) (w : List WorldEvent) (f : ℕ) (e : FinishEvent) (later : IsLater e) (st : StandsFor w s) where
  -- the stories of the finishes after it
  story_by : (g : ℕ) (b : Bool) → (f == g) ≡ b
      → cond b (noted (finish_at s f) e) (finish_at s g) ≡ record { tasks = s.limits.tasks; past = finish_past g (Finish f e ∷ w) }
  story_by g true k =
      rw k (subst (λ v. noted (finish_at s f) e ≡ noted (record { tasks = s.limits.tasks; past = finish_past v w }) e) (eqb-true f g k)
      (ap (λ (y : FinishStory). noted y e) (st.finishes f).story))
  story_by g false k = rw k (st.finishes g).story

  -- the world stands where each task's line does
  pub finish_stands : (ks : List TaskState) → f < length s.finishes → is_accepted s.limits w (Finish f e) ≡ true → ((u : ℕ) → TaskStands s.outers (Finish f e ∷ w) u (get_or ks u blank_task))
      → StandsFor (Finish f e ∷ w) (record s { finishes = set s.finishes f (noted (finish_at s f) e); tasks = ks })
  finish_stands ks within accepted lines =
      let y : FinishStory = noted (finish_at s f) e in
      record {
        fit = st.fit;
        finishes_size = length-set s.finishes f y ∙ st.finishes_size;
        owners_size = st.owners_size;
        outers_size = st.outers_size;
        legal = and_from (is_accepted s.limits w (Finish f e)) (is_legal_world s.limits w) accepted st.legal;
        phasers = λ n. record { story = (st.phasers n).story; enclosing = (st.phasers n).enclosing };
        finishes = λ g. record {
          story = read_set s.finishes f g y (fresh s.limits.tasks) within ∙ story_by g (f == g) refl;
          owner = (st.finishes g).owner ∙ sym (owner_same g f e w later);
        };
        tasks = lines;
      }

-- what follows from an answer that is made
pub done_ok : (r : Result (Unit {0}) Refusal) → is_made (done_by r) ≡ true → r ≡ Ok tt
done_ok (Ok u) k = refl
done_ok (Err r) k = absurd cc

pub same_done : (r : Result (Unit {0}) Refusal) → done_by r ≡ finish_returned r
same_done (Ok u) = refl
same_done (Err r) = refl

pub not_made : (r : Result (Unit {0}) Refusal) (old new : WorldState) → is_made (done_by r) ≡ false → state_by r old new ≡ old
not_made (Ok u) old new k = absurd cc
not_made (Err r) old new k = refl

pub asked_ok : (b : Bool) (r : Result (Unit {0}) Refusal) → cond b r (Err NotNow) ≡ Ok tt → (b ≡ true) × (r ≡ Ok tt)
asked_ok true r k = (refl, k)
asked_ok false r k = absurd cc

-- a finish that is open, and a task that has an event to come, stand in the tables
pub open_within : (xs : List FinishStory) (f tasks : ℕ) → is_open (get_or xs f (fresh tasks)).past ≡ true → f < length xs
open_within [] f tasks k = absurd cc
open_within (x ∷ xs) zero tasks k = omega arith
open_within (x ∷ xs) (suc f) tasks k = omega (arith, open_within xs f tasks k)

pub next_within : (s : WorldState) (t : ℕ) (e : WorldEvent) (ks : List TaskState) (u : ℕ) → is_next (next_by s t (get_or ks u blank_task) (get_or ks u blank_task).plan) e ≡ true → u < length ks
next_within s t e [] u k = absurd cc
next_within s t e (x ∷ ks) zero k = omega arith
next_within s t e (x ∷ ks) (suc u) k = omega (arith, next_within s t e ks u k)

-- a finish's event that comes next is the first one due
pub first_is : (s : WorldState) (w : List WorldEvent) (f : ℕ) (e : FinishEvent) → is_next (next_event s.limits (actor w (Finish f e)) w) (Finish f e) ≡ true
    → (ds : List WorldEvent) × (due (actor w (Finish f e)) w ≡ Finish f e ∷ ds)
first_is s w f e k =
    let t = actor w (Finish f e) in
    let first : First s.limits w (due t w) (Finish f e) = first_due s.limits w (Finish f e) k in
    (first.rest, subst (λ d. due t w ≡ d ∷ first.rest) (finish_due s.limits w first.due f e first.stands) first.is)
