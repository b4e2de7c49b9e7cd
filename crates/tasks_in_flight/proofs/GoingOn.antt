-- How what a call came to tells how a task goes on.
use Rattle.std.proofs.Common.{ℕ, ◌≡◌, inl, inr, Bool, true, false, if◌then◌else◌, Option, Some, None, Result, Ok, Err, refl, sym, ap, subst, ◌∙◌}
use Rattle.std.specs.Prelude.{OnOk}
use Rattle.phase_modes.specs.declared.refusal.Refusal.{Refusal}
use Rattle.world_model.specs.declared.event.Begun.{Begun}
use Rattle.world_model.specs.declared.event.Step.{Step}
use Rattle.world_model.specs.declared.event.Step.TheVariants.{Claim}
use Rattle.world_model.specs.declared.event.WorldEvent.{WorldEvent}
use Rattle.world_model.specs.declared.event.WorldEvent.TheVariants.{Begin, Fail}
use Rattle.task_standing.specs.declared.plan.Due.{Due}
use Rattle.task_standing.specs.declared.plan.Due.TheVariants as due
use Rattle.task_standing.specs.Known.{Known}
use Rattle.task_standing.specs.Noted.{noted}
use Rattle.task_standing.specs.StillToMake.{event_of}
use Rattle.tasks_in_flight.specs.inner.Due.{IsNext}
use Rattle.tasks_in_flight.specs.inner.GoingOn.{HasTried, HasActed, GoesBy, IfGoesOn, HasGoneOn, given_up, tried_by}
use Rattle.tasks_in_flight.specs.inner.Ready.{IsDue}

-- what holds of a task that goes on holds also as what follows from it
pub goes_as : {T : Type 0} (r : Result (Option T) Refusal) (P Q : T → Type 0) → ((x : T) → P x → Q x) → IfGoesOn r P → IfGoesOn r Q
goes_as (Ok (Some x)) P Q implied is = implied x is
goes_as (Ok None) P Q implied is = tt
goes_as (Err e) P Q implied is = tt

-- a task that gives up has made no event
pub gives_up : {T : Type 0} (r : Result (Option T) Refusal) (known : T → Known) (Made : ℕ → Step → Type 0) (e : WorldEvent) (mid k : Known)
    → mid ≡ k → IfGoesOn r (λ x. known x ≡ given_up mid) → IfGoesOn r (λ x. HasTried Made e k (known x))
gives_up r known Made e mid k same =
    goes_as r (λ x. known x ≡ given_up mid) (λ x. HasTried Made e k (known x)) (λ x is. inr (is ∙ ap given_up same))

-- the same in place of a pass
pub gives_up_turn : {T : Type 0} (r : Result (Option T) Refusal) (known : T → Known) (Made : ℕ → Step → Type 0) (n : ℕ) (mid k : Known)
    → mid ≡ k → IfGoesOn r (λ x. known x ≡ given_up mid) → IfGoesOn r (λ x. GoesBy Made (due.Pass n) k (known x))
gives_up_turn r known Made n mid k same =
    goes_as r (λ x. known x ≡ given_up mid) (λ x. GoesBy Made (due.Pass n) k (known x)) (λ x is. inl (inr (is ∙ ap given_up same)))

-- one that has claimed a single has noted nothing
pub claims : {T : Type 0} (r : Result (Option T) Refusal) (known : T → Known) (Made : ℕ → Step → Type 0) (n : ℕ) (mid k : Known)
    → mid ≡ k → Made n (Claim k.number) → IfGoesOn r (λ x. known x ≡ mid)
    → IfGoesOn r (λ x. GoesBy Made (due.Pass n) k (known x))
claims r known Made n mid k same claimed =
    goes_as r (λ x. known x ≡ mid) (λ x. GoesBy Made (due.Pass n) k (known x)) (λ x is. inr (claimed, is ∙ same))

-- what is named as due is due
pub due_now : (k : Known) (child : Option Known) (d named : Due) → IsNext d k child → d ≡ named → IsDue (event_of k.number named) k
due_now k child d named first is = (child, sym first ∙ ap (λ (y : Due). event_of k.number y) is)

-- a task that goes on by what was due goes on by what comes next
pub goes_by : {T : Type 0} (r : Result (Option T) Refusal) (known : T → Known) (Made : ℕ → Step → Type 0) (child : Option Known) (k : Known)
    (d named : Due) → IsNext d k child → d ≡ named
    → IfGoesOn r (λ x. GoesBy Made named k (known x)) → IfGoesOn r (λ x. HasGoneOn Made child k (known x))
goes_by r known Made child k d named first is =
    goes_as r (λ x. GoesBy Made named k (known x)) (λ x. HasGoneOn Made child k (known x))
    (λ x goes. (d, first, subst (λ (y : Due). GoesBy Made y k (known x)) (sym is) goes))

-- nothing is to show of a task that doesn't go on
pub goes_nowhere : {T : Type 0} (r : Result (Option T) Refusal) (Q : T → Type 0) → IfGoesOn r (λ x. ⊥) → IfGoesOn r Q
goes_nowhere r Q = goes_as r (λ x. ⊥) Q (λ x no. absurd no)

-- ---- acts

pub acts_no_more : (Made : ℕ → Step → Type 0) (k k' : Known) → k' ≡ given_up k → HasActed Made k k'
acts_no_more Made k k' is = (Fail k.number 0, refl, tt, is)

pub begins : (Made : ℕ → Step → Type 0) (b : Begun) (has_begun : Bool) (k k' : Known)
    → k' ≡ (if has_begun then noted (Begin k.number b) k else given_up k) → HasActed Made k k'
begins Made b true k k' is = (Begin k.number b, refl, tt, is)
begins Made b false k k' is = acts_no_more Made k k' is

-- a task that may not try an act comes to its end
pub not_tried : (Made : ℕ → Step → Type 0) (may : Bool) (k k' : Known) → may ≡ false → k' ≡ tried_by may k → HasActed Made k k'
not_tried Made may k k' not_so is = acts_no_more Made k k' (is ∙ ap (λ (b : Bool). tried_by b k) not_so)

pub if_ok : (P Q : Type 0) → (P → Q) → (r : Result (Unit {0}) Refusal) → OnOk r P → OnOk r Q
if_ok P Q implied (Ok u) is = implied is
if_ok P Q implied (Err e) is = tt

pub gave_up : (Made : ℕ → Step → Type 0) (mid k k' : Known) → mid ≡ k → (r : Result (Unit {0}) Refusal) → OnOk r (k' ≡ given_up mid)
    → OnOk r (HasActed Made k k')
gave_up Made mid k k' same =
    if_ok (k' ≡ given_up mid) (HasActed Made k k') (λ is. acts_no_more Made k k' (is ∙ ap given_up same))
