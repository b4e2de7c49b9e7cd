-- A send or a look leaves all where they stand.
use Rattle.std.specs.Prelude.{ℤ, ◌≢◌}
use Rattle.std.proofs.Common.{◌≡◌, ℕ, Bool, true, if◌then◌else◌, List, [], ◌∷◌, Ok, refl, ap, sym, ◌∙◌, subst, ⊎_elim}
use Rattle.std.specs.List.{filter}
use Rattle.std.proofs.lemmas.Bool.{eq-eqb, ne_eqb}
use Rattle.told_history.specs.Tails.{IsTail}
use Rattle.phase_model.specs.declared.history.Event.{Event}
use Rattle.phase_model.specs.declared.history.Event.TheVariants.{Send}
use Rattle.phase_model.specs.declared.call.Call.TheVariants.{Send as send, Look as look}
use Rattle.phase_model.specs.Tasks.{is_live}
use Rattle.phase_model.specs.Phases.{signals}
use Rattle.phase_model.specs.Rules.{Story, with_event}
use Rattle.phase_model.specs.Replies.{done_result, event_for, reply, after}
use Rattle.level_phaser.specs.Deeds.{is_sent_by, deeds, deeds_of, with_send}
use Rattle.level_phaser.specs.RoundLaws.{StandLevel}
use Rattle.level_phaser.proofs.Answered.{done_event, either_way}

-- these tasks stay, and have done no more
abbrev pub Idle : (ℕ → Type 0) → Story → Story → Type 0
Idle Of s s' = (u : ℕ) → Of u → is_live u s.past ≡ true → (is_live u s'.past ≡ true)
    × (deeds_of u s'.past ≡ deeds_of u s.past)

-- what a send that is done leaves
pub record SentAt (p t : ℕ) (e : Event) (ts : List ℕ) (s s' : Story) : Type 0 where
  pub newest : s'.past ≡ e ∷ s.past
  pub sender : is_live t s.past ≡ true → (is_live t s'.past ≡ true)
      × (deeds_of t s'.past ≡ with_send e (deeds_of t s.past))
  pub others : Idle (λ u. u ≢ t) s s'
  pub stand : StandLevel p ts s'

pub sent_level : (p t a : ℕ) (v : ℤ) (ts : List ℕ) (s s' : Story) → StandLevel p ts s
    → s' ≡ after s (reply s (send t a v))
    → done_result (reply s (send t a v)) ≡ Ok tt → SentAt p t (Send t a v) ts s s'
sent_level p t a v ts s s' stand is ok =
    let e = Send t a v in
    let h = s.past in
    subst (λ (z : Story). SentAt p t e ts s z) (sym (is ∙ done_event s (send t a v) ok)) (record {
      newest = refl;
      sender =
          λ live. (
            live,
            ap (λ (b : Bool). deeds (signals t h) (if b then e ∷ filter (is_sent_by t) h else filter
                (is_sent_by t) h)) (eq-eqb t t refl),
          );
      others = λ u other live. (
        live,
        ap (λ (b : Bool). deeds (signals u h) (if b then e ∷ filter (is_sent_by u) h else filter
            (is_sent_by u) h)) (ne_eqb t u (λ k. other (sym k))),
      );
      stand = record { level = stand.level; all = stand.all; apart = stand.apart };
    })

-- what a look leaves, or a call that is refused
pub record LookedAt (p : ℕ) (ts : List ℕ) (s s' : Story) : Type 0 where
  pub longer : IsTail s.past s'.past
  pub all : Idle (λ u. Unit {0}) s s'
  pub stand : StandLevel p ts s'

-- nothing was added
pub kept_level : (p : ℕ) (ts : List ℕ) (s s' : Story) → StandLevel p ts s → s' ≡ s → LookedAt p ts s s'
kept_level p ts s s' stand same =
    subst (λ (z : Story). LookedAt p ts s z) (sym same)
    (record { longer = ([], refl); all = λ u _ live. (live, refl); stand = stand })

pub looked_level : (p t a : ℕ) (ts : List ℕ) (s s' : Story) → StandLevel p ts s
    → s' ≡ after s (reply s (look t a)) → LookedAt p ts s s'
looked_level p t a ts s s' stand is =
    let c = look t a in
    let e = event_for s.limits s.terms s.past c in
    ⊎_elim
    (λ (k : after s (reply s c) ≡ s). kept_level p ts s s' stand (is ∙ k))
    (λ (k : after s (reply s c) ≡ with_event s e). subst (λ (z : Story). LookedAt p ts s z) (sym (is ∙ k))
    (record {
      longer = (e ∷ [], refl);
      all = λ u _ live. (live, refl);
      stand = record { level = stand.level; all = stand.all; apart = stand.apart };
    }))
    (either_way s c)
