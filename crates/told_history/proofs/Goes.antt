-- What a caller has seen goes on from what it had seen before.
use Rattle.std.proofs.Common.{◌≡◌, inl, inr, ℕ, false, List, [], ◌∷◌, ◌++◌, Result, refl, sym, ap, ◌∙◌, subst}
use Rattle.std.proofs.lemmas.List.{append_assoc}
use Rattle.phase_modes.specs.declared.limits.Limits.{Limits}
use Rattle.phase_modes.specs.declared.reg.Mode.{Mode}
use Rattle.phase_modes.specs.declared.refusal.Refusal.{Refusal}
use Rattle.phase_modes.specs.Lists.{is_empty}
use Rattle.phase_model.specs.declared.call.Call.{Call}
use Rattle.phase_model.specs.declared.call.Call.TheVariants.{Make as make}
use Rattle.phase_model.specs.declared.history.Event.{Event}
use Rattle.phase_model.specs.declared.terms.Terms.{Terms}
use Rattle.phase_model.specs.Replies.{Reply, refused, not_yet, done, reply, after}
use Rattle.phase_model.specs.Rules.{Story}
use Rattle.phase_model.specs.Answers.{made_with}
use Rattle.told_history.specs.Stories.{GoesOn, Follows, IsAnswered, IsMade}

pub follows_after : (s : Story) (r : Reply) → Follows s (after s r)
follows_after s (refused e) = inl refl
follows_after s not_yet = inl refl
follows_after s (done e) = inr (e, refl, refl, λ some. refl)

-- only a phaser that nobody has made is made
none_before : (l : Limits) (terms : Terms) (h : List Event) (t : ℕ) (m : Mode) (f : Event) → reply (record { limits = l; terms = terms; past = h }) (make t m) ≡ done f → is_empty h ≡ false → {A : Type 0} → A
none_before l terms [] t m f k some = absurd (cc some)
none_before l terms (e ∷ h) t m f k some = absurd cc

pub follows_made : (s : Story) (terms : Terms) (t : ℕ) (m : Mode) (r : Reply) → reply s (make t m) ≡ r → Follows s (made_with s terms r)
follows_made s terms t m (refused e) k = inl refl
follows_made s terms t m not_yet k = inl refl
follows_made s terms t m (done e) k = inr (e, refl, refl, λ some. none_before s.limits s.terms s.past t m e k some)

pub goes_itself : (s : Story) → GoesOn s s
goes_itself s = (refl, ([], refl), λ some. refl)

pub follows_goes : (s s' : Story) → Follows s s' → GoesOn s s'
follows_goes s s' (inl same) = subst (λ (v : Story). GoesOn s v) (sym same) (goes_itself s)
follows_goes s s' (inr one) = (one.2, (one.0 ∷ [], one.1), one.3)

pub some_more : (newer past h : List Event) → h ≡ newer ++ past → is_empty past ≡ false → is_empty h ≡ false
some_more [] past h is some = ap (λ (x : List Event). is_empty x) is ∙ some
some_more (e ∷ newer) past h is some = ap (λ (x : List Event). is_empty x) is

pub goes_far : (a b c : Story) → GoesOn a b → GoesOn b c → GoesOn a c
goes_far a b c one other = (
  other.0 ∙ one.0,
  (other.1.0 ++ one.1.0, other.1.1 ∙ (ap (λ (h : List Event). other.1.0 ++ h) one.1.1 ∙ sym (append_assoc other.1.0 one.1.0 a.past))),
  λ some. other.2 (some_more one.1.0 a.past b.past one.1.1 some) ∙ one.2 some,
)

pub answered_goes : (Is : List Event → Reply → Type 0) (c : Call) (seen now : Story) → IsAnswered Is c seen now → GoesOn seen now
answered_goes Is c seen now told =
    let s = told.0 in
    goes_far seen s now told.1 (subst (λ (v : Story). GoesOn s v) (sym told.3) (follows_goes s (after s (reply s c)) (follows_after s (reply s c))))

pub made_goes : (answer : Result (Unit {0}) Refusal) (t : ℕ) (m : Mode) (terms : Terms) (seen now : Story) → IsMade answer (make t m) terms seen now → GoesOn seen now
made_goes answer t m terms seen now told =
    let s = told.0 in
    let r = reply s (make t m) in
    goes_far seen s now told.1 (subst (λ (v : Story). GoesOn s v) (sym told.3) (follows_goes s (made_with s terms r) (follows_made s terms t m r refl)))
