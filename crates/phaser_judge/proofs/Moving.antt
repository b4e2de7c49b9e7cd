-- Where an event that is told leaves a phaser, and what one that isn't told is.
use Rattle.std.proofs.Common.{◌≡◌, ◌≢◌, ℕ, true, false, List, Result, Ok, Err, refl, ap, sym, subst, ◌∙◌, IfOk, IfErr}
use Rattle.phase_model.specs.declared.history.Event.{Event}
use Rattle.phase_model.specs.Rules.{Story, is_legal}
use Rattle.phaser_judge.specs.declared.event.Named.{Named}
use Rattle.phaser_judge.specs.declared.refused.Refused.{Refused}
use Rattle.phaser_judge.specs.declared.refused.Refused.TheVariants.{Memory}
use Rattle.phaser_judge.specs.Standings.{Standing, renamed_event, is_allowed_of, can_happen, story_with, names_after, moved}
use Rattle.phaser_judge.specs.Reasons.{said_of, verdict}
use Rattle.phaser_judge.specs.inner.Steps.{left_by}
use Rattle.phaser_judge.specs.Numbers.{next_after}
use Rattle.phaser_judge.proofs.Telling.{told_ok, told_err}

told_happens : (s : Story) (x : Result Event Refused) → said_of s x ≡ Ok tt → is_allowed_of s x ≡ true
told_happens s (Ok e) k = (told_ok s e k).0
told_happens s (Err r) k = absurd cc

told_stands : (s : Story) (x : Result Event Refused) → said_of s x ≡ Ok tt → left_by s x ≡ story_with s x
told_stands s (Ok e) k = (told_ok s e k).1
told_stands s (Err r) k = refl

told_fails : (s : Story) (x : Result Event Refused) (r : Refused) → is_legal s.limits s.terms s.past ≡ true
    → said_of s x ≡ Err r → is_allowed_of s x ≡ false
told_fails s (Ok e) r k l = told_err s e r k l
told_fails s (Err q) r k l = refl

-- an event that is told can happen
pub happens : (s : Standing) (e : Named) → Ok tt ≡ verdict s e → can_happen s e ≡ true
happens s e k = told_happens s.story (renamed_event s e) (sym k)

-- one that isn't told can't
pub fails : (s : Standing) (e : Named) (r : Refused) → is_legal s.story.limits s.story.terms s.story.past ≡ true
    → Err r ≡ verdict s e → can_happen s e ≡ false
fails s e r k l = told_fails s.story (renamed_event s e) r k (sym l)

-- a standing is its three parts
pub same_standing : (t : Standing) (story : Story) (names : List (ℕ × ℕ)) (next : ℕ) → t.story ≡ story → t.names ≡ names
    → t.next ≡ next → t ≡ record { story = story; names = names; next = next }
same_standing t story names next a b d =
    ap (λ (x : Story). record { story = x; names = t.names; next = t.next }) a
    ∙ (ap (λ (x : List (ℕ × ℕ)). record { story = story; names = x; next = t.next }) b
    ∙ ap (λ (x : ℕ). record { story = story; names = names; next = x }) d)

-- the phaser after an event that is told
pub stands : (s : Standing) (e : Named) (t : Standing) → Ok tt ≡ verdict s e
    → t.story ≡ left_by s.story (renamed_event s e) → t.names ≡ names_after s e → t.next ≡ next_after s.next e
    → t ≡ moved s e
stands s e t k a b d =
    let f : t.story ≡ story_with s.story (renamed_event s e) =
    a ∙ told_stands s.story (renamed_event s e) (sym k) in
    same_standing t (story_with s.story (renamed_event s e)) (names_after s e) (next_after s.next e) f b d

-- so it is where the result is one
pub moves : (r : Result (Unit {0}) Refused) (s : Standing) (e : Named) (t : Standing)
    → (r ≢ Err Memory → r ≡ verdict s e)
    → IfOk r (λ _. t.story ≡ left_by s.story (renamed_event s e)) → IfOk r (λ _. t.names ≡ names_after s e)
    → IfOk r (λ _. t.next ≡ next_after s.next e) → IfOk r (λ _. t ≡ moved s e)
moves (Ok u) s e t told_is a b d = stands s e t (told_is (λ x. absurd cc)) a b d
moves (Err r) s e t told_is a b d = tt

pub accepts : (r : Result (Unit {0}) Refused) (s : Standing) (e : Named)
    → (r ≢ Err Memory → r ≡ verdict s e) → IfOk r (λ _. can_happen s e ≡ true)
accepts (Ok u) s e told_is = happens s e (told_is (λ x. absurd cc))
accepts (Err r) s e told_is = tt

pub refuses : (r : Result (Unit {0}) Refused) (v s : Standing) (e : Named) → v ≡ s
    → is_legal v.story.limits v.story.terms v.story.past ≡ true
    → (r ≢ Err Memory → r ≡ verdict s e) → IfErr r (λ q. q ≢ Memory → can_happen s e ≡ false)
refuses (Ok u) v s e same legal told_is = tt
refuses (Err q) v s e same legal told_is = λ apart.
    fails s e q (subst (λ (w : Standing). is_legal w.story.limits w.story.terms w.story.past ≡ true) same legal)
    (told_is (λ x. apart (cc)))
