-- Whether a history follows its program, by the place at which it leaves it.
use Rattle.std.proofs.Common.{ℕ, suc, ◌≡◌, true, false, true≢false, List, [], ◌∷◌, ◌++◌, reverse, take, drop, Option, Some, None, sym, ap, subst, ◌∙◌}
use Rattle.std.proofs.lemmas.Bool.{and_parts, false_from_ne_true}
use Rattle.std.proofs.lemmas.List.{reverse-append, take-append-drop}
use Rattle.job_script.specs.Program.{Program}
use Rattle.world_model.specs.declared.event.WorldEvent.{WorldEvent}
use Rattle.trace_walk.specs.Follows.{follows}
use Rattle.trace_walk.specs.Laws.{first_wrong, IsFirstWrong}
use Rattle.trace_walk.proofs.FirstPlaces.{places-first}

follows_older : (p : Program) (v w : List WorldEvent) → follows p (v ++ w) ≡ true → follows p w ≡ true
follows_older p [] w h = h
follows_older p (e ∷ v) w h = follows_older p v w (and_parts _ _ h).1

cut : (k : ℕ) (es : List WorldEvent) → reverse es ≡ reverse (drop k es) ++ reverse (take k es)
cut k es = ap (λ (v : List WorldEvent). reverse v) (sym (take-append-drop k es))
    ∙ reverse-append (take k es) (drop k es)

by_first : (p : Program) (es : List WorldEvent) (n : ℕ) → IsFirstWrong p es (Some n)
    → follows p (reverse es) ≡ false
by_first p es n t =
    false_from_ne_true (follows p (reverse es)) (λ h. true≢false
    (sym (follows_older p (reverse (drop (suc t.0) es)) (reverse (take (suc t.0) es))
    (subst (λ (v : List WorldEvent). follows p v ≡ true) (cut (suc t.0) es) h)) ∙ t.3))

-- a history for which a place is found doesn't follow the program
pub leaves : (p : Program) (es : List WorldEvent) (n : ℕ) → first_wrong p [] 0 es ≡ Some n
    → follows p (reverse es) ≡ false
leaves p es n e = by_first p es n (subst (λ (o : Option ℕ). IsFirstWrong p es o) e (places-first p es))

-- one for which none is found does
pub stays : (p : Program) (es : List WorldEvent) → first_wrong p [] 0 es ≡ None
    → follows p (reverse es) ≡ true
stays p es e = subst (λ (o : Option ℕ). IsFirstWrong p es o) e (places-first p es)
