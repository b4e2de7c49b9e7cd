-- A call that a phaser refuses leaves the table of phasers as it was.
use Rattle.std.proofs.Common.{◌≡◌, ℕ, Bool, true, false, cond, Option, Some, None, ◌==◌, length, reverse, arith, [], ◌∷◌, List, get_or, set, Err, refl, ap, ◌∙◌}
use Rattle.std.proofs.lemmas.List.{set-get_or, length-reverse}
use Rattle.phase_modes.specs.Lists.{is_empty}
use Rattle.finish_core.specs.declared.event.FinishEvent.{FinishEvent}
use Rattle.phase_modes.specs.declared.refusal.Refusal.{Refusal}
use Rattle.phase_model.specs.Rules.{Story, is_permitted}
use Rattle.phase_model.specs.declared.history.Event.{Event}
use Rattle.phase_model.specs.declared.history.Event.TheVariants.{Sig, Claim, Pass}
use Rattle.phase_model.specs.Answers.{signal_result, pass_result}
use Rattle.phase_model.specs.Replies.{Reply, refused, not_yet, done, decided, reply, after, done_result}
use Rattle.phase_model.specs.declared.call.Call.TheVariants.{Signal as signal, Pass as pass}

refused_keeps : (s : Story) (r : Reply) (e : Refusal) → Err e ≡ done_result r → after s r ≡ s
refused_keeps s (refused x) e k = refl
refused_keeps s not_yet e k = refl
refused_keeps s (done x) e k = absurd cc

pub kept : (xs : List Story) (n : ℕ) (old new : Story) (r : Reply) (e : Refusal) → Err e ≡ done_result r → new ≡ after old r → old ≡ get_or xs n old → set xs n new ≡ xs
kept xs n old new r e k moved read =
    let same : new ≡ get_or xs n old = moved ∙ (refused_keeps old r e k ∙ read) in
    ap (λ x. set xs n x) same ∙ set-get_or xs n old

pass_by : (s : Story) (o : Option Refusal) (waiting room claims : Bool) (t : ℕ) (h : List Event) (e : Refusal)
    → Err e ≡ pass_result h (decided o waiting room (cond claims (Claim t) (Pass t))) → after s (decided o waiting room (cond claims (Claim t) (Pass t))) ≡ s
pass_by s (Some r) waiting room claims t h e k = refl
pass_by s None true room claims t h e k = refl
pass_by s None false false claims t h e k = refl
pass_by s None false true true t h e k = absurd cc
pass_by s None false true false t h e k = absurd cc

signal_by : (s : Story) (o : Option Refusal) (waiting room : Bool) (e : Event) (r : Refusal) → Err r ≡ signal_result (decided o waiting room e) → after s (decided o waiting room e) ≡ s
signal_by s (Some x) waiting room e r k = refl
signal_by s None true room e r k = refl
signal_by s None false true e r k = absurd cc
signal_by s None false false e r k = refl

-- the same of a signal
pub signal_kept : (xs : List Story) (n : ℕ) (old new : Story) (t : ℕ) (x : Option ℕ) (e : Refusal) → Err e ≡ signal_result (reply old (signal t x)) → new ≡ after old (reply old (signal t x)) → old ≡ get_or xs n old → set xs n new ≡ xs
signal_kept xs n old new t x e k moved read =
    let same : new ≡ get_or xs n old = moved ∙ (signal_by old _ _ _ (Sig t x) e k ∙ read) in
    ap (λ y. set xs n y) same ∙ set-get_or xs n old

-- the same of a pass
pub pass_kept : (xs : List Story) (n : ℕ) (old new : Story) (t : ℕ) (e : Refusal) → Err e ≡ pass_result old.past (reply old (pass t)) → new ≡ after old (reply old (pass t)) → old ≡ get_or xs n old → set xs n new ≡ xs
pass_kept xs n old new t e k moved read =
    let same : new ≡ get_or xs n old = moved ∙ (pass_by old _ _ _ (is_permitted old.limits old.terms old.past (Claim t)) t old.past e k ∙ read) in
    ap (λ x. set xs n x) same ∙ set-get_or xs n old

-- a list that is kept the other way round is empty where it is
pub none_at_all : (xs ys : List FinishEvent) → reverse xs ≡ ys → (length xs == 0) ≡ is_empty ys
none_at_all [] ys e = ap (λ zs. is_empty zs) e
none_at_all (x ∷ xs) [] e = absurd (omega (arith, ap length e, length-reverse (x ∷ xs)))
none_at_all (x ∷ xs) (y ∷ ys) e = grind arith
