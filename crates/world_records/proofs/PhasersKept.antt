-- Where a phaser refuses a call, the table of phasers is as it was.
use Rattle.std.proofs.Common.{◌≡◌, ℕ, ◌∷◌, Bool, true, false, not, nat_lt, List, [], length, Option, Some, None, get_or, set, Result, Ok, Err, ℤ, refl, ap, ◌∙◌, arith}
use Rattle.std.specs.Prelude.{IfErr}
use Rattle.std.proofs.lemmas.List.{set-get_or}
use Rattle.phase_modes.specs.Lists.{is_empty}
use Rattle.phase_modes.specs.declared.reg.Mode.{Mode}
use Rattle.phase_modes.specs.declared.refusal.Refusal.{Refusal}
use Rattle.phase_model.specs.declared.call.Call.TheVariants.{Register as register, Send as send, Look as look}
use Rattle.phase_model.specs.declared.history.Event.{Event}
use Rattle.phase_model.specs.declared.history.Event.TheVariants.{Look as Looked}
use Rattle.phase_model.specs.declared.op.Look.{Look}
use Rattle.phase_model.specs.declared.terms.Terms.{Terms}
use Rattle.phase_model.specs.Rules.{Story}
use Rattle.phase_model.specs.Replies.{Reply, refused, not_yet, done, decided, reply, after, done_result}
use Rattle.phase_model.specs.Answers.{made_with, look_result}
use Rattle.world_records.specs.WorldState.{WorldState}
use Rattle.world_records.proofs.Calls.{kept}

-- a history of some length isn't empty
pub some_at_all : (h : List Event) → nat_lt 0 (length h) ≡ not (is_empty h)
some_at_all [] = refl
some_at_all (e ∷ h) = grind arith

made_keeps : (s : Story) (terms : Terms) (r : Reply) (e : Refusal) → Err e ≡ done_result r → made_with s terms r ≡ s
made_keeps s terms (refused x) e k = refl
made_keeps s terms not_yet e k = refl
made_keeps s terms (done x) e k = absurd cc

-- a phaser that refuses to be made leaves the table as it was
pub make_kept : (xs : List Story) (n : ℕ) (old new : Story) (terms : Terms) (r : Reply) (e : Refusal) → Err e ≡ done_result r → new ≡ made_with old terms r → old ≡ get_or xs n old → set xs n new ≡ xs
make_kept xs n old new terms r e k moved read =
    let same : new ≡ get_or xs n old = moved ∙ (made_keeps old terms r e k ∙ read) in
    ap (λ x. set xs n x) same ∙ set-get_or xs n old

-- the same of a registration
pub register_kept : (xs : List Story) (n : ℕ) (old new : Story) (q c : ℕ) (m : Mode) (e : Refusal) → Err e ≡ done_result (reply old (register q c m)) → new ≡ after old (reply old (register q c m)) → old ≡ get_or xs n old → set xs n new ≡ xs
register_kept xs n old new q c m e k moved read = kept xs n old new (reply old (register q c m)) e k moved read

look_by : (s : Story) (o : Option Refusal) (room : Bool) (t a : ℕ) (x : Look ℤ) (e : Refusal)
    → Err e ≡ look_result (decided o false room (Looked t a x)) → after s (decided o false room (Looked t a x)) ≡ s
look_by s (Some r) room t a x e k = refl
look_by s None false t a x e k = refl
look_by s None true t a x e k = absurd cc

pub look_kept : (xs : List Story) (n : ℕ) (old new : Story) (t a : ℕ) (e : Refusal) → Err e ≡ look_result (reply old (look t a)) → new ≡ after old (reply old (look t a)) → old ≡ get_or xs n old → set xs n new ≡ xs
look_kept xs n old new t a e k moved read =
    let same : new ≡ get_or xs n old = moved ∙ (look_by old _ _ t a _ e k ∙ read) in
    ap (λ x. set xs n x) same ∙ set-get_or xs n old

pub send_kept : (xs : List Story) (n : ℕ) (old new : Story) (t a : ℕ) (v : ℤ) (e : Refusal) → Err e ≡ done_result (reply old (send t a v)) → new ≡ after old (reply old (send t a v)) → old ≡ get_or xs n old → set xs n new ≡ xs
send_kept xs n old new t a v e k moved read = kept xs n old new (reply old (send t a v)) e k moved read

-- what holds anyway holds after a refusal
pub if_err : {X Y : Type 0} (r : Result X Y) (P : Type 0) → P → IfErr r (λ _. P)
if_err (Ok x) P p = tt
if_err (Err e) P p = p

pub same_phasers : (s : WorldState) (xs : List Story) → xs ≡ s.phasers → record s { phasers = xs } ≡ s
same_phasers s xs e = ap (λ ys. record s { phasers = ys }) e
