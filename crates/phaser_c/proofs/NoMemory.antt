-- No rule of a phaser refuses an event for want of memory.
use Rattle.std.proofs.Common.{◌≡◌, ℕ, ℤ, Bool, true, false, ◌&&◌, is_some, if◌then◌else◌, List, [], ◌∷◌, Option, None, Some, Result, Ok, Err, refl, sym, ap, ◌∙◌}
use Rattle.std.specs.Option.{option_map_or}
use Rattle.phase_modes.specs.declared.refusal.Refusal.{Refusal}
use Rattle.phase_modes.specs.declared.refusal.Refusal.TheVariants as refusals
use Rattle.phase_modes.specs.declared.limits.Limits.{Limits}
use Rattle.phase_modes.specs.Refusal.{first_refusal}
use Rattle.phase_model.specs.declared.op.Look.{Look}
use Rattle.phase_model.specs.declared.history.Event.{Event}
use Rattle.phase_model.specs.declared.history.Event.TheVariants as event
use Rattle.phase_model.specs.declared.terms.Terms.{Terms}
use Rattle.phase_model.specs.declared.call.Call.{Call}
use Rattle.phase_model.specs.declared.call.Call.TheVariants as calls
use Rattle.phase_model.specs.Conditions.{conditions}
use Rattle.phase_model.specs.Rules.{Story, has_room, same_look}
use Rattle.phase_model.specs.Replies.{Reply, refused, not_yet, done, decided, reply, event_for, must_wait, done_result}
use Rattle.phase_model.specs.Answers.{signal_result, pass_result, look_result}
use Rattle.phaser_judge.specs.declared.event.Named.{Named}
use Rattle.phaser_judge.specs.declared.event.Named.TheVariants as named
use Rattle.phaser_judge.specs.declared.refused.Refused.{Refused}
use Rattle.phaser_judge.specs.declared.refused.Refused.TheVariants as why
use Rattle.phaser_judge.specs.Numbers.{number_of, by_number}
use Rattle.phaser_judge.specs.Standings.{Standing}
use Rattle.phaser_judge.specs.Reasons.{by_rule, by_signal, by_pass, by_claim, by_look, said, said_of, verdict_at}

abbrev pub is_other : Refusal → Bool
is_other refusals.Memory = false
is_other _ = true

-- no condition is of memory
abbrev are_other : List (Refusal × Bool) → Bool
are_other [] = true
are_other (c ∷ cs) = is_other c.0 && are_other cs

abbrev is_other_if : Option Refusal → Bool
is_other_if None = true
is_other_if (Some r) = is_other r

both_true : (a b : Bool) → (a && b) ≡ true → (a ≡ true) × (b ≡ true)
both_true true b k = (refl, k)
both_true false b k = absurd cc

first_step : (met : Bool) (r : Refusal) (o : Option Refusal) → is_other r ≡ true → is_other_if o ≡ true
    → is_other_if (if met then o else Some r) ≡ true
first_step true r o k l = l
first_step false r o k l = k

first_other : (cs : List (Refusal × Bool)) → are_other cs ≡ true → is_other_if (first_refusal cs) ≡ true
first_other [] k = refl
first_other (c ∷ cs) k =
    let b = both_true (is_other c.0) (are_other cs) k in
    first_step c.1 c.0 (first_refusal cs) b.0 (first_other cs b.1)

conditions_other : (l : Limits) (terms : Terms) (h : List Event) (c : Call) → are_other (conditions l terms h c) ≡ true
conditions_other l terms h (calls.Make t m) = refl
conditions_other l terms h (calls.Register q t m) = refl
conditions_other l terms h (calls.Signal t x) = refl
conditions_other l terms h (calls.Pass t) = refl
conditions_other l terms h (calls.SingleDone t) = refl
conditions_other l terms h (calls.Send t a v) = refl
conditions_other l terms h (calls.Look t a) = refl
conditions_other l terms h (calls.Drop t) = refl

abbrev replies_other : Reply → Bool
replies_other (refused r) = is_other r
replies_other not_yet = true
replies_other (done e) = true

decided_other : (o : Option Refusal) (waiting room : Bool) (e : Event) → is_other_if o ≡ true
    → replies_other (decided o waiting room e) ≡ true
decided_other (Some r) waiting room e k = k
decided_other None true room e k = refl
decided_other None false true e k = refl
decided_other None false false e k = refl

reply_other : (s : Story) (c : Call) → replies_other (reply s c) ≡ true
reply_other s c =
    decided_other (first_refusal (conditions s.limits s.terms s.past c)) (must_wait s.limits s.terms s.past c)
    (has_room s.limits (event_for s.limits s.terms s.past c ∷ s.past)) (event_for s.limits s.terms s.past c)
    (first_other (conditions s.limits s.terms s.past c) (conditions_other s.limits s.terms s.past c))

-- what is said isn't that a rule refuses for want of memory
abbrev says_other : Result (Unit {0}) Refused → Bool
says_other (Err (why.Rule r)) = is_other r
says_other _ = true

rule_other : (r : Reply) → replies_other r ≡ true → says_other (by_rule (done_result r)) ≡ true
rule_other (refused r) k = k
rule_other not_yet k = refl
rule_other (done e) k = refl

signal_other : (r : Reply) → replies_other r ≡ true → says_other (by_signal (signal_result r)) ≡ true
signal_other (refused r) k = k
signal_other not_yet k = refl
signal_other (done e) k = refl

pass_other : (h : List Event) (r : Reply) → replies_other r ≡ true → says_other (by_pass (pass_result h r)) ≡ true
pass_other h (refused r) k = k
pass_other h not_yet k = refl
pass_other h (done (event.Make t m)) k = refl
pass_other h (done (event.Reg q t m)) k = refl
pass_other h (done (event.Sig t x)) k = refl
pass_other h (done (event.Claim t)) k = refl
pass_other h (done (event.Did t)) k = refl
pass_other h (done (event.Pass t)) k = refl
pass_other h (done (event.Send t a v)) k = refl
pass_other h (done (event.Look t a x)) k = refl
pass_other h (done (event.Drop t)) k = refl

claim_other : (h : List Event) (r : Reply) → replies_other r ≡ true → says_other (by_claim (pass_result h r)) ≡ true
claim_other h (refused r) k = k
claim_other h not_yet k = refl
claim_other h (done (event.Make t m)) k = refl
claim_other h (done (event.Reg q t m)) k = refl
claim_other h (done (event.Sig t x)) k = refl
claim_other h (done (event.Claim t)) k = refl
claim_other h (done (event.Did t)) k = refl
claim_other h (done (event.Pass t)) k = refl
claim_other h (done (event.Send t a v)) k = refl
claim_other h (done (event.Look t a x)) k = refl
claim_other h (done (event.Drop t)) k = refl

seen_other : (is_same : Bool) (y : Look ℤ) → says_other (if is_same then Ok tt else Err (why.SawOther y)) ≡ true
seen_other true y = refl
seen_other false y = refl

look_other : (x : Look ℤ) (r : Reply) → replies_other r ≡ true → says_other (by_look x (look_result r)) ≡ true
look_other x (refused r) k = k
look_other x not_yet k = refl
look_other x (done (event.Make t m)) k = refl
look_other x (done (event.Reg q t m)) k = refl
look_other x (done (event.Sig t n)) k = refl
look_other x (done (event.Claim t)) k = refl
look_other x (done (event.Did t)) k = refl
look_other x (done (event.Pass t)) k = refl
look_other x (done (event.Send t a v)) k = refl
look_other x (done (event.Look t a y)) k = seen_other (same_look x y) y
look_other x (done (event.Drop t)) k = refl

said_other : (s : Story) (e : Event) → says_other (said s e) ≡ true
said_other s (event.Make t m) = rule_other _ (reply_other s (calls.Make t m))
said_other s (event.Reg q t m) = rule_other _ (reply_other s (calls.Register q t m))
said_other s (event.Sig t x) = signal_other _ (reply_other s (calls.Signal t x))
said_other s (event.Claim t) = claim_other s.past _ (reply_other s (calls.Pass t))
said_other s (event.Did t) = rule_other _ (reply_other s (calls.SingleDone t))
said_other s (event.Pass t) = pass_other s.past _ (reply_other s (calls.Pass t))
said_other s (event.Send t a v) = rule_other _ (reply_other s (calls.Send t a v))
said_other s (event.Look t a x) = look_other x _ (reply_other s (calls.Look t a))
said_other s (event.Drop t) = rule_other _ (reply_other s (calls.Drop t))

numbered_other : (s : Story) (o : Option ℕ) (e : ℕ → Event)
    → says_other (said_of s (option_map_or (λ n. Ok (e n)) o (Err why.NotRegistered))) ≡ true
numbered_other s None e = refl
numbered_other s (Some n) e = said_other s (e n)

registered_other : (s : Story) (is_there : Bool) (r : Result Event Refused) → says_other (said_of s r) ≡ true
    → says_other (said_of s (if is_there then Err why.RegisteredAlready else r)) ≡ true
registered_other s true r k = refl
registered_other s false r k = k

of_standing : (s : Standing) (e : Named) → says_other (verdict_at (Some s) e) ≡ true
of_standing s (named.Make t m ops b) = refl
of_standing s (named.Reg q t m) =
    registered_other s.story (is_some (number_of s.names t)) (by_number s.names q (λ k. event.Reg k s.next m))
    (numbered_other s.story (number_of s.names q) (λ k. event.Reg k s.next m))
of_standing s (named.Sig t x) = numbered_other s.story (number_of s.names t) (λ k. event.Sig k x)
of_standing s (named.Claim t) = numbered_other s.story (number_of s.names t) (λ k. event.Claim k)
of_standing s (named.Did t) = numbered_other s.story (number_of s.names t) (λ k. event.Did k)
of_standing s (named.Pass t) = numbered_other s.story (number_of s.names t) (λ k. event.Pass k)
of_standing s (named.Send t a v) = numbered_other s.story (number_of s.names t) (λ k. event.Send k a v)
of_standing s (named.Look t a x) = numbered_other s.story (number_of s.names t) (λ k. event.Look k a x)
of_standing s (named.Drop t) = numbered_other s.story (number_of s.names t) (λ k. event.Drop k)

of_none : (e : Named) → says_other (verdict_at None e) ≡ true
of_none (named.Make t m ops b) = refl
of_none (named.Reg q t m) = refl
of_none (named.Sig t x) = refl
of_none (named.Claim t) = refl
of_none (named.Did t) = refl
of_none (named.Pass t) = refl
of_none (named.Send t a v) = refl
of_none (named.Look t a x) = refl
of_none (named.Drop t) = refl

verdict_other : (o : Option Standing) (e : Named) → says_other (verdict_at o e) ≡ true
verdict_other None e = of_none e
verdict_other (Some s) e = of_standing s e

pub rule_is_other : (o : Option Standing) (e : Named) (r : Refusal) → verdict_at o e ≡ Err (why.Rule r) → is_other r ≡ true
rule_is_other o e r is = ap says_other (sym is) ∙ verdict_other o e
