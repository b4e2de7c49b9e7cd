-- Whoever was registered as one who can wait stays one.
use Rattle.std.proofs.Common.{if◌then◌else◌, ◌≡◌, ℕ, ◌==◌, nat_lt, Bool, true, false, List, [], ◌∷◌, ◌++◌, Option, Some, None, is_some, refl, sym, ap, ◌∙◌, subst, append_assoc}
use Rattle.std.specs.Option.{option_map_or}
use Rattle.std.proofs.lemmas.Bool.{ne_eqb, and_parts, false≢true}
use Rattle.phase_modes.specs.declared.limits.Limits.{Limits}
use Rattle.phase_modes.specs.declared.reg.Mode.{Mode}
use Rattle.phase_modes.specs.Lists.{is_empty}
use Rattle.phase_modes.specs.Mode.{can_wait}
use Rattle.phase_model.specs.declared.history.Event.{Event}
use Rattle.phase_model.specs.declared.history.Event.TheVariants.{Make, Reg, Sig, Claim, Did, Pass, Send, Look as Looked, Drop}
use Rattle.phase_model.specs.declared.terms.Terms.{Terms}
use Rattle.phase_model.specs.Rules.{is_legal, is_permitted}
use Rattle.phase_model.specs.Tasks.{is_registered, mode_of, has_mode}
use Rattle.phase_model.proofs.Closing.{some_event}
use Rattle.phase_model.proofs.Legal.{last_follows, reg_follows}
use Rattle.phase_model.proofs.LiveTasks.{mode_known}
use Rattle.told_history.specs.declared.wide.LongEvent.{LongEvent}
use Rattle.told_history.specs.Wide.{event_of}
use Rattle.phaser_core.specs.LongLife.{long_limits}
use Rattle.told_history.specs.Tails.{IsTail}
use Rattle.long_locks.specs.Events.{with_one}

some_mode : (test : Mode → Bool) (o : Option Mode) → option_map_or test o false ≡ true → is_some o ≡ true
some_mode test None k = absurd cc
some_mode test (Some m) k = refl

-- who has a mode is registered
is_known : (test : Mode → Bool) (t : ℕ) (h : List Event) → has_mode test t h ≡ true → is_registered t h ≡ true
is_known test t h k = sym (mode_known t h) ∙ some_mode test (mode_of t h) k

-- a new task is another
apart : (test : Mode → Bool) (t u : ℕ) (h : List Event) → is_registered u h ≡ false → has_mode test t h ≡ true → (u == t) ≡ false
apart test t u h unknown k = ne_eqb u t (λ e. false≢true (sym unknown ∙ (ap (λ v. is_registered v h) e ∙ is_known test t h k)))

by_other : (test : Mode → Bool) (b : Bool) (m : Mode) (o : Option Mode) → b ≡ false → option_map_or test o false ≡ true
    → option_map_or test (if b then Some m else o) false ≡ true
by_other test true m o other k = absurd cc
by_other test false m o other k = k

by_event : (l : Limits) (terms : Terms) (test : Mode → Bool) (t : ℕ) (h : List Event) (e : Event)
    → is_permitted l terms h e ≡ true → has_mode test t h ≡ true → has_mode test t (e ∷ h) ≡ true
by_event l terms test t h (Make u m) p k = absurd (false≢true (sym (some_event test t h k) ∙ (and_parts (is_empty h) (nat_lt u l.tasks) p).0))
by_event l terms test t h (Reg q u m) p k =
    by_other test (u == t) m (mode_of t h) (apart test t u h (reg_follows l terms h q u m p).unknown k) k
by_event l terms test t h (Sig u x) p k = k
by_event l terms test t h (Claim u) p k = k
by_event l terms test t h (Did u) p k = k
by_event l terms test t h (Pass u) p k = k
by_event l terms test t h (Send u a v) p k = k
by_event l terms test t h (Looked u a x) p k = k
by_event l terms test t h (Drop u) p k = k

mode_stays : (l : Limits) (terms : Terms) (test : Mode → Bool) (t : ℕ) (later h : List Event)
    → is_legal l terms (later ++ h) ≡ true → has_mode test t h ≡ true → has_mode test t (later ++ h) ≡ true
mode_stays l terms test t [] h legal k = k
mode_stays l terms test t (e ∷ later) h legal k =
    let f = last_follows l terms (later ++ h) e legal in
    by_event l terms test t (later ++ h) e f.permitted (mode_stays l terms test t later h f.before k)

grown : (o : Option LongEvent) (h : List Event) → IsTail h (with_one o h)
grown None h = ([], refl)
grown (Some e) h = (event_of e ∷ [], refl)

-- where a call came after all that was seen, and its event is the newest since
pub waits_on : (terms : Terms) (o : Option LongEvent) (seen before now : List Event) (t : ℕ)
    → IsTail seen before → now ≡ with_one o before → is_legal long_limits terms now ≡ true
    → has_mode can_wait t seen ≡ true → has_mode can_wait t now ≡ true
waits_on terms o seen before now t tail added legal k =
    let one = grown o before in
    let all : now ≡ (one.0 ++ tail.0) ++ seen =
    added ∙ (one.1 ∙ (ap (λ (h : List Event). one.0 ++ h) tail.1 ∙ sym (append_assoc one.0 tail.0 seen))) in
    subst (λ (h : List Event). has_mode can_wait t h ≡ true) (sym all)
    (mode_stays long_limits terms can_wait t (one.0 ++ tail.0) seen (subst (λ (h : List Event). is_legal long_limits terms h ≡ true) all legal) k)
