-- Singles: what holds of the claims and reports of each legal history.
use Rattle.std.specs.Prelude.{ℕ, ◌≡◌, ◌≢◌, Bool, true, false, ◌&&◌, ◌==◌, List, ◌∷◌, ◌++◌}
use Rattle.phase_modes.specs.declared.limits.Limits.{Limits}
use Rattle.phase_modes.specs.declared.refusal.Refusal.TheVariants.{HistoryFull}
use Rattle.phase_modes.specs.Mode.{can_wait}
use Rattle.phase_model.specs.declared.history.Event.{Event}
use Rattle.phase_model.specs.declared.history.Event.TheVariants.{Sig, Claim, Did, Pass, Drop}
use Rattle.phase_model.specs.declared.terms.Terms.{Terms}
use Rattle.phase_model.specs.Tasks.{has_mode}
use Rattle.phase_model.specs.Phases.{waits, signals}
use Rattle.phase_model.specs.Rules.{Story, is_permitted, has_room, is_legal}
use Rattle.phase_model.specs.declared.call.Call.TheVariants.{Pass as pass, SingleDone as single_done, Drop as drop_task}
use Rattle.phase_model.specs.Replies.{refused, done, reply}

-- the event after h signals phase p
abbrev pub is_signal : ℕ → List Event → Event → Bool
is_signal p h (Sig t x) = signals t h == p
is_signal p h _ = false

-- it claims the single of phase p
abbrev pub is_claim : ℕ → List Event → Event → Bool
is_claim p h (Claim t) = waits t h == p
is_claim p h _ = false

-- it reports the single of phase p done
abbrev pub is_report : ℕ → List Event → Event → Bool
is_report p h (Did t) = waits t h == p
is_report p h _ = false

-- a task that can wait passes phase p
abbrev pub is_pass : ℕ → List Event → Event → Bool
is_pass p h (Pass t) = has_mode can_wait t h && waits t h == p
is_pass p h _ = false

-- of no phase does a late event come after an early one: `NoneAfter is_signal is_claim` says that no signal
-- of a phase comes after a claim of its single
abbrev pub NoneAfter : (ℕ → List Event → Event → Bool) → (ℕ → List Event → Event → Bool) → List Event → Type 0
NoneAfter late early h = (p : ℕ) (later between before : List Event) (e f : Event)
    → h ≡ later ++ (f ∷ (between ++ e ∷ before))
    → early p before e ≡ true
    → late p (between ++ e ∷ before) f ≡ false

-- in a legal history each phase has at most one claim and at most one report, and no claim after its report
abbrev pub OneClaimAndOneReport : Type 0
OneClaimAndOneReport = (l : Limits) (terms : Terms) (h : List Event) → is_legal l terms h ≡ true
    → NoneAfter is_claim is_claim h × NoneAfter is_report is_report h × NoneAfter is_claim is_report h

-- in a legal history the claim and the report of a phase stand after its last signal and before its first
-- pass by a task that can wait
abbrev pub SinglesStandBetween : Type 0
SinglesStandBetween = (l : Limits) (terms : Terms) (h : List Event) → is_legal l terms h ≡ true
    → NoneAfter is_signal is_claim h
    × NoneAfter is_signal is_report h
    × NoneAfter is_claim is_pass h
    × NoneAfter is_report is_pass h

-- after a legal history there is room for each claim, each report and each drop that it permits
abbrev pub SinglesHaveRoom : Type 0
SinglesHaveRoom = (l : Limits) (terms : Terms) (h : List Event) → is_legal l terms h ≡ true → (t : ℕ)
    → (is_permitted l terms h (Claim t) ≡ true → has_room l (Claim t ∷ h) ≡ true)
    × (is_permitted l terms h (Did t) ≡ true → has_room l (Did t ∷ h) ≡ true)
    × (is_permitted l terms h (Drop t) ≡ true → has_room l (Drop t ∷ h) ≡ true)

-- so in a legal story a pass that may claim does claim, and no report and no drop is refused because the
-- history is full
abbrev pub SinglesAreAnswered : Type 0
SinglesAreAnswered = (s : Story) → is_legal s.limits s.terms s.past ≡ true → (t : ℕ)
    → (is_permitted s.limits s.terms s.past (Claim t) ≡ true → reply s (pass t) ≡ done (Claim t))
    × (reply s (single_done t) ≢ refused HistoryFull)
    × (reply s (drop_task t) ≢ refused HistoryFull)
