-- Each legal history is ordered: what each signaller had signalled where a waiter passed,
-- each has signalled at each later moment.
use Rattle.std.proofs.Common.{◌≡◌, ℕ, ◌+◌, true, false, List, [], ◌∷◌, ◌++◌, refl, arith, subst}
use Rattle.phase_modes.specs.declared.limits.Limits.{Limits}
use Rattle.phase_modes.specs.Lists.{is_empty}
use Rattle.phase_modes.specs.Mode.{can_wait}
use Rattle.phase_model.specs.declared.history.Event.{Event}
use Rattle.phase_model.specs.declared.history.Event.TheVariants.{Pass}
use Rattle.phase_model.specs.declared.terms.Terms.{Terms}
use Rattle.phase_model.specs.Tasks.{has_mode}
use Rattle.phase_model.specs.Phases.{waits, IsClosed}
use Rattle.phase_model.specs.Rules.{is_legal}
use Rattle.phase_model.specs.Ordering.{LegalIsOrdered}
use Rattle.phase_model.proofs.Closing.{HaveSignalled, signalled_from_closed, signalled_stays, some_event}
use Rattle.phase_model.proofs.Legal.{last_follows, pass_follows}

-- a phase is closed where each signaller has signalled it
as_closed : (p : ℕ) (h : List Event) → HaveSignalled (p + 1) h → IsClosed p h
as_closed p h s t live signaller = omega (arith, s t live signaller)

-- a list with something in it isn't empty
some_in : (later h : List Event) (e : Event) → is_empty (later ++ e ∷ h) ≡ false
some_in [] h e = refl
some_in (d ∷ later) h e = refl

-- the rest of a legal history is legal
pub is_legal-rest : (l : Limits) (terms : Terms) (later h : List Event) → is_legal l terms (later ++ h) ≡ true
    → is_legal l terms h ≡ true
is_legal-rest l terms [] h k = k
is_legal-rest l terms (e ∷ later) h k = is_legal-rest l terms later h (last_follows l terms (later ++ h) e k).before

-- where a waiter passes, each signaller has signalled its phase
at_pass : (l : Limits) (terms : Terms) (before : List Event) (t : ℕ) → is_legal l terms (Pass t ∷ before) ≡ true
    → has_mode can_wait t before ≡ true
    → HaveSignalled (waits t before + 1) before
at_pass l terms before t k w =
    let f = pass_follows l terms before t (last_follows l terms before (Pass t) k).permitted in
    signalled_from_closed (waits t before) before (f.closed w)

-- and at each later moment
since_pass : (l : Limits) (terms : Terms) (between before : List Event) (t : ℕ)
    → is_legal l terms (between ++ Pass t ∷ before) ≡ true
    → has_mode can_wait t before ≡ true → HaveSignalled (waits t before + 1) (between ++ Pass t ∷ before)
since_pass l terms [] before t k w =
    signalled_stays l terms (waits t before + 1) (Pass t) before k (some_event can_wait t before w)
    (at_pass l terms before t k w)
since_pass l terms (e ∷ between) before t k w =
    let h = between ++ Pass t ∷ before in
    signalled_stays l terms (waits t before + 1) e h k (some_in between before (Pass t))
    (since_pass l terms between before t (last_follows l terms h e k).before w)

pub legal_is_ordered : LegalIsOrdered
legal_is_ordered l terms h k later between before t is w =
    let rest : is_legal l terms (between ++ Pass t ∷ before) ≡ true =
    is_legal-rest l terms later (between ++ Pass t ∷ before)
    (subst (λ (g : List Event). is_legal l terms g ≡ true) is k) in
    let here = is_legal-rest l terms between (Pass t ∷ before) rest in (
      as_closed (waits t before) before (at_pass l terms before t here w),
      as_closed (waits t before) (between ++ Pass t ∷ before) (since_pass l terms between before t rest w),
    )
