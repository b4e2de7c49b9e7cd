-- What a legal story answers to the calls that end a single: there is always room.
use Rattle.std.proofs.Common.{◌≡◌, ℕ, ◌+◌, Bool, true, false, ◌&&◌, ◌||◌, ◌==◌, not, cond, ◌∷◌, Some, None, refl, sym, ap, ◌∙◌}
use Rattle.std.proofs.lemmas.Bool.{and_from, and_parts, and_right, or_right, eq-eqb, false≢true, false_from_ne_true}
use Rattle.phase_modes.specs.declared.refusal.Refusal.TheVariants.{NotRegistered, HistoryFull, NotNow}
use Rattle.phase_modes.specs.Mode.{can_signal, can_wait}
use Rattle.phase_modes.specs.Refusal.{are_met}
use Rattle.phase_model.specs.declared.history.Event.{Event}
use Rattle.phase_model.specs.declared.history.Event.TheVariants.{Claim, Did, Pass, Drop}
use Rattle.phase_model.specs.Tasks.{is_live, has_mode}
use Rattle.phase_model.specs.Phases.{waits, signals}
use Rattle.phase_model.specs.Singles.{has_claimed, is_done, owes_nothing}
use Rattle.phase_model.specs.Rules.{Story, is_permitted, is_legal, has_room}
use Rattle.phase_model.specs.declared.call.Call.TheVariants.{Pass as pass}
use Rattle.phase_model.specs.Conditions.{conditions}
use Rattle.phase_model.specs.Replies.{refused, done, event_for, must_wait, decided, reply}
use Rattle.phase_model.specs.SingleLaws.{SinglesHaveRoom, SinglesAreAnswered}
use Rattle.phase_modes.proofs.FirstRefusal.{none_where_met}
use Rattle.phase_model.proofs.Replied.{reply_by}
use Rattle.phase_model.proofs.SingleRules.{claim_follows}
use Rattle.phase_model.proofs.Proposers.{owes}
use Rattle.phase_model.proofs.Claims.{done_is_claimed}
use Rattle.phase_model.proofs.Reserves.{claim_has_room, did_has_room, drop_has_room}

pub singles_have_room : SinglesHaveRoom
singles_have_room l terms h k t =
    (claim_has_room l terms h k t, did_has_room l terms h k t, drop_has_room l terms h k t)

-- a call with these conditions is not refused for room, where there is room for it when they are met
never_full : (a b c room : Bool) (e : Event) → ((a && b && c) ≡ true → room ≡ true)
    → decided (cond a (cond b (cond c None (Some NotNow)) (Some NotNow)) (Some NotRegistered)) false room e
    ≡ refused HistoryFull → ⊥
never_full false b c room e k q = absurd cc
never_full true false c room e k q = absurd cc
never_full true true false room e k q = absurd cc
never_full true true true true e k q = absurd cc
never_full true true true false e k q = false≢true (k refl)

-- a pass that may claim does claim
pub pass_claims : (s : Story) (t : ℕ) → is_legal s.limits s.terms s.past ≡ true
    → is_permitted s.limits s.terms s.past (Claim t) ≡ true → reply s (pass t) ≡ done (Claim t)
pass_claims s t k g =
    let l = s.limits in
    let terms = s.terms in
    let h = s.past in
    let f = claim_follows l terms h t g in
    let undone : is_done (waits t h) h ≡ false =
    false_from_ne_true (is_done (waits t h) h)
    (λ e. false≢true (sym f.unclaimed ∙ done_is_claimed l terms h k (waits t h) e)) in
    let o = owes l terms h k t (waits t h) f.proposed undone in
    let signalled : (signals t h == waits t h + 1) ≡ true = eq-eqb (signals t h) (waits t h + 1) o.ahead in
    let met : are_met (conditions l terms h (pass t)) ≡ true =
    and_from (is_live t h) (not (has_mode can_signal t h) || (signals t h == waits t h + 1)) f.live
    (or_right (not (has_mode can_signal t h)) (signals t h == waits t h + 1) signalled)
    in
    let going : must_wait l terms h (pass t) ≡ false =
    and_right (has_mode can_wait t h && not (is_permitted l terms h (Pass t)))
    (not (is_permitted l terms h (Claim t))) (ap (λ b. not b) g) in
    let event : event_for l terms h (pass t) ≡ Claim t = ap (λ b. cond b (Claim t) (Pass t)) g in
    reply_by s (pass t) None false (Claim t) (none_where_met (conditions l terms h (pass t)) met) going event
    ∙ ap (λ b. decided None false b (Claim t)) (claim_has_room l terms h k t g)

pub singles_are_answered : SinglesAreAnswered
singles_are_answered s k t =
    let l = s.limits in
    let terms = s.terms in
    let h = s.past in
    let p = waits t h in (
      pass_claims s t k,
      never_full (is_live t h) (has_claimed t p h) (not (is_done p h)) (has_room l (Did t ∷ h)) (Did t)
          (λ e. did_has_room l terms h k t e),
      never_full (is_live t h) (owes_nothing t h) true (has_room l (Drop t ∷ h)) (Drop t)
          (λ e. drop_has_room l terms h k t (and_parts (is_live t h && owes_nothing t h) true e).0),
    )
