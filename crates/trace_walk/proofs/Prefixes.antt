-- The entries of an explained trace, one by one: each may follow those before it.
use Rattle.std.proofs.Common.{ℕ, ◌+◌, ◌<◌, ◌≡◌, true, List, [], ◌∷◌, ◌++◌, reverse, take, drop, get_or, length, sym, ap, subst, ◌∙◌}
use Rattle.std.proofs.lemmas.Bool.{and_parts}
use Rattle.std.proofs.lemmas.List.{reverse-append, take_more, take-append-drop}
use Rattle.phase_modes.specs.declared.limits.Limits.{Limits}
use Rattle.world_model.specs.declared.event.WorldEvent.{WorldEvent}
use Rattle.world_model.specs.Replies.{is_accepted, is_legal_world, reply}
use Rattle.trace_model.specs.Explained.{past, event_of, is_answered, is_later, is_over, may_follow, all_follow, is_explained}
use Rattle.trace_model.specs.Run.{Entry, Run}
use Rattle.trace_model.proofs.Legal.{answered_made, following_is_legal}
use Rattle.trace_walk.specs.History.{history}
use Rattle.trace_walk.proofs.Places.{past_reversed}

-- the oldest entries follow too
older_follow : (l : Limits) (later older : List Entry) → all_follow l (later ++ older) ≡ true → all_follow l older ≡ true
older_follow l [] older h = h
older_follow l (e ∷ later) older h =
    older_follow l later older (and_parts (may_follow l (later ++ older) e) (all_follow l (later ++ older)) h).1

first_follow : (l : Limits) (es : List Entry) (i : ℕ) → all_follow l (reverse es) ≡ true
    → all_follow l (reverse (take i es)) ≡ true
first_follow l es i h =
    older_follow l (reverse (drop i es)) (reverse (take i es))
    (subst (λ (xs : List Entry). all_follow l xs ≡ true)
    (sym (ap (λ (xs : List Entry). reverse xs) (take-append-drop i es)) ∙ reverse-append (take i es) (drop i es)) h)

-- an entry of a trace stands after a legal history, and was answered there
pub record IsAfter (l : Limits) (w : List WorldEvent) (e : Entry) : Type 0 where
  pub legal : is_legal_world l w ≡ true
  pub answered : is_answered e.1 (reply l w (event_of e.1)) ≡ true
  pub accepted : is_accepted l w (event_of e.1) ≡ true

pub after_these : (l : Limits) (es : List Entry) (e : Entry) → all_follow l (e ∷ es) ≡ true → IsAfter l (past es) e
after_these l es e h =
    let parts = and_parts (may_follow l es e) (all_follow l es) h in
    let answered = (and_parts (is_later e.0 es) (is_answered e.1 (reply l (past es) (event_of e.1))) parts.0).1 in
    record {
      legal = following_is_legal l es parts.1;
      answered = answered;
      accepted = answered_made e.1 (reply l (past es) (event_of e.1)) answered;
    }

pub after_its_past : (r : Run) (i : ℕ) (d : Entry) → is_explained r ≡ true → i < length r.events
    → IsAfter r.limits (history (take i r.events)) (get_or r.events i d)
after_its_past r i d h less =
    let es = r.events in
    let l = r.limits in
    let e = get_or es i d in
    let all = (and_parts (all_follow l (reverse es)) (is_over (reverse es)) h).0 in
    subst (λ (w : List WorldEvent). IsAfter l w e) (past_reversed (take i es))
    (after_these l (reverse (take i es)) e
    (subst (λ (xs : List Entry). all_follow l xs ≡ true)
    (ap (λ (xs : List Entry). reverse xs) (take_more es i d less) ∙ reverse-append (take i es) (e ∷ []))
    (first_follow l es (i + 1) all)))
