-- An explained trace notes numbers of refusals alone.
use Rattle.std.proofs.Common.{◌≡◌, ℕ, ◌==◌, Bool, true, false, List, [], ◌∷◌, reverse, is_some, refl, subst}
use Rattle.std.proofs.lemmas.Bool.{and_parts, eqb-true, false≢true}
use Rattle.std.proofs.lemmas.List.Sorted.{All-permutation, IsPermutation-reverse, IsPermutation-sym}
use Rattle.std.proofs.lemmas.List.Sums.{AllPass-from_list_all, list_all-from_AllPass}
use Rattle.std.specs.List.{find, list_all}
use Rattle.phase_modes.specs.declared.limits.Limits.{Limits}
use Rattle.phase_modes.specs.declared.refusal.Refusal.{Refusal}
use Rattle.phase_modes.specs.Refusal.{number_of}
use Rattle.phase_modes.specs.RefusalNumbers.{refusals, refusal_with}
use Rattle.world_model.specs.GivingUp.{may_fail, may_refuse, done_where}
use Rattle.world_model.specs.Replies.{reply, is_made}
use Rattle.trace_model.specs.declared.event.TracedEvent.{TracedEvent}
use Rattle.trace_model.specs.declared.event.TracedEvent.TheVariants.{Phaser, Finish, Begin, Refuse, Fail}
use Rattle.trace_model.specs.Run.{Entry, Run}
use Rattle.trace_model.specs.Explained.{event_of, past, is_answered, is_later, may_follow, all_follow, is_over, is_explained}
use Rattle.trace_text.specs.Form.{is_refusal}
use Rattle.trace_text.specs.Noted.{notes_refusal, notes_refusals}
use Rattle.world_model.proofs.NotedNumbers.{number_of_refuse, number_of_fail}

-- ---- the number of a refusal is 1 to 26

by_number : (n : ℕ) (r : Refusal) (rs : List Refusal) (b : Bool) → (number_of r == n) ≡ b
    → is_refusal (number_of r) ≡ true
    → (is_some (find (λ x. number_of x == n) rs) ≡ true → is_refusal n ≡ true)
    → is_some (find (λ x. number_of x == n) (r ∷ rs)) ≡ true → is_refusal n ≡ true
by_number n r rs true is here later h = subst (λ m. is_refusal m ≡ true) (eqb-true (number_of r) n is) here
by_number n r rs false is here later h = later (rw is at h)

found : (n : ℕ) (rs : List Refusal) → list_all (λ r. is_refusal (number_of r)) rs ≡ true
    → is_some (find (λ r. number_of r == n) rs) ≡ true → is_refusal n ≡ true
found n [] all h = absurd (false≢true h)
found n (r ∷ rs) all h =
    let p = and_parts (is_refusal (number_of r)) (list_all (λ x. is_refusal (number_of x)) rs) all in
    by_number n r rs (number_of r == n) refl p.0 (found n rs p.1) h

in_range : (n : ℕ) → is_some (refusal_with n) ≡ true → is_refusal n ≡ true
in_range n h = found n refusals refl h

-- ---- what is made notes one

made_where : (b : Bool) → is_made (done_where b) ≡ true → b ≡ true
made_where true h = refl
made_where false h = absurd (false≢true h)

answered_notes : (l : Limits) (es : List Entry) (e : TracedEvent)
    → is_answered e (reply l (past es) (event_of e)) ≡ true → notes_refusal e ≡ true
answered_notes l es (Phaser n s) h = refl
answered_notes l es (Finish f x) h = refl
answered_notes l es (Begin t b) h = refl
answered_notes l es (Refuse t a n) h =
    in_range n (number_of_refuse l (past es) t n a (made_where (may_refuse l (past es) t a n) h))
answered_notes l es (Fail t n) h =
    in_range n (number_of_fail l (past es) t n (made_where (may_fail l (past es) t n) h))

following_note : (l : Limits) (es : List Entry) → all_follow l es ≡ true
    → list_all (λ (e : Entry). notes_refusal e.1) es ≡ true
following_note l [] h = refl
following_note l (e ∷ es) h =
    let p = and_parts (may_follow l es e) (all_follow l es) h in
    let answered = (and_parts (is_later e.0 es) (is_answered e.1 (reply l (past es) (event_of e.1))) p.0).1 in
    rw (answered_notes l es e.1 answered) (following_note l es p.1)

pub explained_note : (r : Run) → is_explained r ≡ true → notes_refusals r ≡ true
explained_note r h =
    let test : Entry → Bool = λ e. notes_refusal e.1 in
    let es = reverse r.events in
    let all = following_note r.limits es (and_parts (all_follow r.limits es) (is_over es) h).0 in
    list_all-from_AllPass test r.events
    (All-permutation (λ e. test e ≡ true) es r.events
    (IsPermutation-sym r.events es (IsPermutation-reverse r.events)) (AllPass-from_list_all test es all))
