-- What making a phaser with operators and a bound leaves of the fact that its cell keeps.
use Rattle.std.proofs.Common.{◌≡◌, ℕ, ◌+◌, ◌≤◌, Bool, true, List, [], ◌∷◌, length, ap, sym, refl, ◌∙◌, arith}
use Rattle.std.proofs.lemmas.Bool.{false≢true}
use Rattle.phase_modes.specs.declared.limits.Limits.{Limits}
use Rattle.phase_modes.specs.declared.reg.Mode.{Mode}
use Rattle.phase_model.specs.declared.history.Event.{Event}
use Rattle.phase_model.specs.declared.terms.Terms.{Terms}
use Rattle.phase_model.specs.Amounts.{plus}
use Rattle.phase_model.specs.Laws.{IsLegal}
use Rattle.phase_model.specs.Tasks.{is_live}
use Rattle.phase_model.specs.Rules.{Story, is_legal}
use Rattle.phase_model.specs.declared.call.Call.TheVariants.{Make as make}
use Rattle.phase_model.specs.Replies.{Reply, refused, not_yet, done, reply, after}
use Rattle.phase_model.specs.Answers.{made_with}
use Rattle.share_book.specs.Accounts.{Entry}
use Rattle.phaser_core.specs.declared.parked.Parked.{Parked}
use Rattle.phaser_core.specs.declared.parked.ParkedCall.{ParkedCall}
use Rattle.phaser_core.specs.declared.parked.ParkedCall.TheVariants.{Pass as ToPass, Signal as ToSignal}
use Rattle.phaser_cell.specs.Amounts.{amount_if}
use Rattle.phaser_cell.specs.Cells.{IsKept}
use Rattle.phaser_core.specs.Parking.{would_park}
use Rattle.phaser_core.proofs.Parks.{all_stay, parked_live}
use Rattle.phaser_core.proofs.Steps.{stays_waiting}
use Rattle.phaser_cell.proofs.Written.{Matches, Ticketed, ticketed, kept, settled_of}

-- the same phaser made with something else
abbrev with_terms : Story → Terms → Story
with_terms s terms = record { limits = s.limits; terms = terms; past = s.past }

-- only a phaser that nobody has made is made
none_before : (l : Limits) (terms : Terms) (h : List Event) (t : ℕ) (m : Mode) (f : Event) → reply (record { limits = l; terms = terms; past = h }) (make t m) ≡ done f → h ≡ []
none_before l terms [] t m f k = refl
none_before l terms (e ∷ h) t m f k = absurd cc

-- at which nobody waits
nobody_before : {A : Type 0} (s : Story) (t : ℕ) (c : ParkedCall) → s.past ≡ [] → would_park s t c ≡ true → A
nobody_before s t c none k = absurd (false≢true (sym (ap (λ (h : List Event). is_live t h) none) ∙ parked_live s t c k))

-- which keeps all whatever it is made with
kept_with : {T : Type 0} (s : Story) (terms : Terms) (b : Entry) (ps : List (Parked T)) → s.past ≡ [] → IsKept s b ps → IsKept (with_terms s terms) b ps
kept_with s terms b ps none k =
    let legal : IsLegal (with_terms s terms) = ap (λ (h : List Event). is_legal s.limits terms h) none in
    record {
      fit = k.fit;
      legal = legal;
      ordered = k.ordered;
      posted = k.posted;
      room = k.room;
      waiting = all_stay s (with_terms s terms) ps (λ t w. nobody_before s t ToPass none w) (λ t x w. nobody_before s t (ToSignal x) none w) k.waiting;
      once = k.once;
    }

-- so it keeps all once it is made with them
pub kept_made : {T : Type 0} (s s' : Story) (terms : Terms) (b b' : Entry) (ps : List (Parked T)) (t : ℕ) (m : Mode) (added : Bool) (e : Event)
    → IsKept s b ps
    → Matches s (make t m) added e
    → s' ≡ made_with s terms (reply s (make t m))
    → b'.totals ≡ plus (amount_if added e) b.totals
    → b'.room + (amount_if added e).events ≡ b.room
    → IsKept s' b' ps
kept_made s s' terms b b' ps t m added e k matches is posted room = go (reply s (make t m)) refl
  where
    stays : s' ≡ after s (reply s (make t m)) → IsKept s' b' ps
    stays same = kept s s' b b' ps ps (make t m) added e k matches same posted room (stays_waiting s s' ps (make t m) (settled_of s b ps k) same refl refl) k.once

    go : (r : Reply) → reply s (make t m) ≡ r → IsKept s' b' ps
    go (refused x) q = stays (is ∙ (ap (λ (r : Reply). made_with s terms r) q ∙ sym (ap (λ (r : Reply). after s r) q)))
    go not_yet q = stays (is ∙ (ap (λ (r : Reply). made_with s terms r) q ∙ sym (ap (λ (r : Reply). after s r) q)))
    go (done f) q =
        let v = with_terms s terms in
        let k' = kept_with s terms b ps (none_before s.limits s.terms s.past t m f q) k in
        let matches' : Matches v (make t m) added e = record { weighs = matches.weighs; is_done = matches.is_done } in
        let is' : s' ≡ after v (reply v (make t m)) = is ∙ (ap (λ (r : Reply). made_with s terms r) q ∙ sym (ap (λ (r : Reply). after v r) q)) in
        kept v s' b b' ps ps (make t m) added e k' matches' is' posted room (stays_waiting v s' ps (make t m) (settled_of v b ps k') is' refl refl) k'.once

-- and its tickets are those of its events
pub ticketed_made : (s s' : Story) (terms : Terms) (drawn drawn' room room' : ℕ) (t : ℕ) (m : Mode) (added : Bool) (e : Event)
    → drawn ≡ length s.past
    → s.limits.history ≤ room
    → Matches s (make t m) added e
    → s' ≡ made_with s terms (reply s (make t m))
    → drawn' ≡ drawn + (amount_if added e).events
    → room' ≡ room
    → Ticketed s' drawn' room'
ticketed_made s s' terms drawn drawn' room room' t m added e each fits matches is more same =
    let u = after s (reply s (make t m)) in
    let k = ticketed s u drawn drawn' room room' (make t m) added e each fits matches refl more same in
    let long = ap (λ (v : Story). length v.past) is ∙ as_long (reply s (make t m)) in
    let bound = ap (λ (v : Story). v.limits.history) is ∙ as_bound (reply s (make t m)) in
    record { each = omega (arith, k.each, long); fits = omega (arith, k.fits, bound) }
  where
    as_long : (r : Reply) → length (made_with s terms r).past ≡ length (after s r).past
    as_long (refused x) = refl
    as_long not_yet = refl
    as_long (done f) = refl

    as_bound : (r : Reply) → (made_with s terms r).limits.history ≡ (after s r).limits.history
    as_bound (refused x) = refl
    as_bound not_yet = refl
    as_bound (done f) = refl
