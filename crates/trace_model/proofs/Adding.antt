-- A trace's list with one event more at its end, short or long.
use Rattle.std.proofs.Common.{◌≡◌, ℕ, List, [], ◌∷◌, ◌++◌, length, refl, ap, ap₂, ◌∙◌}
use Rattle.std.proofs.Math.Seq.{get_or-append_seam}
use Rattle.std.proofs.lemmas.List.{get_or_append_left, map-append}
use Rattle.std.proofs.lemmas.List.Elements.{All-nil, All-cons, All-append, All-head, All-tail}
use Rattle.trace_model.specs.declared.event.TracedEvent.{TracedEvent}
use Rattle.world_model.specs.declared.event.Tried.TheVariants.{Open}
use Rattle.trace_model.specs.declared.long.LargeEvent.{LargeEvent}
use Rattle.trace_model.specs.declared.long.LargeEvent.TheVariants.{Refuse}
use Rattle.trace_model.specs.declared.kept.Kept.{Kept}
use Rattle.trace_model.specs.declared.kept.Kept.TheVariants.{Phaser, Finish, Begin, Fail, Long}
use Rattle.trace_model.specs.Run.{Entry}
use Rattle.trace_model.specs.Views.{long_event}
use Rattle.trace_model.specs.inner.Kept.{event_kept, entries_kept, IsWithin, AreWithin}

-- one form more keeps the places in range
pub within_more : (n : ℕ) (ks : List (ℕ × Kept)) (ticket : ℕ) (k : Kept) → AreWithin n ks → IsWithin n k
    → AreWithin n (ks ++ (ticket, k) ∷ [])
within_more n ks ticket k all here =
    let P : ℕ × Kept → Type 0 = λ x. IsWithin n x.1 in
    All-append P ks ((ticket, k) ∷ []) all (All-cons P (ticket, k) [] here (All-nil P))

-- a long event more is seen by none of the forms before it
as_before : (long : List LargeEvent) (e : LargeEvent) (k : Kept) → IsWithin (length long) k
    → event_kept (long ++ e ∷ []) k ≡ event_kept long k
as_before long e (Phaser n s) h = refl
as_before long e (Finish f x) h = refl
as_before long e (Begin t a) h = refl
as_before long e (Fail t n) h = refl
as_before long e (Long place) h = ap long_event (get_or_append_left long (e ∷ []) (Refuse 0 (Open 0) 0) place h)

all_as_before : (long : List LargeEvent) (e : LargeEvent) (ks : List (ℕ × Kept))
    → AreWithin (length long) ks → entries_kept (long ++ e ∷ []) ks ≡ entries_kept long ks
all_as_before long e [] h = refl
all_as_before long e (k ∷ ks) h =
    let P : ℕ × Kept → Type 0 = λ x. IsWithin (length long) x.1 in
    ap₂ (λ (x : TracedEvent) (es : List Entry). (k.0, x) ∷ es)
    (as_before long e k.1 (All-head P k ks h)) (all_as_before long e ks (All-tail P k ks h))

-- a long event more is the one at the place of the form that is added with it
pub long_more : (long : List LargeEvent) (ks : List (ℕ × Kept)) (ticket : ℕ) (e : LargeEvent)
    → AreWithin (length long) ks
    → entries_kept (long ++ e ∷ []) (ks ++ (ticket, Long (length long)) ∷ [])
    ≡ entries_kept long ks ++ (ticket, long_event e) ∷ []
long_more long ks ticket e h =
    map-append (λ (k : ℕ × Kept). (k.0, event_kept (long ++ e ∷ []) k.1)) ks
    ((ticket, Long (length long)) ∷ [])
    ∙ ap₂ (λ (es : List Entry) (x : LargeEvent). es ++ (ticket, long_event x) ∷ [])
    (all_as_before long e ks h) (get_or-append_seam long e [] (Refuse 0 (Open 0) 0))
