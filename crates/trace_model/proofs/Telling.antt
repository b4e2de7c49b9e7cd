-- The entries of what a history tells, by their places.
use Rattle.std.proofs.Common.{◌≡◌, ℕ, ◌+◌, ◌-◌, ◌<◌, List, map, reverse, length, drop, get_or, Option, Some, IfSome, Vec, Global, sym, ap, subst, ◌∙◌, arith, length-drop}
use Rattle.std.specs.List.{slice_get, zip}
use Rattle.std.proofs.lemmas.List.{get_or-map, get_or-drop, length-map, length-reverse}
use Rattle.std.proofs.lemmas.Option.{slice_get-get_or, slice_get_within, get_or_from_slice_get}
use Rattle.std.proofs.lemmas.Slice.Zip.{length-zip, get_or-zip}
use Rattle.phase_modes.specs.declared.reg.Mode.TheVariants.{Sig}
use Rattle.phase_model.specs.Rules.{Story}
use Rattle.phase_model.specs.declared.history.Event.{Event}
use Rattle.phase_model.specs.declared.history.Event.TheVariants.{Make}
use Rattle.finish_core.specs.declared.event.FinishEvent.{FinishEvent}
use Rattle.finish_core.specs.declared.event.FinishEvent.TheVariants.{Opened}
use Rattle.trace_model.specs.declared.event.TracedEvent.{TracedEvent}
use Rattle.trace_model.specs.declared.event.TracedEvent.TheVariants as traced
use Rattle.trace_model.specs.declared.part.Source.{Source}
use Rattle.trace_model.specs.declared.part.Source.TheVariants.{Phaser, Finish}
use Rattle.trace_model.specs.Run.{Entry}
use Rattle.trace_model.specs.Told.{step_told, phaser_told, finish_told}
use Rattle.trace_model.specs.inner.Sources.{entries_of, IsWhole}

-- there are as many as tickets
pub told_length : {X : Type 0} (f : X → TracedEvent) (tickets : List ℕ) (es : List X) → length tickets ≡ length es
    → length (zip tickets (map f es)) ≡ length tickets
told_length f tickets es whole = omega (arith, length-zip tickets (map f es), length-map es f, whole)

-- at each place stand its ticket and its event
pub told_at : {X : Type 0} (f : X → TracedEvent) (tickets : List ℕ) (es : List X) (i : ℕ) (d : X) → length tickets ≡ length es → i < length tickets
    → slice_get (zip tickets (map f es)) i ≡ Some (get_or tickets i 0, f (get_or es i d))
told_at f tickets es i d whole within =
    let e : Entry = (0, traced.Fail 0 0) in
    let long : length (zip tickets (map f es)) ≡ length tickets = told_length f tickets es whole in
    let inside : i < length (zip tickets (map f es)) = omega (arith, long, within) in
    let mapped : i < length (map f es) = omega (arith, length-map es f, whole, within) in
    let here : i < length es = omega (arith, whole, within) in
    slice_get-get_or (zip tickets (map f es)) i e inside
    ∙ (ap Some (get_or-zip tickets (map f es) i e within mapped)
    ∙ ap (λ (x : TracedEvent). Some (get_or tickets i 0, x)) (get_or-map f es i d (traced.Fail 0 0) here))

-- the same of those that are left when the first few are not of the part
pub at_past : {X : Type 0} (xs : List X) (first i : ℕ) (x : X) → slice_get xs (first + i) ≡ Some x → slice_get (drop first xs) i ≡ Some x
at_past xs first i x is =
    let inside : first + i < length xs = slice_get_within xs (first + i) x is in
    let left : i < length (drop first xs) = omega (arith, length-drop first xs, inside) in
    slice_get-get_or (drop first xs) i x left
    ∙ (ap Some (get_or-drop first xs i x) ∙ (sym (slice_get-get_or xs (first + i) x inside) ∙ is))

-- ---- by what a part was made of

pub phaser_length : (s : Source) (n : ℕ) (h : Story) (tickets : Vec ℕ Global) (seen : List Entry) → s ≡ Phaser n h tickets → IsWhole s → entries_of s ≡ seen
    → length seen ≡ length tickets.items
phaser_length s n h tickets seen is whole told =
    let w : length tickets.items ≡ length h.past = subst (λ (x : Source). IsWhole x) is whole in
    ap (λ (es : List Entry). length es) (sym told ∙ ap (λ (x : Source). entries_of x) is)
    ∙ told_length (λ e. traced.Phaser n (step_told h.terms e)) tickets.items (reverse h.past) (w ∙ sym (length-reverse h.past))

pub finish_length : (s : Source) (f : ℕ) (h : Vec FinishEvent Global) (tickets : Vec ℕ Global) (first : ℕ) (seen : List Entry) → s ≡ Finish f h tickets first → IsWhole s → entries_of s ≡ seen
    → length seen ≡ length tickets.items - first
finish_length s f h tickets first seen is whole told =
    let w : length tickets.items ≡ length h.items = subst (λ (x : Source). IsWhole x) is whole in
    let all = zip tickets.items (map (λ (e : FinishEvent). traced.Finish f e) (reverse (reverse h.items))) in
    ap (λ (es : List Entry). length es) (sym told ∙ ap (λ (x : Source). entries_of x) is)
    ∙ (length-drop first all
    ∙ ap (λ n. n - first) (told_length (λ (e : FinishEvent). traced.Finish f e) tickets.items (reverse (reverse h.items)) (w ∙ sym (length-reverse (reverse h.items) ∙ length-reverse h.items))))

-- ---- the ticket alone

-- where this entry stands there
pub ticket_here : (seen : List Entry) (i ticket : ℕ) (e : Entry) → slice_get seen i ≡ Some e → ticket ≡ e.0
    → IfSome (slice_get seen i) (λ x. ticket ≡ x.0)
ticket_here seen i ticket e here is = subst (λ (o : Option Entry). IfSome o (λ x. ticket ≡ x.0)) (sym here) is

-- an element that is there is the same whatever would stand for one that isn't
at_all : (ns : List ℕ) (i n : ℕ) → i < length ns → n ≡ get_or ns i n → n ≡ get_or ns i 0
at_all ns i n inside read = read ∙ sym (get_or_from_slice_get ns i (get_or ns i n) 0 (slice_get-get_or ns i n inside))

pub phaser_ticket : (s : Source) (n : ℕ) (h : Story) (tickets : Vec ℕ Global) (seen : List Entry) (i ticket : ℕ)
    → s ≡ Phaser n h tickets → IsWhole s → entries_of s ≡ seen → i < length tickets.items
    → ticket ≡ get_or tickets.items i ticket → IfSome (slice_get seen i) (λ x. ticket ≡ x.0)
phaser_ticket s n h tickets seen i ticket is whole told inside read =
    let told_event : Event → TracedEvent = λ e. traced.Phaser n (step_told h.terms e) in
    let es = reverse h.past in
    let w : length tickets.items ≡ length h.past = subst (λ (x : Source). IsWhole x) is whole in
    let same : seen ≡ phaser_told n h tickets.items = sym told ∙ ap (λ (x : Source). entries_of x) is in
    ticket_here seen i ticket (get_or tickets.items i 0, told_event (get_or es i (Make 0 Sig)))
    (ap (λ (l : List Entry). slice_get l i) same
    ∙ told_at told_event tickets.items es i (Make 0 Sig) (w ∙ sym (length-reverse h.past)) inside)
    (at_all tickets.items i ticket inside read)

pub finish_ticket : (s : Source) (f : ℕ) (h : Vec FinishEvent Global) (tickets : Vec ℕ Global) (first : ℕ) (seen : List Entry) (i ticket : ℕ)
    → s ≡ Finish f h tickets first → IsWhole s → entries_of s ≡ seen → first + i < length tickets.items
    → ticket ≡ get_or tickets.items (first + i) ticket → IfSome (slice_get seen i) (λ x. ticket ≡ x.0)
finish_ticket s f h tickets first seen i ticket is whole told inside read =
    let told_event : FinishEvent → TracedEvent = λ e. traced.Finish f e in
    let es = reverse (reverse h.items) in
    let w : length tickets.items ≡ length h.items = subst (λ (x : Source). IsWhole x) is whole in
    let same : seen ≡ drop first (finish_told f (reverse h.items) tickets.items) =
    sym told ∙ ap (λ (x : Source). entries_of x) is in
    let e : Entry = (get_or tickets.items (first + i) 0, told_event (get_or es (first + i) (Opened 0))) in
    ticket_here seen i ticket e
    (ap (λ (l : List Entry). slice_get l i) same
    ∙ at_past (finish_told f (reverse h.items) tickets.items) first i e
    (told_at told_event tickets.items es (first + i) (Opened 0) (w ∙ sym (length-reverse (reverse h.items) ∙ length-reverse h.items)) inside))
    (at_all tickets.items (first + i) ticket inside read)
