-- Each phaser's part of an explained trace tells a history that is legal under the trace's limits.
use Rattle.std.proofs.Common.{◌≡◌, ℕ, ◌+◌, Bool, true, false, ◌==◌, List, [], ◌∷◌, ◌++◌, length, map, reverse, refl, ap, ap₂, sym, subst, ◌∙◌, append-nil, get_or, drop, inl, inr, arith, ℤ}
use Rattle.std.specs.Prelude.{if◌then◌else◌}
use Rattle.std.specs.List.{filter, range_with_len, zip}
use Rattle.std.proofs.lemmas.Bool.{cases_Bool, and_parts, eq-eqb, eqb-false, ne_eqb, false≢true}
use Rattle.std.proofs.lemmas.Bool.Decides.{Decides-int_eq}
use Rattle.std.proofs.lemmas.List.{length-map, length-reverse, map-append, reverse-append, reverse-reverse}
use Rattle.std.proofs.lemmas.List.Elements.{filter-append}
use Rattle.std.proofs.lemmas.Simd.{map-map}
use Rattle.std.proofs.lemmas.Slice.Zip.{seconds-zip}
use Rattle.phase_modes.specs.declared.limits.Limits.{Limits}
use Rattle.phase_modes.specs.Lists.{is_empty}
use Rattle.phase_modes.specs.Refusal.{are_met}
use Rattle.phase_model.specs.declared.call.Call.TheVariants.{Look as look}
use Rattle.phase_model.specs.declared.history.Event.{Event}
use Rattle.phase_model.specs.declared.history.Event.TheVariants as plain
use Rattle.phase_model.specs.declared.op.Look.{Look}
use Rattle.phase_model.specs.declared.op.Look.TheVariants as looks
use Rattle.phase_model.specs.declared.terms.Terms.{Terms}
use Rattle.phase_model.specs.Conditions.{conditions}
use Rattle.phase_model.specs.Amounts.{Amount}
use Rattle.phase_model.specs.Phases.{waits}
use Rattle.phase_model.specs.Rules.{Story, is_legal, look_of, same_look}
use Rattle.phase_model.proofs.Legal.{last_follows}
use Rattle.world_model.specs.declared.event.WorldEvent.{WorldEvent}
use Rattle.world_model.specs.declared.event.WorldEvent.TheVariants as world
use Rattle.world_model.specs.Parts.{event_for, phaser_past, terms_of}
use Rattle.world_model.specs.Replies.{is_legal_world}
use Rattle.world_model.proofs.PhasersLegal.{phasers_legal}
use Rattle.trace_model.specs.declared.event.TracedEvent.{TracedEvent}
use Rattle.trace_model.specs.declared.event.TracedStep.{TracedStep}
use Rattle.trace_model.specs.declared.event.TracedStep.TheVariants.{Make, Reg, Sig, Claim, Did, Pass, Send, Look as Seen, Drop}
use Rattle.trace_model.specs.declared.event.TracedEvent.TheVariants.{Phaser, Finish, Begin, Refuse, Fail}
use Rattle.trace_model.specs.Explained.{event_of, past, step_of}
use Rattle.trace_model.specs.Projections.{is_same, phaser, projection, whose}
use Rattle.trace_model.specs.Run.{Entry}
use Rattle.trace_model.specs.Told.{phaser_told, step_told}
use Rattle.phaser_cell.specs.Telling.{IsPhaserPart, ArePhaserParts}
use Rattle.phased_rt.specs.Told.{HaveLimits}

-- ---- lists in reverse

pub reverse_more : {X : Type 0} (x : X) (xs : List X) → reverse (x ∷ xs) ≡ reverse xs ++ x ∷ []
reverse_more x xs = reverse-append (x ∷ []) xs

pub map_reverse : {X Y : Type 0} (f : X → Y) (xs : List X) → map f (reverse xs) ≡ reverse (map f xs)
map_reverse f [] = refl
map_reverse f (x ∷ xs) =
    ap (λ (l : List _). map f l) (reverse_more x xs)
    ∙ (map-append f (reverse xs) (x ∷ [])
    ∙ (ap (λ l. l ++ f x ∷ []) (map_reverse f xs) ∙ sym (reverse_more (f x) (map f xs))))

pub filter_reverse : {X : Type 0} (p : X → Bool) (xs : List X) → filter p (reverse xs) ≡ reverse (filter p xs)
filter_reverse p [] = refl
filter_reverse p (x ∷ xs) =
    let moved : filter p (reverse (x ∷ xs)) ≡ reverse (filter p xs) ++ filter p (x ∷ []) =
    ap (λ (l : List _). filter p l) (reverse_more x xs)
    ∙ (filter-append p (reverse xs) (x ∷ []) ∙ ap (λ l. l ++ filter p (x ∷ [])) (filter_reverse p xs)) in
    elim (cases_Bool (p x)) [
      | inl is ↦ moved ∙ rw is (sym (reverse_more x (filter p xs)))
      | inr isnt ↦ moved ∙ rw isnt (append-nil (reverse (filter p xs)))
    ]

-- ---- a phaser's history in a world is that of its own events

-- of phaser n both have the same
record AreAlike (n : ℕ) (v w : List WorldEvent) : Type 0 where
  pub terms : terms_of n v ≡ terms_of n w
  pub events : phaser_past n v ≡ phaser_past n w

same_terms : (n m : ℕ) (s : TracedStep) (v w : List WorldEvent) → terms_of n v ≡ terms_of n w
    → terms_of n (world.Phaser m (step_of s) ∷ v) ≡ terms_of n (world.Phaser m (step_of s) ∷ w)
same_terms n m (Make t o terms) v w same = ap (λ x. if m == n then terms else x) same
same_terms n m (Reg q t o) v w same = same
same_terms n m (Sig t x) v w same = same
same_terms n m (Claim t) v w same = same
same_terms n m (Did t) v w same = same
same_terms n m (Pass t) v w same = same
same_terms n m (Send t a x) v w same = same
same_terms n m (Seen t a x) v w same = same
same_terms n m (Drop t) v w same = same

one_more : (n m : ℕ) (s : TracedStep) (v w : List WorldEvent) → AreAlike n v w
    → AreAlike n (world.Phaser m (step_of s) ∷ v) (world.Phaser m (step_of s) ∷ w)
one_more n m s v w same = record {
  terms = same_terms n m s v w same.terms;
  events = ap₂ (λ (o : Terms) (h : List Event). if m == n then event_for o h (step_of s) ∷ h else h)
      same.terms same.events;
}

others_terms : (n m : ℕ) (s : TracedStep) (w : List WorldEvent) → (m == n) ≡ false
    → terms_of n (world.Phaser m (step_of s) ∷ w) ≡ terms_of n w
others_terms n m (Make t o terms) w isnt = rw isnt refl
others_terms n m (Reg q t o) w isnt = refl
others_terms n m (Sig t x) w isnt = refl
others_terms n m (Claim t) w isnt = refl
others_terms n m (Did t) w isnt = refl
others_terms n m (Pass t) w isnt = refl
others_terms n m (Send t a x) w isnt = refl
others_terms n m (Seen t a x) w isnt = refl
others_terms n m (Drop t) w isnt = refl

others_events : (n m : ℕ) (s : TracedStep) (w : List WorldEvent) → (m == n) ≡ false
    → phaser_past n (world.Phaser m (step_of s) ∷ w) ≡ phaser_past n w
others_events n m s w isnt = rw isnt refl

alike : (n : ℕ) (es : List Entry) → AreAlike n (past es) (past (projection (phaser n) es))
alike n [] = record { terms = refl; events = refl }
alike n ((k, Finish f e) ∷ es) = record { terms = (alike n es).terms; events = (alike n es).events }
alike n ((k, Begin t b) ∷ es) = record { terms = (alike n es).terms; events = (alike n es).events }
alike n ((k, Refuse t a r) ∷ es) = record { terms = (alike n es).terms; events = (alike n es).events }
alike n ((k, Fail t r) ∷ es) = record { terms = (alike n es).terms; events = (alike n es).events }
alike n ((k, Phaser m s) ∷ es) =
    let v = past es in
    let w = past (projection (phaser n) es) in
    let more = one_more n m s v w (alike n es) in
    let isnt_too : (n == m) ≡ false → (m == n) ≡ false = λ isnt. ne_eqb m n (λ same. eqb-false n m isnt (sym same)) in
    elim (cases_Bool (n == m)) [
      | inl is ↦ rw is more
      | inr isnt ↦
          rw isnt
          (record {
            terms = others_terms n m s v (isnt_too isnt) ∙ (alike n es).terms;
            events = others_events n m s v (isnt_too isnt) ∙ (alike n es).events;
          })
    ]

-- ---- what a legal history tells is that history

-- the events that a history tells a world, the newest first
abbrev told : ℕ → Terms → List Event → List WorldEvent
told n terms h = map (λ e. world.Phaser n (step_of (step_told terms e))) h

past_told : (n : ℕ) (s : Story) (tickets : List ℕ) → length tickets ≡ length s.past
    → past (reverse (phaser_told n s tickets)) ≡ told n s.terms s.past
past_told n s tickets drawn =
    let tell : Event → TracedEvent = λ e. Phaser n (step_told s.terms e) in
    let events : List TracedEvent = map tell (reverse s.past) in
    let each : Entry → WorldEvent = λ e. event_of e.1 in
    let whole : length events ≡ length tickets =
    omega (arith, drawn, length-map (reverse s.past) tell, length-reverse s.past) in
    let plainly : map each (zip tickets events) ≡ reverse (told n s.terms s.past) =
    sym (map-map event_of (λ (e : Entry). e.1) (zip tickets events))
    ∙ (ap (λ (l : List TracedEvent). map event_of l) (seconds-zip tickets events whole)
    ∙ (map-map event_of tell (reverse s.past) ∙ map_reverse (λ e. event_of (tell e)) s.past)) in
    map_reverse each (zip tickets events)
    ∙ (ap (λ (l : List WorldEvent). reverse l) plainly ∙ reverse-reverse (told n s.terms s.past))

terms_back : (n : ℕ) (l : Limits) (terms : Terms) (e : Event) (h : List Event) → is_legal l terms (e ∷ h) ≡ true
    → terms_of n (told n terms (e ∷ h)) ≡ terms
terms_back n l terms (plain.Make t m) h k = rw (eq-eqb n n refl) refl
terms_back n l terms e [] k = absurd (false≢true (last_follows l terms [] e k).permitted)
terms_back n l terms e (d ∷ h) k = before e (terms_back n l terms d h (last_follows l terms (d ∷ h) e k).before)
  where
    before : (e : Event) → terms_of n (told n terms (d ∷ h)) ≡ terms → terms_of n (told n terms (e ∷ d ∷ h)) ≡ terms
    before (plain.Make t m) same = rw (eq-eqb n n refl) refl
    before (plain.Reg q t m) same = same
    before (plain.Sig t x) same = same
    before (plain.Claim t) same = same
    before (plain.Did t) same = same
    before (plain.Pass t) same = same
    before (plain.Send t a v) same = same
    before (plain.Look t a x) same = same
    before (plain.Drop t) same = same

same_looks : (x y : Look ℤ) → same_look x y ≡ true → x ≡ y
same_looks (looks.Value v) (looks.Value w) k = ap (λ z. looks.Value z) ((Decides-int_eq v w).0 k)
same_looks looks.Nothing looks.Nothing k = refl
same_looks (looks.Value v) looks.Nothing k = absurd (false≢true k)
same_looks looks.Nothing (looks.Value w) k = absurd (false≢true k)

-- a look saw what it would see there
look_back : (n : ℕ) (l : Limits) (terms : Terms) (t a : ℕ) (x : Look ℤ) (h : List Event)
    → is_legal l terms (plain.Look t a x ∷ h) ≡ true → phaser_past n (told n terms h) ≡ h
    → look_of (terms_of n (told n terms h)).ops a (waits t (phaser_past n (told n terms h))) (phaser_past n (told n terms h)) ≡ x
look_back n l terms t a x [] k same =
    absurd (false≢true (last_follows l terms [] (plain.Look t a x) k).permitted)
look_back n l terms t a x (d ∷ h) k same =
    let g : List Event = d ∷ h in
    let follows = last_follows l terms g (plain.Look t a x) k in
    let seen = same_look x (look_of terms.ops a (waits t g) g) in
    ap₂ (λ (o : Terms) (p : List Event). look_of o.ops a (waits t p) p)
    (terms_back n l terms d h follows.before) same
    ∙ sym (same_looks x (look_of terms.ops a (waits t g) g)
    (and_parts (are_met (conditions l terms g (look t a))) seen follows.permitted).1)

event_back : (n : ℕ) (l : Limits) (terms : Terms) (e : Event) (h : List Event) → is_legal l terms (e ∷ h) ≡ true
    → phaser_past n (told n terms h) ≡ h
    → event_for (terms_of n (told n terms h)) (phaser_past n (told n terms h)) (step_of (step_told terms e)) ≡ e
event_back n l terms (plain.Make t m) h k same = refl
event_back n l terms (plain.Reg q t m) h k same = refl
event_back n l terms (plain.Sig t x) h k same = refl
event_back n l terms (plain.Claim t) h k same = refl
event_back n l terms (plain.Did t) h k same = refl
event_back n l terms (plain.Pass t) h k same = refl
event_back n l terms (plain.Send t a v) h k same = refl
event_back n l terms (plain.Look t a x) h k same =
    ap (λ (y : Look ℤ). plain.Look t a y) (look_back n l terms t a x h k same)
event_back n l terms (plain.Drop t) h k same = refl

past_back : (n : ℕ) (l : Limits) (terms : Terms) (h : List Event) → is_legal l terms h ≡ true
    → phaser_past n (told n terms h) ≡ h
past_back n l terms [] k = refl
past_back n l terms (e ∷ h) k =
    let same = past_back n l terms h (last_follows l terms h e k).before in
    rw (eq-eqb n n refl) (ap₂ (λ (x : Event) (xs : List Event). x ∷ xs) (event_back n l terms e h k same) same)

-- ---- of a trace

-- a world has of phaser n what the story tells
pub record IsHad (n : ℕ) (s : Story) (w : List WorldEvent) : Type 0 where
  pub events : phaser_past n w ≡ s.past
  pub terms : is_empty s.past ≡ false → terms_of n w ≡ s.terms

-- a trace whose entries of a phaser tell a legal story has that story
pub told_is_had : (n : ℕ) (s : Story) (tickets : List ℕ) (es : List Entry)
    → projection (phaser n) es ≡ phaser_told n s tickets
    → length tickets ≡ length s.past → is_legal s.limits s.terms s.past ≡ true
    → IsHad n s (past (reverse es))
told_is_had n s tickets es is drawn legal = record { events = events; terms = λ some. terms s.past refl some }
  where
    w : List WorldEvent
    w = past (reverse es)

    own : past (projection (phaser n) (reverse es)) ≡ told n s.terms s.past
    own =
        ap (λ (p : List Entry). past p) (filter_reverse (λ (e : Entry). is_same (phaser n) (whose e.1)) es
        ∙ ap (λ (p : List Entry). reverse p) is)
        ∙ past_told n s tickets drawn

    events : phaser_past n w ≡ s.past
    events =
        (alike n (reverse es)).events
        ∙ (ap (λ (v : List WorldEvent). phaser_past n v) own ∙ past_back n s.limits s.terms s.past legal)

    terms : (h : List Event) → s.past ≡ h → is_empty s.past ≡ false → terms_of n w ≡ s.terms
    terms [] so some = absurd (false≢true (sym some ∙ ap (λ (g : List Event). is_empty g) so))
    terms (e ∷ h) so some =
        (alike n (reverse es)).terms
        ∙ (ap (λ (v : List WorldEvent). terms_of n v) own
        ∙ (ap (λ (g : List Event). terms_of n (told n s.terms g)) so
        ∙ terms_back n s.limits s.terms e h
        (subst (λ (g : List Event). is_legal s.limits s.terms g ≡ true) so legal)))

-- ---- of a legal world

-- a history that tells what a legal world has of a phaser is legal under that world's limits
pub legal_under : (l : Limits) (n : ℕ) (s : Story) (tickets : List ℕ) (es : List Entry)
    → is_legal_world l (past (reverse es)) ≡ true → projection (phaser n) es ≡ phaser_told n s tickets
    → length tickets ≡ length s.past → is_legal s.limits s.terms s.past ≡ true
    → is_legal l s.terms s.past ≡ true
legal_under l n s tickets es legal_world is drawn legal = by s.past refl
  where
    w : List WorldEvent
    w = past (reverse es)

    had : IsHad n s w
    had = told_is_had n s tickets es is drawn legal

    by : (h : List Event) → s.past ≡ h → is_legal l s.terms s.past ≡ true
    by [] so = subst (λ (g : List Event). is_legal l s.terms g ≡ true) (sym so) refl
    by (e ∷ h) so =
        subst (λ (g : List Event). is_legal l s.terms g ≡ true) had.events
        (subst (λ (o : Terms). is_legal l o (phaser_past n w) ≡ true) (had.terms (ap (λ (g : List Event). is_empty g) so)) (phasers_legal l w legal_world n))

-- ---- of all parts

-- a part is told by the same story with these limits
abbrev limited_part : (l : Limits) (n : ℕ) (p : List Entry) (a : Amount) (es : List Entry)
    → is_legal_world l (past (reverse es)) ≡ true → projection (phaser n) es ≡ p → IsPhaserPart n p a
    → IsPhaserPart n p a
limited_part l n p a es legal_world same is = record {
  story = record { limits = l; terms = is.story.terms; past = is.story.past };
  tickets = is.tickets;
  told = is.told;
  drawn = is.drawn;
  legal = legal_under l n is.story is.tickets es legal_world (same ∙ is.told) is.drawn is.legal;
  posted = is.posted;
}

-- these parts, told by stories with these limits
pub record AreLimited (l : Limits) (n : ℕ) (ps : List (List Entry)) (sums : List Amount) : Type 0 where
  pub parts : ArePhaserParts n ps sums
  pub limits : HaveLimits l n ps sums parts

pub all_limited : (l : Limits) (n : ℕ) (ps : List (List Entry)) (sums : List Amount) (es : List Entry)
    → is_legal_world l (past (reverse es)) ≡ true
    → map (λ k. projection (phaser k) es) (range_with_len n (length ps)) ≡ ps → ArePhaserParts n ps sums
    → AreLimited l n ps sums
all_limited l n [] [] es legal_world same are = record { parts = are; limits = tt }
all_limited l n (p ∷ ps) (a ∷ sums) es legal_world same are =
    let first : projection (phaser n) es ≡ p = ap (λ (l : List (List Entry)). get_or l 0 p) same in
    let rest = all_limited l (n + 1) ps sums es legal_world (ap (λ (l : List (List Entry)). drop 1 l) same) are.1 in
    record {
      parts = (limited_part l n p a es legal_world first are.0, rest.parts);
      limits = (refl, rest.limits);
    }
all_limited l n [] (a ∷ sums) es legal_world same are = absurd are
all_limited l n (p ∷ ps) [] es legal_world same are = absurd are
