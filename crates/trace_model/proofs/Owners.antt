-- In a trace of parts, the entries of an owner are exactly its part, in order.
use Rattle.std.proofs.Common.{◌≡◌, ◌≢◌, inl, inr, ℕ, suc, ◌≤◌, Bool, true, false, cond, List, [], ◌∷◌, ◌++◌, length, map, flat_map, drop, reverse, refl, sym, ap, ap₂, subst, ◌∙◌, arith, append_assoc}
use Rattle.std.proofs.lemmas.Bool.{eqb-true, eq-eqb, false≢true, false_from_ne_true}
use Rattle.std.proofs.lemmas.List.{append-nil, nil_from_length}
use Rattle.std.proofs.lemmas.List.Concat.{flat_map-append}
use Rattle.std.proofs.lemmas.List.Elements.{All-nil, All-cons, All-head, All-tail, All-push, All-drop, All-weaker, filter-append}
use Rattle.std.proofs.lemmas.List.Sorted.{sum_by-IsPermutation}
use Rattle.std.proofs.lemmas.List.Sums.{length-filter}
use Rattle.std.specs.List.{All, AllZip, AllPairs, zip}
use Rattle.std.specs.List.Sorted.{IsPermutation}
use Rattle.finish_core.specs.declared.event.FinishEvent.{FinishEvent}
use Rattle.phase_model.specs.Rules.{Story}
use Rattle.trace_model.specs.declared.event.TracedEvent.{TracedEvent}
use Rattle.trace_model.specs.declared.event.TracedEvent.TheVariants as traced
use Rattle.trace_model.specs.Run.{Entry}
use Rattle.trace_model.specs.Parts.{StandIn, IsTraceOf}
use Rattle.trace_model.specs.Projections.{Whose, phaser, finish, log, whose, is_same, projection, AreOf, AreNotOf, HaveOwners}
use Rattle.trace_model.specs.Told.{step_told, phaser_told, finish_told}

-- ---- the test of an owner

same_true : (w v : Whose) → is_same w v ≡ true → w ≡ v
same_true (phaser n) (phaser m) h = ap phaser (eqb-true n m h)
same_true (phaser n) (finish g) h = absurd (false≢true h)
same_true (phaser n) (log u) h = absurd (false≢true h)
same_true (finish f) (phaser m) h = absurd (false≢true h)
same_true (finish f) (finish g) h = ap finish (eqb-true f g h)
same_true (finish f) (log u) h = absurd (false≢true h)
same_true (log t) (phaser m) h = absurd (false≢true h)
same_true (log t) (finish g) h = absurd (false≢true h)
same_true (log t) (log u) h = ap log (eqb-true t u h)

same_itself : (w : Whose) → is_same w w ≡ true
same_itself (phaser n) = eq-eqb n n refl
same_itself (finish f) = eq-eqb f f refl
same_itself (log t) = eq-eqb t t refl

passes : (w v : Whose) → v ≡ w → is_same w v ≡ true
passes w v is = ap (λ u. is_same w u) is ∙ same_itself w

fails : (w v : Whose) → v ≢ w → is_same w v ≡ false
fails w v other = false_from_ne_true (is_same w v) (λ same. other (sym (same_true w v same)))

-- ---- what is kept of the parts

abbrev is_its : Whose → Entry → Bool
is_its w e = is_same w (whose e.1)

abbrev joined : List (List Entry) → List Entry
joined parts = flat_map (λ part. part) parts

all_kept : (w : Whose) (es : List Entry) → AreOf w es → projection w es ≡ es
all_kept w [] h = refl
all_kept w (e ∷ es) h =
    let P : Entry → Type 0 = λ x. whose x.1 ≡ w in
    let here : is_same w (whose e.1) ≡ true = passes w (whose e.1) (All-head P e es h) in
    rw here (ap (λ (l : List Entry). e ∷ l) (all_kept w es (All-tail P e es h)))

none_kept : (w : Whose) (es : List Entry) → AreNotOf w es → projection w es ≡ []
none_kept w [] h = refl
none_kept w (e ∷ es) h =
    let P : Entry → Type 0 = λ x. whose x.1 ≢ w in
    let here : is_same w (whose e.1) ≡ false = fails w (whose e.1) (All-head P e es h) in
    rw here (none_kept w es (All-tail P e es h))

none_of_all : (w : Whose) (parts : List (List Entry)) → All (AreNotOf w) parts
    → projection w (joined parts) ≡ []
none_of_all w [] h = refl
none_of_all w (p ∷ ps) h =
    filter-append (is_its w) p (joined ps)
    ∙ ap₂ (λ (a b : List Entry). a ++ b) (none_kept w p (All-head (AreNotOf w) p ps h))
    (none_of_all w ps (All-tail (AreNotOf w) p ps h))

kept_of_parts : (w : Whose) (part : List Entry) (before after : List (List Entry))
    → AreOf w part → All (AreNotOf w) before → All (AreNotOf w) after
    → projection w (joined (before ++ part ∷ after)) ≡ part
kept_of_parts w part before after own none_before none_after =
    ap (λ (l : List Entry). projection w l) (flat_map-append (λ (p : List Entry). p) before (part ∷ after))
    ∙ (filter-append (is_its w) (joined before) (part ++ joined after)
    ∙ (ap₂ (λ (a b : List Entry). a ++ b) (none_of_all w before none_before)
    (filter-append (is_its w) part (joined after))
    ∙ (ap₂ (λ (a b : List Entry). a ++ b) (all_kept w part own) (none_of_all w after none_after)
    ∙ append-nil part)))

kept_as_many : (w : Whose) (xs ys : List Entry) → IsPermutation xs ys
    → length (projection w ys) ≡ length (projection w xs)
kept_as_many w xs ys same =
    length-filter (is_its w) ys
    ∙ (sum_by-IsPermutation (λ x. cond (is_its w x) 1 0) xs ys same ∙ sym (length-filter (is_its w) xs))

-- ---- what stands in a list in order still does in what is kept of it

with_more : (b : Bool) (x e : Entry) (xs es : List Entry) → StandIn (x ∷ xs) es
    → StandIn (x ∷ xs) (cond b (e ∷ es) es)
with_more true x e xs es h = inr h
with_more false x e xs es h = h

still_in_order : (w : Whose) (part es : List Entry) → AreOf w part → StandIn part es
    → StandIn part (projection w es)
still_in_order w [] es own stand = tt
still_in_order w (x ∷ xs) [] own stand = absurd stand
still_in_order w (x ∷ xs) (e ∷ es) own (inl here) =
    let P : Entry → Type 0 = λ y. whose y.1 ≡ w in
    let kept : is_same w (whose e.1) ≡ true =
    passes w (whose e.1) (ap (λ (y : Entry). whose y.1) (sym here.0) ∙ All-head P x xs own) in
    rw kept (inl (here.0, still_in_order w xs es (All-tail P x xs own) here.1))
still_in_order w (x ∷ xs) (e ∷ es) own (inr later) =
    with_more (is_same w (whose e.1)) x e xs (projection w es) (still_in_order w (x ∷ xs) es own later)

no_more : (xs es : List Entry) → StandIn xs es → length xs ≤ length es
no_more [] es stand = omega arith
no_more (x ∷ xs) [] stand = absurd stand
no_more (x ∷ xs) (e ∷ es) (inl here) = omega (arith, no_more xs es here.1)
no_more (x ∷ xs) (e ∷ es) (inr later) = omega (arith, no_more (x ∷ xs) es later)

-- where they are as many, they are all
all_there : (xs es : List Entry) → StandIn xs es → length es ≤ length xs → es ≡ xs
all_there [] [] stand few = refl
all_there [] (e ∷ es) stand few = absurd (omega (arith, few))
all_there (x ∷ xs) [] stand few = absurd stand
all_there (x ∷ xs) (e ∷ es) (inl here) few =
    ap₂ (λ (y : Entry) (ys : List Entry). y ∷ ys) (sym here.0) (all_there xs es here.1 (omega (arith, few)))
all_there (x ∷ xs) (e ∷ es) (inr later) few = absurd (omega (arith, few, no_more (x ∷ xs) es later))

-- ---- one owner

at_part : {X : Type 0} (P : X → Type 0) (before : List X) (part : X) (after : List X)
    → All P (before ++ part ∷ after) → P part
at_part P [] part after h = All-head P part after h
at_part P (b ∷ bs) part after h = at_part P bs part after (All-tail P b (bs ++ part ∷ after) h)

all_front : {X : Type 0} (P : X → Type 0) (xs ys : List X) → All P (xs ++ ys) → All P xs
all_front P [] ys h = All-nil P
all_front P (x ∷ xs) ys h =
    All-cons P x xs (All-head P x (xs ++ ys) h) (all_front P xs ys (All-tail P x (xs ++ ys) h))

all_back : {X : Type 0} (P : X → Type 0) (xs ys : List X) → All P (xs ++ ys) → All P ys
all_back P [] ys h = h
all_back P (x ∷ xs) ys h = all_back P xs ys (All-tail P x (xs ++ ys) h)

its_part : (w : Whose) (part : List Entry) (before after : List (List Entry)) (es : List Entry)
    → IsTraceOf (before ++ part ∷ after) es → AreOf w part → All (AreNotOf w) before → All (AreNotOf w) after
    → projection w es ≡ part
its_part w part before after es trace own none_before none_after =
    let many : length (projection w es) ≡ length part =
    kept_as_many w (joined (before ++ part ∷ after)) es trace.as_often
    ∙ ap (λ (l : List Entry). length l) (kept_of_parts w part before after own none_before none_after) in
    let stand : StandIn part es = at_part (λ p. StandIn p es) before part after trace.in_order in
    all_there part (projection w es) (still_in_order w part es own stand) (omega (arith, many))

pub projection_is_part : (w : Whose) (part : List Entry) (before after : List (List Entry)) (es : List Entry)
    → IsTraceOf (before ++ part ∷ after) es → AreOf w part → All (AreNotOf w) (before ++ after)
    → projection w es ≡ part
projection_is_part w part before after es trace own none =
    its_part w part before after es trace own (all_front (AreNotOf w) before after none)
    (all_back (AreNotOf w) before after none)

-- ---- all owners

not_its : (w v : Whose) (part : List Entry) → AreOf v part → w ≢ v → AreNotOf w part
not_its w v part own other =
    All-weaker (λ (e : Entry). whose e.1 ≡ v) (λ e. whose e.1 ≢ w) (λ e is same. other (sym same ∙ is))
    part own

none_of_others : (w : Whose) (ws : List Whose) (parts : List (List Entry))
    → AllZip (λ v p. AreOf v p) ws parts → All (λ v. w ≢ v) ws → All (AreNotOf w) parts
none_of_others w [] [] own others = All-nil (AreNotOf w)
none_of_others w [] (p ∷ ps) own others = absurd own
none_of_others w (v ∷ vs) [] own others = absurd own
none_of_others w (v ∷ vs) (p ∷ ps) own others =
    let P : Whose → Type 0 = λ u. w ≢ u in
    All-cons (AreNotOf w) p ps (not_its w v p own.0 (All-head P v vs others))
    (none_of_others w vs ps own.1 (All-tail P v vs others))

first_differs : (w : Whose) (ws : List Whose) → AllPairs (λ u v. u ≢ v) (w ∷ ws) → All (λ v. w ≢ v) ws
first_differs w ws apart = λ k d less. apart 0 (suc k) d (omega arith) (omega (arith, less))

rest_apart : (w : Whose) (ws : List Whose) → AllPairs (λ u v. u ≢ v) (w ∷ ws) → AllPairs (λ u v. u ≢ v) ws
rest_apart w ws apart =
    λ i j d before less. apart (suc i) (suc j) d (omega (arith, before)) (omega (arith, less))

-- the parts before these are of none of their owners
each_is_part : (owners : List Whose) (before parts : List (List Entry)) (es : List Entry)
    → IsTraceOf (before ++ parts) es → AllZip (λ w p. AreOf w p) owners parts
    → AllPairs (λ w v. w ≢ v) owners → All (λ w. All (AreNotOf w) before) owners
    → map (λ w. projection w es) owners ≡ parts
each_is_part [] before [] es trace own apart clear = refl
each_is_part [] before (p ∷ ps) es trace own apart clear = absurd own
each_is_part (w ∷ ws) before [] es trace own apart clear = absurd own
each_is_part (w ∷ ws) before (p ∷ ps) es trace own apart clear =
    let C : Whose → Type 0 = λ v. All (AreNotOf v) before in
    let differs : All (λ v. w ≢ v) ws = first_differs w ws apart in
    let moved : IsTraceOf ((before ++ p ∷ []) ++ ps) es =
    subst (λ (l : List (List Entry)). IsTraceOf l es) (sym (append_assoc before (p ∷ []) ps)) trace in
    let clear_after : All (λ v. All (AreNotOf v) (before ++ p ∷ [])) ws =
    λ k d less. All-push (AreNotOf _) before p (All-tail C w ws clear k d less)
    (not_its _ w p own.0 (λ same. differs k d less (sym same))) in
    ap₂ (λ (x : List Entry) (xs : List (List Entry)). x ∷ xs)
    (its_part w p before ps es trace own.0 (All-head C w ws clear) (none_of_others w ws ps own.1 differs))
    (each_is_part ws (before ++ p ∷ []) ps es moved own.1 (rest_apart w ws apart) clear_after)

pub projections_are_parts : (owners : List Whose) (parts : List (List Entry)) (es : List Entry)
    → IsTraceOf parts es → HaveOwners owners parts → map (λ w. projection w es) owners ≡ parts
projections_are_parts owners parts es trace have =
    each_is_part owners [] parts es trace have.own have.apart (λ k d less. All-nil (AreNotOf _))

pub others_have_none : (w : Whose) (owners : List Whose) (parts : List (List Entry)) (es : List Entry)
    → IsTraceOf parts es → HaveOwners owners parts → All (λ v. w ≢ v) owners → projection w es ≡ []
others_have_none w owners parts es trace have other =
    let none : projection w (joined parts) ≡ [] =
    none_of_all w parts (none_of_others w owners parts have.own other) in
    nil_from_length (projection w es)
    (kept_as_many w (joined parts) es trace.as_often ∙ ap (λ (l : List Entry). length l) none)

-- ---- what histories tell

all_told : {X : Type 0} (w : Whose) (f : X → TracedEvent) → ((x : X) → whose (f x) ≡ w)
    → (tickets : List ℕ) (es : List X) → AreOf w (zip tickets (map f es))
all_told w f each [] es = All-nil (λ (e : Entry). whose e.1 ≡ w)
all_told w f each (t ∷ ts) [] = All-nil (λ (e : Entry). whose e.1 ≡ w)
all_told w f each (t ∷ ts) (x ∷ xs) =
    All-cons (λ (e : Entry). whose e.1 ≡ w) (t, f x) (zip ts (map f xs)) (each x) (all_told w f each ts xs)

pub phasers_tell : (n : ℕ) (s : Story) (tickets : List ℕ) → AreOf (phaser n) (phaser_told n s tickets)
phasers_tell n s tickets =
    all_told (phaser n) (λ e. traced.Phaser n (step_told s.terms e)) (λ e. refl) tickets (reverse s.past)

pub finishes_tell : (f : ℕ) (h : List FinishEvent) (tickets : List ℕ) (first : ℕ)
    → AreOf (finish f) (drop first (finish_told f h tickets))
finishes_tell f h tickets first =
    All-drop (λ (e : Entry). whose e.1 ≡ finish f) first (finish_told f h tickets)
    (all_told (finish f) (λ (e : FinishEvent). traced.Finish f e) (λ e. refl) tickets (reverse h))
