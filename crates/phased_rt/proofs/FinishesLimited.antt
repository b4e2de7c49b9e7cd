-- Each finish's part of an explained trace tells a history that is legal within the trace's limit of task numbers.
use Rattle.std.proofs.Common.{◌≡◌, ℕ, zero, suc, ◌+◌, Bool, true, false, ◌&&◌, ◌||◌, ◌==◌, not, nat_lt, List, [], ◌∷◌, ◌++◌, length, map, drop, get_or, reverse, refl, ap, ap₂, sym, subst, ◌∙◌, append-nil, inl, inr, arith}
use Rattle.std.specs.Prelude.{if◌then◌else◌}
use Rattle.std.specs.List.{list_any, list_all, range_with_len, zip}
use Rattle.std.proofs.lemmas.Bool.{cases_Bool, eq-eqb, eqb-false, ne_eqb, false≢true}
use Rattle.std.proofs.lemmas.List.{length-map, length-reverse, reverse-reverse}
use Rattle.std.proofs.lemmas.List.Elements.{filter_map-append}
use Rattle.std.proofs.lemmas.Simd.{map-map}
use Rattle.std.proofs.lemmas.Slice.Zip.{seconds-zip}
use Rattle.phase_modes.specs.declared.limits.Limits.{Limits}
use Rattle.phase_modes.specs.Lists.{is_empty}
use Rattle.finish_core.specs.declared.event.FinishEvent.{FinishEvent}
use Rattle.finish_core.specs.declared.event.FinishEvent.TheVariants.{Opened, Spawned, Ended, Shut}
use Rattle.finish_core.specs.Finish.{spawned_by, ends, shuts, spawned_tasks, has_ended, is_open, all_ended, is_allowed, is_legal_finish}
use Rattle.finish_core.proofs.Legal.{last_follows, is_legal_finish-rest}
use Rattle.world_model.specs.declared.event.WorldEvent.{WorldEvent}
use Rattle.world_model.specs.declared.event.WorldEvent.TheVariants as world
use Rattle.world_model.specs.Parts.{finish_past}
use Rattle.world_model.specs.Replies.{is_legal_world}
use Rattle.world_model.proofs.FinishesLegal.{finishes_legal}
use Rattle.trace_model.specs.declared.event.TracedEvent.{TracedEvent}
use Rattle.trace_model.specs.declared.event.TracedEvent.TheVariants.{Phaser, Finish, Begin, Refuse, Fail}
use Rattle.trace_model.specs.Explained.{event_of, past}
use Rattle.trace_model.specs.Projections.{is_same, finish, projection, whose}
use Rattle.trace_model.specs.Run.{Entry}
use Rattle.trace_model.specs.Told.{finish_told}
use Rattle.scope_locks.specs.Telling.{IsFinishPart, AreFinishParts}
use Rattle.phased_rt.specs.Told.{HaveTasks}
use Rattle.phased_rt.proofs.Limited.{map_reverse, filter_reverse, reverse_more}

-- ---- whoever opened it

module _ (t u : ℕ) where
  any_same : (p : FinishEvent → Bool) → p (Opened t) ≡ p (Opened u) → (later : List FinishEvent)
      → list_any p (later ++ Opened t ∷ []) ≡ list_any p (later ++ Opened u ∷ [])
  any_same p same [] = ap (λ b. b || false) same
  any_same p same (e ∷ later) = ap (λ b. p e || b) (any_same p same later)

  spawned_same : (later : List FinishEvent)
      → spawned_tasks (later ++ Opened t ∷ []) ≡ spawned_tasks (later ++ Opened u ∷ [])
  spawned_same later =
      filter_map-append spawned_by later (Opened t ∷ []) ∙ sym (filter_map-append spawned_by later (Opened u ∷ []))

  never_empty : (later : List FinishEvent) → is_empty (later ++ Opened t ∷ []) ≡ is_empty (later ++ Opened u ∷ [])
  never_empty [] = refl
  never_empty (e ∷ later) = refl

  open_same : (later : List FinishEvent) → is_open (later ++ Opened t ∷ []) ≡ is_open (later ++ Opened u ∷ [])
  open_same later = ap₂ (λ a b. not a && not b) (never_empty later) (any_same shuts refl later)

  ended_same : (later : List FinishEvent) (x : ℕ)
      → has_ended x (later ++ Opened t ∷ []) ≡ has_ended x (later ++ Opened u ∷ [])
  ended_same later x = any_same (ends x) refl later

  all_ended_same : (later : List FinishEvent)
      → all_ended (later ++ Opened t ∷ []) ≡ all_ended (later ++ Opened u ∷ [])
  all_ended_same later =
      each (spawned_tasks (later ++ Opened t ∷ []))
      ∙ ap (λ (xs : List ℕ). list_all (λ x. has_ended x (later ++ Opened u ∷ [])) xs) (spawned_same later)
    where
      each : (xs : List ℕ) → list_all (λ x. has_ended x (later ++ Opened t ∷ [])) xs
          ≡ list_all (λ x. has_ended x (later ++ Opened u ∷ [])) xs
      each [] = refl
      each (x ∷ xs) = ap₂ (λ a b. a && b) (ended_same later x) (each xs)

  allowed_same : (tasks : ℕ) (later : List FinishEvent) (e : FinishEvent)
      → is_allowed tasks (later ++ Opened t ∷ []) e ≡ is_allowed tasks (later ++ Opened u ∷ []) e
  allowed_same tasks later (Opened x) = ap (λ b. true && b) (never_empty later)
  allowed_same tasks later (Spawned x) =
      ap₂ (λ a xs. ((true && a) && not (list_any (λ y. y == x) xs)) && nat_lt x tasks)
      (open_same later) (spawned_same later)
  allowed_same tasks later (Ended x) =
      ap₂ (λ a b. a && b)
      (ap₂ (λ a xs. (true && a) && list_any (λ y. y == x) xs) (open_same later) (spawned_same later))
      (ap (λ b. not b) (ended_same later x))
  allowed_same tasks later Shut = ap₂ (λ a b. true && (a && b)) (open_same later) (all_ended_same later)

  legal_same : (tasks : ℕ) (later : List FinishEvent)
      → is_legal_finish tasks (later ++ Opened t ∷ []) ≡ is_legal_finish tasks (later ++ Opened u ∷ [])
  legal_same tasks [] = refl
  legal_same tasks (e ∷ later) = ap₂ (λ a b. a && b) (allowed_same tasks later e) (legal_same tasks later)

-- a history's first event opens the finish
opens : (tasks : ℕ) (e : FinishEvent) → is_legal_finish tasks (e ∷ []) ≡ true → (t : ℕ) × (e ≡ Opened t)
opens tasks (Opened t) k = (t, refl)
opens tasks (Spawned x) k = absurd (false≢true (last_follows tasks [] (Spawned x) k).allowed)
opens tasks (Ended x) k = absurd (false≢true (last_follows tasks [] (Ended x) k).allowed)
opens tasks Shut k = absurd (false≢true (last_follows tasks [] Shut k).allowed)

-- ---- a finish's history in a world is that of its own events

others : (f g : ℕ) (e : FinishEvent) (w : List WorldEvent) → (g == f) ≡ false
    → finish_past f (world.Finish g e ∷ w) ≡ finish_past f w
others f g e w isnt = rw isnt refl

alike : (f : ℕ) (es : List Entry) → finish_past f (past es) ≡ finish_past f (past (projection (finish f) es))
alike f [] = refl
alike f ((k, Phaser m s) ∷ es) = alike f es
alike f ((k, Begin t b) ∷ es) = alike f es
alike f ((k, Refuse t a r) ∷ es) = alike f es
alike f ((k, Fail t r) ∷ es) = alike f es
alike f ((k, Finish g e) ∷ es) =
    let isnt_too : (f == g) ≡ false → (g == f) ≡ false = λ isnt. ne_eqb g f (λ same. eqb-false f g isnt (sym same)) in
    elim (cases_Bool (f == g)) [
      | inl is ↦ rw is (ap (λ (h : List FinishEvent). if g == f then e ∷ h else h) (alike f es))
      | inr isnt ↦ rw isnt (others f g e (past es) (isnt_too isnt) ∙ alike f es)
    ]

-- ---- what a history tells is that history

-- the events that a history tells a world, the newest first
abbrev told : ℕ → List FinishEvent → List WorldEvent
told f h = map (λ e. world.Finish f e) h

past_told : (f : ℕ) (h : List FinishEvent) (tickets : List ℕ) → length tickets ≡ length h
    → past (reverse (finish_told f h tickets)) ≡ told f h
past_told f h tickets drawn =
    let tell : FinishEvent → TracedEvent = λ e. Finish f e in
    let events : List TracedEvent = map tell (reverse h) in
    let each : Entry → WorldEvent = λ e. event_of e.1 in
    let whole : length events ≡ length tickets = omega (arith, drawn, length-map (reverse h) tell, length-reverse h) in
    let plainly : map each (zip tickets events) ≡ reverse (told f h) =
    sym (map-map event_of (λ (e : Entry). e.1) (zip tickets events))
    ∙ (ap (λ (l : List TracedEvent). map event_of l) (seconds-zip tickets events whole)
    ∙ (map-map event_of tell (reverse h) ∙ map_reverse (λ e. event_of (tell e)) h)) in
    map_reverse each (zip tickets events)
    ∙ (ap (λ (l : List WorldEvent). reverse l) plainly ∙ reverse-reverse (told f h))

past_back : (f : ℕ) (h : List FinishEvent) → finish_past f (told f h) ≡ h ++ finish_past f []
past_back f [] = refl
past_back f (e ∷ h) = rw (eq-eqb f f refl) (ap (λ (g : List FinishEvent). e ∷ g) (past_back f h))

-- ---- of a legal world

-- a history of which a legal world has just these events is legal there, with the opening of finish 0 before them
legal_told : (l : Limits) (f : ℕ) (h : List FinishEvent) (tickets : List ℕ) (es : List Entry)
    → is_legal_world l (past (reverse es)) ≡ true → projection (finish f) es ≡ finish_told f h tickets
    → length tickets ≡ length h → is_legal_finish l.tasks (h ++ finish_past f []) ≡ true
legal_told l f h tickets es legal_world is drawn =
    let w = past (reverse es) in
    let own : past (projection (finish f) (reverse es)) ≡ told f h =
    ap (λ (p : List Entry). past p) (filter_reverse (λ (e : Entry). is_same (finish f) (whose e.1)) es
    ∙ ap (λ (p : List Entry). reverse p) is)
    ∙ past_told f h tickets drawn in
    let events : finish_past f w ≡ h ++ finish_past f [] =
    alike f (reverse es) ∙ (ap (λ (v : List WorldEvent). finish_past f v) own ∙ past_back f h) in
    subst (λ (g : List FinishEvent). is_legal_finish l.tasks g ≡ true) events (finishes_legal l w legal_world f)

-- of finish 0 the first event is left out
legal_first : (l : Limits) (tasks : ℕ) (h : List FinishEvent) (tickets : List ℕ) (es : List Entry)
    → is_legal_world l (past (reverse es)) ≡ true → projection (finish 0) es ≡ drop 1 (finish_told 0 h tickets)
    → length tickets ≡ length h → is_legal_finish tasks h ≡ true
    → (rs : List FinishEvent) → reverse h ≡ rs → is_legal_finish l.tasks h ≡ true
legal_first l tasks h tickets es legal_world is drawn legal [] so =
    subst (λ (g : List FinishEvent). is_legal_finish l.tasks g ≡ true)
    (ap (λ (g : List FinishEvent). reverse g) (sym so) ∙ reverse-reverse h) refl
legal_first l tasks h [] es legal_world is drawn legal (e ∷ rs) so =
    absurd (omega (arith, drawn, length-reverse h, ap (λ (g : List FinishEvent). length g) so))
legal_first l tasks h (k ∷ ks) es legal_world is drawn legal (e ∷ rs) so =
    let later : List FinishEvent = reverse rs in
    let all : h ≡ later ++ e ∷ [] =
    sym (reverse-reverse h) ∙ (ap (λ (g : List FinishEvent). reverse g) so ∙ reverse_more e rs) in
    let first = opens tasks e (is_legal_finish-rest tasks later (e ∷ [])
    (subst (λ (g : List FinishEvent). is_legal_finish tasks g ≡ true) all legal)) in
    let opened : h ≡ later ++ Opened first.0 ∷ [] = all ∙ ap (λ x. later ++ x ∷ []) first.1 in
    let rest : drop 1 (finish_told 0 h (k ∷ ks)) ≡ finish_told 0 later ks =
    ap (λ (g : List FinishEvent). drop 1 (zip (k ∷ ks) (map (λ e. Finish 0 e) g))) so
    ∙ ap (λ (g : List FinishEvent). zip ks (map (λ e. Finish 0 e) g)) (sym (reverse-reverse rs)) in
    let many : length ks ≡ length later =
    omega (arith, drawn, length-reverse h, length-reverse rs, ap (λ (g : List FinishEvent). length g) so) in
    subst (λ (g : List FinishEvent). is_legal_finish l.tasks g ≡ true) (sym opened)
    (legal_same first.0 0 l.tasks later ∙ legal_told l 0 later ks es legal_world (is ∙ rest) many)

-- ---- of all parts

-- no other finish is open before all else
none_before : (n : ℕ) → finish_past (suc n) [] ≡ []
none_before n = rw (ne_eqb (suc n) 0 (λ same. absurd (omega (arith, same)))) refl

legal_within : (l : Limits) (n : ℕ) (p : List Entry) (k : ℕ) (es : List Entry)
    → is_legal_world l (past (reverse es)) ≡ true → projection (finish n) es ≡ p → (is : IsFinishPart n p k)
    → is_legal_finish l.tasks is.past ≡ true
legal_within l zero p k es legal_world same is =
    legal_first l is.tasks is.past is.tickets es legal_world (same ∙ is.told) is.drawn is.legal (reverse is.past) refl
legal_within l (suc n) p k es legal_world same is =
    subst (λ (h : List FinishEvent). is_legal_finish l.tasks h ≡ true) (ap (λ (g : List FinishEvent). is.past ++ g) (none_before n) ∙ append-nil is.past)
    (legal_told l (suc n) is.past is.tickets es legal_world (same ∙ is.told) is.drawn)

-- a part is told by the same history with these limits
abbrev limited_finish : (l : Limits) (n : ℕ) (p : List Entry) (k : ℕ) (es : List Entry)
    → is_legal_world l (past (reverse es)) ≡ true → projection (finish n) es ≡ p → IsFinishPart n p k
    → IsFinishPart n p k
limited_finish l n p k es legal_world same is = record {
  tasks = l.tasks;
  past = is.past;
  tickets = is.tickets;
  told = is.told;
  drawn = is.drawn;
  legal = legal_within l n p k es legal_world same is;
  logged = is.logged;
}

-- these parts, told by histories of so many task numbers
pub record AreWithin (tasks n : ℕ) (ps : List (List Entry)) (ended : List ℕ) : Type 0 where
  pub parts : AreFinishParts n ps ended
  pub tasks_are : HaveTasks tasks n ps ended parts

pub all_within : (l : Limits) (n : ℕ) (ps : List (List Entry)) (ended : List ℕ) (es : List Entry)
    → is_legal_world l (past (reverse es)) ≡ true
    → map (λ f. projection (finish f) es) (range_with_len n (length ps)) ≡ ps → AreFinishParts n ps ended
    → AreWithin l.tasks n ps ended
all_within l n [] [] es legal_world same are = record { parts = are; tasks_are = tt }
all_within l n (p ∷ ps) (k ∷ ended) es legal_world same are =
    let first : projection (finish n) es ≡ p = ap (λ (l : List (List Entry)). get_or l 0 p) same in
    let rest = all_within l (n + 1) ps ended es legal_world (ap (λ (l : List (List Entry)). drop 1 l) same) are.1 in
    record {
      parts = (limited_finish l n p k es legal_world first are.0, rest.parts);
      tasks_are = (refl, rest.tasks_are);
    }
all_within l n [] (k ∷ ended) es legal_world same are = absurd are
all_within l n (p ∷ ps) [] es legal_world same are = absurd are
