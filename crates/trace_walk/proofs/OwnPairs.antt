-- A task's own phasers, as the events that registered it give them.
use Rattle.std.proofs.Common.{ℕ, ◌+◌, ◌<◌, ◌≤◌, ◌≡◌, ◌==◌, Bool, true, false, ◌&&◌, not, cond, List, [], ◌∷◌, ◌++◌, map, reverse, Option, Some, None, drop, get_or, length, refl, sym, ap, ap₂, ◌∙◌, if◌then◌else◌}
use Rattle.std.specs.List.{filter, filter_map, cons_option}
use Rattle.std.specs.Option.{option_map, is_some, unwrap_or}
use Rattle.std.proofs.lemmas.Bool.{and_parts}
use Rattle.std.proofs.lemmas.List.{append-nil, at_drop_all, at_drop_more, reverse-append, reverse-reverse}
use Rattle.std.proofs.lemmas.List.Elements.{filter_map-append}
use Rattle.phase_modes.specs.declared.reg.Mode.{Mode}
use Rattle.phase_modes.specs.declared.reg.Mode.TheVariants.{Wait}
use Rattle.phase_modes.specs.declared.phased.Pair.{Pair}
use Rattle.phase_model.specs.Tasks.{is_dropped, is_live, is_registered, mode_of}
use Rattle.phase_model.proofs.LiveTasks.{mode_known}
use Rattle.world_model.specs.declared.event.WorldEvent.{WorldEvent}
use Rattle.world_model.specs.Drawing.{own_pairs}
use Rattle.world_model.specs.Parts.{phaser_past}
use Rattle.world_model.specs.Tasks.{joined_by}
use Rattle.world_model.specs.Continuing.{same_mode}
use Rattle.trace_walk.specs.Follows.{same_pairs}
use Rattle.trace_model.specs.Explained.{event_of, past}
use Rattle.trace_model.specs.Run.{Entry}
use Rattle.trace_walk.specs.inner.Holding.{mode_on, pair_on, pair_by}

-- ---- the mode in which a task is registered

by_known : (left known : Bool) (m : Option Mode) → is_some m ≡ known
    → (if left then None else m) ≡ (if known && not left then m else None)
by_known true true m e = refl
by_known true false m e = refl
by_known false true m e = refl
by_known false false None e = refl
by_known false false (Some m) e = absurd cc

-- none where the task was dropped, else the mode in which it was registered
pub mode_held : (t n : ℕ) (w : List WorldEvent)
    → (if is_dropped t (phaser_past n w) then None else mode_of t (phaser_past n w)) ≡ mode_on t n w
mode_held t n w =
    by_known (is_dropped t (phaser_past n w)) (is_registered t (phaser_past n w))
    (mode_of t (phaser_past n w)) (mode_known t (phaser_past n w))

-- who is registered has a mode
live_known : (t n : ℕ) (w : List WorldEvent) → is_live t (phaser_past n w) ≡ true
    → is_some (mode_of t (phaser_past n w)) ≡ true
live_known t n w h = mode_known t (phaser_past n w) ∙ (and_parts _ _ h).0

-- ---- the pairs of all phasers

filter_map-reverse : {X Y : Type 0} (h : X → Option Y) (xs : List X)
    → filter_map h (reverse xs) ≡ reverse (filter_map h xs)
filter_map-reverse h [] = refl
filter_map-reverse {X} {Y} h (x ∷ xs) =
    let more : filter_map h (reverse xs) ≡ reverse (filter_map h xs) = filter_map-reverse h xs in
    let last : filter_map h (reverse (x ∷ xs)) ≡ filter_map h (reverse xs) ++ filter_map h (x ∷ []) =
    ap (λ (ys : List X). filter_map h ys) (reverse-append (x ∷ []) xs)
    ∙ filter_map-append h (reverse xs) (x ∷ []) in
    last
    ∙ elim (h x) as (λ (o : Option Y). filter_map h (reverse xs) ++ cons_option o [] ≡ reverse
    (cons_option o (filter_map h xs))) [
      | None ↦ append-nil _ ∙ more
      | Some y ↦ ap (λ (ys : List Y). ys ++ y ∷ []) more ∙ sym (reverse-append (y ∷ []) (filter_map h xs))
    ]

-- a phaser with this mode
abbrev with_mode : ℕ → Mode → Pair
with_mode n m = record { phaser = n; mode = m }

one_more : (live : Bool) (o : Option Mode) (n : ℕ) (ns : List ℕ) (pair : ℕ → Pair) (ps : List Pair)
    → pair n ≡ with_mode n (unwrap_or o Wait) → (live ≡ true → is_some o ≡ true) → map pair ns ≡ ps
    → map pair (cond live (n ∷ ns) ns) ≡ cons_option (option_map (with_mode n) (if live then o else None)) ps
one_more true None n ns pair ps e known more = absurd (let h : false ≡ true = known refl in cc)
one_more true (Some m) n ns pair ps e known more = ap₂ (λ (x : Pair) (xs : List Pair). x ∷ xs) e more
one_more false o n ns pair ps e known more = more

-- those phasers on which the task is still registered
held : (t : ℕ) (w : List WorldEvent) (ns : List ℕ)
    → map (λ n. with_mode n (unwrap_or (mode_of t (phaser_past n w)) Wait))
    (filter (λ n. is_live t (phaser_past n w)) ns) ≡ filter_map (λ n. pair_on t w (Some n)) ns
held t w [] = refl
held t w (n ∷ ns) =
    one_more (is_live t (phaser_past n w)) (mode_of t (phaser_past n w)) n
    (filter (λ k. is_live t (phaser_past k w)) ns)
    (λ k. with_mode k (unwrap_or (mode_of t (phaser_past k w)) Wait))
    (filter_map (λ k. pair_on t w (Some k)) ns)
    refl (live_known t n w) (held t w ns)

-- by the events that registered it
joined : (t : ℕ) (w : List WorldEvent) (es : List WorldEvent)
    → filter_map (λ n. pair_on t w (Some n)) (filter_map (joined_by t) es) ≡ filter_map (pair_by t w) es
joined t w [] = refl
joined t w (e ∷ es) =
    elim (joined_by t e) as
    (λ (o : Option ℕ). filter_map (λ n. pair_on t w (Some n))
    (cons_option o (filter_map (joined_by t) es)) ≡ cons_option (pair_on t w o)
    (filter_map (pair_by t w) es)) [
      | None ↦ joined t w es
      | Some n ↦ ap (λ (ps : List Pair). cons_option (pair_on t w (Some n)) ps) (joined t w es)
    ]

-- each event that registered the task gives its pair, the oldest first
pub own_by_events : (t : ℕ) (es : List WorldEvent) → filter_map (pair_by t (reverse es)) es ≡ own_pairs t
    (reverse es)
own_by_events t es =
    let w : List WorldEvent = reverse es in
    sym (held t w (reverse (filter_map (joined_by t) w))
    ∙ (ap (λ (ns : List ℕ). filter_map (λ n. pair_on t w (Some n)) ns)
    (sym (filter_map-reverse (joined_by t) w)
    ∙ ap (λ (xs : List WorldEvent). filter_map (joined_by t) xs) (reverse-reverse es))
    ∙ joined t w es))

-- ---- a walk over the events, beside the pairs that these are to give

-- the pairs from the k-th on are those that the entries from the i-th on give
abbrev pub rest_same : ℕ → List WorldEvent → List Pair → List Entry → ℕ → ℕ → Bool
rest_same t w ps es k i = same_pairs (drop k ps) (filter_map (pair_by t w) (past (drop i es)))

module _ (t : ℕ) (w : List WorldEvent) (ps : List Pair) (es : List Entry) (k i : ℕ) (e : Entry)
    (less : i < length es) (at : e ≡ get_or es i e) where
  abbrev later : List Pair
  later = filter_map (pair_by t w) (past (drop (i + 1) es))

  next : (o : Option Pair) → pair_by t w (event_of e.1) ≡ o
      → rest_same t w ps es k i ≡ same_pairs (drop k ps) (cons_option o later)
  next o is =
      at_drop_more (λ (ys : List Entry). same_pairs (drop k ps) (filter_map (pair_by t w) (past ys))) es i e less
      ∙ ap (λ (x : Entry). same_pairs (drop k ps) (cons_option (pair_by t w (event_of x.1)) later)) (sym at)
      ∙ ap (λ (x : Option Pair). same_pairs (drop k ps) (cons_option x later)) is

  -- the entry gives none
  pub none_given : pair_by t w (event_of e.1) ≡ None → rest_same t w ps es k i ≡ rest_same t w ps es k (i + 1)
  none_given is = next None is

  module _ (own : Pair) (is : pair_by t w (event_of e.1) ≡ Some own) where
    -- it gives one more than there are
    pub too_many : length ps ≤ k → rest_same t w ps es k i ≡ false
    too_many all =
        next (Some own) is ∙ at_drop_all (λ (xs : List Pair). same_pairs xs (own ∷ later)) ps k all

    module _ (d : Pair) (there : k < length ps) where
      abbrev is_it : Bool
      is_it = (get_or ps k d).phaser == own.phaser && same_mode (get_or ps k d).mode own.mode

      by_pair : (b : Bool) → is_it ≡ b → rest_same t w ps es k i ≡ (b && rest_same t w ps es (k + 1) (i + 1))
      by_pair b same =
          next (Some own) is
          ∙ at_drop_more (λ (xs : List Pair). same_pairs xs (own ∷ later)) ps k d there
          ∙ ap (λ (x : Bool). x && same_pairs (drop (k + 1) ps) later) same

      -- it gives another pair
      pub other_given : is_it ≡ false → rest_same t w ps es k i ≡ false
      other_given other = by_pair false other

      -- it gives this pair
      pub pair_given : is_it ≡ true → rest_same t w ps es k i ≡ rest_same t w ps es (k + 1) (i + 1)
      pair_given same = by_pair true same
