-- Who is live in a legal history.
use Rattle.std.proofs.Common.{◌≡◌, ℕ, suc, ◌+◌, ◌≤◌, ◌==◌, nat_lt, Bool, true, false, ◌||◌, ◌&&◌, not, cond, List, [], ◌∷◌, length, Some, is_some, refl, ap, sym, ◌∙◌, arith, subst}
use Rattle.std.specs.List.{list_any, filter}
use Rattle.std.proofs.lemmas.Bool.{eqb-true, le-leb, and_parts, and_from, and_right, or_from, or_parts, or_left, or_right, eq-eqb, ne_eqb, false≢true}
use Rattle.std.proofs.lemmas.Map.Views.{any-filter_same}
use Rattle.phase_modes.specs.declared.reg.Mode.{Mode}
use Rattle.phase_modes.specs.Lists.{is_empty}
use Rattle.phase_modes.specs.declared.limits.Limits.{Limits}
use Rattle.phase_model.specs.declared.history.Event.{Event}
use Rattle.phase_model.specs.declared.history.Event.TheVariants.{Make, Reg, Pass, Drop}
use Rattle.phase_model.specs.declared.terms.Terms.{Terms}
use Rattle.phase_model.specs.Tasks.{is_registered, is_dropped, is_live, mode_of, registered_tasks, live_tasks}
use Rattle.phase_model.specs.Phases.{waits}
use Rattle.phase_model.specs.Rules.{is_legal, has_room}
use Rattle.phase_model.specs.Singles.{owes_nothing}
use Rattle.phase_model.proofs.Legal.{last_follows, reg_follows}

-- t stands in the list
abbrev pub has : ℕ → List ℕ → Bool
has t ts = list_any (λ u. u == t) ts

-- no task stands in the list twice
abbrev pub Apart : List ℕ → Type 0
Apart [] = Unit {0}
Apart (t ∷ ts) = (has t ts ≡ false) × Apart ts

-- a registered task has a mode
pub mode_known : (t : ℕ) (h : List Event) → is_some (mode_of t h) ≡ is_registered t h
mode_known t [] = refl
mode_known t (Make u m ∷ h) =
    elim (u == t) as (λ b. is_some (cond b (Some m) (mode_of t h)) ≡ (b || is_registered t h)) [
      | true ↦ refl
      | false ↦ mode_known t h
    ]
mode_known t (Reg q u m ∷ h) =
    elim (u == t) as (λ b. is_some (cond b (Some m) (mode_of t h)) ≡ (b || is_registered t h)) [
      | true ↦ refl
      | false ↦ mode_known t h
    ]
mode_known t (e ∷ h) = mode_known t h

pub has-registered_tasks : (t : ℕ) (h : List Event) → has t (registered_tasks h) ≡ is_registered t h
has-registered_tasks t [] = refl
has-registered_tasks t (Make u m ∷ h) = ap (λ b. (u == t) || b) (has-registered_tasks t h)
has-registered_tasks t (Reg q u m ∷ h) = ap (λ b. (u == t) || b) (has-registered_tasks t h)
has-registered_tasks t (e ∷ h) = has-registered_tasks t h

pub has-filter : (p : ℕ → Bool) (t : ℕ) (ts : List ℕ) → has t (filter p ts) ≡ (p t && has t ts)
has-filter p t ts = any-filter_same (λ u. u == t) p (p t) (λ u e. ap p (eqb-true u t e)) ts

-- the live tasks are those that are live
pub has-live_tasks : (t : ℕ) (h : List Event) → has t (live_tasks h) ≡ is_live t h
has-live_tasks t h =
    has-filter (λ u. is_live u h) t (registered_tasks h) ∙ (ap (λ b. is_live t h && b)
    (has-registered_tasks t h) ∙ again (is_registered t h) (not (is_dropped t h)))
  where
    again : (a b : Bool) → ((a && b) && a) ≡ (a && b)
    again true true = refl
    again true false = refl
    again false b = refl

pub Apart-filter : (p : ℕ → Bool) (ts : List ℕ) → Apart ts → Apart (filter p ts)
Apart-filter p [] a = tt
Apart-filter p (t ∷ ts) a =
    let rest : Apart (filter p ts) = Apart-filter p ts a.1 in
    let lone : has t (filter p ts) ≡ false = has-filter p t ts ∙ and_right (p t) (has t ts) a.0 in
    elim (p t) as (λ b. Apart (cond b (t ∷ filter p ts) (filter p ts))) [ true ↦ (lone, rest) | false ↦ rest ]

pub empty_is : (h : List Event) → is_empty h ≡ true → h ≡ []
empty_is [] k = refl
empty_is (e ∷ h) k = absurd cc

-- nobody is registered twice
pub registered_apart : (l : Limits) (terms : Terms) (h : List Event) → is_legal l terms h ≡ true
    → Apart (registered_tasks h)
registered_apart l terms [] k = tt
registered_apart l terms (Make u m ∷ h) k =
    let f = last_follows l terms h (Make u m) k in
    let empty : h ≡ [] = empty_is h (and_parts (is_empty h) (nat_lt u l.tasks) f.permitted).0 in
    subst (λ (g : List Event). Apart (u ∷ registered_tasks g)) (sym empty) (refl, tt)
registered_apart l terms (Reg q u m ∷ h) k =
    let f = last_follows l terms h (Reg q u m) k in (
      has-registered_tasks u h
          ∙ (reg_follows l terms h q u m f.permitted).unknown,
      registered_apart l terms h f.before,
    )
registered_apart l terms (e ∷ h) k = registered_apart l terms h (last_follows l terms h e k).before

pub live_apart : (l : Limits) (terms : Terms) (h : List Event) → is_legal l terms h ≡ true
    → Apart (live_tasks h)
live_apart l terms h k = Apart-filter (λ t. is_live t h) (registered_tasks h) (registered_apart l terms h k)

-- nobody has ended more turns than there are events
pub waits_within : (t : ℕ) (h : List Event) → waits t h ≤ length h
waits_within t [] = omega arith
waits_within t (Make u m ∷ h) =
    elim (u == t) as (λ b. cond b 0 (waits t h) ≤ suc (length h)) [
      | true ↦ omega arith
      | false ↦ omega (arith, waits_within t h)
    ]
waits_within t (Reg q u m ∷ h) = omega (arith, waits_within (cond (u == t) q t) h)
waits_within t (Pass u ∷ h) =
    elim (u == t) as (λ b. cond b (waits t h + 1) (waits t h) ≤ suc (length h)) [
      | true ↦ omega (arith, waits_within t h)
      | false ↦ omega (arith, waits_within t h)
    ]
waits_within t (e ∷ h) = omega (arith, waits_within t h)

-- a legal history has its room
pub has_room_now : (l : Limits) (terms : Terms) (h : List Event) → is_legal l terms h ≡ true
    → has_room l h ≡ true
has_room_now l terms [] k = le-leb 0 l.history (omega arith)
has_room_now l terms (e ∷ h) k = (last_follows l terms h e k).room

-- who was never registered was never dropped
pub fresh_not_dropped : (l : Limits) (terms : Terms) (h : List Event) (t : ℕ) → is_legal l terms h ≡ true
    → is_registered t h ≡ false → is_dropped t h ≡ false
fresh_not_dropped l terms [] t k r = refl
fresh_not_dropped l terms (Make u m ∷ h) t k r =
    fresh_not_dropped l terms h t (last_follows l terms h (Make u m) k).before
    (or_parts (u == t) (is_registered t h) r).1
fresh_not_dropped l terms (Reg q u m ∷ h) t k r =
    fresh_not_dropped l terms h t (last_follows l terms h (Reg q u m) k).before
    (or_parts (u == t) (is_registered t h) r).1
fresh_not_dropped l terms (Drop u ∷ h) t k r =
    let f = last_follows l terms h (Drop u) k in
    let live : is_live u h ≡ true = (and_parts (is_live u h) (owes_nothing u h) f.permitted).0 in
    let known : is_registered u h ≡ true = (and_parts (is_registered u h) (not (is_dropped u h)) live).0 in
    let other : (u == t) ≡ false =
    ne_eqb u t (λ e. false≢true (sym r ∙ (ap (λ v. is_registered v h) (sym e) ∙ known))) in
    or_from (u == t) (is_dropped t h) other (fresh_not_dropped l terms h t f.before r)
fresh_not_dropped l terms (e ∷ h) t k r = fresh_not_dropped l terms h t (last_follows l terms h e k).before r

pub filter_same : (p q : ℕ → Bool) (ts : List ℕ) → ((u : ℕ) → has u ts ≡ true → p u ≡ q u)
    → filter p ts ≡ filter q ts
filter_same p q [] e = refl
filter_same p q (t ∷ ts) e =
    let rest : filter p ts ≡ filter q ts = filter_same p q ts (λ u k. e u (or_right (t == u) (has u ts) k)) in
    rw (e t (or_left (t == t) (has t ts) (eq-eqb t t refl)), rest) refl

-- a registration adds its task to the live ones
pub live_tasks-reg : (l : Limits) (terms : Terms) (h : List Event) (q t : ℕ) (m : Mode)
    → is_legal l terms h ≡ true → is_registered t h ≡ false
    → live_tasks (Reg q t m ∷ h) ≡ t ∷ live_tasks h
live_tasks-reg l terms h q t m k r =
    let itself : is_live t (Reg q t m ∷ h) ≡ true =
    and_from ((t == t) || is_registered t h) (not (is_dropped t h)) (or_left (t == t) (is_registered t h)
    (eq-eqb t t refl)) (ap (λ b. not b) (fresh_not_dropped l terms h t k r))
    in
    let others : filter (λ u. is_live u (Reg q t m ∷ h)) (registered_tasks h) ≡ live_tasks h =
    filter_same (λ u. is_live u (Reg q t m ∷ h)) (λ u. is_live u h) (registered_tasks h)
    (λ u e.
    let known : is_registered u h ≡ true = sym (has-registered_tasks u h) ∙ e in
    ap (λ b. b && not (is_dropped u h)) (or_right (t == u) (is_registered u h) known ∙ sym known))
    in
    ap (λ b. cond b (t ∷ filter (λ u. is_live u (Reg q t m ∷ h)) (registered_tasks h))
    (filter (λ u. is_live u (Reg q t m ∷ h)) (registered_tasks h))) itself
    ∙ ap (λ ts. t ∷ ts) others

-- two tests in turn are one
filter-filter : (p q : ℕ → Bool) (ts : List ℕ) → filter p (filter q ts) ≡ filter (λ u. q u && p u) ts
filter-filter p q [] = refl
filter-filter p q (t ∷ ts) =
    let rest : filter p (filter q ts) ≡ filter (λ u. q u && p u) ts = filter-filter p q ts in
    elim (q t) as (λ b. filter p (cond b (t ∷ filter q ts) (filter q ts))
    ≡ cond (b && p t) (t ∷ filter (λ u. q u && p u) ts) (filter (λ u. q u && p u) ts)) [
      | true ↦ ap (λ us. cond (p t) (t ∷ us) us) rest
      | false ↦ rest
    ]

-- a drop takes its task from the live ones
pub live_tasks-drop : (h : List Event) (t : ℕ)
    → live_tasks (Drop t ∷ h) ≡ filter (λ u. not (t == u)) (live_tasks h)
live_tasks-drop h t =
    filter_same (λ u. is_live u (Drop t ∷ h)) (λ u. is_live u h && not (t == u)) (registered_tasks h)
    (λ u _. moved (is_registered u h) (t == u) (is_dropped u h))
    ∙ sym (filter-filter (λ u. not (t == u)) (λ u. is_live u h) (registered_tasks h))
  where
    moved : (a b d : Bool) → (a && not (b || d)) ≡ ((a && not d) && not b)
    moved true true true = refl
    moved true true false = refl
    moved true false true = refl
    moved true false false = refl
    moved false b d = refl
