-- A task on its way to its end drops all that it holds, shuts its finishes in order, and then ends.
use Rattle.std.proofs.Common.{◌≡◌, ℕ, Bool, true, false, ◌&&◌, ◌==◌, not, cond, List, [], ◌∷◌, ◌++◌, map, append_assoc, Option, Some, None, refl, sym, subst, ap, ◌∙◌, inl, inr}
use Rattle.std.specs.Prelude.{filter_map, flat_map}
use Rattle.std.specs.List.{list_any, list_all, cons_option}
use Rattle.std.proofs.lemmas.Bool.{and_parts, and_from, or_cases, or_left, or_right, or_parts, cases_Bool, eqb-true, eq-eqb, true≢false, false≢true}
use Rattle.phase_modes.specs.Lists.{is_empty}
use Rattle.phase_modes.specs.declared.limits.Limits.{Limits}
use Rattle.phase_model.specs.Tasks.{is_live}
use Rattle.phase_model.proofs.LiveTasks.{has, has-filter}
use Rattle.finish_core.specs.declared.event.FinishEvent.TheVariants.{Ended, Shut as Shutting}
use Rattle.world_model.specs.declared.event.Step.TheVariants.{Drop}
use Rattle.world_model.specs.declared.event.Begun.TheVariants.{Async, End}
use Rattle.world_model.specs.declared.event.WorldEvent.{WorldEvent}
use Rattle.world_model.specs.declared.event.WorldEvent.TheVariants.{Phaser, Finish, Begin, Refuse, Fail}
use Rattle.world_model.specs.Parts.{phaser_past}
use Rattle.world_model.specs.Tasks.{home, spawner, spawns, is_born, is_ended, phasers_of}
use Rattle.world_model.specs.Scopes.{open_finishes}
use Rattle.world_model.specs.Numbers.{names, is_named}
use Rattle.world_model.specs.Due.{drops_due, ending, unborn, named_by}
use Rattle.world_model.specs.Replies.{is_legal_world}
use Rattle.world_model.proofs.PhasersOnce.{times, phasers_once}
use Rattle.world_model.proofs.AgentOfTask.{agent}

-- the entry leads to its task's end
abbrev pub ends_act : Option WorldEvent → Bool
ends_act (Some (Begin t End)) = true
ends_act (Some (Refuse t a n)) = true
ends_act (Some (Fail t n)) = true
ends_act _ = false

abbrev pub is_drop : WorldEvent → Bool
is_drop (Phaser n (Drop t)) = true
is_drop _ = false

abbrev pub is_drop_of : ℕ → ℕ → WorldEvent → Bool
is_drop_of t n (Phaser m (Drop u)) = m == n && u == t
is_drop_of t n _ = false

-- the last event of a task
abbrev pub last_of : ℕ → List WorldEvent → WorldEvent
last_of t w = cond (t == 0) (Finish 0 Shutting) (Finish (home t w) (Ended t))

abbrev pub shuts_of : List ℕ → List WorldEvent
shuts_of fs = map (λ f. Finish f Shutting) fs

-- what is due after the drops
abbrev pub tail_of : ℕ → List WorldEvent → List WorldEvent
tail_of t w = shuts_of (open_finishes t w) ++ last_of t w ∷ []

-- drops, and then these
pub record DropsFirst (ds tail : List WorldEvent) : Type 0 where
  pub drops : List WorldEvent
  pub all_drops : list_all is_drop drops ≡ true
  pub is : ds ≡ drops ++ tail

-- t holds nothing but what is to be dropped, and it has ended once nothing is due
pub record Leaving (t : ℕ) (w ds : List WorldEvent) : Type 0 where
  pub form : is_empty ds ≡ false → DropsFirst ds (tail_of t w)
  pub covers : (u n : ℕ) → agent u w ≡ t → is_live u (phaser_past n w) ≡ true
      → list_any (is_drop_of u n) ds ≡ true
  pub over : is_empty ds ≡ true → (is_ended t w ≡ true) × (open_finishes t w ≡ [])

pub drops_map : (t : ℕ) (ns : List ℕ) → list_all is_drop (map (λ n. Phaser n (Drop t)) ns) ≡ true
drops_map t [] = refl
drops_map t (n ∷ ns) = drops_map t ns

all_append : (p : WorldEvent → Bool) (xs ys : List WorldEvent) → list_all p xs ≡ true → list_all p ys ≡ true
    → list_all p (xs ++ ys) ≡ true
all_append p [] ys a b = b
all_append p (x ∷ xs) ys a b =
    let c = and_parts (p x) (list_all p xs) a in
    and_from (p x) (list_all p (xs ++ ys)) c.0 (all_append p xs ys c.1 b)

drops_flat : (w : List WorldEvent) (cs : List ℕ) → list_all is_drop (flat_map (λ c. drops_due c w) cs) ≡ true
drops_flat w [] = refl
drops_flat w (c ∷ cs) =
    all_append is_drop (drops_due c w) (flat_map (λ x. drops_due x w) cs)
    (drops_map c (phasers_of c w)) (drops_flat w cs)

pub any_append_left : (p : WorldEvent → Bool) (xs ys : List WorldEvent) → list_any p xs ≡ true
    → list_any p (xs ++ ys) ≡ true
any_append_left p [] ys a = absurd (false≢true a)
any_append_left p (x ∷ xs) ys a =
    elim (or_cases (p x) (list_any p xs) a) [
      | inl e ↦ or_left (p x) (list_any p (xs ++ ys)) e
      | inr e ↦ or_right (p x) (list_any p (xs ++ ys)) (any_append_left p xs ys e)
    ]

pub any_append_right : (p : WorldEvent → Bool) (xs ys : List WorldEvent) → list_any p ys ≡ true
    → list_any p (xs ++ ys) ≡ true
any_append_right p [] ys a = a
any_append_right p (x ∷ xs) ys a = or_right (p x) (list_any p (xs ++ ys)) (any_append_right p xs ys a)

pub drop_in : (t n : ℕ) (ns : List ℕ) → times n ns ≡ 1
    → list_any (is_drop_of t n) (map (λ m. Phaser m (Drop t)) ns) ≡ true
drop_in t n [] k = absurd (none_is_one k)
  where
    none_is_one : ◌≡◌ {A = ℕ} 0 1 → ⊥
    none_is_one h = absurd cc
drop_in t n (m ∷ ms) k =
    elim (cases_Bool (m == n)) [
      | inl e ↦
          or_left (m == n && t == t) (list_any (is_drop_of t n) (map (λ x. Phaser x (Drop t)) ms))
          (and_from (m == n) (t == t) e (eq-eqb t t refl))
      | inr e ↦
          or_right (m == n && t == t) (list_any (is_drop_of t n) (map (λ x. Phaser x (Drop t)) ms))
          (drop_in t n ms (rw e at k))
    ]

-- a task's drops cover all that it holds
pub own_covered : (l : Limits) (w : List WorldEvent) → is_legal_world l w ≡ true → (t n : ℕ)
    → is_live t (phaser_past n w) ≡ true → list_any (is_drop_of t n) (drops_due t w) ≡ true
own_covered l w k t n v = drop_in t n (phasers_of t w) (phasers_once l w k t n ∙ ap (λ b. cond b 1 0) v)

flat_in : (w : List WorldEvent) (c n : ℕ) (cs : List ℕ) → has c cs ≡ true → list_any (is_drop_of c n)
    (drops_due c w) ≡ true → list_any (is_drop_of c n) (flat_map (λ x. drops_due x w) cs) ≡ true
flat_in w c n [] h d = absurd (false≢true h)
flat_in w c n (x ∷ xs) h d =
    elim (or_cases (x == c) (has c xs) h) [
      | inl e ↦
          any_append_left (is_drop_of c n) (drops_due x w) (flat_map (λ y. drops_due y w) xs)
          (subst (λ v. list_any (is_drop_of c n) (drops_due v w) ≡ true) (sym (eqb-true x c e)) d)
      | inr e ↦
          any_append_right (is_drop_of c n) (drops_due x w) (flat_map (λ y. drops_due y w) xs)
          (flat_in w c n xs e d)
    ]

-- a named child is among those that its spawner named
named_in : (c : ℕ) (w : List WorldEvent) → list_any (names c) w ≡ true
    → has c (filter_map (named_by (spawner c w)) w) ≡ true
named_in c [] k = absurd (false≢true k)
named_in c (Begin u (Async x ps) ∷ w) k =
    elim (cases_Bool (x == c)) [
      | inl e ↦ rw (e, eq-eqb u u refl, e) refl
      | inr e ↦
          let q : spawner c (Begin u (Async x ps) ∷ w) ≡ spawner c w = rw e refl in
          let before : has c (filter_map (named_by (spawner c w)) w) ≡ true = named_in c w (rw e at k) in
          subst (λ v. has c (filter_map (named_by v) (Begin u (Async x ps) ∷ w)) ≡ true) (sym q)
          (further (u == spawner c w) x (filter_map (named_by (spawner c w)) w) before)
    ]
  where
    further : (b : Bool) (x : ℕ) (ys : List ℕ) → has c ys ≡ true
        → has c (cons_option (cond b (Some x) None) ys) ≡ true
    further true x ys h = or_right (x == c) (has c ys) h
    further false x ys h = h
named_in c (e ∷ w) k = named_in c w k

-- what a failed task's children hold is covered too
pub children_covered : (l : Limits) (w : List WorldEvent) → is_legal_world l w ≡ true → (c n : ℕ)
    → is_named c w ≡ true → is_born c w ≡ false → is_live c (phaser_past n w) ≡ true
    → list_any (is_drop_of c n) (flat_map (λ x. drops_due x w) (unborn (spawner c w) w)) ≡ true
children_covered l w k c n m b v =
    let nonzero = (or_parts (c == 0) (list_any (spawns c) w) b).0 in
    let listed : list_any (names c) w ≡ true =
    elim (or_cases (c == 0) (list_any (names c) w) m) [
      | inl z ↦ absurd (true≢false (sym z ∙ nonzero))
      | inr z ↦ z
    ] in
    let among : has c (unborn (spawner c w) w) ≡ true =
    has-filter (λ x. not (is_born x w)) c (filter_map (named_by (spawner c w)) w)
    ∙ and_from (not (is_born c w)) (has c (filter_map (named_by (spawner c w)) w)) (ap (λ x. not x) b)
    (named_in c w listed) in
    flat_in w c n (unborn (spawner c w) w) among (own_covered l w k c n v)

-- the shape of what an entry that leads to the end fixes
pub ending_drops : (t : ℕ) (w : List WorldEvent) → DropsFirst (ending t w) (tail_of t w)
ending_drops t w =
    record {
      drops = drops_due t w;
      all_drops = drops_map t (phasers_of t w);
      is = append_assoc (drops_due t w) (shuts_of (open_finishes t w)) (last_of t w ∷ []);
    }

pub failing_drops : (t : ℕ) (w : List WorldEvent)
    → DropsFirst (flat_map (λ c. drops_due c w) (unborn t w) ++ ending t w) (tail_of t w)
failing_drops t w =
    let xs = flat_map (λ c. drops_due c w) (unborn t w) in
    record {
      drops = xs ++ drops_due t w;
      all_drops =
          all_append is_drop xs (drops_due t w) (drops_flat w (unborn t w)) (drops_map t (phasers_of t w));
      is =
          ap (λ ys. xs ++ ys) (append_assoc (drops_due t w) (shuts_of (open_finishes t w)) (last_of t w ∷ []))
          ∙ sym (append_assoc xs (drops_due t w) (tail_of t w));
    }

pub covered_ending : (t : ℕ) (w : List WorldEvent) (u n : ℕ)
    → list_any (is_drop_of u n) (drops_due t w) ≡ true → list_any (is_drop_of u n) (ending t w) ≡ true
covered_ending t w u n d =
    any_append_left (is_drop_of u n) (drops_due t w ++ shuts_of (open_finishes t w)) (last_of t w ∷ [])
    (any_append_left (is_drop_of u n) (drops_due t w) (shuts_of (open_finishes t w)) d)
