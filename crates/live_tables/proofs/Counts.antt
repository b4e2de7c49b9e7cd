-- A finish whose tasks are counted answers as its history says.
use Rattle.std.proofs.Common.{◌≡◌, ◌⊎◌, inl, inr, ℕ, zero, suc, ◌+◌, ◌<◌, ◌≤◌, ◌==◌, nat_lt, Bool, true, false, ◌||◌, ◌&&◌, not, List, [], ◌∷◌, length, Ok, Err, refl, ap, sym, ◌∙◌, arith}
use Rattle.std.specs.List.{list_any, list_all}
use Rattle.std.proofs.lemmas.Bool.{eq-eqb, eqb-true, cases_Bool, lt-ltb, ltb-true, and_from, and_parts, false≢true, cases_lt, false_from_ne_true}
use Rattle.phase_modes.specs.declared.refusal.Refusal.TheVariants.{NotNow, TasksFull}
use Rattle.phase_modes.specs.Lists.{is_empty}
use Rattle.phase_modes.specs.Refusal.{first_refusal}
use Rattle.finish_core.specs.declared.event.FinishEvent.{FinishEvent}
use Rattle.finish_core.specs.declared.event.FinishEvent.TheVariants.{Opened, Spawned, Ended, Shut}
use Rattle.finish_core.specs.Finish.{shuts, is_open, is_spawned, has_ended, all_ended, may_shut, spawned_tasks, is_allowed, is_legal_finish}
use Rattle.finish_core.specs.Replies.{reply, done_unless}
use Rattle.finish_core.specs.Shutting.{ended_count}
use Rattle.finish_core.proofs.Legal.{spawn_follows, end_follows}
use Rattle.live_tables.specs.Counted.{most_tasks, below, IsCounted, IsEvenOnceShut}

not_below : (t n : ℕ) → n ≤ t → nat_lt t n ≡ false
not_below t n le = false_from_ne_true (nat_lt t n) (λ e. let less = ltb-true t n e in absurd (omega (arith, less, le)))

-- which numbers are below n
one_more : (t n : ℕ) → ((n == t) || nat_lt t n) ≡ nat_lt t (suc n)
one_more t n = go (cases_lt t n)
  where
    go : (t < n) ⊎ (n ≤ t) → ((n == t) || nat_lt t n) ≡ nat_lt t (suc n)
    go (inl less) = ap (λ b. (n == t) || b) (lt-ltb t n less) ∙ (or_true (n == t) ∙ sym (lt-ltb t (suc n) (omega (arith, less))))
      where
        or_true : (b : Bool) → (b || true) ≡ true
        or_true true = refl
        or_true false = refl
    go (inr le) = elim (cases_Bool (n == t)) [
      | inl same ↦ ap (λ b. b || nat_lt t n) same ∙ (let is = eqb-true n t same in sym (lt-ltb t (suc n) (omega (arith, is))))
      | inr other ↦ ap (λ b. b || nat_lt t n) other ∙ (not_below t n le ∙ sym (not_below t (suc n) (apart (λ is. false≢true (sym other ∙ eq-eqb n t is)))))
    ]
      where
        apart : (n ≡ t → ⊥) → suc n ≤ t
        apart differ = elim (cases_lt n t) [ inl less ↦ omega (arith, less) | inr ge ↦ absurd (differ (omega (arith, le, ge))) ]

among : (t n : ℕ) → list_any (λ u. u == t) (below n) ≡ nat_lt t n
among t zero = sym (not_below t zero (omega arith))
among t (suc n) = ap (λ b. (n == t) || b) (among t n) ∙ one_more t n

long : (n : ℕ) → length (below n) ≡ n
long zero = refl
long (suc n) = ap suc (long n)

-- all below n are below m just if n is no greater
all_below : (m n : ℕ) → n ≤ m → list_all (λ t. nat_lt t m) (below n) ≡ true
all_below m zero le = refl
all_below m (suc n) le = and_from (nat_lt n m) (list_all (λ t. nat_lt t m) (below n)) (lt-ltb n m (omega (arith, le))) (all_below m n (omega (arith, le)))

some_above : (m n : ℕ) → m < n → list_all (λ t. nat_lt t m) (below n) ≡ false
some_above m zero less = absurd (omega (arith, less))
some_above m (suc n) less = ap (λ b. b && list_all (λ t. nat_lt t m) (below n)) (not_below n m (omega (arith, less)))

all_same : {A : Type 0} (p q : A → Bool) (xs : List A) → ((x : A) → p x ≡ q x) → list_all p xs ≡ list_all q xs
all_same p q [] same = refl
all_same p q (x ∷ xs) same = ap (λ b. b && list_all p xs) (same x) ∙ ap (λ b. q x && b) (all_same p q xs same)

-- what a call is answered, by whether its conditions are met
spawn_by : (h : List FinishEvent) (t : ℕ) (low : Bool) → is_open h ≡ true → is_spawned t h ≡ false
    → nat_lt t most_tasks ≡ low
    → reply most_tasks h (Spawned t)
    ≡ done_unless (first_refusal ((NotNow, true) ∷ (NotNow, true) ∷ (TasksFull, low) ∷ []))
spawn_by h t low opens new fits =
    ap (λ b. done_unless (first_refusal ((NotNow, b) ∷ (NotNow, not (is_spawned t h)) ∷ (TasksFull, nat_lt t most_tasks) ∷ []))) opens
    ∙ (ap (λ b. done_unless (first_refusal ((NotNow, true) ∷ (NotNow, not b) ∷ (TasksFull, nat_lt t most_tasks) ∷ []))) new
    ∙ ap (λ b. done_unless (first_refusal ((NotNow, true) ∷ (NotNow, true) ∷ (TasksFull, b) ∷ []))) fits)

end_by : (h : List FinishEvent) (t : ℕ) (a b d : Bool) → is_open h ≡ a → is_spawned t h ≡ b → has_ended t h ≡ d
    → reply most_tasks h (Ended t)
    ≡ done_unless (first_refusal ((NotNow, a) ∷ (NotNow, b) ∷ (NotNow, not d) ∷ []))
end_by h t a b d opens is ended =
    ap (λ x. done_unless (first_refusal ((NotNow, x) ∷ (NotNow, is_spawned t h) ∷ (NotNow, not (has_ended t h)) ∷ []))) opens
    ∙ (ap (λ x. done_unless (first_refusal ((NotNow, a) ∷ (NotNow, x) ∷ (NotNow, not (has_ended t h)) ∷ []))) is
    ∙ ap (λ x. done_unless (first_refusal ((NotNow, a) ∷ (NotNow, b) ∷ (NotNow, not x) ∷ []))) ended)

nobody_ends : (a d : Bool)
    → Err NotNow ≡ done_unless (first_refusal ((NotNow, a) ∷ (NotNow, false) ∷ (NotNow, not d) ∷ []))
nobody_ends false d = refl
nobody_ends true d = refl

-- an open one was opened and not shut
open_parts : (o c : Bool) → (o && not c) ≡ true → (o ≡ true) × (c ≡ false)
open_parts true true e = absurd cc
open_parts true false e = (refl, refl)
open_parts false c e = absurd cc

allowed : (h : List FinishEvent) (e : FinishEvent) → is_legal_finish most_tasks h ≡ true
    → is_allowed most_tasks h e ≡ true → is_legal_finish most_tasks (e ∷ h) ≡ true
allowed h e legal may = and_from (is_allowed most_tasks h e) (is_legal_finish most_tasks h) may legal

-- of a counted history
module _ (o c : Bool) (n m : ℕ) (h : List FinishEvent) (k : IsCounted o c n m h) where
  spawned_is : (t : ℕ) → is_spawned t h ≡ nat_lt t n
  spawned_is t = ap (λ (l : List ℕ). list_any (λ u. u == t) l) k.spawned ∙ among t n

  pub next_is : length (spawned_tasks h) ≡ n
  next_is = ap (λ (l : List ℕ). length l) k.spawned ∙ long n

  new_is : is_spawned (length (spawned_tasks h)) h ≡ false
  new_is =
      spawned_is (length (spawned_tasks h))
      ∙ not_below (length (spawned_tasks h)) n (omega (arith, next_is))

  open_is : is_open h ≡ (o && not c)
  open_is =
      ap (λ b. not b && not (list_any shuts h)) k.fresh ∙ (ap (λ b. not (not o) && not b) k.over ∙ twice o)
    where
      twice : (b : Bool) → (not (not b) && not c) ≡ (b && not c)
      twice true = refl
      twice false = refl

  was_opened : is_open h ≡ true → o ≡ true
  was_opened opens = (open_parts o c (sym open_is ∙ opens)).0

  all_is : all_ended h ≡ list_all (λ t. nat_lt t m) (below n)
  all_is =
      all_same (λ t. has_ended t h) (λ t. nat_lt t m) (spawned_tasks h) k.ended
      ∙ ap (λ (l : List ℕ). list_all (λ t. nat_lt t m) l) k.spawned

  some_run : m < n → all_ended h ≡ false
  some_run less = all_is ∙ some_above m n less

  -- all have ended just if the counts are the same
  all_by : (b : Bool) → (m == n) ≡ b → b ≡ all_ended h
  all_by true same = sym (all_is ∙ all_below m n (let is = eqb-true m n same in omega (arith, is)))
  all_by false other = sym (some_run (less (cases_lt m n)))
    where
      less : (m < n) ⊎ (n ≤ m) → m < n
      less (inl lt) = lt
      less (inr ge) = absurd (false≢true (sym other ∙ eq-eqb m n (omega (arith, ge, k.within))))

  pub shut_is : is_open h ≡ true → (m == n) ≡ may_shut h
  shut_is opens = all_by (m == n) refl ∙ sym (ap (λ b. b && all_ended h) opens)

  -- the replies
  pub full_reply : is_open h ≡ true → most_tasks ≤ n
      → Err TasksFull ≡ reply most_tasks h (Spawned (length (spawned_tasks h)))
  full_reply opens le =
      sym (spawn_by h (length (spawned_tasks h)) false opens new_is (not_below _ most_tasks (omega (arith, le, next_is))))

  pub spawn_reply : is_open h ≡ true → n < most_tasks
      → Ok tt ≡ reply most_tasks h (Spawned (length (spawned_tasks h)))
  spawn_reply opens less =
      sym (spawn_by h (length (spawned_tasks h)) true opens new_is (lt-ltb _ most_tasks (omega (arith, less, next_is))))

  pub none_reply : n ≤ m → Err NotNow ≡ reply most_tasks h (Ended (ended_count h))
  none_reply le =
      nobody_ends (is_open h) (has_ended (ended_count h) h)
      ∙ sym (end_by h (ended_count h) (is_open h) false (has_ended (ended_count h) h) refl
      (spawned_is (ended_count h) ∙ not_below (ended_count h) n (omega (arith, le, k.many))) refl)

  pub end_reply : is_open h ≡ true → m < n → Ok tt ≡ reply most_tasks h (Ended (ended_count h))
  end_reply opens less =
      sym (end_by h (ended_count h) true true false opens
      (spawned_is (ended_count h) ∙ lt-ltb (ended_count h) n (omega (arith, less, k.many)))
      (k.ended (ended_count h) ∙ not_below (ended_count h) m (omega (arith, k.many))))

  -- what is kept
  pub spawn_counts : is_open h ≡ true → n < most_tasks → IsCounted o c (n + 1) m (Spawned n ∷ h)
  spawn_counts opens less =
      record {
        fresh = sym (ap (λ b. not b) (was_opened opens));
        over = k.over;
        spawned = ap (λ (l : List ℕ). n ∷ l) k.spawned ∙ ap below (sym plus_one);
        ended = k.ended;
        many = k.many;
        within = omega (arith, k.within);
        few = omega (arith, less);
        legal = allowed h (Spawned n) k.legal
            (and_from (is_open h && not (is_spawned n h)) (nat_lt n most_tasks)
            (and_from (is_open h) (not (is_spawned n h)) opens
            (ap (λ b. not b) (spawned_is n ∙ not_below n n (omega arith))))
            (lt-ltb n most_tasks less));
      }
    where
      plus_one : n + 1 ≡ suc n
      plus_one = omega arith

  pub end_counts : is_open h ≡ true → m < n → IsCounted o c n (m + 1) (Ended m ∷ h)
  end_counts opens less =
      record {
        fresh = sym (ap (λ b. not b) (was_opened opens));
        over = k.over;
        spawned = k.spawned;
        ended = λ t. ap (λ b. (m == t) || b) (k.ended t) ∙ (one_more t m ∙ ap (nat_lt t) (sym plus_one));
        many = ap suc k.many ∙ sym plus_one;
        within = omega (arith, less);
        few = k.few;
        legal = allowed h (Ended m) k.legal
            (and_from (is_open h && is_spawned m h) (not (has_ended m h))
            (and_from (is_open h) (is_spawned m h) opens (spawned_is m ∙ lt-ltb m n less))
            (ap (λ b. not b) (k.ended m ∙ not_below m m (omega arith))));
      }
    where
      plus_one : m + 1 ≡ suc m
      plus_one = omega arith

-- it was shut only when all had ended
closed : (h : List FinishEvent) → is_open h ≡ true → list_any shuts h ≡ true → ⊥
closed h opens is =
    false≢true (sym (ap (λ b. not b) is) ∙ (and_parts (not (is_empty h)) (not (list_any shuts h)) opens).1)

unopened : (h : List FinishEvent) → is_empty h ≡ true → list_any shuts h ≡ true → ⊥
unopened [] none is = false≢true is
unopened (e ∷ h) none is = false≢true none

shut_ended : (h : List FinishEvent) → is_legal_finish most_tasks h ≡ true → list_any shuts h ≡ true → all_ended h ≡ true
shut_ended [] legal is = absurd (false≢true is)
shut_ended (Opened u ∷ h) legal is = absurd (unopened h (and_parts (is_empty h) (is_legal_finish most_tasks h) legal).0 is)
shut_ended (Spawned u ∷ h) legal is =
    absurd (closed h (spawn_follows most_tasks h u (and_parts (is_allowed most_tasks h (Spawned u)) (is_legal_finish most_tasks h) legal).0).open_now is)
shut_ended (Ended u ∷ h) legal is =
    absurd (closed h (end_follows most_tasks h u (and_parts (is_allowed most_tasks h (Ended u)) (is_legal_finish most_tasks h) legal).0).open_now is)
shut_ended (Shut ∷ h) legal is =
    (and_parts (is_open h) (all_ended h) (and_parts (may_shut h) (is_legal_finish most_tasks h) legal).0).1

pub even_once_shut : (o c : Bool) (n m : ℕ) (h : List FinishEvent) → IsCounted o c n m h → IsEvenOnceShut h
even_once_shut o c n m h k is = go (cases_lt m n)
  where
    go : (m < n) ⊎ (n ≤ m) → ended_count h ≡ length (spawned_tasks h)
    go (inl less) = absurd (false≢true (sym (some_run o c n m h k less) ∙ shut_ended h k.legal is))
    go (inr le) = omega (arith, le, k.within, k.many, next_is o c n m h k)
