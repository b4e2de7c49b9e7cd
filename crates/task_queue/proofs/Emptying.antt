-- The deques are emptied from the last to the first, and each counts by itself.
use Rattle.std.proofs.Common.{◌≡◌, ◌≢◌, ℕ, zero, suc, ◌+◌, ◌<◌, List, [], ◌∷◌, ◌++◌, length, map, get_or, All, sym, refl, ap, ◌∙◌, subst, arith, length-append, append_assoc}
use Rattle.std.proofs.lemmas.List.{map-append, length-map, get_or-map}
use Rattle.std.proofs.lemmas.List.Elements.{All-head, All-tail}
use Rattle.std.specs.List.{flat_map}
use Rattle.std.specs.declared.alloc.Global.{Global}
use Rattle.std.specs.declared.vec.Vec.{Vec}
use Rattle.crossbeam_deque.specs.Handles.{worker_deque}
use Rattle.crossbeam_deque.specs.declared.handles.Worker.{Worker}
use Rattle.task_queue.specs.declared.rule.Hand.{Hand}
use Rattle.task_queue.specs.declared.reach.Reach.{Reach}
use Rattle.task_queue.specs.Fair.{weigh, each_from}
use Rattle.task_queue.specs.Reaches.{reach_deque, stolen_of, row_weight}
use Rattle.task_queue.specs.Account.{Account}
use Rattle.task_queue.specs.Accounts.{IsConserved}
use Rattle.task_queue.specs.inner.Emptied.{own_put, own_taken, AreRows, IsEmptied, IsRestOf, AreApart, IsOrdered}
use Rattle.task_queue.proofs.Fairs.{weigh-append}

-- one more list at the end
pub each-append : {X : Type 0} (k : ℕ) (h : ℕ → X → ℕ) (ls : List (List X)) (xs : List X) → each_from k h (ls ++ xs ∷ []) ≡ each_from k h ls + weigh (h (k + length ls)) xs
each-append k h [] xs = omega (arith, ap (λ n. weigh (h n) xs) (plus_none k))
  where
    plus_none : (n : ℕ) → n ≡ n + 0
    plus_none n = omega arith
each-append k h (l ∷ ls) xs = omega (arith, each-append (k + 1) h ls xs, ap (λ n. weigh (h n) xs) (next k (length ls)))
  where
    next : (n m : ℕ) → (n + 1) + m ≡ n + suc m
    next n m = omega arith

-- the last list, at a place that is known
pub each_last : {X Y : Type 0} (h : ℕ → X → ℕ) (f : Y → List X) (ys rest : List Y) (y : Y) (n : ℕ) → ys ≡ rest ++ y ∷ [] → length rest ≡ n → each_from 0 h (map f ys) ≡ each_from 0 h (map f rest) + weigh (h n) (f y)
each_last h f ys rest y n is at =
    let e : 0 + length (map f rest) ≡ n = omega (arith, length-map rest f, at) in
    ap (λ l. each_from 0 h (map f l)) is ∙ (ap (λ l. each_from 0 h l) (map-append f rest (y ∷ [])) ∙ (each-append 0 h (map f rest) (f y) ∙ ap (λ m. each_from 0 h (map f rest) + weigh (h m) (f y)) e))

-- lists that are joined, and lists of which each weighs the same
pub flat_weighs : {X Y : Type 0} (h : X → ℕ) (f : Y → List X) (ys : List Y) → weigh h (flat_map f ys) ≡ weigh (λ y. weigh h (f y)) ys
flat_weighs h f [] = refl
flat_weighs h f (y ∷ ys) = omega (arith, weigh-append h (f y) (flat_map f ys), flat_weighs h f ys)

pub all_weigh : {X : Type 0} (f : X → ℕ) (xs : List X) → All (λ x. f x ≡ 0) xs → weigh f xs ≡ 0
all_weigh f [] none = refl
all_weigh f (x ∷ xs) none = omega (arith, All-head (λ y. f y ≡ 0) x xs none, all_weigh f xs (All-tail (λ y. f y ≡ 0) x xs none))

pub all_one : {X : Type 0} (f : X → ℕ) (xs : List X) → All (λ x. f x ≡ 1) xs → weigh f xs ≡ length xs
all_one f [] ones = refl
all_one f (x ∷ xs) ones = omega (arith, All-head (λ y. f y ≡ 1) x xs ones, all_one f xs (All-tail (λ y. f y ≡ 1) x xs ones))

pub weigh_same : {X : Type 0} (f g : X → ℕ) (xs : List X) → ((x : X) → f x ≡ g x) → weigh f xs ≡ weigh g xs
weigh_same f g [] same = refl
weigh_same f g (x ∷ xs) same = omega (arith, same x, weigh_same f g xs same)

pub weigh_zero : {X : Type 0} (f : X → ℕ) (xs : List X) → ((x : X) → f x ≡ 0) → weigh f xs ≡ 0
weigh_zero f [] same = refl
weigh_zero f (x ∷ xs) same = omega (arith, same x, weigh_zero f xs same)

-- weighs the list at place k alone
abbrev pub only : {X : Type 0} → ℕ → (X → ℕ) → ℕ → X → ℕ
only zero h zero x = h x
only zero h (suc j) x = 0
only (suc k) h zero x = 0
only (suc k) h (suc j) x = only k h j x

pub only_same : {X : Type 0} (k : ℕ) (h : X → ℕ) (x : X) → only k h k x ≡ h x
only_same zero h x = refl
only_same (suc k) h x = only_same k h x

pub only_other : {X : Type 0} (k j : ℕ) (h : X → ℕ) (x : X) → k ≢ j → only k h j x ≡ 0
only_other zero zero h x other = absurd (other refl)
only_other zero (suc j) h x other = refl
only_other (suc k) zero h x other = refl
only_other (suc k) (suc j) h x other = only_other k j h x (λ e. other (ap suc e))

-- past the place nothing weighs
pub each_past : {X : Type 0} (k n : ℕ) (h : X → ℕ) (ls : List (List X)) → k < n → each_from n (only k h) ls ≡ 0
each_past k n h [] lt = refl
each_past k n h (l ∷ ls) lt =
    omega (arith, weigh_zero (only k h n) l (λ x. only_other k n h x (λ e. omega (arith, e))), each_past k (n + 1) h ls (omega arith))

-- up to the place, only its list weighs
pub each_only : {X : Type 0} (n k m : ℕ) (h : X → ℕ) (ls : List (List X)) → m ≡ n + k → each_from n (only m h) ls ≡ weigh h (get_or ls k [])
each_only n k m h [] at = refl
each_only n zero m h (l ∷ ls) at =
    let e : m ≡ n = omega arith in
    omega (arith, weigh_same (only m h n) h l (λ x. ap (λ j. only j h n x) e ∙ only_same n h x), each_past m (n + 1) h ls (omega arith))
each_only n (suc k) m h (l ∷ ls) at =
    omega (arith, weigh_zero (only m h n) l (λ x. only_other m n h x (λ e. omega (arith, e))), each_only (n + 1) k m h ls (omega arith))

-- the last of a list leaves it
pub one_less : {X : Type 0} (xs rest : List X) (x : X) → xs ≡ rest ++ x ∷ [] → length xs ≡ length rest + 1
one_less xs rest x is = ap (λ l. length l) is ∙ length-append rest (x ∷ [])

-- lists of the same marks are of one length
pub same_length : {X Y Z : Type 0} (f : X → Z) (g : Y → Z) (xs : List X) (ys : List Y) → map f xs ≡ map g ys → length xs ≡ length ys
same_length f g xs ys same = sym (length-map xs f) ∙ (ap (λ l. length l) same ∙ length-map ys g)

-- one moves from the first list to the second
pub joined : {X Y Z : Type 0} (f : X → Z) (g : Y → Z) (all xs xs' : List X) (x : X) (ys ys' : List Y) (y : Y) → map f all ≡ map f xs ++ map g ys → xs ≡ xs' ++ x ∷ [] → ys' ≡ y ∷ ys → g y ≡ f x → map f all ≡ map f xs' ++ map g ys'
joined f g all xs xs' x ys ys' y whole is new same =
    whole ∙ (ap (λ l. map f l ++ map g ys) is ∙ (ap (λ l. l ++ map g ys) (map-append f xs' (x ∷ [])) ∙ (append_assoc (map f xs') (f x ∷ []) (map g ys) ∙ (ap (λ z. map f xs' ++ z ∷ map g ys) (sym same) ∙ ap (λ l. map f xs' ++ map g l) (sym new)))))

module _ {T : Type 0} where
  empty_row : (h : ℕ → T → ℕ) (xs : List (Reach T)) → map reach_deque xs ≡ [] → each_from 0 h (map stolen_of xs) ≡ 0
  empty_row h [] e = refl
  empty_row h (x ∷ xs) e = absurd (omega (arith, ap (λ (l : List _). length l) e))

  rows_done : (h : ℕ → T → ℕ) (rows : List (Vec (Reach T) Global)) → AreRows [] rows → weigh (row_weight h) rows ≡ 0
  rows_done h rows done = all_weigh (row_weight h) rows (λ k d lt. empty_row h _ (done k d lt).0)

module _ {T P : Type 0} where
  -- the deques that are gone of all held the rest
  abbrev pub IsPartOf : List (Worker T Global (Hand T) P) → List (Vec (Reach T) Global) → List (Worker T Global (Hand T) P) → List (Vec (Reach T) Global) → List T → Type 0
  IsPartOf all table owns rows rest =
      (held : List (List T)) × (rest ≡ flat_map (λ l. l) held) × (length owns + length held ≡ length all)
      × ((h : ℕ → T → ℕ) → each_from 0 h (map own_put all) + each_from 0 h (map own_taken owns) + weigh (row_weight h) rows
      ≡ each_from 0 h (map own_taken all) + weigh (row_weight h) table + each_from (length owns) h held + each_from 0 h (map own_put owns))

  pub part_begins : (all : List (Worker T Global (Hand T) P)) (table : List (Vec (Reach T) Global)) → IsPartOf all table all table []
  part_begins all table = ([], refl, omega arith, λ h. omega arith)

  pub part_grows : (all : List (Worker T Global (Hand T) P)) (table : List (Vec (Reach T) Global)) (owns owns' : List (Worker T Global (Hand T) P)) (own : Worker T Global (Hand T) P) (rows rows' : List (Vec (Reach T) Global)) (rest rest' : List T)
      → owns ≡ owns' ++ own ∷ [] → IsEmptied (length owns') own rows rows' rest rest' → IsPartOf all table owns rows rest → IsPartOf all table owns' rows' rest'
  part_grows all table owns owns' own rows rows' rest rest' is emptied part =
      let mine = emptied.0 in
      let held = part.0 in
      let longer : length owns ≡ length owns' + 1 = ap (λ l. length l) is ∙ length-append owns' (own ∷ []) in (
        mine ∷ held,
        emptied.1 ∙ ap (λ l. mine ++ l) part.1,
        omega (arith, longer, part.2),
        λ h.
            omega (arith, part.3 h, emptied.2 h, each_last h own_put owns owns' own (length owns') is refl, each_last h own_taken owns owns' own (length owns') is refl, ap (λ n. each_from n h held) longer),
      )

  pub part_ends : (all : List (Worker T Global (Hand T) P)) (table : List (Vec (Reach T) Global)) (owns : List (Worker T Global (Hand T) P)) (rows : List (Vec (Reach T) Global)) (rest : List T) → owns ≡ [] → AreRows (map worker_deque owns) rows → IsPartOf all table owns rows rest → IsRestOf all table rest
  part_ends all table owns rows rest none done part = (
    part.0,
    part.1,
    omega (arith, part.2, ap (λ l. length l) none),
    λ h.
        omega (arith, part.3 h, rows_done h rows (subst (λ l. AreRows (map worker_deque l) rows) none done), ap (λ l. each_from 0 h (map own_taken l)) none, ap (λ l. each_from 0 h (map own_put l)) none, ap (λ l. each_from (length l) h part.0) none),
  )

-- the deques of seats, each counted by itself
module _ {T P : Type 0} where
  pub left_from : (seats ordered : List (Account T)) (owns : List (Worker T Global (Hand T) P)) (rows : List (Vec (Reach T) Global)) (rest : List T) → IsOrdered seats ordered → AreApart ordered owns rows → IsRestOf owns rows rest → IsConserved seats rest
  left_from seats ordered owns rows rest same are is =
      let many : length owns ≡ length ordered = same_length worker_deque (λ (s : Account T). s.own) owns ordered are.0 in (
        is.0,
        is.1,
        is.2 ∙ (many ∙ same.0),
        λ n d lt h.
            let s = get_or seats n d in
            let k = s.worker in
            let at = same.4 n d lt in
            let in' : k < length ordered = omega (arith, at.0, same.0) in
            let took : Account T → ℕ = λ t. weigh h (get_or t.stolen k []) in
            omega (arith, is.3 (only k h), ap (λ l. each_from 0 (only k h) l) are.1, ap (λ l. each_from 0 (only k h) l) are.2, are.3 (only k h), each_only 0 k k h (map (λ (t : Account T). t.put) ordered) (omega arith), each_only 0 k k h (map (λ (t : Account T). t.popped) ordered) (omega arith), each_only 0 k k h is.0 (omega arith), weigh_same (λ (t : Account T). each_from 0 (only k h) t.stolen) took ordered (λ t. each_only 0 k k h t.stolen (omega arith)), same.3 took, ap (λ l. weigh h l) (get_or-map (λ (t : Account T). t.put) ordered k s [] in' ∙ ap (λ (t : Account T). t.put) at.1), ap (λ l. weigh h l) (get_or-map (λ (t : Account T). t.popped) ordered k s [] in' ∙ ap (λ (t : Account T). t.popped) at.1)),
      )
