-- The seats of a queue, and their order.
use Rattle.std.proofs.Common.{◌≡◌, ◌≢◌, ℕ, zero, suc, ◌+◌, ◌-◌, ◌<◌, ◌≤◌, List, [], ◌∷◌, ◌++◌, ◌⊎◌, inl, inr, ⊎_elim, length, map, reverse, get_or, set, take, drop, All, sym, refl, ap, ◌∙◌, subst, arith, length-append, append_assoc}
use Rattle.std.specs.List.{Contains, HoldsAt}
use Rattle.std.specs.declared.alloc.Global.{Global}
use Rattle.std.proofs.lemmas.Bool.{cases_lt}
use Rattle.std.proofs.lemmas.List.{map-append, length-map, length-set, get_or_at, get_or_push, get_or_append_left, get_or_default, same_lists, take-append-drop, drop_more, reverse-append, length-reverse, get_or-reverse, get_or-map}
use Rattle.std.proofs.lemmas.List.Elements.{All-cons, All-head, All-tail, All-set, All-contains, All-contains_itself, All-nil, Contains-append_left, Contains-append_right, Contains-append_cases}
use Rattle.atomic_blocks.specs.Lent.{RowsId}
use Rattle.task_queue.specs.Account.{Account}
use Rattle.task_queue.specs.Accounts.{IsSeatOf, IsSeatAt, HaveAll, AreTogether}
use Rattle.task_queue.specs.inner.Emptied.{AreInOrder, IsOrdered, IsOut}
use Rattle.task_queue.specs.Fair.{weigh}
use Rattle.task_queue.proofs.Fairs.{all_more, map_kept, weigh-append}

-- where the next stands in the whole list
pub place_in : {X Y Z : Type 0} (f : X → Z) (g : Y → Z) (all xs xs' : List X) (x : X) (ys : List Y) (n : ℕ) (d : Z) → map f all ≡ map f xs ++ map g ys → xs ≡ xs' ++ x ∷ [] → n ≡ length xs' → f x ≡ get_or (map f all) n d
place_in f g all xs xs' x ys n d whole is at =
    let split : map f all ≡ map f xs' ++ f x ∷ map g ys = whole ∙ (ap (λ l. map f l ++ map g ys) is ∙ (ap (λ l. l ++ map g ys) (map-append f xs' (x ∷ [])) ∙ append_assoc (map f xs') (f x ∷ []) (map g ys))) in
    sym (ap (λ l. get_or l n d) split ∙ get_or_at (map f xs') (f x) (map g ys) d n (length-map xs' f ∙ sym at))

-- a list without one of its items
all_out : {X : Type 0} (P : X → Type 0) (xs ys : List X) (x : X) → All P (xs ++ x ∷ ys) → All P (xs ++ ys) × P x
all_out P [] ys x all = (All-tail P x ys all, All-head P x ys all)
all_out P (z ∷ zs) ys x all =
    let r = all_out P zs ys x (All-tail P z (zs ++ x ∷ ys) all) in
    (All-cons P z (zs ++ ys) (All-head P z (zs ++ x ∷ ys) all) r.0, r.1)

one_item : {X : Type 0} (x t : X) (k : ℕ) → k < 1 → get_or (x ∷ []) k t ≡ t → x ≡ t
one_item x t zero lt e = e
one_item x t (suc k) lt e = absurd (omega arith)

contains_out : {X : Type 0} (xs ys : List X) (x t : X) → Contains (xs ++ x ∷ ys) t → Contains (xs ++ ys) t ⊎ (x ≡ t)
contains_out xs ys x t h =
    ⊎_elim (λ (a : Contains xs t). inl (Contains-append_left xs ys t a))
    (λ (b : Contains (x ∷ ys) t). ⊎_elim (λ (o : Contains (x ∷ []) t). inr (one_item x t o.0 o.1 o.2)) (λ (m : Contains ys t). inl (Contains-append_right xs ys t m)) (Contains-append_cases (x ∷ []) ys t b)) (Contains-append_cases xs (x ∷ ys) t h)

map_turned : {X Y : Type 0} (f : X → Y) (xs : List X) → map f (reverse xs) ≡ reverse (map f xs)
map_turned f [] = refl
map_turned f (x ∷ xs) =
    ap (λ l. map f l) (reverse-append (x ∷ []) xs) ∙ (map-append f (reverse xs) (x ∷ []) ∙ (ap (λ l. l ++ f x ∷ []) (map_turned f xs) ∙ sym (reverse-append (f x ∷ []) (map f xs))))

contains_turned : (ns : List ℕ) (k : ℕ) → Contains ns k → Contains (reverse ns) k
contains_turned ns k have =
    let j = length ns - 1 - have.0 in
    let back : length ns - 1 - j ≡ have.0 = omega (arith, have.1) in
    (j, omega (arith, have.1, length-reverse ns), get_or-reverse ns j k (omega (arith, have.1)) ∙ (ap (λ n. get_or ns n k) back ∙ have.2))

module _ {T : Type 0} where
  -- the worker's seat is found
  pub absent : (seats : List (Account T)) (n : ℕ) → Contains (map (λ s. s.worker) seats) n → ((k : ℕ) → k < length seats → HoldsAt (λ s. s.worker ≢ n) seats k) → ⊥
  absent [] n have none = omega (arith, have.1)
  absent (x ∷ xs) n have none =
      let in' : have.0 < length (x ∷ xs) = omega (arith, have.1, length-map (x ∷ xs) (λ (t : Account T). t.worker)) in
      none have.0 in' x (sym (get_or-map (λ (t : Account T). t.worker) (x ∷ xs) have.0 x n in') ∙ have.2)

  -- what is taken out by its place
  pub out_at : (seats rest : List (Account T)) (i : ℕ) (s : Account T) → i < length seats → s ≡ get_or seats i s → rest ≡ take i seats ++ drop (i + 1) seats → IsOut seats s rest
  out_at seats rest i s lt at is = (take i seats, drop (i + 1) seats, sym (take-append-drop i seats) ∙ (ap (λ l. take i seats ++ l) (drop_more seats i s lt) ∙ ap (λ t. take i seats ++ t ∷ drop (i + 1) seats) (sym at)), is)

  -- from n on, in turn
  abbrev pub AreNumbered : ℕ → List (Account T) → Type 0
  AreNumbered n seats = (k : ℕ) (d : Account T) → k < length seats → (get_or seats k d).worker ≡ n + k

  numbered_cons : (n m : ℕ) (seats : List (Account T)) (s : Account T) → AreNumbered m seats → m ≡ n + 1 → s.worker ≡ n → AreNumbered n (s ∷ seats)
  numbered_cons n m seats s nums more here zero d lt = omega (arith, here)
  numbered_cons n m seats s nums more here (suc k) d lt = omega (arith, nums k d (omega arith), more)

  pub numbered_more : (n m : ℕ) (seats seats' : List (Account T)) (s : Account T) → AreNumbered m seats → m ≡ n + 1 → seats' ≡ s ∷ seats → s.worker ≡ n → AreNumbered n seats'
  numbered_more n m seats seats' s nums more is here = subst (λ l. AreNumbered n l) (sym is) (numbered_cons n m seats s nums more here)

  pub have_all : (n : ℕ) (seats : List (Account T)) → n ≡ 0 → AreNumbered n seats → HaveAll seats
  have_all n [] none nums k lt = absurd (omega arith)
  have_all n (s ∷ seats) none nums k lt = (
    k,
    omega (arith, length-map (s ∷ seats) (λ (t : Account T). t.worker)),
    omega (arith, get_or-map (λ (t : Account T). t.worker) (s ∷ seats) k s k lt, nums k s lt),
  )

  -- the seats from all that were put in order so far, and the ones that are left
  abbrev pub IsOrdering : List (Account T) → List (Account T) → List (Account T) → ℕ → Type 0
  IsOrdering all left ordered n =
      (length ordered ≡ n) × (length left + n ≡ length all) × All (Contains all) left × All (Contains all) ordered
      × ((k : ℕ) (d : Account T) → k < n → (get_or ordered k d).worker ≡ k)
      × ((k : ℕ) → n ≤ k → k < length all → Contains (map (λ s. s.worker) left) k)
      × ((f : Account T → ℕ) → weigh f all ≡ weigh f left + weigh f ordered)
      × All (λ s. Contains left s ⊎ ((s.worker < n) × (get_or ordered s.worker s ≡ s))) all

  pub ordering_begins : (all : List (Account T)) → HaveAll all → IsOrdering all all [] 0
  ordering_begins all have = (
    refl,
    omega arith,
    All-contains_itself all,
    All-nil (Contains all),
    (λ k d lt. absurd (omega arith)),
    (λ k _ lt. have k lt),
    (λ f. omega arith),
    λ k d lt. inl (All-contains_itself all k d lt),
  )

  numbers_grow : (ordered : List (Account T)) (s : Account T) (n : ℕ) → length ordered ≡ n → s.worker ≡ n → ((k : ℕ) (d : Account T) → k < n → (get_or ordered k d).worker ≡ k) → (k : ℕ) (d : Account T) → k < n + 1 → (get_or (ordered ++ s ∷ []) k d).worker ≡ k
  numbers_grow ordered s n many here nums k d lt =
      ⊎_elim (λ (below : k < n). ap (λ (t : Account T). t.worker) (get_or_append_left ordered (s ∷ []) d k (omega (arith, many))) ∙ nums k d below)
      (λ (from : n ≤ k). ap (λ (t : Account T). t.worker) (get_or_push ordered s d k (omega (arith, many))) ∙ omega (arith, here)) (cases_lt k n)

  rest_have : (before after : List (Account T)) (s : Account T) (k : ℕ) → s.worker ≢ k → Contains (map (λ t. t.worker) (before ++ s ∷ after)) k → Contains (map (λ t. t.worker) (before ++ after)) k
  rest_have before after s k other have =
      let w : Account T → ℕ = λ t. t.worker in
      ⊎_elim (λ (c : Contains (map w before ++ map w after) k). subst (λ l. Contains l k) (sym (map-append w before after)) c) (λ (e : s.worker ≡ k). absurd (other e))
      (contains_out (map w before) (map w after) s.worker k (subst (λ l. Contains l k) (map-append w before (s ∷ after)) have))

  found_grows : (before after ordered : List (Account T)) (s : Account T) (n : ℕ) → length ordered ≡ n → s.worker ≡ n → (t : Account T) → Contains (before ++ s ∷ after) t ⊎ ((t.worker < n) × (get_or ordered t.worker t ≡ t))
      → Contains (before ++ after) t ⊎ ((t.worker < n + 1) × (get_or (ordered ++ s ∷ []) t.worker t ≡ t))
  found_grows before after ordered s n many here t (inl left) =
      ⊎_elim (λ (c : Contains (before ++ after) t). inl c)
      (λ (e : s ≡ t). let at : t.worker ≡ n = ap (λ (u : Account T). u.worker) (sym e) ∙ here in inr (omega (arith, at), get_or_push ordered s t t.worker (omega (arith, many, at)) ∙ e)) (contains_out before after s t left)
  found_grows before after ordered s n many here t (inr found) = inr (omega (arith, found.0), get_or_append_left ordered (s ∷ []) t t.worker (omega (arith, found.0, many)) ∙ found.1)

  grows_at : (all before after ordered : List (Account T)) (s : Account T) (n : ℕ) → IsOrdering all (before ++ s ∷ after) ordered n → s.worker ≡ n → IsOrdering all (before ++ after) (ordered ++ s ∷ []) (n + 1)
  grows_at all before after ordered s n o here =
      let out = all_out (Contains all) before after s o.2 in (
        omega (arith, o.0, length-append ordered (s ∷ [])),
        omega (arith, o.1, length-append before (s ∷ after), length-append before after),
        out.0,
        all_more (Contains all) ordered (ordered ++ s ∷ []) s o.3 out.1 refl,
        numbers_grow ordered s n o.0 here o.4,
        (λ k from lt. rest_have before after s k (λ e. omega (arith, e, here)) (o.5 k (omega arith) lt)),
        (λ f. omega (arith, o.6 f, weigh-append f before (s ∷ after), weigh-append f before after, weigh-append f ordered (s ∷ []))),
        λ k d lt. found_grows before after ordered s n o.0 here (get_or all k d) (o.7 k d lt),
      )

  pub ordering_grows : (all left left' ordered ordered' : List (Account T)) (s : Account T) (n : ℕ) → IsOrdering all left ordered n → s.worker ≡ n → IsOut left s left' → ordered' ≡ ordered ++ s ∷ [] → IsOrdering all left' ordered' (n + 1)
  ordering_grows all left left' ordered ordered' s n o here out is =
      subst (λ l. IsOrdering all left' l (n + 1)) (sym is) (subst (λ l. IsOrdering all l (ordered ++ s ∷ []) (n + 1)) (sym out.3) (grows_at all out.0 out.1 ordered s n (subst (λ l. IsOrdering all l ordered n) out.2 o) here))

  pub ordering_ends : (all left ordered : List (Account T)) (n : ℕ) → IsOrdering all left ordered n → n ≡ length all → IsOrdered all ordered
  ordering_ends all left ordered n o end =
      let none : length left ≡ 0 = omega (arith, o.1, end) in (
        o.0 ∙ end,
        o.3,
        (λ k d lt. o.4 k d (omega (arith, lt, o.0))),
        (λ f. omega (arith, o.6 f, nothing f left none)),
        λ k d lt. ⊎_elim (λ (c : Contains left (get_or all k d)). absurd (omega (arith, c.1, none))) (λ (found : ((get_or all k d).worker < n) × (get_or ordered (get_or all k d).worker (get_or all k d) ≡ get_or all k d)). (omega (arith, found.0, end), found.1)) (o.7 k d lt),
      )
    where
      nothing : (f : Account T → ℕ) (l : List (Account T)) → length l ≡ 0 → weigh f l ≡ 0
      nothing f [] e = refl
      nothing f (x ∷ xs) e = absurd (omega (arith, e))

  own_at : (deques : List (RowsId × Global)) (ordered : List (Account T)) → All (IsSeatAt deques) ordered → ((k : ℕ) (d : Account T) → k < length ordered → (get_or ordered k d).worker ≡ k) → length deques ≡ length ordered
      → (k : ℕ) (d : RowsId × Global) → k < length deques → get_or deques k d ≡ get_or (map (λ s. s.own) ordered) k d
  own_at deques [] all nums many k d lt = absurd (omega (arith, many))
  own_at deques (x ∷ xs) all nums many k d lt =
      let in' : k < length (x ∷ xs) = omega (arith, many, lt) in
      let s = get_or (x ∷ xs) k x in
      get_or_default deques k d s.own lt ∙ (ap (λ n. get_or deques n s.own) (sym (nums k x in')) ∙ (sym (all k x in').1 ∙ sym (get_or-map (λ (t : Account T). t.own) (x ∷ xs) k x d in')))

  -- seats of one queue that are in order have their own deques in order
  pub together_in_order : (seats ordered : List (Account T)) → AreTogether seats → IsOrdered seats ordered → AreInOrder ordered
  together_in_order seats ordered are same =
      let deques = are.0 in
      let all : All (IsSeatAt deques) ordered = λ k d lt. All-contains (IsSeatAt deques) seats (get_or ordered k d) are.2 (same.1 k d lt) in
      let many : length deques ≡ length ordered = are.1 ∙ sym same.0 in
      let own : deques ≡ map (λ (s : Account T). s.own) ordered = same_lists deques (map (λ (s : Account T). s.own) ordered) (many ∙ sym (length-map ordered (λ (s : Account T). s.own))) (own_at deques ordered all same.2 many) in
      λ k d lt. (all k d lt).0 ∙ own

  -- a seat that is used stays with the others
  pub together_set : (seats : List (Account T)) (i : ℕ) (d s : Account T) → i < length seats → IsSeatOf (get_or seats i d) s → AreTogether seats → AreTogether (set seats i s)
  together_set seats i d s lt of are =
      let was = are.2 i d lt in
      let here : IsSeatAt are.0 s = (of.2 ∙ was.0, of.1 ∙ (was.1 ∙ (ap (λ n. get_or are.0 n (get_or seats i d).own) (sym of.0) ∙ ap (λ e. get_or are.0 s.worker e) (sym of.1)))) in (
        are.0,
        are.1 ∙ sym (length-set seats i s),
        All-set (IsSeatAt are.0) seats i s here are.2,
        λ k in'. subst (λ l. Contains l k) (sym (map_kept (λ (t : Account T). t.worker) seats i d s of.0)) (are.3 k (omega (arith, in', length-set seats i s))),
      )

  -- all seats in another order
  pub together_turned : (seats : List (Account T)) → AreTogether seats → AreTogether (reverse seats)
  together_turned seats are = (
    are.0,
    are.1 ∙ sym (length-reverse seats),
    (λ k d lt. subst (λ s. IsSeatAt are.0 s) (sym (get_or-reverse seats k d (omega (arith, lt, length-reverse seats)))) (are.2 (length seats - 1 - k) d (omega (arith, lt, length-reverse seats)))),
    λ k lt. subst (λ l. Contains l k) (sym (map_turned (λ (s : Account T). s.worker) seats)) (contains_turned (map (λ s. s.worker) seats) k (are.3 k (omega (arith, lt, length-reverse seats)))),
  )
