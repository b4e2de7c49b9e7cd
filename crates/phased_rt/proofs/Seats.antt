-- The seats that workers hand back are together as those that were given out.
use Rattle.std.proofs.Common.{◌≡◌, ℕ, ◌<◌, List, [], ◌∷◌, ◌++◌, Result, Ok, length, map, get_or, sym, ap, subst, ◌∙◌, arith}
use Rattle.std.specs.Prelude.{IfOk}
use Rattle.std.specs.List.{Contains}
use Rattle.std.proofs.lemmas.List.{length-map, map-append, get_or-map}
use Rattle.task_queue.specs.Account.{Account}
use Rattle.task_queue.specs.Accounts.{IsSeatOf, AreTogether}
use Rattle.phased_rt.specs.inner.Back.{AreBack, AreSeatsIn}

abbrev answer : (W E : Type 0) → W → Result W E
answer W E w = Ok w

module _ {T : Type 0} where
  -- each worker's is among them still
  have_back : (given back : List (Account T)) → AreBack given back → (k : ℕ) → Contains (map (λ (s : Account T). s.worker) given) k → Contains (map (λ (s : Account T). s.worker) back) k
  have_back [] back are k have = absurd (omega (arith, have.1))
  have_back (x ∷ xs) back are k have =
      let worker : Account T → ℕ = λ s. s.worker in
      let inside : have.0 < length (x ∷ xs) = omega (arith, have.1, length-map (x ∷ xs) worker) in
      let there : have.0 < length back = omega (arith, inside, are.as_many) in (
        have.0,
        omega (arith, there, length-map back worker),
        get_or-map worker back have.0 x k there
            ∙ ((are.each have.0 x x inside).0 ∙ (sym (get_or-map worker (x ∷ xs) have.0 x k inside) ∙ have.2)),
      )

  -- seats that were used stay together
  pub together_back : (given back : List (Account T)) → AreBack given back → AreTogether given → AreTogether back
  together_back given back are together = (
    together.0,
    together.1 ∙ sym are.as_many,
    (λ k d lt.
        let inside : k < length given = omega (arith, lt, are.as_many) in
        let was = together.2 k d inside in
        let of = are.each k d d inside in
        let s = get_or back k d in
        (of.2 ∙ was.0, of.1 ∙ (was.1 ∙ (ap (λ n. get_or together.0 n (get_or given k d).own) (sym of.0) ∙ ap (λ e. get_or together.0 s.worker e) (sym of.1))))),
    λ k lt. have_back given back are k (together.3 k (omega (arith, lt, are.as_many))),
  )

  at_place : {W E : Type 0} (seat : W → Account T) (staff ws : List W) (k : ℕ) (d d' : Account T) → length ws ≡ length staff → k < length staff
      → ((i : ℕ) (x : W) (r : Result W E) → i < length staff → IfOk (get_or (map (λ (w : W). Ok w) ws) i r) (λ w. IsSeatOf (seat (get_or staff i x)) (seat w)))
      → IsSeatOf (get_or (map seat staff) k d) (get_or (map seat ws) k d')
  at_place seat [] ws k d d' many lt each = absurd (omega arith)
  at_place seat (x ∷ xs) [] k d d' many lt each = absurd (omega arith)
  at_place {W} {E} seat (x ∷ xs) (y ∷ ys) k d d' many lt each =
      let there : k < length (y ∷ ys) = omega (arith, many, lt) in
      let answered : Result W E → Type 0 = λ r. IfOk r (λ w. IsSeatOf (seat (get_or (x ∷ xs) k x)) (seat w)) in
      let same : IsSeatOf (seat (get_or (x ∷ xs) k x)) (seat (get_or (y ∷ ys) k y)) =
      subst answered (get_or-map (λ (w : W). Ok w) (y ∷ ys) k y (Ok y) there) (each k x (Ok y) lt)
      in
      subst (λ s. IsSeatOf s (get_or (map seat (y ∷ ys)) k d')) (sym (get_or-map seat (x ∷ xs) k x d lt))
      (subst (λ s. IsSeatOf (seat (get_or (x ∷ xs) k x)) s) (sym (get_or-map seat (y ∷ ys) k y d' there)) same)

  -- those that come back with the workers' answers, each of the same worker
  pub back_from : {W E : Type 0} (seat : W → Account T) (staff : List W) (rs : List (Result W E)) (back : List (Account T))
      → length rs ≡ length staff
      → AreSeatsIn seat rs back
      → ((i : ℕ) (d : W) (r : Result W E) → i < length staff → IfOk (get_or rs i r) (λ w. IsSeatOf (seat (get_or staff i d)) (seat w)))
      → AreBack (map seat staff) back
  back_from {W} {E} seat staff rs back many are each =
      let as_many : length are.0 ≡ length staff = omega (arith, ap (λ (l : List (Result W E)). length l) are.1, length-map are.0 (answer W E), many) in
      let answered = subst (λ (l : List (Result W E)). (i : ℕ) (d : W) (r : Result W E) → i < length staff → IfOk (get_or l i r) (λ w. IsSeatOf (seat (get_or staff i d)) (seat w))) are.1 each in
      subst (λ l. AreBack (map seat staff) l) (sym are.2)
      (record {
        as_many = omega (arith, length-map are.0 seat, length-map staff seat, as_many);
        each = λ k d d' lt. at_place seat staff are.0 k d d' as_many (omega (arith, lt, length-map staff seat)) answered;
      })

  -- one more that has answered
  pub one_more_in : {W E : Type 0} (seat : W → Account T) (rs rs' : List (Result W E)) (seats seats' : List (Account T)) (w : W)
      → rs' ≡ rs ++ Ok w ∷ [] → seats' ≡ seats ++ seat w ∷ [] → AreSeatsIn seat rs seats → AreSeatsIn seat rs' seats'
  one_more_in {W} {E} seat rs rs' seats seats' w more here are = (
    are.0 ++ w ∷ [],
    more ∙ (ap (λ (l : List (Result W E)). l ++ Ok w ∷ []) are.1 ∙ sym (map-append (answer W E) are.0 (w ∷ []))),
    here ∙ (ap (λ l. l ++ seat w ∷ []) are.2 ∙ sym (map-append seat are.0 (w ∷ []))),
  )
