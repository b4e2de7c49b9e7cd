-- What a seat takes, step by step.
use Rattle.std.proofs.Common.{◌≡◌, ℕ, zero, suc, ◌<◌, List, [], ◌∷◌, ◌++◌, inl, inr, ⊎_elim, Option, None, Some, MatchOption, Result, Ok, Err, MatchResult, length, map, set, get_or, sym, ap, ◌∙◌, subst}
use Rattle.std.proofs.lemmas.List.{map-set, length-map, get_or-map}
use Rattle.task_queue.specs.Account.{Account}
use Rattle.task_queue.specs.Accounts.{IsSeatOf, IsSame, HasPut, IsOneMore, HasTaken}
use Rattle.task_queue.proofs.Fairs.{map_kept}

-- what one write makes of all lists
pub one_written : {X T : Type 0} (f : X → List T) (xs : List X) (i : ℕ) (d y : X) → i < length xs → (o : Option T) → MatchOption o (f y ≡ f (get_or xs i d)) (λ x. f y ≡ f (get_or xs i d) ++ x ∷ [])
    → MatchOption o (map f (set xs i y) ≡ map f xs) (λ x. IsOneMore (map f xs) x (map f (set xs i y)))
one_written f xs i d y lt None same = map_kept f xs i d y same
one_written f xs i d y lt (Some x) more = (
  i,
  subst (λ n. i < n) (sym (length-map xs f)) lt,
  map-set f xs i y ∙ ap (λ l. set (map f xs) i l) (more ∙ ap (λ l. l ++ x ∷ []) (sym (get_or-map f xs i d [] lt))),
)

module _ {T : Type 0} where
  pub same_trans : (a b c : Account T) → IsSame a b → IsSame b c → IsSame a c
  same_trans a b c p q = ((q.0.0 ∙ p.0.0, q.0.1 ∙ p.0.1, q.0.2 ∙ p.0.2), q.1 ∙ p.1, q.2 ∙ p.2, q.3 ∙ p.3)

  pub taken_then : (a b c : Account T) (x : T) → IsSame a b → HasTaken b x c → HasTaken a x c
  taken_then a b c x p q = (
    (q.0.0 ∙ p.0.0, q.0.1 ∙ p.0.1, q.0.2 ∙ p.0.2),
    q.1 ∙ p.1,
    ⊎_elim (λ (e : (c.popped ≡ b.popped ++ x ∷ []) × (c.stolen ≡ b.stolen)). inl (e.0 ∙ ap (λ l. l ++ x ∷ []) p.2, e.1 ∙ p.3))
        (λ (e : (c.popped ≡ b.popped) × IsOneMore b.stolen x c.stolen). inr (e.0 ∙ p.2, subst (λ l. IsOneMore l x c.stolen) p.3 e.1)) q.2,
  )

  -- whatever a put or a take answers, the seat is the same
  pub seat_after_put : {U : Type 0} (a b : Account T) (x : T) (r : Result U T) → MatchResult r (λ _. HasPut a x b) (λ y. (y ≡ x) × IsSame a b) → IsSeatOf a b
  seat_after_put a b x (Ok u) e = e.0
  seat_after_put a b x (Err y) e = e.1.0

  pub seat_after_take : (a b : Account T) (o : Option T) → MatchOption o (IsSame a b) (λ x. HasTaken a x b) → IsSeatOf a b
  seat_after_take a b None e = e.0
  seat_after_take a b (Some x) e = e.0
