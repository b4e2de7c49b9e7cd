-- A born task that leads to its end has each of its own drops before it at most once.
use Rattle.std.proofs.Common.{◌≡◌, ◌≤◌, ℕ, ◌+◌, ◌==◌, Bool, true, false, ◌&&◌, not, cond, List, [], ◌∷◌, ◌++◌, map, drop, Option, Some, refl, sym, ap, subst, ◌∙◌, inl, inr, arith}
use Rattle.std.specs.Prelude.{filter, filter_map, flat_map}
use Rattle.std.proofs.lemmas.Bool.{cases_Bool, eqb-true, eq-eqb, true≢false}
use Rattle.phase_modes.specs.declared.limits.Limits.{Limits}
use Rattle.phase_model.specs.Tasks.{is_live}
use Rattle.finish_core.specs.declared.event.FinishEvent.TheVariants.{Ended, Shut as Shutting}
use Rattle.world_model.specs.declared.event.Step.TheVariants.{Drop}
use Rattle.world_model.specs.declared.event.Begun.TheVariants.{End}
use Rattle.world_model.specs.declared.event.WorldEvent.{WorldEvent}
use Rattle.world_model.specs.declared.event.WorldEvent.TheVariants.{Phaser, Finish, Begin, Refuse, Fail}
use Rattle.world_model.specs.Parts.{phaser_past}
use Rattle.world_model.specs.Tasks.{is_born, home, phasers_of}
use Rattle.world_model.specs.Scopes.{open_finishes}
use Rattle.world_model.specs.Due.{due, fixed, is_entry, ending, drops_due, unborn, named_by}
use Rattle.world_model.specs.Replies.{is_legal_world, is_accepted}
use Rattle.world_model.specs.TaskConditions.{last_entry}
use Rattle.world_model.proofs.MadeMeans.{last_accepted}
use Rattle.world_model.proofs.DueHolds.{due_has}
use Rattle.world_model.proofs.PhasersOnce.{times, phasers_once}
use Rattle.world_model.proofs.PassesInTurns.{entry_born, unborn_none}

abbrev pub is_drop_of : ℕ → ℕ → WorldEvent → Bool
is_drop_of t n (Phaser m (Drop u)) = m == n && u == t
is_drop_of t n _ = false

-- how often t's drop from n is among them
abbrev pub drops_on : ℕ → ℕ → List WorldEvent → ℕ
drops_on t n [] = 0
drops_on t n (d ∷ ds) = cond (is_drop_of t n d) (drops_on t n ds + 1) (drops_on t n ds)

add_under : (b : Bool) (x y : ℕ) → cond b ((x + y) + 1) (x + y) ≡ cond b (x + 1) x + y
add_under true x y = omega arith
add_under false x y = refl

pub drops-append : (t n : ℕ) (xs ys : List WorldEvent) → drops_on t n (xs ++ ys) ≡ drops_on t n xs + drops_on t n ys
drops-append t n [] ys = omega arith
drops-append t n (x ∷ xs) ys = rw (drops-append t n xs ys) (add_under (is_drop_of t n x) (drops_on t n xs) (drops_on t n ys))

and_self : (b : Bool) (x y : ℕ) → x ≡ y → cond (b && true) (x + 1) x ≡ cond b (y + 1) y
and_self true x y e = ap (λ v. v + 1) e
and_self false x y e = e

pub own_drops : (t n : ℕ) (ms : List ℕ) → drops_on t n (map (λ m. Phaser m (Drop t)) ms) ≡ times n ms
own_drops t n [] = refl
own_drops t n (m ∷ ms) =
    ap (λ b. cond (m == n && b) (drops_on t n (map (λ i. Phaser i (Drop t)) ms) + 1) (drops_on t n (map (λ i. Phaser i (Drop t)) ms))) (eq-eqb t t refl)
    ∙ and_self (m == n) (drops_on t n (map (λ i. Phaser i (Drop t)) ms)) (times n ms) (own_drops t n ms)

and_never : (b : Bool) (x : ℕ) → cond (b && false) (x + 1) x ≡ x
and_never true x = refl
and_never false x = refl

others_drops : (t u n : ℕ) (ms : List ℕ) → (u == t) ≡ false → drops_on t n (map (λ m. Phaser m (Drop u)) ms) ≡ 0
others_drops t u n [] e = refl
others_drops t u n (m ∷ ms) e =
    ap (λ b. cond (m == n && b) (drops_on t n (map (λ i. Phaser i (Drop u)) ms) + 1) (drops_on t n (map (λ i. Phaser i (Drop u)) ms))) e
    ∙ (and_never (m == n) (drops_on t n (map (λ i. Phaser i (Drop u)) ms)) ∙ others_drops t u n ms e)

shuts_none : (t n : ℕ) (fs : List ℕ) → drops_on t n (map (λ f. Finish f Shutting) fs) ≡ 0
shuts_none t n [] = refl
shuts_none t n (f ∷ fs) = shuts_none t n fs

end_none : (t n : ℕ) (b : Bool) (h : ℕ) → drops_on t n (cond b (Finish 0 Shutting) (Finish h (Ended t)) ∷ []) ≡ 0
end_none t n true h = refl
end_none t n false h = refl

ending_once : (t n : ℕ) (w : List WorldEvent) → drops_on t n (ending t w) ≡ times n (phasers_of t w)
ending_once t n w =
    let shuts = map (λ f. Finish f Shutting) (open_finishes t w) in
    let last = cond (t == 0) (Finish 0 Shutting) (Finish (home t w) (Ended t)) ∷ [] in
    let a : drops_on t n (ending t w) ≡ drops_on t n (drops_due t w ++ shuts) + drops_on t n last = drops-append t n (drops_due t w ++ shuts) last in
    let b : drops_on t n (drops_due t w ++ shuts) ≡ drops_on t n (drops_due t w) + drops_on t n shuts = drops-append t n (drops_due t w) shuts in
    omega (arith, a, b, own_drops t n (phasers_of t w), shuts_none t n (open_finishes t w), end_none t n (t == 0) (home t w))

-- the children that a born task leaves half spawned are others
children_none : (t n : ℕ) (w : List WorldEvent) (xs : List ℕ) → is_born t w ≡ true → drops_on t n (flat_map (λ c. drops_due c w) (filter (λ c. not (is_born c w)) xs)) ≡ 0
children_none t n w [] b = refl
children_none t n w (x ∷ xs) b =
    let rest = flat_map (λ c. drops_due c w) (filter (λ c. not (is_born c w)) xs) in
    elim (cases_Bool (is_born x w)) [
      | inl e ↦ rw e (children_none t n w xs b)
      | inr e ↦
          let other : (x == t) ≡ false = apart e in
          let both : drops_on t n (drops_due x w ++ rest) ≡ drops_on t n (drops_due x w) + drops_on t n rest = drops-append t n (drops_due x w) rest in
          let all : drops_on t n (drops_due x w ++ rest) ≡ 0 = omega (arith, both, others_drops t x n (phasers_of x w) other, children_none t n w xs b) in
          rw e all
    ]
  where
    apart : is_born x w ≡ false → (x == t) ≡ false
    apart e = elim (cases_Bool (x == t)) [
      | inl k ↦ absurd (true≢false (sym b ∙ subst (λ v. is_born v w ≡ false) (eqb-true x t k) e))
      | inr k ↦ k
    ]

-- the entry leads to the task's end
abbrev pub leads_to_end : Option WorldEvent → Bool
leads_to_end (Some (Begin u End)) = true
leads_to_end (Some (Refuse u a n)) = true
leads_to_end (Some (Fail u n)) = true
leads_to_end _ = false

at_most : (b : Bool) → cond b 1 0 ≤ 1
at_most true = omega arith
at_most false = omega arith

module _ (l : Limits) (t n : ℕ) where
  own_once : (w : List WorldEvent) → is_legal_world l w ≡ true → times n (phasers_of t w) ≤ 1
  own_once w k = subst (λ x. x ≤ 1) (sym (phasers_once l w k t n)) (at_most (is_live t (phaser_past n w)))

  ends_once : (u : ℕ) (w : List WorldEvent) → (u == t) ≡ true → is_legal_world l w ≡ true → drops_on t n (ending u w) ≤ 1
  ends_once u w e k =
      let here : drops_on t n (ending u w) ≡ times n (phasers_of t w) = ap (λ v. drops_on t n (ending v w)) (eqb-true u t e) ∙ ending_once t n w in
      omega (arith, here, own_once w k)

  entry_drops : (e : WorldEvent) (w : List WorldEvent) → is_legal_world l (e ∷ w) ≡ true → is_entry t e ≡ true → leads_to_end (Some e) ≡ true → drops_on t n (fixed e w) ≤ 1
  entry_drops (Begin u End) w k h q = ends_once u w h (last_accepted l (Begin u End) w k).1
  entry_drops (Refuse u a i) w k h q = ends_once u w h (last_accepted l (Refuse u a i) w k).1
  entry_drops (Fail u i) w k h q =
      let a = last_accepted l (Fail u i) w k in
      let born : is_born t w ≡ true = entered (Fail u i) a.0 h a.1 in
      let xs = flat_map (λ c. drops_due c w) (unborn u w) in
      let both : drops_on t n (xs ++ ending u w) ≡ drops_on t n xs + drops_on t n (ending u w) = drops-append t n xs (ending u w) in
      omega (arith, both, children_none t n w (filter_map (named_by u) w) born, ends_once u w h a.1)
    where
      entered : (e : WorldEvent) → is_accepted l w e ≡ true → is_entry t e ≡ true → is_legal_world l w ≡ true → is_born t w ≡ true
      entered e a i k = elim (cases_Bool (is_born t w)) [
        | inl b ↦ b
        | inr b ↦ entry_born l w t e a i (unborn_none l t w k b)
      ]
  entry_drops (Begin u b) w k h q = absurd cc
  entry_drops (Phaser m s) w k h q = absurd cc
  entry_drops (Finish f s) w k h q = absurd cc

  less_drops : (ds : List WorldEvent) → drops_on t n ds ≤ 1 → drops_on t n (drop 1 ds) ≤ 1
  less_drops [] p = p
  less_drops (d ∷ ds) p = fewer (is_drop_of t n d) (drops_on t n ds) p
    where
      fewer : (b : Bool) (x : ℕ) → cond b (x + 1) x ≤ 1 → x ≤ 1
      fewer true x h = omega (arith, h)
      fewer false x h = h

  nothing_once : 0 ≤ 1
  nothing_once = omega arith

  pub drops_once : (w : List WorldEvent) → is_legal_world l w ≡ true → leads_to_end (last_entry t w) ≡ true → drops_on t n (due t w) ≤ 1
  drops_once w k q = due_has l t leads_to_end (λ ds. drops_on t n ds ≤ 1) nothing_once less_drops entry_drops w k q
